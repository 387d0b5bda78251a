use Rattle.std.proofs.Common.{[], inl, refl, List}
use Rattle.std.proofs.KnownBytes.{Appends-nil, Consumes-nil}
use Rattle.photo_store.specs.FileEntries.{AreSame}
use Rattle.photo_store.specs.FileStores.{FileCall, no_files}
use Rattle.store_run.specs.Kept.{HaveFiles}
use Rattle.store_run.specs.Records.{files_by}
use Rattle.store_run.proofs.KeptFiles.{kept_wider, same_have}
use Rattle.store_run.proofs.run.run_store.Goals as goal

pub returns-in-Err-clause-ends : goal.returns-in-Err-clause-ends
returns-in-Err-clause-ends g c = (
  [],
  [],
  record {
    whole = tt;
    read = Consumes-nil (g.S.Source.left c.args.source.now);
    wrote = Appends-nil (g.K.Sink.held c.args.sink.now);
  },
  inl (inl refl),
  refl,
  refl,
)

pub returns-clause-kept_files : goal.returns-clause-kept_files
returns-clause-kept_files g c =
    let view = c.serve-ending.new.caller.view in
    kept_wider g.S.Source.left g.K.Sink.held c.args.source.now c.serve-ending.new.source
    c.args.sink.now c.serve-ending.new.sink
    (λ (records : List FileCall). AreSame view.blobs view.mine (files_by no_files records))
    (HaveFiles (g.P.Keeper.blobs c.close.result))
    (λ records same. same_have view.blobs (g.P.Keeper.blobs c.close.result) view.mine records c.close.ensures.blobs same)
    c.serve-ending.result (c.serve-ending.ensures.kept c.close.ensures.sole)
