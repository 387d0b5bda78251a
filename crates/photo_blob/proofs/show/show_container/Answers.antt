use Rattle.std.proofs.Common.{◌++◌, List, ℕ, Err, ap, ap₂, ◌∙◌}
use Rattle.box_format.specs.declared.error.ReadError.{ReadError}
use Rattle.container_spec.specs.Meanings.{Meaning}
use Rattle.container_spec.specs.Portions.{scans_meaning}
use Rattle.photo_blob.proofs.ShownFiles.{fails_by_memory, meant, not_refused}
use Rattle.photo_blob.proofs.show.show_container.Goals as goal

pub unreachable-requires : goal.unreachable-requires
unreachable-requires c =
    not_refused c.args.bytes.now c.requires.stands.0 c.in-Err-Box.field-0-0 c.requires.stands.1
    (c.in-Err-Box.ensures.refused c.in-Err-Box.field-0-0
    (ap (λ (error : ReadError). Err error) c.in-Err-Box.field-0-is))

pub returns-in-Ok-run_alone : goal.returns-in-Ok-run_alone
returns-in-Ok-run_alone c = record {
  shown = λ file stands.
      let is = meant c.in-Ok.ready.scans c.args.bytes.now file c.in-Ok.ensures.ready stands in
      c.in-Ok-run_alone.ensures.ends.2.appended
      ∙ ap₂ (λ (start : List ℕ) (m : Meaning). start ++ m.bytes) c.new-grown.ensures.held is;
}

pub unreachable-requires-in-None : goal.unreachable-requires-in-None
unreachable-requires-in-None c =
    let file = c.requires.stands.0 in
    let is = meant c.in-Ok.ready.scans c.args.bytes.now file c.in-Ok.ensures.ready c.requires.stands.1 in
    fails_by_memory c.new-grown.result c.run_alone.new.sink (scans_meaning c.in-Ok.ready.scans) file c.in-Err.field-0 is
    c.in-Err.ensures.ends c.in-None.is
