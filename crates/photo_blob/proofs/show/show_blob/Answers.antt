use Rattle.photo_blob.proofs.BlobFiles.{container_of}
use Rattle.photo_blob.proofs.show.show_blob.Goals as goal

pub show_container-requires : goal.show_container-requires
show_container-requires c =
    record { stands = (c.requires.blob.0, container_of c.args.blob.now c.requires.blob.0 c.if-mark-eq-PLAIN.false c.requires.blob.1) }

pub returns : goal.returns
returns c = record {
  shown = λ file is. c.show_container.ensures.shown file (container_of c.args.blob.now file c.if-mark-eq-PLAIN.false is);
}
