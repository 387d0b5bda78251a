use Rattle.std.proofs.Common.{List, ℕ, subst, sym}
use Rattle.container_spec.specs.Chunks.{IsChunkOf}
use Rattle.lepton_c.specs.Gives.{ChunkRefuses}
use Rattle.lepton_c.proofs.Made.{gives_made}
use Rattle.lepton_c.proofs.encoding.chunk.Goals as goal

pub returns-in-Ok : goal.returns-in-Ok
returns-in-Ok c =
    let Makes : List ℕ → Type 0 =
    λ made. IsChunkOf c.args.segments c.args.size c.args.index made c.args.bytes.now in
    gives_made Makes (ChunkRefuses c.args.index c.args.size c.args.segments c.args.bytes.now)
    c.args.out.now c.put_made.new.out c.as_slice.result.now c.put_made.result
    (subst Makes (sym c.as_slice.ensures.value) c.in-Ok.ensures.made) c.put_made.ensures
