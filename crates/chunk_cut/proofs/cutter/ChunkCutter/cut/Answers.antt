use Rattle.std.proofs.Common.{◌-◌, ◌≤◌, ◌++◌, ◌∙◌, ℕ, List, map, flat_map, drop, refl, sym, ap, ap₂, subst}
use Rattle.std.specs.Prelude.{min}
use Rattle.byte_window.specs.Slices.{slice}
use Rattle.box_format.specs.Single.{IsBox, box_bytes}
use Rattle.box_format.specs.declared.chunk.Chunk.{Chunk}
use Rattle.container_spec.specs.Chunks.{IsChunkOf}
use Rattle.chunk_cut.proofs.ChunksFound.{box, chunk_grid, found, is_box, is_chunk, rows_long}
use Rattle.chunk_cut.proofs.cutter.ChunkCutter.cut.Goals as goal

pub overflow_sub-chunk : goal.overflow_sub-chunk
overflow_sub-chunk g c =
    let i = c.self.inside in
    let has = c.self.invariant in
    subst (λ (at : Chunk). at.from ≤ at.to) (sym c.chunk_between-chunk.ensures)
    (chunk_grid i.plan i.bytes.now i.starts has.bytes has.plan has.starts has.rows c.in-Some.from c.in-Some.to).0

pub handovers_of-requires-clause-order : goal.handovers_of-requires-clause-order
handovers_of-requires-clause-order g c =
    let i = c.self.inside in
    let has = c.self.invariant in
    subst (λ (at : Chunk). at.from ≤ at.to) (sym c.chunk_between-chunk.ensures)
    (chunk_grid i.plan i.bytes.now i.starts has.bytes has.plan has.starts has.rows c.in-Some.from c.in-Some.to).0

pub handovers_of-requires-clause-grid : goal.handovers_of-requires-clause-grid
handovers_of-requires-clause-grid g c =
    let i = c.self.inside in
    let has = c.self.invariant in
    subst (λ (at : Chunk). at.to ≤ i.plan.down) (sym c.chunk_between-chunk.ensures)
    (chunk_grid i.plan i.bytes.now i.starts has.bytes has.plan has.starts has.rows c.in-Some.from c.in-Some.to).1

pub handovers_of-requires-clause-starts : goal.handovers_of-requires-clause-starts
handovers_of-requires-clause-starts g c =
    let i = c.self.inside in
    let has = c.self.invariant in
    rows_long i.plan i.bytes.now i.starts has.bytes has.plan has.starts has.rows

pub code_rows-requires-clause-order : goal.code_rows-requires-clause-order
code_rows-requires-clause-order g c =
    let i = c.self.inside in
    let has = c.self.invariant in
    subst (λ (at : Chunk). at.from ≤ at.to) (sym c.chunk_between-chunk.ensures)
    (chunk_grid i.plan i.bytes.now i.starts has.bytes has.plan has.starts has.rows c.in-Some.from c.in-Some.to).0

pub code_rows-requires-clause-grid : goal.code_rows-requires-clause-grid
code_rows-requires-clause-grid g c =
    let i = c.self.inside in
    let has = c.self.invariant in
    subst (λ (at : Chunk). at.to ≤ i.plan.down) (sym c.chunk_between-chunk.ensures)
    (chunk_grid i.plan i.bytes.now i.starts has.bytes has.plan has.starts has.rows c.in-Some.from c.in-Some.to).1

pub front_of-requires : goal.front_of-requires
front_of-requires g c =
    let i = c.self.inside in
    let has = c.self.invariant in
    let bytes = i.bytes.now in
    let have = has.starts in
    let from = c.in-Some.from in
    let to = c.in-Some.to in
    let streams = ap (map (λ v. v.items)) c.as_slice-2.ensures.value
    ∙ c.in_ok-streams.ensures have.mcus have.pads have.file have.are in
    let same = found i.plan bytes i.starts has.bytes has.plan have has.rows from to c.args.segments
    c.chunk_between-chunk.ensures
    (c.min-count.ensures ∙ ap (λ (n : ℕ). min n (c.chunk_between-chunk.result.to - c.chunk_between-chunk.result.from)) c.from.ensures)
    c.pad.ensures c.header_length.ensures c.split_at.ensures.front
    (c.trailer_between-trailer.ensures
    ∙ ap (λ (t : ℕ). slice (from - t) (to - t) (drop t bytes)) c.trailer.ensures)
    (c.as_slice.ensures.value ∙ c.in_ok-handovers.ensures) streams in
    let there = ap₂ (λ (a b : ℕ). box i.plan bytes i.starts has.bytes has.plan have has.rows a b c.args.segments)
    c.in-Some.ensures.from c.in-Some.ensures.to in (
      i.plan,
      subst (IsBox i.plan) (sym (same ∙ there))
          (is_box i.plan bytes i.starts has.bytes has.plan have has.rows c.args.segments c.args.size c.args.index
          has.few c.requires.some c.requires.few
          (rw (sym c.in-Some.ensures.from) c.in-Some.ensures.some)),
      refl,
    )

pub returns-clause-made : goal.returns-clause-made
returns-clause-made g c =
    let i = c.self.inside in
    let has = c.self.invariant in
    let bytes = i.bytes.now in
    let have = has.starts in
    let from = c.in-Some.from in
    let to = c.in-Some.to in
    let streams = ap (map (λ v. v.items)) c.as_slice-2.ensures.value
    ∙ c.in_ok-streams.ensures have.mcus have.pads have.file have.are in
    let same = found i.plan bytes i.starts has.bytes has.plan have has.rows from to c.args.segments
    c.chunk_between-chunk.ensures
    (c.min-count.ensures ∙ ap (λ (n : ℕ). min n (c.chunk_between-chunk.result.to - c.chunk_between-chunk.result.from)) c.from.ensures)
    c.pad.ensures c.header_length.ensures c.split_at.ensures.front
    (c.trailer_between-trailer.ensures
    ∙ ap (λ (t : ℕ). slice (from - t) (to - t) (drop t bytes)) c.trailer.ensures)
    (c.as_slice.ensures.value ∙ c.in_ok-handovers.ensures) streams in
    let there = ap₂ (λ (a b : ℕ). box i.plan bytes i.starts has.bytes has.plan have has.rows a b c.args.segments)
    c.in-Some.ensures.from c.in-Some.ensures.to in
    let made = is_chunk i.plan bytes i.starts has.bytes has.plan have has.rows c.args.segments c.args.size
    c.args.index has.few (rw (sym c.in-Some.ensures.from) c.in-Some.ensures.some) in
    let text = c.in_ok-made.ensures
    ∙ ap (λ (l : List (List ℕ)). c.in_ok-front.front.items ++ flat_map (λ stream. stream) l)
    (ap (map (λ v. v.items)) (sym c.as_slice-2.ensures.value))
    ∙ c.in_ok-front.ensures ∙ ap box_bytes (same ∙ there) in
    subst (IsChunkOf c.args.segments c.args.size c.args.index c.in_ok-made.made.items)
    c.self.view_is
    (subst (λ (m : List ℕ). IsChunkOf c.args.segments c.args.size c.args.index m bytes)
    (sym text) made)
