-- The portion that a container stands for.
use Rattle.std.proofs.Common.{◌≡◌, ℕ, List, sym, ap, Option, Some}
use Rattle.std.proofs.lemmas.List.{drop-take}
use Rattle.byte_window.specs.Windows.{window}
use Rattle.box_format.specs.Parts.{BoxSeen, header_part}
use Rattle.box_format.specs.declared.chunk.Chunk.{Chunk}
use Rattle.container_spec.specs.Portions.{meaning_with, only_chunk, scans_meaning}

-- a chunk's part of a header, through a window
pub part_cut : (c : Chunk) (header : List ℕ)
    → window (record { skip = c.place; most = Some c.length }) header ≡ header_part c header
part_cut c header = sym (drop-take c.place c.length header)

-- what the scans stand for, by the chunk
pub meant_by : (scans : List BoxSeen) (c : Option Chunk) → c ≡ only_chunk scans
    → meaning_with c scans ≡ scans_meaning scans
unfolding scans_meaning
meant_by scans c e = ap (λ (k : Option Chunk). meaning_with k scans) e
