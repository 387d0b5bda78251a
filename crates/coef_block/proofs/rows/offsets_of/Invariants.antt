use Rattle.std.proofs.Common.{◌≡◌, ◌<◌, ℕ, length, slice_index}
use Rattle.coef_block.specs.BlockRows.{Extents, offset}
use Rattle.coef_block.proofs.rows.offsets_of.Given as goal

abbrev pub invariant-loop-component : goal.invariant-loop-component
invariant-loop-component l =
    let e : Extents = record { widths = l.widths; heights = l.heights } in
    record {
      long : length l.offsets ≡ 4;
      count : l.count ≡ offset e l.component;
      offsets : (component : ℕ) → component < l.component → slice_index l.offsets component ≡ offset e component;
    }
