use Rattle.std.proofs.Common.{◌≡◌, ℕ, List, [], ◌∷◌, ap, ◌∙◌, ℤ}
use Rattle.std.specs.Prelude.{flat_map}
use Rattle.std.specs.Int.{w16, cast_unsigned}
use Rattle.byteorder.specs.Endian.{big_bytes}
use Rattle.handover.specs.HandoverBytes.{handover_bytes}
use Rattle.handover.proofs.FieldBytes.{four_of}
use Rattle.handover.proofs.handover.Handover.to_bytes.Goals as goal

abbrev pairs : List ℤ → List ℕ
pairs preds = flat_map (λ dc. big_bytes 2 (cast_unsigned w16 dc)) preds

pub returns : goal.returns
unfolding handover_bytes
returns c =
    let four = four_of c.self.inside.preds c.self.invariant.four in
    let shown : pairs c.self.inside.preds ≡ pairs (four.a ∷ four.b ∷ four.c ∷ four.d ∷ []) = ap pairs four.are in
    let d : c.write_i16_into.new.dst ≡ pairs (four.a ∷ four.b ∷ four.c ∷ four.d ∷ []) = c.write_i16_into.ensures ∙ shown in
    rw (← c.self.view_is) (rw (c.write_u32.ensures, d, shown))
