use Rattle.std.proofs.Common.{◌≡◌, ℕ, Bool, List, ◌++◌, ◌∷◌, [], ◌*◌, ◌+◌, ap, ◌∙◌}
use Rattle.std.specs.Prelude.{true, false, unwrap_or}
use Rattle.bit_list.specs.Bits.{bits_of, low_bits}
use Rattle.segment_code.specs.FoundPads.{FoundPads}
use Rattle.segment_code.specs.declared.pads.PadsFound.TheInside.{Inside}
use Rattle.segment_code.proofs.PadsPacked.{bit_added, byte_filled, number_of_bit}
use Rattle.segment_code.proofs.pads.PadsFound.push.Goals.{then-self-eq7+in_ok-push, else-self-eq7}
use Rattle.segment_code.proofs.pads.PadsFound.push.Goals as goal
use mir.Val.{bool_byte}

is_number : (n : ℕ) (bit : Bool) → n ≡ bool_byte bit → n ≡ number_of_bit bit
is_number n true e = e
is_number n false e = e

pub returns-clause-bits : goal.returns-clause-bits
returns-clause-bits c =
    let bit = unwrap_or c.args.pad true in
    let byte = c.self.inside.begun in
    let made : byte * 2 + c.from.result ≡ byte * 2 + number_of_bit bit =
    ap (λ (n : ℕ). byte * 2 + n) (is_number c.from.result c.unwrap_or.result c.from.ensures
    ∙ ap number_of_bit c.unwrap_or.ensures) in
    let before = ap (λ (p : FoundPads). p.bits ++ bit ∷ []) c.self.view_is in
    elim c.if-self-eq7.branch [
      | then-self-eq7+in_ok-push w ↦ ap (λ (s : Inside). bits_of s.bytes.items
          ++ low_bits s.count s.begun) w.self-inside-is
          ∙ ap (λ (l : List ℕ). bits_of l ++ []) (w.in_ok-push.ensures.items
          ∙ ap (λ (n : ℕ). c.self.inside.bytes.items ++ n ∷ []) made)
          ∙ byte_filled c.self.inside.bytes.items c.self.inside.count byte bit
          w.if-self-eq7.true ∙ before
      | else-self-eq7 w ↦ ap (λ (s : Inside). bits_of s.bytes.items ++ low_bits s.count s.begun)
          w.self-inside-is
          ∙ ap (λ (n : ℕ). bits_of c.self.inside.bytes.items
          ++ low_bits (c.self.inside.count + 1) n) made
          ∙ bit_added c.self.inside.bytes.items c.self.inside.count byte bit ∙ before
    ]
