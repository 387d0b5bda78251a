use Rattle.std.proofs.Common.{◌≡◌, ℕ, ◌++◌, ap, sym, ◌∙◌, append-nil, arith}
use Rattle.bit_list.specs.Bits.{bits_of, low_bits}
use Rattle.scan_spec.specs.Pads.{pad_list}
use Rattle.segment_code.specs.FoundPads.{FoundPads}
use Rattle.segment_code.specs.declared.pads.PadsFound.TheInside.{Inside}
use Rattle.segment_code.proofs.PadsPacked.{begun_list, whole_list}
use Rattle.segment_code.proofs.pads.PadsFound.list.Goals.{then-self-gt0+in_ok-push, else-self-gt0}
use Rattle.segment_code.proofs.pads.PadsFound.list.Goals as goal

pub returns : goal.returns
returns c =
    let s = c.self.inside in
    let kept = c.self.invariant.begun in
    let told = ap (λ (p : FoundPads). pad_list p.bits) c.self.view_is in
    elim c.if-self-gt0.branch [
      | then-self-gt0+in_ok-push w ↦ ap (λ (i : Inside). i.bytes.items) w.self-inside-is
          ∙ w.in_ok-push.ensures.items
          ∙ begun_list s.bytes.items s.begun s.count c.self.invariant.bytes kept.below
          w.if-self-gt0.true kept.few ∙ told
      | else-self-gt0 w ↦
          let none : s.count ≡ 0 = let h = w.if-self-gt0.false in omega (arith, h) in
          ap (λ (i : Inside). i.bytes.items) w.self-inside-is
          ∙ whole_list s.bytes.items c.self.invariant.bytes
          ∙ ap pad_list (sym (append-nil (bits_of s.bytes.items))
          ∙ ap (λ (n : ℕ). bits_of s.bytes.items ++ low_bits n s.begun) (sym none)) ∙ told
    ]
