use Rattle.std.proofs.Common.{◌≡◌, ℕ, ◌*◌, ◌/◌, ◌^◌, ◌<◌, ◌∙◌, sym, inl, inr, arith}
use Rattle.std.specs.Prelude.{nat_le}
use Rattle.std.proofs.lemmas.Bool.{cases_lt, le-leb, lt-leb}
use Rattle.std.proofs.lemmas.Nat.{pow_pos, shl_whole, le-div, div_below}
use Rattle.bool_coder.specs.BoolStream.{split}
use Rattle.bool_coder.proofs.decoder.is_one.Goals as goal

-- a multiple is no more than a number exactly if its factor is no more than the quotient
multiple : (s v p : ℕ) → 0 < p → nat_le (s * p) v ≡ nat_le s (v / p)
multiple s v p some = elim (cases_lt v (s * p)) [
  | inl below ↦ lt-leb (s * p) v below ∙ sym (lt-leb s (v / p) (div_below v p s some below))
  | inr least ↦ le-leb (s * p) v least ∙ sym (le-leb s (v / p) (le-div s v p some least))
]

pub returns : goal.returns
returns c =
    let same : c.from.result ≡ split c.args.range c.args.prob = omega arith in
    rw (same, shl_whole (split c.args.range c.args.prob) 8 c.args.bits 64 (omega arith) (omega arith))
    (multiple (split c.args.range c.args.prob) c.args.value (2 ^ c.args.bits) (pow_pos c.args.bits))
