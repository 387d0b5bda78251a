-- The same bits are taken from a cursor wherever the unit of the bit before stood.
use Rattle.std.proofs.Common.{◌≡◌, ℕ, Bool, List, [], ◌∷◌, refl, sym, ap, ap₂, ◌∙◌, subst}
use Rattle.bit_list.specs.Units.{Cursor, filled, bit_at, bits_at}
use Rattle.bit_list.proofs.Cursors.{bits_left}
use Rattle.scan_spec.proofs.BitsTaken.{Takes, takes_none, takes_split, takes_then, done, is_both}
use Rattle.cut_spec.proofs.BitsOn.{standing, one_bit, one_on, stands}

-- these bits, and then a cursor with a last unit somewhere
abbrev TakesAlike : List ℕ → Cursor → List Bool → Cursor → Type 0
TakesAlike bytes from bits to = (last : ℕ) × Takes bytes from bits (record to { last = last })

-- the first bit of a unit
fresh_alike : (bytes : List ℕ) (last other next : ℕ)
    → bits_at 1 bytes (standing [] other next) ≡ bits_at 1 bytes (standing [] last next)
unfolding bits_at bit_at filled
fresh_alike bytes last other next = refl

one_alike : (left : List Bool) (bytes : List ℕ) (last other next : ℕ) (bit : Bool) (to : Cursor)
    → Takes bytes (standing left last next) (bit ∷ []) to
    → TakesAlike bytes (standing left other next) (bit ∷ []) to
one_alike [] bytes last other next bit to e = (to.last, fresh_alike bytes last other next ∙ e)
one_alike (first ∷ left) bytes last other next bit to e =
    let o = one_bit (first ∷ left) bytes last next bit to e in
    let at : standing left other next ≡ record to { last = other } =
    ap (λ (c : Cursor). record c { last = other }) (sym o.1) in (
      other,
      bits_left (first ∷ []) left bytes 0 other next
          ∙ ap₂ (λ (b : Bool) (c : Cursor). done {A = List Bool × Cursor} (b ∷ [], c)) o.0 at,
    )

next_alike : (bytes : List ℕ) (from to : Cursor) (other : ℕ) (bit : Bool) → from.skip ≡ 0
    → Takes bytes from (bit ∷ []) to → TakesAlike bytes (record from { last = other }) (bit ∷ []) to
next_alike bytes from to other bit skip e =
    let begin : ℕ → ℕ → Cursor = λ k last.
    record { left = from.left; skip = k; last = last; next = from.next } in
    let e0 : Takes bytes (begin 0 from.last) (bit ∷ []) to =
    subst (λ (k : ℕ). Takes bytes (begin k from.last) (bit ∷ []) to) skip e in
    subst (λ (k : ℕ). TakesAlike bytes (begin k other) (bit ∷ []) to) (sym skip)
    (one_alike from.left bytes from.last other from.next bit to e0)

pub bits_alike : (bits : List Bool) (bytes : List ℕ) (from to : Cursor) (other : ℕ) → from.skip ≡ 0
    → Takes bytes from bits to → TakesAlike bytes (record from { last = other }) bits to
bits_alike [] bytes from to other skip e =
    let v = is_both {A = List Bool} {B = Cursor} ([], from) ([], to)
    (sym (takes_none bytes from) ∙ e) in (
      other,
      takes_none bytes (record from { last = other })
          ∙ ap (λ (c : Cursor). done {A = List Bool × Cursor} ([], record c { last = other })) v.1,
    )
bits_alike (bit ∷ bits) bytes from to other skip e =
    let s = takes_split bytes from to (bit ∷ []) bits e in
    let on = one_on from.left bytes from.last from.next bit s.0
    (stands bytes from s.0 bit skip s.1) in
    let a = next_alike bytes from s.0 other bit skip s.1 in
    let b = bits_alike bits bytes s.0 to a.0 on.0 s.2 in (
      b.0,
      takes_then bytes (record from { last = other }) (record s.0 { last = a.0 })
          (record to { last = b.0 }) (bit ∷ []) bits a.1 b.1,
    )
