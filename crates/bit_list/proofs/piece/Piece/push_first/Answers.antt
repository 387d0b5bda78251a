use Rattle.std.proofs.Common.{◌≡◌, ◌+◌, ◌≤◌, ℕ, List, ◌++◌, length, take, sym, ap, ◌∙◌, arith, length-append}
use Rattle.std.specs.Int.{bytes_high_first}
use Rattle.std.proofs.Math.Seq.{take-append-add}
use Rattle.std.proofs.lemmas.List.{length-take-le, take-append-le, take-take}
use Rattle.bit_list.proofs.piece.Piece.push_first.Goals as goal

-- the first of the bytes that were stored after those before
stored : (room bytes after more : List ℕ) (used count most : ℕ) → used ≤ length room → count ≤ length bytes → used + count ≤ most
    → take (used + count) (take most ((take used room ++ (bytes ++ after)) ++ more)) ≡ take used room ++ take count bytes
stored room bytes after more used count most within few enough =
    let whole = take used room ++ (bytes ++ after) in
    let before = length-take-le used room within in
    let long = length-append (take used room) (bytes ++ after) in
    let longer = length-append bytes after in
    take-take (used + count) most (whole ++ more) enough
    ∙ take-append-le (used + count) whole more (omega (arith, before, long, longer, few))
    ∙ ap (λ (n : ℕ). take (n + count) whole) (sym before)
    ∙ take-append-add (take used room) (bytes ++ after) count
    ∙ ap (λ (bs : List ℕ). take used room ++ bs) (take-append-le count bytes after few)

pub returns : goal.returns
returns c =
    let i = c.self.inside in
    let bytes : c.copy_from_slice.new.self ≡ bytes_high_first 8 c.args.eight = c.copy_from_slice.ensures.after ∙ c.to_be_bytes.ensures in
    let room : c.deref_mut.result.now ≡ i.room.items = c.deref_mut.ensures.value in
    let within : i.used ≤ length i.room.items = omega (arith, c.self.invariant.0, c.self.invariant.1) in
    let used : i.used ≡ length c.args.self.now = sym (length-take-le i.used i.room.items within) ∙ ap length c.self.view_is in
    let len : i.room.len ≡ length i.room.items = sym c.deref_mut.ensures.len ∙ ap length room in
    let enough : i.used + c.args.count ≤ i.room.len = omega (arith, used, len, c.requires.room, c.self.invariant.0) in
    rw (bytes, room)
    (stored i.room.items (bytes_high_first 8 c.args.eight) _ _ i.used c.args.count i.room.len within c.requires.few enough
    ∙ ap (λ (bs : List ℕ). bs ++ take c.args.count (bytes_high_first 8 c.args.eight)) c.self.view_is)
