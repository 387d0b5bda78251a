-- A block, or a fault, is spelled by the events of which it is read.
use Rattle.std.proofs.Common.{◌≡◌, ℕ, ◌<◌, ◌≤◌, true, false, List, [], ◌++◌, length, refl, sym, ap, ◌∙◌, subst, arith, ℤ, pos, unsigned_abs, Result, Ok, Err, append_assoc, append-nil}
use Rattle.std.specs.Prelude.{nat_lt, nat_le, if◌then◌else◌, ◌+ℤ◌, ◌-ℤ◌}
use Rattle.std.specs.List.{AllByRecursion}
use Rattle.std.proofs.lemmas.Bool.Decides.{nat_tests}
use Rattle.std.proofs.lemmas.Int.{ints}
use Rattle.coef_block.specs.Block.{IsDc, most_dc}
use Rattle.coef_block.specs.Categories.{category}
use Rattle.coef_context.specs.BinNumbers.{bin_number}
use Rattle.coef_context.specs.declared.context.Context.TheVariants.{InnerCount}
use Rattle.block_spec.specs.Values.{category_of, nonzeros, values_events}
use Rattle.block_spec.specs.Around.{Around, value_at, guess, prediction}
use Rattle.block_spec.specs.BlockEvents.{inner_bins, inner_count_events, edge_events, dc_events, ac_events, block_events}
use Rattle.block_spec.specs.ReadBlocks.{IsRead, residue_events}
use Rattle.block_spec.specs.declared.fault.BlockFault.{BlockFault}
use Rattle.block_spec.specs.declared.fault.BlockFault.TheVariants.{BlockCount, DcRange}
use Rattle.block_spec.proofs.BlocksOnce.{Parts, ArePaired}
use Rattle.block_spec.proofs.ValuesApart.{IsTen}
use Rattle.block_spec.specs.Asking.{Told}
use Rattle.block_spec.specs.AskedBlocks.{asked_count, asked_values, asked_edge, asked_residue, block_with, block_within, asked_coefficients, asked_block}
use Rattle.block_spec.proofs.Spelling.{Events, Spells, parted, told_last}
use Rattle.block_spec.proofs.NumbersSpelled.{count_spelled}
use Rattle.block_spec.proofs.ValuesSpelled.{residue_spelled}
use Rattle.block_spec.proofs.EdgesSpelled.{values_spelled, edge_spelled}
use Rattle.block_spec.proofs.PlacedValues.{HasParts, block_has, block_is}

abbrev parts_with : List ℤ → List ℤ → List ℤ → ℤ → Parts
parts_with inner row column residue =
    record { inner = inner; row = row; column = column; residue = residue }

are_parts : (inner row column : List ℤ) (residue : ℤ) → length inner ≡ 49 → length row ≡ 7
    → length column ≡ 7 → AllByRecursion IsTen inner → AllByRecursion IsTen row
    → AllByRecursion IsTen column → category_of residue ≤ 16
    → ArePaired (parts_with inner row column residue)
are_parts inner row column residue li lr lc ti tr tc few = record {
  inner = li;
  row = lr;
  column = lc;
  inner_tens = ti;
  row_tens = tr;
  column_tens = tc;
  residue = few;
}

abbrev edges : ℕ → Around → ℕ → List ℤ → List ℤ → Events
edges class around n row column =
    edge_events class false around n row ++ edge_events class true around n column

abbrev after_count : ℕ → Around → ℕ → List ℤ → List ℤ → List ℤ → ℤ → Events
after_count class around n inner row column residue =
    (values_events (inner_bins class around) 0 inner ++ edges class around n row column)
    ++ dc_events class around residue

abbrev all_events : ℕ → Around → List ℤ → List ℤ → List ℤ → ℤ → Events
all_events class around inner row column residue =
    inner_count_events class (guess around) (nonzeros inner)
    ++ after_count class around (nonzeros inner) inner row column residue

same_events : (class : ℕ) (around : Around) (a b c x y z : List ℤ) (r s : ℤ) → a ≡ x → b ≡ y
    → c ≡ z → r ≡ s → all_events class around a b c r ≡ all_events class around x y z s
same_events class around a b c x y z r s p q t u = rw (p, q, t, u) refl

residue_back : (dc prediction residue : ℤ) → dc ≡ prediction +ℤ residue → dc -ℤ prediction ≡ residue
residue_back dc prediction residue e = omega (arith, ints, e)

block_coded : (class : ℕ) (around : Around) (b : List ℤ) (p : Parts)
    → HasParts b (prediction around +ℤ p.residue) p.inner p.row p.column
    → block_events class around b ≡ all_events class around p.inner p.row p.column p.residue
unfolding block_events ac_events
block_coded class around b p has =
    same_events class around _ _ _ p.inner p.row p.column _ p.residue has.inner_is has.row_is
    has.column_is (residue_back (value_at b 0) (prediction around) p.residue has.dc_is)

residue_coded : (class : ℕ) (around : Around) (b : List ℤ) (dc : ℤ) (p : Parts)
    → HasParts b dc p.inner p.row p.column
    → residue_events class around b p.residue
    ≡ all_events class around p.inner p.row p.column p.residue
unfolding ac_events
residue_coded class around b dc p has =
    same_events class around _ _ _ p.inner p.row p.column p.residue p.residue has.inner_is
    has.row_is has.column_is refl

-- parts are read as a block, or as a fault of its DC
parts_read : (class : ℕ) (around : Around) (p : Parts) → ArePaired p →
    IsRead (λ es. es ≡ all_events class around p.inner p.row p.column p.residue) class around
    (block_within (prediction around +ℤ p.residue) p.inner p.row p.column)
parts_read class around p are =
    let dc : ℤ = prediction around +ℤ p.residue in
    let events : Events = all_events class around p.inner p.row p.column p.residue in
    elim (nat_le (unsigned_abs dc) most_dc) as (λ t. nat_le (unsigned_abs dc) most_dc ≡ t
    → IsRead (λ es. es ≡ events) class around
    (if t then Ok (block_with dc p.inner p.row p.column) else Err DcRange)) [
      | true ↦ λ e.
          let fits : IsDc dc = grind (arith, nat_tests) in (
            block_is dc p.inner p.row p.column fits are.inner_tens are.row_tens are.column_tens,
            block_coded class around (block_with dc p.inner p.row p.column) p
                (block_has dc p.inner p.row p.column are.inner are.row are.column),
          )
      | false ↦ λ e. record {
        block = block_with (pos 0) p.inner p.row p.column;
        residue = p.residue;
        is_block = block_is (pos 0) p.inner p.row p.column (omega arith) are.inner_tens are.row_tens
            are.column_tens;
        sixteen = are.residue;
        outside = λ fits. outside e fits;
        coded = residue_coded class around (block_with (pos 0) p.inner p.row p.column) (pos 0) p
            (block_has (pos 0) p.inner p.row p.column are.inner are.row are.column);
      }
    ] refl
  where
    outside : nat_le (unsigned_abs (prediction around +ℤ p.residue)) most_dc ≡ false
        → IsDc (prediction around +ℤ p.residue) → ⊥
    outside e fits = grind (arith, nat_tests)

-- lists one after another, each as it is
in_order : (events a b c d p q r none x y z w : Events) → events ≡ a ++ p → p ≡ b ++ q → q ≡ c ++ r
    → r ≡ d ++ none → none ≡ [] → a ≡ x → b ≡ y → c ≡ z → d ≡ w → events ≡ (x ++ (y ++ z)) ++ w
in_order events a b c d p q r none x y z w e f g h i j k l m =
    rw (e, f, g, h, i, append-nil, j, k, l, m) (simp append_assoc)

all_of : (class : ℕ) (around : Around) (n : ℕ) (p : Parts) (first rest : Events)
    → nonzeros p.inner ≡ n → first ≡ inner_count_events class (guess around) n
    → rest ≡ after_count class around n p.inner p.row p.column p.residue
    → all_events class around p.inner p.row p.column p.residue ≡ first ++ rest
all_of class around n p first rest count e f = rw (count, e, f) refl

read_as : (class : ℕ) (around : Around) (r : Result (List ℤ) BlockFault) (p : Parts)
    (events : Events) → ArePaired p
    → all_events class around p.inner p.row p.column p.residue ≡ events
    → block_within (prediction around +ℤ p.residue) p.inner p.row p.column ≡ r
    → IsRead (λ es. es ≡ events) class around r
read_as class around r p events are all same =
    let of_block : Result (List ℤ) BlockFault =
    block_within (prediction around +ℤ p.residue) p.inner p.row p.column in
    subst (λ (s : Result (List ℤ) BlockFault). IsRead (λ es. es ≡ events) class around s) same
    (subst (λ (xs : Events). IsRead (λ es. es ≡ xs) class around of_block) all
    (parts_read class around p are))

coefficients_spelled : (class : ℕ) (around : Around) (n : ℕ) (r : Result (List ℤ) BlockFault)
    (first events : Events) → n ≤ 49 → first ≡ inner_count_events class (guess around) n
    → Spells (asked_coefficients class around n) events r
    → IsRead (λ es. es ≡ first ++ events) class around r
unfolding asked_coefficients
coefficients_spelled class around n r first events few count h =
    let one = parted (asked_values (inner_bins class around) 0 49 n) _ events r h in
    let two = parted (asked_edge class false around n) _ one.rest r one.then in
    let three = parted (asked_edge class true around n) _ two.rest r two.then in
    let four = parted (asked_residue class around) _ three.rest r three.then in
    let told =
    told_last (block_within (prediction around +ℤ four.value) one.value two.value three.value)
    r four.rest four.then in
    let inner =
    values_spelled (inner_bins class around) 0 49 n one.value one.first few one.spelled in
    let row = edge_spelled class false around n two.value two.first two.spelled in
    let column = edge_spelled class true around n three.value three.first three.spelled in
    let residue = residue_spelled class around four.value four.first four.spelled in
    let parts : Parts = parts_with one.value two.value three.value four.value in
    let are =
    are_parts one.value two.value three.value four.value inner.long row.long column.long inner.tens
    row.tens column.tens residue.0 in
    let order =
    in_order events one.first two.first three.first four.first one.rest two.rest three.rest
    four.rest (values_events (inner_bins class around) 0 one.value)
    (edge_events class false around n two.value) (edge_events class true around n three.value)
    (dc_events class around four.value) one.whole two.whole three.whole four.whole told.0 inner.is
    row.is column.is residue.1 in
    let all = all_of class around n parts first events inner.count count order in
    read_as class around r parts (first ++ events) are all told.1

count_outside : (class : ℕ) (around : Around) (n : ℕ) (r : Result (List ℤ) BlockFault)
    (first events : Events) → 49 < n → n < 64 → first ≡ inner_count_events class (guess around) n
    → Spells (Told (Err BlockCount)) events r → IsRead (λ es. es ≡ first ++ events) class around r
count_outside class around n r first events many six count h =
    let none : Result (List ℤ) BlockFault = Err BlockCount in
    let told = told_last none r events h in
    let all : inner_count_events class (guess around) n ≡ first ++ events =
    sym count ∙ sym (append-nil first) ∙ ap (λ (es : Events). first ++ es) (sym told.0) in
    subst (λ (s : Result (List ℤ) BlockFault). IsRead (λ es. es ≡ first ++ events) class around s)
    told.1 (record { count = n; many = many; six_bits = six; coded = all })

-- the events that spell a block, or a fault, are those of which it is read
pub block_spelled : (class : ℕ) (around : Around) (r : Result (List ℤ) BlockFault) (events : Events)
    → Spells (asked_block class around) events r → IsRead (λ es. es ≡ events) class around r
unfolding asked_block inner_count_events
block_spelled class around r events h =
    let bin : ℕ → ℕ = λ node. bin_number class (InnerCount (category (guess around)) node) in
    let parts = parted (asked_count bin 6) _ events r h in
    let count = count_spelled bin 6 parts.value parts.first parts.spelled in
    let n : ℕ = parts.value in
    let six : n < 64 = omega (arith, count.1) in
    subst (λ (xs : Events). IsRead (λ es. es ≡ xs) class around r) (sym parts.whole)
    (elim (nat_lt 49 n) as (λ t. nat_lt 49 n ≡ t
    → Spells (if t then Told (Err BlockCount) else asked_coefficients class around n) parts.rest r
    → IsRead (λ es. es ≡ parts.first ++ parts.rest) class around r) [
      | true ↦ λ e s.
          let many : 49 < n = grind (arith, nat_tests) in
          count_outside class around n r parts.first parts.rest many six count.0 s
      | false ↦ λ e s.
          let few : n ≤ 49 = grind (arith, nat_tests) in
          coefficients_spelled class around n r parts.first parts.rest few count.0 s
    ] refl parts.then)
