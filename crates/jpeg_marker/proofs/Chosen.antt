-- Components with their tables, one after the other.
use Rattle.std.proofs.Common.{◌≡◌, ℕ, ◌+◌, ◌-◌, ◌<◌, ◌≤◌, List, [], ◌∷◌, ◌++◌, length, get_or, take, drop, set, replicate, drop-cons, add-one, refl, ap, sym, ◌∙◌, arith, append_assoc, Option, Some, None, option_map, map}
use Rattle.std.proofs.lemmas.List.{take-append-drop, take_more_set, take-set, drop-set, drop_at, drop-drop, drop-replicate, length-take, length-drop, map-append, take_more, append-nil, drop_all}
use Rattle.jpeg_marker.specs.HuffmanTables.{TableFields}
use Rattle.jpeg_marker.specs.Plans.{component_with, component_of, components_of, with_prefix, part_of, indexes_from}
use Rattle.jpeg_marker.specs.declared.parameters.FrameComponent.{FrameComponent}
use Rattle.jpeg_marker.specs.declared.parameters.ScanComponent.{ScanComponent}
use Rattle.jpeg_marker.specs.declared.component.Component.{Component}
use Rattle.jpeg_marker.proofs.Choices.{some_is_one}

-- the first of the rest, and what is after it
pub components_of-drop : (table : ℕ → ℕ → Option TableFields) (indexes : List ℕ) (parts : List FrameComponent) (selectors : List ScanComponent) (i n : ℕ) (p : FrameComponent) (s : ScanComponent) → i < length indexes → i < length parts → i < length selectors → components_of table (drop i indexes) (drop i parts) (drop i selectors) ≡ with_prefix (component_of table (get_or indexes i n) (get_or parts i p) (get_or selectors i s)) (components_of table (drop (i + 1) indexes) (drop (i + 1) parts) (drop (i + 1) selectors))
components_of-drop table indexes parts selectors i n p s one below same = rw (drop-cons indexes i n one, drop-cons parts i p below, drop-cons selectors i s same, add-one) refl

-- one more in prefix
pub prefix_moves : (prefix : List Component) (c : Component) (others : Option (List Component)) → option_map (λ xs. prefix ++ xs) (with_prefix (Some c) others) ≡ option_map (λ xs. (prefix ++ c ∷ []) ++ xs) others
prefix_moves prefix c None = refl
prefix_moves prefix c (Some xs) = ap Some (sym (append_assoc prefix (c ∷ []) xs))

-- what follows the last stays as it was
pub blank_more : {X : Type 0} (xs : List X) (i : ℕ) (y b : X) → length xs ≡ 4 → i < 4 → xs ≡ take i xs ++ replicate (4 - i) b → set xs i y ≡ take (i + 1) (set xs i y) ++ replicate (4 - (i + 1)) b
blank_more {X = X} xs i y b size below blank =
    let room : i < length xs = omega arith in
    let after : drop i xs ≡ replicate (4 - i) b = ap (drop i) blank ∙ drop_at (take i xs) (replicate (4 - i) b) i (omega (arith, length-take i xs)) in
    let rest : drop (i + 1) xs ≡ replicate (4 - (i + 1)) b =
    sym (drop-drop 1 i xs) ∙ ap (drop 1) after ∙ drop-replicate 1 (4 - i) b ∙ ap (λ n. replicate n b) (omega arith) in
    let split : set xs i y ≡ (take i xs ++ y ∷ []) ++ drop (i + 1) xs =
    sym (take-append-drop i (set xs i y)) ∙ ap (λ prefix. prefix ++ drop i (set xs i y)) (take-set xs i y) ∙ ap (λ back. take i xs ++ back) (drop-set xs i y room) ∙ sym (append_assoc (take i xs) (y ∷ []) (drop (i + 1) xs)) in
    split ∙ ap (λ prefix. prefix ++ drop (i + 1) xs) (sym (take_more_set xs i y room)) ∙ ap (λ back. take (i + 1) (set xs i y) ++ back) rest

-- a step of the loop over components: one that has its tables
pub components_more : (table : ℕ → ℕ → Option TableFields) (indexes : List ℕ) (parts : List FrameComponent) (selectors : List ScanComponent) (found : List Component) (i n : ℕ) (p : FrameComponent) (s : ScanComponent) (c : Component) → i < length indexes → i < length parts → i < length selectors → i < length found → components_of table indexes parts selectors ≡ option_map (λ others. take i found ++ others) (components_of table (drop i indexes) (drop i parts) (drop i selectors)) → component_of table (get_or indexes i n) (get_or parts i p) (get_or selectors i s) ≡ Some c → components_of table indexes parts selectors ≡ option_map (λ others. take (i + 1) (set found i c) ++ others) (components_of table (drop (i + 1) indexes) (drop (i + 1) parts) (drop (i + 1) selectors))
components_more table indexes parts selectors found i n p s c one below same room so_far here =
    let rest = components_of table (drop (i + 1) indexes) (drop (i + 1) parts) (drop (i + 1) selectors) in
    so_far
    ∙ ap (option_map (λ others. take i found ++ others)) (components_of-drop table indexes parts selectors i n p s one below same ∙ ap (λ first. with_prefix first rest) here)
    ∙ prefix_moves (take i found) c rest
    ∙ ap (λ prefix. option_map (λ others. prefix ++ others) rest) (sym (take_more_set found i c room))

-- and one that hasn't
pub components_none : (table : ℕ → ℕ → Option TableFields) (indexes : List ℕ) (parts : List FrameComponent) (selectors : List ScanComponent) (found : List Component) (i n : ℕ) (p : FrameComponent) (s : ScanComponent) → i < length indexes → i < length parts → i < length selectors → components_of table indexes parts selectors ≡ option_map (λ others. take i found ++ others) (components_of table (drop i indexes) (drop i parts) (drop i selectors)) → component_of table (get_or indexes i n) (get_or parts i p) (get_or selectors i s) ≡ None → components_of table indexes parts selectors ≡ None
components_none table indexes parts selectors found i n p s one below same so_far here =
    so_far ∙ ap (option_map (λ others. take i found ++ others)) (components_of-drop table indexes parts selectors i n p s one below same ∙ ap (λ first. with_prefix first (components_of table (drop (i + 1) indexes) (drop (i + 1) parts) (drop (i + 1) selectors))) here)

-- a component says what its part does, and has its index
record Says (index : ℕ) (p : FrameComponent) (c : Component) : Type 0 where
  part : part_of c ≡ p
  at : c.index ≡ index

says_with : (index : ℕ) (p : FrameComponent) (dc ac : Option TableFields) (c : Component) → component_with index p dc ac ≡ Some c → Says index p c
says_with index p (Some dc) (Some ac) c is = record { part = ap part_of (sym (some_is_one _ c is)); at = ap (λ (d : Component). d.index) (sym (some_is_one _ c is)) }
says_with index p (Some dc) None c is = cc
says_with index p None ac c is = cc

pub parts_more : (parts : List FrameComponent) (found : List Component) (i index : ℕ) (p : FrameComponent) (c : Component) (dc ac : Option TableFields) → i < length parts → i < length found → map part_of (take i found) ≡ take i parts → component_with index (get_or parts i p) dc ac ≡ Some c → map part_of (take (i + 1) (set found i c)) ≡ take (i + 1) parts
parts_more parts found i index p c dc ac below room so_far here =
    ap (map part_of) (take_more_set found i c room)
    ∙ map-append part_of (take i found) (c ∷ [])
    ∙ ap (λ prefix. prefix ++ part_of c ∷ []) so_far
    ∙ ap (λ q. take i parts ++ q ∷ []) (says_with index (get_or parts i p) dc ac c here).part
    ∙ sym (take_more parts i p below)

pub indexes_more : (indexes : List ℕ) (found : List Component) (i n : ℕ) (p : FrameComponent) (c : Component) (dc ac : Option TableFields) → i < length indexes → i < length found → map (λ (d : Component). d.index) (take i found) ≡ take i indexes → component_with (get_or indexes i n) p dc ac ≡ Some c → map (λ (d : Component). d.index) (take (i + 1) (set found i c)) ≡ take (i + 1) indexes
indexes_more indexes found i n p c dc ac below room so_far here =
    ap (map (λ (d : Component). d.index)) (take_more_set found i c room)
    ∙ map-append (λ (d : Component). d.index) (take i found) (c ∷ [])
    ∙ ap (λ prefix. prefix ++ c.index ∷ []) so_far
    ∙ ap (λ q. take i indexes ++ q ∷ []) (says_with (get_or indexes i n) p dc ac c here).at
    ∙ sym (take_more indexes i n below)

-- at the end of that loop: it found all, or not all
ended : (found : List ℕ) (n k : ℕ) (selectors : List ScanComponent) → length selectors ≤ n → n ≤ length selectors → option_map (λ others. take n found ++ others) (indexes_from k [] (drop n selectors)) ≡ Some (take (length selectors) found)
ended found n k selectors a b = rw (drop_all n selectors a) (ap Some (append-nil (take n found) ∙ ap (λ m. take m found) (omega arith)))

pub named_all : (parts : List FrameComponent) (selectors : List ScanComponent) (found : List ℕ) (n k : ℕ) → length parts ≤ k → length selectors ≤ n → n ≤ length selectors → indexes_from 0 parts selectors ≡ option_map (λ others. take n found ++ others) (indexes_from k (drop k parts) (drop n selectors)) → indexes_from 0 parts selectors ≡ Some (take (length selectors) found)
named_all parts selectors found n k over all few so_far =
    so_far ∙ ap (λ rest. option_map (λ others. take n found ++ others) (indexes_from k rest (drop n selectors))) (drop_all k parts over) ∙ ended found n k selectors all few

none_left : (prefix : List ℕ) (k : ℕ) (selectors : List ScanComponent) → 1 ≤ length selectors → option_map (λ others. prefix ++ others) (indexes_from k [] selectors) ≡ None
none_left prefix k [] some = absurd (omega arith)
none_left prefix k (s ∷ selectors) some = refl

pub named_none : (parts : List FrameComponent) (selectors : List ScanComponent) (found : List ℕ) (n k : ℕ) → length parts ≤ k → n < length selectors → indexes_from 0 parts selectors ≡ option_map (λ others. take n found ++ others) (indexes_from k (drop k parts) (drop n selectors)) → indexes_from 0 parts selectors ≡ None
named_none parts selectors found n k over some so_far =
    so_far ∙ ap (λ rest. option_map (λ others. take n found ++ others) (indexes_from k rest (drop n selectors))) (drop_all k parts over) ∙ none_left (take n found) k (drop n selectors) (omega (arith, length-drop n selectors))
