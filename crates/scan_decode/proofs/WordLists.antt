-- Lists of words: by their numbers, and one for each component of a scan.
use Rattle.std.proofs.Common.{◌≡◌, ℕ, ◌<◌, List, [], ◌∷◌, ◌++◌, length, map, set, get_or, replicate, sym, ap, ◌∙◌, subst, arith, inl, inr, length-set, get_or-set_same, get_or-set_other}
use Rattle.std.specs.List.{All}
use Rattle.std.proofs.lemmas.Bool.{cases_lt}
use Rattle.std.proofs.lemmas.List.{get_or-map, get_or-replicate, get_or_append_left, get_or_past, get_or_push, get_or_read, length-map, length-replicate, length_push}
use Rattle.std.proofs.lemmas.List.Elements.{All-map}
use Rattle.huff_table.specs.ComponentTables.{no_codes}
use Rattle.huff_table.specs.declared.plan_codes.ComponentCodes.{ComponentCodes}
use Rattle.jpeg_marker.specs.HuffmanTables.{TableFields}
use Rattle.scan_spec.specs.ShapeInside.{slot_in}
use Rattle.scan_spec.specs.declared.slot.Slot.{Slot}

-- each word of a list is one of its number
abbrev pub Each : {W : Type 0} → (ℕ → W → Type 0) → W → List W → Type 0
Each P d words = (k : ℕ) → k < length words → P k (get_or words k d)

-- one word more in place of another
pub set_word : {W : Type 0} (P : ℕ → W → Type 0) (d : W) (words : List W) (index : ℕ) (word : W) → Each P d words → P index word → Each P d (set words index word)
set_word P d words index word are is = λ k below.
    let long = length-set words index word in
    let within : k < length words = omega (arith, long, below) in
    elim (cases_lt k index) [
      | inl before ↦ subst (P k) (sym (get_or-set_other words index k word d (λ e. omega (arith, before, e)))) (are k within)
      | inr from ↦ elim (cases_lt index k) [
        | inl after ↦ subst (P k) (sym (get_or-set_other words index k word d (λ e. omega (arith, after, e)))) (are k within)
        | inr upto ↦
            let same : index ≡ k = omega (arith, from, upto) in
            subst (λ (n : ℕ). P n (get_or (set words index word) n d)) same
            (subst (P index) (sym (get_or-set_same words index word d (omega (arith, same, within)))) is)
      ]
    ]

-- one word for all numbers
pub one_word : {W : Type 0} (P : ℕ → W → Type 0) (d : W) (n : ℕ) (word : W) → ((k : ℕ) → P k word) → Each P d (replicate n word)
one_word P d n word all = λ k below.
    let long = length-replicate n word in
    subst (P k) (sym (get_or-replicate n k word d (omega (arith, long, below)))) (all k)

-- the list of a slot's component
pub list_of_slot : {W : Type 0} (P : TableFields → List W → Type 0) (codes : List ComponentCodes) (slots : List ℕ) (lists : List (List W)) (i component : ℕ) (tables : ComponentCodes)
    → All (λ (slot : Slot). P slot.codes.ac (get_or lists slot.component [])) (map (slot_in codes) slots) → i < length slots
    → component ≡ get_or slots i 0 → component < length codes → tables ≡ get_or codes component tables → P tables.ac (get_or lists component [])
list_of_slot P codes slots lists i component tables all below is within kept =
    let d = slot_in codes 0 in
    let e : get_or (map (slot_in codes) slots) i d ≡ slot_in codes component = get_or-map (slot_in codes) slots i 0 d below ∙ ap (slot_in codes) (sym is) in
    let long : length (map (slot_in codes) slots) ≡ length slots = length-map slots (slot_in codes) in
    let at = all i d (omega (arith, long, below)) in
    subst (λ (t : ComponentCodes). P t.ac (get_or lists component [])) (sym (get_or_read codes component tables within kept no_codes))
    (subst (λ (s : Slot). P s.codes.ac (get_or lists s.component [])) e at)

-- lists for the components, as far as there are any
abbrev pub OfComponents : {W : Type 0} → (TableFields → List W → Type 0) → List ComponentCodes → List (List W) → Type 0
OfComponents P codes lists =
    (component : ℕ) → component < length codes
    → P (get_or codes component no_codes).ac (get_or lists component [])

-- none
pub none_kept : {W : Type 0} (P : TableFields → List W → Type 0) (codes : List ComponentCodes) → ((table : TableFields) → P table []) → OfComponents P codes []
none_kept P codes none = λ k below. none (get_or codes k no_codes).ac

-- that of one component more
pub one_kept : {W : Type 0} (P : TableFields → List W → Type 0) (codes : List ComponentCodes) (lists : List (List W)) (words : List W) → ((table : TableFields) → P table []) → OfComponents P codes lists
    → P (get_or codes (length lists) no_codes).ac words → OfComponents P codes (lists ++ words ∷ [])
one_kept {W = W} P codes lists words none are is = λ k below.
    let Q : ℕ → List W → Type 0 = λ n w. P (get_or codes n no_codes).ac w in
    elim (cases_lt k (length lists)) [
      | inl before ↦ subst (Q k) (sym (get_or_append_left lists (words ∷ []) [] k before)) (are k below)
      | inr from ↦ elim (cases_lt (length lists) k) [
        | inl past ↦ subst (Q k) (sym (get_or_past (lists ++ words ∷ []) k [] (let long = length_push lists words in omega (arith, long, past)))) (none (get_or codes k no_codes).ac)
        | inr upto ↦
            let same : length lists ≡ k = omega (arith, from, upto) in
            subst (Q k) (sym (get_or_push lists words [] k same)) (subst (λ (n : ℕ). Q n words) same is)
      ]
    ]

-- those of all slots, by those of all components
pub lists_of_slots : {W : Type 0} (P : TableFields → List W → Type 0) (codes : List ComponentCodes) (slots : List ℕ) (lists : List (List W)) → OfComponents P codes lists → All (λ slot. slot < length codes) slots
    → All (λ (slot : Slot). P slot.codes.ac (get_or lists slot.component [])) (map (slot_in codes) slots)
lists_of_slots P codes slots lists are within =
    All-map (λ (slot : Slot). P slot.codes.ac (get_or lists slot.component [])) (slot_in codes) slots (λ i d below. are (get_or slots i d) (within i d below))
