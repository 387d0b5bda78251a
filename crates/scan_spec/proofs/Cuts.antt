-- Blocks in parts.
use Rattle.std.proofs.Common.{◌≡◌, ℕ, List, [], ◌∷◌, ◌++◌, length, ℤ, Ok, Err, ◌+◌, ◌<◌, ◌≤◌, drop, get_or, drop-cons, add-one, refl, sym, ap, ap₂, ◌∙◌, arith}
use Rattle.std.proofs.lemmas.List.{drop_all}
use Rattle.scan_spec.specs.BlockBits.{Text, then_text, block_text}
use Rattle.scan_spec.specs.Blocks.{last_dc, dcs_after_block, dcs_after, blocks_text}
use Rattle.scan_spec.specs.declared.slot.Slot.{Slot}
use Rattle.scan_spec.proofs.Texts.{after_nothing, after_twice}

-- a text, and then another, and then a third
pub then_twice : (a b c : Text) → then_text a (then_text b c) ≡ then_text (then_text a b) c
then_twice (Err stop) b c = refl
then_twice (Ok prefix) (Err stop) c = refl
then_twice (Ok prefix) (Ok more) c = after_twice prefix more c

pub text_in_parts : (slots more : List Slot) (before : List ℤ) (blocks others : List (List ℤ)) → length slots ≡ length blocks
    → blocks_text (slots ++ more) before (blocks ++ others) ≡ then_text (blocks_text slots before blocks) (blocks_text more (dcs_after slots before blocks) others)
unfolding blocks_text dcs_after
text_in_parts [] more before [] others h = after_nothing (blocks_text more before others)
text_in_parts [] more before (block ∷ blocks) others h = absurd (omega arith)
text_in_parts (slot ∷ slots) more before [] others h = absurd (omega arith)
text_in_parts (slot ∷ slots) more before (block ∷ blocks) others h =
    let first = block_text slot.codes (last_dc before slot) block in
    let next = dcs_after_block before slot block in
    ap (then_text first) (text_in_parts slots more next blocks others (omega arith))
    ∙ then_twice first (blocks_text slots next blocks) (blocks_text more (dcs_after slots next blocks) others)

pub last_in_parts : (slots more : List Slot) (before : List ℤ) (blocks others : List (List ℤ)) → length slots ≡ length blocks
    → dcs_after (slots ++ more) before (blocks ++ others) ≡ dcs_after more (dcs_after slots before blocks) others
unfolding dcs_after
last_in_parts [] more before [] others h = refl
last_in_parts [] more before (block ∷ blocks) others h = absurd (omega arith)
last_in_parts (slot ∷ slots) more before [] others h = absurd (omega arith)
last_in_parts (slot ∷ slots) more before (block ∷ blocks) others h = last_in_parts slots more (dcs_after_block before slot block) blocks others (omega arith)

-- the next block of some
pub next_block : (slots : List Slot) (last : List ℤ) (blocks : List (List ℤ)) (i : ℕ) (slot : Slot) (block : List ℤ) → i < length slots → length slots ≡ length blocks
    → slot ≡ get_or slots i slot → block ≡ get_or blocks i block
    → blocks_text (drop i slots) last (drop i blocks) ≡ then_text (block_text slot.codes (last_dc last slot) block) (blocks_text (drop (i + 1) slots) (dcs_after_block last slot block) (drop (i + 1) blocks))
unfolding blocks_text
next_block slots last blocks i slot block below long is stands =
    let there : i < length blocks = omega arith in
    let more = add-one i in
    let a = drop-cons slots i slot below ∙ ap₂ (λ (s : Slot) (n : ℕ). s ∷ drop n slots) (sym is) (sym more) in
    let b = drop-cons blocks i block there ∙ ap₂ (λ (l : List ℤ) (n : ℕ). l ∷ drop n blocks) (sym stands) (sym more) in
    ap₂ (λ (ss : List Slot) (bs : List (List ℤ)). blocks_text ss last bs) a b

pub no_block : (slots : List Slot) (last : List ℤ) (blocks : List (List ℤ)) (i : ℕ) → length slots ≤ i → blocks_text (drop i slots) last (drop i blocks) ≡ Ok []
unfolding blocks_text
no_block slots last blocks i past = ap (λ (ss : List Slot). blocks_text ss last (drop i blocks)) (drop_all i slots past)
