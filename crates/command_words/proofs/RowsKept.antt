-- What each use of an argument without a fault keeps of the rows, a walk without a fault keeps.
use Rattle.std.proofs.Common.{◌≡◌, ℕ, zero, suc, Bool, true, false, cond, refl, List, [], ◌∷◌, Option, Some, None, length, fold, is_some, ◌&&◌}
use Rattle.std.specs.Prelude.{drop, encode_utf8, find, slice_get}
use Rattle.std.specs.Option.{option_map_or}
use Rattle.std.specs.Str.{bytes_eq, chars}
use Rattle.clap.specs.Lexer.{long_of, short_of}
use Rattle.clap.specs.Kinds.{Kinds, or_else}
use Rattle.clap.specs.Walk.{Held, Names, Outcome, Row, Rule, Step, Text, Waiting, Walk, after_flag, after_step, arg_by_id, arg_by_index, arg_by_long, arg_by_short, attached_value, bundle, bundle_met, bundle_step, done, waits, plain, refused, idle, positional, option, flag_met, is_pending, long_met, long_or_other, next, trailing, subcommand, value, option_met, option_word, plain_word, reacted, settled, settled_rows, short_met, short_or_plain, subcommand_met, subcommand_or_other, takes_several, takes_values, to_positional, used, used_by_id, walked, walked_from, word_met}
use Rattle.clap.specs.Simple.{Shape}
use Rattle.clap.specs.Faults.{bundle_fault, bundle_step_fault, flag_word_fault, flags_fault, long_fault, option_fault, other_fault, react_fault, settle_fault, short_fault, step_fault, stray_fault, turn_fault, use_fault, walk_fault, word_fault}
use Rattle.clap.specs.declared.error.kind.ErrorKind.TheVariants as kind

-- where neither of two steps fails
pub no_else : (a b : Kinds) → or_else a b ≡ [] → (a ≡ []) × (b ≡ [])
no_else [] b none = (refl, none)
no_else (k ∷ ks) b none = absurd cc

module _ (s : Shape) (Q : List Row → Type 0)
    (uses : (p : Rule → Bool) (a : Rule) (values : List Text) (rows : List Row) → find p s.rules ≡ Some a
    → use_fault s.args_override_self a values rows ≡ [] → Q rows → Q (used a values rows)) where
  abbrev c : List Rule
  c = s.rules

  abbrev again : Bool
  again = s.args_override_self

  pending_keeps : (pending : Option (Text × List Text)) (rows : List Row)
      → option_map_or (λ p. option_map_or (λ a. use_fault again a p.1 rows) (arg_by_id c p.0) []) pending [] ≡ []
      → Q rows → Q (settled_rows c pending rows)
  pending_keeps None rows none q = q
  pending_keeps (Some p) rows none q = go (arg_by_id c p.0) refl none
    where
      go : (o : Option Rule) → arg_by_id c p.0 ≡ o → option_map_or (λ a. use_fault again a p.1 rows) o [] ≡ []
          → Q (used_by_id o p.1 rows)
      go None found none = q
      go (Some a) found none = uses _ a p.1 rows found none q

  pub settled_keeps : (h : Held) → settle_fault c again h ≡ [] → Q h.rows → Q (settled c h).rows
  settled_keeps h none q = pending_keeps h.pending h.rows none q

  reacted_keeps : (p : Rule → Bool) (a : Rule) (values : List Text) (h : Held) → find p c ≡ Some a
      → react_fault c again a values h ≡ [] → Q h.rows → Q (reacted c a values h).rows
  reacted_keeps p a values h found none q =
      let parts = no_else _ _ none in
      uses p a values _ found parts.1 (settled_keeps h parts.0 q)

  option_keeps : (p : Rule → Bool) (a : Rule) (v : Option Text) (h : Held) → find p c ≡ Some a
      → option_fault c again a v h ≡ [] → Q h.rows → Q (option_met c a v h).0.rows
  option_keeps p a (Some v) h found none q = reacted_keeps p a (v ∷ []) h found none q
  option_keeps p a None h found none q = settled_keeps h none q

  flag_keeps : (p : Rule → Bool) (a : Rule) (v : Option Text) (h : Held) → find p c ≡ Some a
      → cond (is_some v) (kind.TooManyValues ∷ []) (react_fault c again a [] h) ≡ []
      → Q h.rows → Q (flag_met c a v h).0.rows
  flag_keeps p a (Some v) h found none q = q
  flag_keeps p a None h found none q = reacted_keeps p a [] h found none q

  long_keeps : (p : Rule → Bool) (o : Option Rule) (v : Option Text) (h : Held) → find p c ≡ o
      → long_fault c again o v h ≡ [] → Q h.rows → Q (long_met c o v h).0.rows
  long_keeps p None v h found none q = q
  long_keeps p (Some a) v h found none q = go (takes_values a) none
    where
      go : (b : Bool)
          → cond b (option_fault c again a v h) (cond (is_some v) (kind.TooManyValues ∷ []) (react_fault c again a [] h)) ≡ []
          → Q (cond b (option_met c a v h) (flag_met c a v h)).0.rows
      go true none = option_keeps p a v h found none q
      go false none = flag_keeps p a v h found none q

  module _ (next_fault : Text → ℕ → Held → Kinds) (next_met : Text → ℕ → Outcome → Held → Held × Outcome)
      (keeps : (flags : Text) (skip : ℕ) (so_far : Outcome) (h : Held) → next_fault flags skip h ≡ [] → Q h.rows
      → Q (next_met flags skip so_far h).0.rows) where
    short_keeps : (p : Rule → Bool) (o : Option Rule) (rest : Text) (h : Held) → find p c ≡ o
        → short_fault c again o rest h (next_fault rest 0) ≡ [] → Q h.rows → Q (short_met c o rest h (next_met rest 0 done)).0.rows
    short_keeps p None rest h found none q = q
    short_keeps p (Some a) rest h found none q = go (takes_values a) none
      where
        go : (b : Bool)
            → cond b (option_fault c again a (attached_value rest) h)
            (or_else (react_fault c again a [] h) (next_fault rest 0 (reacted c a [] h))) ≡ []
            → Q (cond b (option_met c a (attached_value rest) h) (next_met rest 0 done (reacted c a [] h))).0.rows
        go true none = option_keeps p a (attached_value rest) h found none q
        go false none =
            let parts = no_else _ _ none in
            keeps rest 0 done (reacted c a [] h) parts.1 (reacted_keeps p a [] h found parts.0 q)

    step_keeps : (o : Option ℕ) (flags : Text) (skip : ℕ) (so_far : Outcome) (h : Held)
        → bundle_step_fault c again o flags skip h next_fault ≡ [] → Q h.rows
        → Q (bundle_step c o flags skip so_far h next_met).0.rows
    step_keeps None flags skip so_far h none q = q
    step_keeps (Some x) flags zero so_far h none q =
        short_keeps _ (arg_by_short c x) (drop (length (encode_utf8 x)) flags) h refl none q
    step_keeps (Some x) flags (suc skip) so_far h none q = keeps _ skip so_far h none q

  flags_keep : (k : ℕ) (flags : Text) (skip : ℕ) (so_far : Outcome) (h : Held)
      → flags_fault c again k flags skip h ≡ [] → Q h.rows → Q (bundle_met c k flags skip so_far h).0.rows
  unfolding flags_fault bundle_met
  flags_keep zero flags skip so_far h none q = q
  flags_keep (suc k) flags skip so_far h none q =
      step_keeps (flags_fault c again k) (bundle_met c k) (flags_keep k) (slice_get (chars flags) 0) flags skip so_far h none q

  -- a word
  plain_keeps : (waiting : Waiting) (word : Text) (h : Held) → Q h.rows → Q (plain_word c waiting word h).0.rows
  plain_keeps idle word h q = q
  plain_keeps positional word h q = q
  plain_keeps (option id) word h q = go (arg_by_id c id)
    where
      go : (o : Option Rule) → Q (option_word o id word h).0.rows
      go None = q
      go (Some a) = q

  after_keeps : (waiting : Waiting) (word : Text) (h : Held) (o : Outcome) → Q h.rows → Q (after_flag c waiting word h o).0.rows
  after_keeps waiting word h done q = q
  after_keeps waiting word h (waits id) q = q
  after_keeps waiting word h plain q = plain_keeps waiting word h q
  after_keeps waiting word h refused q = plain_keeps waiting word h q

  flag_word_keeps : (o : Option (Text × Option Text)) (waiting : Waiting) (word : Text) (h : Held)
      → flag_word_fault c again o word h ≡ [] → Q h.rows → Q (long_or_other c waiting word o h).0.rows
  flag_word_keeps (Some p) waiting word h none q =
      after_keeps waiting word _ _ (long_keeps _ (arg_by_long c p.0) p.1 h refl none q)
  flag_word_keeps None waiting word h none q = go (short_of word) none
    where
      go : (o : Option Text) → option_map_or (λ flags. bundle_fault c again flags h) o [] ≡ []
          → Q (short_or_plain c waiting word o h).0.rows
      go None none = plain_keeps waiting word h q
      go (Some flags) none =
          after_keeps waiting word (bundle c flags h).0 _ (flags_keep (length flags) flags h.skip plain (record h { skip = 0 }) none q)

  other_keeps : (met : Option Text) (waiting : Waiting) (position : ℕ) (word : Text) (h : Held)
      → other_fault s met word h ≡ [] → Q h.rows → Q (subcommand_or_other c met waiting position word h).0.rows
  other_keeps (Some name) waiting position word h none q = q
  other_keeps None waiting position word h none q = go (bytes_eq word (45 ∷ 45 ∷ [])) none
    where
      go : (b : Bool) → cond b [] (flag_word_fault c again (long_of word) word h) ≡ []
          → Q (cond b (h, trailing position) (long_or_other c waiting word (long_of word) h)).0.rows
      go true none = q
      go false none = flag_word_keeps (long_of word) waiting word h none q

  word_keeps : (names : Names) (is_trailing : Bool) (waiting : Waiting) (position : ℕ) (word : Text) (h : Held)
      → word_fault s names is_trailing waiting word h ≡ [] → Q h.rows
      → Q (word_met c names is_trailing waiting position word h).0.rows
  word_keeps names true waiting position word h none q = q
  word_keeps names false waiting position word h none q =
      other_keeps (subcommand_met names waiting word) waiting position word h none q

  after_step_keeps : (w : Walk) (word : Text) (h : Held) (step : Step) → step_fault s w.position h step ≡ [] → Q h.rows
      → Q (after_step c word w h step).held.rows
  after_step_keeps w word h (next waiting) none q = q
  after_step_keeps w word h (trailing position) none q = q
  after_step_keeps w word h (subcommand name) none q = q
  after_step_keeps w word h value none q = go (arg_by_index c w.position) none
    where
      held : (b : Bool) → cond b [] (settle_fault c again h) ≡ [] → Q (cond b h (settled c h)).rows
      held true none = q
      held false none = settled_keeps h none q

      go : (o : Option Rule)
          → option_map_or (λ a. cond (is_pending a h.pending && takes_several a) [] (settle_fault c again h)) o (stray_fault s) ≡ []
          → Q (to_positional c o word w h).held.rows
      go None none = q
      go (Some a) none = held (is_pending a h.pending && takes_several a) none

  turned_keeps : (names : Names) (w : Walk) (word : Text) (o : Option (Text × List Text))
      → cond (is_some o) [] (or_else (word_fault s names w.is_trailing w.waiting word w.held)
      (step_fault s w.position (word_met c names w.is_trailing w.waiting w.position word w.held).0
      (word_met c names w.is_trailing w.waiting w.position word w.held).1)) ≡ []
      → Q w.held.rows → Q (walked_from c names o w word).held.rows
  turned_keeps names w word (Some p) none q = q
  turned_keeps names w word None none q =
      let parts = no_else _ _ none in
      after_step_keeps w word _ _ parts.1
      (word_keeps names w.is_trailing w.waiting w.position word w.held parts.0 q)

  walked_keeps : (names : Names) (w : Walk) (word : Text) → turn_fault s names w word ≡ [] → Q w.held.rows
      → Q (walked c names w word).held.rows
  unfolding walked
  walked_keeps names w word none q = turned_keeps names w word w.stopped none q

  pub walk_keeps : (names : Names) (words : List Text) (w : Walk) → walk_fault s names w words ≡ [] → Q w.held.rows
      → Q (fold (walked c names) w words).held.rows
  unfolding walk_fault
  walk_keeps names [] w none q = q
  walk_keeps names (word ∷ rest) w none q =
      let parts = no_else _ _ none in
      walk_keeps names rest (walked c names w word) parts.1 (walked_keeps names w word parts.0 q)
