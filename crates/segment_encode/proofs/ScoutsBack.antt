-- Scouts before their work and after it, and the excerpts that they have found.
use Rattle.std.proofs.Common.{◌≡◌, ℕ, suc, ◌<◌, List, [], ◌∷◌, ◌++◌, length, sym, subst, ap, ◌∙◌, arith}
use Rattle.std.specs.Prelude.{slice_index_or}
use Rattle.std.specs.List.{All}
use Rattle.std.proofs.lemmas.List.Elements.{All-append, All-cons, All-head, All-nil, All-push, All-tail}
use Rattle.scan_spec.specs.Slots.{Shape}
use Rattle.scan_decode.specs.Excerpts.{IsExcerpt, ScoutFields, ExcerptFields}
use Rattle.segment_encode.specs.Scouting.{HasScouted, new_scout}

-- a scout of a scan, before its work or after it
pub record IsScoutOf (of : Shape) (all : List ℕ) (s : ScoutFields) : Type 0 where
  pub shape : s.shape ≡ of
  pub bytes : s.bytes ≡ all

-- one more before its work
pub more_new : (shape : Shape) (bytes : List ℕ) (ss next : List ScoutFields) (s : ScoutFields)
    → All (λ (x : ScoutFields). x ≡ new_scout shape bytes) ss → s ≡ new_scout shape bytes → next ≡ ss ++ s ∷ []
    → All (λ (x : ScoutFields). x ≡ new_scout shape bytes) next
more_new shape bytes ss next s all one kept =
    subst (All (λ (x : ScoutFields). x ≡ new_scout shape bytes)) (sym kept)
    (All-push (λ (x : ScoutFields). x ≡ new_scout shape bytes) ss s all one)

-- one keeps its scan
one_back : (shape : Shape) (bytes : List ℕ) (old new : ScoutFields) → HasScouted old new
    → old ≡ new_scout shape bytes → IsScoutOf shape bytes new
one_back shape bytes old new kept is = record {
  shape = kept.shape ∙ ap (λ (s : ScoutFields). s.shape) is;
  bytes = kept.bytes ∙ ap (λ (s : ScoutFields). s.bytes) is;
}

-- all keep it
pub all_back : (shape : Shape) (bytes : List ℕ) (olds news : List ScoutFields) → length news ≡ length olds
    → ((i : ℕ) (d : ScoutFields) → i < length olds
    → HasScouted (slice_index_or olds i d) (slice_index_or news i d))
    → All (λ (s : ScoutFields). s ≡ new_scout shape bytes) olds → All (IsScoutOf shape bytes) news
all_back shape bytes olds [] long each all = All-nil (IsScoutOf shape bytes)
all_back shape bytes [] (n ∷ ns) long each all = absurd (omega (arith, long))
all_back shape bytes (o ∷ os) (n ∷ ns) long each all =
    let P : ScoutFields → Type 0 = λ (s : ScoutFields). s ≡ new_scout shape bytes in
    All-cons (IsScoutOf shape bytes) n ns
    (one_back shape bytes o n (each 0 o (omega arith)) (All-head P o os all))
    (all_back shape bytes os ns (omega (arith, long)) (λ i d below. each (suc i) d (omega (arith, below)))
    (All-tail P o os all))

-- what one has found is added
pub found_more : (shape : Shape) (bytes : List ℕ) (s : ScoutFields) (before more after : List ExcerptFields)
    → IsScoutOf shape bytes s → All (IsExcerpt s.shape s.bytes) more → All (IsExcerpt shape bytes) before
    → after ≡ before ++ more → All (IsExcerpt shape bytes) after
found_more shape bytes s before more after of are all is =
    let P : Shape → List ℕ → Type 0 = λ (shape' : Shape) (bytes' : List ℕ). All (IsExcerpt shape' bytes') more in
    let these : All (IsExcerpt shape bytes) more =
    subst (λ (b : List ℕ). P shape b) of.bytes (subst (λ (h : Shape). P h s.bytes) of.shape are) in
    subst (All (IsExcerpt shape bytes)) (sym is) (All-append (IsExcerpt shape bytes) before more all these)
