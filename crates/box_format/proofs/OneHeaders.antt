-- Headers one after another have one list of plans, or one refusal, and not both.
use Rattle.std.proofs.Common.{◌≡◌, ◌<◌, ℕ, true, List, [], ◌∷◌, length, nat_lt, refl, sym, ap, ap₂, ◌∙◌, arith, subst, inl, inr}
use Rattle.std.specs.Prelude.{◌⊎◌}
use Rattle.std.proofs.lemmas.Bool.{ltb-true}
use Rattle.jpeg_marker.specs.Plans.{PlanFields}
use Rattle.jpeg_marker.specs.Walks.{Walk, next_walk}
use Rattle.jpeg_marker.proofs.HeaderLaws.{one_begins, one_begins_not, begins_apart}
use Rattle.box_format.specs.Raws.{Raw}
use Rattle.box_format.specs.declared.refusal.BoxRefusal.{BoxRefusal}
use Rattle.box_format.specs.declared.refusal.BoxRefusal.TheVariants.{BoxHeader, HeaderLong}
use Rattle.box_format.specs.Checks.{HeadersPass, HeadersFail}

pub same_plans : (w : Walk) (raws : List Raw) (plans others : List PlanFields)
    → HeadersPass w raws plans → HeadersPass w raws others → plans ≡ others
same_plans w [] [] [] p q = refl
same_plans w [] [] (o ∷ others) p q = absurd q
same_plans w [] (x ∷ plans) others p q = absurd p
same_plans w (raw ∷ raws) [] others p q = absurd p
same_plans w (raw ∷ raws) (x ∷ plans) [] p q = absurd q
same_plans w (raw ∷ raws) (x ∷ plans) (o ∷ others) p q =
    let first = one_begins w raw.header x o p.0 q.0 in
    let more = subst (λ (plan : PlanFields). HeadersPass (next_walk plan.known 0) raws others)
    (sym first) q.2 in
    ap₂ (λ (plan : PlanFields) (rest : List PlanFields). plan ∷ rest) first
    (same_plans (next_walk x.known 0) raws plans others p.2 more)

-- what fails after a header's plan is known
abbrev Later : List ℕ → List Raw → BoxRefusal → PlanFields → Type 0
Later header raws refusal plan =
    ((nat_lt plan.header_length (length header) ≡ true)
    × (refusal ≡ HeaderLong plan.header_length))
    ⊎ ((plan.header_length ≡ length header)
    × HeadersFail (next_walk plan.known 0) raws refusal)

-- a header that is longer than its plan's is not as long
longer : (header : List ℕ) (n : ℕ) → nat_lt n (length header) ≡ true → n ≡ length header → ⊥
longer header n e f = let below : n < length header = ltb-true n (length header) e in omega arith

one_later : (header : List ℕ) (raws : List Raw) (plan : PlanFields) (refusal other : BoxRefusal)
    → (HeadersFail (next_walk plan.known 0) raws refusal
    → HeadersFail (next_walk plan.known 0) raws other → refusal ≡ other)
    → Later header raws refusal plan → Later header raws other plan → refusal ≡ other
one_later header raws plan refusal other rest (inl p) (inl q) = p.1 ∙ sym q.1
one_later header raws plan refusal other rest (inl p) (inr q) =
    absurd (longer header plan.header_length p.0 q.0)
one_later header raws plan refusal other rest (inr p) (inl q) =
    absurd (longer header plan.header_length q.0 p.0)
one_later header raws plan refusal other rest (inr p) (inr q) = rest p.1 q.1

pub one_fail : (w : Walk) (raws : List Raw) (refusal other : BoxRefusal)
    → HeadersFail w raws refusal → HeadersFail w raws other → refusal ≡ other
one_fail w [] refusal other p q = absurd p
one_fail w (raw ∷ raws) refusal other (inl p) (inl q) =
    p.2 ∙ ap BoxHeader (one_begins_not w raw.header p.0 q.0 p.1 q.1) ∙ sym q.2
one_fail w (raw ∷ raws) refusal other (inl p) (inr q) =
    absurd (begins_apart w raw.header q.0 p.0 q.1 p.1)
one_fail w (raw ∷ raws) refusal other (inr p) (inl q) =
    absurd (begins_apart w raw.header p.0 q.0 p.1 q.1)
one_fail w (raw ∷ raws) refusal other (inr p) (inr q) =
    one_later raw.header raws p.0 refusal other
    (λ a b. one_fail (next_walk p.0.known 0) raws refusal other a b) p.2
    (subst (Later raw.header raws other) (sym (one_begins w raw.header p.0 q.0 p.1 q.1)) q.2)

never_later : (header : List ℕ) (raws : List Raw) (plan : PlanFields) (refusal : BoxRefusal)
    → plan.header_length ≡ length header
    → (HeadersFail (next_walk plan.known 0) raws refusal → ⊥)
    → Later header raws refusal plan → ⊥
never_later header raws plan refusal long rest (inl p) = longer header plan.header_length p.0 long
never_later header raws plan refusal long rest (inr p) = rest p.1

pub pass_apart : (w : Walk) (raws : List Raw) (plans : List PlanFields) (refusal : BoxRefusal)
    → HeadersPass w raws plans → HeadersFail w raws refusal → ⊥
pass_apart w [] plans refusal p q = q
pass_apart w (raw ∷ raws) [] refusal p q = p
pass_apart w (raw ∷ raws) (x ∷ plans) refusal p (inl q) =
    begins_apart w raw.header x q.0 p.0 q.1
pass_apart w (raw ∷ raws) (x ∷ plans) refusal p (inr q) =
    never_later raw.header raws x refusal p.1
    (λ a. pass_apart (next_walk x.known 0) raws plans refusal p.2 a)
    (subst (Later raw.header raws refusal) (sym (one_begins w raw.header x q.0 p.0 q.1)) q.2)
