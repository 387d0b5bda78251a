-- Each kind of step keeps the rule of the table, and tells what its play says.
use Rattle.std.proofs.Common.{◌≡◌, ℕ, zero, suc, ◌+◌, ◌%◌, ◌^◌, ◌⊎◌, eqb, ◌≢◌, List, [], ◌∷◌, ◌++◌, length, get_or, set, sym, refl, ap, ◌∙◌, subst, ⊎_elim, inl, inr, arith, length-set, get_or-set_other, get_or-set_same, length-append, Option as Maybe, Some, None}
use mathlib.Core.Logic.{dite}
use mathlib.Core.Option.{Option, none, some, some-injective, some-ne-none}
use mathlib.Core.List.{map-append}
use native.Mathlib.Decide.{ℕ_discrete}
use lib.ListN.{get_elem?}
use lib.Seq.{set-get_or, map-set}
use Rattle.std.proofs.Math.Nat.{mod-add-mod}
use prog.Atomic.{either}
use Rattle.atomic_table.specs.Table.{State, step, keeps, takes, gives, stepped, Allows, Splits, Final, Seen, rest}
use Rattle.atomic_table.proofs.Lists.{at_set, set_again, at_map, at_longer, set_else, exchanged}
use Rattle.seat_lock.specs.declared.known.Known.{Known}
use Rattle.seat_lock.specs.declared.known.Slot.{Slot}
use Rattle.seat_lock.specs.declared.known.Slot.TheVariants.{Home, Note, Out}
use Rattle.seat_lock.specs.declared.known.Stage.{Stage}
use Rattle.seat_lock.specs.declared.known.Stage.TheVariants.{Idle, Holds, Told}
use Rattle.seat_lock.specs.TurnRule.{Seated, FitsAgain, seen_by, views_of, view_before, found_in, rings_in, AllIdle, OthersIdle, IsNumbered, IsCounted, AtHome, Away, IsKept}
use Rattle.seat_lock.specs.TurnSteps.{holding, idle, changed, tried, after_note, told, given, giver, newcomer, ringer, rung}
use Rattle.seat_lock.proofs.SeatLists.{set_at, set_twice, set_across, set_prefix, at_end, in_one, only_one}

none_some : {X : Type 0} (x : X) → None ≡ Some x → ⊥
none_some x e = absurd (cc)

-- an idle seat found nothing
not_both : {V X : Type 0} (x : X) (stage : Stage V X) → stage ≡ Idle → found_in stage ≡ Some x → ⊥
not_both x stage e f = none_some x (sym (ap found_in e) ∙ f)

abbrev value_or : {X : Type 0} → X → Maybe X → X
value_or d (Some x) = x
value_or d None = d

abbrev pub pair_of : {A B : Type 0} → A → B → A × B
pair_of a b = (a, b)

-- the slot taken last is the first of those taken
pub again_at : {S : Type 0} (slots : List (ℕ × S)) (x : S) → slots ≡ (0, x) ∷ []
    → (old : S) × (slots ≡ (0, old) ∷ rest slots)
again_at slots x at = (x, at ∙ ap (λ l. (0, x) ∷ rest l) (sym at))

-- a seat that rang has the view that it had
view_rung : {V X E : Type 0} (k : Known V X E) (stage : Stage V X)
    → view_before (ringer k) stage ≡ view_before k stage
view_rung k Idle = refl
view_rung k (Holds found) = refl
view_rung k (Told found view) = refl

-- the rings of all seats, after one of them rang n times
rings_by : {V X E : Type 0} (n : ℕ) (ks : List (Known V X E)) (id : ℕ) (k w : Known V X E)
    → get_elem? ks id ≡ some k → w.rings ≡ k.rings + n → rings_in (set ks id w) ≡ rings_in ks + n
rings_by n [] id k w at more = absurd (some-ne-none k (sym at))
rings_by {V} {X} {E} n (x ∷ xs) zero k w at more =
    let same = ap (λ (y : Known V X E). y.rings) (some-injective x k at) in omega arith
rings_by n (x ∷ xs) (suc id) k w at more = let others = rings_by n xs id k w at more in omega arith

-- the rings of all seats and another one
rings_more : {V X E : Type 0} (ks : List (Known V X E)) (k : Known V X E)
    → rings_in (ks ++ k ∷ []) ≡ rings_in ks + k.rings
rings_more [] k = omega arith
rings_more (x ∷ xs) k = let others = rings_more xs k in omega arith

-- what holds of all seats after one of them changes
module _ {V X : Type 0} (E : Type 0) (ks : List (Known V X E)) (id : ℕ) (k w : Known V X E)
    (at : get_elem? ks id ≡ some k) where
  -- a seat of the new list is the one that changed, or another, as it was
  changed_or : (P : ℕ → Known V X E → Type 0) → P id w
      → ((j : ℕ) (y : Known V X E) → j ≢ id → get_elem? ks j ≡ some y → P j y)
      → (j : ℕ) (y : Known V X E) → get_elem? (set ks id w) j ≡ some y → P j y
  changed_or P mine other j y e = ⊎_elim
      (λ (t : (j ≡ id) × (w ≡ y)). subst (λ (z : ℕ × Known V X E). P z.0 z.1) (λ i. (sym t.0 i, t.1 i)) mine)
      (λ (t : (j ≢ id) × (get_elem? ks j ≡ some y)). other j y t.0 t.1)
      (at_set ks id j w y e)

  others_set : OthersIdle id ks → OthersIdle id (set ks id w)
  others_set h =
      changed_or (λ j y. j ≢ id → y.stage ≡ Idle) (λ ne. absurd (ne refl)) (λ j y ne e _. h j y e ne)

  all_set : w.stage ≡ Idle → OthersIdle id ks → AllIdle (set ks id w)
  all_set is h = changed_or (λ j y. y.stage ≡ Idle) is (λ j y ne e. h j y e ne)

  numbered_set : w.number ≡ k.number → IsNumbered ks → IsNumbered (set ks id w)
  numbered_set same h = changed_or (λ j y. y.number ≡ j) (same ∙ h id k at) (λ j y _ e. h j y e)

  counted_set : w.splits ≡ k.splits → IsCounted ks → IsCounted (set ks id w)
  counted_set same h y e =
      let long = length-set ks id w in
      let first = λ (z : id ≡ 0). h k (ap (get_elem? ks) (sym z) ∙ at) ∙ ap (λ (n : ℕ). n + 1) (sym same) in
      changed_or (λ j (x : Known V X E). j ≡ 0 → length (set ks id w) ≡ x.splits + 1)
      (λ z. long ∙ first z)
      (λ j x _ t z. long ∙ h x (ap (get_elem? ks) (sym z) ∙ t))
      0 y e refl

  rings_set : w.rings ≡ k.rings → rings_in (set ks id w) ≡ rings_in ks
  rings_set same =
      let more : w.rings ≡ k.rings + 0 = omega (arith, same) in
      let all = rings_by 0 ks id k w at more in
      omega arith

module _ {V X : Type 0} (E : Type 0) (fits : X → List V → Type 0) where
  -- the views after one changes, with that one as v
  as_before : (x : X) (ks : List (Known V X E)) (id : ℕ) (w : Known V X E) (v : V)
      → fits x (set (views_of ks) id v) → fits x (set (views_of (set ks id w)) id v)
  as_before x ks id w v =
      let same = ap (λ l. set l id v) (map-set seen_by ks id w) ∙ set_twice (views_of ks) id w.view v in
      subst (fits x) (sym same)

  -- a view that stays
  here_again : (x : X) (ks : List (Known V X E)) (id : ℕ) (k : Known V X E) → get_elem? ks id ≡ some k
      → fits x (views_of ks) → fits x (set (views_of ks) id k.view)
  here_again x ks id k at = subst (fits x) (sym (set_again (views_of ks) id k.view (at_map seen_by ks id k at)))

  -- a step that changes nothing
  unmoved : (s : State (Slot X E) (Known V X E)) (i id : ℕ) (k : Known V X E) (cs : List (ℕ × Slot X E))
      → get_elem? s.views id ≡ some k → IsKept fits s
      → IsKept fits (stepped s i (get_or s.words i 0) id cs k keeps)
  unmoved s i id k cs at kept =
      subst (λ (z : List ℕ × List (Known V X E)). IsKept fits record { words = z.0; homes = s.homes; views = z.1 })
      (λ j. (sym (set-get_or s.words i 0) j, sym (set_again s.views id k at) j)) kept

  -- a table after a step on the turn
  abbrev turned : State (Slot X E) (Known V X E) → ℕ → Known V X E → ℕ → List (Option (Slot X E))
      → State (Slot X E) (Known V X E)
  turned s id w turn homes = record { words = set s.words 0 turn; homes = homes; views = set s.views id w }

  module _ (s : State (Slot X E) (Known V X E)) (kept : IsKept fits s) (id : ℕ) (k : Known V X E)
      (at : get_elem? s.views id ≡ some k) where
    -- a step on the turn by which a seat keeps its number and its splits
    turned_by : (w : Known V X E) (turn : ℕ) (homes : List (Option (Slot X E)))
        → w.number ≡ k.number → w.splits ≡ k.splits → w.rings ≡ k.rings
        → (get_or (set s.words 0 turn) 0 0 ≡ turn
        → AtHome fits (turned s id w turn homes) ⊎ Away fits (turned s id w turn homes))
        → IsKept fits (turned s id w turn homes)
    turned_by w turn homes number splits rings then =
        let long = kept.words in
        let bell = get_or-set_other s.words 0 1 turn 0 (λ e. omega arith) in
        record {
          words = length-set s.words 0 turn ∙ long;
          numbered = numbered_set E s.views id k w at number kept.numbered;
          counted = counted_set E s.views id k w at splits kept.counted;
          bell = bell ∙ kept.bell ∙ ap (λ n. n % 2 ^ 64) (sym (rings_set E s.views id k w at rings));
          turn = then (get_or-set_same s.words 0 turn 0 (omega arith));
        }

    -- a seat that found a value is the one that has the turn
    the_holder : (x : X) → found_in k.stage ≡ Some x
        → (s.homes ≡ none ∷ []) × fits x (set (views_of s.views) id (view_before k k.stage)) × OthersIdle id s.views
    the_holder x finds = ⊎_elim
        (λ (h : AtHome fits s). absurd (not_both x k.stage (h.idle id k at) finds))
        (λ (h : Away fits s). dite (ℕ_discrete id h.number)
        (λ same.
        let here : k ≡ h.holder = some-injective _ _ (sym at ∙ (ap (get_elem? s.views) same ∙ h.at)) in
        let its = ap (λ (y : Known V X E). found_in y.stage) (sym here) ∙ finds in
        let value : h.found ≡ x = ap (value_or x) (sym h.finds ∙ its) in (
          h.out,
          subst (λ (z : X × ℕ × Known V X E). fits z.0 (set (views_of s.views) z.1 (view_before z.2 z.2.stage)))
              (λ i. (value i, sym same i, sym here i)) h.fitted,
          subst (λ n. OthersIdle n s.views) (sym same) h.others,
        ))
        (λ ne. absurd (not_both x k.stage (h.others id k at ne) finds)))
        kept.turn

  -- kind 1
  pub tries : (slots id : ℕ) (me : Seated V X E) → me.0.stage ≡ Idle
      → Allows (IsKept fits) slots id me 0 (λ n. either (eqb n 0) 1 n) (tried fits (step slots 0 0 1 none) me)
  tries slots id me is s kept wide at small = ⊎_elim
      (λ (h : AtHome fits s).
      let x = h.value in
      let w = holding me.0 x in
      let there = at_map seen_by s.views id me.0 at in (
        w,
        takes 0 (Home x),
        ap (λ hs. get_elem? hs 0) h.home,
        exchanged (get_or s.words 0 0) 0 1 (λ n. IsKept fits (stepped s 0 n id me.1 w (takes 0 (Home x))))
            (λ _. turned_by s kept id me.0 at w 1 _ refl refl refl (λ turn. inr record {
              turn = turn;
              number = id;
              holder = w;
              found = x;
              at = set_at s.views id me.0 w at;
              finds = refl;
              out = ap (λ hs. set hs 0 none) h.home;
              fitted = as_before x s.views id w w.view (here_again x s.views id me.0 at h.fitted);
              others = others_set E s.views id me.0 w at (λ j k a _. h.idle j k a);
            }))
            (λ ne. absurd (ne h.turn)),
        record {
          free = λ _. record {
            found = x;
            seat = refl;
            among = record {
              views = views_of s.views;
              fitted = h.fitted;
              at = ap (get_elem? (views_of s.views)) (kept.numbered id me.0 at) ∙ there;
            };
          };
          taken = λ ne. absurd (ne h.turn);
        },
      ))
      (λ (h : Away fits s). let one = h.turn in (
        me.0,
        keeps,
        tt,
        exchanged (get_or s.words 0 0) 0 1 (λ n. IsKept fits (stepped s 0 n id me.1 me.0 keeps))
            (λ e. absurd (omega arith))
            (λ _. unmoved s 0 id me.0 me.1 at kept),
        record { free = λ e. absurd (omega arith); taken = λ _. refl },
      ))
      kept.turn

  -- kind 3
  pub tells : (after : V → ℕ → ℕ → E → X → V) (slots id : ℕ) (me : Seated V X E)
      (kind amount : ℕ) (entry : E) (found : X)
      → me.1 ≡ (0, Note kind amount entry) ∷ [] → me.0.stage ≡ Holds found
      → Allows (IsKept fits) slots id me 0 (λ _. 1) (λ _. told after (step slots 0 1 0 none) me 1)
  tells after slots id me kind amount entry found note is s kept wide at small =
      let h = the_holder s kept id me.0 at found (ap found_in is) in
      let w = changed after me.0 kind amount entry found in
      let before = subst (λ stage. fits found (set (views_of s.views) id (view_before me.0 stage))) is h.1 in (
        w,
        keeps,
        tt,
        turned_by s kept id me.0 at w 1 _ refl refl refl (λ turn. inr record {
          turn = turn;
          number = id;
          holder = w;
          found = found;
          at = set_at s.views id me.0 w at;
          finds = refl;
          out = h.0;
          fitted = as_before found s.views id w me.0.view before;
          others = others_set E s.views id me.0 w at h.2;
        }),
        λ i. (after_note after me.0 (sym note i) (sym is i), me.1),
      )

  -- kind 5
  pub hands_back : (slots id : ℕ) (me : Seated V X E) (found left : X) (old : V)
      → me.1 ≡ (0, Home left) ∷ [] → me.0.stage ≡ Told found old
      → FitsAgain fits me.0.number old me.0.view found left
      → Allows (IsKept fits) slots id me 0 (λ _. 0) (λ _. given (step slots 0 0 0 none) me 0)
  hands_back slots id me found left old has is again s kept wide at small =
      let h = the_holder s kept id me.0 at found (ap found_in is) in
      let w = idle me.0 in
      let vs = views_of s.views in
      let before = subst (λ stage. fits found (set vs id (view_before me.0 stage))) is h.1 in
      let here : FitsAgain fits id old me.0.view found left =
      subst (λ n. FitsAgain fits n old me.0.view found left) (kept.numbered id me.0 at) again in
      let now : fits left (set (set vs id old) id me.0.view) =
      here (set vs id old) before (set_at vs id me.0.view old (at_map seen_by s.views id me.0 at)) in (
        w,
        gives,
        tt,
        subst (λ (cs : List (ℕ × Slot X E)). IsKept fits (stepped s 0 0 id cs w gives)) (sym has)
            (turned_by s kept id me.0 at w 0 _ refl refl refl (λ turn. inl record {
              turn = turn;
              value = left;
              home = ap (λ hs. set hs 0 (some (Home left))) h.0;
              fitted = subst (fits left) (set_twice vs id old me.0.view ∙ sym (map-set seen_by s.views id w)) now;
              idle = all_set E s.views id me.0 w at refl h.2;
            })),
        refl,
      )

  -- kind 7: the bell is another word than the turn
  pub rings : (slots id : ℕ) (me : Seated V X E)
      → Allows (IsKept fits) slots id me 1 (λ n. (n + 1) % 2 ^ 64) (rung (step slots 1 1 0 none) me)
  rings slots id me s kept wide at small =
      let n : ℕ = (get_or s.words 1 0 + 1) % 2 ^ 64 in
      let w = ringer me.0 in
      let long = kept.words in
      let same : get_or (set s.words 1 n) 0 0 ≡ get_or s.words 0 0 =
      get_or-set_other s.words 1 0 n 0 (λ e. omega arith) in
      let put : get_or (set s.words 1 n) 1 0 ≡ n = get_or-set_same s.words 1 n 0 (omega arith) in
      let more : rings_in (set s.views id w) ≡ rings_in s.views + 1 = rings_by 1 s.views id me.0 w at refl in
      let bell : n ≡ (rings_in s.views + 1) % 2 ^ 64 =
      ap (λ (m : ℕ). (m + 1) % 2 ^ 64) kept.bell ∙ mod-add-mod (rings_in s.views) (2 ^ 64) 1 in
      let seen : views_of (set s.views id w) ≡ views_of s.views =
      map-set seen_by s.views id w
      ∙ set_again (views_of s.views) id me.0.view (at_map seen_by s.views id me.0 at) in (
        w,
        keeps,
        tt,
        record {
          words = length-set s.words 1 n ∙ kept.words;
          numbered = numbered_set E s.views id me.0 w at refl kept.numbered;
          counted = counted_set E s.views id me.0 w at refl kept.counted;
          bell = put ∙ bell ∙ ap (λ (m : ℕ). m % 2 ^ 64) (sym more);
          turn = ⊎_elim
              (λ (h : AtHome fits s). inl record {
                turn = same ∙ h.turn;
                value = h.value;
                home = h.home;
                fitted = subst (fits h.value) (sym seen) h.fitted;
                idle = changed_or E s.views id me.0 w at (λ j y. y.stage ≡ Idle)
                    (h.idle id me.0 at) (λ j y _ e. h.idle j y e);
              })
              (λ (h : Away fits s). dite (ℕ_discrete id h.number)
              (λ it.
              let here : me.0 ≡ h.holder = some-injective _ _ (sym at ∙ (ap (get_elem? s.views) it ∙ h.at)) in
              let finds = ap (λ (y : Known V X E). found_in y.stage) here ∙ h.finds in
              let its = the_holder s kept id me.0 at h.found finds in
              inr record {
                turn = same ∙ h.turn;
                number = id;
                holder = w;
                found = h.found;
                at = set_at s.views id me.0 w at;
                finds = finds;
                out = h.out;
                fitted = as_before h.found s.views id w (view_before w me.0.stage)
                    (subst (λ v. fits h.found (set (views_of s.views) id v)) (sym (view_rung me.0 me.0.stage)) its.1);
                others = others_set E s.views id me.0 w at its.2;
              })
              (λ ne. inr record {
                turn = same ∙ h.turn;
                number = h.number;
                holder = h.holder;
                found = h.found;
                at = set_else s.views id h.number w (λ e. ne (sym e)) ∙ h.at;
                finds = h.finds;
                out = h.out;
                fitted = subst (λ vs. fits h.found (set vs h.number (view_before h.holder h.holder.stage)))
                    (sym seen) h.fitted;
                others = changed_or E s.views id me.0 w at (λ j y. j ≢ h.number → y.stage ≡ Idle)
                    (λ _. h.others id me.0 at ne) (λ j y _ e there. h.others j y e there);
              }))
              kept.turn;
        },
        refl,
      )

  -- kind 6
  pub splits : (left right : V → V) (may : V → Type 0)
      → ((x : X) (views : List V) (number : ℕ) (v : V) → fits x views → get_elem? views number ≡ some v → may v
      → fits x (set views number (left v) ++ right v ∷ []))
      → (id : ℕ) (k : Known V X E) → k.number ≡ 0 → k.stage ≡ Idle → may k.view
      → Splits (IsKept fits) id k (giver left k) (newcomer right k)
  splits left right may law id k first rests allowed s kept at =
      let w = giver left k in
      let new = newcomer right k in
      let vs : List (Known V X E) = set s.views id w in
      let views = views_of s.views in
      let first_is : id ≡ 0 = sym (kept.numbered id k at) ∙ first in
      let count : length s.views ≡ k.splits + 1 = kept.counted k (ap (get_elem? s.views) (sym first_is) ∙ at) in
      let same_length : length vs ≡ length s.views = length-set s.views id w in
      let long : length (vs ++ new ∷ []) ≡ length s.views + 1 =
      length-append vs (new ∷ []) ∙ ap (λ (n : ℕ). n + 1) same_length in
      let seen : views_of (vs ++ new ∷ []) ≡ set views id (left k.view) ++ right k.view ∷ [] =
      map-append seen_by vs (new ∷ []) ∙ ap (λ l. l ++ right k.view ∷ []) (map-set seen_by s.views id w) in
      let there = at_map seen_by s.views id k at in
      let rung : rings_in (vs ++ new ∷ []) ≡ rings_in s.views =
      let all = rings_more vs new in let others = rings_set E s.views id k w at refl in omega arith in
      let old_or_new = λ (P : ℕ → Known V X E → Type 0)
      (was : (j : ℕ) (y : Known V X E) → j ≢ id → get_elem? s.views j ≡ some y → P j y)
      (mine : P id w) (fresh : P (length vs) new)
      (j : ℕ) (y : Known V X E) (e : get_elem? (vs ++ new ∷ []) j ≡ some y).
      ⊎_elim
      (λ (t : get_elem? vs j ≡ some y). changed_or E s.views id k w at P mine was j y t)
      (λ (t : (j ≡ length vs) × (new ≡ y)).
      subst (λ (z : ℕ × Known V X E). P z.0 z.1) (λ i. (sym t.0 i, t.1 i)) fresh)
      (at_end vs new y j e) in
      record {
        words = kept.words;
        numbered = old_or_new (λ j y. y.number ≡ j)
            (λ j y _ e. kept.numbered j y e) (kept.numbered id k at) (sym count ∙ sym same_length);
        counted = λ y e. old_or_new (λ j (x : Known V X E). j ≡ 0 → length (vs ++ new ∷ []) ≡ x.splits + 1)
            (λ j x ne _ is. absurd (ne (is ∙ sym first_is)))
            (λ _. long ∙ ap (λ (n : ℕ). n + 1) count)
            (λ is. absurd (omega arith))
            0 y e refl;
        bell = kept.bell ∙ ap (λ (n : ℕ). n % 2 ^ 64) (sym rung);
        turn = ⊎_elim
            (λ (h : AtHome fits s). inl record {
              turn = h.turn;
              value = h.value;
              home = h.home;
              fitted = subst (fits h.value) (sym seen) (law h.value views id k.view h.fitted there allowed);
              idle = old_or_new (λ j y. y.stage ≡ Idle) (λ j y _ e. h.idle j y e) (h.idle id k at) refl;
            })
            (λ (h : Away fits s).
            let its = ap (λ (y : Known V X E). y.stage) in
            let apart : h.number ≢ id = λ same.
            let one = some-injective h.holder k (sym h.at ∙ (ap (get_elem? s.views) same ∙ at)) in
            not_both h.found h.holder.stage (its one ∙ rests) h.finds in
            let old : V = view_before h.holder h.holder.stage in
            let held = at_map seen_by s.views h.number h.holder h.at in
            let here = set_else views h.number id old (λ e. apart (sym e)) ∙ there in
            let fitted = law h.found (set views h.number old) id k.view h.fitted here allowed in
            let further = set_else views id h.number (left k.view) apart ∙ held in
            let put = set_prefix (set views id (left k.view)) (right k.view ∷ []) h.number h.holder.view old further in
            let same : set (set views h.number old) id (left k.view) ++ right k.view ∷ []
            ≡ set (views_of (vs ++ new ∷ [])) h.number old =
            ap (λ l. l ++ right k.view ∷ []) (set_across views h.number id old (left k.view) apart)
            ∙ (sym put ∙ ap (λ l. set l h.number old) (sym seen)) in
            inr record {
              turn = h.turn;
              number = h.number;
              holder = h.holder;
              found = h.found;
              at = at_longer vs (new ∷ []) h.number h.holder (set_else s.views id h.number w apart ∙ h.at);
              finds = h.finds;
              out = h.out;
              fitted = subst (fits h.found) same fitted;
              others = old_or_new (λ j y. j ≢ h.number → y.stage ≡ Idle)
                  (λ j y _ e ne. h.others j y e ne) (λ _. rests) (λ _. refl);
            })
            kept.turn;
      }

  -- the value at home, if the first seat is alone and idle
  closes : (s : State (Slot X E) (Known V X E)) → IsKept fits s → (id : ℕ) (k : Known V X E)
      → get_elem? s.views id ≡ some k → k.number ≡ 0 → k.splits ≡ 0 → k.stage ≡ Idle
      → (x : X) × (s.homes ≡ some (Home x) ∷ []) × fits x (k.view ∷ [])
  closes s kept id k at first none_split is =
      let first_is : id ≡ 0 = sym (kept.numbered id k at) ∙ first in
      let here = ap (get_elem? s.views) (sym first_is) ∙ at in
      let one : length s.views ≡ 1 = kept.counted k here ∙ ap (λ n. n + 1) none_split in
      let alone : s.views ≡ k ∷ [] = only_one s.views k here one in
      ⊎_elim
      (λ (h : AtHome fits s). (h.value, h.home, subst (λ vs. fits h.value (views_of vs)) alone h.fitted))
      (λ (h : Away fits s).
      let holds = in_one k h.holder h.number (ap (λ vs. get_elem? vs h.number) (sym alone) ∙ h.at) in
      absurd (not_both h.found k.stage is (ap (λ (y : Known V X E). found_in y.stage) holds ∙ h.finds)))
      kept.turn

  -- the value of a table whose first seat was alone
  pub closed_home : (ws : List ℕ) (xs : List (Slot X E)) (id : ℕ) (k : Known V X E) (slot : Slot X E)
      → Final (Seen (IsKept fits) id k) ws xs → get_elem? xs 0 ≡ some slot
      → k.number ≡ 0 → k.splits ≡ 0 → k.stage ≡ Idle
      → (x : X) × (slot ≡ Home x) × fits x (k.view ∷ [])
  closed_home ws xs id k slot final at first none_split is =
      let c = closes final.0 final.1.0 id k final.1.1 first none_split is in
      let home = final.4 0 (Home c.0) (ap (λ hs. get_elem? hs 0) c.1) in
      (c.0, some-injective slot (Home c.0) (sym at ∙ home), c.2)

  -- the steps of a release, one after another
  module _ (after : V → ℕ → ℕ → E → X → V) (kind amount : ℕ) (entry : E) (found : X) where
    abbrev note : ℕ × Slot X E
    note = (0, Note kind amount entry)

    abbrev left_by : Known V X E → Known V X E
    left_by k = changed after k kind amount entry found

    -- the note is recorded, at a seat that had its value out
    pub tells_note : (slots id : ℕ) (me me' : Seated V X E)
        → me' ≡ (me.0, (0, Note kind amount entry) ∷ rest me.1) → me.1 ≡ (0, Out) ∷ [] → me.0.stage ≡ Holds found
        → Allows (IsKept fits) slots id me' 0 (λ _. 1) (λ _. told after (step slots 0 1 0 none) me' 1)
    tells_note slots id me me' now out is =
        let noted = ap (λ (m : Seated V X E). m.1) now ∙ ap (λ l. note ∷ rest l) out in
        tells after slots id me' kind amount entry found noted (ap (λ (m : Seated V X E). m.0.stage) now ∙ is)

    -- the seat after that
    pub told_is : (me me' me'' : Seated V X E)
        → me' ≡ (me.0, (0, Note kind amount entry) ∷ rest me.1) → me.1 ≡ (0, Out) ∷ [] → me.0.stage ≡ Holds found
        → me'' ≡ (after_note after me'.0 me'.1 me'.0.stage, me'.1)
        → me'' ≡ (changed after me.0 kind amount entry found, (0, Note kind amount entry) ∷ [])
    told_is me me' me'' now out is then =
        then
        ∙ (ap (λ (m : Seated V X E). pair_of (after_note after m.0 m.1 m.0.stage) m.1) now
        ∙ (λ i. (after_note after me.0 (note ∷ rest (out i)) (is i), note ∷ rest (out i))))

    -- the value left is given, at a seat that has recorded its change
    pub gives_left : (slots id : ℕ) (me me'' me3 : Seated V X E) (left : X)
        → me'' ≡ (changed after me.0 kind amount entry found, (0, Note kind amount entry) ∷ [])
        → me3 ≡ (me''.0, (0, Home left) ∷ rest me''.1)
        → FitsAgain fits me.0.number me.0.view (after me.0.view kind amount entry found) found left
        → Allows (IsKept fits) slots id me3 0 (λ _. 0) (λ _. given (step slots 0 0 0 none) me3 0)
    gives_left slots id me me'' me3 left t now again =
        let all : me3 ≡ (left_by me.0, (0, Home left) ∷ []) =
        now ∙ ap (λ (m : Seated V X E). pair_of m.0 ((0, Home left) ∷ rest m.1)) t in
        let back = hands_back slots id (left_by me.0, (0, Home left) ∷ []) found left me.0.view refl refl again in
        subst
        (λ (m : Seated V X E). Allows (IsKept fits) slots id m 0 (λ _. 0) (λ _. given (step slots 0 0 0 none) m 0))
        (sym all) back

abbrev home_or : {X E : Type 0} → X → Slot X E → X
home_or d (Home x) = x
home_or d _ = d

-- the values at home are one where the slots are
pub home_of : {X E : Type 0} (x y : X) → ◌≡◌ {A = Slot X E} (Home x) (Home y) → x ≡ y
home_of x y e = ap (home_or x) e
