-- Steps of the walk over segments.
use Rattle.std.proofs.Common.{◌≡◌, ◌≢◌, ℕ, ◌+◌, ◌-◌, ◌≤◌, false, not, cond, List, [], ◌∷◌, ◌++◌, length, take, drop, flat_map, fold, Option, Some, None, refl, ap, sym, ◌∙◌, arith, append_assoc, length-append, subst, eqb, IsTrue, inr, Result, Ok, Err, IfOk, IfErr}
use Rattle.std.proofs.lemmas.List.{append-nil, take-append-drop, length-take-le}
use Rattle.std.proofs.lemmas.List.Concat.{flat_map-append}
use Rattle.std.proofs.lemmas.Bool.Decides.{nat_tests}
use Rattle.std.proofs.lemmas.Grind.{fold-append}
use Rattle.jpeg_marker.specs.declared.refusal.HeaderRefusal.{HeaderRefusal}
use Rattle.jpeg_marker.specs.declared.definitions.Definitions.{Definitions}
use Rattle.jpeg_marker.specs.HeaderRefusals.{fault_in}
use Rattle.jpeg_marker.specs.MarkerSegments.{Segment, segment_text, last_of}
use Rattle.jpeg_marker.specs.HuffmanTables.{tables_in, tables_of}
use Rattle.jpeg_marker.specs.HeldTables.{tables_kept}
use Rattle.jpeg_marker.specs.Frames.{frames_in}
use Rattle.jpeg_marker.specs.Plans.{PlanFields, scan_fault, plan_after}
use Rattle.jpeg_marker.specs.Walks.{Walk, walk_text}
use Rattle.jpeg_marker.specs.GoodSegments.{IsGood, AreGoodAfter, HaveNoScan, segment_fault, body_fault, fault_of, length_place, known_after, intervals_in}
use Rattle.jpeg_marker.specs.StandingSegments.{Stands}
use Rattle.jpeg_marker.proofs.HeaderWalks.{Walked}
use Rattle.jpeg_marker.specs.HeaderPlan.{Begins, Stops}
use Rattle.jpeg_marker.proofs.TableLists.{tables_kept-append}

-- what is known after segments and then others
pub known_after-append : (before : Definitions) (segments more : List Segment) → known_after (known_after before segments) more ≡ known_after before (segments ++ more)
known_after-append before segments more =
    let frames : last_of (last_of before.frame (flat_map frames_in segments)) (flat_map frames_in more) ≡ last_of before.frame (flat_map frames_in (segments ++ more)) =
    sym (ap (last_of before.frame) (flat_map-append frames_in segments more) ∙ fold-append (λ _ x. Some x) before.frame (flat_map frames_in segments) (flat_map frames_in more)) in
    let tables : tables_kept (tables_kept before.tables (tables_of segments)) (tables_of more) ≡ tables_kept before.tables (tables_of (segments ++ more)) =
    tables_kept-append before.tables (tables_of segments) (tables_of more) ∙ ap (tables_kept before.tables) (sym (flat_map-append tables_in segments more)) in
    let intervals : fold (λ _ n. n) (fold (λ _ n. n) before.interval (flat_map intervals_in segments)) (flat_map intervals_in more) ≡ fold (λ _ n. n) before.interval (flat_map intervals_in (segments ++ more)) =
    sym (ap (fold (λ _ n. n) before.interval) (flat_map-append intervals_in segments more) ∙ fold-append (λ _ n. n) before.interval (flat_map intervals_in segments) (flat_map intervals_in more)) in
    rw (frames, tables, intervals) refl

not_equal : (a b : ℕ) → a ≢ b → IsTrue (not (eqb a b))
not_equal a b h = grind (arith, nat_tests)

other_code : (a b : ℕ) → a ≢ b → eqb a b ≡ false
other_code a b h = grind (arith, nat_tests)

-- one more segment
pub walk_text-push : (w : Walk) (segments : List Segment) (s : Segment) → walk_text w (segments ++ s ∷ []) ≡ walk_text w segments ++ segment_text s
walk_text-push w segments s = ap (λ text. w.start ++ text) (flat_map-append segment_text segments (s ∷ []) ∙ ap (λ text. flat_map segment_text segments ++ text) (append-nil (segment_text s))) ∙ sym (append_assoc w.start (flat_map segment_text segments) (segment_text s))

AreGoodAfter-push : (w : Walk) (before segments : List Segment) (s : Segment) → AreGoodAfter w before segments → IsGood w (before ++ segments) s → AreGoodAfter w before (segments ++ s ∷ [])
AreGoodAfter-push w before [] s good here = (subst (λ (b : List Segment). IsGood w b s) (append-nil before) here, tt)
AreGoodAfter-push w before (t ∷ segments) s good here = (good.0, AreGoodAfter-push w (before ++ t ∷ []) segments s good.1 (subst (λ (b : List Segment). IsGood w b s) (sym (append_assoc before (t ∷ []) segments)) here))

HaveNoScan-push : (segments : List Segment) (s : Segment) → HaveNoScan segments → IsTrue (not (eqb s.code 218)) → HaveNoScan (segments ++ s ∷ [])
HaveNoScan-push [] s none here = (here, tt)
HaveNoScan-push (t ∷ segments) s none here = (none.0, HaveNoScan-push segments s none.1 here)

-- a segment that stands where the walk has come to
abbrev pub stood : (rest : List ℕ) (place code at : ℕ) (body after : List ℕ) → Stands rest place code at body after → Segment
stood rest place code at body after s = record { fill = s.fill; code = code; body = body }

-- what the walk finds of it is what is to be found after the segments before it
fault_here : (w : Walk) (bytes rest after body : List ℕ) (place code at : ℕ) (found : Definitions) (k : Walked w bytes rest place found) (s : Stands rest place code at body after) → body_fault w.scans found at code body ≡ fault_of w k.segments (length_place w k.segments (stood rest place code at body after s)) (stood rest place code at body after s)
fault_here w bytes rest after body place code at found k s =
    ap (λ known. body_fault w.scans known at code body) k.knows
    ∙ ap (λ p. body_fault w.scans (known_after w.known k.segments) p code body) (s.length_at ∙ ap (λ p. p + s.fill + 2) k.here)

text_here : (w : Walk) (bytes rest after body : List ℕ) (place code at : ℕ) (found : Definitions) (k : Walked w bytes rest place found) (s : Stands rest place code at body after) → bytes ≡ walk_text w (k.segments ++ stood rest place code at body after s ∷ []) ++ after
text_here w bytes rest after body place code at found k s =
    let t = stood rest place code at body after s in
    k.text ∙ ap (λ back. walk_text w k.segments ++ back) s.text ∙ sym (append_assoc (walk_text w k.segments) (segment_text t) after) ∙ ap (λ prefix. prefix ++ after) (sym (walk_text-push w k.segments t))

end_here : (bytes prefix after : List ℕ) → bytes ≡ prefix ++ after → length bytes - length after ≡ length prefix
end_here bytes prefix after text = omega (arith, ap length text, length-append prefix after)

-- a segment that isn't a scan's has the fault of other segments
other_fault : (w : Walk) (found : Definitions) (at code : ℕ) (body : List ℕ) → code ≢ 218 → body_fault w.scans found at code body ≡ segment_fault found at code body
other_fault w found at code body other = ap (λ b. cond b (scan_fault w.scans found found.frame at body) (segment_fault found at code body)) (other_code code 218 other)

pub scan_here : (w : Walk) (found : Definitions) (at code : ℕ) (body : List ℕ) → code ≡ 218 → body_fault w.scans found at code body ≡ scan_fault w.scans found found.frame at body
scan_here w found at code body scan = ap (λ n. body_fault w.scans found at n body) scan

pub Walked-more : (w : Walk) (bytes rest after body : List ℕ) (place code at : ℕ) (found new : Definitions) → Walked w bytes rest place found → Stands rest place code at body after → code ≢ 218 → segment_fault found at code body ≡ None → ((fill : ℕ) → new ≡ known_after found (record { fill = fill; code = code; body = body } ∷ [])) → Walked w bytes after (w.place + (length bytes - length after)) new
Walked-more w bytes rest after body place code at found new k s other checked kept =
    let t = stood rest place code at body after s in
    let text = text_here w bytes rest after body place code at found k s in
    let good : IsGood w k.segments t = record { whole = s.whole; checked = sym (fault_here w bytes rest after body place code at found k s) ∙ other_fault w found at code body other ∙ checked } in
    record {
      segments = k.segments ++ t ∷ [];
      passed = record { good = AreGoodAfter-push w [] k.segments t k.passed.good good; no_scan = HaveNoScan-push k.segments t k.passed.no_scan (not_equal code 218 other) };
      text = text;
      here = ap (λ n. w.place + n) (end_here bytes (walk_text w (k.segments ++ t ∷ [])) after text);
      knows = kept s.fill ∙ ap (λ known. known_after known (t ∷ [])) k.knows ∙ known_after-append w.known k.segments (t ∷ []);
    }

pub stops_checked : (w : Walk) (bytes rest after body : List ℕ) (place code at : ℕ) (found : Definitions) (r : HeaderRefusal) → Walked w bytes rest place found → Stands rest place code at body after → body_fault w.scans found at code body ≡ Some r → Stops w bytes r
stops_checked w bytes rest after body place code at found r k s fault =
    record { before = k.segments; rest = rest; passed = k.passed; text = k.text; stuck = inr (stood rest place code at body after s, after, s.whole, s.text, sym (fault_here w bytes rest after body place code at found k s) ∙ fault) }

pub begins_here : (w : Walk) (bytes rest after body : List ℕ) (place code at : ℕ) (found : Definitions) (plan : PlanFields) → Walked w bytes rest place found → Stands rest place code at body after → code ≡ 218 → scan_fault w.scans found found.frame at body ≡ None → plan_after found found.frame (length bytes - length after) body ≡ Some plan → Begins w bytes plan
begins_here w bytes rest after body place code at found plan k s scan checked says =
    let t = stood rest place code at body after s in
    let text = text_here w bytes rest after body place code at found k s in
    record {
      before = k.segments;
      scan = t;
      rest = after;
      header = record { passed = k.passed; good = record { whole = s.whole; checked = sym (fault_here w bytes rest after body place code at found k s) ∙ scan_here w found at code body scan ∙ checked }; last = scan };
      text = text;
      says =
          ap (λ n. plan_after (known_after w.known k.segments) (known_after w.known k.segments).frame n body) (sym (end_here bytes (walk_text w (k.segments ++ t ∷ [])) after text))
          ∙ ap (λ (known : Definitions). plan_after known known.frame (length bytes - length after) body) (sym k.knows)
          ∙ says;
    }

-- what a check says, from what it came to
pub ok_checked : {A : Type 0} (r : Result A HeaderRefusal) (fault : Option HeaderRefusal) (P Q : A → Type 0) → fault_in r ≡ fault → ((x : A) → fault ≡ None → P x → Q x) → IfOk r P → IfOk r Q
ok_checked (Ok x) fault P Q same f p = f x (sym same) p
ok_checked (Err e) fault P Q same f p = tt

pub err_checked : {A : Type 0} (r : Result A HeaderRefusal) (fault : Option HeaderRefusal) (Q : HeaderRefusal → Type 0) → fault_in r ≡ fault → ((e : HeaderRefusal) → fault ≡ Some e → Q e) → IfErr r Q
err_checked (Ok x) fault Q same f = tt
err_checked (Err e) fault Q same f = f e (sym same)

-- the start of the walk
pub Walked-start : (w : Walk) (bytes rest : List ℕ) (n : ℕ) (found : Definitions) → w.start ≡ take n bytes → n ≤ length bytes → rest ≡ drop n bytes → found ≡ known_after w.known [] → Walked w bytes rest (w.place + n) found
Walked-start w bytes rest n found start within is known = record {
  segments = [];
  passed = record { good = tt; no_scan = tt };
  text = sym (take-append-drop n bytes) ∙ ap (λ (l : List ℕ). l ++ drop n bytes) (sym start ∙ sym (append-nil w.start)) ∙ ap (λ (l : List ℕ). (w.start ++ []) ++ l) (sym is);
  here = ap (λ m. w.place + m) (sym (length-take-le n bytes within) ∙ ap length (sym start ∙ sym (append-nil w.start)));
  knows = known;
}

-- what follows a segment is shorter
pub Stands-shorter : (rest after body : List ℕ) (place code at : ℕ) → Stands rest place code at body after → length after ≤ length rest
Stands-shorter rest after body place code at s = omega (arith, ap length s.text, length-append (segment_text (stood rest place code at body after s)) after)
