-- Streams between two passes over a file's scan.
use Rattle.std.proofs.Common.{◌≡◌, ℕ, ◌+◌, ◌++◌, ◌∷◌, Bool, List, [], length, map, ap, ap₂, ◌∙◌, sym, subst, arith}
use Rattle.std.specs.Prelude.{IfOk, OnOk, Result, Ok, Err}
use Rattle.std.proofs.lemmas.List.Elements.{All-push}
use Rattle.std.specs.List.{range_with_len}
use Rattle.scan_spec.specs.Items.{Refuses}
use Rattle.scan_spec.specs.Scans.{Mcu}
use Rattle.scan_spec.specs.Slots.{shape_of}
use Rattle.scan_spec.specs.declared.refusal.ScanRefusal.{ScanRefusal}
use Rattle.container_spec.specs.Files.{plan_cut, segment_mcus}
use Rattle.container_spec.specs.ScanStream.{stream_of}
use Rattle.jpeg_marker.specs.Plans.{PlanFields}
use Rattle.segment_code.specs.ReadyParts.{ReadyFields}
use Rattle.segment_code.specs.ScanPasses.{HasPassed, IsNextStream, IsNoPart, IsPartStream, PassFields, pass_cut, passed, segments_left}
use Rattle.segment_code.specs.Starting.{IsFileAt}
use Rattle.segment_code.proofs.PassesOn.{has_ended}
use Rattle.segment_encode.specs.Lanes.{AreMade, GiveEach, LaneMakes, LaneRefused, parts_in}
use Rattle.segment_encode.specs.declared.lanes.Lane.{Lane}
use Rattle.segment_encode.specs.StreamsFound.{ArePassed, AreStreams, HasPassedOn, PassRefuses}
use Rattle.segment_encode.proofs.StreamsMade.{each_on, give_more, given}

-- what a pass keeps
record Kept (old new : PassFields) : Type 0 where
  plan : new.plan ≡ old.plan
  bytes : new.bytes ≡ old.bytes
  most : new.most ≡ old.most

kept : (old new : PassFields)
    → new ≡ record old { reader = new.reader; starts = new.starts; pads = new.pads } → Kept old new
kept old new same = record {
  plan = ap (λ (p : PassFields). p.plan) same;
  bytes = ap (λ (p : PassFields). p.bytes) same;
  most = ap (λ (p : PassFields). p.most) same;
}

same_on : (old mid new : PassFields)
    → mid ≡ record old { reader = mid.reader; starts = mid.starts; pads = mid.pads }
    → new ≡ record mid { reader = new.reader; starts = new.starts; pads = new.pads }
    → new ≡ record old { reader = new.reader; starts = new.starts; pads = new.pads }
same_on old mid new e f = f ∙ ap (λ (p : PassFields).
    record p { reader = new.reader; starts = new.starts; pads = new.pads }) e

-- the plan and the bytes stay
pub plan_on : (n : ℕ) (old new : PassFields) → HasPassedOn n old new → new.plan ≡ old.plan
plan_on n old new on = (kept old new on.same).plan

-- a refusal after some segments is the scan's
pub refuses_on : (n : ℕ) (old new : PassFields) (refusal : ScanRefusal) → HasPassedOn n old new → PassRefuses new refusal → PassRefuses old refusal
refuses_on n old new refusal on r =
    let k = kept old new on.same in
    subst (λ (b : List ℕ). Refuses (shape_of old.plan) b old.plan.header_length refusal) k.bytes
    (subst (λ (plan : PlanFields). Refuses (shape_of plan) new.bytes plan.header_length refusal) k.plan r)

file_on : (old new : PassFields) (mcus : List Mcu) (pads : List Bool) (trailer : ℕ) → Kept old new
    → IsFileAt old.bytes old.plan mcus pads trailer
    → IsFileAt new.bytes new.plan mcus pads trailer
file_on old new mcus pads trailer k file =
    subst (λ (b : List ℕ). IsFileAt b new.plan mcus pads trailer) (sym k.bytes)
    (subst (λ (plan : PlanFields). IsFileAt old.bytes plan mcus pads trailer) (sym k.plan) file)

-- and one more
pub passed_more : (n : ℕ) (old mid new : PassFields) → HasPassedOn n old mid → HasPassed mid new
    → HasPassedOn (n + 1) old new
passed_more n old mid new on next =
    let more = on.more in
    let count = next.count in
    record {
      is = next.is;
      more = omega (arith, more, count);
      same = same_on old mid new on.same next.same;
    }

-- as many fewer are left
pub fewer_left : (n : ℕ) (old new : PassFields) → HasPassedOn n old new
    → segments_left new + n ≡ segments_left old
fewer_left n old new on =
    let k = kept old new on.same in
    let cut : (pass_cut new).segments ≡ (pass_cut old).segments =
    ap₂ (λ plan most. (plan_cut plan most).segments) k.plan k.most in
    let more = on.more in
    let within = on.is.within in
    omega (arith, cut, more, within)

-- the stream of the next segment, by the pass before all of them
next_is : (n : ℕ) (old mid : PassFields) (stream : List ℕ) → HasPassedOn n old mid
    → IsNextStream mid stream → (mcus : List Mcu) (pads : List Bool) (trailer : ℕ)
    → IsFileAt old.bytes old.plan mcus pads trailer
    → stream ≡ stream_of old.plan (segment_mcus old.plan mcus old.most (passed old + n))
next_is n old mid stream on next mcus pads trailer file =
    let k = kept old mid on.same in
    next mcus pads trailer (file_on old mid mcus pads trailer k file)
    ∙ ap₂ (λ (plan : PlanFields) (most : ℕ).
    stream_of plan (segment_mcus plan mcus most (passed mid))) k.plan k.most
    ∙ ap (λ (i : ℕ). stream_of old.plan (segment_mcus old.plan mcus old.most i)) on.more

-- one segment more is passed over
pub ready_more : (n : ℕ) (old mid : PassFields) (rs next : List ReadyFields) (r : ReadyFields)
    → HasPassedOn n old mid → ArePassed old rs → length rs ≡ n → next ≡ rs ++ r ∷ []
    → ((stream : List ℕ) → IsPartStream r.part stream → IsNextStream mid stream)
    → (IsNoPart r.part → (mcus : List Mcu) (pads : List Bool) (trailer : ℕ)
    → IsFileAt mid.bytes mid.plan mcus pads trailer → ⊥)
    → ArePassed old next
ready_more n old mid rs next r on are long is stream none = rw is (λ mcus pads trailer file.
    let k = kept old mid on.same in
    let f : ℕ → List ℕ = λ i. stream_of old.plan (segment_mcus old.plan mcus old.most i) in
    let so = are mcus pads trailer file in
    let one : GiveEach f (passed old + length rs) (r ∷ []) = (
      λ s it. next_is n old mid s on (stream s it) mcus pads trailer file
          ∙ ap (λ (m : ℕ). f (passed old + m)) (sym long),
      tt,
    ) in
    let free : IsNoPart r.part → ⊥ =
    λ no. none no mcus pads trailer (file_on old mid mcus pads trailer k file) in (
      give_more f (passed old) rs (r ∷ []) so.0 one,
      All-push (λ (x : ReadyFields). IsNoPart x.part → ⊥) rs r so.1 free,
    ))

-- the streams of a lane before those of the segments after it
pub lane_joined : (n : ℕ) (old mid end : PassFields) (rs : List ReadyFields)
    (first rest : List (List ℕ)) → HasPassedOn n old mid → length rs ≡ n → ArePassed old rs
    → AreMade rs first → AreStreams mid end rest → AreStreams old end (first ++ rest)
lane_joined n old mid end rs first rest on long passed_are made are =
    let k = kept old mid on.same in
    record {
      is = are.is;
      none = are.none;
      same = same_on old mid end on.same are.same;
      each = λ mcus pads trailer file.
          let f : ℕ → List ℕ = λ i. stream_of old.plan (segment_mcus old.plan mcus old.most i) in
          let so : first ≡ map f (range_with_len (passed old) n) =
          given f (passed old) rs first (passed_are mcus pads trailer file).0 made
          ∙ ap (λ (m : ℕ). map f (range_with_len (passed old) m)) long in
          let others : rest ≡ map f (range_with_len (passed old + n) (segments_left mid)) =
          are.each mcus pads trailer (file_on old mid mcus pads trailer k file)
          ∙ ap₂ (λ (plan : PlanFields) (most : ℕ). map (λ i. stream_of plan
          (segment_mcus plan mcus most i)) (range_with_len (passed mid) (segments_left mid))) k.plan k.most
          ∙ ap (λ (m : ℕ). map f (range_with_len m (segments_left mid))) on.more in
          let left = fewer_left n old mid on in
          let all : n + segments_left mid ≡ segments_left old = omega (arith, left) in
          ap₂ (λ (a b : List (List ℕ)). a ++ b) so others
          ∙ each_on f (passed old) n (segments_left mid)
          ∙ ap (λ (m : ℕ). map f (range_with_len (passed old) m)) all;
    }

-- the streams of the segments that a pass has coded so far
abbrev pub AreSoFar : ℕ → PassFields → List (List ℕ) → Type 0
AreSoFar n old streams =
    (mcus : List Mcu) (pads : List Bool) (trailer : ℕ)
    → IsFileAt old.bytes old.plan mcus pads trailer
    → streams ≡ map (λ i. stream_of old.plan (segment_mcus old.plan mcus old.most i))
    (range_with_len (passed old) n)

pub one_more : (n : ℕ) (old mid : PassFields) (streams : List (List ℕ)) (stream : List ℕ)
    → HasPassedOn n old mid → AreSoFar n old streams → IsNextStream mid stream
    → AreSoFar (n + 1) old (streams ++ stream ∷ [])
one_more n old mid streams stream on so next = λ mcus pads trailer file.
    let f : ℕ → List ℕ = λ i. stream_of old.plan (segment_mcus old.plan mcus old.most i) in
    ap₂ (λ (a : List (List ℕ)) (s : List ℕ). a ++ s ∷ []) (so mcus pads trailer file)
    (next_is n old mid stream on next mcus pads trailer file) ∙ each_on f (passed old) n 1

pub all_coded : (n : ℕ) (old new : PassFields) (streams : List (List ℕ)) → HasPassedOn n old new
    → n ≡ segments_left old → AreSoFar n old streams → AreStreams old new streams
all_coded n old new streams on all so =
    let left = fewer_left n old new on in
    record {
      is = on.is;
      none = omega (arith, left, all);
      same = on.same;
      each = λ mcus pads trailer file. so mcus pads trailer file
          ∙ ap (λ (m : ℕ). map (λ i. stream_of old.plan (segment_mcus old.plan mcus old.most i))
          (range_with_len (passed old) m)) all;
    }

-- after the last segment the bytes are a file's
pub a_file : (n : ℕ) (old mid end : PassFields) (streams : List (List ℕ)) → HasPassedOn n old mid
    → AreStreams mid end streams
    → (mcus : List Mcu) × (pads : List Bool) × (trailer : ℕ)
    × IsFileAt old.bytes old.plan mcus pads trailer
a_file n old mid end streams on are =
    let have = has_ended end are.is are.none in
    let plan = ap (λ (p : PassFields). p.plan) are.same ∙ ap (λ (p : PassFields). p.plan) on.same in
    let bytes = ap (λ (p : PassFields). p.bytes) are.same
    ∙ ap (λ (p : PassFields). p.bytes) on.same in
    let trailer = end.reader.at.cursor.next in (
      have.mcus,
      have.pads,
      trailer,
      subst (λ (b : List ℕ). IsFileAt b old.plan have.mcus have.pads trailer) bytes
          (subst (λ (p : PlanFields). IsFileAt end.bytes p have.mcus have.pads trailer) plan
          have.file),
    )

-- from the first segment on they are all
pub all_passed : (old new : PassFields) (plan : PlanFields) (bytes : List ℕ) (most : ℕ)
    (streams : List (List ℕ)) → AreStreams old new streams → old.plan ≡ plan → old.bytes ≡ bytes
    → old.most ≡ most → passed old ≡ 0
    → (mcus : List Mcu) (pads : List Bool) (trailer : ℕ) → IsFileAt bytes plan mcus pads trailer
    → streams ≡ map (λ i. stream_of plan (segment_mcus plan mcus most i))
    (range_with_len 0 (plan_cut plan most).segments)
all_passed old new plan bytes most streams are plan_is bytes_is most_is none mcus pads trailer file =
    let here : IsFileAt old.bytes old.plan mcus pads trailer =
    subst (λ (b : List ℕ). IsFileAt b old.plan mcus pads trailer) (sym bytes_is)
    (subst (λ (p : PlanFields). IsFileAt bytes p mcus pads trailer) (sym plan_is) file) in
    let left : segments_left old ≡ (plan_cut old.plan old.most).segments = omega (arith, none) in
    are.each mcus pads trailer here
    ∙ ap₂ (λ n k. map (λ i. stream_of old.plan (segment_mcus old.plan mcus old.most i)) (range_with_len n k))
    none left
    ∙ ap₂ (λ (p : PlanFields) m. map (λ i. stream_of p (segment_mcus p mcus m i))
    (range_with_len 0 (plan_cut p m).segments)) plan_is most_is

-- a lane that was passed: with its streams, those of the segments after it are all
pub lane_gives : {E : Type 0} (n : ℕ) (old mid : PassFields) (result : Result Lane E)
    → OnOk result (HasPassedOn n old mid) → IfOk result (λ lane. length (parts_in lane) ≡ n)
    → IfOk result (λ lane. ArePassed old (parts_in lane))
    → (end : PassFields) (first rest : List (List ℕ))
    → IfOk result (λ lane. LaneMakes lane first → AreStreams mid end rest
    → AreStreams old end (first ++ rest))
lane_gives n old mid (Ok lane) on long passed_are end first rest =
    λ made are. lane_joined n old mid end (parts_in lane) first rest on long passed_are made are
lane_gives n old mid (Err error) on long passed_are end first rest = tt

-- and after the last segment it isn't refused
pub lane_stays : {E : Type 0} (n : ℕ) (old mid : PassFields) (result : Result Lane E)
    → OnOk result (HasPassedOn n old mid) → IfOk result (λ lane. ArePassed old (parts_in lane))
    → (end : PassFields) (rest : List (List ℕ))
    → IfOk result (λ lane. LaneRefused lane → AreStreams mid end rest → ⊥)
lane_stays n old mid (Ok lane) on passed_are end rest =
    λ refused are.
    let f = a_file n old mid end rest on are in
    refused (passed_are f.0 f.1 f.2 f.3).1
lane_stays n old mid (Err error) on passed_are end rest = tt
