-- How a range ends, from what its reading says; and what is made of containers.
use Rattle.std.proofs.Common.{◌≡◌, ℕ, ◌≤◌, ◌<◌, ◌∙◌, append-nil, Bool, true, false, if◌then◌else◌, inr, List, [], ◌∷◌, length, take, Option, Some, None, refl, sym, ap, subst, Result, Ok, Err}
use Rattle.std.specs.List.{AllByRecursion}
use Rattle.std.specs.Io.KnownBytes.{Appends}
use Rattle.bit_list.specs.Bits.{IsByte}
use Rattle.outside_core.specs.Takes.{TakesNext}
use Rattle.jpeg_marker.specs.Plans.{PlanFields}
use Rattle.handover.specs.declared.outcome.StreamFault.{StreamFault}
use Rattle.box_format.specs.Parts.{BoxParts, BoxSeen}
use Rattle.box_format.specs.Single.{IsBoxOf, box_bytes}
use Rattle.box_format.specs.Versions.{IsRead, indexable, ranged}
use Rattle.container_spec.specs.Indexed.{indexed}
use Rattle.container_spec.specs.Meanings.{Verdict}
use Rattle.container_spec.specs.declared.kind.Kind.TheVariants as kinds
use Rattle.container_spec.specs.Portions.{Portion, ending_by, played, portion_meaning, scans_meaning}
use Rattle.container_spec.specs.ScansJoined.{ScansJoined}
use Rattle.container_spec.specs.RangeMeanings.{RangeMeaning, fault_in, is_bad_range, placed_file, range_meaning, range_portion}
use Rattle.segment_worker.specs.declared.emitted.EmitStop.{EmitStop}
use Rattle.segment_worker.specs.declared.emitted.EmitStop.TheVariants as stops
use Rattle.range_read.specs.IndexEnds.{IndexEnds, IsIndexOf}
use Rattle.range_read.specs.RangeEnds.{RangeEnds}
use Rattle.range_read.specs.declared.reading.Ranged.{Ranged}
use Rattle.command_words.specs.declared.command.Command.TheVariants.{Index, Range}
use Rattle.lepton_run.specs.Answers.{Answer, Answers, Early, Late, Made, TakesAnswers, Writes, bytes_of, answer_by, early, limit_of, read_answer}
use Rattle.lepton_run.specs.CommandEnds.{CarriedOut}
use Rattle.lepton_run.specs.DecodeEndings.{range_ending}
use Rattle.lepton_run.specs.declared.refusal.Refusal.TheVariants.{Fault, RangeBad}
use Rattle.lepton_run.proofs.CarriedOut.{answers_so}

-- the answer that a range is, by its bytes and by the fault that ends them
abbrev pub range_answer : List ℕ → Option StreamFault → Answer
range_answer bytes None = Made bytes
range_answer bytes (Some fault) = Late bytes (Fault fault)

-- it is the one by the verdict of its portion
by_fault : (scans : List BoxSeen) (p : Portion) (all : ScansJoined) (fault : Option StreamFault)
    → (let m = ending_by kinds.Range scans p all fault in answer_by m.bytes m.verdict
    ≡ range_answer m.bytes (fault_in m.verdict))
by_fault scans p all None = refl
by_fault scans p all (Some fault) = refl

by_portion : (plan : PlanFields) (b : BoxParts) (from to : ℕ)
    → (let m =
    portion_meaning kinds.Range (record { plan = plan; parts = b } ∷ []) (range_portion (placed_file plan b) from to) in
    answer_by m.bytes m.verdict
    ≡ range_answer (range_meaning plan b from to).bytes (range_meaning plan b from to).fault)
unfolding range_meaning
by_portion plan b from to =
    let scans : List BoxSeen = record { plan = plan; parts = b } ∷ [] in
    let p = range_portion (placed_file plan b) from to in
    by_fault scans p (played scans p) (played scans p).fault

-- a range is written, whatever its fault
written : (bytes : List ℕ) (fault : Option StreamFault)
    → Writes (range_answer bytes fault) × (bytes_of (range_answer bytes fault) ≡ bytes)
written bytes None = (tt, refl)
written bytes (Some fault) = (tt, refl)

-- the answer by whether it is a bad range
by_good : (t : Bool) (a b : Answer) → t ≡ false → (if t then a else b) ≡ b
by_good true a b e = absurd (let f : true ≡ false = e in cc)
by_good false a b e = refl

by_bad : (t : Bool) (a b : Answer) → t ≡ true → (if t then a else b) ≡ a
by_bad true a b e = refl
by_bad false a b e = absurd (let f : false ≡ true = e in cc)

pub good_answer : (from to : ℕ) (plan : PlanFields) (b : BoxParts) → is_bad_range b from to ≡ false
    → read_answer from to plan b
    ≡ range_answer (range_meaning plan b from to).bytes (range_meaning plan b from to).fault
good_answer from to plan b good = by_good (is_bad_range b from to) _ _ good ∙ by_portion plan b from to

pub bad_answer : (from to : ℕ) (plan : PlanFields) (b : BoxParts) → is_bad_range b from to ≡ true
    → Early RangeBad ≡ read_answer from to plan b
bad_answer from to plan b bad = sym (by_bad (is_bad_range b from to) _ _ bad)

-- a container that is indexed has the answer of its ending
pub ended_as : (bytes : List ℕ) (verdict : Verdict) → IndexEnds bytes verdict
    → ((plan : PlanFields) × (b : BoxParts) × IsBoxOf plan b bytes × IsRead indexable b.version
    × (early (answer_by (box_bytes (indexed plan b)) verdict)
    ≡ early (answer_by (box_bytes (indexed plan b))
    (scans_meaning (record { plan = plan; parts = b } ∷ [])).verdict)))
ended_as bytes verdict (plan, b, of, read, e) =
    (plan, b, of, read, ap (λ (v : Verdict). early (answer_by (box_bytes (indexed plan b)) v)) (sym e))

pub index_made : (bytes made : List ℕ) → AllByRecursion IsByte bytes
    → length bytes ≤ limit_of Index → IsIndexOf made bytes → Answers Index bytes (Made made)
index_made bytes made are short (plan, b, of, read, e, text) = inr (record {
  short = short;
  are = are;
  makes = inr (
    plan,
    b,
    of,
    read,
    ap Made text ∙ ap (λ (v : Verdict). early (answer_by (box_bytes (indexed plan b)) v)) (sym e),
  );
})

module _ {Sink : Type 0} (held : Sink → Option (List ℕ)) (faults : Sink → ℕ)
    (full : Sink → Type 0) (takes : Sink → List ℕ → Type 0) (old new : Sink) (bytes : List ℕ)
    (are : AllByRecursion IsByte bytes) (from to workers : ℕ)
    (short : length bytes ≤ limit_of (Range from to workers)) (plan : PlanFields) (b : BoxParts)
    (of : IsBoxOf plan b bytes) (read : IsRead ranged b.version)
    (good : is_bad_range b from to ≡ false) where
  abbrev m : RangeMeaning
  m = range_meaning plan b from to

  answers : Answers (Range from to workers) bytes (range_answer m.bytes m.fault)
  answers =
      answers_so held faults full old new bytes are (Range from to workers)
      (range_answer m.bytes m.fault) short
      (inr (plan, b, of, read, sym (good_answer from to plan b good)))

  answered : (fault : Option StreamFault) → m.fault ≡ fault
      → Answers (Range from to workers) bytes (range_answer m.bytes fault)
  answered fault is =
      subst (λ f. Answers (Range from to workers) bytes (range_answer m.bytes f)) is answers

  -- the sink takes it
  pub range_taken : TakesAnswers takes (Range from to workers) bytes old
      → TakesNext takes old m.bytes
  range_taken all = (
    [],
    subst (takes old) ((written m.bytes m.fault).1 ∙ sym (append-nil m.bytes))
        (all (range_answer m.bytes m.fault) answers),
  )

  -- however its reading ended
  pub range_ended : (end : Result Ranged EmitStop) → RangeEnds held takes faults full old new m end
      → CarriedOut held faults full (Range from to workers) bytes old new (range_ending end)
  range_ended (Ok ranged) e = (
    Made m.bytes,
    record {
      answers = answered None e.0;
      appended = e.3.appended;
      unfailed = e.3.unfailed;
      kept = λ none. absurd (none tt);
    },
    refl,
  )
  range_ended (Err (stops.Fault fault)) e = (
    Late m.bytes (Fault fault),
    record {
      answers = answered (Some fault) e.0;
      appended = e.1.appended;
      unfailed = e.1.unfailed;
      kept = λ none. absurd (none tt);
    },
    refl,
  )
  range_ended (Err (stops.WriteFault count)) e =
      let w = written m.bytes m.fault in (
        range_answer m.bytes m.fault,
        record {
          answers = answers;
          writes = w.0;
          rose = e.rose;
          part = (
            count,
            subst (λ (l : List ℕ). count < length l) (sym w.1) e.short,
            subst (λ (l : List ℕ). Appends (held old) (held new) (take count l)) (sym w.1)
                e.appended,
          );
        },
      )
