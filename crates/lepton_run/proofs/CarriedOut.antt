-- How a command ends that has bytes, from what the encoder and the decoder say.
use Rattle.std.proofs.Common.{◌≡◌, ℕ, ◌+◌, ◌<◌, ◌≤◌, ◌∙◌, append-nil, Bool, true, false, if◌then◌else◌, inl, inr, List, [], length, take, Option, Some, None, refl, sym, ap, subst, arith, Result, Ok, Err}
use Rattle.std.specs.Prelude.{nat_lt}
use Rattle.std.specs.List.{AllByRecursion}
use Rattle.std.specs.Io.KnownBytes.{Appends}
use Rattle.std.proofs.KnownBytes.{Appends-nil}
use Rattle.bit_list.specs.Bits.{IsByte}
use Rattle.outside_core.specs.Faults.{Rose}
use Rattle.outside_core.specs.Takes.{TakesNext}
use Rattle.handover.specs.declared.outcome.StreamFault.{StreamFault}
use Rattle.box_format.specs.Parts.{rows_most, BoxSeen}
use Rattle.box_format.specs.declared.refusal.BoxRefusal.{BoxRefusal}
use Rattle.container_spec.specs.Meanings.{Meaning, Verdict, Restored, PadSpelled, ChunkShort as ShortChunk, Faulty, NoBox}
use Rattle.box_format.specs.declared.chunk.Chunk.{Chunk}
use Rattle.box_format.specs.Containers.{IsContainer}
use Rattle.box_format.specs.Checks.{IsRefused}
use Rattle.container_spec.specs.declared.kind.Kind.{Kind}
use Rattle.container_spec.specs.declared.kind.Kind.TheVariants.{File, Chunk as OfChunk, Range}
use Rattle.container_spec.specs.Portions.{Portion, begun as begun_of, chunk_portion, ended as ended_of, ending_by, faultless_end, meaning_with, only_chunk, played, portion_meaning, scans_meaning, whole}
use Rattle.container_spec.specs.ScansJoined.{ScansJoined, all_spelled, first_header}
use Rattle.outside_core.specs.Written.{HasFailed, HasWritten}
use Rattle.command_words.specs.declared.command.Command.{Command}
use Rattle.command_words.specs.declared.command.Command.TheVariants.{Decode}
use Rattle.lepton_run.specs.Answers.{Answer, Answers, Early, Late, Made, Makes, TakesAnswers, Writes, answer_by, bytes_of, limit_of}
use Rattle.lepton_decode.specs.Ends.{Ends}
use Rattle.lepton_decode.specs.declared.error.DecodeError.{DecodeError}
use Rattle.lepton_decode.specs.declared.error.DecodeError.TheVariants as DecodeErrors
use Rattle.lepton_run.specs.DecodeEndings.{decode_ending}
use Rattle.lepton_run.specs.CommandEnds.{CarriedOut}
use Rattle.lepton_run.specs.declared.ending.Ending.TheVariants.{Done, Refused, WriteFailed}
use Rattle.lepton_run.specs.declared.refusal.Refusal.{Refusal}
use Rattle.lepton_run.specs.declared.refusal.Refusal.TheVariants.{Box, Fault, PadSpelling, ChunkShort, TooLong}

-- what scans stand for is written, whatever their verdict
abbrev Written : Meaning → Type 0
Written m = Writes (answer_by m.bytes m.verdict) × (bytes_of (answer_by m.bytes m.verdict) ≡ m.bytes)

-- a verdict on a container, and not that bytes are none
abbrev IsOfBox : Verdict → Type 0
IsOfBox Restored = Unit {0}
IsOfBox PadSpelled = Unit {0}
IsOfBox ShortChunk = Unit {0}
IsOfBox (Faulty fault) = Unit {0}
IsOfBox (NoBox refusal) = ⊥

written_of : (bytes : List ℕ) (verdict : Verdict) → IsOfBox verdict
    → Written (record { bytes = bytes; verdict = verdict })
written_of bytes Restored is = (tt, refl)
written_of bytes PadSpelled is = (tt, refl)
written_of bytes ShortChunk is = (tt, refl)
written_of bytes (Faulty fault) is = (tt, refl)
written_of bytes (NoBox refusal) is = absurd is

by_pad : (spelled : Bool) → IsOfBox (if spelled then Restored else PadSpelled)
by_pad true = tt
by_pad false = tt

by_length : (few bytes : List ℕ) (short : Bool)
    → IsOfBox (if short then (let m : Meaning = record { bytes = few; verdict = ShortChunk } in m)
    else record { bytes = bytes; verdict = Restored }).verdict
by_length few bytes true = tt
by_length few bytes false = tt

at_end : (kind : Kind) (scans : List BoxSeen) (p : Portion) (all : ScansJoined)
    → IsOfBox (faultless_end kind scans p all).verdict
at_end File scans p all = by_pad (all_spelled 0 scans all.padded)
at_end (OfChunk c) scans p all =
    by_length (begun_of p all) (ended_of p all)
    (nat_lt (length all.bytes) (c.skip + rows_most c (first_header scans) p.after))
at_end Range scans p all = tt

by_fault : (kind : Kind) (scans : List BoxSeen) (p : Portion) (all : ScansJoined)
    (fault : Option StreamFault) → IsOfBox (ending_by kind scans p all fault).verdict
by_fault kind scans p all (Some fault) = tt
by_fault kind scans p all None = at_end kind scans p all

portion_written : (kind : Kind) (scans : List BoxSeen) (p : Portion)
    → Written (portion_meaning kind scans p)
portion_written kind scans p =
    let all = played scans p in
    let m = portion_meaning kind scans p in
    written_of m.bytes m.verdict (by_fault kind scans p all all.fault)

written_with : (chunk : Option Chunk) (scans : List BoxSeen) → Written (meaning_with chunk scans)
written_with None scans = portion_written File scans (whole scans)
written_with (Some c) scans = portion_written (OfChunk c) scans (chunk_portion c scans)

scans_written : (scans : List BoxSeen) → Written (scans_meaning scans)
unfolding scans_meaning
scans_written scans = written_with (only_chunk scans) scans

module _ {Sink : Type 0} (held : Sink → Option (List ℕ)) (faults : Sink → ℕ)
    (full : Sink → Type 0) (old new : Sink) where
  -- more bytes than the limit
  pub too_long : (command : Command) (bytes : List ℕ) → length bytes ≡ limit_of command + 1
      → CarriedOut held faults full command bytes old old (Refused TooLong)
  too_long command bytes long = (
    Early TooLong,
    record {
      answers = inl (omega (arith, long), refl);
      appended = Appends-nil (held old);
      unfailed = refl;
      kept = λ _. refl;
    },
    refl,
  )

  -- what was made was written
  pub made_whole : (command : Command) (bytes made : List ℕ) → Answers command bytes (Made made)
      → Appends (held old) (held new) made → faults new ≡ faults old
      → CarriedOut held faults full command bytes old new Done
  made_whole command bytes made answers appended unfailed = (
    Made made,
    record {
      answers = answers;
      appended = appended;
      unfailed = unfailed;
      kept = λ none. absurd (none tt);
    },
    refl,
  )

  -- a proper prefix of it was
  pub made_part : (command : Command) (bytes made : List ℕ) (n : ℕ)
      → Answers command bytes (Made made) → Rose faults full old new → n < length made
      → Appends (held old) (held new) (take n made)
      → CarriedOut held faults full command bytes old new WriteFailed
  made_part command bytes made n answers rose few part = (
    Made made,
    record { answers = answers; writes = tt; rose = rose; part = (n, few, part) },
  )

  module _ (bytes : List ℕ) (are : AllByRecursion IsByte bytes) where
    pub answers_so : (command : Command) (answer : Answer) → length bytes ≤ limit_of command
        → Makes command bytes answer → Answers command bytes answer
    answers_so command answer short makes =
        inr (record { short = short; are = are; makes = makes })

    -- a refusal before anything is written
    pub refused_early : (command : Command) (refusal : Refusal) → length bytes ≤ limit_of command
        → Makes command bytes (Early refusal)
        → CarriedOut held faults full command bytes old old (Refused refusal)
    refused_early command refusal short makes = (
      Early refusal,
      record {
        answers = answers_so command (Early refusal) short makes;
        appended = Appends-nil (held old);
        unfailed = refl;
        kept = λ _. refl;
      },
      refl,
    )

    -- the bytes are no container
    pub no_box : (workers : ℕ) (refusal : BoxRefusal) → length bytes ≤ limit_of (Decode workers)
        → IsRefused bytes refusal
        → CarriedOut held faults full (Decode workers) bytes old old (Refused (Box refusal))
    no_box workers refusal short why = refused_early (Decode workers) (Box refusal) short (
      record { bytes = []; verdict = NoBox refusal },
      inl (refusal, why, refl),
      refl,
    )

    module _ (takes : Sink → List ℕ → Type 0) (workers : ℕ) (short : length bytes ≤ limit_of (Decode workers))
        (scans : List BoxSeen) (of : IsContainer scans bytes) where
      answers_by : (answer : Answer)
          → answer ≡ answer_by (scans_meaning scans).bytes (scans_meaning scans).verdict
          → Answers (Decode workers) bytes answer
      answers_by answer e =
          answers_so (Decode workers) answer short (scans_meaning scans, inr (scans, of, refl), e)

      decoded : (scans_meaning scans).verdict ≡ Restored
          → HasWritten held takes faults old new (scans_meaning scans).bytes
          → CarriedOut held faults full (Decode workers) bytes old new Done
      decoded e has = let file = (scans_meaning scans).bytes in (
        Made file,
        record {
          answers = answers_by (Made file) (sym (ap (answer_by file) e));
          appended = has.appended;
          unfailed = has.unfailed;
          kept = λ none. absurd (none tt);
        },
        refl,
      )

      -- a refusal after the file's bytes, all of them or those before a fault
      refused_late : (refusal : Refusal)
          → Late (scans_meaning scans).bytes refusal
          ≡ answer_by (scans_meaning scans).bytes (scans_meaning scans).verdict
          → HasWritten held takes faults old new (scans_meaning scans).bytes
          → CarriedOut held faults full (Decode workers) bytes old new (Refused refusal)
      refused_late refusal e has = (
        Late (scans_meaning scans).bytes refusal,
        record {
          answers = answers_by (Late (scans_meaning scans).bytes refusal) e;
          appended = has.appended;
          unfailed = has.unfailed;
          kept = λ none. absurd (none tt);
        },
        refl,
      )

      pad_spelled : (scans_meaning scans).verdict ≡ PadSpelled
          → HasWritten held takes faults old new (scans_meaning scans).bytes
          → CarriedOut held faults full (Decode workers) bytes old new (Refused PadSpelling)
      pad_spelled e has =
          refused_late PadSpelling (sym (ap (answer_by (scans_meaning scans).bytes) e)) has

      chunk_short : (scans_meaning scans).verdict ≡ ShortChunk
          → HasWritten held takes faults old new (scans_meaning scans).bytes
          → CarriedOut held faults full (Decode workers) bytes old new (Refused ChunkShort)
      chunk_short e has =
          refused_late ChunkShort (sym (ap (answer_by (scans_meaning scans).bytes) e)) has

      faulty : (fault : StreamFault) → (scans_meaning scans).verdict ≡ Faulty fault
          → HasWritten held takes faults old new (scans_meaning scans).bytes
          → CarriedOut held faults full (Decode workers) bytes old new (Refused (Fault fault))
      faulty fault e has =
          refused_late (Fault fault) (sym (ap (answer_by (scans_meaning scans).bytes) e)) has

      decoded_part : (n : ℕ) → HasFailed held faults full old new (scans_meaning scans).bytes n
          → CarriedOut held faults full (Decode workers) bytes old new WriteFailed
      decoded_part n has =
          let m = scans_meaning scans in
          let written = scans_written scans in (
            answer_by m.bytes m.verdict,
            record {
              answers = answers_by (answer_by m.bytes m.verdict) refl;
              writes = written.0;
              rose = has.rose;
              part = (
                n,
                subst (λ (l : List ℕ). n < length l) (sym written.1) has.short,
                subst (λ (l : List ℕ). Appends (held old) (held new) (take n l)) (sym written.1)
                    has.appended,
              );
            },
          )

      -- the sink takes what they stand for
      pub meaning_taken : TakesAnswers takes (Decode workers) bytes old → TakesNext takes old (scans_meaning scans).bytes
      meaning_taken all =
          let m = scans_meaning scans in (
            [],
            subst (takes old) ((scans_written scans).1 ∙ sym (append-nil m.bytes))
                (all (answer_by m.bytes m.verdict) (answers_by (answer_by m.bytes m.verdict) refl)),
          )

      -- however it ended
      pub ended : (end : Result ℕ DecodeError) → Ends held takes faults full old new (scans_meaning scans) end
          → CarriedOut held faults full (Decode workers) bytes old new (decode_ending end)
      ended (Ok written) e = decoded e.0 e.2
      ended (Err DecodeErrors.PadSpelling) e = pad_spelled e.0 e.1
      ended (Err DecodeErrors.ChunkShort) e = chunk_short e.0 e.1
      ended (Err (DecodeErrors.Fault fault)) e = faulty fault e.0 e.1
      ended (Err (DecodeErrors.WriteFault written)) e = decoded_part written e
