-- What was encoded is decoded.
use Rattle.std.proofs.Common.{◌≡◌, ℕ, ◌≤◌, inl, inr, List, [], length, take, refl, sym, ap, subst, ◌∙◌, arith}
use Rattle.std.specs.Prelude.{◌⊎◌}
use Rattle.box_format.specs.Parts.{BoxSeen}
use Rattle.container_spec.specs.Meanings.{Meaning, Restored, PadSpelled, ChunkShort as ShortChunk, Faulty, NoBox}
use Rattle.box_format.specs.Containers.{IsContainer}
use Rattle.container_spec.specs.Portions.{StandsFor, scans_meaning}
use Rattle.container_spec.proofs.BoxesOnce.{stands_for_one}
use Rattle.container_spec.proofs.ScansRestored.{container_is_restored}
use Rattle.container_spec.proofs.ScansSizes.{container_of_file_is_short}
use Rattle.container_spec.specs.Limits.{most_of_a_container}
use Rattle.lepton_c.specs.Gives.{DecodeGives, EncodeGives, IsEncoded, Puts}
use Rattle.lepton_c.specs.Numbers.{numbers_of}
use Rattle.lepton_c.specs.declared.answer.Answer.{Answer}
use Rattle.lepton_c.specs.declared.answer.Answer.TheVariants.{Done, Counted, Header, Scan, Box, Fault, PadSpelling, ChunkShort, TooLong, NoChunk, ManyScans, RangeBad, BadCall, NoRoom, Larger, NoMemory}
use Rattle.lepton_c.proofs.Told.{encoded}

-- a file
abbrev pub as_file : List ℕ → Meaning
as_file file = record { bytes = file; verdict = Restored }

-- what comes of a call that puts these bytes, so many, if memory suffices
abbrev pub IsBack : List ℕ → ℕ → List ℕ → List ℕ → Answer → Type 0
IsBack file count old new answer =
    (((numbers_of answer).status ≡ 0) × ((numbers_of answer).length ≡ count) × Puts old new file)
    ⊎ ((numbers_of answer).status ≡ 5)

module _ (file made : List ℕ) (stands : StandsFor made (as_file file)) where
  -- its scans stand for the file
  meant : (scans : List BoxSeen) → IsContainer scans made → scans_meaning scans ≡ as_file file
  meant scans of =
      stands_for_one made (scans_meaning scans) (as_file file) (inr (scans, of, refl)) stands

  ends : (scans : List BoxSeen) → IsContainer scans made → (scans_meaning scans).verdict ≡ Restored
  ends scans of = ap (λ (m : Meaning). m.verdict) (meant scans of)

  pub back_by : (old new : List ℕ) (answer : Answer) → length made ≤ most_of_a_container
      → length file ≤ length old → DecodeGives made old new answer → IsBack file (length file) old new answer
  back_by old new (Done n) short room gives =
      let same = ap (λ (m : Meaning). m.bytes) (meant gives.0 gives.1) in
      let put = gives.3 in
      inl (refl, put.0 ∙ ap length same, subst (Puts old new) same put.1)
  back_by old new (PadSpelling n) short room gives =
      absurd (let e : PadSpelled ≡ Restored = sym gives.2 ∙ ends gives.0 gives.1 in cc)
  back_by old new (ChunkShort n) short room gives =
      absurd (let e : ShortChunk ≡ Restored = sym gives.2 ∙ ends gives.0 gives.1 in cc)
  back_by old new (Fault fault n) short room gives =
      absurd (let e : Faulty fault ≡ Restored = sym gives.2 ∙ ends gives.0 gives.1 in cc)
  back_by old new (NoRoom n) short room gives =
      let same = ap (λ (m : Meaning). length m.bytes) (meant gives.0 gives.1) in
      let more = gives.2.1 in
      absurd (omega (arith, same, more, room))
  back_by old new (Box refusal) short room gives =
      let none : Meaning = record { bytes = []; verdict = NoBox refusal } in
      let e = stands_for_one made none (as_file file) (inl (refusal, gives.0, refl)) stands in
      absurd (let v : NoBox refusal ≡ Restored = ap (λ (m : Meaning). m.verdict) e in cc)
  back_by old new TooLong short room gives = absurd (let long = gives.0 in omega (arith, long, short))
  back_by old new NoMemory short room gives = inr refl
  back_by old new (Counted n) short room gives = absurd gives
  back_by old new (Header refusal) short room gives = absurd gives
  back_by old new (Scan refusal) short room gives = absurd gives
  back_by old new NoChunk short room gives = absurd gives
  back_by old new ManyScans short room gives = absurd gives
  back_by old new RangeBad short room gives = absurd gives
  back_by old new BadCall short room gives = absurd gives
  back_by old new (Larger n) short room gives = absurd gives

pub back : (segments : ℕ) (file old new : List ℕ) (made : Answer) (bytes before after : List ℕ)
    (answer : Answer) → EncodeGives segments file old new made → (numbers_of made).status ≡ 0
    → bytes ≡ take (numbers_of made).length new → length file ≤ length before
    → DecodeGives bytes before after answer → IsBack file (length file) before after answer
back segments file old new made bytes before after answer gives done text room is =
    let e = subst (IsEncoded segments file) (sym text) (encoded segments file old new made gives done) in
    back_by file bytes (container_is_restored segments bytes file e.some.1 e.is) before after answer
    (container_of_file_is_short segments bytes file e.some.1 e.is e.short) room is
