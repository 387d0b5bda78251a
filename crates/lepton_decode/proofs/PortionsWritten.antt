-- A portion written: its part of the header, what goes through of its segments, its part of the trailer.
use Rattle.std.proofs.Common.{◌≡◌, ℕ, ◌+◌, Bool, true, false, List, [], ◌++◌, length, length-append, refl, sym, ap, ap₂, subst, ◌∙◌, append_assoc, append-nil, Option, Some, None, Result, Ok}
use Rattle.std.specs.Prelude.{if◌then◌else◌, nat_lt}
use Rattle.outside_core.specs.Takes.{TakesNext}
use Rattle.outside_core.specs.Written.{HasWritten, HasFailed}
use Rattle.byte_window.specs.declared.window.Window.{Window}
use Rattle.byte_window.specs.Windows.{window}
use Rattle.byte_window.proofs.WindowParts.{through_none}
use Rattle.handover.specs.declared.outcome.StreamFault.{StreamFault}
use Rattle.box_format.specs.Parts.{BoxSeen, rows_most}
use Rattle.container_spec.specs.declared.kind.Kind.{Kind}
use Rattle.container_spec.specs.declared.kind.Kind.TheVariants.{File, Chunk, Range}
use Rattle.container_spec.specs.Meanings.{Meaning, Restored, PadSpelled, ChunkShort}
use Rattle.container_spec.specs.Portions.{Portion, begun, ending_by, faultless_end, played, portion_meaning}
use Rattle.container_spec.specs.ScansJoined.{ScansJoined, first_header, scanned_from, scans_joined}
use Rattle.segment_worker.specs.Contents.{Stretch}
use Rattle.segment_worker.specs.declared.emitted.Emitted.{Emitted}
use Rattle.segment_worker.specs.declared.emitted.EmitStop.{EmitStop}
use Rattle.segment_worker.specs.Emitting.{Emits, joined_in, seen_through}
use Rattle.segment_worker.proofs.Writing.{written_later, failed_first, failed_later, next_first, next_between}
use Rattle.lepton_decode.specs.Ends.{Ends}
use Rattle.lepton_decode.specs.Played.{IsEmitted, IsWindowed, are_spelled, ends_before, falls_short, stretch_of}

-- bytes that are too few, or all
abbrev pub good_after : Bool → Bool → List ℕ → List ℕ → Meaning
good_after true spelled begun after = record { bytes = begun; verdict = ChunkShort }
good_after false spelled begun after =
    record { bytes = begun ++ after; verdict = if spelled then Restored else PadSpelled }

chunk_after : (short : Bool) (begun after : List ℕ)
    → (if short then record { bytes = begun; verdict = ChunkShort }
    else record { bytes = begun ++ after; verdict = Restored })
    ≡ good_after short true begun after
chunk_after true begun after = refl
chunk_after false begun after = refl

-- its end without a fault, by whether bytes are missing and whether pad bits are spelled
good_is : (kind : Kind) (scans : List BoxSeen) (p : Portion) (all : ScansJoined)
    → IsWindowed kind scans p
    → faultless_end kind scans p all
    ≡ good_after (falls_short kind p.within (length all.bytes)) (are_spelled kind scans all.padded) (begun p all)
    p.after
good_is File scans p all windowed = refl
good_is (Chunk c) scans p all windowed =
    let rows = c.skip + rows_most c (first_header scans) p.after in
    chunk_after (nat_lt (length all.bytes) rows) (begun p all) p.after
    ∙ ap (λ (w : Window). good_after (ends_before w.most w.skip (length all.bytes)) true (begun p all) p.after)
    (sym windowed)
good_is Range scans p all windowed = refl

good_bytes : (short spelled : Bool) (before rows after : List ℕ)
    → (more : List ℕ) × ((good_after short spelled (before ++ rows) after).bytes ≡ before ++ (rows ++ more))
good_bytes true spelled before rows after =
    ([], ap (λ (l : List ℕ). before ++ l) (sym (append-nil rows)))
good_bytes false spelled before rows after = (after, append_assoc before rows after)

module _ (kind : Kind) (scans : List BoxSeen) (p : Portion) (windowed : IsWindowed kind scans p) where
  -- what it stands for, its segments, and what goes through of them
  abbrev m : Meaning
  m = portion_meaning kind scans p

  abbrev all : ScansJoined
  all = played scans p

  abbrev rows : List ℕ
  rows = window p.within all.bytes

  bytes_by : (fault : Option StreamFault)
      → (more : List ℕ)
      × ((ending_by kind scans p all fault).bytes ≡ p.before ++ (rows ++ more))
  bytes_by (Some fault) = ([], ap (λ (l : List ℕ). p.before ++ l) (sym (append-nil rows)))
  bytes_by None =
      let g = good_bytes (falls_short kind p.within (length all.bytes))
      (are_spelled kind scans all.padded) p.before rows p.after in
      (g.0, ap (λ (x : Meaning). x.bytes) (good_is kind scans p all windowed) ∙ g.1)

  -- it begins with its part of the header and with what goes through
  pub first_bytes : (more : List ℕ) × (m.bytes ≡ p.before ++ (rows ++ more))
  first_bytes = bytes_by all.fault

  -- if no segment has a fault, it ends so, by what was counted
  pub good : (e : Emitted) (short spelled : Bool) → IsEmitted scans p e
      → falls_short kind p.within e.came ≡ short → are_spelled kind scans e.pads ≡ spelled
      → m ≡ good_after short spelled (begun p all) p.after
  good e short spelled is few told =
      ap (ending_by kind scans p all) is.good
      ∙ good_is kind scans p all windowed
      ∙ ap₂ (λ (s t : Bool). good_after s t (begun p all) p.after)
      (ap (falls_short kind p.within) (sym is.came) ∙ few)
      (ap (are_spelled kind scans) (sym is.pads) ∙ told)

  -- how many bytes come before the part of the trailer
  begun_long : (e : Emitted) (before : ℕ) → before ≡ length p.before → IsEmitted scans p e
      → before + e.bytes ≡ length (begun p all)
  begun_long e before first is =
      ap₂ (λ (k n : ℕ). k + n) first is.bytes ∙ sym (length-append p.before rows)

  module _ {Sink : Type 0} (held : Sink → Option (List ℕ))
      (takes : Sink → List ℕ → Type 0) (faults : Sink → ℕ) (full : Sink → Type 0) where
    -- the sink takes the part of the header first
    pub before_taken : (sink : Sink) (before : List ℕ) → before ≡ p.before
        → TakesNext takes sink m.bytes → TakesNext takes sink before
    before_taken sink before first next =
        let f = first_bytes in
        next_first takes sink before (rows ++ f.0) m.bytes next
        (f.1 ∙ ap (λ (l : List ℕ). l ++ (rows ++ f.0)) (sym first))

    -- then what goes through
    pub rows_taken : (old mid : Sink) (before : List ℕ) (w : Window) (s : Stretch) → before ≡ p.before
        → w ≡ p.within → s ≡ stretch_of scans p → TakesNext takes old m.bytes
        → HasWritten held takes faults old mid before
        → TakesNext takes mid (seen_through w (joined_in s)).bytes
    rows_taken old mid before w s first same segments next has =
        let f = first_bytes in
        next_between takes old mid before (seen_through w (joined_in s)).bytes f.0 m.bytes next has.onward
        (f.1 ∙ sym (ap (λ (l : List ℕ). l ++ (window w (joined_in s).bytes ++ f.0)) first
        ∙ ap₂ (λ (v : Window) (t : Stretch). p.before ++ (window v (joined_in t).bytes ++ f.0)) same segments))

    -- what an emitter writes of the segments is what goes through
    pub emits_rows : (old mid : Sink) (w : Window) (s : Stretch) (emitted : Result Emitted EmitStop)
        → w ≡ p.within → s ≡ stretch_of scans p
        → Emits held takes faults full old mid (seen_through w (joined_in s)) emitted
        → Emits held takes faults full old mid (seen_through p.within all) emitted
    emits_rows old mid w s emitted same segments emits =
        subst (λ (x : ScansJoined). Emits held takes faults full old mid x emitted)
        (ap₂ (λ (v : Window) (t : Stretch). seen_through v (joined_in t)) same segments) emits

    -- a write failed in the part of the header
    pub failed_before : (old sink : Sink) (before : List ℕ) (written : ℕ) → before ≡ p.before
        → HasFailed held faults full old sink before written
        → HasFailed held faults full old sink m.bytes written
    failed_before old sink before written first failed =
        let f = first_bytes in
        failed_first held takes faults full old sink before (rows ++ f.0) m.bytes written failed
        (f.1 ∙ ap (λ (l : List ℕ). l ++ (rows ++ f.0)) (sym first))

    -- or in the segments
    pub failed_between : (old mid sink : Sink) (before written : ℕ) → before ≡ length p.before
        → HasWritten held takes faults old mid p.before
        → HasFailed held faults full mid sink rows written
        → HasFailed held faults full old sink m.bytes (before + written)
    failed_between old mid sink before written first has failed =
        let f = first_bytes in
        failed_later held takes faults full old mid sink p.before rows f.0 m.bytes before written has failed f.1
        first

    -- or in the part of the trailer
    pub failed_after : (old mid sink : Sink) (e : Emitted) (before written : ℕ) (after : List ℕ)
        → before ≡ length p.before → after ≡ p.after → IsEmitted scans p e
        → falls_short kind p.within e.came ≡ false
        → HasWritten held takes faults old mid (begun p all)
        → HasFailed held faults full mid sink after written
        → HasFailed held faults full old sink m.bytes (before + e.bytes + written)
    failed_after old mid sink e before written after first last is enough has failed =
        failed_later held takes faults full old mid sink (begun p all) after [] m.bytes
        (before + e.bytes) written has failed
        (ap (λ (x : Meaning). x.bytes) (good e false (are_spelled kind scans e.pads) is enough refl)
        ∙ ap (λ (l : List ℕ). begun p all ++ l) (sym last ∙ sym (append-nil after)))
        (begun_long e before first is)

    -- all were written
    pub has_begun : (old mid sink : Sink) (e : Emitted)
        → HasWritten held takes faults old mid p.before
        → Emits held takes faults full mid sink (seen_through p.within all) (Ok e)
        → HasWritten held takes faults old sink (begun p all)
    has_begun old mid sink e first end =
        written_later held takes faults full old mid sink p.before rows first end.3

    -- all was written
    pub ends_whole : (old mid sink : Sink) (e : Emitted) (before : ℕ) (after : List ℕ)
        → before ≡ length p.before → after ≡ p.after → IsEmitted scans p e
        → falls_short kind p.within e.came ≡ false → are_spelled kind scans e.pads ≡ true
        → HasWritten held takes faults old mid (begun p all)
        → HasWritten held takes faults mid sink after
        → Ends held takes faults full old sink m (Ok (before + e.bytes + length after))
    ends_whole old mid sink e before after first last is enough told has more =
        let same = good e false true is enough told in
        let bytes : begun p all ++ after ≡ m.bytes =
        ap (λ (l : List ℕ). begun p all ++ l) last ∙ sym (ap (λ (x : Meaning). x.bytes) same) in (
          ap (λ (x : Meaning). x.verdict) same,
          ap (λ (n : ℕ). n + length after) (begun_long e before first is)
              ∙ sym (length-append (begun p all) after) ∙ ap length bytes,
          subst (HasWritten held takes faults old sink) bytes
              (written_later held takes faults full old mid sink (begun p all) after has more),
        )

-- of a portion without a segment nothing goes through
pub nothing_begun : (scans : List BoxSeen) (p : Portion) (before : List ℕ) → before ≡ p.before → p.count ≡ 0
    → before ≡ begun p (played scans p)
nothing_begun scans p before first none =
    first ∙ sym (append-nil p.before)
    ∙ sym (ap (λ (n : ℕ). p.before ++ window p.within (scans_joined (scanned_from scans p.first n)).bytes) none
    ∙ ap (λ (l : List ℕ). p.before ++ l) (through_none p.within))
