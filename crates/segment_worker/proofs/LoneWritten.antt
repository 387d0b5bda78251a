-- The segments of a stretch that one thread decodes, written one after another.
use Rattle.std.proofs.Common.{◌≡◌, ℕ, ◌+◌, ◌-◌, ◌<◌, ◌≤◌, [], ◌++◌, List, length, refl, sym, ap, ap₂, subst, ◌∙◌, arith, append-nil, length-append, Option, Some, Ok}
use Rattle.outside_core.specs.Takes.{TakesNext}
use Rattle.byte_window.specs.declared.window.Window.{Window}
use Rattle.byte_window.specs.Windows.{window, after, through}
use Rattle.byte_window.proofs.WindowParts.{is_counted}
use Rattle.handover.specs.declared.pads.PadSum.{PadSum}
use Rattle.handover.specs.declared.outcome.Outcome.TheVariants.{Good, Bad}
use Rattle.handover.specs.declared.outcome.StreamFault.{StreamFault}
use Rattle.box_format.specs.Containers.{all_plans}
use Rattle.handover.specs.ScanSums.{ScanPads, no_sums, sums_of, sums_with}
use Rattle.handover.proofs.PadsSummed.{sums_with_none}
use Rattle.container_spec.specs.ScansJoined.{ScansJoined, scanned_from, scans_joined}
use Rattle.segment_code.specs.FileDecoding.{FileDecoderSeen}
use Rattle.container_spec.proofs.JoinedLists.{joined_on}
use Rattle.segment_worker.specs.Joining.{joined_from, joined_onto}
use Rattle.segment_worker.specs.Contents.{Stretch}
use Rattle.segment_worker.specs.Emitting.{Emits, joined_in, seen_through}
use Rattle.segment_worker.specs.LoneSegments.{SegmentsWritten, pieces_room}
use Rattle.outside_core.specs.Written.{HasWritten, HasFailed}
use Rattle.segment_worker.proofs.ContentsTold.{output_of}
use Rattle.segment_worker.proofs.SegmentsJoined.{scan_at, good_next, bad_next, bytes_next}
use Rattle.segment_worker.proofs.Writing.{written_nothing, written_on, failed_on, next_on}

module _ {Sink : Type 0} (held : Sink → Option (List ℕ))
    (takes : Sink → List ℕ → Type 0) (faults : Sink → ℕ) (full : Sink → Type 0) (w : Window) where
  -- before the first
  pub no_segments : (v : Stretch) (now : FileDecoderSeen) (sink : Sink)
      → now.plans ≡ all_plans v.container → now.begun ≡ 0
      → SegmentsWritten held takes faults w v 0 now sink sink 0 no_sums
  no_segments v now sink same fresh = record {
    bytes = [];
    all =
        let e : v.count ≡ v.count - 0 = omega arith in
        let f : v.first ≡ v.first + 0 = omega arith in
        ap₂ (λ (m n : ℕ). scans_joined (scanned_from v.container m n)) f e
        ∙ joined_on [] (scanned_from v.container (v.first + 0) (v.count - 0));
    four = refl;
    has = written_nothing held takes faults full w sink;
    count = refl;
    few = omega arith;
    plans = same;
    begun = fresh;
  }

  -- the sink takes what goes through of the next segment
  pub segment_taken : (v : Stretch) (i : ℕ) (now : FileDecoderSeen) (old mid : Sink)
      (came : ℕ) (padded : ScanPads) → TakesNext takes old (window w (joined_in v).bytes)
      → SegmentsWritten held takes faults w v i now old mid came padded → i < v.count
      → TakesNext takes mid (window (after w came) (output_of v i).0)
  segment_taken v i now old mid came padded next s under =
      let n = bytes_next v i s.bytes padded under s.all in
      next_on takes w old mid s.bytes (output_of v i).0 n.0 (joined_in v).bytes came s.count next
      s.has.onward n.1

  -- a segment that ended well
  pub segment_written : (v : Stretch) (i : ℕ) (now next : FileDecoderSeen)
      (old mid sink : Sink) (came count : ℕ) (padded : ScanPads) (more : PadSum) (both : ScanPads)
      → SegmentsWritten held takes faults w v i now old mid came padded → i < v.count
      → count ≡ length (output_of v i).0 → Good more ≡ (output_of v i).1
      → HasWritten held takes faults mid sink (window (after w came) (output_of v i).0) → count ≤ pieces_room
      → next.plans ≡ now.plans → next.begun ≡ now.begun + 1
      → both ≡ sums_with padded (sums_of (scan_at v i) more)
      → SegmentsWritten held takes faults w v (i + 1) next old sink (came + count) both
  segment_written v i now next old mid sink came count padded more both s under e good has room same begun sum =
      record {
        bytes = s.bytes ++ (output_of v i).0;
        all = good_next v i s.bytes padded more under s.all good
            ∙ ap (λ (p : ScanPads). joined_onto (s.bytes ++ (output_of v i).0) p (joined_from v (i + 1))) (sym sum);
        four = ap length sum;
        has = written_on held takes faults full w old mid sink s.bytes (output_of v i).0 came s.count s.has has;
        count = ap₂ (λ (m n : ℕ). m + n) s.count e ∙ sym (length-append s.bytes (output_of v i).0);
        few = let f = s.few in omega (arith, f, room);
        plans = same ∙ s.plans;
        begun = begun ∙ ap (λ (n : ℕ). n + 1) s.begun;
      }

  -- the first one with a fault
  pub segment_bad : (v : Stretch) (i : ℕ) (now : FileDecoderSeen)
      (old mid sink : Sink) (came : ℕ) (padded : ScanPads) (fault : StreamFault)
      → SegmentsWritten held takes faults w v i now old mid came padded → i < v.count
      → Bad fault ≡ (output_of v i).1 → HasWritten held takes faults mid sink (window (after w came) (output_of v i).0)
      → ((joined_in v).fault ≡ Some fault)
      × HasWritten held takes faults old sink (window w (joined_in v).bytes)
  segment_bad v i now old mid sink came padded fault s under bad has =
      let n = bad_next v i s.bytes padded fault under s.all bad in (
        n.0,
        subst (λ (l : List ℕ). HasWritten held takes faults old sink (window w l)) (sym n.1)
            (written_on held takes faults full w old mid sink s.bytes (output_of v i).0 came s.count s.has has),
      )

  -- one in which the sink failed
  pub segment_failed : (v : Stretch) (i : ℕ) (now : FileDecoderSeen)
      (old mid sink : Sink) (came more : ℕ) (padded : ScanPads)
      → SegmentsWritten held takes faults w v i now old mid came padded → i < v.count
      → HasFailed held faults full mid sink (window (after w came) (output_of v i).0) more
      → HasFailed held faults full old sink (window w (joined_in v).bytes) (through w came + more)
  segment_failed v i now old mid sink came more padded s under failed =
      let n = bytes_next v i s.bytes padded under s.all in
      failed_on held takes faults full w old mid sink s.bytes (output_of v i).0 n.0
      (joined_in v).bytes came more s.count s.has failed n.1

  -- all of them
  pub all_segments : (v : Stretch) (i : ℕ) (now : FileDecoderSeen) (old sink : Sink)
      (came : ℕ) (padded : ScanPads) → SegmentsWritten held takes faults w v i now old sink came padded
      → i ≡ v.count
      → Emits held takes faults full old sink (seen_through w (joined_in v))
      (Ok (record { bytes = through w came; came = came; pads = padded }))
  all_segments v i now old sink came padded s over =
      let left : v.count - i ≡ 0 = omega (arith, over) in
      let last : joined_in v ≡ joined_onto s.bytes padded (scans_joined []) =
      s.all ∙ ap (λ (n : ℕ). joined_onto s.bytes padded
      (scans_joined (scanned_from v.container (v.first + i) n))) left in
      let bytes : (joined_in v).bytes ≡ s.bytes =
      ap (λ (j : ScansJoined). j.bytes) last ∙ append-nil s.bytes in
      let all : came ≡ length (joined_in v).bytes = s.count ∙ ap length (sym bytes) in (
        ap (λ (j : ScansJoined). j.fault) last,
        ap (through w) all ∙ sym (is_counted w (joined_in v).bytes).0,
        sym (ap (λ (j : ScansJoined). j.padded) last ∙ sums_with_none padded s.four),
        subst (λ (l : List ℕ). HasWritten held takes faults old sink (window w l)) (sym bytes) s.has,
      )
