-- What an emitter has written, call by call.
use Rattle.std.proofs.Common.{◌≡◌, ℕ, zero, suc, ◌+◌, ◌-◌, ◌*◌, ◌<◌, ◌≤◌, List, [], ◌++◌, length, take, drop, refl, sym, ap, ap₂, subst, ◌∙◌, arith, append_assoc, append-nil, length-append, Option, Some, Ok, Err, ⊎_elim}
use Rattle.std.specs.Prelude.{slice_get}
use Rattle.std.proofs.lemmas.Bool.{cases_lt}
use lib.Seq.{length-take-le, take_all, take-add}
use lib.ListN.{take-append-drop, length-drop}
use Rattle.outside_core.specs.Takes.{TakesNext}
use Rattle.byte_window.specs.declared.window.Window.{Window}
use Rattle.byte_window.specs.Windows.{window, after, through}
use Rattle.byte_window.proofs.WindowParts.{is_counted}
use Rattle.atomic_table.specs.Seated.{TableId}
use Rattle.handover.specs.declared.pads.PadSum.{PadSum}
use Rattle.handover.specs.declared.outcome.Outcome.{Outcome}
use Rattle.handover.specs.declared.outcome.Outcome.TheVariants.{Good, Bad}
use Rattle.handover.specs.declared.outcome.StreamFault.{StreamFault}
use Rattle.board_core.specs.BoardInvariants.{bytes_at}
use Rattle.box_format.specs.Parts.{BoxSeen}
use Rattle.container_spec.specs.ScansMeanings.{output_at, scan_of}
use Rattle.handover.specs.ScanSums.{ScanPads, no_sums, sums_of, sums_with}
use Rattle.handover.proofs.PadsSummed.{sums_with_none}
use Rattle.container_spec.specs.ScansJoined.{ScansJoined, scanned_from, scanned_with, scans_joined}
use Rattle.segment_code.specs.FileDecoding.{FileDecoderSeen}
use Rattle.output_board.specs.declared.view.EmitterView.{EmitterView}
use Rattle.output_board.specs.declared.answers.Take.{Take}
use Rattle.output_board.specs.declared.answers.Take.TheVariants.{Bytes, Ended}
use Rattle.output_board.specs.Seats.{SeatValue, HasHeldOnce}
use Rattle.output_board.specs.Answers.{TakeGives}
use Rattle.container_spec.proofs.JoinedLists.{joined_on}
use Rattle.segment_worker.specs.declared.emitted.EmitStop.TheVariants.{Fault}
use Rattle.segment_worker.specs.Contents.{Stretch, segments_bytes, segments_outcomes, segment_room, AreShort}
use Rattle.outside_core.specs.Written.{HasWritten, HasFailed}
use Rattle.segment_worker.specs.Joining.{joined_from, joined_onto}
use Rattle.segment_worker.specs.Emitting.{joined_in, seen_through, IsNewEmitter, IsUsedEmitter, Emits, IsWrittenTo, IsEmitting}
use Rattle.segment_worker.specs.OwnSegments.{own_rest, OwnEnds}
use Rattle.segment_worker.proofs.Tails.{past_end, front}
use Rattle.segment_worker.proofs.ContentsTold.{output_in, output_of, bytes_of, bytes_long, outcome_of, outcome_within}
use Rattle.segment_worker.proofs.SegmentsJoined.{scan_at, good_next, bad_next, bytes_next}
use Rattle.segment_worker.proofs.Writing.{written_nothing, written_on, failed_in, failed_on, next_on, next_in}

some_same : {A : Type 0} (a b : A) → ◌≡◌ {A = Option A} (Some a) (Some b) → a ≡ b
some_same a b e = cc

-- after good segments the next one's bytes follow, if there is one
segment_behind : (v : Stretch) (cur : ℕ) (bytes : List ℕ) (padded : ScanPads) → cur < v.count
    → joined_in v ≡ joined_onto bytes padded (joined_from v cur)
    → (more : List ℕ) × ((joined_in v).bytes ≡ bytes ++ (bytes_at (segments_bytes v) cur ++ more))
segment_behind v cur bytes padded under all =
    let next = bytes_next v cur bytes padded under all in
    (next.0, next.1 ∙ ap (λ (l : List ℕ). bytes ++ (l ++ next.0)) (sym (bytes_of v cur under)))

none_behind : (v : Stretch) (cur : ℕ) (bytes : List ℕ) (padded : ScanPads) → v.count ≤ cur
    → joined_in v ≡ joined_onto bytes padded (joined_from v cur)
    → (more : List ℕ) × ((joined_in v).bytes ≡ bytes ++ (bytes_at (segments_bytes v) cur ++ more))
none_behind v cur bytes padded past all =
    let more = (joined_from v cur).bytes in
    let long = bytes_long v in
    let none : bytes_at (segments_bytes v) cur ≡ [] =
    past_end (segments_bytes v) cur (omega (arith, long, past)) in
    (more, ap (λ (j : ScansJoined). j.bytes) all ∙ ap (λ (l : List ℕ). bytes ++ (l ++ more)) (sym none))

module _ {Sink : Type 0} (held : Sink → Option (List ℕ))
    (takes : Sink → List ℕ → Type 0) (faults : Sink → ℕ) (full : Sink → Type 0) (v : Stretch) (w : Window) where
  -- by equal counts
  pub moved : (cur now taken more : ℕ) (old new : Sink) (came : ℕ) (padded : ScanPads)
      → now ≡ cur → more ≡ taken → IsWrittenTo held takes faults v w cur taken old new came padded
      → IsWrittenTo held takes faults v w now more old new came padded
  moved cur now taken more old new came padded e f is =
      subst (λ (z : ℕ × ℕ). IsWrittenTo held takes faults v w z.0 z.1 old new came padded)
      (λ i. (sym e i, sym f i)) is

  -- the rest of the segment follows what came
  rest_behind : (cur taken : ℕ) (old new : Sink) (came : ℕ) (padded : ScanPads)
      (is : IsWrittenTo held takes faults v w cur taken old new came padded)
      → (more : List ℕ) × ((joined_in v).bytes ≡ (is.bytes ++ take taken (bytes_at (segments_bytes v) cur))
      ++ (drop taken (bytes_at (segments_bytes v) cur) ++ more))
  rest_behind cur taken old new came padded is =
      let s = bytes_at (segments_bytes v) cur in
      let next = ⊎_elim (λ (under : cur < v.count). segment_behind v cur is.bytes padded under is.all)
      (λ (past : v.count ≤ cur). none_behind v cur is.bytes padded past is.all)
      (cases_lt cur v.count) in
      let parts : s ≡ take taken s ++ drop taken s = sym (take-append-drop taken s) in (
        next.0,
        next.1 ∙ ap (λ (l : List ℕ). is.bytes ++ (l ++ next.0)) parts
            ∙ ap (λ (l : List ℕ). is.bytes ++ l) (append_assoc (take taken s) (drop taken s) next.0)
            ∙ sym (append_assoc is.bytes (take taken s) (drop taken s ++ next.0)),
      )

  -- the bytes that came, and how many
  came_long : (cur taken : ℕ) (old new : Sink) (came : ℕ) (padded : ScanPads)
      → (is : IsWrittenTo held takes faults v w cur taken old new came padded)
      → came ≡ length (is.bytes ++ take taken (bytes_at (segments_bytes v) cur))
  came_long cur taken old new came padded is =
      let s = bytes_at (segments_bytes v) cur in
      let count = is.count in
      let long = length-append is.bytes (take taken s) in
      let first = length-take-le taken s is.within in
      omega (arith, count, long, first)

  -- the sink takes what goes through of it
  pub rest_taken : (cur taken : ℕ) (old new : Sink) (came : ℕ) (padded : ScanPads)
      → TakesNext takes old (window w (joined_in v).bytes)
      → IsWrittenTo held takes faults v w cur taken old new came padded
      → TakesNext takes new (window (after w came) (drop taken (bytes_at (segments_bytes v) cur)))
  rest_taken cur taken old new came padded next is =
      let s = bytes_at (segments_bytes v) cur in
      let b = rest_behind cur taken old new came padded is in
      next_on takes w old new (is.bytes ++ take taken s) (drop taken s) b.0 (joined_in v).bytes came
      (came_long cur taken old new came padded is) next is.has.onward b.1

  -- nothing yet
  pub none_emitted : (sink : Sink) → IsWrittenTo held takes faults v w 0 0 sink sink 0 no_sums
  none_emitted sink = record {
    bytes = [];
    all =
        let e : v.count ≡ v.count - 0 = omega arith in
        let f : v.first ≡ v.first + 0 = omega arith in
        ap₂ (λ (m n : ℕ). scans_joined (scanned_from v.container m n)) f e
        ∙ joined_on [] (scanned_from v.container (v.first + 0) (v.count - 0));
    four = refl;
    has = written_nothing held takes faults full w sink;
    count = refl;
    within = omega arith;
    few = omega arith;
    low = omega arith;
  }

  -- the next bytes of the segment
  pub more_emitted : (cur taken n : ℕ) (old mid new : Sink) (came : ℕ) (padded : ScanPads)
      → IsWrittenTo held takes faults v w cur taken old mid came padded
      → taken + n ≤ length (bytes_at (segments_bytes v) cur)
      → HasWritten held takes faults mid new
      (window (after w came) (take n (drop taken (bytes_at (segments_bytes v) cur))))
      → IsWrittenTo held takes faults v w cur (taken + n) old new (came + n) padded
  more_emitted cur taken n old mid new came padded is within has =
      let s = bytes_at (segments_bytes v) cur in record {
        bytes = is.bytes;
        all = is.all;
        four = is.four;
        has = subst (λ (l : List ℕ). HasWritten held takes faults old new (window w l))
            (append_assoc is.bytes (take taken s) (take n (drop taken s))
            ∙ ap (λ (l : List ℕ). is.bytes ++ l) (sym (take-add taken n s)))
            (written_on held takes faults full w old mid new _ _ came (came_long cur taken old mid came padded is)
            is.has has);
        count = let count = is.count in omega arith;
        within = within;
        few = is.few;
        low = is.low;
      }

  -- the segment ended well
  pub good_emitted : AreShort v → (cur taken : ℕ) (old new : Sink) (came : ℕ) (padded : ScanPads) (more : PadSum)
      → IsWrittenTo held takes faults v w cur taken old new came padded
      → taken ≡ length (bytes_at (segments_bytes v) cur)
      → slice_get (segments_outcomes v) cur ≡ Some (Good more)
      → IsWrittenTo held takes faults v w (cur + 1) 0 old new came
      (sums_with padded (sums_of (scan_at v cur) more))
  good_emitted short cur taken old new came padded more is whole good =
      let s = bytes_at (segments_bytes v) cur in
      let under = outcome_within v cur (Good more) good in
      let same = bytes_of v cur under in
      let end : Good more ≡ (output_of v cur).1 =
      some_same _ _ (sym good ∙ outcome_of v cur under) in
      let all : take taken s ≡ s = take_all taken s (omega (arith, whole)) in record {
        bytes = is.bytes ++ s;
        all = good_next v cur is.bytes padded more under is.all end
            ∙ ap (λ (l : List ℕ). joined_onto (is.bytes ++ l) (sums_with padded (sums_of (scan_at v cur) more))
            (joined_from v (cur + 1))) (sym same);
        four = refl;
        has = subst (λ (l : List ℕ). HasWritten held takes faults old new (window w l))
            (ap (λ (l : List ℕ). is.bytes ++ l) all ∙ sym (append-nil (is.bytes ++ s))) is.has;
        count =
            let count = is.count in let long = length-append is.bytes s in omega (arith, count, long, whole);
        within = omega arith;
        few =
            let few = is.few in let long = length-append is.bytes s in let room = short cur in
            omega (arith, few, long, room);
        low = omega (arith, under);
      }

  -- the segment ended badly
  pub bad_emitted : (cur taken : ℕ) (old new : Sink) (came : ℕ) (padded : ScanPads) (fault : StreamFault)
      → IsWrittenTo held takes faults v w cur taken old new came padded
      → taken ≡ length (bytes_at (segments_bytes v) cur)
      → slice_get (segments_outcomes v) cur ≡ Some (Bad fault)
      → Emits held takes faults full old new (seen_through w (joined_in v)) (Err (Fault fault))
  bad_emitted cur taken old new came padded fault is whole bad =
      let s = bytes_at (segments_bytes v) cur in
      let under = outcome_within v cur (Bad fault) bad in
      let end : Bad fault ≡ (output_of v cur).1 =
      some_same _ _ (sym bad ∙ outcome_of v cur under) in
      let next = bad_next v cur is.bytes padded fault under is.all end in
      let all : take taken s ≡ s = take_all taken s (omega (arith, whole)) in (
        next.0,
        subst (λ (l : List ℕ). HasWritten held takes faults old new (window w l))
            (ap (λ (l : List ℕ). is.bytes ++ l) (all ∙ bytes_of v cur under) ∙ sym next.1) is.has,
      )

  -- a write failed in what goes through of the segment's next bytes
  pub cut_short : (cur taken : ℕ) (old mid new : Sink) (came more : ℕ) (padded : ScanPads)
      → IsWrittenTo held takes faults v w cur taken old mid came padded
      → HasFailed held faults full mid new
      (window (after w came) (drop taken (bytes_at (segments_bytes v) cur))) more
      → HasFailed held faults full old new (window w (joined_in v).bytes) (through w came + more)
  cut_short cur taken old mid new came more padded is failed =
      let s = bytes_at (segments_bytes v) cur in
      let next = rest_behind cur taken old mid came padded is in
      failed_on held takes faults full w old mid new (is.bytes ++ take taken s) (drop taken s) next.0
      (joined_in v).bytes came more (came_long cur taken old mid came padded is) is.has failed next.1

  -- nothing follows the last segment
  last_behind : (cur taken : ℕ) (old new : Sink) (came : ℕ) (padded : ScanPads)
      (is : IsWrittenTo held takes faults v w cur taken old new came padded)
      → cur ≡ v.count → joined_in v ≡ joined_onto is.bytes padded (scans_joined [])
  last_behind cur taken old new came padded is over =
      let left : v.count - cur ≡ 0 = omega (arith, over) in
      is.all ∙ ap (λ (n : ℕ). joined_onto is.bytes padded
      (scans_joined (scanned_from v.container (v.first + cur) n))) left

  -- all came
  pub all_came : (cur taken : ℕ) (old new : Sink) (came : ℕ) (padded : ScanPads)
      → IsWrittenTo held takes faults v w cur taken old new came padded
      → cur ≡ v.count → came ≡ length (joined_in v).bytes
  all_came cur taken old new came padded is over =
      let last = last_behind cur taken old new came padded is over in
      let long = bytes_long v in
      let none = past_end (segments_bytes v) cur (omega (arith, long, over)) in
      let within = is.within in
      let count = is.count in
      let empty = ap length none in
      let whole = ap length (ap (λ (j : ScansJoined). j.bytes) last) ∙ length-append is.bytes [] in
      omega (arith, count, within, empty, whole)

  -- all are emitted
  pub all_emitted : (cur taken : ℕ) (old new : Sink) (came : ℕ) (padded : ScanPads)
      → IsWrittenTo held takes faults v w cur taken old new came padded
      → cur ≡ v.count
      → Emits held takes faults full old new (seen_through w (joined_in v))
      (Ok (record { bytes = through w came; came = came; pads = padded }))
  all_emitted cur taken old new came padded is over =
      let s = bytes_at (segments_bytes v) cur in
      let long = bytes_long v in
      let none : s ≡ [] = past_end (segments_bytes v) cur (omega (arith, long, over)) in
      let last = last_behind cur taken old new came padded is over in
      let within = is.within in
      let empty = ap length none in (
        ap (λ (j : ScansJoined). j.fault) last,
        ap (through w) (all_came cur taken old new came padded is over) ∙ sym (is_counted w (joined_in v).bytes).0,
        sym (ap (λ (j : ScansJoined). j.padded) last ∙ sums_with_none padded is.four),
        subst (λ (l : List ℕ). HasWritten held takes faults old new (window w l))
            (ap (λ (l : List ℕ). is.bytes ++ l)
            (ap (take taken) none ∙ take_all taken [] (omega (arith, within, empty)))
            ∙ sym (ap (λ (j : ScansJoined). j.bytes) last)) is.has,
      )

module _ {Sink : Type 0} (held : Sink → Option (List ℕ))
    (takes : Sink → List ℕ → Type 0) (faults : Sink → ℕ) (full : Sink → Type 0)
    (table : TableId) (v : Stretch) (w : Window) where
  -- before the first call
  pub starts_emitting : (s : SeatValue Stretch EmitterView) (d : FileDecoderSeen) (sink : Sink)
      → IsNewEmitter table v s d → IsEmitting held takes faults table v w s d sink sink 0 no_sums
  starts_emitting s d sink n = record {
    used = record {
      own = n.own;
      content = n.content;
      plans = n.plans;
      begun = n.begun ∙ sym n.claims;
    };
    free = n.free;
    going = n.going;
    so_far = moved held takes faults full v w 0 s.view.cur 0 s.view.taken sink sink 0 no_sums n.cur n.taken
        (none_emitted held takes faults full v w sink);
  }

  -- the seat after one hold that claims nothing
  pub used_after : (s t : SeatValue Stretch EmitterView) (d : FileDecoderSeen) → IsUsedEmitter table v s d
      → HasHeldOnce s t → t.claims ≡ s.claims → IsUsedEmitter table v t d
  used_after s t d u h claims = record {
    own = h.table ∙ u.own;
    content = h.content ∙ u.content;
    plans = u.plans;
    begun = u.begun ∙ sym claims;
  }

  -- what a take gives, by the stretch
  gives_in : (s t : SeatValue Stretch EmitterView) (before now : List ℕ) (answer : Take)
      → s.content ≡ v
      → TakeGives (segments_bytes s.content) (segments_outcomes s.content) s t before now answer
      → TakeGives (segments_bytes v) (segments_outcomes v) s t before now answer
  gives_in s t before now answer is give =
      subst (λ (c : Stretch). TakeGives (segments_bytes c) (segments_outcomes c) s t before now answer)
      is give

  -- the sink takes bytes that were taken
  pub taken_next : (s t : SeatValue Stretch EmitterView) (d : FileDecoderSeen) (old mid : Sink)
      (came n : ℕ) (padded : ScanPads) (before now : List ℕ) → TakesNext takes old (window w (joined_in v).bytes)
      → IsEmitting held takes faults table v w s d old mid came padded
      → TakeGives (segments_bytes s.content) (segments_outcomes s.content) s t before now (Bytes n)
      → length now ≡ length before → TakesNext takes mid (window (after w came) (take n now))
  taken_next s t d old mid came n padded before now next e give same =
      let g = gives_in s t before now (Bytes n) e.used.content give in
      let xs = drop s.view.taken (bytes_at (segments_bytes v) s.view.cur) in
      let least = g.5 in
      let f = front xs before now n g.1 same (omega (arith, least)) in
      subst (λ (l : List ℕ). TakesNext takes mid (window (after w came) l)) (sym f.0)
      (next_in takes (after w came) mid (take n xs) (drop n xs) xs
      (rest_taken held takes faults full v w s.view.cur s.view.taken old mid came padded next e.so_far)
      (sym (take-append-drop n xs)))

  -- and a segment of the emitter's own
  pub own_next : (s : SeatValue Stretch EmitterView) (d : FileDecoderSeen) (old mid : Sink) (came : ℕ)
      (padded : ScanPads) → TakesNext takes old (window w (joined_in v).bytes)
      → IsEmitting held takes faults table v w s d old mid came padded
      → TakesNext takes mid (window (after w came) (own_rest s))
  own_next s d old mid came padded next e =
      subst (λ (c : Stretch). TakesNext takes mid
      (window (after w came) (drop s.view.taken (bytes_at (segments_bytes c) s.view.cur))))
      (sym e.used.content)
      (rest_taken held takes faults full v w s.view.cur s.view.taken old mid came padded next e.so_far)

  -- bytes were taken and written
  pub bytes_taken : (s t : SeatValue Stretch EmitterView) (d : FileDecoderSeen) (old mid new : Sink)
      (came n : ℕ) (padded : ScanPads) (before now : List ℕ)
      → IsEmitting held takes faults table v w s d old mid came padded → HasHeldOnce s t
      → TakeGives (segments_bytes s.content) (segments_outcomes s.content) s t before now (Bytes n)
      → length now ≡ length before → HasWritten held takes faults mid new (window (after w came) (take n now))
      → IsEmitting held takes faults table v w t d old new (came + n) padded
  bytes_taken s t d old mid new came n padded before now e h give same has =
      let g = gives_in s t before now (Bytes n) e.used.content give in
      let view : t.view ≡ record s.view { taken = s.view.taken + n } = g.0 in
      let xs = drop s.view.taken (bytes_at (segments_bytes v) s.view.cur) in
      let least = g.5 in
      let f = front xs before now n g.1 same (omega (arith, least)) in
      let long = length-drop s.view.taken (bytes_at (segments_bytes v) s.view.cur) in
      let few = f.1 in
      let within = e.so_far.within in
      record {
        used = used_after s t d e.used h g.3.0.claims;
        free = ap (λ (x : EmitterView). x.owns) view ∙ e.free;
        going = ap (λ (x : EmitterView). x.stopped) view ∙ e.going;
        so_far = moved held takes faults full v w s.view.cur t.view.cur (s.view.taken + n) t.view.taken
            old new (came + n) padded (ap (λ (x : EmitterView). x.cur) view)
            (ap (λ (x : EmitterView). x.taken) view)
            (more_emitted held takes faults full v w s.view.cur s.view.taken n old mid new came padded
            e.so_far (omega (arith, few, long, within))
            (subst (λ (l : List ℕ). HasWritten held takes faults mid new (window (after w came) l)) f.0 has));
      }

  -- a write of bytes that were taken failed
  pub taken_failed : (s t : SeatValue Stretch EmitterView) (d : FileDecoderSeen) (old mid new : Sink)
      (came n more : ℕ) (padded : ScanPads) (before now : List ℕ)
      → IsEmitting held takes faults table v w s d old mid came padded
      → TakeGives (segments_bytes s.content) (segments_outcomes s.content) s t before now (Bytes n)
      → length now ≡ length before → HasFailed held faults full mid new (window (after w came) (take n now)) more
      → HasFailed held faults full old new (window w (joined_in v).bytes) (through w came + more)
  taken_failed s t d old mid new came n more padded before now e give same failed =
      let g = gives_in s t before now (Bytes n) e.used.content give in
      let xs = drop s.view.taken (bytes_at (segments_bytes v) s.view.cur) in
      let least = g.5 in
      let f = front xs before now n g.1 same (omega (arith, least)) in
      cut_short held takes faults full v w s.view.cur s.view.taken old mid new came more padded e.so_far
      (failed_in held takes faults full (after w came) mid new (take n xs) (drop n xs) xs more
      (subst (λ (l : List ℕ). HasFailed held faults full mid new (window (after w came) l) more) f.0 failed)
      (sym (take-append-drop n xs)))

  -- the segment that is emitted ended well
  pub good_taken : AreShort v → (s t : SeatValue Stretch EmitterView) (d : FileDecoderSeen)
      (old new : Sink) (came : ℕ) (padded : ScanPads) (more : PadSum) (both : ScanPads) (outcome : Outcome)
      (before now : List ℕ) → IsEmitting held takes faults table v w s d old new came padded
      → HasHeldOnce s t → outcome ≡ Good more
      → both ≡ sums_with padded (sums_of (scan_at v s.view.cur) more)
      → TakeGives (segments_bytes s.content) (segments_outcomes s.content) s t before now (Ended outcome)
      → IsEmitting held takes faults table v w t d old new came both
  good_taken short s t d old new came padded more both outcome before now e h is sum give =
      let g = subst (λ (o : Outcome). TakeGives (segments_bytes v) (segments_outcomes v) s t before now (Ended o))
      is (gives_in s t before now (Ended outcome) e.used.content give) in
      let view : t.view ≡ record s.view { cur = s.view.cur + 1; taken = 0 } = g.0 in
      record {
        used = used_after s t d e.used h g.5.0.claims;
        free = ap (λ (x : EmitterView). x.owns) view ∙ e.free;
        going = ap (λ (x : EmitterView). x.stopped) view ∙ e.going;
        so_far = moved held takes faults full v w (s.view.cur + 1) t.view.cur 0 t.view.taken
            old new came both (ap (λ (x : EmitterView). x.cur) view)
            (ap (λ (x : EmitterView). x.taken) view)
            (subst (IsWrittenTo held takes faults v w (s.view.cur + 1) 0 old new came) (sym sum)
            (good_emitted held takes faults full v w short s.view.cur s.view.taken old new came padded more
            e.so_far g.3 g.2));
      }

  -- and badly
  pub bad_taken : (s t : SeatValue Stretch EmitterView) (d : FileDecoderSeen) (old new : Sink)
      (came : ℕ) (padded : ScanPads) (fault : StreamFault) (outcome : Outcome)
      (before now : List ℕ) → IsEmitting held takes faults table v w s d old new came padded
      → outcome ≡ Bad fault
      → TakeGives (segments_bytes s.content) (segments_outcomes s.content) s t before now (Ended outcome)
      → Emits held takes faults full old new (seen_through w (joined_in v)) (Err (Fault fault))
  bad_taken s t d old new came padded fault outcome before now e is give =
      let g = subst (λ (o : Outcome). TakeGives (segments_bytes v) (segments_outcomes v) s t before now (Ended o))
      is (gives_in s t before now (Ended outcome) e.used.content give) in
      bad_emitted held takes faults full v w s.view.cur s.view.taken old new came padded fault e.so_far g.3 g.2

  -- a take that gave nothing
  pub same_emitted : (s t : SeatValue Stretch EmitterView) (d : FileDecoderSeen) (old new : Sink)
      (came : ℕ) (padded : ScanPads) → IsEmitting held takes faults table v w s d old new came padded
      → HasHeldOnce s t → t.claims ≡ s.claims → t.view ≡ s.view
      → IsEmitting held takes faults table v w t d old new came padded
  same_emitted s t d old new came padded e h claims view = record {
    used = used_after s t d e.used h claims;
    free = ap (λ (x : EmitterView). x.owns) view ∙ e.free;
    going = ap (λ (x : EmitterView). x.stopped) view ∙ e.going;
    so_far = moved held takes faults full v w s.view.cur t.view.cur s.view.taken t.view.taken old new came
        padded (ap (λ (x : EmitterView). x.cur) view) (ap (λ (x : EmitterView). x.taken) view) e.so_far;
  }

  -- a segment of the emitter's own
  pub own_emitted : (s t : SeatValue Stretch EmitterView) (d later : FileDecoderSeen) (old mid new : Sink)
      (came count : ℕ) (padded : ScanPads)
      → IsEmitting held takes faults table v w s d old mid came padded
      → OwnEnds held takes faults full (after w came) s t mid new (Ok count)
      → t.table ≡ s.table → t.content ≡ s.content → later.begun ≡ t.claims → later.plans ≡ d.plans
      → IsEmitting held takes faults table v w t later old new (came + count) padded
  own_emitted s t d later old mid new came count padded e own same content begun plans =
      let view = own.2 in
      let is : own_rest s ≡ drop s.view.taken (bytes_at (segments_bytes v) s.view.cur) =
      ap (λ (c : Stretch). drop s.view.taken (bytes_at (segments_bytes c) s.view.cur)) e.used.content in
      record {
        used = record {
          own = same ∙ e.used.own;
          content = content ∙ e.used.content;
          plans = plans ∙ e.used.plans;
          begun = begun;
        };
        free = ap (λ (x : EmitterView). x.owns) view;
        going = ap (λ (x : EmitterView). x.stopped) view ∙ e.going;
        so_far = moved held takes faults full v w s.view.cur t.view.cur (s.view.taken + count) t.view.taken
            old new (came + count) padded (ap (λ (x : EmitterView). x.cur) view)
            (ap (λ (x : EmitterView). x.taken) view)
            (more_emitted held takes faults full v w s.view.cur s.view.taken count old mid new came padded
            e.so_far
            (subst (λ (c : Stretch). s.view.taken + count ≤ length (bytes_at (segments_bytes c) s.view.cur))
            e.used.content own.1)
            (subst (λ (l : List ℕ). HasWritten held takes faults mid new (window (after w came) (take count l))) is own.0));
      }

  -- in which a write failed
  pub own_failed : (s t : SeatValue Stretch EmitterView) (d : FileDecoderSeen) (old mid new : Sink)
      (came more : ℕ) (padded : ScanPads)
      → IsEmitting held takes faults table v w s d old mid came padded
      → OwnEnds held takes faults full (after w came) s t mid new (Err more)
      → HasFailed held faults full old new (window w (joined_in v).bytes) (through w came + more)
  own_failed s t d old mid new came more padded e own =
      cut_short held takes faults full v w s.view.cur s.view.taken old mid new came more padded e.so_far
      (subst (λ (c : Stretch). HasFailed held faults full mid new
      (window (after w came) (drop s.view.taken (bytes_at (segments_bytes c) s.view.cur))) more) e.used.content own.0)

  -- the next segment is emitted after a good one
  pub good_cur : (s t : SeatValue Stretch EmitterView) (more : PadSum) (outcome : Outcome)
      (before now : List ℕ) → outcome ≡ Good more
      → TakeGives (segments_bytes s.content) (segments_outcomes s.content) s t before now (Ended outcome)
      → t.view.cur ≡ s.view.cur + 1
  good_cur s t more outcome before now is give =
      let g = subst (λ (o : Outcome). TakeGives (segments_bytes s.content) (segments_outcomes s.content) s t before now (Ended o))
      is give in
      ap (λ (x : EmitterView). x.cur) g.0

  -- which is a segment of the stretch
  pub good_within : (s t : SeatValue Stretch EmitterView) (more : PadSum) (outcome : Outcome)
      (before now : List ℕ) → s.content ≡ v → outcome ≡ Good more
      → TakeGives (segments_bytes s.content) (segments_outcomes s.content) s t before now (Ended outcome)
      → s.view.cur < v.count
  good_within s t more outcome before now content is give =
      let g = subst (λ (o : Outcome). TakeGives (segments_bytes v) (segments_outcomes v) s t before now (Ended o))
      is (gives_in s t before now (Ended outcome) content give) in
      outcome_within v s.view.cur (Good more) g.2

joined_after : (scan : ℕ) (bytes : List ℕ) (outcome : Outcome) (more : ScansJoined)
    → length (scanned_with scan bytes outcome more).bytes ≤ length bytes + length more.bytes
joined_after scan bytes (Good pads) more =
    let long = length-append bytes more.bytes in omega (arith, long)
joined_after scan bytes (Bad fault) more = omega arith

joined_few : (scans : List BoxSeen) (room from count : ℕ)
    → ((i : ℕ) → from ≤ i → i < from + count → length (output_at scans i).0 ≤ room)
    → length (scans_joined (scanned_from scans from count)).bytes ≤ room * count
joined_few scans room from zero each = omega arith
joined_few scans room from (suc count) each =
    let more = joined_few scans room (from + 1) count
    (λ i low high. each i (omega (arith, low)) (omega (arith, high))) in
    let first = each from (omega arith) (omega arith) in
    let all = joined_after (scan_of 0 scans from) (output_at scans from).0 (output_at scans from).1
    (scans_joined (scanned_from scans (from + 1) count)) in
    omega (arith, more, first, all)

-- all segments have few bytes
pub few_joined : (v : Stretch) (count : ℕ) → AreShort v → v.count ≤ count
    → length (joined_in v).bytes ≤ segment_room * count
few_joined v count short few =
    let all = joined_few v.container segment_room v.first v.count
    (λ i low high.
    let n : v.first + (i - v.first) ≡ i = omega (arith, low) in
    let under : i - v.first < v.count = omega (arith, low, high) in
    subst (λ (xs : List ℕ). length xs ≤ segment_room)
    (bytes_of v (i - v.first) under ∙ ap (λ (k : ℕ). (output_in v k).0) n) (short (i - v.first))) in
    omega (arith, all, few)
