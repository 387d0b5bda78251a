use Rattle.std.proofs.Common.{◌≡◌, ◌+◌, ℕ, List, [], Ok, Err, sym, ap, ap₂, subst, ◌∙◌}
use Rattle.std.proofs.lemmas.Result.{err_from_is_err_and}
use Rattle.bit_list.specs.Units.{Cursor, Reading, starting}
use Rattle.scan_spec.specs.ScanCalls.{ScanReader}
use Rattle.scan_spec.specs.Scans.{no_dcs}
use Rattle.scan_spec.specs.ScanReading.{and_then, pads_at, after_pads}
use Rattle.scan_spec.specs.ScanSymbols.{restart_at}
use Rattle.scan_spec.specs.declared.refusal.ScanRefusal.TheVariants as refusals
use Rattle.scan_decode.specs.ReaderInside.{reader_of}
use Rattle.scan_decode.proofs.IntervalEnds.{Next, mixed, padded, scan_over, no_restart, begins}
use Rattle.scan_decode.proofs.reader.Reader.close.Goals as goal

abbrev After : ScanReader → Next
After s = and_then (pads_at s.at.cursor) (after_pads s.shape s.bytes s.at.count)

pub returns-in-None-clause-is : goal.returns-in-None-clause-is
returns-in-None-clause-is c =
    let r = reader_of c.self.inside in
    let e = c.rest_of_byte-number.ensures in
    ap (λ (n : ℕ). Err (refusals.MixedPad n)) c.place-last.ensures
    ∙ subst (λ (s : ScanReader). Err (refusals.MixedPad c.self.inside.input.cursor.last) ≡ After s) c.self.view_is
    (mixed r.shape r.bytes r.at.count r.at.cursor c.rest_of_byte-number.result.1 c.rest_of_byte-number.result.0 e.count e.number c.in-None.ensures)

pub returns-then-self-mcus-clause-is : goal.returns-then-self-mcus-clause-is
returns-then-self-mcus-clause-is c =
    let i = c.self.inside in
    let r = reader_of i in
    let e = c.rest_of_byte-number.ensures in
    let p = c.in-Some.pad in
    let after = padded r.shape r.bytes r.at.count p r.at.cursor c.rest_of_byte-number.result.1 c.rest_of_byte-number.result.0 e.count e.number c.in-Some.ensures in
    let over = scan_over r.shape r.bytes r.at.count p (record i.input.cursor { left = [] }) (c.if-self-mcus.true ∙ c.mcus.ensures) in
    ap (λ (s : ScanReader). Ok s.at) c.begin.ensures
    ∙ ap (λ (k : Cursor). Ok (record { cursor = k; before = no_dcs; count = i.count + 1; pad = p })) e.cursor
    ∙ subst (λ (s : ScanReader). Ok (record { cursor = record i.input.cursor { left = [] }; before = no_dcs; count = i.count + 1; pad = p }) ≡ After s) c.self.view_is (over ∙ after)

pub returns-in_err-place-clause-is : goal.returns-in_err-place-clause-is
returns-in_err-place-clause-is c =
    let q = err_from_is_err_and c.from_residual.result c.from_residual.ensures.1 in
    let i = c.self.inside in
    let r = reader_of i in
    let e = c.rest_of_byte-number.ensures in
    let p = c.in-Some.pad in
    let f = c.in_err-place.field-0.0 in
    let after = padded r.shape r.bytes r.at.count p r.at.cursor c.rest_of_byte-number.result.1 c.rest_of_byte-number.result.0 e.count e.number c.in-Some.ensures in
    let stands =
    c.in_err-place.ensures ∙ ap (λ (b : List ℕ). restart_at b c.interval_number-number.result c.next_place.result) (sym c.self.invariant.bytes)
    ∙ ap₂ (λ (n k : ℕ). restart_at r.bytes n k) c.interval_number-number.ensures (c.next_place.ensures ∙ ap (λ (k : Cursor). k.next) e.cursor) in
    let none = no_restart r.shape r.bytes r.at.count p (record i.input.cursor { left = [] }) f (λ e. c.if-self-mcus.false (e ∙ sym c.mcus.ensures)) stands in
    rw (q.1, q.2) (subst (λ (s : ScanReader). Err f ≡ After s) c.self.view_is (none ∙ after))

pub returns-clause-is : goal.returns-clause-is
returns-clause-is c =
    let i = c.self.inside in
    let r = reader_of i in
    let e = c.rest_of_byte-number.ensures in
    let p = c.in-Some.pad in
    let place = c.in_ok-place.place in
    let after = padded r.shape r.bytes r.at.count p r.at.cursor c.rest_of_byte-number.result.1 c.rest_of_byte-number.result.0 e.count e.number c.in-Some.ensures in
    let stands =
    c.in_ok-place.ensures ∙ ap (λ (b : List ℕ). restart_at b c.interval_number-number.result c.next_place.result) (sym c.self.invariant.bytes)
    ∙ ap₂ (λ (n k : ℕ). restart_at r.bytes n k) c.interval_number-number.ensures (c.next_place.ensures ∙ ap (λ (k : Cursor). k.next) e.cursor) in
    let next = begins r.shape r.bytes r.at.count p (record i.input.cursor { left = [] }) place (λ e. c.if-self-mcus.false (e ∙ sym c.mcus.ensures)) stands in
    ap (λ (s : ScanReader). Ok s.at) c.begin-2.ensures
    ∙ ap (λ (k : Reading). Ok (record { cursor = k.cursor; before = no_dcs; count = i.count + 1; pad = p })) c.at-self-inside.ensures
    ∙ subst (λ (s : ScanReader). Ok (record { cursor = starting place 0; before = no_dcs; count = i.count + 1; pad = p }) ≡ After s) c.self.view_is (next ∙ after)
