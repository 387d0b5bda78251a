use Rattle.std.proofs.Common.{[], ◌≡◌, ◌∙◌, List, ℕ, Ok, Err, map, subst, sym}
use Rattle.std.proofs.lemmas.Result.{err_from_is_err_and}
use Rattle.scan_spec.specs.declared.slot.Slot.{Slot}
use Rattle.scan_spec.specs.ScanCalls.{ScanReader}
use Rattle.scan_spec.specs.ScanReading.{after_mcu, blocks_at, BlocksRead, mcu_at}
use Rattle.scan_spec.specs.BlockBits.{in_zigzag}
use Rattle.scan_decode.specs.ReadResults.{mcu_read, standing_read}
use Rattle.scan_decode.specs.ReaderInside.{reader_of}
use Rattle.scan_decode.proofs.Standings.{no_blocks, ends_well}
use Rattle.scan_decode.specs.SkipWords.{AreSkipSlots}
use Rattle.scan_decode.proofs.reader.Reader.mcu_skipped.Goals as goal

pub returns-in_err-skip_blocks-clause-is : goal.returns-in_err-skip_blocks-clause-is
returns-in_err-skip_blocks-clause-is c =
    let p = err_from_is_err_and c.from_residual.result c.from_residual.ensures.1 in
    let i = c.self.inside in
    let r = reader_of i in
    let e = subst (λ (slots : List Slot). Err c.in_err-skip_blocks.field-0.0 ≡ blocks_at slots i.before i.input.bytes i.input.cursor) c.slots.ensures.slots c.in_err-skip_blocks.ensures.is.1 in
    rw (p.1, p.2) ([], subst (λ (s : ScanReader). Err c.in_err-skip_blocks.field-0.0 ≡ mcu_at s.shape s.bytes s.at) c.self.view_is (no_blocks r.shape r.bytes r.at c.in_err-skip_blocks.field-0.0 e))

pub returns-clause-is : goal.returns-clause-is
returns-clause-is c =
    let i = c.self.inside in
    let r = reader_of i in
    let is = c.in_ok-skip_blocks.ensures.is in
    let end = c.end_mcu in
    let read : BlocksRead = record { blocks = map in_zigzag is.0; before = c.skip_blocks.new.before; cursor = c.skip_blocks.new.input.cursor } in
    let e = subst (λ (slots : List Slot). Ok read ≡ blocks_at slots i.before i.input.bytes i.input.cursor) c.slots.ensures.slots is.1 in
    let after = subst (λ (bytes : List ℕ). standing_read end.result end.new.self.at ≡ after_mcu r.shape bytes r.at read) c.skip_blocks.ensures.bytes end.ensures.is in (
      is.0,
      subst (λ (s : ScanReader). mcu_read end.result (map in_zigzag is.0) end.new.self.at ≡ mcu_at s.shape s.bytes s.at) c.self.view_is
          (ends_well end.result end.new.self.at r.shape r.bytes r.at read e after),
    )

pub skip_blocks-requires-clause-skips : goal.skip_blocks-requires-clause-skips
skip_blocks-requires-clause-skips c =
    subst (λ (slots : List Slot). AreSkipSlots slots (map (λ v. v.items) c.self.inside.skips.items)) (sym c.slots.ensures.slots) c.self.invariant.skips

pub invariant_of-self : goal.invariant_of-self
invariant_of-self c = record {
  before = c.skip_blocks.ensures.small;
  count = c.self.invariant.count;
  size = c.self.invariant.size;
  bytes = c.skip_blocks.ensures.bytes ∙ c.self.invariant.bytes;
  skips = subst (λ (slots : List Slot). AreSkipSlots slots (map (λ v. v.items) c.skip_blocks.new.skips.items)) c.slots.ensures.slots c.skip_blocks.ensures.skips;
  reads = c.self.invariant.reads;
}

pub invariant_of-self-2 : goal.invariant_of-self-2
invariant_of-self-2 c = record {
  before = c.skip_blocks.ensures.small;
  count = c.self.invariant.count;
  size = c.self.invariant.size;
  bytes = c.skip_blocks.ensures.bytes ∙ c.self.invariant.bytes;
  skips = subst (λ (slots : List Slot). AreSkipSlots slots (map (λ v. v.items) c.skip_blocks.new.skips.items)) c.slots.ensures.slots c.skip_blocks.ensures.skips;
  reads = c.self.invariant.reads;
}
