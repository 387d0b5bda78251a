use Rattle.std.proofs.Common.{◌≡◌, ◌<◌, List, length, Ok, IfOk, sym, ap, ◌∙◌, subst}
use Rattle.std.specs.List.{All}
use Rattle.scan_spec.specs.BlockBits.{Text}
use Rattle.scan_spec.specs.Blocks.{blocks_text}
use Rattle.scan_spec.specs.Scans.{no_dcs}
use Rattle.scan_spec.specs.declared.slot.Slot.{Slot}
use Rattle.scan_spec.proofs.PlainTurns.{times_length, times_all, bits_again}
use Rattle.scan_spec.proofs.plain_bytes.interval_bits.Goals as goal

pub plain_blocks-requires-clause-long : goal.plain_blocks-requires-clause-long
plain_blocks-requires-clause-long c =
    ap length (c.as_slice-all.ensures.value ∙ c.in_ok-all.ensures) ∙ times_length c.args.mcus c.args.slots.now ∙ sym c.requires.long

pub plain_blocks-requires-clause-slots : goal.plain_blocks-requires-clause-slots
plain_blocks-requires-clause-slots c =
    subst (λ (all : List Slot). All (λ (s : Slot). s.component < 4) all) (sym (c.as_slice-all.ensures.value ∙ c.in_ok-all.ensures)) (times_all c.args.mcus c.args.slots.now c.requires.slots)

pub returns-clause-bits : goal.returns-clause-bits
returns-clause-bits c =
    let same = ap (λ (all : List Slot). blocks_text all no_dcs c.args.blocks.now) (c.as_slice-all.ensures.value ∙ c.in_ok-all.ensures) ∙ sym (bits_again c.args.mcus c.args.slots.now c.args.blocks.now c.requires.long) in
    subst (λ (t : Text). IfOk c.plain_blocks.result (λ bits. t ≡ Ok bits.items)) same c.plain_blocks.ensures.bits

pub returns-clause-stop : goal.returns-clause-stop
returns-clause-stop c =
    let same = ap (λ (all : List Slot). blocks_text all no_dcs c.args.blocks.now) (c.as_slice-all.ensures.value ∙ c.in_ok-all.ensures) ∙ sym (bits_again c.args.mcus c.args.slots.now c.args.blocks.now c.requires.long) in
    λ stop is. sym same ∙ c.plain_blocks.ensures.stop stop is
