use Rattle.std.proofs.Common.{sym, ap, ◌∙◌, length}
use Rattle.bit_list.specs.NumbersOfBits.{length-low_bits, number_again}
use Rattle.bit_list.specs.Bits.{number_of}
use Rattle.bit_list.specs.Units.{Cursor}
use Rattle.bit_list.proofs.bit_in.BitIn.rest_of_byte.Goals as goal

pub returns-clause-count : goal.returns-clause-count
returns-clause-count c =
    let w = c.begun-window.result in
    rw (← c.self.view_is) (sym (length-low_bits w.count w.number) ∙ ap (λ (at : Cursor). length at.left) c.begun-window.ensures.cursor)

pub returns-clause-number : goal.returns-clause-number
returns-clause-number c =
    let w = c.begun-window.result in
    rw (← c.self.view_is) (sym (number_again w.count w.number c.begun-window.ensures.kept.bits.below) ∙ ap (λ (at : Cursor). number_of at.left) c.begun-window.ensures.cursor)
