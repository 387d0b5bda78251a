use Rattle.std.proofs.Common.{refl, [], ◌∷◌, true, false, List, Bool}
use Rattle.huff_table.specs.CodeWords.{word_of, words_of, value_of}
use Rattle.huff_table.specs.Decoding.{value_after}
use Rattle.bit_list.specs.Units.{Cursor, unit_at, filled, bit_at, bits_at}
use Rattle.scan_spec.specs.BlockBits.{block_text, dc_text, ac_text, ac_values, value_text, zeros_text, word_text}
use Rattle.scan_spec.specs.Blocks.{blocks_text, dcs_after}
use Rattle.scan_spec.specs.Scans.{mcus_bits, intervals_bytes, scan_bytes, no_dcs}
use Rattle.scan_spec.specs.Spots.{mcu_put, mcus_put}
use Rattle.scan_spec.specs.ScanReading.{dc_at, acs_at, block_at, blocks_at, mcu_at, mcus_at}
use Rattle.scan_spec.specs.ScanSymbols.{restart_at}
use Rattle.scan_spec.specs.ScanPads.{pads_told}
use Rattle.scan_spec.specs.Items.{Coded, Stage, Due, DcBits, AcWord, Wrong}
use Rattle.scan_spec.specs.declared.slot.Slot.{Slot}
use Rattle.scan_spec.specs.declared.refusal.ScanRefusal.TheVariants.{LooseZeros}
use Rattle.scan_spec.specs.ScanRows.{loose}
use Rattle.scan_spec.proofs.Parts.{put_in_parts}
use Rattle.scan_spec.proofs.PutWhole.{put_whole}
use Rattle.scan_spec.proofs.laws.rows_of_scans.Goals as goal

pub returns-clause-written : goal.returns-clause-written
unfolding block_text dc_text ac_text ac_values value_text zeros_text word_text word_of words_of blocks_text mcus_bits intervals_bytes scan_bytes
returns-clause-written c = (refl, refl, refl, refl, refl, refl, refl, refl, refl, refl)

pub returns-clause-put : goal.returns-clause-put
unfolding block_text dc_text ac_text ac_values value_text zeros_text word_text word_of words_of blocks_text dcs_after mcu_put mcus_put
returns-clause-put c = (refl, refl, refl)

pub returns-clause-done : goal.returns-clause-done
unfolding block_text dc_text ac_text ac_values value_text zeros_text word_text word_of words_of blocks_text dcs_after mcu_put mcus_put
returns-clause-done c = (refl, refl, refl, refl, refl, refl, refl, refl)

pub returns-clause-read : goal.returns-clause-read
unfolding value_of words_of value_after unit_at filled bit_at bits_at dc_at acs_at block_at blocks_at restart_at mcu_at mcus_at pads_told ac_values
returns-clause-read c = (refl, refl, refl, refl, refl, refl, refl, refl, refl, refl, refl, refl, refl, refl)

pub returns-clause-parts : goal.returns-clause-parts
returns-clause-parts c = λ shape pads spot mcus more. put_in_parts shape pads mcus more spot

abbrev slot : Slot
slot = record { component = 0; codes = loose }

abbrev stage : Due → Stage
stage due = record { due = due; run = record { slots = []; before = no_dcs; count = 0; pads = [] } }

abbrev left : List Bool → Cursor
left bits = record { left = bits; skip = 0; last = 0; next = 1 }

pub returns-clause-stuck : goal.returns-clause-stuck
unfolding word_of words_of unit_at filled bit_at bits_at
returns-clause-stuck c = record {
  items = Coded (false ∷ []) ∷ Coded [] ∷ Coded (false ∷ []) ∷ Coded (true ∷ []) ∷ [];
  last = stage (Wrong LooseZeros);
  end = left (true ∷ true ∷ true ∷ true ∷ true ∷ []);
  path = (
    stage (DcBits slot 0),
    left (false ∷ true ∷ true ∷ true ∷ true ∷ true ∷ true ∷ []),
    (0, (refl, refl), refl),
    (
      stage (AcWord slot 63 false),
      left (false ∷ true ∷ true ∷ true ∷ true ∷ true ∷ true ∷ []),
      (refl, refl, refl),
      (
        stage (AcWord slot 47 true),
        left (true ∷ true ∷ true ∷ true ∷ true ∷ true ∷ []),
        (240, (refl, refl), refl),
        (stage (Wrong LooseZeros), left (true ∷ true ∷ true ∷ true ∷ true ∷ []), (0, (refl, refl), refl), (refl, refl)),
      ),
    ),
  );
  stuck = refl;
}

pub returns-clause-whole : goal.returns-clause-whole
returns-clause-whole c = put_whole
