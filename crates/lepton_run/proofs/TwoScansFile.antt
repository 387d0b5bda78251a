-- The worked file of two scans is one.
use Rattle.std.proofs.Common.{◌*◌, ◌++◌, true, ℕ, List, [], ◌∷◌, replicate, refl, arith}
use Rattle.huff_table.specs.CodeWords.{word_of, words_of}
use Rattle.jpeg_marker.specs.MarkerSegments.{Segment}
use Rattle.jpeg_marker.specs.HeaderPlan.{Begins}
use Rattle.jpeg_marker.specs.Walks.{next_walk}
use Rattle.jpeg_marker.specs.FirstWalks.{opening_walk}
use Rattle.coef_block.proofs.Zeros.{zeros_are_a_block}
use Rattle.scan_spec.specs.BlockBits.{block_text, dc_text, ac_text, ac_values, value_text, zeros_text, word_text}
use Rattle.scan_spec.specs.Blocks.{blocks_text}
use Rattle.scan_spec.specs.FileParts.{IsScanOf}
use Rattle.scan_spec.specs.ScanRows.{blank}
use Rattle.scan_spec.specs.Scans.{IsScan, intervals_bytes, mcus_bits, scan_bytes}
use Rattle.scan_spec.specs.Slots.{shape_of}
use Rattle.box_format.specs.Rows.{image_end}
use Rattle.box_format.specs.ScansRows.{plan_one, plan_two}
use Rattle.lepton_run.specs.FileRows.{after_first, two_scans, two_scans_file}

abbrev segment : ℕ → List ℕ → Segment
segment code body = record { fill = 0; code = code; body = body }

abbrev frame : Segment
frame = segment 0xc0 (8 ∷ 0 ∷ 8 ∷ 0 ∷ 8 ∷ 2 ∷ 1 ∷ 0x11 ∷ 0 ∷ 2 ∷ 0x11 ∷ 0 ∷ [])

abbrev table : ℕ → Segment
table class = segment 0xc4 (16 * class ∷ 1 ∷ replicate 15 0 ++ 0 ∷ [])

abbrev scan_of : ℕ → Segment
scan_of id = segment 0xda (1 ∷ id ∷ 0 ∷ 0 ∷ 63 ∷ 0 ∷ [])

-- ---- the headers

opens : Begins opening_walk two_scans_file plan_one
opens = record {
  before = frame ∷ table 0 ∷ table 1 ∷ [];
  scan = scan_of 1;
  rest = 0x3f ∷ after_first;
  header = record {
    passed = record {
      good = (
        record { whole = record { known = refl; fits = omega arith }; checked = refl },
        (
          record { whole = record { known = refl; fits = omega arith }; checked = refl },
          (
            record { whole = record { known = refl; fits = omega arith }; checked = refl },
            tt,
          ),
        ),
      );
      no_scan = (refl, (refl, (refl, tt)));
    };
    good = record { whole = record { known = refl; fits = omega arith }; checked = refl };
    last = refl;
  };
  text = refl;
  says = refl;
}

continues : Begins (next_walk plan_one.known 0) after_first plan_two
continues = record {
  before = [];
  scan = scan_of 2;
  rest = 0x3f ∷ image_end;
  header = record {
    passed = record { good = tt; no_scan = tt };
    good = record { whole = record { known = refl; fits = omega arith }; checked = refl };
    last = refl;
  };
  text = refl;
  says = refl;
}

-- ---- and the scans

one : IsScan (shape_of plan_one) (blank ∷ []) (true ∷ []) (0x3f ∷ [])
unfolding block_text dc_text ac_text ac_values value_text zeros_text word_text word_of words_of blocks_text mcus_bits intervals_bytes scan_bytes
one = record {
  grid = record { count = refl; each = ((refl, (zeros_are_a_block, tt)), tt) };
  told = ((λ _. refl), tt);
  text = refl;
}

other : IsScan (shape_of plan_two) (blank ∷ []) (true ∷ []) (0x3f ∷ [])
unfolding block_text dc_text ac_text ac_values value_text zeros_text word_text word_of words_of blocks_text mcus_bits intervals_bytes scan_bytes
other = record {
  grid = record { count = refl; each = ((refl, (zeros_are_a_block, tt)), tt) };
  told = ((λ _. refl), tt);
  text = refl;
}

pub two_are_a_file : two_scans
two_are_a_file =
    let a : IsScanOf opening_walk two_scans_file plan_one (blank ∷ []) (true ∷ []) after_first =
    record { header = opens; scan = 0x3f ∷ []; is = one; text = refl } in
    let b : IsScanOf (next_walk plan_one.known 0) after_first plan_two (blank ∷ []) (true ∷ [])
    image_end =
    record { header = continues; scan = 0x3f ∷ []; is = other; text = refl } in
    (after_first, a, refl, (b, refl))
