-- The worked container of the least file is the answer to it.
use Rattle.std.proofs.Common.{◌≡◌, ◌*◌, ◌++◌, true, ℕ, List, [], ◌∷◌, nat_lt, replicate, take, refl, sym, ap, ◌∙◌, inr, arith}
use Rattle.std.specs.List.{AllByRecursion, list_all}
use Rattle.std.proofs.lemmas.Bool.{and_parts, ltb-true}
use Rattle.bit_list.specs.Bits.{IsByte}
use Rattle.bool_coder.specs.BoolStream.{after, stream}
use Rattle.huff_table.specs.CodeWords.{word_of, words_of}
use Rattle.handover.specs.HandoverBytes.{handover_bytes}
use Rattle.jpeg_marker.specs.MarkerSegments.{Segment}
use Rattle.jpeg_marker.specs.HeaderPlan.{Begins}
use Rattle.jpeg_marker.specs.FirstWalks.{only_walk}
use Rattle.jpeg_marker.proofs.HeadersTaken.{none_known}
use Rattle.coef_block.proofs.Zeros.{zeros_are_a_block}
use Rattle.scan_spec.specs.BlockBits.{block_text, dc_text, ac_text, ac_values, value_text, zeros_text, word_text}
use Rattle.scan_spec.specs.Blocks.{blocks_text, dcs_after}
use Rattle.scan_spec.specs.FileParts.{IsFileOf}
use Rattle.scan_spec.specs.ScanRows.{blank}
use Rattle.scan_spec.specs.Scans.{IsScan, intervals_bytes, mcus_bits, scan_bytes}
use Rattle.scan_spec.specs.Slots.{shape_of}
use Rattle.scan_spec.specs.Spots.{mcu_put, mcus_put}
use Rattle.block_spec.specs.Around.{inner_positions, values_in, guess, prediction, dc_spread}
use Rattle.block_spec.specs.BlockEvents.{block_events, inner_count_events, edge_events, dc_events, ac_events}
use Rattle.block_spec.specs.Grid.{cell_at, block_at}
use Rattle.block_spec.specs.SegmentEvents.{segment_events, events_at, around_in}
use Rattle.block_spec.specs.Values.{value_events, count_events, values_events}
use Rattle.box_format.specs.Rows.{grey_plan, image_end, least_parts, second_box}
use Rattle.box_format.specs.Single.{box_bytes}
use Rattle.box_format.specs.Parts.{can_pad, migrated}
use Rattle.box_format.specs.Containers.{container_bytes}
use Rattle.box_format.specs.Versions.{layout_of}
use Rattle.box_format.specs.declared.version.Version.TheVariants.{Second}
use Rattle.container_spec.proofs.ScanContainers.{IsContainerOfOne}
use Rattle.container_spec.specs.ScansFiles.{IsContainerOf}
use Rattle.container_spec.specs.Files.{parts_of_file, told_pads}
use Rattle.container_spec.specs.ScanStream.{blocks_stream}
use Rattle.container_spec.proofs.FilesAlone.{as_one}
use Rattle.lepton_run.specs.FileRows.{least, least_file}

abbrev segment : ℕ → List ℕ → Segment
segment code body = record { fill = 0; code = code; body = body }

abbrev frame : Segment
frame = segment 0xc0 (8 ∷ 0 ∷ 8 ∷ 0 ∷ 8 ∷ 1 ∷ 1 ∷ 0x11 ∷ 0 ∷ [])

abbrev table : ℕ → Segment
table class = segment 0xc4 (16 * class ∷ 1 ∷ replicate 15 0 ++ 0 ∷ [])

begins : Begins only_walk least_file (grey_plan 1)
begins = record {
  before = frame ∷ table 0 ∷ table 1 ∷ [];
  scan = segment 0xda (1 ∷ 1 ∷ 0 ∷ 0 ∷ 63 ∷ 0 ∷ []);
  rest = 0x3f ∷ image_end;
  header = record {
    passed = record {
      good = (
        record { whole = record { known = refl; fits = omega arith }; checked = refl },
        (
          record { whole = record { known = refl; fits = omega arith }; checked = refl },
          (
            record { whole = record { known = refl; fits = omega arith }; checked = refl },
            tt,
          ),
        ),
      );
      no_scan = (refl, (refl, (refl, tt)));
    };
    good = record { whole = record { known = refl; fits = omega arith }; checked = refl };
    last = refl;
  };
  text = refl;
  says = refl;
}

scan_is : IsScan (shape_of (grey_plan 1)) (blank ∷ []) (true ∷ []) (0x3f ∷ [])
unfolding block_text dc_text ac_text ac_values value_text zeros_text word_text word_of words_of blocks_text mcus_bits intervals_bytes scan_bytes
scan_is = record {
  grid = record { count = refl; each = ((refl, (zeros_are_a_block, tt)), tt) };
  told = ((λ _. refl), tt);
  text = refl;
}

file_is : IsFileOf least_file (grey_plan 1) (blank ∷ []) (true ∷ []) image_end
file_is = record { header = begins; scan = 0x3f ∷ []; is = scan_is; text = refl }

bytes_are : (xs : List ℕ) → list_all (λ n. nat_lt n 256) xs ≡ true → AllByRecursion IsByte xs
bytes_are [] e = tt
bytes_are (x ∷ xs) e =
    let parts = and_parts (nat_lt x 256) (list_all (λ n. nat_lt n 256) xs) e in
    (ltb-true x 256 parts.0, bytes_are xs parts.1)

-- ---- its container

parts_are : parts_of_file Second (grey_plan 1) (blank ∷ []) (true ∷ []) (take 69 least_file) image_end 8
    ≡ migrated least_parts
unfolding after stream blocks_stream value_events count_events values_events inner_positions values_in guess prediction dc_spread block_events inner_count_events edge_events dc_events ac_events cell_at block_at segment_events events_at around_in block_text dc_text ac_text ac_values value_text zeros_text word_text word_of words_of blocks_text mcus_bits dcs_after mcu_put mcus_put
parts_are = refl

text_is : box_bytes (migrated least_parts) ≡ second_box
unfolding handover_bytes container_bytes
text_is = refl

can_be_said : can_pad (layout_of Second).listed (shape_of (grey_plan 1))
    (told_pads (grey_plan 1) (blank ∷ []) (true ∷ [])) ≡ true
unfolding block_text dc_text ac_text ac_values value_text zeros_text word_text word_of words_of blocks_text mcus_bits
can_be_said = refl

of_one_scan : IsContainerOfOne Second 8 second_box least_file
of_one_scan = record {
  known = none_known;
  whole = refl;
  bytes = bytes_are least_file refl;
  plan = grey_plan 1;
  mcus = blank ∷ [];
  pads = true ∷ [];
  trailer = image_end;
  is = file_is;
  header_fits = omega arith;
  trailer_fits = omega arith;
  can = can_be_said;
  spelled = sym text_is ∙ ap box_bytes (sym parts_are);
}

contained : IsContainerOf Second (8 ∷ []) second_box least_file
contained = as_one Second 8 second_box least_file refl of_one_scan

pub least_answers : least
least_answers =
    inr (record { short = omega arith; are = bytes_are least_file refl; makes = (1, contained) })
