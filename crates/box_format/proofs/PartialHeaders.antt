-- A worked header whose scan isn't the last begins a file of several scans.
use Rattle.std.proofs.Common.{◌*◌, ◌++◌, ℕ, List, [], ◌∷◌, replicate, refl, arith}
use Rattle.jpeg_marker.specs.FirstWalks.{opening_walk}
use Rattle.jpeg_marker.specs.HeaderPlan.{Begins}
use Rattle.jpeg_marker.specs.MarkerSegments.{Segment}
use Rattle.box_format.specs.Rows.{partial_header, partial_plan}

-- segments
abbrev segment : ℕ → List ℕ → Segment
segment code body = record { fill = 0; code = code; body = body }

abbrev frame : Segment
frame = segment 0xc0 (8 ∷ 0 ∷ 8 ∷ 0 ∷ 8 ∷ 2 ∷ 1 ∷ 0x11 ∷ 0 ∷ 2 ∷ 0x11 ∷ 0 ∷ [])

abbrev table : ℕ → Segment
table class = segment 0xc4 (16 * class ∷ 1 ∷ replicate 15 0 ++ 0 ∷ [])

-- whatever follows it
pub begins_partial : (rest : List ℕ) → Begins opening_walk (partial_header ++ rest) partial_plan
begins_partial rest = record {
  before = frame ∷ table 0 ∷ table 1 ∷ [];
  scan = segment 0xda (1 ∷ 1 ∷ 0 ∷ 0 ∷ 63 ∷ 0 ∷ []);
  rest = rest;
  header = record {
    passed = record {
      good = (
        record { whole = record { known = refl; fits = omega arith }; checked = refl },
        (
          record { whole = record { known = refl; fits = omega arith }; checked = refl },
          (
            record { whole = record { known = refl; fits = omega arith }; checked = refl },
            tt,
          ),
        ),
      );
      no_scan = (refl, (refl, (refl, tt)));
    };
    good = record { whole = record { known = refl; fits = omega arith }; checked = refl };
    last = refl;
  };
  text = refl;
  says = refl;
}
