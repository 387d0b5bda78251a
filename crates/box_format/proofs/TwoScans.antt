-- The worked container is one of two scans.
use Rattle.std.proofs.Common.{◌≡◌, ◌*◌, ◌++◌, true, ℕ, List, [], ◌∷◌, nat_lt, replicate, refl, arith, subst, inl, inr}
use Rattle.std.specs.Prelude.{slice_set}
use Rattle.std.specs.List.{AllByRecursion, list_all}
use Rattle.std.proofs.lemmas.Bool.{and_parts, ltb-true}
use Rattle.bit_list.specs.Bits.{IsByte}
use Rattle.handover.specs.HandoverBytes.{handover_in}
use Rattle.jpeg_marker.specs.MarkerSegments.{Segment}
use Rattle.jpeg_marker.specs.HeaderPlan.{Begins, Stops}
use Rattle.jpeg_marker.specs.Walks.{next_walk}
use Rattle.jpeg_marker.specs.FirstWalks.{opening_walk}
use Rattle.jpeg_marker.specs.declared.refusal.HeaderRefusal.TheVariants.{MultiScan}
use Rattle.box_format.specs.declared.refusal.BoxRefusal.TheVariants.{BoxHeader, HeaderLong}
use Rattle.box_format.specs.Versions.{decoded}
use Rattle.box_format.specs.declared.version.Version.TheVariants.{Fourth}
use Rattle.box_format.specs.Parts.{BoxSeen}
use Rattle.box_format.specs.Containers.{IsContainer, IsContainerIn}
use Rattle.box_format.specs.Fields.{scan_raw, raws_of}
use Rattle.box_format.specs.Checks.{HeadersPass, PassesAs, IsRefused, early_fault, late_fault, boxes_of}
use Rattle.box_format.specs.ScansRows.{header_one, header_two, plan_one, plan_two, plans, two, two_box}
use Rattle.box_format.proofs.ScansOfBytes.{passed_is_container}

-- segments
abbrev segment : ℕ → List ℕ → Segment
segment code body = record { fill = 0; code = code; body = body }

abbrev frame : Segment
frame = segment 0xc0 (8 ∷ 0 ∷ 8 ∷ 0 ∷ 8 ∷ 2 ∷ 1 ∷ 0x11 ∷ 0 ∷ 2 ∷ 0x11 ∷ 0 ∷ [])

abbrev table : ℕ → Segment
table class = segment 0xc4 (16 * class ∷ 1 ∷ replicate 15 0 ++ 0 ∷ [])

abbrev scan_of : ℕ → Segment
scan_of id = segment 0xda (1 ∷ id ∷ 0 ∷ 0 ∷ 63 ∷ 0 ∷ [])

begins_one : Begins opening_walk header_one plan_one
begins_one = record {
  before = frame ∷ table 0 ∷ table 1 ∷ [];
  scan = scan_of 1;
  rest = [];
  header = record {
    passed = record {
      good = (
        record { whole = record { known = refl; fits = omega arith }; checked = refl },
        (
          record { whole = record { known = refl; fits = omega arith }; checked = refl },
          (
            record { whole = record { known = refl; fits = omega arith }; checked = refl },
            tt,
          ),
        ),
      );
      no_scan = (refl, (refl, (refl, tt)));
    };
    good = record { whole = record { known = refl; fits = omega arith }; checked = refl };
    last = refl;
  };
  text = refl;
  says = refl;
}

begins_two : (rest : List ℕ) → Begins (next_walk plan_one.known 0) (header_two ++ rest) plan_two
begins_two rest = record {
  before = [];
  scan = scan_of 2;
  rest = rest;
  header = record {
    passed = record { good = tt; no_scan = tt };
    good = record { whole = record { known = refl; fits = omega arith }; checked = refl };
    last = refl;
  };
  text = refl;
  says = refl;
}

bytes_are : (xs : List ℕ) → list_all (λ n. nat_lt n 256) xs ≡ true → AllByRecursion IsByte xs
bytes_are [] e = tt
bytes_are (x ∷ xs) e =
    let parts = and_parts (nat_lt x 256) (list_all (λ n. nat_lt n 256) xs) e in
    (ltb-true x 256 parts.0, bytes_are xs parts.1)

-- ---- so the container is one of these scans

headers : HeadersPass opening_walk (raws_of two_box) plans
unfolding scan_raw
headers = (begins_one, refl, (begins_two [], refl, tt))

passes : PassesAs Fourth decoded plans two_box
unfolding handover_in scan_raw early_fault late_fault
passes = record { early = refl; headers = headers; late = refl }

again : boxes_of plans (raws_of two_box) ≡ two
unfolding handover_in scan_raw
again = refl

pub two_are_scans : IsContainer two two_box
two_are_scans = (
  Fourth,
  subst (λ (scans : List BoxSeen). IsContainerIn Fourth scans two_box) again
      (passed_is_container decoded plans two_box (bytes_are two_box refl) passes).0,
)

-- ---- a second header that is no file's

-- the header of a further scan that names the first component
stops_two : Stops (next_walk plan_one.known 0) (slice_set header_two 5 1) MultiScan
stops_two = record {
  before = [];
  rest = slice_set header_two 5 1;
  passed = record { good = tt; no_scan = tt };
  text = refl;
  stuck = inr (scan_of 1, [], record { known = refl; fits = omega arith }, refl, refl);
}

pub second_again : IsRefused (slice_set two_box 151 1) (BoxHeader MultiScan)
unfolding scan_raw early_fault
second_again =
    inr (refl, inl (inr (plan_one, begins_one, inr (refl, inl (MultiScan, inr stops_two, refl)))))

-- and one that is longer than its segments
pub second_long : IsRefused (slice_set (slice_set two_box 47 11) 9 1) (HeaderLong 10)
unfolding scan_raw early_fault
second_long =
    inr (
      refl,
      inl (inr (
        plan_one,
        begins_one,
        inr (refl, inr (plan_two, begins_two (0xff ∷ []), inl (refl, refl))),
      )),
    )
