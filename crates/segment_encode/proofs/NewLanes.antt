-- All segments in lanes.
use Rattle.std.proofs.Common.{◌≡◌, ℕ, zero, suc, ◌+◌, ◌-◌, ◌*◌, ◌<◌, ◌≤◌, min, List, [], ◌∷◌, ◌++◌, length, refl, sym, ap, subst, ◌∙◌, arith, append-nil, length-append}
use Rattle.std.specs.Prelude.{All, flat_map, slice_index_or}
use Rattle.std.proofs.lemmas.Grind.{flat_map-append}
use Rattle.std.proofs.lemmas.List.Elements.{All-nil, All-push}
use Rattle.segment_code.specs.ReadyParts.{ReadyFields}
use Rattle.segment_encode.specs.Lanes.{AreCoded, AreOfAFile, GiveEach, HasCoded, IsNewLane, parts_in}
use Rattle.segment_encode.specs.declared.lanes.Lane.{Lane}
use Rattle.segment_encode.proofs.StreamsMade.{give_more}

-- another lane may be had, after which as many segments are left as the others have room for
lane_left : (segments each first rest : ℕ) → first < segments → segments ≤ first + each * rest
    → (0 < rest) × (segments ≤ (first + min each (segments - first)) + each * (rest - 1))
lane_left segments each first zero below left = absurd (omega (arith, below, left))
lane_left segments each first (suc rest) below left =
    let one : suc rest - 1 ≡ rest = omega arith in (
      omega arith,
      subst (λ (n : ℕ). segments ≤ (first + min each (segments - first)) + each * n) (sym one)
          (omega (arith, below, left)),
    )

-- the lanes of the segments before one, each of which has `each` segments or all that are left
pub record LanesUpTo (segments each first : ℕ) (lanes : List Lane) : Type 0 where
  pub new : All IsNewLane lanes
  pub file : All (λ lane. AreOfAFile (parts_in lane)) lanes
  pub long : length (flat_map parts_in lanes) ≡ first
  pub within : first ≤ segments
  pub most : length lanes ≤ 16
  pub some : segments ≤ each * 16
  pub left : segments ≤ first + each * (16 - length lanes)

-- before the first
pub no_lanes : (segments each : ℕ) (lanes : List Lane) → lanes ≡ [] → segments ≤ each * 16
    → LanesUpTo segments each 0 lanes
no_lanes segments each lanes none some =
    rw none (record {
      new = All-nil IsNewLane;
      file = All-nil (λ lane. AreOfAFile (parts_in lane));
      long = refl;
      within = omega arith;
      most = omega arith;
      some = some;
      left = omega (arith, some);
    })

-- the segments of lanes and of one more
joined_parts : (lanes next : List Lane) (lane : Lane) → next ≡ lanes ++ lane ∷ []
    → flat_map parts_in next ≡ flat_map parts_in lanes ++ parts_in lane
joined_parts lanes next lane kept =
    ap (flat_map parts_in) kept ∙ flat_map-append parts_in lanes (lane ∷ [])
    ∙ ap (λ (l : List ReadyFields). flat_map parts_in lanes ++ l) (append-nil (parts_in lane))

-- one more
pub more_lanes : (segments each first count : ℕ) (lanes next : List Lane) (lane : Lane)
    → LanesUpTo segments each first lanes → first < segments → count ≡ min each (segments - first)
    → IsNewLane lane → AreOfAFile (parts_in lane) → length (parts_in lane) ≡ count
    → next ≡ lanes ++ lane ∷ [] → LanesUpTo segments each (first + count) next
more_lanes segments each first count lanes next lane h below min_is new file count_is kept =
    let more = lane_left segments each first (16 - length lanes) below h.left in
    let room = more.0 in
    let within = h.within in
    let long : length next ≡ length lanes + 1 =
    ap length kept ∙ length-append lanes (lane ∷ []) in
    let fewer : 16 - length next ≡ (16 - length lanes) - 1 = omega (arith, long, room) in
    let parts : length (flat_map parts_in next)
    ≡ length (flat_map parts_in lanes) + length (parts_in lane) =
    ap length (joined_parts lanes next lane kept)
    ∙ length-append (flat_map parts_in lanes) (parts_in lane) in
    let before = h.long in
    record {
      new = subst (All IsNewLane) (sym kept) (All-push IsNewLane lanes lane h.new new);
      file = subst (All (λ l. AreOfAFile (parts_in l))) (sym kept)
          (All-push (λ l. AreOfAFile (parts_in l)) lanes lane h.file file);
      long = omega (arith, parts, before, count_is);
      within = omega (arith, below, min_is);
      most = omega (arith, long, room);
      some = h.some;
      left = rw (min_is, fewer) more.1;
    }

-- and its segments' streams
pub more_given : (f : ℕ → List ℕ) (first : ℕ) (lanes next : List Lane) (lane : Lane)
    → GiveEach f 0 (flat_map parts_in lanes) → length (flat_map parts_in lanes) ≡ first
    → GiveEach f first (parts_in lane) → next ≡ lanes ++ lane ∷ []
    → GiveEach f 0 (flat_map parts_in next)
more_given f first lanes next lane give long more kept =
    let e : first ≡ 0 + length (flat_map parts_in lanes) = omega (arith, long) in
    subst (GiveEach f 0) (sym (joined_parts lanes next lane kept))
    (give_more f 0 (flat_map parts_in lanes) (parts_in lane) give
    (subst (λ (n : ℕ). GiveEach f n (parts_in lane)) e more))

-- each lane was coded
pub each_coded : (olds news : List Lane) → length news ≡ length olds
    → ((i : ℕ) (d : Lane) → i < length olds
    → HasCoded (slice_index_or olds i d) (slice_index_or news i d)) → AreCoded olds news
each_coded [] [] long each = tt
each_coded [] (n ∷ ns) long each = absurd (omega (arith, long))
each_coded (o ∷ os) [] long each = absurd (omega (arith, long))
each_coded (o ∷ os) (n ∷ ns) long each = (
  each 0 o (omega arith),
  each_coded os ns (omega (arith, long))
      (λ i d below. each (suc i) d (omega (arith, below))),
)
