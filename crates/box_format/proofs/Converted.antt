-- The bytes of a container as they are put in another version.
use Rattle.std.proofs.Common.{false, if◌then◌else◌, ◌≡◌, ◌<◌, ◌≤◌, ◌+◌, ◌-◌, ◌^◌, ℕ, List, [], ◌∷◌, ◌++◌, length, drop, map, flat_map, get_or, refl, ap, ap₂, ◌∙◌, sym, arith, append_assoc}
use Rattle.std.specs.Prelude.{Option, None, min, sum}
use Rattle.std.proofs.lemmas.List.{drop_more, drop_all}
use Rattle.byteorder.specs.Endian.{big_bytes}
use Rattle.handover.specs.Handovers.{HandoverFields, start}
use Rattle.handover.specs.HandoverBytes.{handover_bytes}
use Rattle.box_format.specs.Versions.{layout_of}
use Rattle.box_format.specs.Parts.{BoxParts, in_version, length_said, list_bytes, magic, pad_byte, place_bytes, records}
use Rattle.box_format.specs.Single.{box_bytes}
use Rattle.box_format.specs.declared.version.Version.{Version}
use Rattle.box_format.proofs.Lists.{sum_first}
use Rattle.box_format.proofs.SingleBytes.{nested_is}

-- ---- the records

-- a record and those after it
next_records : (places : Option (List ℕ)) (i : ℕ) (handovers : List HandoverFields)
    (streams : List (List ℕ)) → i < length handovers → length streams ≡ length handovers
    → records places i (drop i handovers) (drop i streams)
    ≡ handover_bytes (get_or handovers i start)
    ++ (big_bytes 8 (length (get_or streams i [])) ++ place_bytes places i)
    ++ records places (i + 1) (drop (i + 1) handovers) (drop (i + 1) streams)
next_records places i handovers streams below same =
    ap₂ (records places i) (drop_more handovers i start below)
    (drop_more streams i [] (omega (arith, below, same)))

apart : (b x y z r : List ℕ) → b ++ (x ++ y) ++ z ++ r ≡ b ++ (x ++ (y ++ z) ++ r)
apart b x y z r = simp append_assoc

-- one more is put
pub record_put : (places : Option (List ℕ)) (i k : ℕ) (handovers : List HandoverFields)
    (streams : List (List ℕ)) (h : HandoverFields) (stream before one two all : List ℕ)
    → i < length handovers → length streams ≡ length handovers
    → h ≡ get_or handovers i start → stream ≡ get_or streams i [] → k ≡ i
    → one ≡ before ++ (handover_bytes h ++ big_bytes 8 (length stream))
    → two ≡ one ++ place_bytes places k
    → before ++ records places i (drop i handovers) (drop i streams) ≡ all
    → two ++ records places (i + 1) (drop (i + 1) handovers) (drop (i + 1) streams) ≡ all
record_put places i k handovers streams h stream before one two all below same a b c e f is =
    rw (f, e, a, b, c)
    (apart before (handover_bytes (get_or handovers i start))
    (big_bytes 8 (length (get_or streams i []))) (place_bytes places i)
    (records places (i + 1) (drop (i + 1) handovers) (drop (i + 1) streams))
    ∙ ap (λ (l : List ℕ). before ++ l) (sym (next_records places i handovers streams below same))
    ∙ is)

-- ---- their room

-- one more stream is counted
pub room_more : (each : ℕ) (streams : List (List ℕ)) (i room front part next whole : ℕ) (stream : List ℕ)
    → i < length streams → stream ≡ get_or streams i [] → front ≡ each
    → part ≡ min (front + length stream) (2 ^ 64 - 1) → next ≡ min (room + part) (2 ^ 64 - 1)
    → min (2 ^ 64 - 1)
    (room + sum (map (λ (s : List ℕ). each + length s) (drop i streams))) ≡ whole
    → min (2 ^ 64 - 1)
    (next + sum (map (λ (s : List ℕ). each + length s) (drop (i + 1) streams))) ≡ whole
room_more each streams i room front part next whole stream below a k b e is =
    let f : List ℕ → ℕ = λ s. each + length s in
    let first = ap (λ (l : List (List ℕ)). sum (map f l)) (drop_more streams i [] below)
    ∙ sum_first (f (get_or streams i [])) (map f (drop (i + 1) streams)) in
    let long = ap (λ (l : List ℕ). length l) a in
    omega (arith, first, long, k, b, e, is)

-- all are counted
pub room_all : (each : ℕ) (streams : List (List ℕ)) (i room whole : ℕ) → length streams ≤ i
    → room < 2 ^ 64
    → min (2 ^ 64 - 1)
    (room + sum (map (λ (s : List ℕ). each + length s) (drop i streams))) ≡ whole → room ≡ whole
room_all each streams i room whole past small is =
    let f : List ℕ → ℕ = λ s. each + length s in
    let none = ap (λ (l : List (List ℕ)). sum (map f l)) (drop_all i streams past) in
    omega (arith, none, small, is)

-- ---- the whole

-- what was written one after another
pub all_written : (v : Version) (b : BoxParts) (places : Option (List ℕ)) (list header trailer : List ℕ)
    (pad count k : ℕ) (b0 b1 b2 b3 b4 b5 b6 b7 b8 b9 b10 : List ℕ) → (layout_of v).several ≡ false
    → b.chunk ≡ None → list ≡ list_bytes b.pads → header ≡ b.header → trailer ≡ b.trailer
    → pad ≡ pad_byte b.pads → count ≡ length b.handovers → k ≡ count → b0 ≡ []
    → b1 ≡ b0 ++ (magic ++ (layout_of v).byte
    ∷ (if (layout_of v).several then 1 ∷ big_bytes 4 (length trailer) else []))
    → b2 ≡ b1 ++ pad ∷ [] → b3 ≡ b2 ++ count ∷ []
    → b4 ≡ b3 ++ (big_bytes 4 (length header)
    ++ (if (layout_of v).several then [] else big_bytes 4 (length trailer))
    ++ (if (layout_of v).listed then big_bytes 4 (length list) else []))
    → b5 ≡ b4 ++ place_bytes places k → b6 ≡ b5 ++ records places 0 b.handovers b.streams
    → b7 ≡ b6 ++ list → b8 ≡ b7 ++ header → b9 ≡ b8 ++ trailer
    → b10 ≡ b9 ++ flat_map (λ stream. stream) b.streams → b10 ≡ box_bytes (in_version v places b)
all_written v b places list header trailer pad count k b0 b1 b2 b3 b4 b5 b6 b7 b8 b9 b10 one none l h t
    p n m e0 e1 e2 e3 e4 e5 e6 e7 e8 e9 e10 =
    rw (e10, e9, e8, e7, e6, e5, e4, e3, e2, e1, e0, m, l, h, t, p, n, one)
    (joined (big_bytes 4 (length b.header)) (big_bytes 4 (length b.trailer))
    (length_said (layout_of v).listed (list_bytes b.pads)) (place_bytes places (length b.handovers))
    (records places 0 b.handovers b.streams) (list_bytes b.pads) b.header b.trailer
    (flat_map (λ stream. stream) b.streams) (layout_of v).byte (pad_byte b.pads) (length b.handovers)
    ∙ sym (nested_is (in_version v places b) one ∙ rw none refl)) where
      joined : (h t l e r ls hd tr ss : List ℕ) (byte pad n : ℕ)
          → [] ++ (magic ++ byte ∷ []) ++ pad ∷ [] ++ n ∷ [] ++ (h ++ t ++ l) ++ e ++ r ++ ls ++ hd ++ tr
          ++ ss
          ≡ magic ++ byte ∷ pad ∷ n ∷ (h ++ (t ++ (l ++ ([] ++ (e ++ (r ++ (ls ++ (hd ++ (tr ++ ss)))))))))
      joined h t l e r ls hd tr ss byte pad n = simp append_assoc
