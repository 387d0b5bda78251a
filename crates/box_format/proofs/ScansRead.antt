-- A container's bytes, looked up again.
use Rattle.std.proofs.Common.{◌≡◌, ◌<◌, ◌≤◌, ◌+◌, ◌^◌, Bool, true, false, ℕ, List, [], ◌∷◌, ◌++◌, length, take, drop, map, flat_map, refl, sym, ap, ◌∙◌, arith, subst, append_assoc}
use Rattle.std.specs.Prelude.{slice_index}
use Rattle.std.specs.List.{AllByRecursion, range_with_len}
use Rattle.std.proofs.lemmas.List.{append-nil}
use Rattle.byteorder.specs.Endian.{big_number}
use Rattle.byteorder.specs.Numbers.{big_number-reads_back}
use Rattle.box_format.specs.Versions.{layout_of, version_in, version_of}
use Rattle.box_format.specs.Parts.{BoxParts, magic}
use Rattle.box_format.specs.Containers.{scans_said, scan_fields, scan_header, scan_streams, trailer_of, container_bytes}
use Rattle.box_format.specs.Fields.{scans_in, fields_place, list_place, streams_place, trailer_length, trailer_place, named_end, scan_raw, raws_as}
use Rattle.box_format.specs.declared.version.Layout.{Layout}
use Rattle.box_format.specs.declared.version.Version.{Version}
use Rattle.box_format.specs.declared.version.Version.TheVariants.{First, Second, Third, Fourth, Fifth}
use Rattle.box_format.proofs.Layouts.{IsLaidOut, laid_out, same_version}
use Rattle.box_format.proofs.Remaining.{Remains, part_after, part_next}
use Rattle.box_format.proofs.ScanRead.{CanPut}
use Rattle.box_format.proofs.ScansWalked.{From, HasFields, HaveTrailer, fields_walked, headers_walked, streams_walked, trailers_walked, trailer_in, raw_like, raws_walked}

-- ---- the fields before the first scan's

abbrev pub fronted : Version → ℕ → List ℕ → List ℕ → List ℕ
fronted v count trailer rest =
    magic ++ (layout_of v).byte ∷ (scans_said (layout_of v).several count trailer ++ rest)

record IsFront (v : Version) (bytes : List ℕ) (count : ℕ) (trailer rest : List ℕ) : Type 0 where
  begins : take 4 bytes ≡ magic
  version : slice_index bytes 4 ≡ (layout_of v).byte
  scans : scans_in (layout_of v) bytes ≡ count
  trailer_is : (layout_of v).several ≡ true
      → trailer_length (layout_of v) bytes ≡ length trailer
  after : Remains bytes (layout_of v).first rest

front_one : (v : Version) (count : ℕ) (trailer rest : List ℕ)
    → (layout_of v).several ≡ false → (layout_of v).first ≡ 5 → count ≡ 1
    → IsFront v (fronted v count trailer rest) count trailer rest
front_one v count trailer rest e five one = record {
  begins = refl;
  version = refl;
  scans = rw (e, one) refl;
  trailer_is = λ f. let g = sym e ∙ f in cc;
  after = rw (five, e) (record { are = refl; long = omega arith });
}

front_read : (v : Version) (count : ℕ) (trailer rest : List ℕ) → length trailer < 2 ^ 32
    → ((layout_of v).several ≡ false → count ≡ 1)
    → IsFront v (fronted v count trailer rest) count trailer rest
front_read First count trailer rest fits one = front_one First count trailer rest refl refl (one refl)
front_read Second count trailer rest fits one = front_one Second count trailer rest refl refl (one refl)
front_read Third count trailer rest fits one = front_one Third count trailer rest refl refl (one refl)
front_read Fifth count trailer rest fits one = front_one Fifth count trailer rest refl refl (one refl)
front_read Fourth count trailer rest fits one = record {
  begins = refl;
  version = refl;
  scans = refl;
  trailer_is = λ e. big_number-reads_back 4 (length trailer) rest fits;
  after = record { are = refl; long = omega arith };
}

-- what follows them
abbrev pub after_front : List BoxParts → List ℕ
after_front bs =
    flat_map scan_fields bs
    ++ (flat_map scan_header bs ++ (trailer_of bs ++ (flat_map scan_streams bs ++ [])))

joined : (s f h t e : List ℕ) → s ++ (f ++ (h ++ (t ++ (e ++ [])))) ≡ s ++ f ++ h ++ t ++ e
joined s f h t e = simp (append_assoc, append-nil)

pub nested_is : (v : Version) (bs : List BoxParts)
    → fronted v (length bs) (trailer_of bs) (after_front bs) ≡ container_bytes v bs
unfolding container_bytes
nested_is v bs =
    ap (λ (l : List ℕ). magic ++ (layout_of v).byte ∷ l)
    (joined (scans_said (layout_of v).several (length bs) (trailer_of bs)) (flat_map scan_fields bs)
    (flat_map scan_header bs) (trailer_of bs) (flat_map scan_streams bs))

-- ---- the trailer's length

-- of one scan it is among the fields of the scan
one_trailer : (l : Layout) (bytes : List ℕ) (bs : List BoxParts) → IsLaidOut l
    → l.several ≡ false → length bs ≡ 1 → From (HasFields l bytes) 0 bs
    → trailer_length l bytes ≡ length (trailer_of bs)
one_trailer l bytes [] out e one fields = absurd (omega (arith, one))
one_trailer l bytes (b ∷ []) out e one fields =
    ap (λ (p : ℕ). big_number 4 (drop p bytes)) (out.trailer e) ∙ fields.0.trailer e
    ∙ ap (λ (t : List ℕ). length t) (sym (append-nil b.trailer))
one_trailer l bytes (b ∷ c ∷ bs) out e one fields = absurd (omega (arith, one))

any_trailer : (v : Version) (bytes : List ℕ) (bs : List BoxParts)
    → IsFront v bytes (length bs) (trailer_of bs) (after_front bs)
    → ((layout_of v).several ≡ false → length bs ≡ 1) → From (HasFields (layout_of v) bytes) 0 bs
    → trailer_length (layout_of v) bytes ≡ length (trailer_of bs)
any_trailer v bytes bs front one fields = by_case (layout_of v).several refl where
  by_case : (b : Bool) → (layout_of v).several ≡ b
      → trailer_length (layout_of v) bytes ≡ length (trailer_of bs)
  by_case true e = front.trailer_is e
  by_case false e = one_trailer (layout_of v) bytes bs (laid_out v) e (one e) fields

-- ---- the whole

pub record ScansRead (v : Version) (bytes : List ℕ) (bs : List BoxParts) : Type 0 where
  pub begins : take 4 bytes ≡ magic
  pub byte : slice_index bytes 4 ≡ (layout_of v).byte
  pub version : version_in bytes ≡ v
  pub raws : raws_as v bytes ≡ map raw_like bs
  pub fields : fields_place (layout_of v) bytes (scans_in (layout_of v) bytes) ≤ length bytes
  pub end : named_end (layout_of v) bytes ≡ length bytes
  pub rest : drop (named_end (layout_of v) bytes) bytes ≡ []

read_after : (v : Version) (bytes : List ℕ) (bs : List BoxParts)
    → AllByRecursion (CanPut (layout_of v)) bs
    → AllByRecursion (λ (b : BoxParts). b.version ≡ v) bs
    → HaveTrailer (trailer_of bs) bs → ((layout_of v).several ≡ false → length bs ≡ 1)
    → IsFront v bytes (length bs) (trailer_of bs) (after_front bs) → ScansRead v bytes bs
read_after v bytes bs can said trailer one front =
    let l = layout_of v in
    let count : scans_in l bytes ≡ 0 + length bs = front.scans ∙ omega arith in
    let streams_in = flat_map scan_streams bs ++ [] in
    let fields = fields_walked l bytes
    (flat_map scan_header bs ++ (trailer_of bs ++ streams_in)) 0 bs (laid_out v) can front.after in
    let at_list : Remains bytes (list_place l bytes 0)
    (flat_map scan_header bs ++ (trailer_of bs ++ streams_in)) =
    subst (λ (k : ℕ). Remains bytes (fields_place l bytes k)
    (flat_map scan_header bs ++ (trailer_of bs ++ streams_in))) (sym count) fields.1 in
    let headers = headers_walked l bytes (trailer_of bs ++ streams_in) 0 bs fields.0 at_list in
    let at_trailer : Remains bytes (trailer_place l bytes) (trailer_of bs ++ streams_in) =
    subst (λ (k : ℕ). Remains bytes (list_place l bytes k) (trailer_of bs ++ streams_in))
    (sym count) headers.1 in
    let long = any_trailer v bytes bs front one fields.0 in
    let at_streams : Remains bytes (streams_place l bytes 0) streams_in =
    part_after bytes (trailer_place l bytes) (trailer_length l bytes) (streams_place l bytes 0)
    (trailer_of bs) streams_in long refl at_trailer in
    let streams = streams_walked l bytes [] 0 bs fields.0 at_streams in
    let at_end : Remains bytes (named_end l bytes) [] =
    subst (λ (k : ℕ). Remains bytes (streams_place l bytes k) []) (sym count) streams.1 in
    let trailer_is : trailer_in l bytes ≡ trailer_of bs =
    part_next bytes (trailer_place l bytes) (trailer_length l bytes) (trailer_of bs) streams_in
    long at_trailer in
    let trailers = trailers_walked l bytes 0 bs count
    (subst (λ (t : List ℕ). HaveTrailer t bs) (sym trailer_is) trailer) in
    record {
      begins = front.begins;
      byte = front.version;
      version = ap version_of front.version ∙ same_version v;
      raws = ap (λ (k : ℕ). map (scan_raw v bytes) (range_with_len 0 k)) front.scans
          ∙ raws_walked v bytes 0 bs said fields.0 headers.0 streams.0 trailers;
      fields = let far = at_list.long in omega (arith, far);
      end = let far = at_end.long in omega (arith, far);
      rest = at_end.are;
    }

pub scans_read : (v : Version) (bs : List BoxParts) → AllByRecursion (CanPut (layout_of v)) bs
    → AllByRecursion (λ (b : BoxParts). b.version ≡ v) bs
    → HaveTrailer (trailer_of bs) bs → ((layout_of v).several ≡ false → length bs ≡ 1)
    → length (trailer_of bs) < 2 ^ 32 → ScansRead v (container_bytes v bs) bs
scans_read v bs can said trailer one fits =
    subst (λ (bytes : List ℕ). ScansRead v bytes bs) (nested_is v bs)
    (read_after v (fronted v (length bs) (trailer_of bs) (after_front bs)) bs can said trailer one
    (front_read v (length bs) (trailer_of bs) (after_front bs) fits one))
