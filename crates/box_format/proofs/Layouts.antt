-- What holds of the layouts of all versions.
use Rattle.std.proofs.Common.{◌≡◌, ◌≤◌, ◌+◌, ◌==◌, ◌&&◌, not, Bool, true, false, if◌then◌else◌, ℕ, List, [], ◌∷◌, refl, sym, ap, ◌∙◌, arith, inl, inr}
use Rattle.std.proofs.lemmas.Bool.{eqb-true, or_cases, false≢true}
use Rattle.box_format.specs.Versions.{layout_of, most_segments, version_of, is_version, decoded, IsRead}
use Rattle.box_format.specs.declared.version.Layout.{Layout}
use Rattle.box_format.specs.declared.version.Version.{Version}
use Rattle.box_format.specs.declared.version.Version.TheVariants.{First, Second, Third, Fourth, Fifth}

-- how many bytes the fields have that not all versions have
abbrev pub trailer_room : Layout → ℕ
trailer_room l = if l.several then 0 else 4

abbrev pub list_room : Layout → ℕ
list_room l = if l.listed then 4 else 0

abbrev pub chunk_room : Layout → ℕ
chunk_room l = if l.chunked then 32 else 0

abbrev pub end_room : Layout → ℕ
end_room l = if l.placed then 8 else 0

-- each field is where those before it end, and so are the records
pub record IsLaidOut (l : Layout) : Type 0 where
  pub list : l.listed ≡ true → l.list ≡ 6 + trailer_room l
  pub chunk : l.chunked ≡ true → 14 ≡ 6 + trailer_room l + list_room l
  pub end : l.placed ≡ true → 14 ≡ 6 + trailer_room l + list_room l + chunk_room l
  pub fields : l.fields ≡ 6 + trailer_room l + list_room l + chunk_room l + end_room l
  pub room : l.room ≡ 22 + end_room l
  pub trailer : l.several ≡ false → l.trailer ≡ l.first + 6
  pub early : l.trailer + 4 ≤ l.first + l.fields
  pub low : 5 ≤ l.first

never : {A : Type 0} → false ≡ true → A
never e = absurd (false≢true e)

never_not : {A : Type 0} → true ≡ false → A
never_not e = absurd (false≢true (sym e))

pub laid_out : (v : Version) → IsLaidOut (layout_of v)
laid_out First = record {
  list = λ e. never e;
  chunk = λ e. never e;
  end = λ e. never e;
  fields = refl;
  room = refl;
  trailer = λ e. refl;
  early = omega arith;
  low = omega arith;
}
laid_out Second = record {
  list = λ e. refl;
  chunk = λ e. never e;
  end = λ e. never e;
  fields = refl;
  room = refl;
  trailer = λ e. refl;
  early = omega arith;
  low = omega arith;
}
laid_out Third = record {
  list = λ e. refl;
  chunk = λ e. refl;
  end = λ e. never e;
  fields = refl;
  room = refl;
  trailer = λ e. refl;
  early = omega arith;
  low = omega arith;
}
laid_out Fourth = record {
  list = λ e. refl;
  chunk = λ e. never e;
  end = λ e. never e;
  fields = refl;
  room = refl;
  trailer = λ e. never_not e;
  early = omega arith;
  low = omega arith;
}
laid_out Fifth = record {
  list = λ e. refl;
  chunk = λ e. never e;
  end = λ e. refl;
  fields = refl;
  room = refl;
  trailer = λ e. refl;
  early = omega arith;
  low = omega arith;
}

pub most_more : (v : Version) → (layout_of v).most ≤ most_segments
most_more First = omega arith
most_more Second = omega arith
most_more Third = omega arith
most_more Fourth = omega arith
most_more Fifth = omega arith

-- ---- the byte of a version

pub false_not : (b : Bool) → not b ≡ false → b ≡ true
false_not true e = refl
false_not false e = cc

-- a version is that of its byte
pub same_version : (v : Version) → version_of (layout_of v).byte ≡ v
same_version First = refl
same_version Second = refl
same_version Third = refl
same_version Fourth = refl
same_version Fifth = refl

one_of : (versions : List Version) (n : ℕ) → is_version versions n ≡ true
    → n ≡ (layout_of (version_of n)).byte
one_of [] n e = absurd (false≢true e)
one_of (v ∷ versions) n e =
    elim (or_cases ((layout_of v).byte == n) (is_version versions n) e) [
      | inl here ↦ let same = eqb-true (layout_of v).byte n here in
          sym same ∙ ap (λ (w : Version). (layout_of w).byte) (sym (same_version v))
          ∙ ap (λ k. (layout_of (version_of k)).byte) same
      | inr later ↦ one_of versions n later
    ]

-- a byte that is taken says a version that is read
pub version_is : (versions : List Version) (there : Bool) (n : ℕ)
    → there ≡ true → (there && not (is_version versions n)) ≡ false
    → (n ≡ (layout_of (version_of n)).byte) × IsRead versions (version_of n)
version_is versions false n e f = cc
version_is versions true n e f =
    let said = false_not (is_version versions n) f in
    let same = one_of versions n said in
    (same, ap (is_version versions) (sym same) ∙ said)

-- each version is decoded
pub all_read : (v : Version) → IsRead decoded v
all_read First = refl
all_read Second = refl
all_read Third = refl
all_read Fourth = refl
all_read Fifth = refl

-- ---- their sizes

pub fields_low : (v : Version) → 10 ≤ (layout_of v).fields
fields_low First = omega arith
fields_low Second = omega arith
fields_low Third = omega arith
fields_low Fourth = omega arith
fields_low Fifth = omega arith

pub most_few : (v : Version) → (layout_of v).most ≤ 64
most_few v = most_more v
