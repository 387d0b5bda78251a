-- The parts of scans, one after another.
use Rattle.std.proofs.Common.{◌≡◌, ◌==◌, ℕ, ◌+◌, ◌-◌, ◌<◌, ◌≤◌, Bool, if◌then◌else◌, List, [], ◌∷◌, ◌++◌, length, drop, map, get_or, refl, sym, ap, ap₂, ◌∙◌, subst, arith, append_assoc, length-drop}
use Rattle.std.proofs.lemmas.Bool.{eq-eqb, ne_eqb}
use Rattle.std.proofs.lemmas.List.{map-append}
use Rattle.box_format.specs.Given.{parts_given}
use Rattle.box_format.specs.Parts.{BoxParts}
use Rattle.box_format.specs.declared.parts.Parts.{Parts}
use Rattle.box_format.specs.declared.version.Version.{Version}
use Rattle.lepton_encode.specs.ScansMade.{AreWithin, scan_made, scans_made}
use Rattle.lepton_encode.specs.declared.container.CodedScan.{CodedScan}
use Rattle.lepton_encode.specs.declared.heads.Head.{Head}
use Rattle.lepton_encode.proofs.ScansContained.{item_first}

same_length : (file : List ℕ) (heads : List Head) (coded : List CodedScan)
    → AreWithin file heads coded → length heads ≡ length coded
same_length file [] [] within = refl
same_length file [] (c ∷ coded) within = absurd within
same_length file (h ∷ heads) [] within = absurd within
same_length file (h ∷ heads) (c ∷ coded) within =
    let rest = same_length file heads coded within.1 in omega (arith, rest)

-- the scan before number n of m, and those from there on
abbrev with_rest : Version → List ℕ → Head → CodedScan → List Head → List CodedScan → Bool
    → List BoxParts
with_rest v file h c heads coded last =
    scan_made v file (if last then drop c.starts.trailer file else []) h c
    ∷ scans_made v file heads coded

scan_first : (v : Version) (file : List ℕ) (h : Head) (c : CodedScan) (heads : List Head)
    (coded : List CodedScan) (n m : ℕ) → length heads ≡ m - n → n ≤ m
    → with_rest v file h c heads coded (n == m) ≡ scans_made v file (h ∷ heads) (c ∷ coded)
scan_first v file h c [] coded n m long order =
    ap (with_rest v file h c [] coded) (eq-eqb n m (omega (arith, long, order)))
scan_first v file h c (g ∷ heads) coded n m long order =
    ap (with_rest v file h c (g ∷ heads) coded) (ne_eqb n m (λ e. omega (arith, long, order, e)))

module _ (v : Version) (file : List ℕ) (heads : List Head) (coded : List CodedScan) (i : ℕ)
    (h : Head) (c : CodedScan) (below : i < length heads)
    (within : AreWithin file (drop i heads) (drop i coded)) (here : h ≡ get_or heads i h)
    (there : c ≡ get_or coded i c) where
  split : drop i heads ≡ h ∷ drop (i + 1) heads
  split = item_first heads i h below here

  other : drop i coded ≡ c ∷ drop (i + 1) coded
  other =
      let same = same_length file (drop i heads) (drop i coded) within in
      item_first coded i c
      (omega (arith, below, same, length-drop i heads, length-drop i coded)) there

  pub within_next : AreWithin file (drop (i + 1) heads) (drop (i + 1) coded)
  within_next =
      (subst (AreWithin file (h ∷ drop (i + 1) heads)) other
      (subst (λ (l : List Head). AreWithin file l (drop i coded)) split within)).1

  pub parts_next : (items more : List Parts) (p : Parts) (all : List BoxParts)
      → parts_given p
      ≡ scan_made v file (if i + 1 == length heads then drop c.starts.trailer file else []) h c
      → more ≡ items ++ p ∷ []
      → map parts_given items ++ scans_made v file (drop i heads) (drop i coded) ≡ all
      → map parts_given more ++ scans_made v file (drop (i + 1) heads) (drop (i + 1) coded) ≡ all
  parts_next items more p all given made is =
      let rest = scans_made v file (drop (i + 1) heads) (drop (i + 1) coded) in
      let first = scan_first v file h c (drop (i + 1) heads) (drop (i + 1) coded) (i + 1)
      (length heads) (length-drop (i + 1) heads) (omega (arith, below)) in
      ap (λ (l : List Parts). map parts_given l ++ rest) made
      ∙ ap (λ (l : List BoxParts). l ++ rest) (map-append parts_given items (p ∷ []))
      ∙ append_assoc (map parts_given items) (parts_given p ∷ []) rest
      ∙ ap (λ (b : BoxParts). map parts_given items ++ (b ∷ rest)) given
      ∙ ap (λ (l : List BoxParts). map parts_given items ++ l)
      (first ∙ ap₂ (scans_made v file) (sym split) (sym other))
      ∙ is
