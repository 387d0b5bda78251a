-- A block by its DC and its AC coefficients.
use Rattle.std.proofs.Common.{◌≡◌, ℕ, List, [], ◌∷◌, get_or, length, replicate, set, ℤ, pos, false, Result, Ok, Err, refl, ap, sym, ◌∙◌}
use Rattle.bit_list.specs.Units.{Cursor}
use Rattle.huff_table.specs.declared.plan_codes.ComponentCodes.{ComponentCodes}
use Rattle.scan_spec.specs.BlockBits.{ac_values, coefficient_at, in_zigzag}
use Rattle.scan_spec.specs.ScanReading.{and_then, dc_at, acs_at, prefixed_values}
use Rattle.scan_spec.specs.declared.refusal.ScanRefusal.{ScanRefusal}
use Rattle.scan_decode.specs.ReadResults.{coded_at}

abbrev Whole : Type 0
Whole = Result (List ℤ × Cursor) ScanRefusal

-- a block with a DC alone
pub dc_alone : (v : ℤ) → ac_values (v ∷ replicate 63 (pos 0)) ≡ replicate 63 (pos 0)
unfolding ac_values
dc_alone v = refl

-- zeros into which a DC was put
module _ (block zeros : List ℤ) (v : ℤ) (e : block ≡ set zeros 0 v) (f : zeros ≡ replicate 64 (pos 0)) where
  begun : block ≡ v ∷ replicate 63 (pos 0)
  begun = e ∙ ap (λ z. set z 0 v) f

  pub begun_long : length block ≡ 64
  begun_long = ap length begun

  pub begun_first : coefficient_at block 0 ≡ v
  begun_first = ap (λ b. coefficient_at b 0) begun

  pub begun_acs : ac_values block ≡ replicate 63 (pos 0)
  begun_acs = ap ac_values begun ∙ dc_alone v

-- the AC coefficients after a DC
pub coded : (codes : ComponentCodes) (before dc value : ℤ) (bytes later : List ℕ) (cursor to : Cursor) → Ok (dc, to) ≡ dc_at codes.dc before bytes cursor
    → later ≡ bytes → value ≡ dc → prefixed_values (value ∷ []) (acs_at 63 codes.ac 63 false later to) ≡ coded_at codes before bytes cursor
coded codes before dc value bytes later cursor to there same is =
    ap (λ (b : List ℕ). prefixed_values (value ∷ []) (acs_at 63 codes.ac 63 false b to)) same
    ∙ ap (λ (v : ℤ). prefixed_values (v ∷ []) (acs_at 63 codes.ac 63 false bytes to)) is
    ∙ ap (λ (r : Result (ℤ × Cursor) ScanRefusal). and_then r (λ more. prefixed_values (more.0 ∷ []) (acs_at 63 codes.ac 63 false bytes more.1))) there

first_in : Whole → ℤ
first_in (Ok read) = get_or read.0 0 (pos 0)
first_in (Err refusal) = pos 0

-- the first of a block that begins with a value
pub first_is : (block : List ℤ) (value : ℤ) (cursor : Cursor) (rest : Whole) → Ok (in_zigzag block, cursor) ≡ prefixed_values (value ∷ []) rest → value ≡ coefficient_at block 0
unfolding first_in
first_is block value cursor (Ok read) e = ap first_in (sym e)
first_is block value cursor (Err refusal) e = cc
