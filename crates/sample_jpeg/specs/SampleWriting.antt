-- Steps: how the scan of a sample is written MCU by MCU (own).
use Rattle.std.specs.Prelude.{ℕ, ◌≡◌, ◌+◌, ◌<◌, ◌≤◌, true, List, [], ◌∷◌, ◌++◌, length, ℤ, unsigned_abs, None, Ok}
use Rattle.std.specs.List.{AllByRecursion}
use Rattle.scan_spec.specs.Pads.{Same}
use Rattle.scan_spec.specs.ScanCalls.{ScanWriter}
use Rattle.scan_spec.specs.Slots.{slots_of}
use Rattle.scan_spec.specs.Spots.{Spot, mcu_put, mcus_put}
use Rattle.scan_spec.specs.declared.slot.Slot.{Slot}
use Rattle.sample_jpeg.specs.DrawnMcus.{drawn_blocks, drawn_mcus}
use Rattle.sample_jpeg.specs.SampleHeader.{sample_component}

-- the blocks of an MCU: one of each component (A.2.3)
abbrev pub sample_slots : List Slot
sample_slots = slots_of (sample_component 0 ∷ sample_component 1 ∷ sample_component 2 ∷ [])

-- DCs of drawn blocks, or of none
abbrev pub AreDrawnDcs : List ℤ → Type 0
AreDrawnDcs before = AllByRecursion (λ dc. unsigned_abs dc ≤ 1000) before

-- a writer of a sample's scan, between two MCUs
pub record IsUnderWay (w : ScanWriter) : Type 0 where
  pub slots : w.shape.slots ≡ sample_slots
  pub pads : w.pads ≡ Same true
  pub begun : length w.spot.begun < 8
  pub before : AreDrawnDcs w.spot.before
  pub stop : w.stop ≡ None

-- the next MCU was put
pub record PutsMcu (state : ℕ) (old new : ScanWriter) (file longer : List ℕ) : Type 0 where
  pub text : List ℕ
  pub put : mcu_put old.shape (λ n. true) old.spot (drawn_blocks 3 state).value
      ≡ Ok (text, new.spot)
  pub appended : longer ≡ file ++ text
  pub shape : new.shape ≡ old.shape
  pub way : IsUnderWay new
  pub count : new.spot.count ≡ old.spot.count + 1

-- the next n MCUs were put
pub record PutsMcus (n state : ℕ) (old : ScanWriter) (file longer : List ℕ) : Type 0 where
  pub text : List ℕ
  pub end : Spot
  pub put : mcus_put old.shape (λ n. true) old.spot (drawn_mcus n state).value ≡ Ok (text, end)
  pub appended : longer ≡ file ++ text
