-- Law: a handover and its bytes determine each other (docs/FORMAT.md, The container).
use Rattle.std.specs.Prelude.{ℕ, ◌<◌, ◌≡◌, List, length, IsTrue}
use Rattle.std.specs.List.{AllByRecursion}
use Rattle.handover.specs.Handovers.{HandoverFields, IsHandover}
use Rattle.handover.specs.HandoverBytes.{handover_bytes, handover_in, is_handover}

-- the test finds a handover's fields good
abbrev pub TestIsExact : Type 0
TestIsExact = (h : HandoverFields) → IsHandover h → IsTrue (is_handover h)

-- a handover's bytes determine it
abbrev pub FieldsAreReadAgain : Type 0
FieldsAreReadAgain =
    (h : HandoverFields) → IsHandover h
    → (length (handover_bytes h) ≡ 14) × (handover_in (handover_bytes h) ≡ h)

-- and its fields its bytes
abbrev pub BytesAreSpelledAgain : Type 0
BytesAreSpelledAgain =
    (bytes : List ℕ) → length bytes ≡ 14 → AllByRecursion (λ byte. byte < 256) bytes
    → handover_bytes (handover_in bytes) ≡ bytes
