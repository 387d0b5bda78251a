-- What is written of a container that stands for a file.
use Rattle.std.proofs.Common.{◌≡◌, ◌<◌, ℕ, List, Some, None, Err, inl, inr, refl, sym, ap, ◌∙◌, arith}
use Rattle.std.specs.Prelude.{IsSome, is_some, if◌then◌else◌, Option}
use Rattle.allocation.specs.declared.no_memory.NoMemory.{NoMemory}
use Rattle.outside_core.specs.Takes.{Anything}
use Rattle.box_format.specs.Checks.{IsRefused}
use Rattle.box_format.specs.Containers.{IsContainer}
use Rattle.box_format.specs.Parts.{BoxSeen}
use Rattle.box_format.specs.declared.refusal.BoxRefusal.{BoxRefusal}
use Rattle.container_spec.specs.Meanings.{Meaning, Restored, PadSpelled, ChunkShort as ShortChunk, Faulty, NoBox}
use Rattle.container_spec.specs.Portions.{StandsFor, scans_meaning}
use Rattle.container_spec.proofs.BoxesOnce.{refused_is_none, stands_for_one}
use Rattle.lepton_decode.specs.Ends.{Ends}
use Rattle.lepton_decode.specs.declared.error.DecodeError.{DecodeError}
use Rattle.lepton_decode.specs.declared.error.DecodeError.TheVariants.{WriteFault, Fault, PadSpelling, ChunkShort}
use Rattle.photo_blob.specs.declared.grown.Grown.{Grown}
use Rattle.photo_blob.proofs.BlobFiles.{as_file}

-- it isn't refused
pub not_refused : (bytes file : List ℕ) (refusal : BoxRefusal) → StandsFor bytes (as_file file)
    → IsRefused bytes refusal → ⊥
not_refused bytes file refusal (inl x) refused =
    let v : Restored ≡ NoBox x.0 = ap (λ (m : Meaning). m.verdict) x.2 in absurd (cc)
not_refused bytes file refusal (inr x) refused = refused_is_none x.0 bytes refusal x.1 refused

-- its scans stand for the file
pub meant : (scans : List BoxSeen) (bytes file : List ℕ) → IsContainer scans bytes
    → StandsFor bytes (as_file file) → scans_meaning scans ≡ as_file file
meant scans bytes file is stands =
    stands_for_one bytes (scans_meaning scans) (as_file file) (inr (scans, is, refl)) stands

-- no error of a list
no_short : (short : Option NoMemory) → short ≡ None → (old : ℕ)
    → old < (if is_some short then 1 else 0) → ⊥
no_short None none old less = omega (arith, less)
no_short (Some x) none old less = absurd (cc)

none_there : (short : Option NoMemory) → short ≡ None → IsSome short → ⊥
none_there None none some = absurd (cc)
none_there (Some x) none some = absurd (cc)

-- to decode it into a list fails only if the list can't grow
pub fails_by_memory : (old new : Grown) (m : Meaning) (file : List ℕ) (error : DecodeError) → m ≡ as_file file
    → Ends (λ (s : Grown). Some s.held.items) Anything (λ (s : Grown). if is_some s.short then 1 else 0)
    (λ (s : Grown). IsSome s.short) old new m (Err error) → new.short ≡ None → ⊥
fails_by_memory old new m file PadSpelling is ends none =
    let v : Restored ≡ PadSpelled = sym (ap (λ (x : Meaning). x.verdict) is) ∙ ends.0 in absurd (cc)
fails_by_memory old new m file ChunkShort is ends none =
    let v : Restored ≡ ShortChunk = sym (ap (λ (x : Meaning). x.verdict) is) ∙ ends.0 in absurd (cc)
fails_by_memory old new m file (Fault fault) is ends none =
    let v : Restored ≡ Faulty fault = sym (ap (λ (x : Meaning). x.verdict) is) ∙ ends.0 in absurd (cc)
fails_by_memory old new m file (WriteFault written) is ends none =
    elim ends.rose [ inl less ↦ no_short new.short none _ less | inr some ↦ none_there new.short none some ]
