-- A put clashes only with another file of the same digest.
use Rattle.std.proofs.Common.{◌≡◌, ℕ, List, Option, Some, sym, ◌∙◌, subst}
use Rattle.std.specs.declared.result.Result.TheVariants.{Err}
use Rattle.sha2.specs.Sha256.{sha256}
use Rattle.blob_store.specs.declared.record.Stop.TheVariants.{Clash}
use Rattle.blob_store.specs.States.{Puts}
use Rattle.blob_store.specs.Callers.{CallerValue, HasCalled}
use Rattle.blob_store.proofs.FoundBlobs.{suited}
use Rattle.photo_blob.specs.Blobs.{IsBlobOf}
use Rattle.photo_blob.proofs.BlobFiles.{one_blob}
use Rattle.photo_store.specs.Photos.{SuitsKey, HasTwin}

same_in : (o : Option (List ℕ)) (a b : List ℕ) → o ≡ Some a → o ≡ Some b → a ≡ b
same_in o a b e f = cc

pub clash_has_twin : (old new : CallerValue) (file blob : List ℕ) → IsBlobOf blob file
    → HasCalled SuitsKey old new (Puts (sha256 file) blob) (Err Clash) → HasTwin file
clash_has_twin old new file blob is h =
    let c = h.answered.cause.1 in
    let s = suited SuitsKey new.view.blobs (sha256 file) c.0 new.view.seen h.knows.sound.well c.2 in
    let same = same_in _ s.0 c.1 s.1 c.3 in (
      s.2.file,
      sym s.2.key_is,
      λ e. c.4 (sym same ∙ one_blob s.0 blob file (subst (λ (f : List ℕ). IsBlobOf s.0 f) e s.2.blob_is) is),
    )
