-- Blobs and their files.
use Rattle.std.proofs.Common.{◌≡◌, ◌≤◌, ℕ, zero, suc, ◌-◌, List, [], ◌∷◌, length, take, drop, get_or, replicate, sym, ap, ◌∙◌, subst, inl, inr, arith}
use Rattle.std.specs.Prelude.{sum}
use Rattle.box_format.specs.Versions.{layout_of, most_segments}
use Rattle.container_spec.specs.Meanings.{Meaning, Restored}
use Rattle.container_spec.proofs.BoxesOnce.{stands_for_one}
use Rattle.container_spec.specs.ScansFiles.{FileIsRefused, FileRefusal, IsContainerOfFile, share_of, version_for}
use Rattle.container_spec.specs.Portions.{StandsFor}
use Rattle.container_spec.proofs.OneContainers.{one_container_of_file, contained_is_not_refused}
use Rattle.container_spec.proofs.ScansRestored.{file_is_restored, for_most, shares_are}
use Rattle.photo_blob.specs.Blobs.{IsBlobOf, blob_segments}
use Rattle.photo_blob.specs.BlobLaws.{OneBlob, OneFile}

take_all : (xs : List ℕ) (n : ℕ) → n ≡ length xs → take n xs ≡ xs
take_all [] n e = let z : n ≡ 0 = e in ap (λ (k : ℕ). take k []) z
take_all (x ∷ xs) zero e = absurd (omega arith)
take_all (x ∷ xs) (suc n) e = ap (λ (l : List ℕ). x ∷ l) (take_all xs n (omega arith))

rest_is : (made : List ℕ) → take (length (1 ∷ made) - 1) (drop 1 (1 ∷ made)) ≡ made
rest_is made = take_all made (length (1 ∷ made) - 1) (omega arith)

-- a file, as a meaning
abbrev pub as_file : List ℕ → Meaning
as_file file = record { bytes = file; verdict = Restored }

stands : (made file : List ℕ) → IsContainerOfFile blob_segments made file → StandsFor made (as_file file)
stands made file (n, is) =
    let v = version_for n in
    let below : blob_segments ≤ most_segments = omega arith in
    let shares = shares_are v blob_segments n made file below is in
    let all = shares.few in
    let room = for_most n in
    let few : sum (replicate n (share_of blob_segments n)) ≤ (layout_of v).most =
    omega (arith, all, room) in
    file_is_restored v (replicate n (share_of blob_segments n)) made file shares.some few is

-- after a mark that isn't 0 the file's container follows
pub container_of : (blob file : List ℕ) → (get_or blob 0 0 ≡ 0 → ⊥) → IsBlobOf blob file
    → StandsFor (take (length blob - 1) (drop 1 blob)) (as_file file)
container_of blob file marked (inl a) =
    subst (λ (l : List ℕ). StandsFor (take (length l - 1) (drop 1 l)) (as_file file)) (sym a.1)
    (subst (λ (l : List ℕ). StandsFor l (as_file file)) (sym (rest_is a.0))
    (stands a.0 file a.2))
container_of blob file marked (inr a) =
    absurd (marked (ap (λ (l : List ℕ). get_or l 0 0) a.0))

-- bytes stand for one file
one_restored : (bytes file other : List ℕ) → StandsFor bytes (as_file file) → StandsFor bytes (as_file other)
    → file ≡ other
one_restored bytes file other x y =
    ap (λ (m : Meaning). m.bytes) (stands_for_one bytes (as_file file) (as_file other) x y)

encoded_is_not_refused : (made file : List ℕ) (r : FileRefusal)
    → IsContainerOfFile blob_segments made file → FileIsRefused file r → ⊥
encoded_is_not_refused made file r (n, is) =
    contained_is_not_refused (version_for n) (replicate n (share_of blob_segments n)) made file r is

pub one_blob : OneBlob
one_blob blob other file (inl a) (inl b) =
    a.1 ∙ ap (λ (l : List ℕ). 1 ∷ l)
    (one_container_of_file blob_segments a.0 b.0 file a.2 b.2) ∙ sym b.1
one_blob blob other file (inl a) (inr b) =
    absurd (encoded_is_not_refused a.0 file b.1 a.2 b.2)
one_blob blob other file (inr a) (inl b) =
    absurd (encoded_is_not_refused b.0 file a.1 b.2 a.2)
one_blob blob other file (inr a) (inr b) = a.0 ∙ sym b.0

-- the marks differ
marks_differ : (blob made file : List ℕ) → blob ≡ 1 ∷ made → blob ≡ 0 ∷ file → ⊥
marks_differ blob made file a b =
    let e : 1 ≡ 0 = ap (λ (l : List ℕ). get_or l 0 0) (sym a ∙ b) in omega (arith, e)

pub one_file : OneFile
one_file blob file other (inl a) (inl b) =
    let same : a.0 ≡ b.0 = ap (λ (l : List ℕ). drop 1 l) (sym a.1 ∙ b.1) in
    one_restored b.0 file other
    (subst (λ (l : List ℕ). StandsFor l (as_file file)) same (stands a.0 file a.2)) (stands b.0 other b.2)
one_file blob file other (inl a) (inr b) = absurd (marks_differ blob a.0 other a.1 b.0)
one_file blob file other (inr a) (inl b) = absurd (marks_differ blob b.0 file b.1 a.0)
one_file blob file other (inr a) (inr b) = ap (λ (l : List ℕ). drop 1 l) (sym a.0 ∙ b.0)
