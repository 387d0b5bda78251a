-- What encode makes of a file that is accepted: a container.
use Rattle.std.proofs.Common.{◌≡◌, ℕ, ◌≤◌, inl, inr, List, length, arith}
use Rattle.std.specs.List.{AllByRecursion}
use Rattle.bit_list.specs.Bits.{IsByte}
use Rattle.scan_spec.specs.FileParts.{FileScan, IsFile}
use Rattle.container_spec.specs.ScansFiles.{IsContainerOfFile}
use Rattle.container_spec.proofs.OneContainers.{accepted_is_not_refused}
use Rattle.command_words.specs.declared.command.Command.TheVariants.{Encode}
use Rattle.lepton_run.specs.Answers.{Answer, Answers, Made, limit_of}
use Rattle.lepton_run.proofs.OneAnswers.{Encoded, encoded_so}

-- a container is made, and nothing else
abbrev IsMade : ℕ → List ℕ → Answer → Type 0
IsMade most file answer =
    (made : List ℕ) × (answer ≡ Made made) × IsContainerOfFile most made file

not_refused : (most : ℕ) (file : List ℕ) (scans : List FileScan) (trailer : List ℕ)
    (answer : Answer) → AllByRecursion IsByte file → IsFile file scans trailer
    → Encoded most file answer → IsMade most file answer
not_refused most file scans trailer answer are accepted (inl made) = made
not_refused most file scans trailer answer are accepted (inr refused) =
    absurd (accepted_is_not_refused file trailer scans refused.0 are accepted refused.2)

pub accepted_made : (most : ℕ) (file : List ℕ) (scans : List FileScan) (trailer : List ℕ)
    (answer : Answer) → length file ≤ limit_of (Encode most) → IsFile file scans trailer
    → Answers (Encode most) file answer → IsMade most file answer
accepted_made most file scans trailer answer short accepted (inl long) =
    absurd (let past = long.0 in omega (arith, past, short))
accepted_made most file scans trailer answer short accepted (inr is) =
    not_refused most file scans trailer answer is.are accepted
    (encoded_so most file answer is.makes)
