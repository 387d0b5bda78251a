-- A step of a decoder of several scans, after the header.
use Rattle.std.proofs.Common.{◌≡◌, ℕ, List, [], ◌++◌, sym, ap, ◌∙◌, arith}
use Rattle.handover.specs.declared.outcome.Outcome.{Outcome}
use Rattle.segment_code.specs.Decoding.{DecoderSeen}
use Rattle.segment_code.specs.FileDecoding.{FileOwes, FilePays, ScanPays, file_seen, numbered, step_numbered}
use Rattle.segment_code.specs.declared.step.Step.{Step}
use Rattle.segment_code.specs.declared.step.Step.TheVariants.{More, Done, Fault}

-- what the scan's decoder gives is what is owed, with no header before it
pub file_pays : (step : Step) (bytes : List ℕ) (outcome : Outcome) (out : List ℕ)
    (olds news : List DecoderSeen) (begun scan number : ℕ) (lead : List ℕ) → lead ≡ []
    → (owes : FileOwes (file_seen olds begun scan number lead) bytes outcome)
    → ScanPays step owes.rest owes.ending out olds news scan
    → FilePays (step_numbered number step) bytes outcome out
    (file_seen olds begun scan number lead) (file_seen news begun scan number lead)
file_pays More bytes outcome out olds news begun scan number lead none owes pays = (
  pays.0,
  owes.bytes_are ∙ ap (λ (l : List ℕ). l ++ owes.rest) none ∙ pays.1,
  (let less = pays.2 in omega (arith, less)),
  (let some = pays.3 in omega (arith, some)),
  pays.4,
  record {
    rest = pays.0;
    ending = owes.ending;
    owes = pays.5;
    bytes_are = ap (λ (l : List ℕ). l ++ pays.0) (sym none);
    outcome_is = owes.outcome_is;
    some = (let some = pays.3 in omega (arith, some));
  },
)
file_pays (Done pads) bytes outcome out olds news begun scan number lead none owes pays = (
  owes.bytes_are ∙ ap (λ (l : List ℕ). l ++ owes.rest) none ∙ pays.0,
  owes.outcome_is ∙ ap (numbered number) pays.1,
  pays.2,
)
file_pays (Fault fault) bytes outcome out olds news begun scan number lead none owes pays = (
  owes.bytes_are ∙ ap (λ (l : List ℕ). l ++ owes.rest) none ∙ pays.0,
  owes.outcome_is ∙ ap (numbered number) pays.1,
  pays.2,
)
