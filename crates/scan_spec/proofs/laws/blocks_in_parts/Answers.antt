use Rattle.scan_spec.proofs.Cuts.{text_in_parts, last_in_parts}
use Rattle.scan_spec.proofs.laws.blocks_in_parts.Goals as goal

pub returns-clause-text : goal.returns-clause-text
returns-clause-text c = λ slots more before blocks others h. text_in_parts slots more before blocks others h

pub returns-clause-last : goal.returns-clause-last
returns-clause-last c = λ slots more before blocks others h. last_in_parts slots more before blocks others h
