use Rattle.huff_table.proofs.WordReading.{fault_is_read, fault_comes}
use Rattle.huff_table.proofs.laws.a_fault_is_no_word.Goals as goal

pub returns : goal.returns
returns c = λ table bytes from fault is. (fault_is_read table bytes from fault is, fault_comes table bytes from fault is)
