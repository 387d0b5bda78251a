use Rattle.scan_spec.proofs.McuByMcu.{mcu_spelled, mcu_read_again}
use Rattle.scan_spec.proofs.ScanTaken.{spelled, read_again, summed_again, one_scan}
use Rattle.scan_spec.proofs.laws.scans_are_text.Goals as goal

pub returns-clause-mcu : goal.returns-clause-mcu
returns-clause-mcu c = mcu_spelled

pub returns-clause-mcu_again : goal.returns-clause-mcu_again
returns-clause-mcu_again c = mcu_read_again

pub returns-clause-spelled : goal.returns-clause-spelled
returns-clause-spelled c = spelled

pub returns-clause-again : goal.returns-clause-again
returns-clause-again c = read_again

pub returns-clause-summed : goal.returns-clause-summed
returns-clause-summed c = summed_again

pub returns-clause-one : goal.returns-clause-one
returns-clause-one c = one_scan
