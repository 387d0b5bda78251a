use Rattle.scan_spec.proofs.PlanShapes.{begun_is_shape}
use Rattle.scan_spec.proofs.FilesOnce.{one_scan_of, one_file, one_is_all}
use Rattle.scan_spec.proofs.laws.a_file_has_one_reading.Goals as goal

pub returns : goal.returns
returns c = record { shape = begun_is_shape; scan = one_scan_of; one = one_file; all = one_is_all }
