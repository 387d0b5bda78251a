use Rattle.photo_blob.proofs.BlobFiles.{one_blob, one_file}
use Rattle.photo_blob.proofs.laws.a_file_has_one_blob.Goals as goal

pub returns-clause-blob : goal.returns-clause-blob
returns-clause-blob c = one_blob

pub returns-clause-file : goal.returns-clause-file
returns-clause-file c = one_file
