use Rattle.sample_jpeg.proofs.SampleLaws.{samples}
use Rattle.sample_jpeg.proofs.laws.samples_are_files.Goals as goal

pub returns : goal.returns
returns c = samples
