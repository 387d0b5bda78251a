use Rattle.container_spec.proofs.McusPut.{mcus_are_put}
use Rattle.container_spec.proofs.SlicesMeant.{segment_is_its_slice}
use Rattle.container_spec.proofs.laws.segments_are_slices.Goals as goal

pub returns-clause-put : goal.returns-clause-put
returns-clause-put c = mcus_are_put

pub returns-clause-slice : goal.returns-clause-slice
returns-clause-slice c = segment_is_its_slice
