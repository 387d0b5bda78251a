use Rattle.container_spec.proofs.GoodSegments.{good_has_its_stream}
use Rattle.container_spec.proofs.PlacesKept.{good_has_its_places}
use Rattle.container_spec.proofs.laws.good_segments_have_their_stream.Goals as goal

pub returns-clause-stream : goal.returns-clause-stream
returns-clause-stream c = good_has_its_stream

pub returns-clause-places : goal.returns-clause-places
returns-clause-places c = good_has_its_places
