use Rattle.range_read.proofs.FoundPlaces.{PlacesSoFar}
use Rattle.range_read.proofs.indexing.places_by.Given as goal

abbrev pub invariant-loop-measure : goal.invariant-loop-measure
invariant-loop-measure l =
    PlacesSoFar l.view.plan l.view.parts l.measure-iterator.rest.items l.places.items l.place l.pads
