-- A file that has a chunk isn't refused, and has one scan.
use Rattle.std.proofs.Common.{[], ◌∷◌}
use Rattle.scan_spec.proofs.FilesOnce.{one_is_all}
use Rattle.container_spec.proofs.OneContainers.{accepted_is_not_refused, several_is_not_one}
use Rattle.container_spec.specs.ChunkLaws.{ChunkedIsNotRefused, ChunkedIsOne}

pub chunked_is_not_refused : ChunkedIsNotRefused
chunked_is_not_refused most size i made file refusal is why =
    accepted_is_not_refused file is.trailer
    (record { plan = is.plan; mcus = is.mcus; pads = is.pads } ∷ []) refusal is.bytes
    (one_is_all file is.trailer is.plan is.mcus is.pads is.bytes is.is) why

pub chunked_is_one : ChunkedIsOne
chunked_is_one most size i made file is several =
    several_is_not_one file is.trailer is.plan is.mcus is.pads is.bytes several is.is
