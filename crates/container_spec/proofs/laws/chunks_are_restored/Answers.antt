use Rattle.container_spec.proofs.ChunkedFiles.{chunked_is_not_refused, chunked_is_one}
use Rattle.container_spec.proofs.ChunkSizes.{chunk_is_short}
use Rattle.container_spec.proofs.JoinedChunks.{chunks_are_restored}
use Rattle.container_spec.proofs.OneChunks.{one_chunk}
use Rattle.container_spec.proofs.RestoredChunks.{chunk_is_restored}
use Rattle.container_spec.proofs.RowsPlaced.{rows_are_placed, segments_are_the_rows}
use Rattle.container_spec.proofs.laws.chunks_are_restored.Goals as goal

pub returns-clause-placed : goal.returns-clause-placed
returns-clause-placed c = rows_are_placed

pub returns-clause-segments : goal.returns-clause-segments
returns-clause-segments c = segments_are_the_rows

pub returns-clause-restored : goal.returns-clause-restored
returns-clause-restored c = chunk_is_restored

pub returns-clause-joined : goal.returns-clause-joined
returns-clause-joined c = chunks_are_restored

pub returns-clause-one_chunk : goal.returns-clause-one_chunk
returns-clause-one_chunk c = one_chunk

pub returns-clause-apart : goal.returns-clause-apart
returns-clause-apart c = chunked_is_not_refused

pub returns-clause-one_scan : goal.returns-clause-one_scan
returns-clause-one_scan c = chunked_is_one

pub returns-clause-short : goal.returns-clause-short
returns-clause-short c = chunk_is_short
