-- Statement: how many workers a container's segments are worth (own; docs/THREADS.md).
use Rattle.std.specs.Prelude.{ℕ, ◌-◌, ◌*◌, ◌/◌, List, map, max, min, sum}
use Rattle.box_format.specs.Parts.{BoxSeen, box_rows}
use Rattle.box_format.specs.Containers.{segment_count}
use Rattle.segment_crew.specs.declared.worth.Workers.{Workers}
use Rattle.segment_crew.specs.declared.worth.Workers.TheVariants.{Given, Worth}

-- blocks that a container has of a scan: those of its rows of MCUs
abbrev pub blocks_had : BoxSeen → ℕ
blocks_had s =
    let rows = box_rows s.plan s.parts.chunk in s.plan.blocks / s.plan.down * (rows.to - rows.from)

-- and of all its scans
abbrev pub blocks_in : List BoxSeen → ℕ
blocks_in scans = sum (map blocks_had scans)

-- how many blocks are worth a worker
abbrev pub worth_a_worker : ℕ
worth_a_worker = 8192

-- how many workers `count` of its segments are worth, if there may be `most`: each segment has an equal share of the
-- blocks
abbrev pub workers_worth : List BoxSeen → ℕ → ℕ → ℕ
workers_worth scans count most =
    min most (blocks_in scans / max (segment_count scans) 1 * count / worth_a_worker)

-- how many workers are asked for
abbrev pub workers_of : List BoxSeen → ℕ → Workers → ℕ
workers_of scans count (Given workers) = workers
workers_of scans count (Worth most) = workers_worth scans count most
