use Rattle.std.proofs.Common.{rules, ℕ, ◌<◌, get_or}
use Rattle.jpeg_marker.proofs.TablesTaken.{bytes_each, bytes_take}
use Rattle.jpeg_marker.proofs.table.first_values.Goals as goal

pub returns-clause-bytes : goal.returns-clause-bytes
returns-clause-bytes c =
    let each : (i : ℕ) → get_or c.args.values.now i 0 < 256 = λ i. let h = c.type_inv.values i in search rules in
    bytes_take c.args.count c.args.values.now (bytes_each c.args.values.now each)
