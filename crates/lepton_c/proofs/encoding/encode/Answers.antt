use Rattle.std.proofs.Common.{rules, ◌≤◌, length, subst, sym}
use Rattle.container_spec.specs.Limits.{most_of_a_file}
use Rattle.lepton_c.specs.Gives.{AreSome, EncodeRefuses, IsEncoded}
use Rattle.lepton_c.proofs.Made.{gives_made}
use Rattle.lepton_c.proofs.encoding.encode.Goals as goal

pub returns-in-Ok : goal.returns-in-Ok
returns-in-Ok c =
    let segments = c.args.segments in
    let file = c.args.bytes.now in
    let some : AreSome segments = search rules in
    let short : length file ≤ most_of_a_file = search rules in
    gives_made (IsEncoded segments file) (EncodeRefuses segments file) c.args.out.now
    c.put_made.new.out c.as_slice.result.now c.put_made.result
    (subst (IsEncoded segments file) (sym c.as_slice.ensures.value)
    (record { some = some; short = short; is = c.in-Ok.ensures.made })) c.put_made.ensures
