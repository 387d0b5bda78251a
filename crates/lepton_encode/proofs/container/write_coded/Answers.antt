use Rattle.std.proofs.Common.{◌≡◌, ◌∙◌, ◌++◌, List, ℕ, flat_map, sym, ap, subst}
use Rattle.box_format.specs.Containers.{container_bytes, scan_streams}
use Rattle.lepton_encode.specs.ScansMade.{AreScansMade, AreWithin, scans_made}
use Rattle.lepton_encode.specs.declared.container.CodedScan.{CodedScan}
use Rattle.lepton_encode.proofs.StreamsPut.{streams_are}
use Rattle.lepton_encode.proofs.container.write_coded.Goals as goal

pub front_of-requires-clause-within : goal.front_of-requires-clause-within
front_of-requires-clause-within c =
    subst (AreWithin c.args.bytes.now c.args.heads.now) (sym c.as_slice-scans.ensures.value)
    c.requires.within

pub front_of-requires-clause-scans : goal.front_of-requires-clause-scans
front_of-requires-clause-scans c =
    subst (AreScansMade c.args.version c.args.bytes.now c.args.heads.now)
    (sym c.as_slice-scans.ensures.value) c.requires.scans

pub returns : goal.returns
returns c =
    let v = c.args.version in
    let bytes = c.args.bytes.now in
    let heads = c.args.heads.now in
    let front = c.in_ok-front.front.items in
    c.in_ok-made.ensures
    ∙ ap (λ (l : List ℕ). front ++ l) (c.in_ok-streams.ensures
    ∙ sym (streams_are v bytes heads c.args.coded.items c.requires.within))
    ∙ subst (λ (l : List CodedScan). front ++ flat_map scan_streams (scans_made v bytes heads l)
    ≡ container_bytes v (scans_made v bytes heads l)) c.as_slice-scans.ensures.value
    c.in_ok-front.ensures
