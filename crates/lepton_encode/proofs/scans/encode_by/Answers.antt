use Rattle.std.proofs.Common.{ℕ, length, List, replicate, sym, ap, arith, subst}
use Rattle.jpeg_marker.specs.FirstWalks.{opening_walk}
use Rattle.box_format.specs.declared.version.Version.{Version}
use Rattle.container_spec.specs.ScansFiles.{IsContainerOf, share_of, version_for}
use Rattle.lepton_encode.specs.FileHeads.{AreHeads}
use Rattle.lepton_encode.specs.ScansMade.{CanHold}
use Rattle.lepton_encode.specs.declared.heads.Head.{Head}
use Rattle.lepton_encode.proofs.HeadsFound.{heads_some}
use Rattle.lepton_encode.proofs.ScansContained.{can_share}
use Rattle.lepton_encode.proofs.scans.encode_by.Goals as goal

pub share_of-share-requires : goal.share_of-share-requires
share_of-share-requires g c =
    let some = heads_some c.args.bytes.now c.in_ok-heads.heads.items c.in_ok-heads.ensures.heads in
    let same = ap (λ (l : List Head). length l) c.as_slice-heads.ensures.value in
    omega (arith, some, same)

pub encode_heads-requires-clause-heads : goal.encode_heads-requires-clause-heads
encode_heads-requires-clause-heads g c =
    subst (AreHeads opening_walk c.args.bytes.now) (sym c.as_slice-heads.ensures.value)
    c.in_ok-heads.ensures.heads

pub encode_heads-requires-clause-version : goal.encode_heads-requires-clause-version
encode_heads-requires-clause-version g c =
    let n : ℕ = length c.as_slice-heads.result.now in
    let some = heads_some c.args.bytes.now c.in_ok-heads.heads.items c.in_ok-heads.ensures.heads in
    let most = c.in_ok-heads.ensures.few in
    let same = ap (λ (l : List Head). length l) c.as_slice-heads.ensures.value in
    let can = can_share n c.args.segments (omega (arith, some, same)) (omega (arith, most, same))
    c.requires.few in
    subst (λ (v : Version). CanHold v n c.share_of-share.result) (sym c.version_for-version.ensures)
    (subst (CanHold (version_for n) n) (sym c.share_of-share.ensures) can)

pub returns-clause-made : goal.returns-clause-made
returns-clause-made g c =
    let n : ℕ = length c.as_slice-heads.result.now in
    let made = c.in_ok-made.made.items in
    let bytes = c.args.bytes.now in (
      n,
      subst (λ (v : Version). IsContainerOf v (replicate n (share_of c.args.segments n)) made bytes)
          c.version_for-version.ensures
          (subst (λ s. IsContainerOf c.version_for-version.result (replicate n s) made bytes)
          c.share_of-share.ensures c.in_ok-made.ensures.made),
    )
