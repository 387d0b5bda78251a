use Rattle.std.proofs.Common.{rules}
use Rattle.std.specs.List.{AllByRecursion}
use Rattle.bit_list.specs.Bits.{IsByte}
use Rattle.lepton_encode.proofs.HeadsFound.{are_bytes}
use Rattle.lepton_encode.proofs.ScansContained.{are_contained}
use Rattle.lepton_encode.proofs.scans.encode_heads.Goals as goal

pub write_coded-requires-clause-within : goal.write_coded-requires-clause-within
write_coded-requires-clause-within g c =
    let bytes = c.args.bytes.now in
    let all : AllByRecursion IsByte bytes =
    are_bytes bytes (λ i. let h = c.type_inv.bytes i in search rules) in
    (are_contained c.args.version bytes c.args.share c.args.heads.now c.in_ok-coded.coded.items all
    c.requires.length c.requires.some c.requires.version c.requires.heads
    c.in_ok-coded.ensures.coded).within

pub write_coded-requires-clause-scans : goal.write_coded-requires-clause-scans
write_coded-requires-clause-scans g c =
    let bytes = c.args.bytes.now in
    let all : AllByRecursion IsByte bytes =
    are_bytes bytes (λ i. let h = c.type_inv.bytes i in search rules) in
    (are_contained c.args.version bytes c.args.share c.args.heads.now c.in_ok-coded.coded.items all
    c.requires.length c.requires.some c.requires.version c.requires.heads
    c.in_ok-coded.ensures.coded).scans

pub returns-clause-made : goal.returns-clause-made
returns-clause-made g c =
    let bytes = c.args.bytes.now in
    let all : AllByRecursion IsByte bytes =
    are_bytes bytes (λ i. let h = c.type_inv.bytes i in search rules) in
    (are_contained c.args.version bytes c.args.share c.args.heads.now c.in_ok-coded.coded.items all
    c.requires.length c.requires.some c.requires.version c.requires.heads
    c.in_ok-coded.ensures.coded).made c.in_ok-made.made.items c.in_ok-made.ensures
