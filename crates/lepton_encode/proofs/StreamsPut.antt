-- The streams of coded scans, one after another, are those of their parts.
use Rattle.std.proofs.Common.{◌≡◌, ℕ, List, [], ◌∷◌, ◌++◌, flat_map, refl, ap}
use Rattle.box_format.specs.Containers.{scan_streams}
use Rattle.box_format.specs.declared.version.Version.{Version}
use Rattle.lepton_encode.specs.ScansMade.{AreWithin, scans_made, streams_in}
use Rattle.lepton_encode.specs.declared.container.CodedScan.{CodedScan}
use Rattle.lepton_encode.specs.declared.heads.Head.{Head}

pub streams_are : (v : Version) (file : List ℕ) (heads : List Head) (coded : List CodedScan)
    → AreWithin file heads coded
    → flat_map scan_streams (scans_made v file heads coded) ≡ flat_map streams_in coded
streams_are v file [] [] have = refl
streams_are v file [] (c ∷ coded) have = absurd have
streams_are v file (h ∷ heads) [] have = absurd have
streams_are v file (h ∷ []) (c ∷ []) have = refl
streams_are v file (h ∷ []) (c ∷ d ∷ coded) have = absurd have.1
streams_are v file (h ∷ g ∷ heads) (c ∷ coded) have =
    ap (λ (l : List ℕ). streams_in c ++ l) (streams_are v file (g ∷ heads) coded have.1)
