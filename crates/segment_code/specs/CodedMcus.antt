-- Steps: MCUs of a scan, read and coded one by one (own).
use Rattle.std.specs.Prelude.{◌≡◌, ℕ, List, [], ℤ, Result, Ok}
use Rattle.std.specs.List.{AllByRecursion}
use Rattle.coef_block.specs.Block.{IsBlock}
use Rattle.adapt_bins.specs.declared.put.Put.{Put}
use Rattle.scan_spec.specs.Scans.{Mcu}
use Rattle.scan_spec.specs.ScanCalls.{ScanReader}
use Rattle.scan_spec.specs.ScanLaws.{zigzag_of}
use Rattle.scan_spec.specs.ScanReading.{Standing, mcus_at}
use Rattle.scan_spec.specs.declared.refusal.ScanRefusal.{ScanRefusal}
use Rattle.block_spec.specs.Grid.{Grid}
use Rattle.block_code.specs.SegmentUnderWay.{UnderWay, HoldsUpTo, PutsMore}
use Rattle.container_spec.specs.ScanStream.{blocks_of}

-- MCUs in zigzag order that were read, or a refusal (own)
abbrev pub McusRead : Type 0
McusRead = Result (List (List (List ℤ)) × Standing) ScanRefusal

-- what a reader's next `count` MCUs come to (own)
abbrev pub next_of : ℕ → ScanReader → McusRead
next_of count reader = mcus_at count reader.shape reader.bytes reader.at

-- `count` MCUs, in zigzag order, were read from one reader's standing to another's (own)
pub record AreReadOn (count : ℕ) (old new : ScanReader) (mcus : List (List (List ℤ))) : Type 0
  where
    pub read : next_of count old ≡ Ok (mcus, new.at)
    pub same : new ≡ record old { at = new.at }

-- `count` MCUs were read from one reader's standing to another's, their blocks put, and kept (own)
pub record AreCoded (count : ℕ) (old new : ScanReader) (grid : Grid) (segment : UnderWay)
    (from to : Put) (mcus : List Mcu) : Type 0 where
  pub on : AreReadOn count old new (zigzag_of mcus)
  pub blocks : AllByRecursion (AllByRecursion IsBlock) mcus
  pub held : HoldsUpTo segment (blocks_of mcus)
  pub put : PutsMore from grid [] to (blocks_of mcus)
