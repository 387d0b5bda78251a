-- One MCU more of a scan, read and coded.
use Rattle.std.proofs.Common.{◌≡◌, ℕ, ◌+◌, Bool, List, [], ◌∷◌, ◌++◌, map, ap, ◌∙◌, sym, subst, append_assoc}
use Rattle.std.specs.Prelude.{ℤ, Ok}
use Rattle.std.specs.List.{AllByRecursion}
use Rattle.std.proofs.lemmas.List.{append-nil, map-append}
use Rattle.std.proofs.lemmas.List.Concat.{flat_map-append}
use Rattle.coef_block.specs.Block.{IsBlock}
use Rattle.adapt_bins.specs.PutEvents.{puts_joined}
use Rattle.adapt_bins.specs.declared.put.Put.{Put}
use Rattle.scan_spec.specs.Scans.{Mcu}
use Rattle.scan_spec.specs.ScanCalls.{ScanReader}
use Rattle.scan_spec.specs.ScanLaws.{zigzag_of}
use Rattle.scan_spec.specs.ScanReading.{mcu_at}
use Rattle.scan_spec.specs.BlockBits.{in_zigzag}
use Rattle.block_spec.specs.Grid.{Grid}
use Rattle.block_spec.specs.SegmentEvents.{segment_events}
use Rattle.block_code.specs.SegmentUnderWay.{UnderWay, HoldsUpTo, PutsMore}
use Rattle.block_code.proofs.McuSteps.{puts_nothing}
use Rattle.container_spec.specs.ScanStream.{blocks_of}
use Rattle.segment_code.specs.CodedMcus.{AreReadOn, AreCoded}
use Rattle.segment_code.proofs.ReadOn.{none_read, one_more}

pub coded_none : (reader : ScanReader) (g : Grid) (segment : UnderWay) (s : Put)
    → HoldsUpTo segment [] → AreCoded 0 reader reader g segment s s []
coded_none reader g segment s held = record {
  on = none_read reader;
  blocks = tt;
  held = held;
  put =
      puts_nothing s g [];
}

-- its blocks come after the others
pub blocks_more : (mcus : List Mcu) (mcu : Mcu)
    → blocks_of (mcus ++ mcu ∷ []) ≡ blocks_of mcus ++ mcu
blocks_more mcus mcu = flat_map-append (λ (m : Mcu). m) mcus (mcu ∷ [])
    ∙ ap (λ xs. blocks_of mcus ++ xs) (append-nil mcu)

all_more : (mcus : List Mcu) (mcu : Mcu) → AllByRecursion (AllByRecursion IsBlock) mcus
    → AllByRecursion IsBlock mcu → AllByRecursion (AllByRecursion IsBlock) (mcus ++ mcu ∷ [])
all_more [] mcu all one = (one, tt)
all_more (m ∷ mcus) mcu all one = (all.0, all_more mcus mcu all.1 one)

puts_then : (s t u : Put) (g : Grid) (done more : List (List ℤ)) → PutsMore s g [] t done
    → PutsMore t g done u more → PutsMore s g [] u (done ++ more)
puts_then s t u g done more a b = record {
  events = a.events ++ b.events;
  are = b.are ∙ ap (λ (es : List (ℕ × Bool)). es ++ b.events) a.are
      ∙ append_assoc (segment_events g []) a.events b.events;
  puts = puts_joined s t u a.events b.events a.puts b.puts;
}

pub coded_one : (n : ℕ) (old reader next : ScanReader) (g : Grid) (segment after : UnderWay)
    (s t u : Put) (mcus : List Mcu) (mcu : Mcu) → AreCoded n old reader g segment s t mcus
    → mcu_at reader.shape reader.bytes reader.at ≡ Ok (map in_zigzag mcu, next.at)
    → next ≡ record reader { at = next.at } → AllByRecursion IsBlock mcu
    → HoldsUpTo after (blocks_of mcus ++ mcu) → PutsMore t g (blocks_of mcus) u mcu
    → AreCoded (n + 1) old next g after s u (mcus ++ mcu ∷ [])
coded_one n old reader next g segment after s t u mcus mcu so read same all held put =
    let zigzag : zigzag_of (mcus ++ mcu ∷ []) ≡ zigzag_of mcus ++ map in_zigzag mcu ∷ [] =
    map-append (λ (m : Mcu). map in_zigzag m) mcus (mcu ∷ []) in
    record {
      on = subst (AreReadOn (n + 1) old next) (sym zigzag)
          (one_more n old reader next (zigzag_of mcus) (map in_zigzag mcu) so.on read same);
      blocks = all_more mcus mcu so.blocks all;
      held = subst (HoldsUpTo after) (sym (blocks_more mcus mcu)) held;
      put = subst (PutsMore s g [] u) (sym (blocks_more mcus mcu))
          (puts_then s t u g (blocks_of mcus) mcu so.put put);
    }
