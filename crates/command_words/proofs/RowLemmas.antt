-- The meaning of words that are written out.
use Rattle.std.proofs.Common.{◌≡◌, ap, ℕ, refl, true, false, rules, List, [], Option, Some, None, codes, is_some, option_map}
use Rattle.std.specs.List.{AllByRecursion}
use Rattle.clap.specs.Words.{Row, Text, one_of}
use Rattle.clap.specs.Walk.{is_empty}
use Rattle.clap.proofs.OnLiterals.{clap_on_literals}
use Rattle.command_words.specs.LeptonApp.{faults, given}
use Rattle.command_words.specs.Meaning.{IsChunked, IsNumbered, IsRanged, IsSampled, Means, ReadsAs}
use Rattle.command_words.specs.Rows.{line, meaningless, meant}
use Rattle.command_words.specs.declared.command.Command.{Command}

-- what a subcommand's option has
abbrev shown : Text → Option (Text × List Row) → Option (Text × Option Text)
shown option = option_map (λ p. (p.0, one_of option p.1))

abbrev name_shown : Option (Text × Option Text) → Text
name_shown None = []
name_shown (Some p) = p.0

abbrev value_shown : Option (Text × Option Text) → Option Text
value_shown None = None
value_shown (Some p) = p.1

numbered : (met : Option (Text × List Row)) (name option text : Text) (number : ℕ) → shown option met ≡ Some (name, Some text)
    → ReadsAs 8 text number → IsNumbered met name option number
numbered None name option text number is reads = let bad : false ≡ true = ap (λ o. is_some o) is in absurd cc
numbered (Some p) name option text number is reads = record {
  rows = p.1;
  is = ap (λ n. Some (n, p.1)) (ap name_shown is);
  reads = record { text = text; first = ap value_shown is; number_is = reads };
}

-- what a subcommand without options has
named : (met : Option (Text × List Row)) (name : Text) → option_map (λ p. p.0) met ≡ Some name
    → (options : List Row) × (met ≡ Some (name, options))
named None name is = let bad : false ≡ true = ap (λ o. is_some o) is in absurd cc
named (Some p) name is = (p.1, ap (λ n. Some (name_of n, p.1)) is)
  where
    name_of : Option Text → Text
    name_of None = []
    name_of (Some n) = n

-- what three options of a subcommand have
abbrev three : Text → Text → Text → Option (Text × List Row) → Option (Text × Option Text × Option Text × Option Text)
three first second third = option_map (λ p. (p.0, one_of first p.1, one_of second p.1, one_of third p.1))

abbrev parts : Option (Text × Option Text × Option Text × Option Text) → Text × Option Text × Option Text × Option Text
parts None = ([], None, None, None)
parts (Some p) = p

sampled : (met : Option (Text × List Row)) (s c r : Text) (seed columns rows : ℕ)
    → three (codes "seed") (codes "columns") (codes "rows") met ≡ Some (codes "sample", Some s, Some c, Some r)
    → ReadsAs 32 s seed → ReadsAs 16 c columns → ReadsAs 16 r rows → IsSampled met seed columns rows
sampled None s c r seed columns rows is one two last = let bad : false ≡ true = ap (λ o. is_some o) is in absurd cc
sampled (Some p) s c r seed columns rows is one two last = record {
  options = p.1;
  is = ap (λ q. Some ((parts q).0, p.1)) is;
  seed_is = record { text = s; first = ap (λ q. (parts q).1) is; number_is = one };
  columns_is = record { text = c; first = ap (λ q. (parts q).2) is; number_is = two };
  rows_is = record { text = r; first = ap (λ q. (parts q).3) is; number_is = last };
}

chunked : (met : Option (Text × List Row)) (k z n : Text) (index size segments : ℕ)
    → three (codes "index") (codes "size") (codes "segments") met ≡ Some (codes "chunk", Some k, Some z, Some n)
    → ReadsAs 32 k index → ReadsAs 32 z size → ReadsAs 8 n segments → IsChunked met index size segments
chunked None k z n index size segments is one two last = let bad : false ≡ true = ap (λ o. is_some o) is in absurd cc
chunked (Some p) k z n index size segments is one two last = record {
  options = p.1;
  is = ap (λ q. Some ((parts q).0, p.1)) is;
  index_is = record { text = k; first = ap (λ q. (parts q).1) is; number_is = one };
  size_is = record { text = z; first = ap (λ q. (parts q).2) is; number_is = two };
  segments_is = record { text = n; first = ap (λ q. (parts q).3) is; number_is = last };
}

ranged : (met : Option (Text × List Row)) (a b w : Text) (from to workers : ℕ)
    → three (codes "from") (codes "to") (codes "workers") met ≡ Some (codes "range", Some a, Some b, Some w)
    → ReadsAs 64 a from → ReadsAs 64 b to → ReadsAs 8 w workers → IsRanged met from to workers
ranged None a b w from to workers is one two last = let bad : false ≡ true = ap (λ o. is_some o) is in absurd cc
ranged (Some p) a b w from to workers is one two last = record {
  options = p.1;
  is = ap (λ q. Some ((parts q).0, p.1)) is;
  from_is = record { text = a; first = ap (λ q. (parts q).1) is; number_is = one };
  to_is = record { text = b; first = ap (λ q. (parts q).2) is; number_is = two };
  workers_is = record { text = w; first = ap (λ q. (parts q).3) is; number_is = last };
}

not_meant : (words : List Text) → is_empty (faults words) ≡ false → (command : Command) → ¬ Means words command
not_meant words some command means = let none : is_empty (faults words) ≡ true = ap (λ ks. is_empty ks) means.taken in absurd cc

pub means_rows : AllByRecursion (λ row. Means (line row.0) row.1) meant
unfolding clap_on_literals faults given
means_rows = (record { taken = refl; asks = numbered _ (codes "encode") (codes "segments") (codes "8") 8 refl (search rules) }, (record { taken = refl; asks = numbered _ (codes "decode") (codes "workers") (codes "4") 4 refl (search rules) }, (record { taken = refl; asks = numbered _ (codes "encode") (codes "segments") (codes "3") 3 refl (search rules) }, (record { taken = refl; asks = numbered _ (codes "encode") (codes "segments") (codes "64") 64 refl (search rules) }, (record { taken = refl; asks = numbered _ (codes "encode") (codes "segments") (codes "08") 8 refl (search rules) }, (record { taken = refl; asks = numbered _ (codes "decode") (codes "workers") (codes "0") 0 refl (search rules) }, (record { taken = refl; asks = numbered _ (codes "decode") (codes "workers") (codes "16") 16 refl (search rules) }, (record { taken = refl; asks = named _ (codes "migrate") refl }, (record { taken = refl; asks = chunked _ (codes "0") (codes "4194304") (codes "8") 0 4194304 8 refl (search rules) (search rules) (search rules) }, (record { taken = refl; asks = chunked _ (codes "0") (codes "4194304") (codes "8") 0 4194304 8 refl (search rules) (search rules) (search rules) }, (record { taken = refl; asks = chunked _ (codes "4294967295") (codes "4194304") (codes "8") 4294967295 4194304 8 refl (search rules) (search rules) (search rules) }, (record { taken = refl; asks = chunked _ (codes "0") (codes "1") (codes "8") 0 1 8 refl (search rules) (search rules) (search rules) }, (record { taken = refl; asks = chunked _ (codes "0") (codes "67108864") (codes "8") 0 67108864 8 refl (search rules) (search rules) (search rules) }, (record { taken = refl; asks = chunked _ (codes "0") (codes "4194304") (codes "1") 0 4194304 1 refl (search rules) (search rules) (search rules) }, (record { taken = refl; asks = chunked _ (codes "0") (codes "4194304") (codes "64") 0 4194304 64 refl (search rules) (search rules) (search rules) }, (record { taken = refl; asks = chunked _ (codes "3") (codes "4") (codes "2") 3 4 2 refl (search rules) (search rules) (search rules) }, (record { taken = refl; asks = named _ (codes "index") refl }, (record { taken = refl; asks = ranged _ (codes "0") (codes "1099511627775") (codes "4") 0 1099511627775 4 refl (search rules) (search rules) (search rules) }, (record { taken = refl; asks = ranged _ (codes "5") (codes "6") (codes "0") 5 6 0 refl (search rules) (search rules) (search rules) }, (record { taken = refl; asks = sampled _ (codes "2") (codes "256") (codes "256") 2 256 256 refl (search rules) (search rules) (search rules) }, (record { taken = refl; asks = sampled _ (codes "0") (codes "4") (codes "3") 0 4 3 refl (search rules) (search rules) (search rules) }, (record { taken = refl; asks = sampled _ (codes "4294967295") (codes "1") (codes "1") 4294967295 1 1 refl (search rules) (search rules) (search rules) }, tt))))))))))))))))))))))

pub meaningless_rows : AllByRecursion (λ words. (command : Command) → ¬ Means (line words) command) meaningless
unfolding clap_on_literals faults
meaningless_rows = (not_meant _ refl, (not_meant _ refl, (not_meant _ refl, (not_meant _ refl, (not_meant _ refl, (not_meant _ refl, (not_meant _ refl, (not_meant _ refl, (not_meant _ refl, (not_meant _ refl, (not_meant _ refl, (not_meant _ refl, (not_meant _ refl, (not_meant _ refl, (not_meant _ refl, (not_meant _ refl, (not_meant _ refl, (not_meant _ refl, (not_meant _ refl, (not_meant _ refl, (not_meant _ refl, (not_meant _ refl, (not_meant _ refl, (not_meant _ refl, (not_meant _ refl, (not_meant _ refl, (not_meant _ refl, (not_meant _ refl, (not_meant _ refl, (not_meant _ refl, (not_meant _ refl, (not_meant _ refl, (not_meant _ refl, (not_meant _ refl, (not_meant _ refl, (not_meant _ refl, (not_meant _ refl, (not_meant _ refl, (not_meant _ refl, (not_meant _ refl, (not_meant _ refl, (not_meant _ refl, (not_meant _ refl, (not_meant _ refl, (not_meant _ refl, (not_meant _ refl, (not_meant _ refl, (not_meant _ refl, (not_meant _ refl, tt)))))))))))))))))))))))))))))))))))))))))))))))))
