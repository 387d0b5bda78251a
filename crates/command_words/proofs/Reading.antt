-- What is read of matches.
use Rattle.std.proofs.Common.{◌≡◌, ◌∙◌, ap, ℕ, refl, sym, subst, List, [], Option, Some, None, IfNone, IfSome, Ok, Err, Result, true, false, codes}
use Rattle.std.specs.Prelude.{Box, option_map}
use Rattle.std.specs.Box.{box_value}
use Rattle.std.specs.Str.{bytes_eq}
use Rattle.std.specs.Str.Parse.{ParsesUnsigned}
use Rattle.std.proofs.lemmas.Slice.Eq.{bytes_eq-Decides}
use Rattle.clap.specs.Words.{ReadsOne, Row, Text, one_text, rows_of, subcommand_rows}
use Rattle.clap.specs.declared.parser.matches.ArgMatches.TheViews.{out-SubCommand}
use Rattle.clap.specs.declared.parser.matches.Found.{Found}
use Rattle.clap.specs.declared.parser.matches.SubCommand.{SubCommand}
use Rattle.clap.proofs.WalkLemmas.{one_text-rows}
use Rattle.command_words.specs.Meaning.{Asks, Reads}
use Rattle.command_words.specs.declared.command.Command.{Command}
use Rattle.command_words.specs.declared.command.Command.TheVariants.{Chunk, Decode, Encode, Index, Migrate, Range, Sample}

abbrev pub rows_in : Option (Text × List Row) → List Row
rows_in None = []
rows_in (Some p) = p.1

abbrev pub name_in : Option (Text × List Row) → Text
name_in None = []
name_in (Some p) = p.0

-- two names that are told apart are not one
pub other_name : {P : Type 0} (a b : Text) → a ≡ b → bytes_eq a b ≡ false → P
other_name a b same apart =
    let equal : bytes_eq a b ≡ true = (bytes_eq-Decides a b).1 same in
    absurd cc

-- two subcommands that were met are one
other_met : {P : Type 0} (met : Option (Text × List Row)) (a b : Text) (xs ys : List Row) → met ≡ Some (a, xs) → met ≡ Some (b, ys)
    → bytes_eq a b ≡ false → P
other_met met a b xs ys one two apart = other_name a b (ap name_in (sym one ∙ two)) apart

same_rows : (met : Option (Text × List Row)) (a b : Text) (xs ys : List Row) → met ≡ Some (a, xs) → met ≡ Some (b, ys) → ys ≡ xs
same_rows met a b xs ys one two = ap rows_in (sym two ∙ one)

-- the subcommand that was met, from its name and its rows
pub met_is : {Z : Type 0} (met : Option (Box SubCommand Z)) (name : Text) (rows : List Row)
    → Some name ≡ option_map (λ b. (out-SubCommand (box_value b)).name.now) met
    → Some rows ≡ option_map (λ p. p.1) (subcommand_rows met) → subcommand_rows met ≡ Some (name, rows)
met_is None name rows named held = absurd (cc)
met_is (Some b) name rows named held = cc

module _ {E : Type 0} (bits : ℕ) (gives : Text → Result ℕ E → Type 0)
    (only : (text : Text) (r : Result ℕ E) → gives text r → ParsesUnsigned bits 10 text r) (f : Found) (id : Text) where
  -- a number that was read
  pub some_read : (r : Option ℕ) → (one_text f id ≡ None → r ≡ None)
      → ((text : Text) → one_text f id ≡ Some text → ReadsOne gives text r) → IfSome r (Reads bits (rows_of f) id)
  some_read None none value = tt
  some_read (Some number) none value = go (one_text f id) refl
    where
      go : (o : Option Text) → one_text f id ≡ o → Reads bits (rows_of f) id number
      go None is = let bad : Some number ≡ None = none is in absurd cc
      go (Some text) is = record {
        text = text;
        first = sym (one_text-rows f id) ∙ is;
        number_is = only text (Ok number) (value text is);
      }

  -- none was read
  pub none_read : (r : Option ℕ) → ((text : Text) → one_text f id ≡ Some text → ReadsOne gives text r)
      → IfNone r ((number : ℕ) → ¬ Reads bits (rows_of f) id number)
  none_read (Some n) value = tt
  none_read None value = λ number reads.
      let read = value reads.text (one_text-rows f id ∙ reads.first) in
      only reads.text (Err read.0) read.1 reads.number_is.0

-- a subcommand asks for nothing where its option, or one of its options, reads as no number
pub encode_unread : (met : Option (Text × List Row)) (rows : List Row) → met ≡ Some (codes "encode", rows)
    → ((number : ℕ) → ¬ Reads 8 rows (codes "segments") number) → (command : Command) → ¬ Asks met command
encode_unread met rows is none (Encode n) asks =
    none n (subst (λ rs. Reads 8 rs (codes "segments") n) (same_rows _ _ _ _ _ is asks.is) asks.reads)
encode_unread met rows is none (Decode n) asks = other_met _ _ _ _ _ is asks.is refl
encode_unread met rows is none Migrate asks = other_met _ _ _ _ _ is asks.1 refl
encode_unread met rows is none Index asks = other_met _ _ _ _ _ is asks.1 refl
encode_unread met rows is none (Range a b w) asks = other_met _ _ _ _ _ is asks.is refl
encode_unread met rows is none (Chunk k z n) asks = other_met _ _ _ _ _ is asks.is refl
encode_unread met rows is none (Sample s c r) asks = other_met _ _ _ _ _ is asks.is refl

pub decode_unread : (met : Option (Text × List Row)) (rows : List Row) → met ≡ Some (codes "decode", rows)
    → ((number : ℕ) → ¬ Reads 8 rows (codes "workers") number) → (command : Command) → ¬ Asks met command
decode_unread met rows is none (Decode n) asks =
    none n (subst (λ rs. Reads 8 rs (codes "workers") n) (same_rows _ _ _ _ _ is asks.is) asks.reads)
decode_unread met rows is none (Encode n) asks = other_met _ _ _ _ _ is asks.is refl
decode_unread met rows is none Migrate asks = other_met _ _ _ _ _ is asks.1 refl
decode_unread met rows is none Index asks = other_met _ _ _ _ _ is asks.1 refl
decode_unread met rows is none (Range a b w) asks = other_met _ _ _ _ _ is asks.is refl
decode_unread met rows is none (Chunk k z n) asks = other_met _ _ _ _ _ is asks.is refl
decode_unread met rows is none (Sample s c r) asks = other_met _ _ _ _ _ is asks.is refl

pub chunk_unread : (met : Option (Text × List Row)) (options : List Row) → met ≡ Some (codes "chunk", options)
    → ((index size segments : ℕ) → Reads 32 options (codes "index") index → Reads 32 options (codes "size") size
    → ¬ Reads 8 options (codes "segments") segments)
    → (command : Command) → ¬ Asks met command
chunk_unread met options is none (Chunk k z n) asks =
    let same = same_rows _ _ _ _ _ is asks.is in
    none k z n (subst (λ rs. Reads 32 rs (codes "index") k) same asks.index_is)
    (subst (λ rs. Reads 32 rs (codes "size") z) same asks.size_is)
    (subst (λ rs. Reads 8 rs (codes "segments") n) same asks.segments_is)
chunk_unread met options is none (Encode n) asks = other_met _ _ _ _ _ is asks.is refl
chunk_unread met options is none (Decode n) asks = other_met _ _ _ _ _ is asks.is refl
chunk_unread met options is none Migrate asks = other_met _ _ _ _ _ is asks.1 refl
chunk_unread met options is none Index asks = other_met _ _ _ _ _ is asks.1 refl
chunk_unread met options is none (Range a b w) asks = other_met _ _ _ _ _ is asks.is refl
chunk_unread met options is none (Sample s c r) asks = other_met _ _ _ _ _ is asks.is refl

pub range_unread : (met : Option (Text × List Row)) (options : List Row) → met ≡ Some (codes "range", options)
    → ((from to workers : ℕ) → Reads 64 options (codes "from") from → Reads 64 options (codes "to") to
    → ¬ Reads 8 options (codes "workers") workers)
    → (command : Command) → ¬ Asks met command
range_unread met options is none (Range a b w) asks =
    let same = same_rows _ _ _ _ _ is asks.is in
    none a b w (subst (λ rs. Reads 64 rs (codes "from") a) same asks.from_is)
    (subst (λ rs. Reads 64 rs (codes "to") b) same asks.to_is)
    (subst (λ rs. Reads 8 rs (codes "workers") w) same asks.workers_is)
range_unread met options is none (Encode n) asks = other_met _ _ _ _ _ is asks.is refl
range_unread met options is none (Decode n) asks = other_met _ _ _ _ _ is asks.is refl
range_unread met options is none Migrate asks = other_met _ _ _ _ _ is asks.1 refl
range_unread met options is none Index asks = other_met _ _ _ _ _ is asks.1 refl
range_unread met options is none (Chunk k z n) asks = other_met _ _ _ _ _ is asks.is refl
range_unread met options is none (Sample s c r) asks = other_met _ _ _ _ _ is asks.is refl

pub sample_unread : (met : Option (Text × List Row)) (options : List Row) → met ≡ Some (codes "sample", options)
    → ((seed columns rows : ℕ) → Reads 32 options (codes "seed") seed → Reads 16 options (codes "columns") columns
    → ¬ Reads 16 options (codes "rows") rows)
    → (command : Command) → ¬ Asks met command
sample_unread met options is none (Sample s c r) asks =
    let same = same_rows _ _ _ _ _ is asks.is in
    none s c r (subst (λ rs. Reads 32 rs (codes "seed") s) same asks.seed_is)
    (subst (λ rs. Reads 16 rs (codes "columns") c) same asks.columns_is)
    (subst (λ rs. Reads 16 rs (codes "rows") r) same asks.rows_is)
sample_unread met options is none (Encode n) asks = other_met _ _ _ _ _ is asks.is refl
sample_unread met options is none (Decode n) asks = other_met _ _ _ _ _ is asks.is refl
sample_unread met options is none Migrate asks = other_met _ _ _ _ _ is asks.1 refl
sample_unread met options is none Index asks = other_met _ _ _ _ _ is asks.1 refl
sample_unread met options is none (Range a b w) asks = other_met _ _ _ _ _ is asks.is refl
sample_unread met options is none (Chunk k z n) asks = other_met _ _ _ _ _ is asks.is refl

pub if_none : {X : Type 0} (r : Option X) (P : Type 0) → P → IfNone r P
if_none None P p = p
if_none (Some x) P p = tt
