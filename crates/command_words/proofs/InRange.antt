-- A command that words mean has its numbers in their ranges.
use Rattle.std.proofs.Common.{◌≡◌, ◌≤◌, ◌<◌, ◌||◌, ◌++◌, ◌∙◌, ◌^◌, ap, fold, ℕ, Bool, true, false, cond, refl, sym, subst, List, [], ◌∷◌, Option, Some, None, arith, codes, is_some, length, option_map}
use Rattle.std.specs.Prelude.{find, option_and_then, pos, slice_get}
use Rattle.std.specs.List.{AllByRecursion}
use Rattle.std.specs.Option.{option_map_or}
use Rattle.std.specs.Str.{bytes_eq}
use Rattle.std.specs.Str.Parse.{ParsesUnsigned, digits_value, without_leading_plus}
use Rattle.std.specs.declared.num.ParseIntError.{ParseIntError}
use Rattle.clap.specs.Kinds.{Kinds, or_else, range_kinds, value_kinds, values_kinds}
use Rattle.clap.specs.ValueTests.{accepts}
use Rattle.clap.specs.Values.{read_as, reading_of}
use Rattle.clap.specs.Walk.{Held, Row, Rule, Text, answers_to, at_row, default_rows, finished, has_row, is_empty, more_values, nothing_held, row_text, rows_after, settled, stop_after, used, values_or_missing, walk, walk_from, with_default, with_values, without}
use Rattle.clap.specs.Simple.{App, Shape, argument_words, built, entered, filled, help_rule, label_of, names_of, new_rule, rows_at, with_index}
use Rattle.clap.specs.Faults.{built_fault, check_fault, settle_fault, walk_fault, default_fault, defaults_fault, entered_fault, level_fault, repeat_fault, set_fault, use_fault, values_fault}
use Rattle.clap.specs.declared.error.kind.ErrorKind.TheVariants.{DisplayHelp}
use Rattle.clap.specs.declared.error.kind.ErrorKind.{ErrorKind}
use Rattle.clap.specs.declared.builder.value_parser.Reading.{Reading}
use Rattle.clap.specs.declared.builder.value_parser.Reading.TheVariants.{AsWritten, WithoutMinus}
use Rattle.clap.specs.declared.builder.value_parser.ValueParser.{ValueParser}
use Rattle.clap.specs.declared.builder.value_parser.ValueParser.TheVariants.{Signed, Unsigned}
use Rattle.clap.specs.declared.builder.action.ArgAction.TheVariants.{Set}
use Rattle.clap.specs.declared.parser.matches.ValueSource.{ValueSource}
use Rattle.clap.specs.declared.parser.matches.ValueSource.TheVariants.{CommandLine, DefaultValue}
use Rattle.std.proofs.lemmas.Slice.Eq.{bytes_eq-Decides}
use Rattle.std.proofs.lemmas.Bool.{ne_eqb}
use Rattle.clap.proofs.CallerReads.{signed_reads}
use Rattle.clap.proofs.ValueTestLemmas.{accepts-Accepts}
use Rattle.command_words.specs.LeptonApp.{faults, given, lepton_app}
use Rattle.command_words.specs.Meaning.{Asks, IsInRange, Means, Reads, ReadsAs}
use Rattle.command_words.specs.declared.command.Command.{Command}
use Rattle.command_words.specs.declared.command.Command.TheVariants.{Chunk, Decode, Encode, Index, Migrate, Range, Sample}
use Rattle.command_words.proofs.Reading.{name_in, other_name, rows_in}
use Rattle.command_words.proofs.RowsKept.{no_else, settled_keeps, walk_keeps}

module _ {X : Type 0} (P : X → Type 0) where
  first_or : (b : Bool) (x y : X) (o : Option X) → P y → (o ≡ Some x → P x) → cond b (Some y) o ≡ Some x → P x
  first_or true x y o here later is = let same : y ≡ x = cc in subst P same here
  first_or false x y o here later is = later is

  -- what holds of each element holds of one that was found
  found_holds : (p : X → Bool) (xs : List X) (x : X) → AllByRecursion P xs → find p xs ≡ Some x → P x
  found_holds p [] x all found = absurd cc
  found_holds p (y ∷ ys) x all found = first_or (p y) x y (find p ys) all.0 (found_holds p ys x all.1) found

-- an element that was found answers to the test
found_answers : {X : Type 0} (p : X → Bool) (xs : List X) (x : X) → find p xs ≡ Some x → p x ≡ true
found_answers p [] x found = absurd cc
found_answers p (y ∷ ys) x found = go (p y) refl (found_answers p ys x) found
  where
    go : (b : Bool) → p y ≡ b → (find p ys ≡ Some x → p x ≡ true) → cond b (Some y) (find p ys) ≡ Some x → p x ≡ true
    go true is later found = let same : y ≡ x = cc in subst (λ z. p z ≡ true) same is
    go false is later found = later found

is_accepted : (k : ErrorKind) (b : Bool) → cond b [] (k ∷ []) ≡ [] → b ≡ true
is_accepted k true none = refl
is_accepted k false none = absurd cc

-- an option `--id` with values that a parser takes, as clap builds it; `usual` stands for it where it is left out
abbrev option_built : Text → ValueParser → List Text → Bool → Rule
option_built id parser usual required = record (new_rule id) {
  long = Some id;
  action = Some Set;
  range = Some (record { start_inclusive = 1; end_inclusive = 1 });
  defaults = usual;
  parser = Some parser;
  required = required;
}

abbrev help_built : Rule
help_built = with_index 1 (filled help_rule)

module _ (name : Text) (numbers : ValueParser) where
  -- values of the option are numbers of the range, and are read as its parser reads them
  abbrev ValuesPass : Text → Reading → List Text → Type 0
  ValuesPass id how values = id ≡ name → (how ≡ reading_of numbers) × (values_kinds false numbers values ≡ [])

  -- a row of another option always passes
  abbrev RowPasses : Row → Type 0
  RowPasses r = ValuesPass r.id r.reading r.values

  abbrev RowsPass : List Row → Type 0
  RowsPass = AllByRecursion RowPasses

  -- a rule keeps rows passing: where it is used, and where its usual values stand for it
  record Keeps (a : Rule) : Type 0 where
    pub used_keeps : (again : Bool) (values : List Text) (rows : List Row) → use_fault again a values rows ≡ []
        → RowsPass rows → RowsPass (used a values rows)
    pub usual_keeps : (rows : List Row) → default_fault rows a ≡ [] → RowsPass rows → RowsPass (with_default rows a)

  values_append : (xs ys : List Text) → values_kinds false numbers xs ≡ [] → values_kinds false numbers ys ≡ []
      → values_kinds false numbers (xs ++ ys) ≡ []
  values_append [] ys one two = two
  values_append (x ∷ xs) ys one two =
      let parts = no_else (value_kinds false numbers x) (values_kinds false numbers xs) one in
      rw parts.0 (values_append xs ys parts.1 two)

  rows_append : (xs ys : List Row) → RowsPass xs → RowsPass ys → RowsPass (xs ++ ys)
  rows_append [] ys one two = two
  rows_append (x ∷ xs) ys one two = (one.0, rows_append xs ys one.1 two)

  either_passes : (b c : Bool) (xs ys : List Row) → b ≡ c → (c ≡ true → RowsPass xs) → RowsPass ys → RowsPass (cond b xs ys)
  either_passes true c xs ys is one two = one (sym is)
  either_passes false c xs ys is one two = two

  at_row_keeps : (id : Text) (change : Row → List Row) (missing : List Row) (rows : List Row)
      → ((r : Row) → r.id ≡ id → RowPasses r → RowsPass (change r)) → RowsPass missing → RowsPass rows
      → RowsPass (at_row id change missing rows)
  at_row_keeps id change missing [] changed new q = new
  at_row_keeps id change missing (r ∷ rs) changed new q =
      either_passes (bytes_eq r.id id) _ _ _ refl
      (λ same. rows_append (change r) rs (changed r ((bytes_eq-Decides r.id id).0 same) q.0) q.1)
      (q.0, at_row_keeps id change missing rs changed new q.1)

  with_values_keeps : (id : Text) (how : Reading) (source : ValueSource) (values : List Text) (rows : List Row)
      → ValuesPass id how values → RowsPass rows → RowsPass (with_values id how source values rows)
  with_values_keeps id how source values rows fine q =
      at_row_keeps id (more_values source values) _ rows
      (λ r is passes. (
        (λ named. let old = passes named in
            (old.0, values_append r.values values old.1 (fine (sym is ∙ named)).1)),
        tt,
      ))
      (fine, tt) q

  -- such an option keeps rows passing, if it has the range or another name
  module _ (id : Text) (parser : ValueParser) (usual : List Text) (required : Bool) (own : id ≡ name → parser ≡ numbers) where
    abbrev built_here : Rule
    built_here = option_built id parser usual required

    taken_pass : (values : List Text) → values_kinds false parser values ≡ [] → ValuesPass id (reading_of parser) values
    taken_pass values fine named =
        (ap reading_of (own named), subst (λ p. values_kinds false p values ≡ []) (own named) fine)

    option_used : (again : Bool) (values : List Text) (rows : List Row) → use_fault again built_here values rows ≡ []
        → RowsPass rows → RowsPass (used built_here values rows)
    option_used again values rows none q =
        let given = values_or_missing built_here values in
        let set = (no_else (range_kinds 1 1 (length values)) (set_fault again built_here given rows) none).1 in
        let fine = (no_else (repeat_fault again id rows) (values_fault built_here given) set).1 in
        with_values_keeps id (reading_of parser) CommandLine given (without id rows) (taken_pass given fine)
        (at_row_keeps id (λ r. []) [] rows (λ r is passes. tt) tt q)

    option_usual : (rows : List Row) → default_fault rows built_here ≡ [] → RowsPass rows → RowsPass (with_default rows built_here)
    option_usual rows none q = go (has_row id rows) usual none
      where
        go : (b : Bool) (vs : List Text) → cond (b || is_empty vs) [] (values_kinds false parser vs) ≡ []
            → RowsPass (cond b rows (default_rows id (reading_of parser) vs rows))
        go true vs none = q
        go false [] none = q
        go false (v ∷ vs) none =
            let some : is_empty (v ∷ vs) ≡ false = ne_eqb _ _ (λ e. omega arith) in
            let fine : values_kinds false parser (v ∷ vs) ≡ [] = rw some at none in
            with_values_keeps id (reading_of parser) DefaultValue (v ∷ vs) rows (taken_pass (v ∷ vs) fine) q

    option_keeps : Keeps built_here
    option_keeps = record { used_keeps = option_used; usual_keeps = option_usual }

  own_keeps : (usual : List Text) (required : Bool) → Keeps (option_built name numbers usual required)
  own_keeps usual required = option_keeps name numbers usual required (λ named. refl)

  other_keeps : (id : Text) (parser : ValueParser) (usual : List Text) (required : Bool) → bytes_eq id name ≡ false
      → Keeps (option_built id parser usual required)
  other_keeps id parser usual required apart = option_keeps id parser usual required (λ named. other_name id name named apart)

  help_used : (again : Bool) (values : List Text) (rows : List Row) → use_fault again help_built values rows ≡ []
      → RowsPass rows → RowsPass (used help_built values rows)
  help_used again values rows none q =
      let asks : DisplayHelp ∷ [] ≡ [] = (no_else (range_kinds 0 0 (length values)) (DisplayHelp ∷ []) none).1 in
      absurd cc

  help_usual : (rows : List Row) → default_fault rows help_built ≡ [] → RowsPass rows → RowsPass (with_default rows help_built)
  help_usual rows none q = go (has_row (codes "help") rows)
    where
      go : (b : Bool) → RowsPass (cond b rows rows)
      go true = q
      go false = q

  help_keeps : Keeps help_built
  help_keeps = record { used_keeps = help_used; usual_keeps = help_usual }

  defaults_keep : (rules : List Rule) (rows : List Row) → AllByRecursion Keeps rules → defaults_fault rows rules ≡ []
      → RowsPass rows → RowsPass (fold with_default rows rules)
  unfolding defaults_fault
  defaults_keep [] rows all none q = q
  defaults_keep (a ∷ rest) rows all none q =
      let parts = no_else (default_fault rows a) (defaults_fault (with_default rows a) rest) none in
      defaults_keep rest (with_default rows a) all.1 parts.1 (all.0.usual_keeps rows parts.0 q)

  -- the rows of a subcommand with such rules, at words without a fault
  level_keeps : (s : Shape) → AllByRecursion Keeps s.rules → (words : List Text)
      → level_fault s [] nothing_held words false [] ≡ [] → RowsPass (rows_after s.rules [] words)
  level_keeps s all words none =
      let uses : (p : Rule → Bool) (a : Rule) (values : List Text) (rows : List Row) → find p s.rules ≡ Some a
      → use_fault s.args_override_self a values rows ≡ [] → RowsPass rows → RowsPass (used a values rows) =
      λ p a values rows found. (found_holds Keeps p s.rules a all found).used_keeps s.args_override_self values rows in
      let walked = no_else _ _ none in
      let rest = no_else _ _ walked.1 in
      let defaults = (no_else _ _ rest.1).0 in
      let end = walk_keeps s RowsPass uses [] words (walk_from nothing_held) walked.0 tt in
      defaults_keep s.rules _ all defaults
      (settled_keeps s RowsPass uses (walk s.rules [] nothing_held words).held rest.0 end)

  -- a number that is read of such rows, where the parser takes only numbers of the range
  module _ (low high bits : ℕ) (sound : (v : Text) (number : ℕ) → accepts false numbers v ≡ true
      → ReadsAs bits (read_as (reading_of numbers) v) number → (low ≤ number) × (number ≤ high)) where
    value_in_range : (how : Reading) (vs : List Text) (text : Text) (number : ℕ) → how ≡ reading_of numbers
        → values_kinds false numbers vs ≡ [] → option_map (read_as how) (slice_get vs 0) ≡ Some text → ReadsAs bits text number
        → (low ≤ number) × (number ≤ high)
    value_in_range how [] text number plain fine is reads = absurd cc
    value_in_range how (v ∷ vs) text number plain fine is reads =
        let accepted : accepts false numbers v ≡ true = is_accepted _ (accepts false numbers v)
        (no_else (value_kinds false numbers v) (values_kinds false numbers vs) fine).0 in
        let same : text ≡ read_as (reading_of numbers) v = cc in
        sound v number accepted (subst (λ t. ReadsAs bits t number) same reads)

    read_in_range : (rows : List Row) (number : ℕ) → RowsPass rows → Reads bits rows name number
        → (low ≤ number) × (number ≤ high)
    read_in_range rows number q reads = go (find (λ r. bytes_eq r.id name) rows) refl reads.first
      where
        go : (o : Option Row) → find (λ r. bytes_eq r.id name) rows ≡ o → option_and_then row_text o ≡ Some reads.text
            → (low ≤ number) × (number ≤ high)
        go None found is = absurd cc
        go (Some r) found is =
            let named = (bytes_eq-Decides r.id name).0 (found_answers (λ (x : Row). bytes_eq x.id name) rows r found) in
            let passes = found_holds RowPasses (λ (x : Row). bytes_eq x.id name) rows r q found named in
            value_in_range r.reading r.values reads.text number passes.0 passes.1 is reads.number_is

    -- the number that a subcommand's option reads as is in its range, where the words have no fault
    read_fine : (s : Shape) → AllByRecursion Keeps s.rules → (words : List Text) → level_fault s [] nothing_held words false [] ≡ []
        → (called : Text) (rows : List Row) → Some (rows_at s words) ≡ Some (called, rows) → (number : ℕ)
        → Reads bits rows name number → (low ≤ number) × (number ≤ high)
    read_fine s all words none called rows is number reads =
        read_in_range rows number (subst RowsPass (ap rows_in is) (level_keeps s all words none)) reads

-- a number from one to another, neither below zero, is read without a minus
signed_sound : (low high bits : ℕ) → high < 2 ^ bits → (v : Text) (number : ℕ)
    → accepts false (Signed (pos low) (pos high)) v ≡ true
    → ReadsAs bits (read_as WithoutMinus v) number → (low ≤ number) × (number ≤ high)
signed_sound low high bits small v number accepted reads =
    let read = signed_reads ParseIntError (ParsesUnsigned bits 10) bits low high v (Some number)
    reads (λ u x given. given) small (accepts-Accepts false (Signed (pos low) (pos high)) v accepted) in
    let equal : read.0 ≡ number = cc in
    subst (λ n. (low ≤ n) × (n ≤ high)) equal (read.2, read.3)

-- one of 64 bits is read as it is written
unsigned_sound : (low high : ℕ) (v : Text) (number : ℕ) → accepts false (Unsigned low high) v ≡ true
    → ReadsAs 64 (read_as AsWritten v) number → (low ≤ number) × (number ≤ high)
unsigned_sound low high v number accepted reads =
    let within = accepts-Accepts false (Unsigned low high) v accepted in
    let is : number ≡ digits_value 10 (without_leading_plus v) = reads.1 in
    let least = within.2 in
    let most = within.3 in
    (omega (arith, is, least), omega (arith, is, most))

-- the same of a subcommand's option
number_fine : (name : Text) (low high bits : ℕ) → high < 2 ^ bits → (s : Shape)
    → AllByRecursion (Keeps name (Signed (pos low) (pos high))) s.rules → (words : List Text)
    → level_fault s [] nothing_held words false [] ≡ [] → (called : Text) (rows : List Row)
    → Some (rows_at s words) ≡ Some (called, rows) → (number : ℕ) → Reads bits rows name number
    → (low ≤ number) × (number ≤ high)
number_fine name low high bits small =
    read_fine name (Signed (pos low) (pos high)) low high bits (signed_sound low high bits small)

place_fine : (name : Text) (low high : ℕ) (s : Shape)
    → AllByRecursion (Keeps name (Unsigned low high)) s.rules → (words : List Text)
    → level_fault s [] nothing_held words false [] ≡ [] → (called : Text) (rows : List Row)
    → Some (rows_at s words) ≡ Some (called, rows) → (number : ℕ) → Reads 64 rows name number
    → (low ≤ number) × (number ≤ high)
place_fine name low high =
    read_fine name (Unsigned low high) low high 64 (unsigned_sound low high)

-- ---- the subcommands

-- what a subcommand's words ask for is in range, where they have no fault
record IsFine (s : Shape) : Type 0 where
  pub fine : (words : List Text) (command : Command) → level_fault s [] nothing_held words false [] ≡ []
      → Asks (Some (rows_at s words)) command → IsInRange command

-- a subcommand of another name asks for no such command
other_command : {P : Type 0} (name : Text) (s : Shape) (words : List Text) (rows : List Row) (called : Text) → s.name ≡ name
    → Some (rows_at s words) ≡ Some (called, rows) → bytes_eq name called ≡ false → P
other_command name s words rows called named is apart = other_name name called (sym named ∙ ap name_in is) apart

abbrev encode_rules : List Rule
encode_rules = option_built (codes "segments") (Signed (pos 1) (pos 64)) (codes "8" ∷ []) false ∷ help_built ∷ []

abbrev decode_rules : List Rule
decode_rules = option_built (codes "workers") (Signed (pos 0) (pos 16)) (codes "4" ∷ []) false ∷ help_built ∷ []

abbrev chunk_rules : List Rule
chunk_rules = option_built (codes "index") (Signed (pos 0) (pos 4294967295)) (codes "0" ∷ []) false
    ∷ option_built (codes "size") (Signed (pos 1) (pos 67108864)) (codes "4194304" ∷ []) false
    ∷ option_built (codes "segments") (Signed (pos 1) (pos 64)) (codes "8" ∷ []) false ∷ help_built ∷ []

abbrev range_rules : List Rule
range_rules = option_built (codes "from") (Unsigned 0 1099511627775) [] true
    ∷ option_built (codes "to") (Unsigned 0 1099511627775) [] true
    ∷ option_built (codes "workers") (Signed (pos 0) (pos 16)) (codes "4" ∷ []) false ∷ help_built ∷ []

abbrev sample_rules : List Rule
sample_rules = option_built (codes "seed") (Signed (pos 0) (pos 4294967295)) [] true
    ∷ option_built (codes "columns") (Signed (pos 1) (pos 256)) [] true
    ∷ option_built (codes "rows") (Signed (pos 1) (pos 256)) [] true ∷ help_built ∷ []

encode_fine : (s : Shape) → s.name ≡ codes "encode" → s.rules ≡ encode_rules → IsFine s
encode_fine s named rules = record { fine = go }
  where
    segments : AllByRecursion (Keeps (codes "segments") (Signed (pos 1) (pos 64))) s.rules
    segments = subst (AllByRecursion (Keeps (codes "segments") (Signed (pos 1) (pos 64)))) (sym rules) (own_keeps _ _ _ _, (help_keeps _ _, tt))

    go : (words : List Text) (command : Command) → level_fault s [] nothing_held words false [] ≡ []
        → Asks (Some (rows_at s words)) command → IsInRange command
    go words (Encode n) none asks =
        number_fine (codes "segments") 1 64 8 (omega arith) s segments words none _ asks.rows asks.is n asks.reads
    go words (Decode n) none asks = other_command _ s words _ _ named asks.is refl
    go words Migrate none asks = other_command _ s words _ _ named asks.1 refl
    go words Index none asks = other_command _ s words _ _ named asks.1 refl
    go words (Range a b w) none asks = other_command _ s words _ _ named asks.is refl
    go words (Chunk k z n) none asks = other_command _ s words _ _ named asks.is refl
    go words (Sample k c r) none asks = other_command _ s words _ _ named asks.is refl

decode_fine : (s : Shape) → s.name ≡ codes "decode" → s.rules ≡ decode_rules → IsFine s
decode_fine s named rules = record { fine = go }
  where
    workers : AllByRecursion (Keeps (codes "workers") (Signed (pos 0) (pos 16))) s.rules
    workers = subst (AllByRecursion (Keeps (codes "workers") (Signed (pos 0) (pos 16)))) (sym rules) (own_keeps _ _ _ _, (help_keeps _ _, tt))

    go : (words : List Text) (command : Command) → level_fault s [] nothing_held words false [] ≡ []
        → Asks (Some (rows_at s words)) command → IsInRange command
    go words (Decode n) none asks =
        (number_fine (codes "workers") 0 16 8 (omega arith) s workers words none _ asks.rows asks.is n asks.reads).1
    go words (Encode n) none asks = other_command _ s words _ _ named asks.is refl
    go words Migrate none asks = other_command _ s words _ _ named asks.1 refl
    go words Index none asks = other_command _ s words _ _ named asks.1 refl
    go words (Range a b w) none asks = other_command _ s words _ _ named asks.is refl
    go words (Chunk k z n) none asks = other_command _ s words _ _ named asks.is refl
    go words (Sample k c r) none asks = other_command _ s words _ _ named asks.is refl

sample_fine : (s : Shape) → s.name ≡ codes "sample" → s.rules ≡ sample_rules → IsFine s
sample_fine s named rules = record { fine = go }
  where
    seeds : AllByRecursion (Keeps (codes "seed") (Signed (pos 0) (pos 4294967295))) s.rules
    seeds = subst (AllByRecursion (Keeps (codes "seed") (Signed (pos 0) (pos 4294967295)))) (sym rules)
        (own_keeps _ _ _ _, (other_keeps _ _ _ _ _ _ refl, (other_keeps _ _ _ _ _ _ refl, (help_keeps _ _, tt))))

    columns : AllByRecursion (Keeps (codes "columns") (Signed (pos 1) (pos 256))) s.rules
    columns = subst (AllByRecursion (Keeps (codes "columns") (Signed (pos 1) (pos 256)))) (sym rules)
        (other_keeps _ _ _ _ _ _ refl, (own_keeps _ _ _ _, (other_keeps _ _ _ _ _ _ refl, (help_keeps _ _, tt))))

    rows : AllByRecursion (Keeps (codes "rows") (Signed (pos 1) (pos 256))) s.rules
    rows = subst (AllByRecursion (Keeps (codes "rows") (Signed (pos 1) (pos 256)))) (sym rules)
        (other_keeps _ _ _ _ _ _ refl, (other_keeps _ _ _ _ _ _ refl, (own_keeps _ _ _ _, (help_keeps _ _, tt))))

    go : (words : List Text) (command : Command) → level_fault s [] nothing_held words false [] ≡ []
        → Asks (Some (rows_at s words)) command → IsInRange command
    go words (Sample k c r) none asks =
        let seed = number_fine (codes "seed") 0 4294967295 32 (omega arith) s seeds words none _ asks.options asks.is k asks.seed_is in
        let wide = number_fine (codes "columns") 1 256 16 (omega arith) s columns words none _ asks.options asks.is c asks.columns_is in
        let high = number_fine (codes "rows") 1 256 16 (omega arith) s rows words none _ asks.options asks.is r asks.rows_is in
        (omega arith, wide.0, wide.1, high.0, high.1)
    go words (Encode n) none asks = other_command _ s words _ _ named asks.is refl
    go words (Decode n) none asks = other_command _ s words _ _ named asks.is refl
    go words Migrate none asks = other_command _ s words _ _ named asks.1 refl
    go words Index none asks = other_command _ s words _ _ named asks.1 refl
    go words (Range a b w) none asks = other_command _ s words _ _ named asks.is refl
    go words (Chunk k z n) none asks = other_command _ s words _ _ named asks.is refl

chunk_fine : (s : Shape) → s.name ≡ codes "chunk" → s.rules ≡ chunk_rules → IsFine s
chunk_fine s named rules = record { fine = go }
  where
    indices : AllByRecursion (Keeps (codes "index") (Signed (pos 0) (pos 4294967295))) s.rules
    indices = subst (AllByRecursion (Keeps (codes "index") (Signed (pos 0) (pos 4294967295)))) (sym rules)
        (own_keeps _ _ _ _, (other_keeps _ _ _ _ _ _ refl, (other_keeps _ _ _ _ _ _ refl, (help_keeps _ _, tt))))

    sizes : AllByRecursion (Keeps (codes "size") (Signed (pos 1) (pos 67108864))) s.rules
    sizes = subst (AllByRecursion (Keeps (codes "size") (Signed (pos 1) (pos 67108864)))) (sym rules)
        (other_keeps _ _ _ _ _ _ refl, (own_keeps _ _ _ _, (other_keeps _ _ _ _ _ _ refl, (help_keeps _ _, tt))))

    segments : AllByRecursion (Keeps (codes "segments") (Signed (pos 1) (pos 64))) s.rules
    segments = subst (AllByRecursion (Keeps (codes "segments") (Signed (pos 1) (pos 64)))) (sym rules)
        (other_keeps _ _ _ _ _ _ refl, (other_keeps _ _ _ _ _ _ refl, (own_keeps _ _ _ _, (help_keeps _ _, tt))))

    go : (words : List Text) (command : Command) → level_fault s [] nothing_held words false [] ≡ []
        → Asks (Some (rows_at s words)) command → IsInRange command
    go words (Chunk k z n) none asks =
        let index = number_fine (codes "index") 0 4294967295 32 (omega arith) s indices words none _ asks.options asks.is k asks.index_is in
        let size = number_fine (codes "size") 1 67108864 32 (omega arith) s sizes words none _ asks.options asks.is z asks.size_is in
        let most = number_fine (codes "segments") 1 64 8 (omega arith) s segments words none _ asks.options asks.is n asks.segments_is in
        (omega arith, size.0, size.1, most.0, most.1)
    go words (Encode n) none asks = other_command _ s words _ _ named asks.is refl
    go words (Decode n) none asks = other_command _ s words _ _ named asks.is refl
    go words Migrate none asks = other_command _ s words _ _ named asks.1 refl
    go words Index none asks = other_command _ s words _ _ named asks.1 refl
    go words (Range a b w) none asks = other_command _ s words _ _ named asks.is refl
    go words (Sample k c r) none asks = other_command _ s words _ _ named asks.is refl

range_fine : (s : Shape) → s.name ≡ codes "range" → s.rules ≡ range_rules → IsFine s
range_fine s named rules = record { fine = go }
  where
    firsts : AllByRecursion (Keeps (codes "from") (Unsigned 0 1099511627775)) s.rules
    firsts = subst (AllByRecursion (Keeps (codes "from") (Unsigned 0 1099511627775))) (sym rules)
        (own_keeps _ _ _ _, (other_keeps _ _ _ _ _ _ refl, (other_keeps _ _ _ _ _ _ refl, (help_keeps _ _, tt))))

    lasts : AllByRecursion (Keeps (codes "to") (Unsigned 0 1099511627775)) s.rules
    lasts = subst (AllByRecursion (Keeps (codes "to") (Unsigned 0 1099511627775))) (sym rules)
        (other_keeps _ _ _ _ _ _ refl, (own_keeps _ _ _ _, (other_keeps _ _ _ _ _ _ refl, (help_keeps _ _, tt))))

    workers : AllByRecursion (Keeps (codes "workers") (Signed (pos 0) (pos 16))) s.rules
    workers = subst (AllByRecursion (Keeps (codes "workers") (Signed (pos 0) (pos 16)))) (sym rules)
        (other_keeps _ _ _ _ _ _ refl, (other_keeps _ _ _ _ _ _ refl, (own_keeps _ _ _ _, (help_keeps _ _, tt))))

    go : (words : List Text) (command : Command) → level_fault s [] nothing_held words false [] ≡ []
        → Asks (Some (rows_at s words)) command → IsInRange command
    go words (Range a b w) none asks =
        let from = place_fine (codes "from") 0 1099511627775 s firsts words none _ asks.options asks.is a asks.from_is in
        let to = place_fine (codes "to") 0 1099511627775 s lasts words none _ asks.options asks.is b asks.to_is in
        let most = number_fine (codes "workers") 0 16 8 (omega arith) s workers words none _ asks.options asks.is w asks.workers_is in
        (from.1, to.1, most.1)
    go words (Encode n) none asks = other_command _ s words _ _ named asks.is refl
    go words (Decode n) none asks = other_command _ s words _ _ named asks.is refl
    go words Migrate none asks = other_command _ s words _ _ named asks.1 refl
    go words Index none asks = other_command _ s words _ _ named asks.1 refl
    go words (Chunk k z n) none asks = other_command _ s words _ _ named asks.is refl
    go words (Sample k c r) none asks = other_command _ s words _ _ named asks.is refl

index_fine : (s : Shape) → s.name ≡ codes "index" → IsFine s
index_fine s named = record { fine = go }
  where
    go : (words : List Text) (command : Command) → level_fault s [] nothing_held words false [] ≡ []
        → Asks (Some (rows_at s words)) command → IsInRange command
    go words Index none asks = tt
    go words (Encode n) none asks = other_command _ s words _ _ named asks.is refl
    go words (Decode n) none asks = other_command _ s words _ _ named asks.is refl
    go words Migrate none asks = other_command _ s words _ _ named asks.1 refl
    go words (Range a b w) none asks = other_command _ s words _ _ named asks.is refl
    go words (Chunk k z n) none asks = other_command _ s words _ _ named asks.is refl
    go words (Sample k c r) none asks = other_command _ s words _ _ named asks.is refl

migrate_fine : (s : Shape) → s.name ≡ codes "migrate" → IsFine s
migrate_fine s named = record { fine = go }
  where
    go : (words : List Text) (command : Command) → level_fault s [] nothing_held words false [] ≡ []
        → Asks (Some (rows_at s words)) command → IsInRange command
    go words Migrate none asks = tt
    go words Index none asks = other_command _ s words _ _ named asks.1 refl
    go words (Range a b w) none asks = other_command _ s words _ _ named asks.is refl
    go words (Encode n) none asks = other_command _ s words _ _ named asks.is refl
    go words (Decode n) none asks = other_command _ s words _ _ named asks.is refl
    go words (Chunk k z n) none asks = other_command _ s words _ _ named asks.is refl
    go words (Sample k c r) none asks = other_command _ s words _ _ named asks.is refl

help_fine : (s : Shape) → s.name ≡ codes "help" → IsFine s
help_fine s named = record { fine = go }
  where
    go : (words : List Text) (command : Command) → level_fault s [] nothing_held words false [] ≡ []
        → Asks (Some (rows_at s words)) command → IsInRange command
    go words (Encode n) none asks = other_command _ s words _ _ named asks.is refl
    go words (Decode n) none asks = other_command _ s words _ _ named asks.is refl
    go words Migrate none asks = other_command _ s words _ _ named asks.1 refl
    go words Index none asks = other_command _ s words _ _ named asks.1 refl
    go words (Range a b w) none asks = other_command _ s words _ _ named asks.is refl
    go words (Chunk k z n) none asks = other_command _ s words _ _ named asks.is refl
    go words (Sample k c r) none asks = other_command _ s words _ _ named asks.is refl

subs_fine : AllByRecursion IsFine (built lepton_app).subs
subs_fine = (encode_fine _ refl refl, (decode_fine _ refl refl, (migrate_fine _ refl, (chunk_fine _ refl refl, (index_fine _ refl, (range_fine _ refl refl, (sample_fine _ refl refl, (help_fine _ refl, tt))))))))

asked_nothing : (command : Command) → Asks None command → IsInRange command
asked_nothing (Encode n) asks = let bad : true ≡ false = ap (λ o. is_some o) (sym asks.is) in absurd cc
asked_nothing (Decode n) asks = let bad : true ≡ false = ap (λ o. is_some o) (sym asks.is) in absurd cc
asked_nothing Migrate asks = let bad : true ≡ false = ap (λ o. is_some o) (sym asks.1) in absurd cc
asked_nothing Index asks = let bad : true ≡ false = ap (λ o. is_some o) (sym asks.1) in absurd cc
asked_nothing (Range a b w) asks = let bad : true ≡ false = ap (λ o. is_some o) (sym asks.is) in absurd cc
asked_nothing (Chunk k z n) asks = let bad : true ≡ false = ap (λ o. is_some o) (sym asks.is) in absurd cc
asked_nothing (Sample k c r) asks = let bad : true ≡ false = ap (λ o. is_some o) (sym asks.is) in absurd cc

module _ (subs : List Shape) (all : AllByRecursion IsFine subs) (command : Command) where
  found_in_range : (p : Shape → Bool) (words : List Text) (o : Option Shape) → find p subs ≡ o
      → option_map_or (λ s. level_fault s [] nothing_held words false []) o [] ≡ []
      → Asks (option_map (λ s. rows_at s words) o) command → IsInRange command
  found_in_range p words None found none asks = asked_nothing command asks
  found_in_range p words (Some s) found none asks = (found_holds IsFine p subs s all found).fine words command none asks

  entered_in_range : (stop : Option (Text × List Text))
      → option_map_or (λ p. option_map_or (λ s. level_fault s [] nothing_held p.1 false [])
      (find (λ s. answers_to p.0 (label_of s)) subs) []) stop [] ≡ []
      → Asks (option_and_then (λ p. option_map (λ s. rows_at s p.1) (find (λ s. answers_to p.0 (label_of s)) subs)) stop) command
      → IsInRange command
  entered_in_range None none asks = asked_nothing command asks
  entered_in_range (Some p) none asks = found_in_range _ p.1 _ refl none asks

-- what fails after a subcommand
abbrev after_fault : Shape → Held → Bool → Kinds
after_fault s end has_subcommand = or_else (settle_fault s.rules s.args_override_self end)
    (or_else (defaults_fault (settled s.rules end).rows s.rules) (check_fault s (finished s.rules end) has_subcommand))

subcommand_fine : (app : App) (words : List Text) → built_fault app nothing_held words ≡ []
    → entered_fault app (stop_after app.top.rules (names_of app) words) ≡ []
subcommand_fine app words none =
    let stop = stop_after app.top.rules (names_of app) words in
    let rest = no_else (walk_fault app.top (names_of app) (walk_from nothing_held) words)
    (or_else (entered_fault app stop) (after_fault app.top (walk app.top.rules (names_of app) nothing_held words).held (is_some (entered app stop)))) none in
    (no_else (entered_fault app stop) _ rest.1).0

pub means_in_range : (words : List Text) (command : Command) → Means words command → IsInRange command
unfolding faults given
means_in_range words command means =
    entered_in_range (built lepton_app).subs subs_fine command
    (stop_after (built lepton_app).top.rules (names_of (built lepton_app)) (argument_words lepton_app words))
    (subcommand_fine (built lepton_app) (argument_words lepton_app words) means.taken) means.asks
