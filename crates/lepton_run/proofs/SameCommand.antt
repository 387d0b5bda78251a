-- Words mean at most one command.
use Rattle.std.proofs.Common.{◌≡◌, ℕ, List, Option, Some, None, get_or, refl, sym, ap, subst, ◌∙◌, arith}
use Rattle.std.specs.Prelude.{codes}
use Rattle.command_words.specs.LeptonApp.{given}
use Rattle.command_words.specs.Meaning.{IsChunked, IsNumbered, IsRanged, IsSampled, Means, ReadsAs}
use Rattle.command_words.specs.declared.command.Command.{Command}
use Rattle.command_words.specs.declared.command.Command.TheVariants.{Encode, Decode, Migrate, Chunk, Index, Range, Sample}

-- the second parts of equal pairs
second_same : {A B : Type 0} (a c : A) (x y : B)
    → ◌≡◌ {A = Option (A × B)} (Some (a, x)) (Some (c, y)) → x ≡ y
second_same {A} {B} a c x y e =
    let pairs : ◌≡◌ {A = A × B} (a, x) (c, y) = cc in ap (λ (p : A × B). p.1) pairs

-- a text reads as one number
one_number : (bits : ℕ) (text : List ℕ) (m n : ℕ) → ReadsAs bits text m → ReadsAs bits text n
    → m ≡ n
one_number bits text m n p q = p.1 ∙ sym q.1

-- and so does an option that has one
one_reading : (bits : ℕ) (text other : List ℕ) (m n : ℕ) → text ≡ other → ReadsAs bits text m
    → ReadsAs bits other n → m ≡ n
one_reading bits text other m n same p q =
    one_number bits other m n (subst (λ (t : List ℕ). ReadsAs bits t m) same p) q

numbers_same : (words : List (List ℕ)) (name option : List ℕ) (m n : ℕ)
    → IsNumbered (given words) name option m → IsNumbered (given words) name option n → m ≡ n
numbers_same words name option m n p q =
    let rows = second_same _ _ p.rows q.rows (sym p.is ∙ q.is) in
    let one = p.reads.first in
    let two = q.reads.first in
    let first : p.reads.text ≡ q.reads.text = cc in
    one_reading 8 _ _ m n first p.reads.number_is q.reads.number_is

samples_same : (words : List (List ℕ)) (s c r t d u : ℕ) → IsSampled (given words) s c r
    → IsSampled (given words) t d u → Sample s c r ≡ Sample t d u
samples_same words s c r t d u p q =
    let options = second_same _ _ p.options q.options (sym p.is ∙ q.is) in
    let one = p.seed_is.first in
    let two = q.seed_is.first in
    let seeds : p.seed_is.text ≡ q.seed_is.text = cc in
    let three = p.columns_is.first in
    let four = q.columns_is.first in
    let widths : p.columns_is.text ≡ q.columns_is.text = cc in
    let five = p.rows_is.first in
    let six = q.rows_is.first in
    let heights : p.rows_is.text ≡ q.rows_is.text = cc in
    let seed = one_reading 32 _ _ s t seeds p.seed_is.number_is q.seed_is.number_is in
    let columns = one_reading 16 _ _ c d widths p.columns_is.number_is q.columns_is.number_is in
    let rows = one_reading 16 _ _ r u heights p.rows_is.number_is q.rows_is.number_is in
    rw (seed, columns, rows) refl

chunks_same : (words : List (List ℕ)) (i s n j t m : ℕ) → IsChunked (given words) i s n
    → IsChunked (given words) j t m → Chunk i s n ≡ Chunk j t m
chunks_same words i s n j t m p q =
    let options = second_same _ _ p.options q.options (sym p.is ∙ q.is) in
    let one = p.index_is.first in
    let two = q.index_is.first in
    let indices : p.index_is.text ≡ q.index_is.text = cc in
    let three = p.size_is.first in
    let four = q.size_is.first in
    let sizes : p.size_is.text ≡ q.size_is.text = cc in
    let five = p.segments_is.first in
    let six = q.segments_is.first in
    let numbers : p.segments_is.text ≡ q.segments_is.text = cc in
    let index = one_reading 32 _ _ i j indices p.index_is.number_is q.index_is.number_is in
    let size = one_reading 32 _ _ s t sizes p.size_is.number_is q.size_is.number_is in
    let segments = one_reading 8 _ _ n m numbers p.segments_is.number_is q.segments_is.number_is in
    rw (index, size, segments) refl

ranges_same : (words : List (List ℕ)) (i s n j t m : ℕ) → IsRanged (given words) i s n
    → IsRanged (given words) j t m → Range i s n ≡ Range j t m
ranges_same words i s n j t m p q =
    let options = second_same _ _ p.options q.options (sym p.is ∙ q.is) in
    let one = p.from_is.first in
    let two = q.from_is.first in
    let firsts : p.from_is.text ≡ q.from_is.text = cc in
    let three = p.to_is.first in
    let four = q.to_is.first in
    let lasts : p.to_is.text ≡ q.to_is.text = cc in
    let five = p.workers_is.first in
    let six = q.workers_is.first in
    let numbers : p.workers_is.text ≡ q.workers_is.text = cc in
    let from = one_reading 64 _ _ i j firsts p.from_is.number_is q.from_is.number_is in
    let to = one_reading 64 _ _ s t lasts p.to_is.number_is q.to_is.number_is in
    let workers = one_reading 8 _ _ n m numbers p.workers_is.number_is q.workers_is.number_is in
    rw (from, to, workers) refl

-- the name of a command's subcommand
abbrev name_of : Command → List ℕ
name_of (Encode segments) = codes "encode"
name_of (Decode workers) = codes "decode"
name_of Migrate = codes "migrate"
name_of (Chunk index size segments) = codes "chunk"
name_of Index = codes "index"
name_of (Range from to workers) = codes "range"
name_of (Sample seed columns rows) = codes "sample"

-- the first letter of the subcommand that was met
abbrev letter_in : {X : Type 0} → Option (List ℕ × X) → ℕ
letter_in None = 0
letter_in (Some (name, options)) = get_or name 0 0

-- it is that of the command's
letter_is : (words : List (List ℕ)) (command : Command) → Means words command
    → letter_in (given words) ≡ get_or (name_of command) 0 0
letter_is words (Encode segments) means = ap letter_in means.asks.is
letter_is words (Decode workers) means = ap letter_in means.asks.is
letter_is words Migrate means = ap letter_in means.asks.1
letter_is words (Chunk index size segments) means = ap letter_in means.asks.is
letter_is words Index means = ap letter_in means.asks.1
letter_is words (Range from to workers) means = ap letter_in means.asks.is
letter_is words (Sample seed columns rows) means = ap letter_in means.asks.is

-- no two subcommands begin with one letter
apart : (words : List (List ℕ)) (a b : Command) → Means words a → Means words b
    → (get_or (name_of a) 0 0 ≡ get_or (name_of b) 0 0 → ⊥) → a ≡ b
apart words a b p q other =
    absurd (other (sym (letter_is words a p) ∙ letter_is words b q))

pub same_command : (words : List (List ℕ)) (a b : Command) → Means words a → Means words b
    → a ≡ b
same_command words (Encode m) (Encode n) p q = ap Encode (numbers_same words _ _ m n p.asks q.asks)
same_command words (Encode m) (Decode k) p q =
    apart words (Encode m) (Decode k) p q (λ e. omega (arith, e))
same_command words (Encode m) Migrate p q =
    apart words (Encode m) Migrate p q (λ e. omega (arith, e))
same_command words (Encode m) (Chunk j t k) p q =
    apart words (Encode m) (Chunk j t k) p q (λ e. omega (arith, e))
same_command words (Encode m) Index p q =
    apart words (Encode m) Index p q (λ e. omega (arith, e))
same_command words (Encode m) (Range j t k) p q =
    apart words (Encode m) (Range j t k) p q (λ e. omega (arith, e))
same_command words (Encode m) (Sample t d u) p q =
    apart words (Encode m) (Sample t d u) p q (λ e. omega (arith, e))
same_command words (Decode m) (Encode k) p q =
    apart words (Decode m) (Encode k) p q (λ e. omega (arith, e))
same_command words (Decode m) (Decode n) p q = ap Decode (numbers_same words _ _ m n p.asks q.asks)
same_command words (Decode m) Migrate p q =
    apart words (Decode m) Migrate p q (λ e. omega (arith, e))
same_command words (Decode m) (Chunk j t k) p q =
    apart words (Decode m) (Chunk j t k) p q (λ e. omega (arith, e))
same_command words (Decode m) Index p q =
    apart words (Decode m) Index p q (λ e. omega (arith, e))
same_command words (Decode m) (Range j t k) p q =
    apart words (Decode m) (Range j t k) p q (λ e. omega (arith, e))
same_command words (Decode m) (Sample t d u) p q =
    apart words (Decode m) (Sample t d u) p q (λ e. omega (arith, e))
same_command words Migrate (Encode k) p q =
    apart words Migrate (Encode k) p q (λ e. omega (arith, e))
same_command words Migrate (Decode k) p q =
    apart words Migrate (Decode k) p q (λ e. omega (arith, e))
same_command words Migrate Migrate p q = refl
same_command words Migrate (Chunk j t k) p q =
    apart words Migrate (Chunk j t k) p q (λ e. omega (arith, e))
same_command words Migrate Index p q =
    apart words Migrate Index p q (λ e. omega (arith, e))
same_command words Migrate (Range j t k) p q =
    apart words Migrate (Range j t k) p q (λ e. omega (arith, e))
same_command words Migrate (Sample t d u) p q =
    apart words Migrate (Sample t d u) p q (λ e. omega (arith, e))
same_command words (Chunk i s n) (Encode k) p q =
    apart words (Chunk i s n) (Encode k) p q (λ e. omega (arith, e))
same_command words (Chunk i s n) (Decode k) p q =
    apart words (Chunk i s n) (Decode k) p q (λ e. omega (arith, e))
same_command words (Chunk i s n) Migrate p q =
    apart words (Chunk i s n) Migrate p q (λ e. omega (arith, e))
same_command words (Chunk i s n) (Chunk j t m) p q = chunks_same words i s n j t m p.asks q.asks
same_command words (Chunk i s n) Index p q =
    apart words (Chunk i s n) Index p q (λ e. omega (arith, e))
same_command words (Chunk i s n) (Range j t k) p q =
    apart words (Chunk i s n) (Range j t k) p q (λ e. omega (arith, e))
same_command words (Chunk i s n) (Sample t d u) p q =
    apart words (Chunk i s n) (Sample t d u) p q (λ e. omega (arith, e))
same_command words Index (Encode k) p q =
    apart words Index (Encode k) p q (λ e. omega (arith, e))
same_command words Index (Decode k) p q =
    apart words Index (Decode k) p q (λ e. omega (arith, e))
same_command words Index Migrate p q =
    apart words Index Migrate p q (λ e. omega (arith, e))
same_command words Index (Chunk j t k) p q =
    apart words Index (Chunk j t k) p q (λ e. omega (arith, e))
same_command words Index Index p q = refl
same_command words Index (Range j t k) p q =
    apart words Index (Range j t k) p q (λ e. omega (arith, e))
same_command words Index (Sample t d u) p q =
    apart words Index (Sample t d u) p q (λ e. omega (arith, e))
same_command words (Range i s n) (Encode k) p q =
    apart words (Range i s n) (Encode k) p q (λ e. omega (arith, e))
same_command words (Range i s n) (Decode k) p q =
    apart words (Range i s n) (Decode k) p q (λ e. omega (arith, e))
same_command words (Range i s n) Migrate p q =
    apart words (Range i s n) Migrate p q (λ e. omega (arith, e))
same_command words (Range i s n) (Chunk j t k) p q =
    apart words (Range i s n) (Chunk j t k) p q (λ e. omega (arith, e))
same_command words (Range i s n) Index p q =
    apart words (Range i s n) Index p q (λ e. omega (arith, e))
same_command words (Range i s n) (Range j t m) p q = ranges_same words i s n j t m p.asks q.asks
same_command words (Range i s n) (Sample t d u) p q =
    apart words (Range i s n) (Sample t d u) p q (λ e. omega (arith, e))
same_command words (Sample s c r) (Encode k) p q =
    apart words (Sample s c r) (Encode k) p q (λ e. omega (arith, e))
same_command words (Sample s c r) (Decode k) p q =
    apart words (Sample s c r) (Decode k) p q (λ e. omega (arith, e))
same_command words (Sample s c r) Migrate p q =
    apart words (Sample s c r) Migrate p q (λ e. omega (arith, e))
same_command words (Sample s c r) (Chunk j t k) p q =
    apart words (Sample s c r) (Chunk j t k) p q (λ e. omega (arith, e))
same_command words (Sample s c r) Index p q =
    apart words (Sample s c r) Index p q (λ e. omega (arith, e))
same_command words (Sample s c r) (Range j t k) p q =
    apart words (Sample s c r) (Range j t k) p q (λ e. omega (arith, e))
same_command words (Sample s c r) (Sample t d u) p q = samples_same words s c r t d u p.asks q.asks
