-- A parser of numbers of 64 bits, with a narrower range.
use Rattle.std.proofs.Common.{◌≡◌, subst, Some}
use Rattle.std.specs.Prelude.{ℤ, pos}
use Rattle.clap.specs.Words.{NarrowsTo}
use Rattle.clap.specs.declared.builder.value_parser.ValueParser.{ValueParser}
use Rattle.clap.specs.declared.builder.value_parser.ValueParser.TheVariants.{Unsigned}

pub narrowed : (p r : ValueParser) (low high : ℤ) → p ≡ Unsigned 0 18446744073709551615
    → low ≡ pos 0 → high ≡ pos 1099511627775 → NarrowsTo p (Some low) (Some high) r
    → r ≡ Unsigned 0 1099511627775
narrowed p r low high is first last narrows =
    subst (λ q. NarrowsTo q (Some (pos 0)) (Some (pos 1099511627775)) r) is
    (subst (λ n. NarrowsTo p (Some (pos 0)) (Some n) r) last
    (subst (λ n. NarrowsTo p (Some n) (Some high) r) first narrows))
