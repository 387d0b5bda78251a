-- What clap says of the program's words.
use Rattle.std.proofs.Common.{◌≡◌, ◌∙◌, ap, refl, subst, true, List, []}
use Rattle.clap.specs.Words.{App, Kinds, Text, fault_of, is_simple, is_simple_and_free, subcommand_of}
use Rattle.clap.specs.Kinds.{IsAmong}
use Rattle.clap.specs.declared.error.kind.ErrorKind.{ErrorKind}
use Rattle.clap.proofs.OnLiterals.{clap_on_literals}
use Rattle.command_words.specs.LeptonApp.{faults, given, lepton_app}

is_exact : is_simple_and_free lepton_app ≡ true
unfolding clap_on_literals
is_exact = refl

is_plain : is_simple lepton_app ≡ true
unfolding clap_on_literals
is_plain = refl

pub app_is_exact : (app : App) → app ≡ lepton_app → is_simple_and_free app ≡ true
app_is_exact app is = ap is_simple_and_free is ∙ is_exact

pub app_is_plain : (app : App) → app ≡ lepton_app → is_simple app ≡ true
app_is_plain app is = ap is_simple is ∙ is_plain

pub faults_are : (app : App) (words : List Text) → app ≡ lepton_app → fault_of app words ≡ faults words
unfolding faults
faults_are app words is = ap (λ a. fault_of a words) is

pub given_is : (app : App) (words : List Text) → app ≡ lepton_app → subcommand_of app words ≡ given words
unfolding given
given_is app words is = ap (λ a. subcommand_of a words) is

-- where an error has one of the kinds, there are some
pub some_kind : (k : ErrorKind) (kinds : Kinds) → IsAmong k kinds → kinds ≡ [] → ⊥
some_kind k kinds among none = subst (IsAmong k) none among
