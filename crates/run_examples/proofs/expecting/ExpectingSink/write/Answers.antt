use Rattle.std.proofs.Common.{rules, ◌≡◌, ◌+◌, ◌≤◌, ◌++◌, List, ℕ, length, take, subst, sym}
use Rattle.run_examples.specs.Expected.{Expected, TakesRest}
use Rattle.run_examples.proofs.WrittenPieces.{appended, fits, left}
use Rattle.run_examples.proofs.expecting.ExpectingSink.write.Goals as goal

pub invariant_of-self : goal.invariant_of-self
invariant_of-self c =
    let bytes : List ℕ = c.args.bytes.now in
    let next = c.requires.next in
    let few : c.min-taken.result ≤ length bytes = search rules in
    let here = subst (λ (s : Expected). TakesRest s (bytes ++ next.0)) (sym c.self.view_is) next.1 in
    fits c.self.inside.text.now bytes next.0 c.self.inside.written c.min-taken.result here few
    c.self.invariant

pub returns-clause-appended : goal.returns-clause-appended
returns-clause-appended c =
    let bytes : List ℕ = c.args.bytes.now in
    let next = c.requires.next in
    let few : c.min-taken.result ≤ length bytes = search rules in
    let here = subst (λ (s : Expected). TakesRest s (bytes ++ next.0)) (sym c.self.view_is) next.1 in
    subst (λ (s : Expected). take (c.self.inside.written + c.min-taken.result) c.self.inside.text.now
    ≡ take s.written s.text ++ take c.min-taken.result bytes) c.self.view_is
    (appended c.self.inside.text.now bytes next.0 c.self.inside.written c.min-taken.result here few)

pub returns-clause-onward : goal.returns-clause-onward
returns-clause-onward c = λ rest takes.
    let bytes : List ℕ = c.args.bytes.now in
    let few : c.min-taken.result ≤ length bytes = search rules in
    left c.self.inside.text.now bytes rest c.self.inside.written c.min-taken.result few
    (subst (λ (s : Expected). TakesRest s (take c.min-taken.result bytes ++ rest)) (sym c.self.view_is)
    takes)
