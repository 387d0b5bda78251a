-- Texts one after another: what was written, and what is still to come.
use Rattle.std.proofs.Common.{◌≡◌, Bool, List, [], ◌++◌, Result, Ok, Err, refl, sym, ap, ◌∙◌, append_assoc, append-nil}
use Rattle.scan_spec.specs.BlockBits.{Text, prefixed, then_text}
use Rattle.scan_spec.specs.PlainWriting.{HasPutPrefix, IsWritten}
use Rattle.scan_spec.specs.declared.plain.PlainError.{PlainError}
use Rattle.scan_spec.specs.declared.plain.PlainError.TheVariants.{Stop, NoMemory}

abbrev pub Done : Type 0
Done = Result (Prim.Unit {0}) PlainError

pub after_nothing : (text : Text) → text ≡ prefixed [] text
after_nothing (Ok bits) = refl
after_nothing (Err stop) = refl

pub after_twice : (a b : List Bool) (text : Text) → prefixed a (prefixed b text) ≡ prefixed (a ++ b) text
after_twice a b (Ok bits) = ap Ok (sym (append_assoc a b bits))
after_twice a b (Err stop) = refl

pub goes_start : (whole : Text) (old : List Bool) → HasPutPrefix whole old old whole
goes_start whole old = record { prefix = []; put = sym (append-nil old); parts = after_nothing whole }

-- one text more
pub goes_more : (whole : Text) (old now new : List Bool) (text rest : Text) (done : Prim.Unit {0}) → HasPutPrefix whole old now (then_text text rest) → IsWritten (Ok done) now new text → HasPutPrefix whole old new rest
goes_more whole old now new text rest done at wrote = record {
  prefix = at.prefix ++ wrote.0;
  put = wrote.2 ∙ ap (λ l. l ++ wrote.0) at.put ∙ append_assoc old at.prefix wrote.0;
  parts = at.parts ∙ ap (λ t. prefixed at.prefix (then_text t rest)) wrote.1 ∙ after_twice at.prefix wrote.0 rest;
}

-- a text that ends too soon ends the whole
pub goes_stop : (whole : Text) (old now new : List Bool) (text rest : Text) (error : PlainError) → HasPutPrefix whole old now (then_text text rest) → IsWritten (Err error) now new text → IsWritten (Err error) old new whole
goes_stop whole old now new text rest (Stop stop) at wrote = at.parts ∙ ap (λ t. prefixed at.prefix (then_text t rest)) wrote
goes_stop whole old now new text rest NoMemory at wrote = tt

-- nothing is left
pub goes_end : (whole : Text) (old now : List Bool) (done : Prim.Unit {0}) → HasPutPrefix whole old now (Ok []) → IsWritten (Ok done) old now whole
goes_end whole old now done at = (at.prefix, at.parts ∙ ap Ok (append-nil at.prefix), at.put)

-- the last text
pub goes_last : (whole : Text) (old now new : List Bool) (text : Text) (result : Done) → HasPutPrefix whole old now text → IsWritten result now new text → IsWritten result old new whole
goes_last whole old now new text (Ok done) at wrote =
    (at.prefix ++ wrote.0, at.parts ∙ ap (prefixed at.prefix) wrote.1, wrote.2 ∙ ap (λ l. l ++ wrote.0) at.put ∙ append_assoc old at.prefix wrote.0)
goes_last whole old now new text (Err (Stop stop)) at wrote = at.parts ∙ ap (prefixed at.prefix) wrote
goes_last whole old now new text (Err NoMemory) at wrote = tt
