-- Texts one after another: what was appended, and what is still to come.
use Rattle.std.proofs.Common.{[], ◌++◌, Result, Ok, Err, sym, ap, ◌∙◌, append-nil}
use Rattle.scan_spec.specs.BlockBits.{Text, prefixed, then_text}
use Rattle.scan_spec.specs.declared.stop.WriteStop.{WriteStop}
use Rattle.scan_spec.proofs.Texts.{after_nothing, after_twice}
use Rattle.scan_write.specs.Outputs.{OutputState, appended}
use Rattle.scan_write.specs.Appending.{IsAppended, IsStopped, IsWritten, HasAppended}
use Rattle.scan_write.proofs.OutputLemmas.{appended_nothing, appended_twice}

-- before the first bit
pub texts_start : (whole : Text) (old : OutputState) → HasAppended whole old old whole
texts_start whole old = record { prefix = []; put = sym (appended_nothing old); parts = after_nothing whole }

-- one text more
pub texts_more : (whole : Text) (old now new : OutputState) (text rest : Text) → HasAppended whole old now (then_text text rest)
    → IsAppended now new text → HasAppended whole old new rest
texts_more whole old now new text rest at wrote = record {
  prefix = at.prefix ++ wrote.0;
  put = wrote.2 ∙ ap (λ (o : OutputState). appended o wrote.0) at.put ∙ appended_twice old at.prefix wrote.0;
  parts = at.parts ∙ ap (λ t. prefixed at.prefix (then_text t rest)) wrote.1 ∙ after_twice at.prefix wrote.0 rest;
}

-- a text with a stop stops the whole
pub texts_stop : (whole : Text) (old now new : OutputState) (text rest : Text) (stop : WriteStop) → HasAppended whole old now (then_text text rest)
    → IsStopped stop now new text → IsStopped stop old new whole
texts_stop whole old now new text rest stop at wrote =
    (at.prefix ++ wrote.0, at.parts ∙ ap (λ t. prefixed at.prefix (then_text t rest)) wrote.1, wrote.2 ∙ ap (λ (o : OutputState). appended o wrote.0) at.put ∙ appended_twice old at.prefix wrote.0)

-- nothing is left
pub texts_end : (whole : Text) (old now : OutputState) → HasAppended whole old now (Ok []) → IsAppended old now whole
texts_end whole old now at = (at.prefix, at.parts ∙ ap Ok (append-nil at.prefix), at.put)

-- the last text
pub texts_whole : (whole : Text) (old now new : OutputState) (text : Text) → HasAppended whole old now text → IsAppended now new text → IsAppended old new whole
texts_whole whole old now new text at wrote =
    (at.prefix ++ wrote.0, at.parts ∙ ap (prefixed at.prefix) wrote.1, wrote.2 ∙ ap (λ (o : OutputState). appended o wrote.0) at.put ∙ appended_twice old at.prefix wrote.0)

-- the last text has a stop
pub texts_last_stop : (whole : Text) (old now new : OutputState) (text : Text) (stop : WriteStop) → HasAppended whole old now text → IsStopped stop now new text → IsStopped stop old new whole
texts_last_stop whole old now new text stop at wrote =
    (at.prefix ++ wrote.0, at.parts ∙ ap (prefixed at.prefix) wrote.1, wrote.2 ∙ ap (λ (o : OutputState). appended o wrote.0) at.put ∙ appended_twice old at.prefix wrote.0)

-- either of them
pub texts_last : {A : Type 0} (whole : Text) (old now new : OutputState) (text : Text) (result : Result A WriteStop) → HasAppended whole old now text
    → IsWritten result now new text → IsWritten result old new whole
texts_last whole old now new text (Ok done) at wrote = texts_whole whole old now new text at wrote
texts_last whole old now new text (Err stop) at wrote = texts_last_stop whole old now new text stop at wrote
