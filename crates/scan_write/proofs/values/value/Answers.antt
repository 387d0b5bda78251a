use Rattle.std.proofs.Common.{[], ◌++◌, List, Bool, Ok, sym, ap, ◌∙◌}
use Rattle.std.proofs.lemmas.Int.{to_z-of_z}
use Rattle.std.specs.Int.{w32}
use Rattle.bit_list.specs.Bits.{low_bits}
use Rattle.scan_spec.specs.ValueBits.{mag}
use Rattle.scan_spec.specs.BlockBits.{Text, then_text}
use Rattle.scan_spec.proofs.Words.{word_none, word_some, value_parts}
use Rattle.scan_write.specs.Outputs.{output_with, appended}
use Rattle.scan_write.proofs.OutputLemmas.{appended_nothing}
use Rattle.scan_write.proofs.values.value.Goals as goal

pub returns-in_default-clause-is : goal.returns-in_default-clause-is
returns-in_default-clause-is c = (
  [],
  value_parts c.args.codes.now c.args.symbol c.args.value ∙ ap (λ (t : Text). then_text t (Ok (mag c.args.value))) (word_none c.args.codes.now c.args.symbol c.in_default.ensures.none),
  sym (appended_nothing (output_with c.args.output.now c.args.out.now)),
)

pub returns-clause-is : goal.returns-clause-is
returns-clause-is c =
    let word = low_bits c.in-Some.count c.in-Some.code in
    let bits = sym c.value_bits.ensures.bits ∙ ap mag (to_z-of_z w32 c.args.value c.ranges.value) in (
      word ++ mag c.args.value,
      value_parts c.args.codes.now c.args.symbol c.args.value
          ∙ ap (λ (t : Text). then_text t (Ok (mag c.args.value))) (word_some c.args.codes.now c.args.symbol word c.in-Some.ensures.some),
      c.put_both.ensures.is ∙ ap (λ (l : List Bool). appended (output_with c.args.output.now c.args.out.now) (word ++ l)) bits,
    )
