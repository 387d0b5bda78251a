use Rattle.std.proofs.Common.{◌≡◌, ◌*◌, length, take, true, arith, ap, sym, ◌∙◌}
use Rattle.std.proofs.lemmas.List.{length-map}
use Rattle.jpeg_marker.specs.Frames.{are_components}
use Rattle.jpeg_marker.specs.Plans.{part_of}
use Rattle.jpeg_marker.specs.declared.component.Component.{Component}
use Rattle.jpeg_marker.proofs.Choices.{rising_is, rising_test, rising_more, rising_few, chosen_are, chosen_within}
use Rattle.jpeg_marker.proofs.PlanGrids.{few_in_mcu}
use Rattle.jpeg_marker.proofs.plan.Plan.new.Goals as goal

pub across-across-requires-clause-within : goal.across-across-requires-clause-within
across-across-requires-clause-within c = rw c.requires.chosen (chosen_within c.args.frame.now.parts c.args.indexes.now c.requires.choice.rising c.requires.frame.components)

pub down-down-requires-clause-within : goal.down-down-requires-clause-within
down-down-requires-clause-within c = rw c.requires.chosen (chosen_within c.args.frame.now.parts c.args.indexes.now c.requires.choice.rising c.requires.frame.components)

pub blocks_in_mcu-requires-clause-fit : goal.blocks_in_mcu-requires-clause-fit
blocks_in_mcu-requires-clause-fit c = few_in_mcu c.args.parts.now (rw c.requires.chosen (chosen_are c.args.frame.now.parts c.args.indexes.now c.requires.choice.some c.requires.choice.rising c.requires.frame.components))

pub coded_after-after-requires : goal.coded_after-after-requires
coded_after-after-requires c =
    rising_test 0 4 c.args.indexes.now (rising_more 0 (length c.args.frame.now.parts) 4 c.args.indexes.now c.requires.frame.few (rising_is 0 (length c.args.frame.now.parts) c.args.indexes.now c.requires.choice.rising))

pub invariant_of-result : goal.invariant_of-result
invariant_of-result c =
    let parts = c.args.parts.now in
    let some = c.requires.choice.some in
    let rising = rising_is 0 (length c.args.frame.now.parts) c.args.indexes.now c.requires.choice.rising in
    let are : are_components parts ≡ true = rw c.requires.chosen (chosen_are c.args.frame.now.parts c.args.indexes.now c.requires.choice.some c.requires.choice.rising c.requires.frame.components) in
    let count : length (take (length parts) c.args.components) ≡ length c.args.indexes.now = sym (length-map (take (length parts) c.args.components) (λ (d : Component). d.index)) ∙ ap length c.requires.numbered in
    let long : length (take (length parts) c.args.components) ≡ length parts = sym (length-map (take (length parts) c.args.components) part_of) ∙ ap length c.requires.theirs in
    let few = rising_few 0 (length c.args.frame.now.parts) c.args.indexes.now (omega arith) rising in
    let four = c.requires.frame.few in
    record {
      plan = record {
        some = omega arith;
        few = omega arith;
        indexes = rw c.requires.numbered (rising_test 0 4 c.args.indexes.now (rising_more 0 (length c.args.frame.now.parts) 4 c.args.indexes.now c.requires.frame.few rising));
        components = rw c.requires.theirs are;
        grid = rw c.requires.theirs (ap (λ n. c.across-across.result * c.down-down.result * n) c.blocks_in_mcu.ensures.value);
        blocks = omega arith;
        wide = c.across-across.ensures.some;
        high = c.down-down.ensures.some;
      };
      long = long;
      blank = c.requires.blank;
    }
