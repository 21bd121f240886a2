use Rattle.std.proofs.Common.{ap, ◌∙◌}
use Rattle.std.specs.Option.{option_map}
use Rattle.val_types.specs.declared.value.Value.{Value}
use Rattle.value_ranges.specs.Ranges.{bound_of, is_from}
use Rattle.value_ranges.proofs.Firsts.{first_there, first_missing}
use Rattle.value_ranges.proofs.keys.row_is_from.Goals as goal

pub returns-in-Some : goal.returns-in-Some
returns-in-Some c =
    c.is_from.ensures
    ∙ ap (λ (v : Value). is_from (option_map bound_of c.args.range.low) v) (c.value_at.ensures ∙ first_there c.args.definition.now.primary c.args.row.now c.in-Some.column.now c.in-Some.ensures.value)

pub returns-in-None : goal.returns-in-None
returns-in-None c =
    c.is_from-in-None.ensures ∙ ap (λ (v : Value). is_from (option_map bound_of c.args.range.low) v) (first_missing c.args.definition.now.primary c.args.row.now c.in-None.ensures.value)
