use Rattle.std.proofs.Common.{rules}
use Rattle.key_order.proofs.Answered.{answer_at_ends}
use Rattle.key_order.proofs.ends.ends_of_table.Goals as goal

pub returns : goal.returns
returns c =
    answer_at_ends c.args.outside.now c.args.wanted.now c.args.name.now c.args.tables.now c.in-Some.at c.in-Some-definition.definition.now c.ends.result
    c.tables_are_kept.ensures (search rules) (search rules) c.ends.ensures
