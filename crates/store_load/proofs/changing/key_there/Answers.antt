use Rattle.std.proofs.Common.{rules}
use Rattle.store_load.proofs.RowsMade.{nowhere, nowhere_without}
use Rattle.store_load.proofs.changing.key_there.Goals as goal

pub returns-in_default : goal.returns-in_default
returns-in_default c = nowhere_without c.args.name.now c.args.row.now c.args.work.now.tables (search rules)

pub returns-else-is_there : goal.returns-else-is_there
returns-else-is_there c = nowhere c.args.name.now c.args.row.now c.in_ok-key.key c.in-Some.definition.now c.args.work.now.tables c.together.ensures.kept (search rules) c.in_ok-key.ensures (search rules)
