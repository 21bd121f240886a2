use Rattle.std.proofs.Common.{subst}
use Rattle.std.specs.Prelude.{IsSome}
use Rattle.val_types.specs.declared.change.Change.{Change}
use Rattle.val_types.specs.Changes.{table_of}
use Rattle.table_rules.specs.Stored.{table_named}
use Rattle.row_apply.proofs.changing.make.Goals as goal

pub insert-requires : goal.insert-requires
insert-requires c = subst (λ (change : Change). IsSome (table_named (table_of change) c.args.work.now.tables)) c.in-Insert.is c.requires
