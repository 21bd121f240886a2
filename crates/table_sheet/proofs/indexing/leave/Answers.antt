use Rattle.std.proofs.Common.{List, Option, subst}
use Rattle.val_types.specs.declared.value.Value.{Value}
use Rattle.row_index.specs.Lists.{list_at}
use Rattle.table_sheet.specs.Ranked.{shown_by}
use Rattle.table_sheet.specs.Indexed.{IsLeft}
use Rattle.table_sheet.proofs.indexing.leave.Goals as goal

pub returns-in-Some : goal.returns-in-Some
returns-in-Some c = λ which key is.
    subst (λ (o : Option (List Value)). IsLeft key (shown_by c.args.entries.now.items) o (list_at c.args.indexes.now.items which) (list_at c.take_row.new.lists.items which)) c.in-Some.ensures (c.take_row.ensures which key is)
