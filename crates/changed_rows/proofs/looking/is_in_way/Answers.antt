use Rattle.std.proofs.Common.{sym, ◌∙◌}
use Rattle.changed_rows.proofs.Ways.{way_clear, way_taken}
use Rattle.changed_rows.proofs.looking.is_in_way.Goals as goal

pub returns-clause-clear : goal.returns-clause-clear
returns-clause-clear c = λ e. way_clear c.args.at c.args.definition.now c.args.stage.now c.args.row.now c.row_in_way.result c.requires c.row_in_way.ensures (sym c.is_some.ensures ∙ e)

pub returns-clause-taken : goal.returns-clause-taken
returns-clause-taken c = λ e. way_taken c.args.at c.args.definition.now c.args.stage.now c.args.row.now c.row_in_way.result c.requires c.row_in_way.ensures (sym c.is_some.ensures ∙ e)
