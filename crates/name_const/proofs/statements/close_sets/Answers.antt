use Rattle.std.proofs.Common.{◌∙◌, List, ap}
use Rattle.sql_tree.specs.StatementView.{view_set}
use Rattle.sql_tree.specs.StatementView.{view_sets}
use Rattle.sql_tree.specs.declared.statements.ColumnSet.{ColumnSet}
use Rattle.name_const_names.specs.name_const_length.Closed.{closed_set, closed_sets}
use Rattle.name_const.proofs.Listing.{all-made}
use Rattle.name_const.proofs.statements.close_sets.Goals as goal

pub returns : goal.returns
returns c =
    let locals = c.args.locals.now in
    let all = c.as_slice-set-items.result.now in
    all-made view_set (closed_set locals) view_set c.loop-set.copy all c.loop-set.set-index c.loop-set-test.false c.loop-set.invariant
    ∙ ap (λ (items : List (ColumnSet)). closed_sets locals (view_sets items)) c.as_slice-set-items.ensures
