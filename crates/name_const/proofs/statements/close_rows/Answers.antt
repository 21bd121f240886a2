use Rattle.std.proofs.Common.{◌∙◌, List, ap}
use Rattle.sql_tree.specs.View.{view_trees}
use Rattle.sql_tree.specs.StatementView.{view_rows}
use Rattle.sql_tree.specs.declared.expressions.Expr.{Expr}
use Rattle.name_const_names.specs.name_const_length.Closed.{closed_trees, closed_rows}
use Rattle.name_const.proofs.Listing.{all-made}
use Rattle.name_const.proofs.statements.close_rows.Goals as goal

pub returns : goal.returns
returns c =
    let locals = c.args.locals.now in
    let all = c.as_slice-row-items.result.now in
    all-made view_trees (closed_trees locals) view_trees c.loop-row.copy all c.loop-row.row-index c.loop-row-test.false c.loop-row.invariant
    ∙ ap (λ (items : List (List Expr)). closed_rows locals (view_rows items)) c.as_slice-row-items.ensures
