use Rattle.std.proofs.Common.{◌≡◌, ◌+◌, List, cond, drop, map, subst}
use Rattle.sql_tree.specs.declared.expressions.Expr.{Expr}
use Rattle.sql_tree.specs.View.{view_trees}
use Rattle.sql_tree.specs.StatementView.{view_rows}
use Rattle.sql_print.specs.Names.{commas, more_of}
use Rattle.sql_print.specs.StatementSpelling.{row_text}
use Rattle.name_const_length.specs.Closed.{closed_trees, closed_rows}
use Rattle.name_const_length.specs.Growing.{grown}
use Rattle.name_const_length.specs.Items.{comma}
use Rattle.name_const_length.proofs.Growing.{next, drop-one}
use Rattle.name_const_length.proofs.statements.add_rows.Goals as goal

pub loop-row-preserved : goal.loop-row-preserved
loop-row-preserved c =
    let all = c.as_slice-row-items.result.now in
    let k = c.loop-row.row-index in
    let locals = c.args.locals.now in
    let whole = grown c.args.total.now (commas (map row_text (closed_rows locals (view_rows c.args.rows.now)))) in
    next comma c.loop-row.first c.loop-row.total c.add_comma.new.total c.add_row.new.total whole
    (row_text (closed_trees locals (view_trees c.row-item.result))) (more_of (map row_text (closed_rows locals (view_rows (drop (k + 1) all))))) c.add_comma.ensures c.add_row.ensures
    (subst (λ (items : List (List Expr)). grown c.loop-row.total (cond c.loop-row.first (commas (map row_text (closed_rows locals (view_rows items)))) (more_of (map row_text (closed_rows locals (view_rows items))))) ≡ whole)
    (drop-one all k c.row-item.result c.loop-row-test.true c.row-item.is) c.loop-row.invariant)
