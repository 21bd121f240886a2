use Rattle.std.proofs.Common.{◌≡◌, ◌+◌, List, cond, drop, map, subst}
use Rattle.sql_tree.specs.declared.statements.ColumnSet.{ColumnSet}
use Rattle.sql_tree.specs.StatementView.{view_set, view_sets}
use Rattle.sql_print.specs.Names.{commas, more_of}
use Rattle.sql_print.specs.StatementSpelling.{set_text}
use Rattle.name_const_length.specs.Closed.{closed_set, closed_sets}
use Rattle.name_const_length.specs.Growing.{grown}
use Rattle.name_const_length.specs.Items.{comma}
use Rattle.name_const_length.proofs.Growing.{next, drop-one}
use Rattle.name_const_length.proofs.statements.add_sets.Goals as goal

pub loop-set-preserved : goal.loop-set-preserved
loop-set-preserved c =
    let all = c.as_slice-set-items.result.now in
    let k = c.loop-set.set-index in
    let locals = c.args.locals.now in
    let whole = grown c.args.total.now (commas (map set_text (closed_sets locals (view_sets c.args.sets.now)))) in
    next comma c.loop-set.first c.loop-set.total c.add_comma.new.total c.add_set.new.total whole
    (set_text (closed_set locals (view_set c.set-item.result))) (more_of (map set_text (closed_sets locals (view_sets (drop (k + 1) all))))) c.add_comma.ensures c.add_set.ensures
    (subst (λ (items : List (ColumnSet)). grown c.loop-set.total (cond c.loop-set.first (commas (map set_text (closed_sets locals (view_sets items)))) (more_of (map set_text (closed_sets locals (view_sets items))))) ≡ whole)
    (drop-one all k c.set-item.result c.loop-set-test.true c.set-item.is) c.loop-set.invariant)
