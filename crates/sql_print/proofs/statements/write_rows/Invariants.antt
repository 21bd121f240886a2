use Rattle.std.proofs.Common.{◌≡◌, ◌++◌, drop, cond, map}
use Rattle.sql_tree.specs.StatementView.{view_rows}
use Rattle.sql_print.specs.Names.{commas, more_of}
use Rattle.sql_print.specs.StatementSpelling.{row_text}
use Rattle.sql_print.proofs.statements.write_rows.Given as goal

abbrev pub invariant-loop-row : goal.invariant-loop-row
invariant-loop-row l =
    let rest = map row_text (view_rows (drop l.row-index l.row-items)) in
    l.out ++ cond l.first (commas rest) (more_of rest) ≡ l.fn.out ++ commas (map row_text (view_rows l.rows))
