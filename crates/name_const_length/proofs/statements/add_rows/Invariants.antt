use Rattle.std.proofs.Common.{◌≡◌, drop, cond, map}
use Rattle.sql_tree.specs.StatementView.{view_rows}
use Rattle.sql_print.specs.Names.{commas, more_of}
use Rattle.sql_print.specs.StatementSpelling.{row_text}
use Rattle.name_const_length.specs.Closed.{closed_rows}
use Rattle.name_const_length.specs.Growing.{grown}
use Rattle.name_const_length.proofs.statements.add_rows.Given as goal

abbrev pub invariant-loop-row : goal.invariant-loop-row
invariant-loop-row l =
    let rest = map row_text (closed_rows l.locals (view_rows (drop l.row-index l.row-items))) in
    grown l.total (cond l.first (commas rest) (more_of rest)) ≡ grown l.fn.total (commas (map row_text (closed_rows l.locals (view_rows l.rows))))
