use Rattle.std.proofs.Common.{refl}
use Rattle.sql_tree.specs.Statement.{rows, rows_of}
use Rattle.sql_parse_changes.proofs.ChangeNodes.{query_kept, rows_kept}
use Rattle.sql_parse_changes.proofs.changes.source.Goals as goal

pub returns-then-is_key : goal.returns-then-is_key
returns-then-is_key c =
    let q = c.in_ok-query.ensures in
    (rows_of q.0, rw (← c.if-is_key.ensures, q.1) refl, rw c.in_ok-select_source.ensures (query_kept q.0 c.in_ok-query.query q.2))

pub returns : goal.returns
returns c =
    let r = c.in_ok-rows.ensures in
    (rows r.0, rw (← c.if-is_key.ensures, c.in_ok-rest.ensures, r.1) refl, rw c.in_ok-row_source.ensures (rows_kept r.0 c.in_ok-rows.rows r.2))
