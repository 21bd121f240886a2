use Rattle.std.proofs.Common.{◌≡◌, refl}
use Rattle.sql_print.specs.StatementSpelling.{spelling}
use Rattle.sql_tree.specs.StatementView.{view}
use Rattle.test_sql.proofs.ReadBack.{only_memory, read_again, same_statement}
use Rattle.test_sql.proofs.read_back.Goals as goal

pub returns-clause-ok : goal.returns-clause-ok
returns-clause-ok c =
    let e : c.as_slice.result.now ≡ spelling (view c.args.statement.now) = rw (c.as_slice.ensures, c.in_ok-text.ensures) refl in
    same_statement _ c.parse.result (read_again _ _ c.parse.result e c.requires c.prints_are_read.ensures c.parse.ensures.read)

pub returns-clause-err : goal.returns-clause-err
returns-clause-err c =
    let e : c.as_slice.result.now ≡ spelling (view c.args.statement.now) = rw (c.as_slice.ensures, c.in_ok-text.ensures) refl in
    only_memory _ c.parse.result (read_again _ _ c.parse.result e c.requires c.prints_are_read.ensures c.parse.ensures.read)
