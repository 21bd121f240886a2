use Rattle.std.proofs.Common.{sym, subst}
use Rattle.std.proofs.lemmas.Result.{err_from_is_err_and}
use Rattle.sql_tree.specs.StatementView.{view}
use Rattle.sql_tree.specs.declared.statements.Stmt.{Stmt}
use Rattle.sql_syntax.specs.Texts.{reads}
use Rattle.sql_parse.proofs.parsing.parse_boxed.Goals as goal

pub returns-in_err-parse-clause-refused : goal.returns-in_err-parse-clause-refused
returns-in_err-parse-clause-refused c = λ at refused.
    let p = err_from_is_err_and c.from_residual.result c.from_residual.ensures.1 in
    rw (p.1, p.2) (c.in_err-parse.ensures.refused at refused)

pub returns-clause-statement : goal.returns-clause-statement
returns-clause-statement c = subst (λ (s : Stmt). reads c.args.text.now (view s)) (sym c.in_ok-statement.ensures) c.in_ok-parse.ensures.statement
