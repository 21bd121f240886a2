use Rattle.sql_tree.specs.StatementView.{view}
use Rattle.session_shared.specs.Desk.{place_of}
use Rattle.session_statement.proofs.Bases.{comes_beside_on}
use Rattle.session_statement.proofs.running.run_beside.Goals as goal

pub returns-clause-comes : goal.returns-clause-comes
returns-clause-comes c =
    comes_beside_on c.args.number c.args.draw.now (view c.args.statement.now) c.run_stmt_beside.result c.args.desk.now.work c.run_stmt_beside.new.work c.args.desk.now.lock c.args.desk.now.committed (place_of c.args.desk.now.log)
    c.args.context.now c.run_stmt_beside.new.context c.args.meter.now c.run_stmt_beside.new.meter c.requires.other c.run_stmt_beside.ensures.runs
