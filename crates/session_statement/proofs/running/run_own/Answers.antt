use Rattle.sql_tree.specs.StatementView.{view}
use Rattle.session_shared.specs.Desk.{place_of}
use Rattle.session_statement.proofs.Bases.{comes_own}
use Rattle.session_statement.proofs.running.run_own.Goals as goal

pub returns-clause-comes : goal.returns-clause-comes
returns-clause-comes c =
    comes_own c.args.number c.args.draw.now (view c.args.statement.now) c.run_stmt.result c.args.desk.now.work c.run_stmt.new.work c.args.desk.now.lock c.args.desk.now.committed (place_of c.args.desk.now.log)
    c.args.context.now c.run_stmt.new.context c.args.meter.now c.run_stmt.new.meter c.together.ensures c.requires.own (c.run_stmt.ensures.runs c.requires.plain)
