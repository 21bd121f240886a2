use Rattle.sql_tree.specs.StatementView.{view}
use Rattle.stmt_apply.proofs.Staying.{stays_run}
use Rattle.replica_node.proofs.selecting.run.Goals as goal

pub returns-in_err-told-in-Ok-clause-stays : goal.returns-in_err-told-in-Ok-clause-stays
returns-in_err-told-in-Ok-clause-stays c =
    stays_run c.args.draw.now (view c.args.statement.now) c.run_stmt-result.result c.args.work.now c.run_stmt-result.new.work c.in_ok-session.session.context c.run_stmt-result.new.context _ c.run_stmt-result.new.meter
    c.together.ensures c.together-2.ensures (c.run_stmt-result.ensures.runs c.requires.plain) c.run_stmt-result.ensures.err

pub returns-clause-stays : goal.returns-clause-stays
returns-clause-stays c =
    stays_run c.args.draw.now (view c.args.statement.now) c.run_stmt-result.result c.args.work.now c.run_stmt-result.new.work c.in_ok-session.session.context c.run_stmt-result.new.context _ c.run_stmt-result.new.meter
    c.together.ensures c.together-2.ensures (c.run_stmt-result.ensures.runs c.requires.plain) c.run_stmt-result.ensures.err
