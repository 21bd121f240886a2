use Rattle.sql_tree.specs.StatementView.{view}
use Rattle.stmt_apply.proofs.Ran.{run_adds}
use Rattle.stmt_apply.proofs.Staying.{stays_run}
use Rattle.stmt_apply.proofs.text.run.Goals as goal
use Rattle.stmt_apply.proofs.text.run.Goals.{in-Ok, in-Err}

pub returns-clause-rest : goal.returns-clause-rest
returns-clause-rest c =
    stays_run c.args.draw.now (view c.args.statement.now) c.run_stmt-result.result c.args.work.now c.run_stmt-result.new.work c.args.context.now c.run_stmt-result.new.context _ c.run_stmt-result.new.meter
    c.together.ensures c.together-2.ensures (c.run_stmt-result.ensures.runs c.requires) c.run_stmt-result.ensures.err

pub returns-clause-adds : goal.returns-clause-adds
returns-clause-adds c =
    elim c.match-result.branch [
      | in-Ok w ↦ rw w.result2-is
          (run_adds c.args.draw.now (view c.args.statement.now) w.in-Ok.field-0 c.args.work.now c.run_stmt-result.new.work c.args.context.now c.run_stmt-result.new.context _ c.run_stmt-result.new.meter
          (w.in-Ok.ensures.runs c.requires))
      | in-Err w ↦ rw w.result2-is tt
    ]
