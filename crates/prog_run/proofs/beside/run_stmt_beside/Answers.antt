use Rattle.sql_tree.specs.StatementView.{view}
use Rattle.prog_work.specs.Contents.{contents_of}
use Rattle.prog_run.specs.Runs.{Runs}
use Rattle.prog_run.proofs.Aside.{beside_on, left_on}
use Rattle.prog_run.proofs.beside.run_stmt_beside.Goals as goal

pub returns-clause-runs : goal.returns-clause-runs
returns-clause-runs c =
    let objects = c.take_apart-apart.result.catalog in
    beside_on (Runs c.args.draw.now (view c.args.statement.now) c.run_aside-result.result) (contents_of objects c.take_apart-apart.result.stage) (contents_of objects c.run_aside-result.new.stage) c.args.work.now c.put_together.new.self
    c.args.context.now c.run_aside-result.new.context c.args.meter.now c.run_aside-result.new.meter c.take_apart-apart.ensures.is c.put_together.ensures c.run_aside-result.ensures.runs

pub returns-clause-err : goal.returns-clause-err
returns-clause-err c =
    let objects = c.take_apart-apart.result.catalog in
    left_on c.run_aside-result.result (contents_of objects c.take_apart-apart.result.stage) (contents_of objects c.run_aside-result.new.stage) c.args.work.now c.put_together.new.self
    c.take_apart-apart.ensures.is c.put_together.ensures c.run_aside-result.ensures.err
