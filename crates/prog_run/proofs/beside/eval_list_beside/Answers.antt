use Rattle.sql_tree.specs.View.{view_trees}
use Rattle.prog_work.specs.Contents.{contents_of}
use Rattle.prog_run.specs.Runs.{Evaluated}
use Rattle.prog_run.proofs.Aside.{beside_on, left_on}
use Rattle.prog_run.proofs.beside.eval_list_beside.Goals as goal

pub returns-clause-gives : goal.returns-clause-gives
returns-clause-gives c =
    let objects = c.take_apart-apart.result.catalog in
    beside_on (Evaluated c.args.draw.now c.args.locals.now (view_trees c.args.expressions.now) c.evaluate_aside-result.result) (contents_of objects c.take_apart-apart.result.stage) (contents_of objects c.evaluate_aside-result.new.stage) c.args.work.now c.put_together.new.self
    c.args.context.now c.evaluate_aside-result.new.context c.args.meter.now c.evaluate_aside-result.new.meter c.take_apart-apart.ensures.is c.put_together.ensures c.evaluate_aside-result.ensures.gives

pub returns-clause-err : goal.returns-clause-err
returns-clause-err c =
    let objects = c.take_apart-apart.result.catalog in
    left_on c.evaluate_aside-result.result (contents_of objects c.take_apart-apart.result.stage) (contents_of objects c.evaluate_aside-result.new.stage) c.args.work.now c.put_together.new.self
    c.take_apart-apart.ensures.is c.put_together.ensures c.evaluate_aside-result.ensures.err
