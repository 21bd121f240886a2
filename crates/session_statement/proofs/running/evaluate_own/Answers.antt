use Rattle.sql_tree.specs.View.{view_trees}
use Rattle.session_shared.specs.Desk.{place_of}
use Rattle.session_statement.proofs.Bases.{gives_own}
use Rattle.session_statement.proofs.running.evaluate_own.Goals as goal

pub returns-clause-gives : goal.returns-clause-gives
returns-clause-gives c =
    gives_own c.args.number c.args.draw.now c.args.locals.now (view_trees c.args.expressions.now) c.eval_list.result c.args.desk.now.work c.eval_list.new.work c.args.desk.now.lock c.args.desk.now.committed (place_of c.args.desk.now.log)
    c.args.context.now c.eval_list.new.context c.args.meter.now c.eval_list.new.meter c.together.ensures c.requires.own c.eval_list.ensures.gives
