use Rattle.std.proofs.Common.{◌≡◌, true}
use Rattle.sql_tree.specs.StatementView.{view}
use Rattle.proc_parts.specs.Calls.{held_of}
use Rattle.proc_parts.proofs.Called.{arguments_none, arguments_some}
use Rattle.proc_parts.proofs.calling.argument_values.Goals as goal

pub returns-then-is_empty-clause-gives : goal.returns-then-is_empty-clause-gives
returns-then-is_empty-clause-gives g c =
    arguments_none g.R.Ruled.rules g.R.Runner.faults c.args.world.now c.args.locals.now c.args.arguments.now c.new.result (held_of c.args.held.now) c.args.r.now
    (c.is_empty.ensures.0 c.if-is_empty.true) c.new.ensures

pub returns-clause-gives : goal.returns-clause-gives
returns-clause-gives g c =
    arguments_some g.R.Ruled.rules g.R.Runner.faults c.args.world.now c.args.locals.now c.args.arguments.now (view c.args.question.now) c.evaluate.result (held_of c.args.held.now) (held_of c.evaluate.new.held) c.args.r.now c.evaluate.new.r
    (λ none. let some : c.is_empty.result ≡ true = c.is_empty.ensures.1 none in cc) c.requires.is c.evaluate.ensures.gives
