use Rattle.sql_tree.specs.View.{view_trees}
use Rattle.source_node.proofs.Ending.{call_comes}
use Rattle.source_node.proofs.calling.call_with.Goals as goal

pub returns-in-Ok : goal.returns-in-Ok
returns-in-Ok c =
    call_comes c.args.command.now.identity.now c.args.command.now.draw.now c.args.command.now.number c.call_steps.result c.args.name.now c.args.text.now (view_trees c.args.arguments.now) c.in-Ok.kept c.args.desk.now c.argument_values.new.desk c.call_steps.new.desk
    c.args.session.now c.argument_values.new.session c.call_steps.new.session c.full-meter.result c.argument_values.new.meter c.full-meter.ensures c.in-Ok.ensures.spends c.in-Ok.ensures.ends c.call_steps.ensures
