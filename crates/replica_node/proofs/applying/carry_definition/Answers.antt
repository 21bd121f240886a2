use Rattle.log_groups.specs.Views.{group_seen}
use Rattle.replica_node.proofs.Carrying.{definition_makes, definition_recorded, stops_so, unrecorded}
use Rattle.replica_node.proofs.applying.carry_definition.Goals as goal

pub returns-in-Ok-clause-makes : goal.returns-in-Ok-clause-makes
returns-in-Ok-clause-makes c =
    definition_recorded c.steps_lead.ensures c.args.text.now c.in_ok-kept.kept c.args.head c.args.work.now c.apply_group.new.work
    (definition_makes c.args.text.now (group_seen c.args.group.now).form c.args.work.now c.apply_group.new.work c.requires.form c.in-Ok.ensures.leads) c.in_ok-kept.ensures

pub returns-in-Ok-clause-changes : goal.returns-in-Ok-clause-changes
returns-in-Ok-clause-changes c =
    (definition_makes c.args.text.now (group_seen c.args.group.now).form c.args.work.now c.apply_group.new.work c.requires.form c.in-Ok.ensures.leads).makes.changes

pub returns-in-Err-clause-carried : goal.returns-in-Err-clause-carried
returns-in-Err-clause-carried c = stops_so c.stopped.result c.in-Err.stop c.args.work.now c.apply_group.new.work _ c.stopped.ensures c.in-Err.ensures.ends c.in-Err.ensures.err

pub returns-in-Err-clause-makes : goal.returns-in-Err-clause-makes
returns-in-Err-clause-makes c = unrecorded c.stopped.result c.in-Err.stop c.args.head c.args.work.now c.apply_group.new.work c.stopped.ensures
