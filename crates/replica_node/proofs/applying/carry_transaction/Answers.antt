use Rattle.std.proofs.Common.{sym, subst}
use Rattle.log_groups.specs.Views.{group_seen}
use Rattle.stmt_apply.specs.prog_run.prog_work.Contents.{Contents}
use Rattle.stmt_apply.specs.Leading.{Opens}
use Rattle.replica_node.specs.Records.{IsRecorded}
use Rattle.replica_node.specs.declared.told.Step.TheVariants.{Carried}
use Rattle.replica_node.proofs.Carrying.{stops_so, transaction_opens, transaction_recorded, unrecorded}
use Rattle.replica_node.proofs.applying.carry_transaction.Goals as goal

pub returns-in-Err-clause-carried : goal.returns-in-Err-clause-carried
returns-in-Err-clause-carried c = stops_so c.stopped.result c.in-Err.stop c.args.work.now c.apply_group.new.work _ c.stopped.ensures c.in-Err.ensures.ends c.in-Err.ensures.err

pub returns-in-Err-clause-makes : goal.returns-in-Err-clause-makes
returns-in-Err-clause-makes c = unrecorded c.stopped.result c.in-Err.stop c.args.head c.args.work.now c.apply_group.new.work c.stopped.ensures

pub returns-in-Ok-clause-makes : goal.returns-in-Ok-clause-makes
returns-in-Ok-clause-makes c =
    let opens : Opens c.args.work.now c.apply_group.new.work = transaction_opens (group_seen c.args.group.now).form c.args.work.now c.apply_group.new.work c.requires.form c.in_default.ensures.leads in
    subst (λ (w : Contents). IsRecorded (Carried c.in-Ok.kept) c.args.head c.args.work.now w) (sym c.commit.ensures)
    (transaction_recorded c.steps_lead.ensures c.in-Ok.kept c.args.head c.args.work.now c.apply_group.new.work opens c.in-Ok.ensures)
