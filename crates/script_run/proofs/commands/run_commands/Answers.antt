use Rattle.std.proofs.Common.{◌∙◌}
use Rattle.script_run.specs.Asking.{asked_seen}
use Rattle.script_run.proofs.Disks.{fewer_trans}
use Rattle.script_run.proofs.Opened.{none_begun}
use Rattle.script_run.proofs.Running.{all_ran, all_stopped, commands_stop, not_opened, opening_stops}
use Rattle.script_run.proofs.commands.run_commands.Goals as goal

pub returns-in-Ok-clause-ran : goal.returns-in-Ok-clause-ran
returns-in-Ok-clause-ran g c =
    all_ran (record { sources = c.sources_last.ensures; states = c.replica_has_carried.ensures.states; way = c.replica_has_carried.ensures.on_the_way; served = c.replica_has_carried.ensures.served; images = c.replica_has_carried.ensures.images }) c.answer_all.result asked_seen c.args.asked.now _ _ _ _ c.answer_all.new.report (g.K.Sink.written c.args.out.now) (g.K.Sink.written c.answer_all.new.out) _ c.answer_all.new.nodes
    c.in-Ok.ensures.opened c.answer_all.ensures.going

pub returns-in-Ok-clause-ends : goal.returns-in-Ok-clause-ends
returns-in-Ok-clause-ends g c =
    all_stopped c.answer_all.result _ _ _ _ _ _ _ _ _ _ _ _ _ c.in-Ok.ensures.opened c.in-Ok.ensures.stood c.in-Ok.ensures.goes c.answer_all.ensures.stop c.answer_all.ensures.ends

pub returns-in-Ok-clause-stop : goal.returns-in-Ok-clause-stop
returns-in-Ok-clause-stop g c = commands_stop c.answer_all.result _ _ _ _ _ _ c.open_nodes.ensures.later c.answer_all.ensures.stop

pub returns-in-Err-clause-ends : goal.returns-in-Err-clause-ends
returns-in-Err-clause-ends g c =
    rw c.status_by.ensures (not_opened c.in-Err.refusal _ _ _ _ _ _ _ _ c.in-Err.ensures.refuses (none_begun _ _ _ _ (c.open_nodes.ensures.marks ∙ c.requires.report.marks) (c.open_nodes.ensures.now ∙ c.requires.report.stands) c.open_nodes.ensures.survives c.open_nodes.ensures.rep_survives))

pub returns-in-Err-clause-stop : goal.returns-in-Err-clause-stop
returns-in-Err-clause-stop g c = rw c.status_by.ensures (opening_stops c.in-Err.refusal _ _ _ _ _ c.in-Err.ensures.refuses)

pub returns-in-Ok-clause-disk_later : goal.returns-in-Ok-clause-disk_later
returns-in-Ok-clause-disk_later g c = fewer_trans _ _ _ c.open_nodes.ensures.later c.answer_all.ensures.disk_later
