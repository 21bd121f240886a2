use Rattle.std.proofs.Common.{◌≡◌, ◌∙◌, sym, ap, subst}
use Rattle.answer_text.specs.declared.status.Status.{Status}
use Rattle.disk_model.proofs.Moments.{on_trans}
use Rattle.run_streams.specs.Stops.{status_of}
use Rattle.replay_log.specs.Replaying.{CameTo, kept}
use Rattle.replay_log.proofs.Opening.{came_from, still_told}
use Rattle.replay_log.proofs.logs.carried_out.Goals.{in-Ok, in-Err}
use Rattle.replay_log.proofs.logs.carried_out.Goals as goal

pub returns-clause-came : goal.returns-clause-came
returns-clause-came g c =
    let same : c.match-carry_out_all.came ≡ status_of c.carry_out_all.result =
    elim c.match-carry_out_all.branch [ in-Ok w ↦ w.came-is ∙ sym (ap status_of w.in-Ok.is) | in-Err w ↦ w.came-is ∙ sym (ap status_of w.in-Err.is) ] in
    subst
    (λ (s : Status). CameTo s (g.S.Source.left c.args.input.now) (g.S.Source.left c.carry_out_all.new.input) (g.R.Disk.told c.args.rep.now) (g.R.Disk.told c.carry_out_all.new.rep)
    c.carry_out_all.new.report c.carry_out_all.new.self)
    (sym same)
    (came_from (status_of c.carry_out_all.result) c.in_ok-replaying.replaying.node.node.identity c.in_ok-replaying.draw (kept c.in_ok-replaying.replaying)
    (g.S.Source.left c.args.input.now) (g.S.Source.left c.carry_out_all.new.input) (g.R.Disk.told c.args.rep.now) (g.R.Disk.told c.opened.new.rep) (g.R.Disk.told c.carry_out_all.new.rep)
    c.carry_out_all.new.report c.carry_out_all.new.self
    (still_told c.in_ok-replaying.replaying.node.node.identity c.in_ok-replaying.draw c.opened.new.report c.carry_out_all.new.report c.carry_out_all.ensures.rest c.in_ok-replaying.ensures.told)
    c.in_ok-replaying.ensures.opened c.in_ok-replaying.ensures.holds c.in_ok-replaying.ensures.runs c.opened.ensures.goes c.carry_out_all.ensures.comes_to)

pub returns-clause-goes : goal.returns-clause-goes
returns-clause-goes g c = on_trans _ _ _ c.opened.ensures.goes c.carry_out_all.ensures.goes
