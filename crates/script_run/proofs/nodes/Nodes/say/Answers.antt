use Rattle.std.proofs.Common.{refl, arith, ap}
use Rattle.answer_text.specs.declared.report.Report.{Report}
use Rattle.disk_model.proofs.Moments.{on_refl}
use Rattle.script_run.proofs.Drawing.{drew_on}
use Rattle.script_run.proofs.Spoken.{any_err, gave_up_idle, said, said_drew, source_refuses, src_none, src_marked, unsaid}
use Rattle.script_run.proofs.nodes.Nodes.say.Goals as goal

pub returns-in_err-draw-clause-left : goal.returns-in_err-draw-clause-left
returns-in_err-draw-clause-left g c names rep start b before =
    any_err c.from_residual.result _ (gave_up_idle names _ start _ c.args.number b _ c.args.report.now (record c.args.report.now { src_draws = c.take_draw.new.draws }) before refl refl)

pub returns-in_err-draw-clause-goes : goal.returns-in_err-draw-clause-goes
returns-in_err-draw-clause-goes g c = on_refl _

pub returns-in_err-draw-clause-grew : goal.returns-in_err-draw-clause-grew
returns-in_err-draw-clause-grew g c = src_none c.args.report.now c.take_draw.new.draws c.in_err-draw.ensures.err

pub returns-in_ok-shown-in-Ok-clause-carried : goal.returns-in_ok-shown-in-Ok-clause-carried
returns-in_ok-shown-in-Ok-clause-carried g c names rep start b before =
    said (record {
      known = record { goes_on = c.log_goes_on.ensures; one = c.logs_go_on.ensures.one; stores = c.stores_go_on.ensures };
      can_on = c.entries_can_log_on.ensures;
      replays = c.transactions_replay.ensures.goes_on;
      runs = c.runs_hold.ensures.goes_on;
      formats = c.formats_decide.ensures;
      follows = c.replica_follows.ensures.goes_on;
      have = c.entries_have_length.ensures;
      heads = c.heads_have_length.ensures;
      lasts = c.runs_last.ensures.source;
    })
    c.args.self.now _ _ _ rep start c.args.number c.args.session c.args.text.now c.in_ok-draw.draw c.args.report.now c.exec.new.report c.in-Ok.answer c.in_ok-shown-in-Ok.field-0
    c.requires.number c.requires.length (λ i. let fits = c.type_inv.text i in omega (arith, fits)) refl c.exec.ensures.identity c.in-Ok.ensures.generation c.exec.ensures.goes c.in-Ok.ensures.stands c.in-Ok.ensures.can
    c.exec.ensures.runs c.exec.ensures.pushed c.in_ok-shown-in-Ok.ensures
    (said_drew c.args.report.now c.exec.new.report c.args.session c.args.text.now c.take_draw.new.draws c.exec.new.report.marks c.in_ok-draw.draw c.exec.ensures.rest c.in_ok-draw.ensures.told)
    (ap (λ (r : Report). r.now) c.exec.ensures.rest) names b before

pub returns-in_err-shown-in-Ok-clause-left : goal.returns-in_err-shown-in-Ok-clause-left
returns-in_err-shown-in-Ok-clause-left g c names rep start b before =
    any_err _ _ (unsaid (record {
      known = record { goes_on = c.log_goes_on.ensures; one = c.logs_go_on.ensures.one; stores = c.stores_go_on.ensures };
      can_on = c.entries_can_log_on.ensures;
      replays = c.transactions_replay.ensures.goes_on;
      runs = c.runs_hold.ensures.goes_on;
      formats = c.formats_decide.ensures;
      follows = c.replica_follows.ensures.goes_on;
      have = c.entries_have_length.ensures;
      heads = c.heads_have_length.ensures;
      lasts = c.runs_last.ensures.source;
    })
    c.args.self.now _ _ rep start c.args.number c.args.session c.args.text.now c.in_ok-draw.draw c.exec.new.self.store.number c.args.report.now c.exec.new.report c.exec.ensures.goes c.exec.ensures.runs c.exec.ensures.pushed (ap (λ (r : Report). r.now) c.exec.ensures.rest) names b before)

pub returns-in-Err-clause-left : goal.returns-in-Err-clause-left
returns-in-Err-clause-left g c names rep start b before =
    unsaid (record {
      known = record { goes_on = c.log_goes_on.ensures; one = c.logs_go_on.ensures.one; stores = c.stores_go_on.ensures };
      can_on = c.entries_can_log_on.ensures;
      replays = c.transactions_replay.ensures.goes_on;
      runs = c.runs_hold.ensures.goes_on;
      formats = c.formats_decide.ensures;
      follows = c.replica_follows.ensures.goes_on;
      have = c.entries_have_length.ensures;
      heads = c.heads_have_length.ensures;
      lasts = c.runs_last.ensures.source;
    })
    c.args.self.now _ _ rep start c.args.number c.args.session c.args.text.now c.in_ok-draw.draw c.exec.new.self.store.number c.args.report.now c.exec.new.report c.exec.ensures.goes c.exec.ensures.runs c.exec.ensures.pushed (ap (λ (r : Report). r.now) c.exec.ensures.rest) names b before

pub returns-in-Err-clause-grew : goal.returns-in-Err-clause-grew
returns-in-Err-clause-grew g c = src_marked c.args.report.now c.exec.new.report c.take_draw.new.draws c.exec.new.report.marks c.in_ok-draw.draw c.exec.ensures.rest c.in_ok-draw.ensures.told

pub returns-in-Err-clause-drawn : goal.returns-in-Err-clause-drawn
returns-in-Err-clause-drawn g c = drew_on _ _ _ _ _ _ (ap (λ (r : Report). r.src_draws) c.exec.ensures.rest) c.in_ok-draw.ensures.drawn

pub returns-in-Err-clause-refuses : goal.returns-in-Err-clause-refuses
returns-in-Err-clause-refuses g c rep n = rw c.by_open_source.ensures (source_refuses _ c.in-Err.fault _ rep _ _ n c.in-Err.ensures.cause.disk)
