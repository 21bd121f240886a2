use Rattle.std.proofs.Common.{refl, []}
use Rattle.disk_model.proofs.Moments.{on_refl}
use Rattle.script_run.proofs.Spoken.{any_err, gave_up_idle, not_reopened, reopened_drew, reopened_on, restart_refuses, src_none, src_one}
use Rattle.script_run.proofs.nodes.Nodes.restart_source.Goals as goal

pub returns-in_err-draw-clause-left : goal.returns-in_err-draw-clause-left
returns-in_err-draw-clause-left g c names rep start b before =
    any_err c.from_residual.result _ (gave_up_idle names _ start _ c.args.number b _ c.args.report.now (record c.args.report.now { src_draws = c.take_draw.new.draws }) before refl refl)

pub returns-in_err-draw-clause-goes : goal.returns-in_err-draw-clause-goes
returns-in_err-draw-clause-goes g c = on_refl _

pub returns-in_err-draw-clause-grew : goal.returns-in_err-draw-clause-grew
returns-in_err-draw-clause-grew g c = src_none c.args.report.now c.take_draw.new.draws c.in_err-draw.ensures.err

pub returns-in-Err-clause-left : goal.returns-in-Err-clause-left
returns-in-Err-clause-left g c names rep start b before =
    not_reopened (record {
      known = record { goes_on = c.log_goes_on.ensures; one = c.logs_go_on.ensures.one; stores = c.stores_go_on.ensures };
      have = c.entries_have_length.ensures;
      heads = c.heads_have_length.ensures;
      holds = c.openings_hold.ensures.restarts;
      sound = c.restarts_keep.ensures.sound;
      marks = c.restarts_keep.ensures.marks;
      follows = c.replica_follows.ensures.goes_on;
      lasts = c.runs_last.ensures.source;
    }) c.args.self.now _ _ rep start c.args.number c.in_ok-draw.draw c.args.report.now
    (record c.args.report.now { src_draws = c.take_draw.new.draws }) c.restart.ensures.runs refl refl names b before

pub returns-in-Err-clause-goes : goal.returns-in-Err-clause-goes
returns-in-Err-clause-goes g c = (c.restart.ensures.runs c.requires.0 c.requires.1.0 c.requires.1.1.0 [] c.requires.1.1.1).on

pub returns-in-Err-clause-refuses : goal.returns-in-Err-clause-refuses
returns-in-Err-clause-refuses g c rep n =
    rw c.by_source.ensures (restart_refuses c.in-Err.refusal _ rep _ _ n (λ file at. c.in-Err.ensures.whole c.requires.0 c.requires.1.0 file at c.requires.1.1.0) c.in-Err.ensures.cause.disk)

pub returns-in-Err-clause-grew : goal.returns-in-Err-clause-grew
returns-in-Err-clause-grew g c = src_one c.args.report.now c.take_draw.new.draws c.in_ok-draw.draw c.in_ok-draw.ensures.told

pub returns-in_err-shown-in-Ok-clause-left : goal.returns-in_err-shown-in-Ok-clause-left
returns-in_err-shown-in-Ok-clause-left g c names rep start b before =
    any_err _ _ (not_reopened (record {
      known = record { goes_on = c.log_goes_on.ensures; one = c.logs_go_on.ensures.one; stores = c.stores_go_on.ensures };
      have = c.entries_have_length.ensures;
      heads = c.heads_have_length.ensures;
      holds = c.openings_hold.ensures.restarts;
      sound = c.restarts_keep.ensures.sound;
      marks = c.restarts_keep.ensures.marks;
      follows = c.replica_follows.ensures.goes_on;
      lasts = c.runs_last.ensures.source;
    }) c.args.self.now _ _ rep start c.args.number c.in_ok-draw.draw c.args.report.now
    (record c.args.report.now { src_draws = c.take_draw.new.draws }) c.restart.ensures.runs refl refl names b before)

pub returns-in_err-shown-in-Ok-clause-goes : goal.returns-in_err-shown-in-Ok-clause-goes
returns-in_err-shown-in-Ok-clause-goes g c = (c.restart.ensures.runs c.requires.0 c.requires.1.0 c.requires.1.1.0 [] c.requires.1.1.1).on

pub returns-in_err-shown-in-Ok-clause-grew : goal.returns-in_err-shown-in-Ok-clause-grew
returns-in_err-shown-in-Ok-clause-grew g c = src_one c.args.report.now c.take_draw.new.draws c.in_ok-draw.draw c.in_ok-draw.ensures.told

pub returns-in_ok-shown-in-Ok-clause-carried : goal.returns-in_ok-shown-in-Ok-clause-carried
returns-in_ok-shown-in-Ok-clause-carried g c names rep start b before =
    reopened_on (record {
      known = record { goes_on = c.log_goes_on.ensures; one = c.logs_go_on.ensures.one; stores = c.stores_go_on.ensures };
      have = c.entries_have_length.ensures;
      heads = c.heads_have_length.ensures;
      holds = c.openings_hold.ensures.restarts;
      sound = c.restarts_keep.ensures.sound;
      marks = c.restarts_keep.ensures.marks;
      follows = c.replica_follows.ensures.goes_on;
      lasts = c.runs_last.ensures.source;
    })
    c.args.self.now _ _ _ rep start c.args.number c.in_ok-draw.draw c.args.report.now (record c.args.report.now { src_draws = c.take_draw.new.draws }) _ c.in_ok-shown-in-Ok.field-0 refl c.restart.ensures.identity c.in-Ok.ensures.generation
    c.in-Ok.ensures.stands c.restart.ensures.runs c.ok-answer.ensures c.in_ok-shown-in-Ok.ensures
    (reopened_drew c.args.report.now c.take_draw.new.draws c.in_ok-draw.draw c.in_ok-draw.ensures.told) refl refl names b before

pub returns-in_ok-shown-in-Ok-clause-goes : goal.returns-in_ok-shown-in-Ok-clause-goes
returns-in_ok-shown-in-Ok-clause-goes g c = (c.restart.ensures.runs c.requires.0 c.requires.1.0 c.requires.1.1.0 [] c.requires.1.1.1).on

pub returns-in_ok-shown-in-Ok-clause-grew : goal.returns-in_ok-shown-in-Ok-clause-grew
returns-in_ok-shown-in-Ok-clause-grew g c = src_one c.args.report.now c.take_draw.new.draws c.in_ok-draw.draw c.in_ok-draw.ensures.told
