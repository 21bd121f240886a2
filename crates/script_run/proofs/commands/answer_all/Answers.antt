use Rattle.std.proofs.Common.{◌≡◌, ◌+◌, length, map, refl, ap, Err, arith, subst, ℕ}
use Rattle.std.proofs.lemmas.Result.{err_from_is_err_and}
use Rattle.script_run.specs.Disks.{disks}
use Rattle.script_run.proofs.Disks.{both_refl, both_trans, fewer_refl, fewer_trans}
use Rattle.script_run.specs.Asking.{asked_seen}
use Rattle.script_run.specs.Running.{Going}
use Rattle.script_run.proofs.Running.{starts, goes_on, stops, stops_since, grew_none, grew_more, item_seen}
use Rattle.script_run.proofs.commands.answer_all.Goals as goal

pub loop-i-init : goal.loop-i-init
loop-i-init g c = ((λ from t opened. starts (record { sources = c.sources_last.ensures; states = c.replica_has_carried.ensures.states; way = c.replica_has_carried.ensures.on_the_way; served = c.replica_has_carried.ensures.served; images = c.replica_has_carried.ensures.images }) from t _ _ _ _ _ opened), omega arith, (λ s d. d), (λ s d. d), grew_none _, (λ e. e), fewer_refl _, both_refl _, c.requires.on)

pub returns-in_err-answer_command-clause-ends : goal.returns-in_err-answer_command-clause-ends
returns-in_err-answer_command-clause-ends g c from t opened =
    let p = err_from_is_err_and c.from_residual.result c.from_residual.ensures.1 in
    rw (p.1, p.2)
    (stops (record { sources = c.sources_last.ensures; states = c.replica_has_carried.ensures.states; way = c.replica_has_carried.ensures.on_the_way; served = c.replica_has_carried.ensures.served; images = c.replica_has_carried.ensures.images }) (Err c.in_err-answer_command.field-0.0) from t _ _ (map asked_seen c.args.asked.now) c.loop-i.i (c.loop-i.i + 1) _ c.loop-i.report c.answer_command.new.report (g.K.Sink.written c.args.out.now) (g.K.Sink.written c.loop-i.out)
    (g.K.Sink.written c.answer_command.new.out) c.loop-i.nodes
    (item_seen asked_seen c.args.asked.now c.as_slice-command-items.result.now c.loop-i.i _ c.as_slice-command-items.ensures c.loop-i-test.true)
    refl c.in_err-answer_command.ensures.grew (c.loop-i.invariant.0 from t opened) c.in_err-answer_command.ensures.stopped)

pub returns-in_err-answer_command-clause-stop : goal.returns-in_err-answer_command-clause-stop
returns-in_err-answer_command-clause-stop g c =
    let p = err_from_is_err_and c.from_residual.result c.from_residual.ensures.1 in
    rw (p.1, p.2)
    (stops_since (Err c.in_err-answer_command.field-0.0) _ _ _ _ _ _ _ _ c.loop-i.invariant.7 c.loop-i.invariant.1 c.loop-i.invariant.6 c.in_err-answer_command.ensures.stop)

pub returns-in_err-answer_command-clause-goes : goal.returns-in_err-answer_command-clause-goes
returns-in_err-answer_command-clause-goes g c = both_trans _ _ _ c.loop-i.invariant.7 c.answer_command.ensures.goes

pub loop-i-preserved : goal.loop-i-preserved
loop-i-preserved g c = (
  (λ from t opened. goes_on (record { sources = c.sources_last.ensures; states = c.replica_has_carried.ensures.states; way = c.replica_has_carried.ensures.on_the_way; served = c.replica_has_carried.ensures.served; images = c.replica_has_carried.ensures.images }) from t _ _ (map asked_seen c.args.asked.now) c.loop-i.i (c.loop-i.i + 1) _ c.loop-i.report c.answer_command.new.report (g.K.Sink.written c.args.out.now) (g.K.Sink.written c.loop-i.out)
      (g.K.Sink.written c.answer_command.new.out) c.loop-i.nodes c.answer_command.new.nodes
      (item_seen asked_seen c.args.asked.now c.as_slice-command-items.result.now c.loop-i.i _ c.as_slice-command-items.ensures c.loop-i-test.true)
      refl (c.loop-i.invariant.0 from t opened) c.in_ok-answer_command.ensures.told),
  omega (arith, c.loop-i.invariant.1, c.in_ok-answer_command.ensures.later),
  (λ s d. c.in_ok-answer_command.ensures.src_drawn s (c.loop-i.invariant.2 s d)),
  (λ s d. c.in_ok-answer_command.ensures.rep_drawn s (c.loop-i.invariant.3 s d)),
  grew_more _ _ _ c.loop-i.invariant.4 c.in_ok-answer_command.ensures.grew,
  (λ fresh. c.in_ok-answer_command.ensures.ended (c.loop-i.invariant.5 fresh)),
  fewer_trans _ _ _ c.loop-i.invariant.6 c.in_ok-answer_command.ensures.disk_later,
  both_trans _ _ _ c.loop-i.invariant.7 c.in_ok-answer_command.ensures.goes,
  c.in_ok-answer_command.ensures.on,
)

pub returns-clause-going : goal.returns-clause-going
returns-clause-going g c from t opened =
    let all : c.loop-i.i ≡ length c.args.asked.now = omega (arith, c.loop-i-test.false, ap length c.as_slice-command-items.ensures, c.loop-i.auto.i-end) in
    subst (λ (n : ℕ). Going from t (disks (g.D.Disk.told c.loop-i.src) (g.R.Disk.told c.loop-i.rep)) (map asked_seen c.args.asked.now) n c.loop-i.report (g.K.Sink.written c.args.out.now) (g.K.Sink.written c.loop-i.out) c.loop-i.nodes) all (c.loop-i.invariant.0 from t opened)

pub returns-in_err-answer_command-clause-disk_later : goal.returns-in_err-answer_command-clause-disk_later
returns-in_err-answer_command-clause-disk_later g c = fewer_trans _ _ _ c.loop-i.invariant.6 c.answer_command.ensures.disk_later
