use Rattle.std.proofs.Common.{ℕ, List, ap, arith, get_or, length}
use Rattle.disk_model.proofs.Quiet.{quiet_trans}
use Rattle.store_load.proofs.LogsSeen.{all_durable, one_looked}
use Rattle.store_load.proofs.logs.look_at_logs.Goals as goal

pub returns-in_err-look_at_log-clause-quiet : goal.returns-in_err-look_at_log-clause-quiet
returns-in_err-look_at_log-clause-quiet g c = quiet_trans _ _ _ c.loop-end.invariant.looked.quiet c.look_at_log.ensures.quiet

pub loop-end-preserved : goal.loop-end-preserved
loop-end-preserved g c = record {
  looked = one_looked _ _ _ c.args.ends.now c.loop-end.end-index c.loop-end.file _ c.loop-end.invariant.looked (omega (arith, ap (λ (l : List ℕ). length l) c.as_slice-end-items.ensures))
      (ap (λ (l : List ℕ). get_or l c.loop-end.end-index 0) c.as_slice-end-items.ensures) c.look_at_log.ensures.quiet c.in_ok-look_at_log.ensures.long c.in_ok-look_at_log.ensures.durable;
  later = omega (arith, c.loop-end.invariant.later, c.look_at_log.ensures.cause.later);
}

pub returns-clause-durable : goal.returns-clause-durable
returns-clause-durable g c = all_durable _ _ c.args.ends.now _ _ c.loop-end.invariant.looked (omega (arith, ap (λ (l : List ℕ). length l) c.as_slice-end-items.ensures))
