use Rattle.std.proofs.lemmas.Result.{err_from_is_err_and}
use Rattle.event_codec.specs.Event.{map_of}
use Rattle.row_apply.specs.Ends.{progress_in}
use Rattle.stmt_apply.proofs.Going.{change_stopped}
use Rattle.stmt_apply.proofs.transaction.carry_changes.Goals as goal

pub returns-in_err-carry_change-clause-ends : goal.returns-in_err-carry_change-clause-ends
returns-in_err-carry_change-clause-ends c =
    let p = err_from_is_err_and c.from_residual.result c.from_residual.ensures.1 in
    rw (p.1, p.2)
    (change_stopped _ c.args.pos (map_of c.args.map.now) c.loop-change.left c.pop.new.self c.args.changes c.in-Some.change (progress_in c.args.work.now) (progress_in c.loop-change.work)
    (progress_in c.carry_change.new.work) (progress_in c.carry_change.new.work) c.in-Some.ensures c.in_err-carry_change.ensures.ends c.loop-change.invariant.same)
