use Rattle.std.proofs.Common.{sym, arith}
use Rattle.row_image.proofs.Walking.{made_some, made_none, made_all}
use Rattle.log_model.proofs.Taking.{changes_shrink}
use Rattle.row_image.proofs.changes.rows_of.Goals as goal

pub loop-rest-smaller : goal.loop-rest-smaller
loop-rest-smaller c = changes_shrink _ _ _ _ _ (sym (rw c.in-Some.is at c.in_ok-change.ensures))

pub loop-rest-preserved : goal.loop-rest-preserved
loop-rest-preserved c =
    rw c.in_ok-push-in-Some.ensures.ok (made_some _ _ _ _ _ _ _ _ (sym (rw c.in-Some.is at c.in_ok-change.ensures)) c.loop-rest.invariant)

pub returns-in-None : goal.returns-in-None
returns-in-None c = made_none _ _ _ _ _ _ (sym (rw c.in-None.is at c.in_ok-change.ensures)) c.loop-rest.invariant

pub returns : goal.returns
returns c = made_all _ _ _ _ _ _ (omega arith) c.loop-rest.invariant
