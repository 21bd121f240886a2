use Rattle.log_groups.specs.Views.{place_of}
use Rattle.log_groups.proofs.Walking.{step_some, step_xid, step_none}
use Rattle.log_groups.proofs.items.Items.next.Goals as goal

pub returns-then-is_xid-clause-walk : goal.returns-then-is_xid-clause-walk
returns-then-is_xid-clause-walk c = step_xid _ _ _ c.in-Event.ensures.exact c.is_xid.ensures c.if-is_xid.true

pub returns-else-is_xid-clause-walk : goal.returns-else-is_xid-clause-walk
returns-else-is_xid-clause-walk c = step_some (place_of c.args.self.now) (place_of c.past.result) _ _ c.in-Event.ensures.exact c.is_xid.ensures c.if-is_xid.false (rw (← c.length.ensures) c.past.ensures)

pub returns-in-Short-clause-walk : goal.returns-in-Short-clause-walk
returns-in-Short-clause-walk c = step_none _ _ c.in-Short.ensures.exact

pub returns-in-Damaged-clause-walk : goal.returns-in-Damaged-clause-walk
returns-in-Damaged-clause-walk c = step_none _ _ c.in-Damaged.ensures.exact

pub returns-in-Foreign-clause-walk : goal.returns-in-Foreign-clause-walk
returns-in-Foreign-clause-walk c = step_none _ _ c.in-Foreign.ensures.exact
