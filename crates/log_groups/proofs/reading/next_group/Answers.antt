use Rattle.log_groups.proofs.Walking.{begins, no_group}
use Rattle.log_groups.proofs.reading.next_group.Goals as goal

pub returns-in-Event : goal.returns-in-Event
returns-in-Event c = begins _ _ _ _ c.in-Event.ensures.exact (rw (← c.length.ensures) c.past.ensures) c.begun.ensures

pub returns-in-Short : goal.returns-in-Short
returns-in-Short c = no_group _ _ c.in-Short.ensures.exact

pub returns-in-Damaged : goal.returns-in-Damaged
returns-in-Damaged c = no_group _ _ c.in-Damaged.ensures.exact

pub returns-in-Foreign : goal.returns-in-Foreign
returns-in-Foreign c = no_group _ _ c.in-Foreign.ensures.exact
