use Rattle.session_replays.proofs.Following.{unwarned_follow, mixed_is_unwarned, rows_are_unwarned}
use Rattle.session_replays.proofs.laws.unwarned_items_follow.Goals as goal

pub returns-clause-follow : goal.returns-clause-follow
returns-clause-follow c = unwarned_follow c.statements_are_followed.ensures.safe c.statements_are_followed.ensures.rand

pub returns-clause-mixed : goal.returns-clause-mixed
returns-clause-mixed c = mixed_is_unwarned

pub returns-clause-rows : goal.returns-clause-rows
returns-clause-rows c = rows_are_unwarned
