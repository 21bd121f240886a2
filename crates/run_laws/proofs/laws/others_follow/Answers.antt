use Rattle.run_laws.proofs.Following.{others_follow}
use Rattle.run_laws.proofs.laws.others_follow.Goals as goal

pub returns : goal.returns
returns c = others_follow c.unwarned_items_follow.ensures.follow c.unwarned_items_follow.ensures.mixed c.unwarned_items_follow.ensures.rows
