use Rattle.std.proofs.Common.{refl, arith}
use Rattle.disk_model.specs.Story.{seen_after}
use Rattle.disk_model.specs.Left.{unsynced_after}
use Rattle.disk_model.proofs.ByHand.{left_by_test, held_test, all_below, stays_at}
use Rattle.disk_model.proofs.Examples.{cut_bytes}
use Rattle.disk_model.proofs.worked.lengths_by_hand.Goals as goal

pub returns-clause-read : goal.returns-clause-read
unfolding seen_after unsynced_after held_test all_below stays_at
returns-clause-read c = refl

pub returns-clause-shortest : goal.returns-clause-shortest
unfolding seen_after unsynced_after held_test all_below stays_at
returns-clause-shortest c = left_by_test _ _ _ _ cut_bytes refl

pub returns-clause-not_cut : goal.returns-clause-not_cut
unfolding seen_after unsynced_after held_test all_below stays_at
returns-clause-not_cut c = left_by_test _ _ _ _ cut_bytes refl

pub returns-clause-shorter : goal.returns-clause-shorter
unfolding seen_after unsynced_after held_test all_below stays_at
returns-clause-shorter c left = omega (arith, left.held.no_shorter)

pub returns-clause-longer : goal.returns-clause-longer
unfolding seen_after unsynced_after held_test all_below stays_at
returns-clause-longer c left = omega (arith, left.held.no_longer)

pub returns-clause-old_bytes : goal.returns-clause-old_bytes
unfolding seen_after unsynced_after held_test all_below stays_at
returns-clause-old_bytes c left = let same = left.held.stays 3 (omega arith) (omega arith) refl in omega (arith, same)
