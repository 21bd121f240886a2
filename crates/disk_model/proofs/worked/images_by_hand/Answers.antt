use Rattle.std.proofs.Common.{refl, arith}
use Rattle.disk_model.specs.Story.{seen_after}
use Rattle.disk_model.specs.Left.{unsynced_after}
use Rattle.disk_model.proofs.ByHand.{left_by_test, held_test, all_below, stays_at}
use Rattle.disk_model.proofs.Examples.{two_bytes, synced_bytes}
use Rattle.disk_model.proofs.worked.images_by_hand.Goals as goal

pub returns-clause-read : goal.returns-clause-read
unfolding seen_after unsynced_after held_test all_below stays_at
returns-clause-read c = refl

pub returns-clause-old : goal.returns-clause-old
unfolding seen_after unsynced_after held_test all_below stays_at
returns-clause-old c = left_by_test _ _ _ _ two_bytes refl

pub returns-clause-second_alone : goal.returns-clause-second_alone
unfolding seen_after unsynced_after held_test all_below stays_at
returns-clause-second_alone c = left_by_test _ _ _ _ two_bytes refl

pub returns-clause-first_alone : goal.returns-clause-first_alone
unfolding seen_after unsynced_after held_test all_below stays_at
returns-clause-first_alone c = left_by_test _ _ _ _ two_bytes refl

pub returns-clause-any : goal.returns-clause-any
unfolding seen_after unsynced_after held_test all_below stays_at
returns-clause-any c = left_by_test _ _ _ _ two_bytes refl

pub returns-clause-first_byte : goal.returns-clause-first_byte
unfolding seen_after unsynced_after held_test all_below stays_at
returns-clause-first_byte c left = let same = left.held.stays 0 (omega arith) (omega arith) refl in omega (arith, same)

pub returns-clause-last_byte : goal.returns-clause-last_byte
unfolding seen_after unsynced_after held_test all_below stays_at
returns-clause-last_byte c left = let same = left.held.stays 5 (omega arith) (omega arith) refl in omega (arith, same)

pub returns-clause-shorter : goal.returns-clause-shorter
unfolding seen_after unsynced_after held_test all_below stays_at
returns-clause-shorter c left = omega (arith, left.held.no_shorter)

pub returns-clause-no_byte : goal.returns-clause-no_byte
unfolding seen_after unsynced_after held_test all_below stays_at
returns-clause-no_byte c left = omega (arith, left.held.bytes 1)

pub returns-clause-synced : goal.returns-clause-synced
unfolding seen_after unsynced_after held_test all_below stays_at
returns-clause-synced c = left_by_test _ _ _ _ synced_bytes refl

pub returns-clause-not_lost : goal.returns-clause-not_lost
unfolding seen_after unsynced_after held_test all_below stays_at
returns-clause-not_lost c left = let same = left.held.stays 1 (omega arith) (omega arith) refl in omega (arith, same)

pub returns-clause-other_file : goal.returns-clause-other_file
unfolding seen_after unsynced_after held_test all_below stays_at
returns-clause-other_file c left = omega (arith, left.held.no_longer)
