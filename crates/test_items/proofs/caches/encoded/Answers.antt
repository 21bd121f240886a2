use Rattle.std.proofs.Common.{arith}
use Rattle.test_items.proofs.Written.{can_carry, all_can}
use Rattle.test_items.proofs.caches.encoded.Goals as goal

pub encode-requires-clause-carried : goal.encode-requires-clause-carried
encode-requires-clause-carried c = rw c.requires ((omega arith, can_carry), tt)

pub encode-requires-clause-events : goal.encode-requires-clause-events
encode-requires-clause-events c = rw c.requires all_can
