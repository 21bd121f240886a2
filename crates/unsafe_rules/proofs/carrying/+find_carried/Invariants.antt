use Rattle.std.proofs.Common.{length}
use Rattle.unsafe_rules.specs.Places.{places_of}
use Rattle.unsafe_rules.specs.Reaching.{others}
use Rattle.unsafe_rules.proofs.carrying.+find_carried.Given as goal

abbrev pub decreases-find_carried : goal.decreases-find_carried
decreases-find_carried l = others (places_of l.found.now) (length l.objects.now)
