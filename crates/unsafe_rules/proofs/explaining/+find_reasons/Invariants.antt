use Rattle.std.proofs.Common.{length}
use Rattle.unsafe_rules.specs.Places.{places_of}
use Rattle.unsafe_rules.specs.Reaching.{others}
use Rattle.unsafe_rules.proofs.explaining.+find_reasons.Given as goal

abbrev pub decreases-find_reasons : goal.decreases-find_reasons
decreases-find_reasons l = others (places_of l.found.now) (length l.objects.now)
