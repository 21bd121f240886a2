use Rattle.std.proofs.Common.{length}
use Rattle.unsafe_rules.specs.Places.{places_of}
use Rattle.unsafe_rules.specs.Reaching.{others}
use Rattle.unsafe_rules.proofs.reaching.+finds_writing.Given as goal

abbrev pub decreases-finds_writing : goal.decreases-finds_writing
decreases-finds_writing l = others (places_of l.found.now) (length l.objects.now)
