use Rattle.std.proofs.Common.{◌≡◌, replicate}
use Rattle.source_node.specs.Standing.{no_session}
use Rattle.source_node.proofs.source.no_sessions.Given as goal

abbrev pub invariant-loop-i : goal.invariant-loop-i
invariant-loop-i l = l.sessions.items ≡ replicate l.i no_session
