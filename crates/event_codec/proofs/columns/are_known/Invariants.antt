use Rattle.std.proofs.Common.{◌≡◌, drop}
use Rattle.event_codec.specs.Columns.{are_known}
use Rattle.event_codec.proofs.columns.are_known.Given as goal

abbrev pub invariant-loop-kind : goal.invariant-loop-kind
invariant-loop-kind l = are_known (drop l.kind-index l.kinds) ≡ are_known l.kinds
