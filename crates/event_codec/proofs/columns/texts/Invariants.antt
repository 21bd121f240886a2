use Rattle.std.proofs.Common.{◌≡◌, ◌≤◌, ◌+◌, drop}
use Rattle.event_codec.specs.Columns.{texts}
use Rattle.event_codec.proofs.columns.texts.Given as goal

abbrev pub invariant-loop-kind : goal.invariant-loop-kind
invariant-loop-kind l = record {
  exact : l.count + texts (drop l.kind-index l.kinds) ≡ texts l.kinds;
  few : l.count ≤ l.kind-index;
}
