use Rattle.std.proofs.Common.{◌≡◌, ◌+◌, drop}
use Rattle.log_model.specs.Items.{id_from}
use Rattle.row_events.proofs.tables.id_of.Given as goal

abbrev pub invariant-loop-other : goal.invariant-loop-other
invariant-loop-other l = record {
  count : l.id ≡ l.other-index + 1;
  same : id_from l.id (drop l.other-index l.names) l.name ≡ id_from 1 l.names l.name;
}
