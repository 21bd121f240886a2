use Rattle.std.proofs.Common.{◌≡◌, take}
use Rattle.store_load.specs.Counters.{started_all}
use Rattle.store_load.proofs.counters.start_all.Given as goal

abbrev pub invariant-loop-at : goal.invariant-loop-at
invariant-loop-at l = l.counters ≡ started_all (take l.at l.tables.tables)
