use Rattle.std.proofs.Common.{◌-◌, length}
use Rattle.store_load.proofs.Journaling.{Applied}
use Rattle.store_load.proofs.journal.apply_all.Given as goal

abbrev pub invariant-loop : goal.invariant-loop
invariant-loop l = Applied l.bytes (length l.bytes - l.counter) l.gate l.fn.stored l.stored
