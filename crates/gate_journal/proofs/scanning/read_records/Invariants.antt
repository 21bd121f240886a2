use Rattle.std.proofs.Common.{◌-◌, length}
use Rattle.gate_journal.proofs.Reading.{SoFar}
use Rattle.gate_journal.proofs.scanning.read_records.Given as goal

abbrev pub invariant-loop : goal.invariant-loop
invariant-loop l = SoFar l.bytes (length l.bytes - l.counter) l.bodies l.gates l.gate
