use Rattle.gate_journal.specs.Journal.{Rests}
use Rattle.test_disks.proofs.journals.put_bodies.Given as goal

abbrev pub invariant-loop-body : goal.invariant-loop-body
invariant-loop-body g l = Rests (g.D.Disk.told l.d) l.journal
