use Rattle.std.proofs.Common.{◌≡◌}
use Rattle.gate_journal.specs.Journal.{Rests}
use Rattle.test_stores.proofs.scripts.commit_steps.Given as goal

abbrev pub invariant-loop-step : goal.invariant-loop-step
invariant-loop-step g l = record {
  rests : Rests (g.D.Disk.told l.d) l.store.journal;
  file : l.store.journal.file ≡ 2;
}
