use Rattle.std.proofs.Common.{◌≤◌}
use Rattle.store_load.proofs.LogsSeen.{Looked}
use Rattle.store_load.proofs.logs.look_at_logs.Given as goal

abbrev pub invariant-loop-end : goal.invariant-loop-end
invariant-loop-end g l = record {
  looked : Looked (g.D.Disk.told l.fn.d) (g.D.Disk.told l.d) l.ends l.end-index l.file;
  later : g.D.Disk.faults l.fn.d ≤ g.D.Disk.faults l.d;
}
