use Rattle.checkpoint.specs.commit_store.Keeping.{AreDurable}
use Rattle.test_checkpoints.proofs.opening.checkpointed.Given as goal

abbrev pub invariant-loop : goal.invariant-loop
invariant-loop g l = AreDurable l.node (g.D.Disk.told l.d)
