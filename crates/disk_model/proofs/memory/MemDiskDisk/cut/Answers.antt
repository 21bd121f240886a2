use Rattle.disk_model.proofs.Recorded.{shortened}
use Rattle.disk_model.proofs.Told.{bytes_more, no_bytes}
use Rattle.disk_model.proofs.memory.MemDiskDisk.cut.Goals as goal

pub invariant_of-self-2 : goal.invariant_of-self-2
invariant_of-self-2 c = (
  shortened _ _ _ _ _ _ _ c.in_ok-push.ensures.ok c.cut.ensures c.self.invariant.0,
  bytes_more _ _ _ _ c.in_ok-push.ensures.ok no_bytes c.self.invariant.1,
)
