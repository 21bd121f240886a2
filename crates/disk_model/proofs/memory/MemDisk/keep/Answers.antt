use Rattle.disk_model.proofs.Recorded.{kept}
use Rattle.disk_model.proofs.Told.{bytes_kept}
use Rattle.disk_model.proofs.memory.MemDisk.keep.Goals as goal

pub invariant_of-self : goal.invariant_of-self
invariant_of-self c = (
  kept _ _ _ _ _ c.push.result c.requires.same c.push.ensures.ok c.push.ensures.err c.self.invariant.0,
  bytes_kept _ _ _ _ c.push.result c.requires.bytes c.push.ensures.ok c.push.ensures.err c.self.invariant.1,
)
