use Rattle.std.proofs.Common.{sym, arith, subst}
use Rattle.hex.specs.Hex.{IsBytes}
use Rattle.disk_model.proofs.Recorded.{written}
use Rattle.disk_model.proofs.Told.{bytes_more}
use Rattle.disk_model.proofs.memory.MemDisk.write_all.Goals as goal

pub invariant_of-self-in-Ok : goal.invariant_of-self-in-Ok
invariant_of-self-in-Ok c = (
  written _ _ _ _ _ _ _ _ _ c.in_ok-copy.ensures c.in_ok-push.ensures.ok c.in-Ok.ensures.ok c.self.invariant.0,
  bytes_more _ _ _ _ c.in_ok-push.ensures.ok (subst IsBytes (sym c.in_ok-copy.ensures) (λ i. let fits = c.type_inv.piece i in omega (arith, fits))) c.self.invariant.1,
)
