use Rattle.std.proofs.Common.{◌≡◌, ◌+◌, ◌-◌, ◌≤◌, length}
use Rattle.block_list.proofs.blocks.Blocks.make_hold.Given as goal

-- the blocks in use stay, and there are ever more spare ones
abbrev pub invariant-loop-alloc : goal.invariant-loop-alloc
invariant-loop-alloc l = (l.self.blocks ≡ l.initial.self.blocks) × (l.initial.self.spares ≤ l.self.spares)

abbrev pub decreases-loop-alloc : goal.decreases-loop-alloc
decreases-loop-alloc l = l.needed - (length l.self.blocks + l.self.spares)
