use Rattle.std.proofs.Common.{◌+◌, ◌≤◌, vec_len, subst, arith}
use Rattle.block_list.specs.Layouts.{Layout, room}
use Rattle.block_list.proofs.Weights.{room_by_weight}
use Rattle.block_list.proofs.blocks.Blocks.put.Goals as goal

pub returns-clause-room : goal.returns-clause-room
returns-clause-room c =
    subst (λ (was : Layout). room was ≤ room (record { blocks = c.put_into.new.blocks.items; spares = vec_len c.put_into.new.spares }) + 1) c.self.view_is
    (room_by_weight c.self.inside.blocks.items c.put_into.new.blocks.items (vec_len c.self.inside.spares) (vec_len c.put_into.new.spares) 1 c.put_into.ensures.blocks.weight_is
    (omega (arith, c.put_into.ensures.count, c.self.inside.blocks.ok.0, c.put_into.new.blocks.ok.0)) c.put_into.ensures.spares)
