use Rattle.std.proofs.Common.{◌≤◌, vec_len, subst, arith}
use Rattle.block_list.specs.Layouts.{Layout, room}
use Rattle.block_list.proofs.Weights.{room_by_weight}
use Rattle.block_list.proofs.blocks.Blocks.take.Goals as goal

pub returns-clause-room : goal.returns-clause-room
returns-clause-room c =
    subst (λ (was : Layout). room was ≤ room (record { blocks = c.take_from.new.blocks.items; spares = vec_len c.take_from.new.spares })) c.self.view_is
    (omega (
      arith,
      room_by_weight c.self.inside.blocks.items c.take_from.new.blocks.items (vec_len c.self.inside.spares) (vec_len c.take_from.new.spares) 0 c.take_from.ensures.blocks.weight_is
          (omega (arith, c.take_from.ensures.count, c.self.inside.blocks.ok.0, c.take_from.new.blocks.ok.0)) (omega (arith, c.take_from.ensures.spares)),
    ))
