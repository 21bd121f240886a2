use Rattle.std.proofs.Common.{◌<◌, length, vec_len, subst}
use Rattle.block_list.specs.Layouts.{Layout, flat, holds, room}
use Rattle.block_list.proofs.Holding.{room_left}
use Rattle.block_list.proofs.blocks.Blocks.has_room.Goals as goal

pub returns : goal.returns
returns c = λ less.
    subst (λ (l : Layout). length (flat l.blocks) < holds l → 0 < room l) c.self.view_is (room_left c.self.inside.blocks.items (vec_len c.self.inside.spares) c.self.invariant.shaped) less
