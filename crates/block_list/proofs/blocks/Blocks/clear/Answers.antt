use Rattle.std.proofs.Common.{◌≡◌, ◌+◌, ◌≤◌, [], vec_len, subst, arith}
use Rattle.std.proofs.lemmas.Grind.{common_steps}
use Rattle.block_list.specs.Layouts.{Layout, room}
use Rattle.block_list.proofs.Weights.{room_of_all}
use Rattle.block_list.proofs.blocks.Blocks.clear.Goals as goal

pub returns-clause-room : goal.returns-clause-room
returns-clause-room c =
    let none : c.append.new.other.items ≡ [] = grind (arith, common_steps) in
    let count : vec_len c.append.new.self ≡ vec_len c.self.inside.spares + vec_len c.self.inside.blocks = grind (arith, common_steps) in
    subst (λ (was : Layout). room was ≤ room (record { blocks = c.append.new.other.items; spares = vec_len c.append.new.self })) c.self.view_is
    (room_of_all c.self.inside.blocks.items c.append.new.other.items (vec_len c.self.inside.spares) (vec_len c.append.new.self) none (omega (arith, count, c.self.inside.blocks.ok.0)))
