use Rattle.std.proofs.Common.{◌≡◌, sym, ap, ◌∙◌, arith}
use Rattle.block_list.specs.Layouts.{Layout}
use Rattle.block_list.proofs.Weights.{room_of_needed, room_of_more}
use Rattle.block_list.proofs.blocks.Blocks.make_room.Goals as goal

pub returns-in_err-add_spare-clause-room : goal.returns-in_err-add_spare-clause-room
returns-in_err-add_spare-clause-room c =
    room_of_more c.args.self.now.blocks c.add_spare.new.self.blocks c.args.self.now.spares c.add_spare.new.self.spares (c.add_spare.ensures.numbers ∙ c.loop-alloc.invariant.0)
    (omega (arith, c.in_err-add_spare.ensures.err, c.loop-alloc.invariant.1))

pub returns-clause-made : goal.returns-clause-made
returns-clause-made c =
    let same : c.loop-alloc.self.blocks ≡ c.self.inside.blocks.items = c.loop-alloc.invariant.0 ∙ sym (ap (λ (l : Layout). l.blocks) c.self.view_is) in
    let spares : c.len.result ≡ c.loop-alloc.self.spares = c.len.ensures ∙ ap (λ (l : Layout). l.spares) c.self-in-loop-alloc.view_is in
    omega (
      arith,
      room_of_needed c.self.inside.blocks.items c.loop-alloc.self.spares c.self.inside.count c.args.more c.self.invariant.shaped c.self.invariant.counted (omega (arith, c.min-needed.ensures, c.div_ceil.ensures, spares, c.loop-alloc-test.false)),
      room_of_more c.self.inside.blocks.items c.loop-alloc.self.blocks c.loop-alloc.self.spares c.loop-alloc.self.spares same (omega arith),
    )

pub returns-clause-room : goal.returns-clause-room
returns-clause-room c = room_of_more c.args.self.now.blocks c.loop-alloc.self.blocks c.args.self.now.spares c.loop-alloc.self.spares c.loop-alloc.invariant.0 c.loop-alloc.invariant.1
