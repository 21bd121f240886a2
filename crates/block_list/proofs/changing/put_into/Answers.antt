use Rattle.std.proofs.Common.{◌≡◌, ◌≢◌, ◌<◌, [], length, vec_len, ap, arith}
use Rattle.std.proofs.lemmas.Bool.Decides.{nat_tests}
use Rattle.std.proofs.lemmas.List.{get_or_read}
use Rattle.block_list.specs.Spots.{block_at}
use Rattle.block_list.proofs.Changed.{becomes_put, becomes_first, spare_for_none, spare_for_full}
use Rattle.block_list.proofs.changing.put_into.Goals as goal

pub put_last-requires-clause-spare : goal.put_last-requires-clause-spare
put_last-requires-clause-spare c =
    let none : vec_len c.args.blocks.now ≡ 0 = grind (arith, nat_tests) in
    spare_for_none c.args.blocks.now.items (vec_len c.args.spares.now) (omega (arith, none, c.args.blocks.now.ok.0)) c.requires.room

pub put_last-requires-clause-room : goal.put_last-requires-clause-room
put_last-requires-clause-room c =
    let none : vec_len c.args.blocks.now ≡ 0 = grind (arith, nat_tests) in
    let some = spare_for_none c.args.blocks.now.items (vec_len c.args.spares.now) (omega (arith, none, c.args.blocks.now.ok.0)) c.requires.room in
    omega (arith, some, c.requires.room_for_blocks)

pub returns-then-is_empty-clause-blocks : goal.returns-then-is_empty-clause-blocks
returns-then-is_empty-clause-blocks c =
    let none : vec_len c.args.blocks.now ≡ 0 = grind (arith, nat_tests) in
    becomes_first c.args.blocks.now.items c.put_last.new.blocks.items c.args.number c.args.spot.block c.args.spot.at (omega (arith, none, c.args.blocks.now.ok.0)) (c.requires.spot).1 c.put_last.ensures.blocks

pub put_in_full-requires-clause-spare : goal.put_in_full-requires-clause-spare
put_in_full-requires-clause-spare c =
    let some : vec_len c.args.blocks.now ≢ 0 = grind (arith, nat_tests) in
    let lt : c.args.spot.block < length c.args.blocks.now.items = omega (arith, some, c.requires.spot, c.args.blocks.now.ok.0) in
    let here : c.index.result.now ≡ block_at c.args.blocks.now.items c.args.spot.block = get_or_read c.args.blocks.now.items c.args.spot.block c.index.result.now lt c.index.ensures [] in
    spare_for_full c.args.blocks.now.items c.args.spot.block (vec_len c.args.spares.now) c.requires.shaped lt (omega (arith, ap length here, c.len.ensures.count, c.if-len-eq-HOLDS.true)) c.requires.room

pub returns-clause-blocks : goal.returns-clause-blocks
returns-clause-blocks c =
    let some : vec_len c.args.blocks.now ≢ 0 = grind (arith, nat_tests) in
    let lt : c.args.spot.block < length c.args.blocks.now.items = omega (arith, some, c.requires.spot, c.args.blocks.now.ok.0) in
    let here : c.index.result.now ≡ block_at c.args.blocks.now.items c.args.spot.block = get_or_read c.args.blocks.now.items c.args.spot.block c.index.result.now lt c.index.ensures [] in
    becomes_put c.args.blocks.now.items c.args.spot.block c.args.spot.at c.args.number c.index_mut.result.now c.insert.new.self c.requires.shaped lt c.index_mut.ensures.value c.insert.ensures (c.requires.spot).1
    (omega (arith, ap length here, c.len.ensures.count, c.len.ensures.few, c.if-len-eq-HOLDS.false))
