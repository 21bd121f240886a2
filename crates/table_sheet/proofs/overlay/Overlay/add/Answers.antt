use Rattle.std.proofs.Common.{◌≡◌, length, ap, arith}
use Rattle.row_index.specs.block_list.Layouts.{flat}
use Rattle.row_index.specs.block_list.Spots.{place}
use Rattle.val_types.specs.Keys.{primary_key}
use Rattle.row_index.proofs.of_row_sheets.Orders.{missing_at}
use Rattle.table_sheet.specs.Ranked.{entry_slot}
use Rattle.table_sheet.proofs.Above.{added_can, added_above, length_put}
use Rattle.table_sheet.proofs.Slotted.{ranked_after, slots_after}
use Rattle.table_sheet.proofs.overlay.Overlay.add.Goals as goal

pub invariant_of-self-2 : goal.invariant_of-self-2
invariant_of-self-2 c =
    let number : c.len-number.result ≡ length c.args.self.now.entries.items = omega (arith, c.len-number.ensures, c.args.self.now.entries.ok.0) in
    record {
      ranked = ranked_after c.args.self.now.entries.items c.push.new.self.items (record { bearer = c.args.bearer; present = c.args.present }) c.args.self.now.ranks.blocks c.make_room.new.self.blocks (flat c.put.new.self.blocks) c.args.spot c.len-number.result
          c.in_ok-push.ensures.items c.make_room.ensures.numbers c.put.ensures.numbers number c.args.self.now.ranked;
    }

pub returns-clause-slots : goal.returns-clause-slots
returns-clause-slots c = λ d missing.
    let number : c.len-number.result ≡ length c.args.self.now.entries.items = omega (arith, c.len-number.ensures, c.args.self.now.entries.ok.0) in
    slots_after d c.args.self.now.entries.items c.push.new.self.items (record { bearer = c.args.bearer; present = c.args.present }) c.args.self.now.ranks.blocks c.make_room.new.self.blocks (flat c.put.new.self.blocks) c.args.spot c.len-number.result
    c.in_ok-push.ensures.items c.make_room.ensures.numbers c.put.ensures.numbers number c.args.self.now.ranked c.requires.spot missing

pub enter-requires : goal.enter-requires
enter-requires c =
    added_can c.get-table.result.now c.args.definition.now c.get-table.ensures c.args.self.now.entries.items c.push.new.self.items (record { bearer = c.args.bearer; present = c.args.present }) c.in_ok-push.ensures.items c.args.self.now.ranks.blocks c.len-number.result (omega (arith, c.len-number.ensures, c.args.self.now.entries.ok.0)) c.requires.rises
    c.len-count.result c.len-count.ensures.count (omega arith) c.args.self.now.indexes.items c.make_hold.new.lists.items c.requires.above c.make_hold.ensures.keeps c.len-keys.result (omega (arith, c.len-keys.ensures)) c.in_ok-make_hold.ensures.made

pub returns-clause-above : goal.returns-clause-above
returns-clause-above c = λ missing apart.
    let number : c.len-number.result ≡ length c.args.self.now.entries.items = omega (arith, c.len-number.ensures, c.args.self.now.entries.ok.0) in
    added_above c.get-table.result.now c.args.definition.now c.get-table.ensures c.args.self.now.entries.items c.push.new.self.items (record { bearer = c.args.bearer; present = c.args.present }) c.in_ok-push.ensures.items c.args.self.now.ranks.blocks c.len-number.result (omega (arith, c.len-number.ensures, c.args.self.now.entries.ok.0)) c.requires.rises
    c.len-count.result c.len-count.ensures.count (omega arith) c.args.self.now.indexes.items c.make_hold.new.lists.items c.requires.above c.make_hold.ensures.keeps c.len-keys.result (omega (arith, c.len-keys.ensures)) c.in_ok-make_hold.ensures.made
    c.enter.new.indexes.items c.enter.ensures (primary_key c.args.definition.now c.args.bearer) (missing_at (entry_slot c.args.definition.now c.args.self.now.entries.items) (primary_key c.args.definition.now c.args.bearer) c.args.self.now.ranks.blocks c.args.spot missing)
    (flat c.put.new.self.blocks) (length_put (flat c.make_room.new.self.blocks) (flat c.args.self.now.ranks.blocks) (flat c.put.new.self.blocks) (place c.make_room.new.self.blocks c.args.spot) c.len-number.result c.len-count.result (ap flat c.make_room.ensures.numbers) c.put.ensures.numbers c.len-count.ensures.count)
    (slots_after c.args.definition.now c.args.self.now.entries.items c.push.new.self.items (record { bearer = c.args.bearer; present = c.args.present }) c.args.self.now.ranks.blocks c.make_room.new.self.blocks (flat c.put.new.self.blocks) c.args.spot c.len-number.result
    c.in_ok-push.ensures.items c.make_room.ensures.numbers c.put.ensures.numbers number c.args.self.now.ranked c.requires.spot missing) apart
