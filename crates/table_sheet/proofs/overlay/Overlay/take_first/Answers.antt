use Rattle.std.proofs.Common.{◌≡◌, ◌<◌, length, Some, ◌∙◌, arith}
use Rattle.std.specs.Prelude.{slice_get}
use Rattle.std.proofs.lemmas.List.{length-set}
use Rattle.row_index.specs.block_list.Layouts.{flat}
use Rattle.row_index.specs.block_list.Spots.{place}
use Rattle.table_sheet.proofs.Slotted.{ranked_here, entry_read}
use Rattle.table_sheet.proofs.Settled.{first_slots}
use Rattle.table_sheet.proofs.overlay.Overlay.take_first.Goals as goal

pub returns-clause-some : goal.returns-clause-some
returns-clause-some c =
    let within : c.take-number.result < length c.args.self.now.entries.items =
    ranked_here c.args.self.now.entries.items (flat c.args.self.now.ranks.blocks) (place c.args.self.now.ranks.blocks c.in_ok-spot.spot) c.take-number.result c.args.self.now.ranked c.take-number.ensures.number in
    let there : slice_get c.args.self.now.entries.items c.take-number.result ≡ Some c.index_mut-entry.result.now =
    entry_read c.args.self.now.entries.items c.take-number.result c.index_mut-entry.result.now within c.index_mut-entry.ensures.value in
    record {
      there = omega (arith, within, length-set c.args.self.now.entries.items c.take-number.result (record { bearer = c.index_mut-entry.result.now.bearer; present = c.take.new.self }));
      slots = λ d rises.
          first_slots d c.args.self.now.entries.items c.take-number.result c.index_mut-entry.result.now c.take.new.self there c.take.result (flat c.args.self.now.ranks.blocks) (flat c.take-number.new.self.blocks)
          (place c.args.self.now.ranks.blocks c.in_ok-spot.spot) c.take.ensures.value ((c.in_ok-spot.ensures.some).1 ∙ c.first.ensures.place) c.take-number.ensures.number c.take-number.ensures.numbers rises;
    }
