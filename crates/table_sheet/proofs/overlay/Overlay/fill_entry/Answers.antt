use Rattle.std.proofs.Common.{◌≡◌, ◌<◌, length, Some, sym, ap, ◌∙◌, arith}
use Rattle.std.specs.Prelude.{slice_get, slice_set}
use Rattle.row_index.specs.block_list.Layouts.{flat}
use Rattle.row_index.specs.block_list.Spots.{place}
use Rattle.table_sheet.specs.Ranked.{shown_by}
use Rattle.table_sheet.proofs.Slotted.{ranked_here, entry_read, was_there, slots_set, never_none, number_at, shown_set, shown_beside}
use Rattle.table_sheet.proofs.overlay.Overlay.fill_entry.Goals as goal

pub index_mut-entry-requires : goal.index_mut-entry-requires
index_mut-entry-requires c =
    omega (arith, ranked_here c.args.self.now.entries.items (flat c.args.self.now.ranks.blocks) (place c.args.self.now.ranks.blocks c.args.spot) c.in-Some.number c.args.self.now.ranked (sym c.in-Some.ensures), c.args.self.now.entries.ok.0)

pub returns-in-Some-clause-before : goal.returns-in-Some-clause-before
returns-in-Some-clause-before c = λ d.
    let within : c.in-Some.number < length c.args.self.now.entries.items =
    ranked_here c.args.self.now.entries.items (flat c.args.self.now.ranks.blocks) (place c.args.self.now.ranks.blocks c.args.spot) c.in-Some.number c.args.self.now.ranked (sym c.in-Some.ensures) in
    let there : slice_get c.args.self.now.entries.items c.in-Some.number ≡ Some c.index_mut-entry.result.now =
    entry_read c.args.self.now.entries.items c.in-Some.number c.index_mut-entry.result.now within c.index_mut-entry.ensures.value in
    c.take-before.ensures.value ∙ was_there d c.args.self.now.entries.items c.args.self.now.ranks.blocks c.args.spot c.in-Some.number c.index_mut-entry.result.now c.requires (sym c.in-Some.ensures) there

pub returns-in-Some-clause-slots : goal.returns-in-Some-clause-slots
returns-in-Some-clause-slots c = λ d key rises found.
    let within : c.in-Some.number < length c.args.self.now.entries.items =
    ranked_here c.args.self.now.entries.items (flat c.args.self.now.ranks.blocks) (place c.args.self.now.ranks.blocks c.args.spot) c.in-Some.number c.args.self.now.ranked (sym c.in-Some.ensures) in
    let there : slice_get c.args.self.now.entries.items c.in-Some.number ≡ Some c.index_mut-entry.result.now =
    entry_read c.args.self.now.entries.items c.in-Some.number c.index_mut-entry.result.now within c.index_mut-entry.ensures.value in
    slots_set d c.args.self.now.entries.items c.in-Some.number c.index_mut-entry.result.now c.args.present there key c.args.self.now.ranks.blocks c.args.spot (sym c.in-Some.ensures) rises found

pub returns-in-None-clause-before : goal.returns-in-None-clause-before
returns-in-None-clause-before c = λ d. never_none c.args.self.now.ranks.blocks c.args.spot c.requires c.in-None.ensures

pub returns-in-None-clause-slots : goal.returns-in-None-clause-slots
returns-in-None-clause-slots c = λ d key rises found. never_none c.args.self.now.ranks.blocks c.args.spot c.requires c.in-None.ensures

pub returns-in-Some-clause-there : goal.returns-in-Some-clause-there
returns-in-Some-clause-there c =
    let within : c.in-Some.number < length c.args.self.now.entries.items =
    ranked_here c.args.self.now.entries.items (flat c.args.self.now.ranks.blocks) (place c.args.self.now.ranks.blocks c.args.spot) c.in-Some.number c.args.self.now.ranked (sym c.in-Some.ensures) in
    let there : slice_get c.args.self.now.entries.items c.in-Some.number ≡ Some c.index_mut-entry.result.now =
    entry_read c.args.self.now.entries.items c.in-Some.number c.index_mut-entry.result.now within c.index_mut-entry.ensures.value in
    ap (shown_by (slice_set c.args.self.now.entries.items c.in-Some.number (record { bearer = c.index_mut-entry.result.now.bearer; present = c.args.present })))
    (number_at c.args.self.now.ranks.blocks c.args.spot c.in-Some.number c.requires (sym c.in-Some.ensures))
    ∙ shown_set c.args.self.now.entries.items c.in-Some.number c.index_mut-entry.result.now (record { bearer = c.index_mut-entry.result.now.bearer; present = c.args.present }) there

pub returns-in-Some-clause-others : goal.returns-in-Some-clause-others
returns-in-Some-clause-others c = λ m other.
    shown_beside c.args.self.now.entries.items c.in-Some.number m (record { bearer = c.index_mut-entry.result.now.bearer; present = c.args.present })
    (λ e. other (e ∙ sym (number_at c.args.self.now.ranks.blocks c.args.spot c.in-Some.number c.requires (sym c.in-Some.ensures))))

pub returns-in-None-clause-there : goal.returns-in-None-clause-there
returns-in-None-clause-there c = never_none c.args.self.now.ranks.blocks c.args.spot c.requires c.in-None.ensures
