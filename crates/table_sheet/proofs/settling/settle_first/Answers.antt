use Rattle.table_sheet.specs.Parts.{committed_slots, entry_slots, room_of}
use Rattle.std.proofs.Common.{ℕ, ap, subst, sym, ◌∙◌, List}
use Rattle.val_types.specs.Keys.{primary_key}
use Rattle.row_index.specs.row_sheets.Slots.{Slot, rows_in}
use Rattle.row_index.specs.row_sheets.Over.{over}
use Rattle.table_sheet.specs.Settling.{Settles}
use Rattle.table_sheet.proofs.Settled.{entry_there, first_of}
use Rattle.table_sheet.proofs.Steps.{first_own, first_room, first_few, next_settles, next_rows}
use Rattle.table_sheet.proofs.Below.{room_same, slots_same, rises_now, can_enter_first, below_now, apart_now}
use Rattle.table_sheet.proofs.settling.settle_first.Goals as goal

pub settle-requires-clause-own : goal.settle-requires-clause-own
settle-requires-clause-own c =
    first_own c.args.definition.now (committed_slots c.args.definition.now c.args.committed.now) (entry_slots c.args.definition.now c.args.overlay.now) (room_of c.args.committed.now) c.requires.settles (primary_key c.args.definition.now c.get-bearer.result.now) c.in-Some.first.1
    (entry_slots c.args.definition.now c.take_first.new.self)
    (first_of c.args.definition.now c.args.overlay.now c.take_first.new.self c.in-Some.first.0 c.in-Some.first.1 c.in-Some-entry.entry.now c.get-bearer.result.now c.in-Some.ensures.some c.requires.settles.rising c.in-Some-entry.ensures c.get-bearer.ensures)

pub settle-requires-clause-room : goal.settle-requires-clause-room
settle-requires-clause-room c =
    first_room c.args.definition.now (committed_slots c.args.definition.now c.args.committed.now) (entry_slots c.args.definition.now c.args.overlay.now) (room_of c.args.committed.now) c.requires.settles (primary_key c.args.definition.now c.get-bearer.result.now) c.in-Some.first.1
    (entry_slots c.args.definition.now c.take_first.new.self)
    (first_of c.args.definition.now c.args.overlay.now c.take_first.new.self c.in-Some.first.0 c.in-Some.first.1 c.in-Some-entry.entry.now c.get-bearer.result.now c.in-Some.ensures.some c.requires.settles.rising c.in-Some-entry.ensures c.get-bearer.ensures)

pub settle-requires-clause-few : goal.settle-requires-clause-few
settle-requires-clause-few c =
    first_few c.args.definition.now (committed_slots c.args.definition.now c.args.committed.now) (entry_slots c.args.definition.now c.args.overlay.now) (room_of c.args.committed.now) c.requires.settles (primary_key c.args.definition.now c.get-bearer.result.now) c.in-Some.first.1
    (entry_slots c.args.definition.now c.take_first.new.self)
    (first_of c.args.definition.now c.args.overlay.now c.take_first.new.self c.in-Some.first.0 c.in-Some.first.1 c.in-Some-entry.entry.now c.get-bearer.result.now c.in-Some.ensures.some c.requires.settles.rising c.in-Some-entry.ensures c.get-bearer.ensures)

pub returns-in-Some-entry-clause-settles : goal.returns-in-Some-entry-clause-settles
returns-in-Some-entry-clause-settles c =
    subst (λ (space : ℕ). Settles c.args.definition.now (committed_slots c.args.definition.now c.enter.new.self) (entry_slots c.args.definition.now c.take_first.new.self) space) (sym (room_same c.settle.new.self c.enter.new.self c.enter.ensures.rows c.enter.ensures.order c.enter.ensures.hold))
    (subst (λ (cs : List Slot). Settles c.args.definition.now cs (entry_slots c.args.definition.now c.take_first.new.self) (room_of c.settle.new.self)) (sym (slots_same c.args.definition.now c.settle.new.self c.enter.new.self c.enter.ensures.rows c.enter.ensures.order ∙ c.settle.ensures.slots))
    (next_settles c.args.definition.now (committed_slots c.args.definition.now c.args.committed.now) (entry_slots c.args.definition.now c.args.overlay.now) (room_of c.args.committed.now) c.requires.settles (primary_key c.args.definition.now c.get-bearer.result.now) c.in-Some.first.1
    (entry_slots c.args.definition.now c.take_first.new.self)
    (first_of c.args.definition.now c.args.overlay.now c.take_first.new.self c.in-Some.first.0 c.in-Some.first.1 c.in-Some-entry.entry.now c.get-bearer.result.now c.in-Some.ensures.some c.requires.settles.rising c.in-Some-entry.ensures c.get-bearer.ensures)
    (room_of c.settle.new.self) c.settle.ensures.room))

pub returns-in-Some-entry-clause-rows : goal.returns-in-Some-entry-clause-rows
returns-in-Some-entry-clause-rows c =
    ap (λ (cs : List Slot). rows_in (over (entry_slots c.args.definition.now c.take_first.new.self) cs)) (slots_same c.args.definition.now c.settle.new.self c.enter.new.self c.enter.ensures.rows c.enter.ensures.order ∙ c.settle.ensures.slots)
    ∙ next_rows c.args.definition.now (committed_slots c.args.definition.now c.args.committed.now) (entry_slots c.args.definition.now c.args.overlay.now) (room_of c.args.committed.now) c.requires.settles (primary_key c.args.definition.now c.get-bearer.result.now) c.in-Some.first.1
    (entry_slots c.args.definition.now c.take_first.new.self)
    (first_of c.args.definition.now c.args.overlay.now c.take_first.new.self c.in-Some.first.0 c.in-Some.first.1 c.in-Some-entry.entry.now c.get-bearer.result.now c.in-Some.ensures.some c.requires.settles.rising c.in-Some-entry.ensures c.get-bearer.ensures)

pub returns-in-None-clause-rows : goal.returns-in-None-clause-rows
returns-in-None-clause-rows c = entry_there c.take_first.new.self.entries.items c.in-Some.first.0 (c.in-Some.ensures.some).there c.in-None.ensures

pub enter-requires-clause-rises : goal.enter-requires-clause-rises
enter-requires-clause-rises c =
    rises_now c.args.definition.now c.args.committed.now c.settle.new.self (entry_slots c.args.definition.now c.args.overlay.now) (entry_slots c.args.definition.now c.take_first.new.self) (primary_key c.args.definition.now c.get-bearer.result.now) c.in-Some.first.1
    (first_of c.args.definition.now c.args.overlay.now c.take_first.new.self c.in-Some.first.0 c.in-Some.first.1 c.in-Some-entry.entry.now c.get-bearer.result.now c.in-Some.ensures.some c.requires.settles.rising c.in-Some-entry.ensures c.get-bearer.ensures) c.requires.settles c.requires.hides.below c.requires.hides.apart c.settle.ensures.slots c.settle.ensures.others c.settle.ensures.indexes c.settle.ensures.hold

pub enter-requires-clause-can : goal.enter-requires-clause-can
enter-requires-clause-can c =
    can_enter_first c.args.definition.now c.args.committed.now c.settle.new.self (entry_slots c.args.definition.now c.args.overlay.now) (entry_slots c.args.definition.now c.take_first.new.self) (primary_key c.args.definition.now c.get-bearer.result.now) c.in-Some.first.1
    (first_of c.args.definition.now c.args.overlay.now c.take_first.new.self c.in-Some.first.0 c.in-Some.first.1 c.in-Some-entry.entry.now c.get-bearer.result.now c.in-Some.ensures.some c.requires.settles.rising c.in-Some-entry.ensures c.get-bearer.ensures) c.requires.settles c.requires.hides.below c.requires.hides.apart c.settle.ensures.slots c.settle.ensures.others c.settle.ensures.indexes c.settle.ensures.hold

pub returns-in-Some-entry-clause-hides : goal.returns-in-Some-entry-clause-hides
returns-in-Some-entry-clause-hides c = record {
  below =
      below_now c.args.definition.now c.args.committed.now c.settle.new.self (entry_slots c.args.definition.now c.args.overlay.now) (entry_slots c.args.definition.now c.take_first.new.self) (primary_key c.args.definition.now c.get-bearer.result.now) c.in-Some.first.1
      (first_of c.args.definition.now c.args.overlay.now c.take_first.new.self c.in-Some.first.0 c.in-Some.first.1 c.in-Some-entry.entry.now c.get-bearer.result.now c.in-Some.ensures.some c.requires.settles.rising c.in-Some-entry.ensures c.get-bearer.ensures) c.requires.settles c.requires.hides.below c.requires.hides.apart c.settle.ensures.slots c.settle.ensures.others c.settle.ensures.indexes c.settle.ensures.hold c.enter.new.self c.enter.ensures.rows c.enter.ensures.order c.enter.ensures.hold c.enter.ensures.entered;
  apart =
      apart_now c.args.definition.now c.args.committed.now c.settle.new.self (entry_slots c.args.definition.now c.args.overlay.now) (entry_slots c.args.definition.now c.take_first.new.self) (primary_key c.args.definition.now c.get-bearer.result.now) c.in-Some.first.1
      (first_of c.args.definition.now c.args.overlay.now c.take_first.new.self c.in-Some.first.0 c.in-Some.first.1 c.in-Some-entry.entry.now c.get-bearer.result.now c.in-Some.ensures.some c.requires.settles.rising c.in-Some-entry.ensures c.get-bearer.ensures) c.requires.settles c.requires.hides.below c.requires.hides.apart c.settle.ensures.slots c.settle.ensures.others c.settle.ensures.indexes c.settle.ensures.hold c.enter.new.self c.enter.ensures.rows c.enter.ensures.order c.enter.ensures.hold c.enter.ensures.entered;
}
