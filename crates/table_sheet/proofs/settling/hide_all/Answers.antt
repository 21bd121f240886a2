use Rattle.std.proofs.Common.{take, refl, ◌∙◌, arith}
use Rattle.std.specs.Prelude.{slice_get}
use Rattle.row_index.specs.block_list.Layouts.{flat}
use Rattle.row_index.specs.block_list.Spots.{place}
use Rattle.row_index.specs.row_sheets.Slots.{rows_in}
use Rattle.row_index.specs.row_sheets.Over.{over}
use Rattle.table_sheet.specs.Parts.{committed_slots, entry_slots}
use Rattle.table_sheet.specs.Settling.{hiding}
use Rattle.table_sheet.proofs.Passing.{within_by, entries_over}
use Rattle.table_sheet.proofs.Below.{hide_rise, hide_up, hide_kept, hidden_from, hidden_to}
use Rattle.table_sheet.proofs.settling.hide_all.Goals as goal

pub loop-at-init : goal.loop-at-init
loop-at-init c = record {
  spot = c.first-at.ensures.spot;
  rows = refl;
  order = refl;
  hold = refl;
  kept = hidden_from c.args.definition.now c.args.committed.now (entry_slots c.args.definition.now c.args.overlay.now) (place c.args.overlay.now.ranks.blocks c.first-at.result) c.first-at.ensures.place c.requires.below.kept;
}

pub leave-requires-clause-rises : goal.leave-requires-clause-rises
leave-requires-clause-rises c = hide_up c.args.definition.now c.args.committed.now c.loop-at.committed c.loop-at.invariant.rows c.loop-at.invariant.order c.requires.rising

pub leave-requires-clause-rise : goal.leave-requires-clause-rise
leave-requires-clause-rise c = hide_rise c.args.definition.now c.args.committed.now c.loop-at.committed (rows_in (over (hiding (take (place c.args.overlay.now.ranks.blocks c.loop-at.at) (entry_slots c.args.definition.now c.args.overlay.now))) (committed_slots c.args.definition.now c.args.committed.now))) c.args.committed.now.hold c.loop-at.invariant.rows c.loop-at.invariant.kept

pub after-at-requires-clause-within : goal.after-at-requires-clause-within
after-at-requires-clause-within c = within_by (slice_get c.args.overlay.now.entries.items) (flat c.args.overlay.now.ranks.blocks) (place c.args.overlay.now.ranks.blocks c.loop-at.at) c.in-Some.entry.now c.in-Some.ensures

pub loop-at-smaller : goal.loop-at-smaller
loop-at-smaller c = omega (arith, c.after-at.ensures.place, within_by (slice_get c.args.overlay.now.entries.items) (flat c.args.overlay.now.ranks.blocks) (place c.args.overlay.now.ranks.blocks c.loop-at.at) c.in-Some.entry.now c.in-Some.ensures)

pub loop-at-preserved : goal.loop-at-preserved
loop-at-preserved c = record {
  spot = c.after-at.ensures.spot;
  rows = c.leave.ensures.rows ∙ c.loop-at.invariant.rows;
  order = c.leave.ensures.order ∙ c.loop-at.invariant.order;
  hold = c.leave.ensures.hold ∙ c.loop-at.invariant.hold;
  kept =
      hide_kept c.args.definition.now c.args.committed.now c.loop-at.committed c.leave.new.self.indexes.items c.args.overlay.now (place c.args.overlay.now.ranks.blocks c.loop-at.at) (place c.args.overlay.now.ranks.blocks c.after-at.result) c.in-Some.entry.now c.get.result.now
      c.loop-at.invariant.rows c.loop-at.invariant.order c.requires.rises c.requires.rising c.requires.apart c.in-Some.ensures c.get.ensures c.after-at.ensures.place c.args.committed.now.hold c.loop-at.invariant.kept c.leave.ensures.left;
}

pub returns-clause-below : goal.returns-clause-below
returns-clause-below c =
    hidden_to c.args.definition.now c.args.committed.now c.loop-at.committed (entry_slots c.args.definition.now c.args.overlay.now) (place c.args.overlay.now.ranks.blocks c.loop-at.at) (entries_over c.args.definition.now c.args.overlay.now (place c.args.overlay.now.ranks.blocks c.loop-at.at) c.in_default.ensures)
    c.loop-at.invariant.rows c.loop-at.invariant.order c.loop-at.invariant.hold c.requires.below.fits c.loop-at.invariant.kept
