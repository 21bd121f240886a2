use Rattle.std.proofs.Common.{ℕ, suc, ◌+◌, drop, sym, ap, ◌∙◌, arith}
use Rattle.std.specs.Prelude.{slice_get, option_copied}
use Rattle.std.proofs.lemmas.List.{length-map}
use Rattle.row_index.specs.block_list.Layouts.{flat}
use Rattle.row_index.specs.block_list.Spots.{place}
use Rattle.table_sheet.specs.Counts.{puts, takes}
use Rattle.table_sheet.specs.Parts.{committed_slots, entry_slots}
use Rattle.table_sheet.specs.Ranked.{entry_slot}
use Rattle.table_sheet.proofs.Counted.{puts_next, takes_next, puts_few, takes_few, sum_next, sum_end}
use Rattle.table_sheet.proofs.Passing.{within_by, entries_over}
use Rattle.table_sheet.proofs.counting.counts.Goals as goal

pub overflow_add-puts : goal.overflow_add-puts
overflow_add-puts c =
    omega (
      arith,
      c.loop-at.invariant.put,
      puts_next c.args.definition.now c.args.committed.now c.args.overlay.now (place c.args.overlay.now.ranks.blocks c.loop-at.at) c.in-Some.entry.now c.get.result.now (option_copied c.get_same-below.result) c.in-Some.ensures c.get.ensures c.get_same-below.ensures,
      c.put_by-puts.ensures,
      puts_few (committed_slots c.args.definition.now c.args.committed.now) (entry_slots c.args.definition.now c.args.overlay.now),
      length-map (flat c.args.overlay.now.ranks.blocks) (entry_slot c.args.definition.now c.args.overlay.now.entries.items),
      c.len.ensures.count,
      c.len.ensures.few,
    )

pub overflow_add-takes : goal.overflow_add-takes
overflow_add-takes c =
    omega (
      arith,
      c.loop-at.invariant.taken,
      takes_next c.args.definition.now c.args.committed.now c.args.overlay.now (place c.args.overlay.now.ranks.blocks c.loop-at.at) c.in-Some.entry.now c.get.result.now (option_copied c.get_same-below.result) c.in-Some.ensures c.get.ensures c.get_same-below.ensures,
      c.taken_by-takes.ensures,
      takes_few (committed_slots c.args.definition.now c.args.committed.now) (entry_slots c.args.definition.now c.args.overlay.now),
      length-map (flat c.args.overlay.now.ranks.blocks) (entry_slot c.args.definition.now c.args.overlay.now.entries.items),
      c.len.ensures.count,
      c.len.ensures.few,
    )

pub after-at-requires-clause-within : goal.after-at-requires-clause-within
after-at-requires-clause-within c = within_by (slice_get c.args.overlay.now.entries.items) (flat c.args.overlay.now.ranks.blocks) (place c.args.overlay.now.ranks.blocks c.loop-at.at) c.in-Some.entry.now c.in-Some.ensures

pub loop-at-smaller : goal.loop-at-smaller
loop-at-smaller c = omega (arith, c.after-at.ensures.place, within_by (slice_get c.args.overlay.now.entries.items) (flat c.args.overlay.now.ranks.blocks) (place c.args.overlay.now.ranks.blocks c.loop-at.at) c.in-Some.entry.now c.in-Some.ensures)

pub loop-at-preserved : goal.loop-at-preserved
loop-at-preserved c = record {
  spot = c.after-at.ensures.spot;
  put =
      sum_next (puts (committed_slots c.args.definition.now c.args.committed.now)) (entry_slots c.args.definition.now c.args.overlay.now) (place c.args.overlay.now.ranks.blocks c.loop-at.at) (place c.args.overlay.now.ranks.blocks c.after-at.result) c.loop-at.puts c.put_by-puts.result c.loop-at.invariant.put c.after-at.ensures.place
      (puts_next c.args.definition.now c.args.committed.now c.args.overlay.now (place c.args.overlay.now.ranks.blocks c.loop-at.at) c.in-Some.entry.now c.get.result.now (option_copied c.get_same-below.result) c.in-Some.ensures c.get.ensures c.get_same-below.ensures ∙ ap (λ (n : ℕ). n + puts (committed_slots c.args.definition.now c.args.committed.now) (drop (suc (place c.args.overlay.now.ranks.blocks c.loop-at.at)) (entry_slots c.args.definition.now c.args.overlay.now))) (sym c.put_by-puts.ensures));
  taken =
      sum_next (takes (committed_slots c.args.definition.now c.args.committed.now)) (entry_slots c.args.definition.now c.args.overlay.now) (place c.args.overlay.now.ranks.blocks c.loop-at.at) (place c.args.overlay.now.ranks.blocks c.after-at.result) c.loop-at.takes c.taken_by-takes.result c.loop-at.invariant.taken c.after-at.ensures.place
      (takes_next c.args.definition.now c.args.committed.now c.args.overlay.now (place c.args.overlay.now.ranks.blocks c.loop-at.at) c.in-Some.entry.now c.get.result.now (option_copied c.get_same-below.result) c.in-Some.ensures c.get.ensures c.get_same-below.ensures ∙ ap (λ (n : ℕ). n + takes (committed_slots c.args.definition.now c.args.committed.now) (drop (suc (place c.args.overlay.now.ranks.blocks c.loop-at.at)) (entry_slots c.args.definition.now c.args.overlay.now))) (sym c.taken_by-takes.ensures));
}

pub returns-clause-puts : goal.returns-clause-puts
returns-clause-puts c =
    sum_end (puts (committed_slots c.args.definition.now c.args.committed.now)) (entry_slots c.args.definition.now c.args.overlay.now) (place c.args.overlay.now.ranks.blocks c.loop-at.at) c.loop-at.puts c.loop-at.invariant.put
    (ap (puts (committed_slots c.args.definition.now c.args.committed.now)) (entries_over c.args.definition.now c.args.overlay.now (place c.args.overlay.now.ranks.blocks c.loop-at.at) c.in_default.ensures))

pub returns-clause-takes : goal.returns-clause-takes
returns-clause-takes c =
    sum_end (takes (committed_slots c.args.definition.now c.args.committed.now)) (entry_slots c.args.definition.now c.args.overlay.now) (place c.args.overlay.now.ranks.blocks c.loop-at.at) c.loop-at.takes c.loop-at.invariant.taken
    (ap (takes (committed_slots c.args.definition.now c.args.committed.now)) (entries_over c.args.definition.now c.args.overlay.now (place c.args.overlay.now.ranks.blocks c.loop-at.at) c.in_default.ensures))

pub returns-clause-few : goal.returns-clause-few
returns-clause-few c =
    omega (
      arith,
      c.loop-at.invariant.put,
      puts_few (committed_slots c.args.definition.now c.args.committed.now) (entry_slots c.args.definition.now c.args.overlay.now),
      length-map (flat c.args.overlay.now.ranks.blocks) (entry_slot c.args.definition.now c.args.overlay.now.entries.items),
      c.len.ensures.count,
      c.len.ensures.few,
    )
