use Rattle.std.proofs.Common.{arith}
use Rattle.std.proofs.lemmas.List.{length-map}
use Rattle.val_types.specs.Keys.{primary_key}
use Rattle.row_index.specs.block_list.Layouts.{flat}
use Rattle.row_index.proofs.of_row_sheets.Orders.{missing_at}
use Rattle.table_sheet.specs.Numbered.{row_slot}
use Rattle.table_sheet.specs.Parts.{committed_slots}
use Rattle.table_sheet.proofs.Settled.{found_once, others_found}
use Rattle.table_sheet.proofs.Steps.{taken_none, put_settles, replaced_settles, nothing_settles}
use Rattle.table_sheet.proofs.committed.Committed.settle.Goals as goal

pub take_at-requires-clause-once : goal.take_at-requires-clause-once
take_at-requires-clause-once c =
    found_once (row_slot c.args.definition.now c.args.self.now.rows.rows) (primary_key c.args.definition.now c.args.bearer.now) c.args.self.now.order.blocks c.in-Ok.spot c.requires.rises c.in-Ok.ensures.found

pub put_at-requires-clause-room : goal.put_at-requires-clause-room
put_at-requires-clause-room c =
    omega (
      arith,
      c.requires.room,
      taken_none (primary_key c.args.definition.now c.args.bearer.now) (committed_slots c.args.definition.now c.args.self.now)
          (missing_at (row_slot c.args.definition.now c.args.self.now.rows.rows) (primary_key c.args.definition.now c.args.bearer.now) c.args.self.now.order.blocks c.in-Err.spot c.in-Err.ensures.found),
    )

pub put_at-requires-clause-few : goal.put_at-requires-clause-few
put_at-requires-clause-few c =
    omega (
      arith,
      c.requires.few,
      length-map (flat c.args.self.now.order.blocks) (row_slot c.args.definition.now c.args.self.now.rows.rows),
      taken_none (primary_key c.args.definition.now c.args.bearer.now) (committed_slots c.args.definition.now c.args.self.now)
          (missing_at (row_slot c.args.definition.now c.args.self.now.rows.rows) (primary_key c.args.definition.now c.args.bearer.now) c.args.self.now.order.blocks c.in-Err.spot c.in-Err.ensures.found),
    )

pub returns-in-Some-clause-slots : goal.returns-in-Some-clause-slots
returns-in-Some-clause-slots c =
    replaced_settles c.args.definition.now (primary_key c.args.definition.now c.args.bearer.now) c.in-Some.row c.args.present (row_slot c.args.definition.now c.args.self.now.rows.rows) c.args.self.now.order.blocks c.in-Ok.spot
    (committed_slots c.args.definition.now c.replace_at.new.self) c.in-Some.is c.requires.own c.requires.rises c.in-Ok.ensures.found (c.replace_at.ensures.slots c.args.definition.now c.requires.rises)

pub returns-in-Some-present-clause-slots : goal.returns-in-Some-present-clause-slots
returns-in-Some-present-clause-slots c =
    put_settles c.args.definition.now (primary_key c.args.definition.now c.args.bearer.now) c.in-Some-present.row c.args.present (row_slot c.args.definition.now c.args.self.now.rows.rows) c.args.self.now.order.blocks c.in-Err.spot
    (committed_slots c.args.definition.now c.put_at.new.self) c.in-Some-present.is c.requires.own c.in-Err.ensures.found (c.put_at.ensures.slots c.args.definition.now)

pub returns-in-Some-present-clause-room : goal.returns-in-Some-present-clause-room
returns-in-Some-present-clause-room c =
    omega (
      arith,
      c.put_at.ensures.room,
      taken_none (primary_key c.args.definition.now c.args.bearer.now) (committed_slots c.args.definition.now c.args.self.now)
          (missing_at (row_slot c.args.definition.now c.args.self.now.rows.rows) (primary_key c.args.definition.now c.args.bearer.now) c.args.self.now.order.blocks c.in-Err.spot c.in-Err.ensures.found),
    )

pub returns-in-None-present-clause-slots : goal.returns-in-None-present-clause-slots
returns-in-None-present-clause-slots c =
    nothing_settles (primary_key c.args.definition.now c.args.bearer.now) c.args.present (committed_slots c.args.definition.now c.args.self.now) c.in-None-present.is
    (missing_at (row_slot c.args.definition.now c.args.self.now.rows.rows) (primary_key c.args.definition.now c.args.bearer.now) c.args.self.now.order.blocks c.in-Err.spot c.in-Err.ensures.found)

pub returns-in-Some-clause-others : goal.returns-in-Some-clause-others
returns-in-Some-clause-others c = others_found c.args.definition.now (primary_key c.args.definition.now c.args.bearer.now) c.args.self.now.rows.rows c.replace_at.new.self.rows.rows c.args.self.now.order.blocks c.in-Ok.spot c.in-Ok.ensures.found c.replace_at.ensures.others

pub returns-in-None-clause-others : goal.returns-in-None-clause-others
returns-in-None-clause-others c = others_found c.args.definition.now (primary_key c.args.definition.now c.args.bearer.now) c.args.self.now.rows.rows c.take_at.new.self.rows.rows c.args.self.now.order.blocks c.in-Ok.spot c.in-Ok.ensures.found c.take_at.ensures.others

pub returns-in-Some-present-clause-others : goal.returns-in-Some-present-clause-others
returns-in-Some-present-clause-others c = λ m row has differs. c.put_at.ensures.others m row has

pub returns-in-None-present-clause-others : goal.returns-in-None-present-clause-others
returns-in-None-present-clause-others c = λ m row has differs. has
