-- A stage whose rows and changes are those of an earlier one.
use Rattle.std.specs.Prelude.{◌≡◌}
use Rattle.exec_state.specs.declared.stage.Stage.{Stage}

-- the rows and changes of an earlier stage, with all else as it was used since
pub record StandsBack (start now back : Stage) : Type 0 where
  pub tables : back.tables.tables ≡ start.tables.tables
  pub undo : back.undo ≡ start.undo
  pub counters : back.counters ≡ now.counters
  pub seeds : back.seeds ≡ now.seeds
  pub turns : back.turns ≡ now.turns
  pub uuids : back.uuids ≡ now.uuids

-- the rows and changes are as they were
pub record IsBack (start back : Stage) : Type 0 where
  pub tables : back.tables.tables ≡ start.tables.tables
  pub undo : back.undo ≡ start.undo
