-- Open changes set aside of a stage and put back.
use Rattle.std.specs.Prelude.{◌≡◌, []}
use Rattle.row_store.specs.Asides.{FitsIn, IsAside, with_aside}
use Rattle.row_store.specs.Asides as store
use Rattle.exec_state.specs.declared.stage.Stage.{Stage}
use Rattle.prog_work.specs.declared.aside.OpenChanges.{OpenChanges}

-- a stage that shows the rows that were last committed, and has no change
abbrev pub just_committed : Stage → Stage
just_committed stage = record stage { tables = store.just_committed stage.tables; undo = [] }

-- all open changes of a stage were set aside
pub record AreOpen (aside : OpenChanges) (stage : Stage) : Type 0 where
  pub rows : IsAside aside.rows stage.tables
  pub undo : aside.undo ≡ stage.undo

-- they can be put back into a stage
abbrev pub FitBack : OpenChanges → Stage → Type 0
FitBack aside stage = FitsIn aside.rows stage.tables

-- a stage that shows them again, in place of what it shows
abbrev pub are_back : OpenChanges → Stage → Stage
are_back aside stage = record stage { tables = with_aside aside.rows stage.tables; undo = aside.undo }
