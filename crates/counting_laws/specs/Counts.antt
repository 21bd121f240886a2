-- Affected rows and changes: what a statement counts is bounded by the changes that it makes.
use Rattle.std.specs.Prelude.{◌≡◌, ℕ, ◌+◌, ◌*◌, ◌≤◌, Bool, List, length, Option, ℤ}
use Rattle.val_types.specs.declared.value.Value.{Value}
use Rattle.val_types.specs.declared.definitions.TableDef.{TableDef}
use Rattle.sql_tree.specs.Tree.{Tree, Part, Orders}
use Rattle.sql_tree.specs.Statement.{Statement, Supply}
use Rattle.sql_tree.specs.declared.expressions.Count.{Count}
use Rattle.sql_tree.specs.declared.statements.Time.{Time}
use Rattle.sql_tree.specs.declared.statements.Cause.{Cause}
use Rattle.sql_locals.specs.declared.locals.Local.{Local}
use Rattle.sql_meaning.specs.Scenes.{Scene, done, Action}
use Rattle.sql_meaning.specs.Frames.{Setting, Running, Below, World, Frame}
use Rattle.sql_meaning.specs.Changing.{Inserting, Counted, Manner, Did, delete_row, update_row, clear_way, put_row, place_row, insert_row, insert_into_table, update_table, delete_from_table}
use Rattle.sql_meaning.specs.Running.{level_of, perform, effect}
use Rattle.sql_meaning.specs.Leading.{scene_after}

-- ---- what is said of actions

-- the changes of one scene are as many as those of an earlier one, or more
pub record Grows (old new : Scene) : Type 0 where
  pub more : length old.changes ≤ length new.changes

-- where an action ends with a value, its count is at most one from before and so many for each change that it added
abbrev pub CountsChanges : {A : Type 0} → ℕ → (A → ℕ) → ℕ → Action A → Type 0
CountsChanges {A} each_one count before m =
    (scene after : Scene) (a : A) → m scene ≡ done a after → count a + each_one * length scene.changes ≤ before + each_one * length after.changes

-- what functions and triggers do one level further down takes no change back
pub record KeepsChanges (below : Below) : Type 0 where
  pub calls : (running : Running) (name : List ℕ) (arguments : List Value) (scene : Scene) → Grows scene (scene_after (below.call running name arguments scene))
  pub fires : (running : Running) (time : Time) (event : Cause) (d : TableDef) (new old : Option (List Value)) (scene : Scene) → Grows scene (scene_after (below.fire running time event d new old scene))

-- so it is at each level
abbrev pub LevelsKeepChanges : Type 0
LevelsKeepChanges = (setting : Setting) (nesting : ℕ) → KeepsChanges (level_of setting nesting)

-- ---- rows

-- a number itself, the count of an action that gives one
abbrev pub itself : ℕ → ℕ
itself n = n

-- a row deleted is a change
abbrev pub DeletedRowsCount : Type 0
DeletedRowsCount = (world : World) → KeepsChanges world.below → (d : TableDef) (row : List Value) → CountsChanges 1 (λ (_ : Unit {0}). 1) 0 (delete_row world d row)

-- so are those that REPLACE deletes
abbrev pub ClearedRowsCount : Type 0
ClearedRowsCount = (world : World) → KeepsChanges world.below → (d : TableDef) (tests : List (List Value → Bool)) → CountsChanges 1 itself 0 (clear_way world d tests)

-- a row updated is a change, or counts nothing
abbrev pub UpdatedRowsCount : Type 0
UpdatedRowsCount =
    (world : World) → KeepsChanges world.below → (frame : Frame) (d : TableDef) (sets : List (List ℕ × Tree)) (old : List Value) → CountsChanges 1 itself 0 (update_row world frame d sets old)

-- A row of INSERT or REPLACE counts at most 2 for each change: 1 for the row put in and for each that is deleted, 2 for one that ON DUPLICATE KEY
-- UPDATE changes.
abbrev pub affected_of : Inserting → ℕ
affected_of so_far = so_far.affected

abbrev pub PutRowsCount : Type 0
PutRowsCount = (world : World) → KeepsChanges world.below → (d : TableDef) (counted : Counted) (so_far : Inserting) → CountsChanges 2 affected_of so_far.affected (put_row world d counted so_far)

abbrev pub PlacedRowsCount : Type 0
PlacedRowsCount =
    (world : World) → KeepsChanges world.below → (frame : Frame) (d : TableDef) (manner : Manner) (counted : Counted) (so_far : Inserting)
    → CountsChanges 2 affected_of so_far.affected (place_row world frame d manner counted so_far)

abbrev pub InsertedRowsCount : Type 0
InsertedRowsCount =
    (world : World) → KeepsChanges world.below → (frame : Frame) (forced : Option ℤ) (d : TableDef) (places : List ℕ) (manner : Manner) (so_far : Inserting) (vs : List Value)
    → CountsChanges 2 affected_of so_far.affected (insert_row world frame forced d places manner so_far vs)

-- ---- statements

abbrev pub did_affect : Did → ℕ
did_affect did = did.affected

abbrev pub InsertsCount : Type 0
InsertsCount =
    (world : World) → KeepsChanges world.below → (frame : Frame) (forced : Option ℤ) (t : List ℕ) (names : Option (List (List ℕ))) (supply : Supply) (manner : Manner)
    → CountsChanges 2 did_affect 0 (insert_into_table world frame forced t names supply manner)

-- UPDATE and DELETE count at most their changes
abbrev pub UpdatesCount : Type 0
UpdatesCount =
    (world : World) → KeepsChanges world.below → (frame : Frame) (t : List ℕ) (sets : List (List ℕ × Tree)) (condition : Part) (os : Orders) (limit : Option Count)
    → CountsChanges 1 did_affect 0 (update_table world frame t sets condition os limit)

abbrev pub DeletesCount : Type 0
DeletesCount =
    (world : World) → KeepsChanges world.below → (frame : Frame) (t : List ℕ) (condition : Part) (os : Orders) (limit : Option Count)
    → CountsChanges 1 did_affect 0 (delete_from_table world frame t condition os limit)

-- a statement of a session, and one of a body, counts at most 2 for each change
abbrev pub PerformedCount : Type 0
PerformedCount =
    (world : World) → KeepsChanges world.below → (frame : Frame) (forced : Option ℤ) (s : Statement) → CountsChanges 2 did_affect 0 (perform world frame forced s)

abbrev pub StatementsCount : Type 0
StatementsCount = (setting : Setting) (nesting : ℕ) (locals : List Local) (s : Statement) → CountsChanges 2 did_affect 0 (effect setting nesting locals s)
