-- What an item's statement gives where it runs again, with what it began with.
use Rattle.std.specs.Prelude.{◌≡◌, ◌≤◌, ℕ, List, [], ◌∷◌, ◌++◌, Some}
use Rattle.val_types.specs.declared.change.Change.{Change}
use Rattle.val_types.specs.declared.value.Value.{Value}
use Rattle.sql_tree.specs.Tree.{Trees}
use Rattle.sql_tree.specs.Statement.{evaluate}
use Rattle.sql_locals.specs.declared.locals.Local.{Local}
use Rattle.name_const_laws.specs.catalog_rules.Bases.{Base}
use Rattle.name_const_laws.specs.log_entries.declared.entries.Entry.{Entry}
use Rattle.name_const_laws.specs.log_entries.declared.entries.Entry.TheVariants.{Transaction, Definition, LogStart}
use Rattle.name_const_laws.specs.log_entries.Entries.{entry_applied}
use Rattle.name_const_laws.specs.sql_meaning.Scenes.{Scene, Ending, done, failed}
use Rattle.name_const_laws.specs.sql_meaning.Frames.{Setting}
use Rattle.name_const_laws.specs.sql_meaning.Changing.{Did, affected_rows}
use Rattle.name_const_laws.specs.sql_meaning.Running.{most_nested, most_turns, effect, evaluation}
use Rattle.session_model.specs.Sessions.{tables_with}
use Rattle.name_const_laws.specs.sql_reach.Carrying.{carried}
use Rattle.name_const_laws.specs.sql_reach.Defining.{number_of_bytes}
use Rattle.session_model.specs.Running.{Began, setting_of}
use Rattle.session_model.specs.Machine.{Whole}
use Rattle.session_model.specs.Holding.{changes_of, define}

-- ---- one item

-- the scene in which an item runs again: a base with the changes before it made, and the counters, seeds, turns and UUIDs that
-- it began with
abbrev pub scene_again : Base → List Change → Began → Scene
scene_again base before began = record {
  tables = tables_with before base.tables;
  changes = before;
  counters = began.counters;
  seeds = began.context.seeds;
  turns = began.turns;
  uuids = began.uuids;
}

-- an item's statement, run there with the catalog, the context, the draw and the nesting that it began with
abbrev pub run_again : Base → List Change → Began → Ending Did
run_again base before began =
    effect (setting_of began.catalog began.context (number_of_bytes 0 began.draw.uuid)) began.nesting [] began.tree (scene_again base before began)

-- An item gives its changes on a base, behind the changes before it: its statement runs again without an error and makes just
-- them, and the catalog that it began with is that of the base. What it says of itself is so: the first value that it generated is
-- its statement's, it carries just the parts that this reaches of the context before it, and it began with no more nesting and turns
-- than a command has.
pub record Gives (base : Base) (before : List Change) (i : Whole) : Type 0 where
  pub did : Did
  pub scene : Scene
  pub ends : run_again base before i.began ≡ done did scene
  pub changes : scene.changes ≡ before ++ changes_of i
  pub catalog : i.began.catalog ≡ base.catalog
  pub first : did.first ≡ i.kept.carried.first
  pub carries : i.kept.carried ≡ carried i.began.catalog i.began.tree i.began.context did.first
  pub nesting : i.began.nesting ≤ most_nested
  pub turns : i.began.turns ≤ most_turns

-- ---- items and entries

-- items give their changes one after the other, each behind the changes of those before it
abbrev pub AllGive : Base → List Change → List Whole → Type 0
AllGive base before [] = Unit {0}
AllGive base before (i ∷ is) = Gives base before i × AllGive base (before ++ changes_of i) is

-- the items of a transaction give their changes on the base that it began with; other entries have no statement that changes rows
abbrev pub EntryGives : Base → Entry Whole → Type 0
EntryGives base (Transaction stamp server items) = AllGive base [] items
EntryGives base (Definition stamp server item) = Unit {0}
EntryGives base (LogStart stamp server) = Unit {0}

-- the transactions of entries, one after the other, each on the base that the entries before it made; in a run all entries can be
-- made (`Holds`), so that none is passed over
abbrev pub EntriesGive : Base → List (Entry Whole) → Type 0
EntriesGive base [] = Unit {0}
EntriesGive base (e ∷ es) = EntryGives base e × ((next : Base) → entry_applied changes_of define e base ≡ Some next → EntriesGive next es)

-- ---- SET, logged as the DO over its expressions

-- how a DO ends where the evaluation of its expressions ends so
abbrev pub without_values : Ending (List Value) → Ending Did
without_values (done vs scene) = done (affected_rows 0) scene
without_values (failed code scene) = failed code scene

-- the DO over some expressions ends as their evaluation does, on the same scene
abbrev pub SetsRunAsDos : Type 0
SetsRunAsDos =
    (setting : Setting) (nesting : ℕ) (locals : List Local) (ts : Trees) (scene : Scene)
    → effect setting nesting locals (evaluate ts) scene ≡ without_values (evaluation setting nesting locals ts scene)
