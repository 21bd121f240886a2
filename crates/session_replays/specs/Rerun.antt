-- All committed statements run again, one after the other: what they make of a base.
use Rattle.std.specs.Prelude.{◌≡◌, List, [], ◌∷◌, Option, Some, None}
use Rattle.std.specs.Option.{option_map, option_and_then}
use Rattle.val_types.specs.declared.change.Change.{Change}
use Rattle.name_const_laws.specs.catalog_rules.Bases.{Base}
use Rattle.name_const_laws.specs.log_entries.declared.entries.Entry.{Entry}
use Rattle.name_const_laws.specs.log_entries.declared.entries.Entry.TheVariants.{Transaction, Definition, LogStart}
use Rattle.name_const_laws.specs.log_entries.Entries.{with_tables}
use Rattle.name_const_laws.specs.sql_meaning.Scenes.{Scene, Ending, done, failed}
use Rattle.session_model.specs.Sessions.{tables_with}
use Rattle.session_model.specs.Machine.{Whole, Machine}
use Rattle.session_model.specs.Holding.{Beginning, define}
use Rattle.session_replays.specs.Again.{run_again}
use Rattle.session_replays.specs.Replaying.{Replays}

-- what comes behind a statement that was done; nothing behind an error
abbrev pub if_done : {A B : Type 0} → (Scene → Option B) → Ending A → Option B
if_done next (done a scene) = next scene
if_done next (failed code scene) = None

-- the changes that the statements of items make, each run behind the changes of those before it
abbrev pub changes_again : Base → List Change → List Whole → Option (List Change)
changes_again base before [] = Some before
changes_again base before (i ∷ is) = if_done (λ scene. changes_again base scene.changes is) (run_again base before i.began)

abbrev pub with_changes : Base → List Change → Base
with_changes base changes = with_tables base (tables_with changes base.tables)

-- the base after an entry whose statements run again, whatever changes the entry itself has
abbrev pub entry_again : Entry Whole → Base → Option Base
entry_again (Transaction stamp server items) base = option_map (with_changes base) (changes_again base [] items)
entry_again (Definition stamp server item) base = define item base
entry_again (LogStart stamp server) base = Some base

abbrev pub after_again : List (Entry Whole) → Base → Option Base
after_again [] base = Some base
after_again (e ∷ es) base = option_and_then (after_again es) (entry_again e base)

-- the committed base is what the statements make of the first one
abbrev pub RunsAgain : Type 0
RunsAgain = (from : Beginning) (m : Machine) → Replays from m → after_again m.history from.base ≡ Some m.state.shared.base
