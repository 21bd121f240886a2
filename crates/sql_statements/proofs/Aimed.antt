-- The table that is changed, where it is found.
use Rattle.std.proofs.Common.{◌≡◌, ℕ, List, Some, sym, ap, ◌∙◌}
use Rattle.std.specs.Prelude.{slice_get}
use Rattle.std.specs.Option.{option_map}
use Rattle.val_types.specs.declared.definitions.TableDef.{TableDef}
use Rattle.table_rules.specs.Tables.{Table}
use Rattle.table_rules.specs.Stores.{place_of, definitions_of}
use Rattle.changed_rows.proofs.of_dml_rows.Noting.{name_there}
use Rattle.exec_state.specs.declared.stage.Stage.{Stage}
use Rattle.exec_state.specs.Stage.{scene_of}
use Rattle.exec_state.proofs.Snapshots.{not_there, no_definition, found_there}
use Rattle.changed_rows.proofs.Places.{stands_on}
use Rattle.changed_rows.specs.Changed.{StandsAt}
use Rattle.sql_statements.specs.declared.target.Target.{Target}
use Rattle.sql_statements.specs.Changed.{IsTarget}

-- it stands on where it stood
pub ruleset standing = (stands_on)

-- ---- it is found

place_named : (name : List ℕ) (d : TableDef) (ts : List Table) (at : ℕ) → d.name ≡ name → place_of name ts ≡ Some at → place_of d.name ts ≡ Some at
place_named name d ts at same h = ap (λ (n : List ℕ). place_of n ts) same ∙ h

pub found_so : (target : Target) (name : List ℕ) (stage : Stage)
    → place_of name stage.tables.tables ≡ Some target.at → slice_get (definitions_of stage.tables.tables) target.at ≡ Some target.definition
    → IsTarget target name stage
unfolding StandsAt scene_of
found_so target name stage place there = record {
  stands = record {
    place = place_named name target.definition stage.tables.tables target.at (name_there name target.definition.name stage.tables.tables target.at (ap (option_map (λ (d : TableDef). d.name)) (sym there)) place) place;
    there = there;
  };
  place = place;
  table = λ rows is. found_there name (scene_of stage) target.at target.definition rows place there is;
}

pub ruleset aiming = (not_there, no_definition, found_so)

-- ---- its rows

pub stands_there : (target : Target) (name : List ℕ) (stage : Stage) → IsTarget target name stage → StandsAt target.at target.definition stage
stands_there target name stage h = h.stands

pub ruleset found = (stands_there)
