-- Where a table stands, and that it stands there still.
use Rattle.std.proofs.Common.{◌≡◌, ℕ, List, Some, ap, ◌∙◌}
use Rattle.std.specs.Prelude.{slice_get}
use Rattle.val_types.specs.declared.definitions.TableDef.{TableDef}
use Rattle.table_rules.specs.Leads.{Leads}
use Rattle.table_rules.specs.Stores.{place_of, definitions_of}
use Rattle.table_rules.proofs.Places.{places_stay}
use Rattle.sql_evaluation.specs.exec_state.declared.stage.Stage.{Stage}
use Rattle.sql_evaluation.specs.exec_state.Stage.{LeadsOn}
use Rattle.sql_evaluation.proofs.of_exec_state.Leading.{rows_led, stage_stays, stage_on}
use Rattle.changed_rows.specs.Changed.{StandsAt}

-- it has the place of its name
pub stands_place : (at : ℕ) (d : TableDef) (s : Stage) → StandsAt at d s → place_of d.name s.tables.tables ≡ Some at
unfolding StandsAt
stands_place at d s h = h.place

pub stands_there : (at : ℕ) (d : TableDef) (s : Stage) → StandsAt at d s → slice_get (definitions_of s.tables.tables) at ≡ Some d
unfolding StandsAt
stands_there at d s h = h.there

-- it stands there where a name leads to the place
pub stands_from : (at : ℕ) (d : TableDef) (s : Stage) → place_of d.name s.tables.tables ≡ Some at → slice_get (definitions_of s.tables.tables) at ≡ Some d → StandsAt at d s
unfolding StandsAt
stands_from at d s place there = record { place = place; there = there }

-- it stands there still
pub stands_on : (at : ℕ) (d : TableDef) (a b : Stage) → StandsAt at d a → LeadsOn a b → StandsAt at d b
unfolding StandsAt
stands_on at d a b h p =
    let led : Leads a.tables a.undo b.tables b.undo = rows_led a b p in record {
      place = places_stay d.name a.tables.tables b.tables.tables led.same ∙ h.place;
      there = ap (λ (ds : List TableDef). slice_get ds at) led.same ∙ h.there;
    }

pub ruleset standing = (stage_stays, stage_on, stands_place, stands_on)

-- the stage leads on from itself, and behind what led on
pub ruleset leading = (stage_stays, stage_on)
