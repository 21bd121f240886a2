-- Two scenes in which a statement does the same, whoever runs it: what they have in common.
use Rattle.std.specs.Prelude.{◌≡◌, List}
use Rattle.table_rules.specs.Stores.{definitions_of}
use Rattle.session_ctx.specs.catalog_rules.Bases.{definitions_in}
use Rattle.session_ctx.specs.catalog_rules.Objects.{Object}
use Rattle.session_ctx.specs.sql_meaning.Scenes.{Scene, Ending, done, failed}

-- The same tables with the definitions of the catalog, the same changes, as many turns; the same seeds where RAND() is reached. Counters
-- and the count of UUIDs are not in it.
pub record AreAlike (random : Type 0) (objects : List Object) (a b : Scene) : Type 0 where
  pub tables : b.tables ≡ a.tables
  pub changes : b.changes ≡ a.changes
  pub turns : b.turns ≡ a.turns
  pub seeds : random → b.seeds ≡ a.seeds
  pub theirs : definitions_of a.tables ≡ definitions_in objects

-- what is done is done in the other one, too; nothing is said of an error
abbrev pub EndsAlike : {A : Type 0} → Type 0 → List Object → Ending A → Ending A → Type 0
EndsAlike random objects (done x a) (done y b) = (x ≡ y) × AreAlike random objects a b
EndsAlike random objects (done x a) (failed code b) = ⊥
EndsAlike random objects (failed code a) other = Unit {0}
