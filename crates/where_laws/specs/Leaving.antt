-- Rows that a test does not keep and of which nothing is noticed.
use Rattle.std.specs.Prelude.{◌≡◌, Bool, false, List, filter}
use Rattle.std.specs.List.{AllByRecursion}
use Rattle.val_types.specs.declared.value.Value.{Value}
use Rattle.sql_meaning.specs.Scenes.{Scene, Action, done, kept_by}

-- a test that is false, and of which the scene shows nothing
pub record IsQuietlyFalse (m : Action Bool) : Type 0 where
  pub ends : (scene : Scene) → m scene ≡ done false scene

-- the test is so for each row that is to be left out
abbrev pub AreQuietBeside : (List Value → Bool) → (List Value → Action Bool) → List (List Value) → Type 0
AreQuietBeside stays test rows = AllByRecursion (λ row. stays row ≡ false → IsQuietlyFalse (test row)) rows

-- such rows may be left out
abbrev pub RowsMayBeLeftOut : Type 0
RowsMayBeLeftOut =
    (stays : List Value → Bool) (test : List Value → Action Bool) (rows : List (List Value)) → AreQuietBeside stays test rows
    → (scene : Scene) → kept_by test rows scene ≡ kept_by test (filter stays rows) scene
