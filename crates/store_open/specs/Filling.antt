-- The last of some tables, filled with rows one after the other.
use Rattle.std.specs.Prelude.{◌≡◌, ℕ, Bool, true, false, List, [], ◌∷◌, ◌++◌, take, Option, Some, None}
use Rattle.val_types.specs.declared.value.Value.{Value}
use Rattle.val_types.specs.declared.definitions.TableDef.{TableDef}
use Rattle.table_rules.specs.Tables.{Table}
use Rattle.table_rules.specs.Stored.{table_named}
use Rattle.store_model.specs.Snapshots.{table_of_rows}

-- tables, and behind them one of a definition with rows
abbrev pub ends_with : List Table → TableDef → List (List Value) → List Table
ends_with before d rows = before ++ record { definition = d; rows = rows } ∷ []

-- rows may be those of a table
abbrev pub AreRows : TableDef → List (List Value) → Type 0
AreRows d rows = table_of_rows d rows ≡ Some (record { definition = d; rows = rows })

-- the table of a name is the last, and has no rows
pub record IsEmpty (before : List Table) (d : TableDef) (name : List ℕ) (tables : List Table) : Type 0 where
  pub named : d.name ≡ name
  pub apart : table_named d.name before ≡ None
  pub is : tables ≡ ends_with before d []

-- the first of some rows were put into it; where all of them may be its rows, it has just these
pub record Filling (before : List Table) (d : TableDef) (all : List (List Value)) (i : ℕ) (tables : List Table) : Type 0 where
  pub rows : List (List Value)
  pub is : tables ≡ ends_with before d rows
  pub front : AreRows d all → rows ≡ take i all

-- all rows are in it, and may be, or they may not be those of a table
abbrev pub IsFilled : Bool → List Table → TableDef → List (List Value) → List Table → Type 0
IsFilled true before d rows tables = AreRows d rows × (tables ≡ ends_with before d rows)
IsFilled false before d rows tables = table_of_rows d rows ≡ None

-- so far, or not
abbrev pub FillsOn : Bool → List Table → TableDef → List (List Value) → ℕ → List Table → Type 0
FillsOn true before d all i tables = Filling before d all i tables
FillsOn false before d all i tables = table_of_rows d all ≡ None

-- rows are others, or they are not
abbrev pub AreSame : Bool → List (List Value) → List (List Value) → Type 0
AreSame true rows others = rows ≡ others
AreSame false rows others = rows ≡ others → ⊥
