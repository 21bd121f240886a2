-- Objects of a snapshot made one after the other.
use Rattle.std.specs.Prelude.{◌≡◌, ℕ, Bool, true, false, List, [], ◌∷◌, ◌++◌, Option, Some, None}
use Rattle.std.specs.Option.{option_map}
use denote.Ref.{Bor}
use Rattle.val_types.specs.declared.definitions.TableDef.{TableDef}
use Rattle.table_rules.specs.Tables.{Table}
use Rattle.sql_tree.specs.Statement.{Statement, create_table}
use Rattle.sql_tree.specs.StatementView.{view}
use Rattle.sql_parse.specs.declared.parsing.Parsed.{Parsed}
use Rattle.store_model.specs.log_model.Images.{Read, and_then}
use Rattle.store_model.specs.sql_reach.catalog_rules.Bases.{Base}
use Rattle.store_model.specs.Reading.{all_behind, row_in}
use Rattle.store_model.specs.Snapshots.{table_of_rows}
use Rattle.prog_work.specs.Contents.{Contents, base_of}

-- the name of the table that a statement makes
abbrev pub table_made : Statement → Option (List ℕ)
table_made (create_table t) = Some t.name
table_made s = None

-- a statement that was read
abbrev pub parsed_view : Parsed → Statement
parsed_view p = view p.statement.value

-- a base with rows in its last table, of a definition, behind the tables before it
abbrev pub filled_by : TableDef → (before : List Table) → (made : Base) → List ℕ → Read Base
filled_by d before made bytes =
    and_then (λ rows rest. option_map (λ filled_table. (record made { tables = before ++ filled_table ∷ [] }, rest)) (table_of_rows d rows))
    (all_behind 8 row_in bytes)

-- a base was read, with no change to take back, and what is behind it; or none could be
abbrev pub BaseRead : Option (Bor (List ℕ)) → Read Base → Contents → Type 0
BaseRead None made after = made ≡ None
BaseRead (Some rest) made after = (made ≡ Some (base_of after, rest.now)) × (after.changes ≡ [])

-- the last table was filled, with no change to take back, and nothing else is changed
pub record Fills (before after : Contents) : Type 0 where
  pub objects : after.objects ≡ before.objects
  pub none : after.changes ≡ []

-- a base was read on its own
abbrev pub IsBaseRead : Option (Contents × Bor (List ℕ)) → Read Base → Type 0
IsBaseRead None made = made ≡ None
IsBaseRead (Some (work, rest)) made = (made ≡ Some (base_of work, rest.now)) × (work.changes ≡ [])
