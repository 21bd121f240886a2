-- One change, by the steps in which it is made.
use Rattle.std.specs.Prelude.{◌≡◌, ℕ, Bool, false, if◌then◌else◌, List, Option, Some, None, Result, Ok, max, ℤ}
use Rattle.std.specs.Option.{option_map_or}
use Rattle.val_types.specs.declared.change.Change.{Change}
use Rattle.val_types.specs.declared.definitions.TableDef.{TableDef}
use Rattle.val_types.specs.declared.value.Value.{Value}
use Rattle.val_types.specs.Changes.{table_of}
use Rattle.val_types.specs.Keys.{primary_key, same_values}
use Rattle.auto_inc.specs.declared.counters.Counter.{Counter}
use Rattle.auto_inc.specs.Counting.{behind, changed_for}
use Rattle.table_rules.specs.Tables.{Table}
use Rattle.table_rules.specs.Stored.{table_named}
use Rattle.event_codec.specs.Event.{Map}
use Rattle.apply_model.specs.Stops.{Differs}
use Rattle.apply_model.specs.Rows.{carry_change, matches}
use Rattle.apply_model.specs.Texts.{Progress}
use Rattle.apply_model.specs.Groups.{and_then, with_store}

abbrev pub definition_of : Table → TableDef
definition_of table = table.definition

-- why the table of a change does not take it, whatever its rows
abbrev pub code_in : Map → Change → TableDef → Option ℕ
code_in m c d = if matches m d c then None else Some 30010

abbrev pub table_code : Map → List Table → Change → Option ℕ
table_code m tables c = option_map_or (λ (t : Table). code_in m c t.definition) (table_named (table_of c) tables) (Some 1146)

-- the primary key of a row in the table of a name, if there is one
abbrev pub IsKey : List ℕ → List Table → List Value → List Value → Type 0
IsKey name tables row key = (t : Table) → table_named name tables ≡ Some t → key ≡ primary_key t.definition row

-- whether a row that was found has some values
abbrev pub is_row : Option (List Value) → List Value → Bool
is_row None row = false
is_row (Some found) row = same_values row found

-- the counters, that of a table moved behind a value if there is one
abbrev pub raised_to : List ℕ → Option ℤ → List Counter → List Counter
raised_to name None counters = counters
raised_to name (Some value) counters = changed_for name (max (behind value)) counters

-- a change of a transaction under way
abbrev pub change_carried : (place : ℕ) → Map → Change → Progress → Result Progress Differs
change_carried place m c p = and_then (λ s. Ok (with_store c s p)) (carry_change place m c p.store)
