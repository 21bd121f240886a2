-- One change of a row that is read from a log, made to tables as it is: no trigger runs.
use Rattle.std.specs.Prelude.{ℕ, ◌==◌, ◌&&◌, ◌||◌, not, max, Bool, true, false, if◌then◌else◌, List, [], ◌∷◌, map, Option, Some, None, Result, Ok, Err, unwrap_or, slice_index_or}
use Rattle.std.specs.List.{list_all}
use Rattle.std.specs.Option.{option_map_or}
use Rattle.val_types.specs.declared.change.Change.{Change}
use Rattle.val_types.specs.declared.change.Change.TheVariants.{Insert, Update, Delete}
use Rattle.val_types.specs.declared.definitions.ColType.{ColType}
use Rattle.val_types.specs.declared.definitions.ColType.TheVariants.{Int as IntType, BigInt, Varchar}
use Rattle.val_types.specs.declared.definitions.ColumnDef.{ColumnDef}
use Rattle.val_types.specs.declared.definitions.TableDef.{TableDef}
use Rattle.val_types.specs.declared.value.Value.{Value}
use Rattle.val_types.specs.declared.value.Value.TheVariants.{Null, Int, Text}
use Rattle.val_types.specs.Changes.{table_of}
use Rattle.val_types.specs.Fitting.{is_null}
use Rattle.val_types.specs.Keys.{primary_key}
use Rattle.auto_inc.specs.declared.counters.Counter.{Counter}
use Rattle.auto_inc.specs.Counting.{behind, changed_for}
use Rattle.table_rules.specs.Tables.{Table}
use Rattle.table_rules.specs.Changes.{applied, may_put, without}
use Rattle.table_rules.specs.Stored.{table_named}
use Rattle.event_codec.specs.Event.{Map}
use Rattle.binlog_sizes.specs.log_model.Images.{map_types}
use Rattle.apply_model.specs.Stops.{Differs}

-- ---- the columns of a map and of a table

abbrev pub is_same_type : ColType → ColType → Bool
is_same_type IntType IntType = true
is_same_type IntType BigInt = false
is_same_type IntType (Varchar n) = false
is_same_type BigInt IntType = false
is_same_type BigInt BigInt = true
is_same_type BigInt (Varchar n) = false
is_same_type (Varchar m) IntType = false
is_same_type (Varchar m) BigInt = false
is_same_type (Varchar m) (Varchar n) = m == n

-- as many columns, each of the same type and, for texts, of the same greatest length; names are not in a log
abbrev pub are_same_types : List ColType → List ColType → Bool
are_same_types [] [] = true
are_same_types [] (k ∷ ks) = false
are_same_types (j ∷ js) [] = false
are_same_types (j ∷ js) (k ∷ ks) = is_same_type j k && are_same_types js ks

abbrev pub types_of : TableDef → List ColType
types_of d = map (λ (c : ColumnDef). c.kind) d.columns

-- no NULL stands in a column that takes none
abbrev pub takes_row : List ColumnDef → List Value → Bool
takes_row [] vs = true
takes_row (c ∷ cs) [] = true
takes_row (c ∷ cs) (v ∷ vs) = (c.nullable || not (is_null v)) && takes_row cs vs

-- the rows that a change speaks of
abbrev pub images_of : Change → List (List Value)
images_of (Insert name row) = row ∷ []
images_of (Update name before after) = before ∷ after ∷ []
images_of (Delete name row) = row ∷ []

abbrev pub matches : Map → TableDef → Change → Bool
matches m d c = are_same_types (map_types m) (types_of d) && list_all (takes_row d.columns) (images_of c)

-- ---- why a change cannot be made

-- an error, with the key that it names
abbrev pub Refusal : Type 0
Refusal = ℕ × List Value

-- 1062: a key of the row to put is that of another row
abbrev pub taken_if : Bool → TableDef → List Value → Option Refusal
taken_if true d row = None
taken_if false d row = Some (1062, primary_key d row)

-- 1032: no row with just these values is there; else whether the new one may be put beside the others
abbrev pub replacing : TableDef → List Value → List Value → Option (List (List Value)) → Option Refusal
replacing d before after None = Some (1032, primary_key d before)
replacing d before after (Some others) = taken_if (may_put d after others) d after

abbrev pub removing : TableDef → List Value → Option (List (List Value)) → Option Refusal
removing d row None = Some (1032, primary_key d row)
removing d row (Some others) = None

abbrev pub storing_refusal : TableDef → List (List Value) → Change → Option Refusal
storing_refusal d rows (Insert name row) = taken_if (may_put d row rows) d row
storing_refusal d rows (Update name before after) = replacing d before after (without before rows)
storing_refusal d rows (Delete name row) = removing d row (without row rows)

-- 30010: the map's columns are not those of the table, or a NULL stands where none may
abbrev pub table_refusal : Map → Change → Table → Option Refusal
table_refusal m c t = if matches m t.definition c then storing_refusal t.definition t.rows c else Some (30010, [])

-- 1146: there is no such table
abbrev pub change_refusal : Map → List Table → Change → Option Refusal
change_refusal m tables c = option_map_or (table_refusal m c) (table_named (table_of c) tables) (Some (1146, []))

-- ---- the counter

-- the number behind a value of an AUTO_INCREMENT column
abbrev pub behind_value : Value → ℕ
behind_value Null = 0
behind_value (Int n) = behind n
behind_value (Text t) = 0

-- a row that is put raises its table's counter, as an explicit value would
abbrev pub raised_by : List ℕ → List Value → Option ℕ → List Counter → List Counter
raised_by name row None counters = counters
raised_by name row (Some column) counters =
    changed_for name (λ n. max n (behind_value (slice_index_or row column Null))) counters

abbrev pub raised_in : List ℕ → List Value → Option Table → List Counter → List Counter
raised_in name row None counters = counters
raised_in name row (Some t) counters = raised_by name row t.definition.auto counters

-- only an insert moves it
abbrev pub counters_moved : List Table → Change → List Counter → List Counter
counters_moved tables (Insert name row) counters = raised_in name row (table_named name tables) counters
counters_moved tables (Update name before after) counters = counters
counters_moved tables (Delete name row) counters = counters

-- ---- one change

-- What an applier works on in a group: the tables with the changes of the group so far, and the counters.
pub record Store : Type 0 where
  pub tables : List Table
  pub counters : List Counter

-- the change made
abbrev pub with_change : Change → Store → Store
with_change c s = record { tables = unwrap_or (applied c s.tables) s.tables; counters = counters_moved s.tables c s.counters }

abbrev pub change_if : (place : ℕ) → Change → Store → Option Refusal → Result Store Differs
change_if place c s None = Ok (with_change c s)
change_if place c s (Some refusal) = Err (record { place = place; code = refusal.0; table = table_of c; key = refusal.1 })

-- a change of an event at a place, by the map of its table
abbrev pub carry_change : (place : ℕ) → Map → Change → Store → Result Store Differs
carry_change place m c s = change_if place c s (change_refusal m s.tables c)
