-- What INSERT, REPLACE, UPDATE and DELETE make of the rows of a table, row by row, with the triggers of the table.
use Rattle.std.specs.Prelude.{ℕ, ◌+◌, ◌*◌, ◌==◌, Bool, true, false, not, ◌&&◌, if◌then◌else◌, List, [], ◌∷◌, length, map, find, zip, Option, Some, None, ℤ, pos, unwrap_or, slice_get, slice_index_or, slice_set, int_le, is_none}
use Rattle.std.specs.List.{list_any, enumerate_from}
use Rattle.std.specs.Option.{option_map, option_map_or, option_or}
use Rattle.val_types.specs.declared.value.Value.{Value}
use Rattle.val_types.specs.declared.value.Value.TheVariants.{Null, Int, Text}
use Rattle.val_types.specs.declared.change.Change.TheVariants as changes
use Rattle.val_types.specs.declared.definitions.ColType.{ColType}
use Rattle.val_types.specs.declared.definitions.ColumnDef.{ColumnDef}
use Rattle.val_types.specs.declared.definitions.TableDef.{TableDef}
use Rattle.val_types.specs.Fitting.{fitting, greatest_of, is_null, row_fits}
use Rattle.val_types.specs.Keys.{primary_key, same_values}
use Rattle.auto_inc.specs.Generating.{Sequence, next_value, after_generated, after_explicit}
use Rattle.table_rules.specs.Tables.{Table}
use Rattle.table_rules.specs.Stored.{row_of_key, rows_beside, key_in_way, key_tests, row_in_way}
use Rattle.sql_tree.specs.Tree.{Tree, Part, Orders}
use Rattle.sql_tree.specs.Statement.{Supply, rows, rows_of}
use Rattle.sql_tree.specs.declared.expressions.Count.{Count}
use Rattle.sql_tree.specs.declared.statements.Time.TheVariants as times
use Rattle.sql_tree.specs.declared.statements.Cause.{Cause}
use Rattle.sql_tree.specs.declared.statements.Cause.TheVariants as causes
use Rattle.log_entries.specs.catalog_rules.Names.{place_among}
use Rattle.log_entries.specs.catalog_rules.Objects.{columns_of}
use Rattle.log_entries.specs.catalog_rules.Defined.{places_of}
use Rattle.log_entries.specs.catalog_rules.Checks.{given_columns}
use Rattle.sql_meaning.specs.Scenes.{Action, ◌>>=◌, pure, fail, answered, needed, require, each, kept_by, counted, carried_on, table_now, make, counter_now, raise_counter}
use Rattle.sql_meaning.specs.Frames.{World, Frame, sees, limited_to}
use Rattle.sql_meaning.specs.Values.{value, values, is_kept, order_values, rows_of_query, sorted, directions}

-- ---- rows and their columns

-- a value put where a type is declared, or 30002, 1264, 1406
abbrev pub fitted : ColType → Value → Action Value
fitted kind v = answered (fitting kind v) >>= λ _. pure v

-- the type of the column at a place
abbrev pub type_at : TableDef → ℕ → Action ColType
type_at definition place = needed 1054 (option_map (λ (c : ColumnDef). c.kind) (slice_get definition.columns place))

-- a row with a value put at a place
abbrev pub put_at : TableDef → List Value → ℕ × Value → Action (List Value)
put_at definition row cell = type_at definition cell.0 >>= λ kind. fitted kind cell.1 >>= λ v. pure (slice_set row cell.0 v)

-- what stands in a column that is left out: its DEFAULT, 0 where a value is to be generated, else NULL
abbrev pub left_out_value : TableDef → ℕ × ColumnDef → Value
left_out_value definition c =
    unwrap_or c.1.preset (if option_map_or (λ place. place == c.0) definition.auto false then Int (pos 0) else Null)

abbrev pub left_out_row : TableDef → List Value
left_out_row definition = map (left_out_value definition) (enumerate_from 0 definition.columns)

-- whether the AUTO_INCREMENT column asks for a value: NULL or 0
abbrev pub asks : Value → Bool
asks Null = true
asks (Int n) = int_le n (pos 0) && int_le (pos 0) n
asks (Text t) = false

-- the place of the AUTO_INCREMENT column, where the row asks for a value there
abbrev pub asked_place : TableDef → List Value → Option ℕ
asked_place definition row =
    elim (definition.auto) [ None ↦ None | Some place ↦ if asks (slice_index_or row place Null) then Some place else None ]

-- whether a NULL stands in a NOT NULL column other than one that asks
abbrev pub is_missing : List Value → Option ℕ → ℕ × ColumnDef → Bool
is_missing row asked c =
    not c.1.nullable && is_null (slice_index_or row c.0 Null) && not (option_map_or (λ place. place == c.0) asked false)

abbrev pub has_missing : TableDef → List Value → Option ℕ → Bool
has_missing definition row asked = list_any (is_missing row asked) (enumerate_from 0 definition.columns)

-- NOT NULL: 1048
abbrev pub none_missing : TableDef → List Value → Option ℕ → Action (Unit {0})
none_missing definition row asked = require 1048 (not (has_missing definition row asked))

-- ---- triggers

abbrev pub before_row : World → Cause → TableDef → Option (List Value) → Option (List Value) → Action (Option (List Value))
before_row world event definition new old = world.below.fire world.running times.Before event definition new old

abbrev pub after_row : World → Cause → TableDef → Option (List Value) → Option (List Value) → Action (Unit {0})
after_row world event definition new old = world.below.fire world.running times.After event definition new old >>= λ _. pure tt

-- ---- one row taken out or replaced where it stands

-- whether just this row stands at its key
abbrev pub is_there : TableDef → List Value → List (List Value) → Bool
is_there definition row rs = option_map_or (λ standing. same_values standing row) (row_of_key definition (primary_key definition row) rs) false

-- a row taken out; 1032 where it does not stand there
abbrev pub take_out : List ℕ → List Value → Action (Unit {0})
take_out name row =
    table_now name >>= λ table. require 1032 (is_there table.definition row table.rows) >>= λ _. make 1032 (changes.Delete name row)

-- a row put in the place of another: 1032 where that does not stand there, 1062 where a key of the new one is that of a third
abbrev pub put_in_place : List ℕ → List Value → List Value → Action (Unit {0})
put_in_place name old new =
    table_now name >>= λ table.
    require 1032 (row_fits table.definition.columns new && is_there table.definition old table.rows) >>= λ _.
    require 1062 (is_none (key_in_way table.definition new (rows_beside table.definition (primary_key table.definition old) table.rows))) >>= λ _.
    make 1032 (changes.Update name old new)

-- ---- one row deleted

-- BEFORE DELETE, the row taken out, AFTER DELETE
abbrev pub delete_row : World → TableDef → List Value → Action (Unit {0})
delete_row world definition row =
    before_row world causes.Delete definition None (Some row) >>= λ _.
    take_out definition.name row >>= λ _.
    after_row world causes.Delete definition None (Some row)

-- ---- one row updated

-- an assignment, whose value sees the row as earlier ones left it
abbrev pub assign_column : World → Frame → TableDef → List Value → List ℕ × Tree → Action (List Value)
assign_column world frame definition row set =
    value world (sees definition row frame) set.1 >>= λ v.
    needed 1054 (place_among (columns_of definition) set.0) >>= λ place. put_at definition row (place, v)

-- the row stored, unless it is as it was
abbrev pub store_update : TableDef → List Value → List Value → Action ℕ
store_update definition old new =
    if same_values new old then pure 0 else (put_in_place definition.name old new >>= λ _. pure 1)

-- the assignments left to right, BEFORE UPDATE, NOT NULL, the duplicate test, the row, AFTER UPDATE; 1 where it is a change
abbrev pub update_row : World → Frame → TableDef → List (List ℕ × Tree) → List Value → Action ℕ
update_row world frame definition sets old =
    carried_on (assign_column world frame definition) old sets >>= λ assigned.
    before_row world causes.Update definition (Some assigned) (Some old) >>= λ left.
    none_missing definition (unwrap_or left assigned) None >>= λ _.
    store_update definition old (unwrap_or left assigned) >>= λ count.
    after_row world causes.Update definition (Some (unwrap_or left assigned)) (Some old) >>= λ _. pure count

-- ---- one row inserted

-- What an INSERT has come to: the values it has generated, the affected rows, and what LAST_INSERT_ID() becomes.
pub record Inserting : Type 0 where
  pub sequence : Sequence
  pub affected : ℕ
  pub last_id : Option ℤ

abbrev pub nothing_inserted : Inserting
nothing_inserted = record { sequence = None; affected = 0; last_id = None }

-- What an INSERT or REPLACE does with a row whose key is there.
pub data Manner : Type 0 where
  refusing : Manner
  ignoring : Manner
  replacing : Manner
  updating : List (List ℕ × Tree) → Manner

-- a forced value within the type
abbrev pub within : ℤ → ℤ → Option ℤ
within top v = if int_le v top then Some v else None

-- the next value that a statement generates: the forced one first, where one is set
abbrev pub generated_next : World → Option ℤ → ℤ → ℕ → Sequence → Option ℤ
generated_next world None top counter sequence =
    next_value counter world.setting.context.increment world.setting.context.offset top sequence
generated_next world (Some forced) top counter None = within top forced
generated_next world (Some forced) top counter (Some generated) =
    next_value counter world.setting.context.increment world.setting.context.offset top (Some generated)

-- A row with its AUTO_INCREMENT value decided: the row, the sequence behind it, and the value where it was generated.
pub record Counted : Type 0 where
  pub row : List Value
  pub sequence : Sequence
  pub generated : Option ℤ

-- a value generated at a place; 1467 past the column's type
abbrev pub generate_at : World → Option ℤ → TableDef → List Value → Sequence → ℕ → Action Counted
generate_at world forced definition row sequence place =
    type_at definition place >>= λ kind. counter_now definition.name >>= λ counter.
    needed 1467 (generated_next world forced (greatest_of kind) counter sequence) >>= λ v.
    raise_counter definition.name v >>= λ _.
    pure (record { row = slice_set row place (Int v); sequence = after_generated v sequence; generated = Some v })

-- a value that was given: it moves the counter and the sequence
abbrev pub given_value : TableDef → List Value → Sequence → Value → Action Counted
given_value definition row sequence (Int v) =
    raise_counter definition.name v >>= λ _. pure (record { row = row; sequence = after_explicit v sequence; generated = None })
given_value definition row sequence v = pure (record { row = row; sequence = sequence; generated = None })

-- the AUTO_INCREMENT value of a row, generated where it asks for one
abbrev pub count_row : World → Option ℤ → TableDef → List Value → Sequence → Action Counted
count_row world forced definition row sequence =
    elim (definition.auto) [
      | None ↦ pure (record { row = row; sequence = sequence; generated = None })
      | Some place ↦
          if asks (slice_index_or row place Null) then generate_at world forced definition row sequence place
          else given_value definition row sequence (slice_index_or row place Null)
    ]

-- the row put in, and its AFTER trigger
abbrev pub put_row : World → TableDef → Counted → Inserting → Action Inserting
put_row world definition counted so_far =
    make 1062 (changes.Insert definition.name counted.row) >>= λ _.
    after_row world causes.Insert definition (Some counted.row) None >>= λ _.
    pure (record {
      sequence = counted.sequence;
      affected = so_far.affected + 1;
      last_id = option_or so_far.last_id counted.generated;
    })

-- REPLACE: for each key in turn the row that has it is deleted; how many they are
abbrev pub clear_way : World → TableDef → List (List Value → Bool) → Action ℕ
clear_way world definition [] = pure 0
clear_way world definition (test ∷ tests) =
    table_now definition.name >>= λ table.
    elim (find test table.rows) [
      | None ↦ clear_way world definition tests
      | Some row ↦ delete_row world definition row >>= λ _. clear_way world definition tests >>= λ n. pure (n + 1)
    ]

-- what a row in the way leaves of the statement: passed over, or so many rows affected
abbrev pub passed_by : Counted → ℕ → Inserting → Inserting
passed_by counted count so_far = record { sequence = counted.sequence; affected = so_far.affected + count; last_id = so_far.last_id }

-- ON DUPLICATE KEY UPDATE: the first row in the way is updated, which counts 2, or 0 where it stays as it is
abbrev pub updating_frame : Frame → TableDef → List Value → Frame
updating_frame frame definition row = record frame { inserted = Some (record { definition = definition; row = row }) }

abbrev pub settle : World → Frame → TableDef → Manner → Counted → List Value → Inserting → Action Inserting
settle world frame definition refusing counted other so_far = fail 1062
settle world frame definition ignoring counted other so_far = pure (passed_by counted 0 so_far)
settle world frame definition replacing counted other so_far =
    clear_way world definition (key_tests definition counted.row) >>= λ deleted.
    put_row world definition counted (passed_by counted deleted so_far)
settle world frame definition (updating sets) counted other so_far =
    update_row world (updating_frame frame definition counted.row) definition sets other >>= λ count.
    pure (passed_by counted (2 * count) so_far)

-- the row put in, or what the statement does with the first row in its way
abbrev pub place_row : World → Frame → TableDef → Manner → Counted → Inserting → Action Inserting
place_row world frame definition manner counted so_far =
    table_now definition.name >>= λ table.
    elim (row_in_way definition counted.row table.rows) [
      | None ↦ put_row world definition counted so_far
      | Some other ↦ settle world frame definition manner counted other so_far
    ]

-- One row of INSERT or REPLACE: its values fitted in the order of the columns named, BEFORE INSERT, NOT NULL, the generated
-- value, the duplicate test, the row, AFTER INSERT.
abbrev pub insert_row : World → Frame → Option ℤ → TableDef → List ℕ → Manner → Inserting → List Value → Action Inserting
insert_row world frame forced definition places manner so_far vs =
    carried_on (put_at definition) (left_out_row definition) (zip places vs) >>= λ filled.
    before_row world causes.Insert definition (Some filled) None >>= λ left.
    none_missing definition (unwrap_or left filled) (asked_place definition (unwrap_or left filled)) >>= λ _.
    count_row world forced definition (unwrap_or left filled) so_far.sequence >>= λ counted.
    place_row world frame definition manner counted so_far

-- ---- whole statements

-- What a statement came to: affected rows, the rows that it shows, its first generated value, what LAST_INSERT_ID() becomes.
pub record Did : Type 0 where
  pub affected : ℕ
  pub shown : Option (List (List Value))
  pub first : Option ℤ
  pub last_id : Option ℤ

-- a count of affected rows and nothing else
abbrev pub affected_rows : ℕ → Did
affected_rows n = record { affected = n; shown = None; first = None; last_id = None }

abbrev pub did_insert : Inserting → Did
did_insert so_far = record {
  affected = so_far.affected;
  shown = None;
  first = option_map (λ (generated : ℤ × ℕ). generated.0) so_far.sequence;
  last_id = so_far.last_id;
}

-- the rows of VALUES, each evaluated behind the insert of the one before; those of a SELECT all first
abbrev pub insert_supply : World → Frame → (Inserting → List Value → Action Inserting) → Supply → Action Inserting
insert_supply world frame insert_one (rows rs) =
    carried_on (λ so_far ts. values world frame ts >>= insert_one so_far) nothing_inserted rs
insert_supply world frame insert_one (rows_of q) = rows_of_query world frame q >>= carried_on insert_one nothing_inserted

-- INSERT and REPLACE
abbrev pub insert_into_table : World → Frame → Option ℤ → List ℕ → Option (List (List ℕ)) → Supply → Manner → Action Did
insert_into_table world frame forced t names supply manner =
    table_now t >>= λ table.
    insert_supply world frame
    (insert_row world frame forced table.definition (places_of (columns_of table.definition) (given_columns table.definition names)) manner) supply
    >>= λ so_far. pure (did_insert so_far)

-- the rows that UPDATE and DELETE change: those that WHERE keeps, by ORDER BY, up to LIMIT, all before the first is changed
abbrev pub chosen_rows : World → Frame → Table → Part → Orders → Option Count → Action (List (List Value))
chosen_rows world frame table condition os limit =
    kept_by (λ row. is_kept world (sees table.definition row frame) condition) table.rows >>= λ kept.
    each (λ row. order_values world (sees table.definition row frame) os >>= λ by. pure (by, row)) kept >>= λ keyed.
    pure (limited_to frame.locals limit (sorted (directions os) keyed))

-- UPDATE
abbrev pub update_table : World → Frame → List ℕ → List (List ℕ × Tree) → Part → Orders → Option Count → Action Did
update_table world frame t sets condition os limit =
    table_now t >>= λ table. chosen_rows world frame table condition os limit >>= λ chosen.
    counted (update_row world frame table.definition sets) chosen >>= λ n. pure (affected_rows n)

-- DELETE
abbrev pub delete_from_table : World → Frame → List ℕ → Part → Orders → Option Count → Action Did
delete_from_table world frame t condition os limit =
    table_now t >>= λ table. chosen_rows world frame table condition os limit >>= λ chosen.
    each (delete_row world table.definition) chosen >>= λ _. pure (affected_rows (length chosen))
