-- What holds of calls, triggers and of each change that is made holds of INSERT, REPLACE, UPDATE and DELETE.
use Rattle.std.proofs.Common.{ℕ, ◌+◌, List, [], ◌∷◌, zip, Bool, cond, Option, Some, None, ℤ}
use Rattle.std.specs.Prelude.{find, unwrap_or, slice_get, slice_index_or, slice_set, is_none, not, ◌&&◌}
use Rattle.std.specs.Option.{option_map}
use Rattle.val_types.specs.declared.value.Value.{Value}
use Rattle.val_types.specs.declared.value.Value.TheVariants.{Null, Int, Text}
use Rattle.val_types.specs.declared.change.Change.TheVariants as changes
use Rattle.val_types.specs.declared.definitions.ColType.{ColType}
use Rattle.val_types.specs.declared.definitions.ColumnDef.{ColumnDef}
use Rattle.val_types.specs.declared.definitions.TableDef.{TableDef}
use Rattle.val_types.specs.Fitting.{fitting, greatest_of, row_fits}
use Rattle.val_types.specs.Keys.{primary_key, same_values}
use Rattle.auto_inc.specs.Generating.{Sequence, after_generated, after_explicit}
use Rattle.table_rules.specs.Tables.{Table}
use Rattle.table_rules.specs.Stored.{rows_beside, key_in_way, key_tests, row_in_way}
use Rattle.sql_tree.specs.Tree.{Tree, Part, Orders}
use Rattle.sql_tree.specs.Statement.{Supply, rows, rows_of}
use Rattle.sql_tree.specs.declared.expressions.Count.{Count}
use Rattle.sql_tree.specs.declared.statements.Time.TheVariants as times
use Rattle.sql_tree.specs.declared.statements.Cause.{Cause}
use Rattle.sql_tree.specs.declared.statements.Cause.TheVariants as causes
use Rattle.log_entries.specs.catalog_rules.Names.{place_among}
use Rattle.log_entries.specs.catalog_rules.Objects.{columns_of}
use Rattle.sql_meaning.specs.Scenes.{Scene, Action, ◌>>=◌, pure, answered, needed, require, each, kept_by, counted, carried_on, make, table_now, counter_now, raise_counter}
use Rattle.sql_meaning.specs.Frames.{Running, Below, World, Frame, sees}
use Rattle.sql_meaning.specs.Values.{value, values, is_kept, order_values, rows_of_query}
use Rattle.sql_meaning.specs.Changing.{fitted, type_at, put_at, asks, asked_place, has_missing, none_missing, before_row, after_row, delete_row, assign_column, take_out, put_in_place, is_there, store_update, update_row, Inserting, nothing_inserted, Manner, refusing, ignoring, replacing, updating, generated_next, Counted, generate_at, given_value, count_row, put_row, clear_way, passed_by, updating_frame, settle, place_row, left_out_row, insert_row, insert_supply, insert_into_table, chosen_rows, update_table, delete_from_table}
use Rattle.sql_meaning.proofs.Steps.{IsWork, IsMoved, bind_moved, pure_moved, fail_moved, answered_moved, needed_moved, require_moved, if_moved, each_moved, kept_moved, counted_moved, carried_moved, table_moved, counter_moved, raise_moved}
use Rattle.sql_meaning.proofs.Moved.{CallsMoved, value_moved, values_moved, is_kept_moved, order_moved, query_moved}

-- so it is with what programs do one level further down
pub record ProgramsMoved (R : Scene → Scene → Type 0) (below : Below) : Type 0 where
  pub calls : CallsMoved R below
  pub fires : (running : Running) (time : _) (event : _) (definition : TableDef) (new old : Option (List Value)) → IsMoved R (below.fire running time event definition new old)

-- a row with its value generated, and one with its value given
abbrev generated_row : List Value → Sequence → ℕ → ℤ → Counted
generated_row row sequence place v = record { row = slice_set row place (Int v); sequence = after_generated v sequence; generated = Some v }

abbrev given_row : List Value → Sequence → ℤ → Counted
given_row row sequence v = record { row = row; sequence = after_explicit v sequence; generated = None }

module _ {R : Scene → Scene → Type 0} (law : IsWork R) where
  pub fitted_moved : (kind : ColType) (v : Value) → IsMoved R (fitted kind v)
  fitted_moved kind v = bind_moved law.move (answered (fitting kind v)) _ (answered_moved law.move (fitting kind v)) (λ _. pure_moved law.move v)

  type_moved : (definition : TableDef) (place : ℕ) → IsMoved R (type_at definition place)
  type_moved definition place = needed_moved law.move 1054 (option_map (λ (c : ColumnDef). c.kind) (slice_get definition.columns place))

  pub put_at_moved : (definition : TableDef) (row : List Value) (cell : ℕ × Value) → IsMoved R (put_at definition row cell)
  put_at_moved definition row cell =
      bind_moved law.move (type_at definition cell.0) _ (type_moved definition cell.0) (λ kind.
      bind_moved law.move (fitted kind cell.1) _ (fitted_moved kind cell.1) (λ v. pure_moved law.move _))

  pub missing_moved : (definition : TableDef) (row : List Value) (asked : Option ℕ) → IsMoved R (none_missing definition row asked)
  missing_moved definition row asked = require_moved law.move 1048 (not (has_missing definition row asked))

  take_out_moved : (name : List ℕ) (row : List Value) → IsMoved R (take_out name row)
  take_out_moved name row =
      bind_moved law.move (table_now name) _ (table_moved law.move name) (λ table.
      bind_moved law.move (require 1032 _) _ (require_moved law.move 1032 (is_there table.definition row table.rows)) (λ _.
      law.made 1032 (changes.Delete name row)))

  put_in_place_moved : (name : List ℕ) (old new : List Value) → IsMoved R (put_in_place name old new)
  put_in_place_moved name old new =
      bind_moved law.move (table_now name) _ (table_moved law.move name) (λ table.
      bind_moved law.move (require 1032 _) _ (require_moved law.move 1032 (row_fits table.definition.columns new && is_there table.definition old table.rows)) (λ _.
      bind_moved law.move (require 1062 _) _ (require_moved law.move 1062 (is_none (key_in_way table.definition new (rows_beside table.definition (primary_key table.definition old) table.rows)))) (λ _.
      law.made 1032 (changes.Update name old new))))

  module _ (world : World) (below : ProgramsMoved R world.below) where
    pub before_moved : (event : Cause) (definition : TableDef) (new old : Option (List Value)) → IsMoved R (before_row world event definition new old)
    before_moved event definition new old = below.fires world.running times.Before event definition new old

    pub after_moved : (event : Cause) (definition : TableDef) (new old : Option (List Value)) → IsMoved R (after_row world event definition new old)
    after_moved event definition new old = bind_moved law.move _ _ (below.fires world.running times.After event definition new old) (λ _. pure_moved law.move tt)

    delete_moved : (definition : TableDef) (row : List Value) → IsMoved R (delete_row world definition row)
    delete_moved definition row =
        bind_moved law.move (before_row world causes.Delete definition None (Some row)) _ (before_moved causes.Delete definition None (Some row)) (λ _.
        bind_moved law.move (take_out definition.name row) _ (take_out_moved definition.name row) (λ _.
        after_moved causes.Delete definition None (Some row)))

    pub assign_moved : (frame : Frame) (definition : TableDef) (row : List Value) (set : List ℕ × Tree) → IsMoved R (assign_column world frame definition row set)
    assign_moved frame definition row set =
        bind_moved law.move (value world (sees definition row frame) set.1) _ (value_moved law.move world below.calls (sees definition row frame) set.1) (λ v.
        bind_moved law.move (needed 1054 (place_among (columns_of definition) set.0)) _ (needed_moved law.move 1054 (place_among (columns_of definition) set.0)) (λ place.
        put_at_moved definition row (place, v)))

    store_moved : (definition : TableDef) (old new : List Value) → IsMoved R (store_update definition old new)
    store_moved definition old new =
        if_moved law.move (same_values new old) _ _ (pure_moved law.move 0)
        (bind_moved law.move (put_in_place definition.name old new) _ (put_in_place_moved definition.name old new) (λ _. pure_moved law.move 1))

    update_moved : (frame : Frame) (definition : TableDef) (sets : List (List ℕ × Tree)) (old : List Value) → IsMoved R (update_row world frame definition sets old)
    update_moved frame definition sets old =
        bind_moved law.move (carried_on (assign_column world frame definition) old sets) _ (carried_moved law.move (assign_column world frame definition) (assign_moved frame definition) old sets) (λ assigned.
        bind_moved law.move (before_row world causes.Update definition (Some assigned) (Some old)) _ (before_moved causes.Update definition (Some assigned) (Some old)) (λ left.
        bind_moved law.move (none_missing definition (unwrap_or left assigned) None) _ (missing_moved definition (unwrap_or left assigned) None) (λ _.
        bind_moved law.move (store_update definition old (unwrap_or left assigned)) _ (store_moved definition old (unwrap_or left assigned)) (λ count.
        bind_moved law.move (after_row world causes.Update definition (Some (unwrap_or left assigned)) (Some old)) _ (after_moved causes.Update definition (Some (unwrap_or left assigned)) (Some old)) (λ _. pure_moved law.move count)))))

    -- ---- inserting

    generate_moved : (forced : Option ℤ) (definition : TableDef) (row : List Value) (sequence : Sequence) (place : ℕ) → IsMoved R (generate_at world forced definition row sequence place)
    generate_moved forced definition row sequence place =
        bind_moved law.move (type_at definition place) _ (type_moved definition place) (λ kind.
        bind_moved law.move (counter_now definition.name) _ (counter_moved law.move definition.name) (λ counter.
        bind_moved law.move (needed 1467 (generated_next world forced (greatest_of kind) counter sequence)) _ (needed_moved law.move 1467 (generated_next world forced (greatest_of kind) counter sequence)) (λ v.
        bind_moved law.move (raise_counter definition.name v) (λ _. pure (generated_row row sequence place v)) (raise_moved law.move definition.name v) (λ _. pure_moved law.move (generated_row row sequence place v)))))

    given_moved : (definition : TableDef) (row : List Value) (sequence : Sequence) (v : Value) → IsMoved R (given_value definition row sequence v)
    given_moved definition row sequence Null = pure_moved law.move _
    given_moved definition row sequence (Int v) = bind_moved law.move (raise_counter definition.name v) (λ _. pure (given_row row sequence v)) (raise_moved law.move definition.name v) (λ _. pure_moved law.move (given_row row sequence v))
    given_moved definition row sequence (Text t) = pure_moved law.move _

    counted_at : (forced : Option ℤ) (definition : TableDef) (row : List Value) (sequence : Sequence) (auto : Option ℕ)
        → IsMoved R (elim auto as (λ _. Action Counted) [
          | None ↦ pure (record { row = row; sequence = sequence; generated = None })
          | Some place ↦ cond (asks (slice_index_or row place Null)) (generate_at world forced definition row sequence place) (given_value definition row sequence (slice_index_or row place Null))
        ])
    counted_at forced definition row sequence None = pure_moved law.move _
    counted_at forced definition row sequence (Some place) =
        if_moved law.move (asks (slice_index_or row place Null)) _ _ (generate_moved forced definition row sequence place) (given_moved definition row sequence (slice_index_or row place Null))

    pub count_moved : (forced : Option ℤ) (definition : TableDef) (row : List Value) (sequence : Sequence) → IsMoved R (count_row world forced definition row sequence)
    count_moved forced definition row sequence = counted_at forced definition row sequence definition.auto

    put_moved : (definition : TableDef) (counted : Counted) (so_far : Inserting) → IsMoved R (put_row world definition counted so_far)
    put_moved definition counted so_far =
        bind_moved law.move (make 1062 (changes.Insert definition.name counted.row)) _ (law.made 1062 (changes.Insert definition.name counted.row)) (λ _.
        bind_moved law.move (after_row world causes.Insert definition (Some counted.row) None) _ (after_moved causes.Insert definition (Some counted.row) None) (λ _. pure_moved law.move _))

    cleared : (definition : TableDef) (tests : List (List Value → Bool)) (found : Option (List Value)) → IsMoved R (clear_way world definition tests)
        → IsMoved R (elim found as (λ _. Action ℕ) [
          | None ↦ clear_way world definition tests
          | Some row ↦ delete_row world definition row >>= λ _. clear_way world definition tests >>= λ n. pure (n + 1)
        ])
    cleared definition tests None led = led
    cleared definition tests (Some row) led =
        bind_moved law.move (delete_row world definition row) _ (delete_moved definition row) (λ _. bind_moved law.move (clear_way world definition tests) _ led (λ n. pure_moved law.move _))

    clear_moved : (definition : TableDef) (tests : List (List Value → Bool)) → IsMoved R (clear_way world definition tests)
    clear_moved definition [] = pure_moved law.move 0
    clear_moved definition (test ∷ tests) =
        bind_moved law.move (table_now definition.name) _ (table_moved law.move definition.name) (λ table. cleared definition tests (find test table.rows) (clear_moved definition tests))

    settle_moved : (frame : Frame) (definition : TableDef) (manner : Manner) (counted : Counted) (other : List Value) (so_far : Inserting) → IsMoved R (settle world frame definition manner counted other so_far)
    settle_moved frame definition refusing counted other so_far = fail_moved law.move Inserting 1062
    settle_moved frame definition ignoring counted other so_far = pure_moved law.move _
    settle_moved frame definition replacing counted other so_far =
        bind_moved law.move (clear_way world definition (key_tests definition counted.row)) _ (clear_moved definition (key_tests definition counted.row)) (λ deleted.
        put_moved definition counted (passed_by counted deleted so_far))
    settle_moved frame definition (updating sets) counted other so_far =
        bind_moved law.move (update_row world (updating_frame frame definition counted.row) definition sets other) _ (update_moved (updating_frame frame definition counted.row) definition sets other) (λ count. pure_moved law.move _)

    placed : (frame : Frame) (definition : TableDef) (manner : Manner) (counted : Counted) (so_far : Inserting) (found : Option (List Value))
        → IsMoved R (elim found as (λ _. Action Inserting) [
          | None ↦ put_row world definition counted so_far
          | Some other ↦ settle world frame definition manner counted other so_far
        ])
    placed frame definition manner counted so_far None = put_moved definition counted so_far
    placed frame definition manner counted so_far (Some other) = settle_moved frame definition manner counted other so_far

    place_moved : (frame : Frame) (definition : TableDef) (manner : Manner) (counted : Counted) (so_far : Inserting) → IsMoved R (place_row world frame definition manner counted so_far)
    place_moved frame definition manner counted so_far =
        bind_moved law.move (table_now definition.name) _ (table_moved law.move definition.name) (λ table. placed frame definition manner counted so_far (row_in_way definition counted.row table.rows))

    insert_moved : (frame : Frame) (forced : Option ℤ) (definition : TableDef) (places : List ℕ) (manner : Manner) (so_far : Inserting) (vs : List Value) → IsMoved R (insert_row world frame forced definition places manner so_far vs)
    insert_moved frame forced definition places manner so_far vs =
        bind_moved law.move (carried_on (put_at definition) (left_out_row definition) (zip places vs)) _ (carried_moved law.move (put_at definition) (put_at_moved definition) (left_out_row definition) (zip places vs)) (λ filled.
        bind_moved law.move (before_row world causes.Insert definition (Some filled) None) _ (before_moved causes.Insert definition (Some filled) None) (λ left.
        bind_moved law.move (none_missing definition (unwrap_or left filled) (asked_place definition (unwrap_or left filled))) _ (missing_moved definition (unwrap_or left filled) (asked_place definition (unwrap_or left filled))) (λ _.
        bind_moved law.move (count_row world forced definition (unwrap_or left filled) so_far.sequence) _ (count_moved forced definition (unwrap_or left filled) so_far.sequence) (λ counted.
        place_moved frame definition manner counted so_far))))

    -- ---- whole statements

    supply_moved : (frame : Frame) (insert_one : Inserting → List Value → Action Inserting) → ((so_far : Inserting) (vs : List Value) → IsMoved R (insert_one so_far vs)) → (supply : Supply) → IsMoved R (insert_supply world frame insert_one supply)
    supply_moved frame insert_one led (rows rs) =
        carried_moved law.move (λ so_far ts. values world frame ts >>= insert_one so_far) (λ so_far ts. bind_moved law.move (values world frame ts) _ (values_moved law.move world below.calls frame ts) (led so_far)) nothing_inserted rs
    supply_moved frame insert_one led (rows_of q) =
        bind_moved law.move (rows_of_query world frame q) _ (query_moved law.move world below.calls frame q) (λ answer. carried_moved law.move insert_one led nothing_inserted answer)

    pub insert_into_moved : (frame : Frame) (forced : Option ℤ) (t : List ℕ) (names : Option (List (List ℕ))) (supply : Supply) (manner : Manner) → IsMoved R (insert_into_table world frame forced t names supply manner)
    insert_into_moved frame forced t names supply manner =
        bind_moved law.move (table_now t) _ (table_moved law.move t) (λ table.
        bind_moved law.move (insert_supply world frame _ supply) _ (supply_moved frame _ (insert_moved frame forced table.definition _ manner) supply) (λ so_far. pure_moved law.move _))

    pub chosen_moved : (frame : Frame) (table : Table) (condition : Part) (os : Orders) (limit : Option Count) → IsMoved R (chosen_rows world frame table condition os limit)
    chosen_moved frame table condition os limit =
        bind_moved law.move (kept_by (λ row. is_kept world (sees table.definition row frame) condition) table.rows) _ (kept_moved law.move _ (λ row. is_kept_moved law.move world below.calls (sees table.definition row frame) condition) table.rows) (λ kept.
        bind_moved law.move (each (λ row. order_values world (sees table.definition row frame) os >>= λ by. pure (by, row)) kept) _ (each_moved law.move _ (λ row. bind_moved law.move (order_values world (sees table.definition row frame) os) _ (order_moved law.move world below.calls (sees table.definition row frame) os) (λ by. pure_moved law.move _)) kept) (λ keyed. pure_moved law.move _))

    pub update_table_moved : (frame : Frame) (t : List ℕ) (sets : List (List ℕ × Tree)) (condition : Part) (os : Orders) (limit : Option Count) → IsMoved R (update_table world frame t sets condition os limit)
    update_table_moved frame t sets condition os limit =
        bind_moved law.move (table_now t) _ (table_moved law.move t) (λ table.
        bind_moved law.move (chosen_rows world frame table condition os limit) _ (chosen_moved frame table condition os limit) (λ chosen.
        bind_moved law.move (counted (update_row world frame table.definition sets) chosen) _ (counted_moved law.move (update_row world frame table.definition sets) (update_moved frame table.definition sets) chosen) (λ n. pure_moved law.move _)))

    pub delete_from_moved : (frame : Frame) (t : List ℕ) (condition : Part) (os : Orders) (limit : Option Count) → IsMoved R (delete_from_table world frame t condition os limit)
    delete_from_moved frame t condition os limit =
        bind_moved law.move (table_now t) _ (table_moved law.move t) (λ table.
        bind_moved law.move (chosen_rows world frame table condition os limit) _ (chosen_moved frame table condition os limit) (λ chosen.
        bind_moved law.move (each (delete_row world table.definition) chosen) _ (each_moved law.move (delete_row world table.definition) (delete_moved table.definition) chosen) (λ _. pure_moved law.move _)))
