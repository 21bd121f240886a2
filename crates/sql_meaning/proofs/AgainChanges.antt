-- INSERT, REPLACE, UPDATE and DELETE are done again with more levels of nesting and more turns.
use Rattle.std.proofs.Common.{ℕ, ◌+◌, List, [], ◌∷◌, zip, Bool, cond, Option, Some, None, ℤ}
use Rattle.std.specs.Prelude.{find, unwrap_or, slice_get, slice_index_or, slice_set, is_none, not, ◌&&◌}
use Rattle.std.specs.Option.{option_map}
use Rattle.val_types.specs.declared.value.Value.{Value}
use Rattle.val_types.specs.declared.value.Value.TheVariants.{Null, Int, Text}
use Rattle.val_types.specs.declared.change.Change.TheVariants as changes
use Rattle.val_types.specs.declared.definitions.ColType.{ColType}
use Rattle.val_types.specs.declared.definitions.ColumnDef.{ColumnDef}
use Rattle.val_types.specs.declared.definitions.TableDef.{TableDef}
use Rattle.val_types.specs.Fitting.{fitting, greatest_of, row_fits}
use Rattle.val_types.specs.Keys.{primary_key, same_values}
use Rattle.auto_inc.specs.Generating.{Sequence, after_generated, after_explicit}
use Rattle.table_rules.specs.Tables.{Table}
use Rattle.table_rules.specs.Stored.{rows_beside, key_in_way, key_tests, row_in_way}
use Rattle.sql_tree.specs.Tree.{Tree, Part, Orders}
use Rattle.sql_tree.specs.Statement.{Supply, rows, rows_of}
use Rattle.sql_tree.specs.declared.expressions.Count.{Count}
use Rattle.sql_tree.specs.declared.statements.Time.TheVariants as times
use Rattle.sql_tree.specs.declared.statements.Cause.{Cause}
use Rattle.sql_tree.specs.declared.statements.Cause.TheVariants as causes
use Rattle.log_entries.specs.catalog_rules.Names.{place_among}
use Rattle.log_entries.specs.catalog_rules.Objects.{columns_of}
use Rattle.sql_meaning.specs.Scenes.{Action, ◌>>=◌, pure, answered, needed, require, each, kept_by, counted, carried_on, make, table_now, counter_now, raise_counter, fail}
use Rattle.sql_meaning.specs.Frames.{Frame, sees, Setting, Running, Below}
use Rattle.sql_meaning.specs.Values.{value, values, is_kept, order_values, rows_of_query}
use Rattle.sql_meaning.specs.Changing.{fitted, type_at, put_at, asks, asked_place, has_missing, none_missing, before_row, after_row, delete_row, assign_column, take_out, put_in_place, is_there, store_update, update_row, Inserting, nothing_inserted, Manner, refusing, ignoring, replacing, updating, generated_next, Counted, generate_at, given_value, count_row, put_row, clear_way, passed_by, updating_frame, settle, place_row, left_out_row, insert_row, insert_supply, insert_into_table, chosen_rows, update_table, delete_from_table}
use Rattle.sql_meaning.proofs.Again.{Again, bind_again, pure_again, fail_again, answered_again, needed_again, require_again, if_again, each_again, kept_again, counted_again, carried_again, make_again, table_again, counter_again, raise_again}
use Rattle.sql_meaning.proofs.AgainValues.{AgainBelow, around, value_again, values_again, is_kept_again, order_again, query_again}

-- a row with its value generated, and one with its value given
abbrev generated_row : List Value → Sequence → ℕ → ℤ → Counted
generated_row row sequence place v = record { row = slice_set row place (Int v); sequence = after_generated v sequence; generated = Some v }

abbrev given_row : List Value → Sequence → ℤ → Counted
given_row row sequence v = record { row = row; sequence = after_explicit v sequence; generated = None }

module _ (extra : ℕ) where
  pub fitted_again : (kind : ColType) (v : Value) → Again extra (fitted kind v) (fitted kind v)
  fitted_again kind v = bind_again extra (answered (fitting kind v)) (answered (fitting kind v)) _ _ (answered_again extra (fitting kind v)) (λ _. pure_again extra v)

  type_again : (definition : TableDef) (place : ℕ) → Again extra (type_at definition place) (type_at definition place)
  type_again definition place = needed_again extra 1054 (option_map (λ (c : ColumnDef). c.kind) (slice_get definition.columns place))

  pub put_at_again : (definition : TableDef) (row : List Value) (cell : ℕ × Value) → Again extra (put_at definition row cell) (put_at definition row cell)
  put_at_again definition row cell =
      bind_again extra (type_at definition cell.0) (type_at definition cell.0) _ _ (type_again definition cell.0) (λ kind.
      bind_again extra (fitted kind cell.1) (fitted kind cell.1) _ _ (fitted_again kind cell.1) (λ v. pure_again extra _))

  missing_again : (definition : TableDef) (row : List Value) (asked : Option ℕ) → Again extra (none_missing definition row asked) (none_missing definition row asked)
  missing_again definition row asked = require_again extra 1048 (not (has_missing definition row asked))

  take_out_again : (name : List ℕ) (row : List Value) → Again extra (take_out name row) (take_out name row)
  take_out_again name row =
      bind_again extra (table_now name) (table_now name) _ _ (table_again extra name) (λ table.
      bind_again extra (require 1032 _) (require 1032 _) _ _ (require_again extra 1032 (is_there table.definition row table.rows)) (λ _.
      make_again extra 1032 (changes.Delete name row)))

  put_in_place_again : (name : List ℕ) (old new : List Value) → Again extra (put_in_place name old new) (put_in_place name old new)
  put_in_place_again name old new =
      bind_again extra (table_now name) (table_now name) _ _ (table_again extra name) (λ table.
      bind_again extra (require 1032 _) (require 1032 _) _ _ (require_again extra 1032 (row_fits table.definition.columns new && is_there table.definition old table.rows)) (λ _.
      bind_again extra (require 1062 _) (require 1062 _) _ _ (require_again extra 1062 (is_none (key_in_way table.definition new (rows_beside table.definition (primary_key table.definition old) table.rows)))) (λ _.
      make_again extra 1032 (changes.Update name old new))))

  module _ (setting : Setting) (running : Running) (below below' : Below) (h : AgainBelow extra below below') where
    before_again : (event : Cause) (definition : TableDef) (new old : Option (List Value)) → Again extra (before_row (around setting below running) event definition new old) (before_row (around setting below' running) event definition new old)
    before_again event definition new old = h.fires running times.Before event definition new old

    after_again : (event : Cause) (definition : TableDef) (new old : Option (List Value)) → Again extra (after_row (around setting below running) event definition new old) (after_row (around setting below' running) event definition new old)
    after_again event definition new old = bind_again extra _ _ _ _ (h.fires running times.After event definition new old) (λ _. pure_again extra tt)

    delete_again : (definition : TableDef) (row : List Value) → Again extra (delete_row (around setting below running) definition row) (delete_row (around setting below' running) definition row)
    delete_again definition row =
        bind_again extra (before_row (around setting below running) causes.Delete definition None (Some row)) (before_row (around setting below' running) causes.Delete definition None (Some row)) _ _ (before_again causes.Delete definition None (Some row)) (λ _.
        bind_again extra (take_out definition.name row) (take_out definition.name row) _ _ (take_out_again definition.name row) (λ _.
        after_again causes.Delete definition None (Some row)))

    assign_again : (frame : Frame) (definition : TableDef) (row : List Value) (set : List ℕ × Tree) → Again extra (assign_column (around setting below running) frame definition row set) (assign_column (around setting below' running) frame definition row set)
    assign_again frame definition row set =
        bind_again extra (value (around setting below running) (sees definition row frame) set.1) (value (around setting below' running) (sees definition row frame) set.1) _ _ (value_again extra setting running below below' h (sees definition row frame) set.1) (λ v.
        bind_again extra (needed 1054 (place_among (columns_of definition) set.0)) (needed 1054 (place_among (columns_of definition) set.0)) _ _ (needed_again extra 1054 (place_among (columns_of definition) set.0)) (λ place.
        put_at_again definition row (place, v)))

    store_again : (definition : TableDef) (old new : List Value) → Again extra (store_update definition old new) (store_update definition old new)
    store_again definition old new =
        if_again extra (same_values new old) _ _ _ _ (pure_again extra 0)
        (bind_again extra (put_in_place definition.name old new) (put_in_place definition.name old new) _ _ (put_in_place_again definition.name old new) (λ _. pure_again extra 1))

    update_again : (frame : Frame) (definition : TableDef) (sets : List (List ℕ × Tree)) (old : List Value) → Again extra (update_row (around setting below running) frame definition sets old) (update_row (around setting below' running) frame definition sets old)
    update_again frame definition sets old =
        bind_again extra (carried_on (assign_column (around setting below running) frame definition) old sets) (carried_on (assign_column (around setting below' running) frame definition) old sets) _ _ (carried_again extra (assign_column (around setting below running) frame definition) (assign_column (around setting below' running) frame definition) (assign_again frame definition) old sets) (λ assigned.
        bind_again extra (before_row (around setting below running) causes.Update definition (Some assigned) (Some old)) (before_row (around setting below' running) causes.Update definition (Some assigned) (Some old)) _ _ (before_again causes.Update definition (Some assigned) (Some old)) (λ left.
        bind_again extra (none_missing definition (unwrap_or left assigned) None) (none_missing definition (unwrap_or left assigned) None) _ _ (missing_again definition (unwrap_or left assigned) None) (λ _.
        bind_again extra (store_update definition old (unwrap_or left assigned)) (store_update definition old (unwrap_or left assigned)) _ _ (store_again definition old (unwrap_or left assigned)) (λ count.
        bind_again extra (after_row (around setting below running) causes.Update definition (Some (unwrap_or left assigned)) (Some old)) (after_row (around setting below' running) causes.Update definition (Some (unwrap_or left assigned)) (Some old)) _ _ (after_again causes.Update definition (Some (unwrap_or left assigned)) (Some old)) (λ _. pure_again extra count)))))

    -- ---- inserting

    generate_again : (forced : Option ℤ) (definition : TableDef) (row : List Value) (sequence : Sequence) (place : ℕ) → Again extra (generate_at (around setting below running) forced definition row sequence place) (generate_at (around setting below' running) forced definition row sequence place)
    generate_again forced definition row sequence place =
        bind_again extra (type_at definition place) (type_at definition place) _ _ (type_again definition place) (λ kind.
        bind_again extra (counter_now definition.name) (counter_now definition.name) _ _ (counter_again extra definition.name) (λ counter.
        bind_again extra (needed 1467 (generated_next (around setting below running) forced (greatest_of kind) counter sequence)) (needed 1467 (generated_next (around setting below' running) forced (greatest_of kind) counter sequence)) _ _ (needed_again extra 1467 (generated_next (around setting below running) forced (greatest_of kind) counter sequence)) (λ v.
        bind_again extra (raise_counter definition.name v) (raise_counter definition.name v) (λ _. pure (generated_row row sequence place v)) (λ _. pure (generated_row row sequence place v)) (raise_again extra definition.name v) (λ _. pure_again extra (generated_row row sequence place v)))))

    given_again : (definition : TableDef) (row : List Value) (sequence : Sequence) (v : Value) → Again extra (given_value definition row sequence v) (given_value definition row sequence v)
    given_again definition row sequence Null = pure_again extra _
    given_again definition row sequence (Int v) = bind_again extra (raise_counter definition.name v) (raise_counter definition.name v) (λ _. pure (given_row row sequence v)) (λ _. pure (given_row row sequence v)) (raise_again extra definition.name v) (λ _. pure_again extra (given_row row sequence v))
    given_again definition row sequence (Text t) = pure_again extra _

    counted_at : (forced : Option ℤ) (definition : TableDef) (row : List Value) (sequence : Sequence) (auto : Option ℕ)
        → Again extra (elim auto as (λ _. Action Counted) [
          | None ↦ pure (record { row = row; sequence = sequence; generated = None })
          | Some place ↦ cond (asks (slice_index_or row place Null)) (generate_at (around setting below running) forced definition row sequence place) (given_value definition row sequence (slice_index_or row place Null))
        ]) (elim auto as (λ _. Action Counted) [
          | None ↦ pure (record { row = row; sequence = sequence; generated = None })
          | Some place ↦ cond (asks (slice_index_or row place Null)) (generate_at (around setting below' running) forced definition row sequence place) (given_value definition row sequence (slice_index_or row place Null))
        ])
    counted_at forced definition row sequence None = pure_again extra _
    counted_at forced definition row sequence (Some place) =
        if_again extra (asks (slice_index_or row place Null)) _ _ _ _ (generate_again forced definition row sequence place) (given_again definition row sequence (slice_index_or row place Null))

    count_again : (forced : Option ℤ) (definition : TableDef) (row : List Value) (sequence : Sequence) → Again extra (count_row (around setting below running) forced definition row sequence) (count_row (around setting below' running) forced definition row sequence)
    count_again forced definition row sequence = counted_at forced definition row sequence definition.auto

    put_again : (definition : TableDef) (counted : Counted) (so_far : Inserting) → Again extra (put_row (around setting below running) definition counted so_far) (put_row (around setting below' running) definition counted so_far)
    put_again definition counted so_far =
        bind_again extra (make 1062 (changes.Insert definition.name counted.row)) (make 1062 (changes.Insert definition.name counted.row)) _ _ (make_again extra 1062 (changes.Insert definition.name counted.row)) (λ _.
        bind_again extra (after_row (around setting below running) causes.Insert definition (Some counted.row) None) (after_row (around setting below' running) causes.Insert definition (Some counted.row) None) _ _ (after_again causes.Insert definition (Some counted.row) None) (λ _. pure_again extra _))

    cleared : (definition : TableDef) (tests : List (List Value → Bool)) (found : Option (List Value)) → Again extra (clear_way (around setting below running) definition tests) (clear_way (around setting below' running) definition tests)
        → Again extra (elim found as (λ _. Action ℕ) [
          | None ↦ clear_way (around setting below running) definition tests
          | Some row ↦ delete_row (around setting below running) definition row >>= λ _. clear_way (around setting below running) definition tests >>= λ n. pure (n + 1)
        ]) (elim found as (λ _. Action ℕ) [
          | None ↦ clear_way (around setting below' running) definition tests
          | Some row ↦ delete_row (around setting below' running) definition row >>= λ _. clear_way (around setting below' running) definition tests >>= λ n. pure (n + 1)
        ])
    cleared definition tests None led = led
    cleared definition tests (Some row) led =
        bind_again extra (delete_row (around setting below running) definition row) (delete_row (around setting below' running) definition row) _ _ (delete_again definition row) (λ _. bind_again extra (clear_way (around setting below running) definition tests) (clear_way (around setting below' running) definition tests) _ _ led (λ n. pure_again extra _))

    clear_again : (definition : TableDef) (tests : List (List Value → Bool)) → Again extra (clear_way (around setting below running) definition tests) (clear_way (around setting below' running) definition tests)
    clear_again definition [] = pure_again extra 0
    clear_again definition (test ∷ tests) =
        bind_again extra (table_now definition.name) (table_now definition.name) _ _ (table_again extra definition.name) (λ table. cleared definition tests (find test table.rows) (clear_again definition tests))

    settle_again : (frame : Frame) (definition : TableDef) (manner : Manner) (counted : Counted) (other : List Value) (so_far : Inserting) → Again extra (settle (around setting below running) frame definition manner counted other so_far) (settle (around setting below' running) frame definition manner counted other so_far)
    settle_again frame definition refusing counted other so_far = fail_again extra Inserting 1062 (fail 1062)
    settle_again frame definition ignoring counted other so_far = pure_again extra _
    settle_again frame definition replacing counted other so_far =
        bind_again extra (clear_way (around setting below running) definition (key_tests definition counted.row)) (clear_way (around setting below' running) definition (key_tests definition counted.row)) _ _ (clear_again definition (key_tests definition counted.row)) (λ deleted.
        put_again definition counted (passed_by counted deleted so_far))
    settle_again frame definition (updating sets) counted other so_far =
        bind_again extra (update_row (around setting below running) (updating_frame frame definition counted.row) definition sets other) (update_row (around setting below' running) (updating_frame frame definition counted.row) definition sets other) _ _ (update_again (updating_frame frame definition counted.row) definition sets other) (λ count. pure_again extra _)

    placed : (frame : Frame) (definition : TableDef) (manner : Manner) (counted : Counted) (so_far : Inserting) (found : Option (List Value))
        → Again extra (elim found as (λ _. Action Inserting) [
          | None ↦ put_row (around setting below running) definition counted so_far
          | Some other ↦ settle (around setting below running) frame definition manner counted other so_far
        ]) (elim found as (λ _. Action Inserting) [
          | None ↦ put_row (around setting below' running) definition counted so_far
          | Some other ↦ settle (around setting below' running) frame definition manner counted other so_far
        ])
    placed frame definition manner counted so_far None = put_again definition counted so_far
    placed frame definition manner counted so_far (Some other) = settle_again frame definition manner counted other so_far

    place_again : (frame : Frame) (definition : TableDef) (manner : Manner) (counted : Counted) (so_far : Inserting) → Again extra (place_row (around setting below running) frame definition manner counted so_far) (place_row (around setting below' running) frame definition manner counted so_far)
    place_again frame definition manner counted so_far =
        bind_again extra (table_now definition.name) (table_now definition.name) _ _ (table_again extra definition.name) (λ table. placed frame definition manner counted so_far (row_in_way definition counted.row table.rows))

    insert_again : (frame : Frame) (forced : Option ℤ) (definition : TableDef) (places : List ℕ) (manner : Manner) (so_far : Inserting) (vs : List Value) → Again extra (insert_row (around setting below running) frame forced definition places manner so_far vs) (insert_row (around setting below' running) frame forced definition places manner so_far vs)
    insert_again frame forced definition places manner so_far vs =
        bind_again extra (carried_on (put_at definition) (left_out_row definition) (zip places vs)) (carried_on (put_at definition) (left_out_row definition) (zip places vs)) _ _ (carried_again extra (put_at definition) (put_at definition) (put_at_again definition) (left_out_row definition) (zip places vs)) (λ filled.
        bind_again extra (before_row (around setting below running) causes.Insert definition (Some filled) None) (before_row (around setting below' running) causes.Insert definition (Some filled) None) _ _ (before_again causes.Insert definition (Some filled) None) (λ left.
        bind_again extra (none_missing definition (unwrap_or left filled) (asked_place definition (unwrap_or left filled))) (none_missing definition (unwrap_or left filled) (asked_place definition (unwrap_or left filled))) _ _ (missing_again definition (unwrap_or left filled) (asked_place definition (unwrap_or left filled))) (λ _.
        bind_again extra (count_row (around setting below running) forced definition (unwrap_or left filled) so_far.sequence) (count_row (around setting below' running) forced definition (unwrap_or left filled) so_far.sequence) _ _ (count_again forced definition (unwrap_or left filled) so_far.sequence) (λ counted.
        place_again frame definition manner counted so_far))))

    -- ---- whole statements

    supply_again : (frame : Frame) (insert_one insert_one' : Inserting → List Value → Action Inserting) → ((so_far : Inserting) (vs : List Value) → Again extra (insert_one so_far vs) (insert_one' so_far vs)) → (supply : Supply) → Again extra (insert_supply (around setting below running) frame insert_one supply) (insert_supply (around setting below' running) frame insert_one' supply)
    supply_again frame insert_one insert_one' led (rows rs) =
        carried_again extra (λ so_far ts. values (around setting below running) frame ts >>= insert_one so_far) (λ so_far ts. values (around setting below' running) frame ts >>= insert_one' so_far) (λ so_far ts. bind_again extra (values (around setting below running) frame ts) (values (around setting below' running) frame ts) _ _ (values_again extra setting running below below' h frame ts) (led so_far)) nothing_inserted rs
    supply_again frame insert_one insert_one' led (rows_of q) =
        bind_again extra (rows_of_query (around setting below running) frame q) (rows_of_query (around setting below' running) frame q) _ _ (query_again extra setting running below below' h frame q) (λ answer. carried_again extra insert_one insert_one' led nothing_inserted answer)

    pub insert_into_again : (frame : Frame) (forced : Option ℤ) (t : List ℕ) (names : Option (List (List ℕ))) (supply : Supply) (manner : Manner) → Again extra (insert_into_table (around setting below running) frame forced t names supply manner) (insert_into_table (around setting below' running) frame forced t names supply manner)
    insert_into_again frame forced t names supply manner =
        bind_again extra (table_now t) (table_now t) _ _ (table_again extra t) (λ table.
        bind_again extra (insert_supply (around setting below running) frame _ supply) (insert_supply (around setting below' running) frame _ supply) _ _ (supply_again frame _ _ (insert_again frame forced table.definition _ manner) supply) (λ so_far. pure_again extra _))

    chosen_again : (frame : Frame) (table : Table) (condition : Part) (os : Orders) (limit : Option Count) → Again extra (chosen_rows (around setting below running) frame table condition os limit) (chosen_rows (around setting below' running) frame table condition os limit)
    chosen_again frame table condition os limit =
        bind_again extra (kept_by (λ row. is_kept (around setting below running) (sees table.definition row frame) condition) table.rows) (kept_by (λ row. is_kept (around setting below' running) (sees table.definition row frame) condition) table.rows) _ _ (kept_again extra _ _ (λ row. is_kept_again extra setting running below below' h (sees table.definition row frame) condition) table.rows) (λ kept.
        bind_again extra (each (λ row. order_values (around setting below running) (sees table.definition row frame) os >>= λ by. pure (by, row)) kept) (each (λ row. order_values (around setting below' running) (sees table.definition row frame) os >>= λ by. pure (by, row)) kept) _ _ (each_again extra _ _ (λ row. bind_again extra (order_values (around setting below running) (sees table.definition row frame) os) (order_values (around setting below' running) (sees table.definition row frame) os) _ _ (order_again extra setting running below below' h (sees table.definition row frame) os) (λ by. pure_again extra _)) kept) (λ keyed. pure_again extra _))

    pub update_table_again : (frame : Frame) (t : List ℕ) (sets : List (List ℕ × Tree)) (condition : Part) (os : Orders) (limit : Option Count) → Again extra (update_table (around setting below running) frame t sets condition os limit) (update_table (around setting below' running) frame t sets condition os limit)
    update_table_again frame t sets condition os limit =
        bind_again extra (table_now t) (table_now t) _ _ (table_again extra t) (λ table.
        bind_again extra (chosen_rows (around setting below running) frame table condition os limit) (chosen_rows (around setting below' running) frame table condition os limit) _ _ (chosen_again frame table condition os limit) (λ chosen.
        bind_again extra (counted (update_row (around setting below running) frame table.definition sets) chosen) (counted (update_row (around setting below' running) frame table.definition sets) chosen) _ _ (counted_again extra (update_row (around setting below running) frame table.definition sets) (update_row (around setting below' running) frame table.definition sets) (update_again frame table.definition sets) chosen) (λ n. pure_again extra _)))

    pub delete_from_again : (frame : Frame) (t : List ℕ) (condition : Part) (os : Orders) (limit : Option Count) → Again extra (delete_from_table (around setting below running) frame t condition os limit) (delete_from_table (around setting below' running) frame t condition os limit)
    delete_from_again frame t condition os limit =
        bind_again extra (table_now t) (table_now t) _ _ (table_again extra t) (λ table.
        bind_again extra (chosen_rows (around setting below running) frame table condition os limit) (chosen_rows (around setting below' running) frame table condition os limit) _ _ (chosen_again frame table condition os limit) (λ chosen.
        bind_again extra (each (delete_row (around setting below running) table.definition) chosen) (each (delete_row (around setting below' running) table.definition) chosen) _ _ (each_again extra (delete_row (around setting below running) table.definition) (delete_row (around setting below' running) table.definition) (delete_again table.definition) chosen) (λ _. pure_again extra _)))
