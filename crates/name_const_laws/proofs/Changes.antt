-- INSERT, REPLACE, UPDATE and DELETE with locals closed in do without locals what they do with them.
use Rattle.std.proofs.Common.{◌≡◌, ℕ, ◌*◌, List, [], ◌∷◌, length, map, Bool, true, false, Option, Some, None, ℤ, refl, ◌∙◌}
use Rattle.std.specs.Prelude.{zip, unwrap_or}
use Rattle.std.specs.List.{list_all}
use Rattle.std.specs.Option.{option_map}
use Rattle.val_types.specs.declared.value.Value.{Value}
use Rattle.val_types.specs.declared.definitions.TableDef.{TableDef}
use Rattle.table_rules.specs.Tables.{Table}
use Rattle.table_rules.specs.Stored.{row_in_way}
use Rattle.sql_tree.specs.Tree.{Tree, Part, Orders}
use Rattle.sql_tree.specs.Statement.{Statement, create_table, create_function, create_procedure, create_trigger, drop_table, drop_function, drop_procedure, drop_trigger, truncate, insert_into, replace_into, update_rows, delete_rows, select, evaluate, set_all, call_procedure, begin, commit, rollback, savepoint, rollback_to, release_savepoint, block, if_steps, while_steps, return_value}
use Rattle.sql_tree.specs.Statement.{Supply, rows, rows_of}
use Rattle.sql_tree.specs.declared.expressions.Count.{Count}
use Rattle.sql_tree.specs.declared.statements.Cause.TheVariants as causes
use Rattle.sql_reach.specs.catalog_rules.Names.{place_among}
use Rattle.sql_reach.specs.catalog_rules.Objects.{columns_of}
use Rattle.sql_reach.specs.catalog_rules.Defined.{places_of}
use Rattle.sql_reach.specs.catalog_rules.Checks.{given_columns}
use Rattle.sql_locals.specs.declared.locals.Local.{Local}
use Rattle.sql_reach.specs.sql_meaning.Scenes.{Action, ◌>>=◌, pure, needed, each, kept_by, counted, carried_on, table_now}
use Rattle.sql_reach.specs.sql_meaning.Frames.{World, Frame, sees, only_locals}
use Rattle.sql_reach.specs.sql_meaning.Values.{values, sorted}
use Rattle.sql_reach.specs.sql_meaning.Changing.{put_at, left_out_row, asked_place, none_missing, before_row, after_row, delete_row, assign_column, store_update, update_row, Inserting, nothing_inserted, Manner, refusing, ignoring, replacing, updating, Counted, count_row, put_row, passed_by, updating_frame, settle, insert_row, affected_rows, did_insert, insert_supply, insert_into_table, chosen_rows}
use Rattle.sql_reach.specs.sql_meaning.Running.{manner_of, rows_shown, perform}
use Rattle.sql_reach.specs.Closing.{trees_mapped, part_mapped, orders_mapped, set_mapped, supply_mapped, statement_mapped, closed_name, closed_count}
use Rattle.name_const_laws.specs.Laws.{holds_short}
use Rattle.name_const_laws.proofs.Values.{with_locals, limited_to_closed, directions_closed, value_closed, values_closed, is_kept_closed, order_closed, query_closed}

-- an action on each item that was mapped
carried_mapped : {S A : Type 0} (f f' : S → A → Action S) (g : A → A) → ((state : S) (a : A) → f state (g a) ≡ f' state a) → (state : S) (as' : List A) → carried_on f state (map g as') ≡ carried_on f' state as'
carried_mapped f f' g same state [] = refl
carried_mapped f f' g same state (a ∷ as') = λ i. same state a i >>= λ next. carried_mapped f f' g same next as' i

module _ (locals : List Local) (short : list_all holds_short locals ≡ true) where
  abbrev set_closed : List ℕ × Tree → List ℕ × Tree
  set_closed s = set_mapped (closed_name locals) (closed_count locals) s

  abbrev sets_closed : List (List ℕ × Tree) → List (List ℕ × Tree)
  sets_closed ss = map set_closed ss

  -- ---- UPDATE

  assign_closed : (world : World) (frame : Frame) (definition : TableDef) (row : List Value) (s : List ℕ × Tree)
      → assign_column world (with_locals [] frame) definition row (set_closed s) ≡ assign_column world (with_locals locals frame) definition row s
  assign_closed world frame definition row s =
      λ i. value_closed locals short world (sees definition row frame) s.1 i >>= λ v.
      needed 1054 (place_among (columns_of definition) s.0) >>= λ place. put_at definition row (place, v)

  update_closed : (world : World) (frame : Frame) (definition : TableDef) (sets : List (List ℕ × Tree)) (old : List Value)
      → update_row world (with_locals [] frame) definition (sets_closed sets) old ≡ update_row world (with_locals locals frame) definition sets old
  update_closed world frame definition sets old =
      λ i. carried_mapped (assign_column world (with_locals [] frame) definition) (assign_column world (with_locals locals frame) definition) set_closed (assign_closed world frame definition) old sets i >>= λ assigned.
      before_row world causes.Update definition (Some assigned) (Some old) >>= λ left.
      none_missing definition (unwrap_or left assigned) None >>= λ _.
      store_update definition old (unwrap_or left assigned) >>= λ count.
      after_row world causes.Update definition (Some (unwrap_or left assigned)) (Some old) >>= λ _. pure count

  chosen_closed : (world : World) (frame : Frame) (table : Table) (condition : Part) (os : Orders) (limit : Option Count)
      → chosen_rows world (with_locals [] frame) table (part_mapped (closed_name locals) (closed_count locals) condition) (orders_mapped (closed_name locals) (closed_count locals) os) (option_map (closed_count locals) limit)
      ≡ chosen_rows world (with_locals locals frame) table condition os limit
  chosen_closed world frame table condition os limit =
      λ i. kept_by (λ row. is_kept_closed locals short world (sees table.definition row frame) condition i) table.rows >>= λ kept.
      each (λ row. order_closed locals short world (sees table.definition row frame) os i >>= λ by. pure (by, row)) kept >>= λ keyed.
      pure (limited_to_closed locals limit (sorted (directions_closed locals short os i) keyed) i)

  -- ---- INSERT and REPLACE

  abbrev manner_closed : Manner → Manner
  manner_closed refusing = refusing
  manner_closed ignoring = ignoring
  manner_closed replacing = replacing
  manner_closed (updating sets) = updating (sets_closed sets)

  same_manner : (ignore : Bool) (sets : List (List ℕ × Tree)) → manner_of ignore (sets_closed sets) ≡ manner_closed (manner_of ignore sets)
  same_manner ignore (s ∷ ss) = refl
  same_manner true [] = refl
  same_manner false [] = refl

  settle_closed : (world : World) (frame : Frame) (definition : TableDef) (manner : Manner) (counted : Counted) (other : List Value) (so_far : Inserting)
      → settle world (with_locals [] frame) definition (manner_closed manner) counted other so_far ≡ settle world (with_locals locals frame) definition manner counted other so_far
  settle_closed world frame definition refusing counted other so_far = refl
  settle_closed world frame definition ignoring counted other so_far = refl
  settle_closed world frame definition replacing counted other so_far = refl
  settle_closed world frame definition (updating sets) counted other so_far =
      λ i. update_closed world (updating_frame frame definition counted.row) definition sets other i >>= λ count.
      pure (passed_by counted (2 * count) so_far)

  insert_closed : (world : World) (frame : Frame) (forced : Option ℤ) (definition : TableDef) (places : List ℕ) (manner : Manner) (so_far : Inserting) (vs : List Value)
      → insert_row world (with_locals [] frame) forced definition places (manner_closed manner) so_far vs ≡ insert_row world (with_locals locals frame) forced definition places manner so_far vs
  insert_closed world frame forced definition places manner so_far vs =
      λ i. carried_on (put_at definition) (left_out_row definition) (zip places vs) >>= λ filled.
      before_row world causes.Insert definition (Some filled) None >>= λ left.
      none_missing definition (unwrap_or left filled) (asked_place definition (unwrap_or left filled)) >>= λ _.
      count_row world forced definition (unwrap_or left filled) so_far.sequence >>= λ counted.
      table_now definition.name >>= λ table.
      elim (row_in_way definition counted.row table.rows) [
        | None ↦ put_row world definition counted so_far
        | Some other ↦ settle_closed world frame definition manner counted other so_far i
      ]

  supply_closed : (world : World) (frame : Frame) (f f' : Inserting → List Value → Action Inserting) → ((so_far : Inserting) (vs : List Value) → f so_far vs ≡ f' so_far vs)
      → (from : Supply) → insert_supply world (with_locals [] frame) f (supply_mapped (closed_name locals) (closed_count locals) from) ≡ insert_supply world (with_locals locals frame) f' from
  supply_closed world frame f f' same (rows rs) =
      carried_mapped (λ so_far ts. values world (with_locals [] frame) ts >>= f so_far) (λ so_far ts. values world (with_locals locals frame) ts >>= f' so_far) (trees_mapped (closed_name locals) (closed_count locals)) (λ so_far ts. λ i. values_closed locals short world frame ts i >>= λ vs. same so_far vs i) nothing_inserted rs
  supply_closed world frame f f' same (rows_of q) =
      λ i. query_closed locals short world frame q i >>= carried_on (λ so_far vs. same so_far vs i) nothing_inserted

  insert_all_closed : (world : World) (frame : Frame) (forced : Option ℤ) (t : List ℕ) (names : Option (List (List ℕ))) (from : Supply) (manner : Manner)
      → insert_into_table world (with_locals [] frame) forced t names (supply_mapped (closed_name locals) (closed_count locals) from) (manner_closed manner) ≡ insert_into_table world (with_locals locals frame) forced t names from manner
  insert_all_closed world frame forced t names from manner =
      λ i. table_now t >>= λ table.
      supply_closed world frame
      (insert_row world (with_locals [] frame) forced table.definition (places_of (columns_of table.definition) (given_columns table.definition names)) (manner_closed manner))
      (insert_row world (with_locals locals frame) forced table.definition (places_of (columns_of table.definition) (given_columns table.definition names)) manner)
      (insert_closed world frame forced table.definition (places_of (columns_of table.definition) (given_columns table.definition names)) manner) from i
      >>= λ so_far. pure (did_insert so_far)

  -- ---- all statements

  pub perform_closed : (world : World) (forced : Option ℤ) (s : Statement)
      → perform world (only_locals []) forced (statement_mapped (closed_name locals) (closed_count locals) s) ≡ perform world (only_locals locals) forced s
  perform_closed world forced (insert_into ignore t names from sets) =
      (λ i. insert_into_table world (only_locals []) forced t names (supply_mapped (closed_name locals) (closed_count locals) from) (same_manner ignore sets i))
      ∙ insert_all_closed world (only_locals locals) forced t names from (manner_of ignore sets)
  perform_closed world forced (replace_into t names from) = insert_all_closed world (only_locals locals) forced t names from replacing
  perform_closed world forced (update_rows t sets condition os limit) =
      λ i. table_now t >>= λ table. chosen_closed world (only_locals locals) table condition os limit i >>= λ chosen.
      counted (λ row. update_closed world (only_locals locals) table.definition sets row i) chosen >>= λ n. pure (affected_rows n)
  perform_closed world forced (delete_rows t condition os limit) =
      λ i. table_now t >>= λ table. chosen_closed world (only_locals locals) table condition os limit i >>= λ chosen.
      each (delete_row world table.definition) chosen >>= λ _. pure (affected_rows (length chosen))
  perform_closed world forced (select q) = λ i. query_closed locals short world (only_locals locals) q i >>= λ shown. pure (rows_shown shown)
  perform_closed world forced (evaluate ts) = λ i. values_closed locals short world (only_locals locals) ts i >>= λ _. pure (affected_rows 0)
  perform_closed world forced (create_table t) = refl
  perform_closed world forced (create_function p) = refl
  perform_closed world forced (create_procedure p) = refl
  perform_closed world forced (create_trigger t) = refl
  perform_closed world forced (drop_table n) = refl
  perform_closed world forced (drop_function n) = refl
  perform_closed world forced (drop_procedure n) = refl
  perform_closed world forced (drop_trigger n) = refl
  perform_closed world forced (truncate n) = refl
  perform_closed world forced (set_all as') = refl
  perform_closed world forced (call_procedure n ts) = refl
  perform_closed world forced begin = refl
  perform_closed world forced commit = refl
  perform_closed world forced rollback = refl
  perform_closed world forced (savepoint n) = refl
  perform_closed world forced (rollback_to n) = refl
  perform_closed world forced (release_savepoint n) = refl
  perform_closed world forced (block ds ss) = refl
  perform_closed world forced (if_steps bs o) = refl
  perform_closed world forced (while_steps c ss) = refl
  perform_closed world forced (return_value t) = refl
