-- INSERT, REPLACE, UPDATE and DELETE are alike, where what they reach is.
use Rattle.std.proofs.Common.{◌≡◌, inl, inr, ℕ, ◌+◌, List, [], ◌∷◌, zip, Bool, cond, Option, Some, None, ℤ, refl, sym, subst}
use Rattle.std.specs.Prelude.{find, unwrap_or, slice_get, slice_index_or, slice_set, is_none, not, ◌&&◌}
use Rattle.std.specs.List.{AllByRecursion}
use Rattle.std.specs.Option.{option_map}
use Rattle.val_types.specs.declared.value.Value.{Value}
use Rattle.val_types.specs.declared.value.Value.TheVariants.{Null, Int, Text}
use Rattle.val_types.specs.declared.change.Change.TheVariants as changes
use Rattle.val_types.specs.declared.definitions.ColType.{ColType}
use Rattle.val_types.specs.declared.definitions.ColumnDef.{ColumnDef}
use Rattle.val_types.specs.declared.definitions.TableDef.{TableDef}
use Rattle.val_types.specs.Fitting.{fitting, greatest_of, row_fits}
use Rattle.val_types.specs.Keys.{primary_key, same_values}
use Rattle.auto_inc.specs.Generating.{Sequence, next_value, after_generated, after_explicit}
use Rattle.table_rules.specs.Tables.{Table}
use Rattle.table_rules.specs.Stored.{rows_beside, key_in_way, key_tests, row_in_way}
use Rattle.sql_tree.specs.Tree.{Tree, Trees, Part, Orders}
use Rattle.sql_tree.specs.Statement.{Supply, rows, rows_of}
use Rattle.sql_tree.specs.declared.expressions.Count.{Count}
use Rattle.sql_tree.specs.declared.statements.Time.{Time}
use Rattle.sql_tree.specs.declared.statements.Time.TheVariants as times
use Rattle.sql_tree.specs.declared.statements.Cause.{Cause}
use Rattle.sql_tree.specs.declared.statements.Cause.TheVariants as causes
use Rattle.sql_reach.specs.catalog_rules.Names.{place_among}
use Rattle.sql_reach.specs.catalog_rules.Objects.{columns_of}
use Rattle.sql_reach.specs.catalog_rules.Nodes.{Node, Sight, no_sight, nodes_of_tree, nodes_of_trees, nodes_of_part, nodes_of_orders, nodes_of_supply}
use Rattle.sql_reach.specs.sql_meaning.Scenes.{Action, ◌>>=◌, pure, answered, needed, require, each, kept_by, counted, carried_on, make, table_now, raise_counter}
use Rattle.sql_reach.specs.sql_meaning.Frames.{World, Frame, sees, Setting, Running, Below}
use Rattle.sql_reach.specs.sql_meaning.Values.{value, values, is_kept, order_values, rows_of_query}
use Rattle.sql_reach.specs.sql_meaning.Changing.{fitted, type_at, put_at, asks, asked_place, has_missing, none_missing, before_row, after_row, delete_row, assign_column, take_out, put_in_place, is_there, store_update, update_row, Inserting, nothing_inserted, Manner, refusing, ignoring, replacing, updating, generated_next, Counted, generate_at, given_value, count_row, put_row, clear_way, passed_by, updating_frame, settle, place_row, left_out_row, insert_row, insert_supply, insert_into_table, chosen_rows, update_table, delete_from_table}
use Rattle.reach_laws.proofs.Members.{of_each}
use Rattle.reach_laws.proofs.Reaching.{Decided, Fired, IsReach, LikeBelow}
use Rattle.reach_laws.proofs.Like.{IsLikeness, bind_like, pure_like, fail_like, answered_like, needed_like, require_like, if_like, every_like, kept_like, counted_like, carried_like, carry_like, make_like, table_like, raise_like}
use Rattle.reach_laws.proofs.LikeValues.{around, value_like, values_like, is_kept_like, order_like, query_like}

-- a row with its value generated, and one with its value given
abbrev generated_row : List Value → Sequence → ℕ → ℤ → Counted
generated_row row sequence place v = record { row = slice_set row place (Int v); sequence = after_generated v sequence; generated = Some v }

abbrev given_row : List Value → Sequence → ℤ → Counted
given_row row sequence v = record { row = row; sequence = after_explicit v sequence; generated = None }

module _ {P : (A : Type 0) → Action A → Action A → Type 0} {random exact changing : Type 0} {Known : List ℕ → TableDef → Type 0} (law : IsLikeness P random exact changing Known) where
  pub fitted_like : (kind : ColType) (v : Value) → P _ (fitted kind v) (fitted kind v)
  fitted_like kind v = bind_like law (answered (fitting kind v)) (answered (fitting kind v)) _ _ (answered_like law (fitting kind v)) (λ _. pure_like law v)

  type_like : (definition : TableDef) (place : ℕ) → P _ (type_at definition place) (type_at definition place)
  type_like definition place = needed_like law 1054 (option_map (λ (c : ColumnDef). c.kind) (slice_get definition.columns place))

  pub put_at_like : (definition : TableDef) (row : List Value) (cell : ℕ × Value) → P _ (put_at definition row cell) (put_at definition row cell)
  put_at_like definition row cell =
      bind_like law (type_at definition cell.0) (type_at definition cell.0) _ _ (type_like definition cell.0) (λ kind.
      bind_like law (fitted kind cell.1) (fitted kind cell.1) _ _ (fitted_like kind cell.1) (λ v. pure_like law _))

  missing_like : (definition : TableDef) (row : List Value) (asked : Option ℕ) → P _ (none_missing definition row asked) (none_missing definition row asked)
  missing_like definition row asked = require_like law 1048 (not (has_missing definition row asked))

  take_out_like : changing → (name : List ℕ) (row : List Value) → P _ (take_out name row) (take_out name row)
  take_out_like may name row =
      bind_like law (table_now name) (table_now name) _ _ (table_like law name) (λ table.
      bind_like law (require 1032 _) (require 1032 _) _ _ (require_like law 1032 (is_there table.definition row table.rows)) (λ _.
      make_like law may 1032 (changes.Delete name row)))

  put_in_place_like : changing → (name : List ℕ) (old new : List Value) → P _ (put_in_place name old new) (put_in_place name old new)
  put_in_place_like may name old new =
      bind_like law (table_now name) (table_now name) _ _ (table_like law name) (λ table.
      bind_like law (require 1032 _) (require 1032 _) _ _ (require_like law 1032 (row_fits table.definition.columns new && is_there table.definition old table.rows)) (λ _.
      bind_like law (require 1062 _) (require 1062 _) _ _ (require_like law 1062 (is_none (key_in_way table.definition new (rows_beside table.definition (primary_key table.definition old) table.rows)))) (λ _.
      make_like law may 1032 (changes.Update name old new))))

-- ---- rows

module _ {P : (A : Type 0) → Action A → Action A → Type 0} {random exact changing : Type 0} {Known : List ℕ → TableDef → Type 0} (law : IsLikeness P random exact changing Known)
    (setting setting' : Setting) (reached : Node → Type 0) (reach : IsReach random exact changing Known setting setting' reached)
    (may : changing) (running : Running) (below below' : Below) (h : LikeBelow P setting setting' reached below below') where
  abbrev Same : {A : Type 0} → Action A → Action A → Type 0
  Same {A = A} m m' = P A m m'

  abbrev All : List Node → Type 0
  All ns = AllByRecursion reached ns

  abbrev one : World
  one = around setting below running

  abbrev other : World
  other = around setting' below' running

  -- the triggers of a table for an event are reached
  abbrev pub Fires : TableDef → Cause → Type 0
  Fires definition event = (time : Time) → Fired setting setting' reached definition.name time event

  -- the expressions of assignments are reached
  abbrev pub Sets : Sight → List (List ℕ × Tree) → Type 0
  Sets sight sets = AllByRecursion (λ (s : List ℕ × Tree). All (nodes_of_tree s.1 sight)) sets

  -- what becomes of a row in the way is reached
  abbrev pub Settles : TableDef → Sight → Manner → Type 0
  Settles definition sight refusing = Unit {0}
  Settles definition sight ignoring = Unit {0}
  Settles definition sight replacing = Fires definition causes.Delete
  Settles definition sight (updating sets) = Fires definition causes.Update × Sets sight sets

  before_like : (event : Cause) (definition : TableDef) (new old : Option (List Value)) → Fires definition event → Same (before_row one event definition new old) (before_row other event definition new old)
  before_like event definition new old f = h.fires running times.Before event definition new old (f times.Before)

  after_like : (event : Cause) (definition : TableDef) (new old : Option (List Value)) → Fires definition event → Same (after_row one event definition new old) (after_row other event definition new old)
  after_like event definition new old f = bind_like law _ _ _ _ (h.fires running times.After event definition new old (f times.After)) (λ _. pure_like law tt)

  delete_like : (definition : TableDef) (row : List Value) → Fires definition causes.Delete → Same (delete_row one definition row) (delete_row other definition row)
  delete_like definition row f =
      bind_like law (before_row one causes.Delete definition None (Some row)) (before_row other causes.Delete definition None (Some row)) _ _ (before_like causes.Delete definition None (Some row) f) (λ _.
      bind_like law (take_out definition.name row) (take_out definition.name row) _ _ (take_out_like law may definition.name row) (λ _.
      after_like causes.Delete definition None (Some row) f))

  assign_like : (frame : Frame) (sight : Sight) (definition : TableDef) (row : List Value) (set : List ℕ × Tree) → All (nodes_of_tree set.1 sight) → Same (assign_column one frame definition row set) (assign_column other frame definition row set)
  assign_like frame sight definition row set n =
      bind_like law (value one (sees definition row frame) set.1) (value other (sees definition row frame) set.1) _ _ (value_like law setting setting' reached reach running below below' h (sees definition row frame) sight set.1 n) (λ v.
      bind_like law (needed 1054 (place_among (columns_of definition) set.0)) (needed 1054 (place_among (columns_of definition) set.0)) _ _ (needed_like law 1054 (place_among (columns_of definition) set.0)) (λ place.
      put_at_like law definition row (place, v)))

  store_like : (definition : TableDef) (old new : List Value) → Same (store_update definition old new) (store_update definition old new)
  store_like definition old new =
      if_like law (same_values new old) _ _ _ _ (pure_like law 0)
      (bind_like law (put_in_place definition.name old new) (put_in_place definition.name old new) _ _ (put_in_place_like law may definition.name old new) (λ _. pure_like law 1))

  update_like : (frame : Frame) (sight : Sight) (definition : TableDef) (sets : List (List ℕ × Tree)) (old : List Value) → Fires definition causes.Update → Sets sight sets → Same (update_row one frame definition sets old) (update_row other frame definition sets old)
  update_like frame sight definition sets old f n =
      bind_like law (carried_on (assign_column one frame definition) old sets) (carried_on (assign_column other frame definition) old sets) _ _ (carried_like law (λ (s : List ℕ × Tree). All (nodes_of_tree s.1 sight)) (assign_column one frame definition) (assign_column other frame definition) (assign_like frame sight definition) old sets n) (λ assigned.
      bind_like law (before_row one causes.Update definition (Some assigned) (Some old)) (before_row other causes.Update definition (Some assigned) (Some old)) _ _ (before_like causes.Update definition (Some assigned) (Some old) f) (λ left.
      bind_like law (none_missing definition (unwrap_or left assigned) None) (none_missing definition (unwrap_or left assigned) None) _ _ (missing_like law definition (unwrap_or left assigned) None) (λ _.
      bind_like law (store_update definition old (unwrap_or left assigned)) (store_update definition old (unwrap_or left assigned)) _ _ (store_like definition old (unwrap_or left assigned)) (λ count.
      bind_like law (after_row one causes.Update definition (Some (unwrap_or left assigned)) (Some old)) (after_row other causes.Update definition (Some (unwrap_or left assigned)) (Some old)) _ _ (after_like causes.Update definition (Some (unwrap_or left assigned)) (Some old) f) (λ _. pure_like law count)))))

  -- ---- inserting

  -- where the first value is forced, no counter is asked
  abbrev Asked : Option ℤ → Type 0
  Asked None = exact
  Asked (Some v) = Unit {0}

  next_same : (forced : Option ℤ) → Asked forced → (top : ℤ) (x y : ℕ) → (exact → y ≡ x) → (sequence : Sequence) → generated_next other forced top y sequence ≡ generated_next one forced top x sequence
  next_same None a top x y e sequence = λ i. next_value (e a i) (reach.increment i) (reach.offset i) top sequence
  next_same (Some v) a top x y e None = refl
  next_same (Some v) a top x y e (Some g) = λ i. next_value x (reach.increment i) (reach.offset i) top (Some g)

  generate_like : (forced : Option ℤ) → Asked forced → (definition : TableDef) (row : List Value) (sequence : Sequence) (place : ℕ) → Same (generate_at one forced definition row sequence place) (generate_at other forced definition row sequence place)
  generate_like forced asked definition row sequence place =
      bind_like law (type_at definition place) (type_at definition place) _ _ (type_like law definition place) (λ kind.
      law.counter definition.name
      (λ counter. needed 1467 (generated_next one forced (greatest_of kind) counter sequence) >>= λ v. raise_counter definition.name v >>= λ _. pure (generated_row row sequence place v))
      (λ counter. needed 1467 (generated_next other forced (greatest_of kind) counter sequence) >>= λ v. raise_counter definition.name v >>= λ _. pure (generated_row row sequence place v))
      (λ x y e.
      bind_like law (needed 1467 (generated_next one forced (greatest_of kind) x sequence)) (needed 1467 (generated_next other forced (greatest_of kind) y sequence)) _ _
      (subst (λ (o : Option ℤ). Same (needed 1467 (generated_next one forced (greatest_of kind) x sequence)) (needed 1467 o)) (sym (next_same forced asked (greatest_of kind) x y e sequence))
      (needed_like law 1467 (generated_next one forced (greatest_of kind) x sequence))) (λ v.
      bind_like law (raise_counter definition.name v) (raise_counter definition.name v) (λ _. pure (generated_row row sequence place v)) (λ _. pure (generated_row row sequence place v)) (raise_like law definition.name v) (λ _. pure_like law (generated_row row sequence place v)))))

  given_like : (definition : TableDef) (row : List Value) (sequence : Sequence) (v : Value) → Same (given_value definition row sequence v) (given_value definition row sequence v)
  given_like definition row sequence Null = pure_like law _
  given_like definition row sequence (Int v) = bind_like law (raise_counter definition.name v) (raise_counter definition.name v) (λ _. pure (given_row row sequence v)) (λ _. pure (given_row row sequence v)) (raise_like law definition.name v) (λ _. pure_like law (given_row row sequence v))
  given_like definition row sequence (Text t) = pure_like law _

  counts_nothing : (place : ℕ) → Some place ≡ None → ⊥
  counts_nothing place e = cc

  counted_at : (forced : Option ℤ) (definition : TableDef) (row : List Value) (sequence : Sequence) (auto : Option ℕ) → Decided exact forced auto
      → Same (elim auto as (λ _. Action Counted) [
        | None ↦ pure (record { row = row; sequence = sequence; generated = None })
        | Some place ↦ cond (asks (slice_index_or row place Null)) (generate_at one forced definition row sequence place) (given_value definition row sequence (slice_index_or row place Null))
      ]) (elim auto as (λ _. Action Counted) [
        | None ↦ pure (record { row = row; sequence = sequence; generated = None })
        | Some place ↦ cond (asks (slice_index_or row place Null)) (generate_at other forced definition row sequence place) (given_value definition row sequence (slice_index_or row place Null))
      ])
  counted_at forced definition row sequence None d = pure_like law _
  counted_at None definition row sequence (Some place) (inl e) = absurd (counts_nothing place e)
  counted_at None definition row sequence (Some place) (inr same) =
      if_like law (asks (slice_index_or row place Null)) _ _ _ _ (generate_like None same definition row sequence place) (given_like definition row sequence (slice_index_or row place Null))
  counted_at (Some v) definition row sequence (Some place) d =
      if_like law (asks (slice_index_or row place Null)) _ _ _ _ (generate_like (Some v) tt definition row sequence place) (given_like definition row sequence (slice_index_or row place Null))

  count_like : (forced : Option ℤ) (definition : TableDef) (row : List Value) (sequence : Sequence) → Decided exact forced definition.auto → Same (count_row one forced definition row sequence) (count_row other forced definition row sequence)
  count_like forced definition row sequence d = counted_at forced definition row sequence definition.auto d

  put_like : (definition : TableDef) (counted : Counted) (so_far : Inserting) → Fires definition causes.Insert → Same (put_row one definition counted so_far) (put_row other definition counted so_far)
  put_like definition counted so_far f =
      bind_like law (make 1062 (changes.Insert definition.name counted.row)) (make 1062 (changes.Insert definition.name counted.row)) _ _ (make_like law may 1062 (changes.Insert definition.name counted.row)) (λ _.
      bind_like law (after_row one causes.Insert definition (Some counted.row) None) (after_row other causes.Insert definition (Some counted.row) None) _ _ (after_like causes.Insert definition (Some counted.row) None f) (λ _. pure_like law _))

  cleared : (definition : TableDef) (tests : List (List Value → Bool)) (found : Option (List Value)) → Fires definition causes.Delete → Same (clear_way one definition tests) (clear_way other definition tests)
      → Same (elim found as (λ _. Action ℕ) [
        | None ↦ clear_way one definition tests
        | Some row ↦ delete_row one definition row >>= λ _. clear_way one definition tests >>= λ n. pure (n + 1)
      ]) (elim found as (λ _. Action ℕ) [
        | None ↦ clear_way other definition tests
        | Some row ↦ delete_row other definition row >>= λ _. clear_way other definition tests >>= λ n. pure (n + 1)
      ])
  cleared definition tests None f led = led
  cleared definition tests (Some row) f led =
      bind_like law (delete_row one definition row) (delete_row other definition row) _ _ (delete_like definition row f) (λ _. bind_like law (clear_way one definition tests) (clear_way other definition tests) _ _ led (λ n. pure_like law _))

  clear_like : (definition : TableDef) (tests : List (List Value → Bool)) → Fires definition causes.Delete → Same (clear_way one definition tests) (clear_way other definition tests)
  clear_like definition [] f = pure_like law 0
  clear_like definition (test ∷ tests) f =
      bind_like law (table_now definition.name) (table_now definition.name) _ _ (table_like law definition.name) (λ table. cleared definition tests (find test table.rows) f (clear_like definition tests f))

  settle_like : (frame : Frame) (sight : Sight) (definition : TableDef) (manner : Manner) (counted : Counted) (taken : List Value) (so_far : Inserting) → Fires definition causes.Insert → Settles definition sight manner
      → Same (settle one frame definition manner counted taken so_far) (settle other frame definition manner counted taken so_far)
  settle_like frame sight definition refusing counted taken so_far f s = fail_like law Inserting 1062
  settle_like frame sight definition ignoring counted taken so_far f s = pure_like law _
  settle_like frame sight definition replacing counted taken so_far f s =
      bind_like law (clear_way one definition (key_tests definition counted.row)) (clear_way other definition (key_tests definition counted.row)) _ _ (clear_like definition (key_tests definition counted.row) s) (λ deleted.
      put_like definition counted (passed_by counted deleted so_far) f)
  settle_like frame sight definition (updating sets) counted taken so_far f s =
      bind_like law (update_row one (updating_frame frame definition counted.row) definition sets taken) (update_row other (updating_frame frame definition counted.row) definition sets taken) _ _ (update_like (updating_frame frame definition counted.row) sight definition sets taken s.0 s.1) (λ count. pure_like law _)

  placed : (frame : Frame) (sight : Sight) (definition : TableDef) (manner : Manner) (counted : Counted) (so_far : Inserting) (found : Option (List Value)) → Fires definition causes.Insert → Settles definition sight manner
      → Same (elim found as (λ _. Action Inserting) [
        | None ↦ put_row one definition counted so_far
        | Some taken ↦ settle one frame definition manner counted taken so_far
      ]) (elim found as (λ _. Action Inserting) [
        | None ↦ put_row other definition counted so_far
        | Some taken ↦ settle other frame definition manner counted taken so_far
      ])
  placed frame sight definition manner counted so_far None f s = put_like definition counted so_far f
  placed frame sight definition manner counted so_far (Some taken) f s = settle_like frame sight definition manner counted taken so_far f s

  place_like : (frame : Frame) (sight : Sight) (definition : TableDef) (manner : Manner) (counted : Counted) (so_far : Inserting) → Fires definition causes.Insert → Settles definition sight manner → Same (place_row one frame definition manner counted so_far) (place_row other frame definition manner counted so_far)
  place_like frame sight definition manner counted so_far f s =
      bind_like law (table_now definition.name) (table_now definition.name) _ _ (table_like law definition.name) (λ table. placed frame sight definition manner counted so_far (row_in_way definition counted.row table.rows) f s)

  insert_like : (frame : Frame) (sight : Sight) (forced : Option ℤ) (definition : TableDef) (places : List ℕ) (manner : Manner) → Decided exact forced definition.auto → Fires definition causes.Insert → Settles definition sight manner
      → (so_far : Inserting) (vs : List Value) → Same (insert_row one frame forced definition places manner so_far vs) (insert_row other frame forced definition places manner so_far vs)
  insert_like frame sight forced definition places manner d f s so_far vs =
      bind_like law (carried_on (put_at definition) (left_out_row definition) (zip places vs)) (carried_on (put_at definition) (left_out_row definition) (zip places vs)) _ _ (carry_like law (put_at definition) (put_at definition) (put_at_like law definition) (left_out_row definition) (zip places vs)) (λ filled.
      bind_like law (before_row one causes.Insert definition (Some filled) None) (before_row other causes.Insert definition (Some filled) None) _ _ (before_like causes.Insert definition (Some filled) None f) (λ left.
      bind_like law (none_missing definition (unwrap_or left filled) (asked_place definition (unwrap_or left filled))) (none_missing definition (unwrap_or left filled) (asked_place definition (unwrap_or left filled))) _ _ (missing_like law definition (unwrap_or left filled) (asked_place definition (unwrap_or left filled))) (λ _.
      bind_like law (count_row one forced definition (unwrap_or left filled) so_far.sequence) (count_row other forced definition (unwrap_or left filled) so_far.sequence) _ _ (count_like forced definition (unwrap_or left filled) so_far.sequence d) (λ counted.
      place_like frame sight definition manner counted so_far f s))))

  -- ---- whole statements

  supply_like : (frame : Frame) (insert_one insert_one' : Inserting → List Value → Action Inserting) → ((so_far : Inserting) (vs : List Value) → Same (insert_one so_far vs) (insert_one' so_far vs)) → (supply : Supply) → All (nodes_of_supply supply no_sight)
      → Same (insert_supply one frame insert_one supply) (insert_supply other frame insert_one' supply)
  supply_like frame insert_one insert_one' led (rows rs) n =
      carried_like law (λ (ts : Trees). All (nodes_of_trees ts no_sight)) (λ so_far ts. values one frame ts >>= insert_one so_far) (λ so_far ts. values other frame ts >>= insert_one' so_far)
      (λ so_far ts own. bind_like law (values one frame ts) (values other frame ts) _ _ (values_like law setting setting' reached reach running below below' h frame no_sight ts own) (led so_far)) nothing_inserted rs
      (of_each reached (λ ts. nodes_of_trees ts no_sight) rs n)
  supply_like frame insert_one insert_one' led (rows_of q) n =
      bind_like law (rows_of_query one frame q) (rows_of_query other frame q) _ _ (query_like law setting setting' reached reach running below below' h frame no_sight q n) (λ answer. carry_like law insert_one insert_one' led nothing_inserted answer)

  -- what an INSERT into a table has to have
  pub record Inserts (forced : Option ℤ) (sight : Sight) (t : List ℕ) (manner : Manner) : Type 0 where
    pub decided : (d : TableDef) → Known t d → Decided exact forced d.auto
    pub fires : (d : TableDef) → Known t d → Fires d causes.Insert
    pub settles : (d : TableDef) → Known t d → Settles d sight manner

  pub insert_into_like : (frame : Frame) (forced : Option ℤ) (sight : Sight) (t : List ℕ) (names : Option (List (List ℕ))) (supply : Supply) (manner : Manner) → Inserts forced sight t manner → All (nodes_of_supply supply no_sight)
      → Same (insert_into_table one frame forced t names supply manner) (insert_into_table other frame forced t names supply manner)
  insert_into_like frame forced sight t names supply manner is n =
      law.found t _ _ (λ table e.
      bind_like law (insert_supply one frame _ supply) (insert_supply other frame _ supply) _ _
      (supply_like frame _ _ (insert_like frame sight forced table.definition _ manner (is.decided table.definition e) (is.fires table.definition e) (is.settles table.definition e)) supply n) (λ so_far. pure_like law _))

  chosen_like : (frame : Frame) (sight : Sight) (table : Table) (condition : Part) (os : Orders) (limit : Option Count) → All (nodes_of_part condition sight) → All (nodes_of_orders os sight) → Same (chosen_rows one frame table condition os limit) (chosen_rows other frame table condition os limit)
  chosen_like frame sight table condition os limit n m =
      bind_like law (kept_by (λ row. is_kept one (sees table.definition row frame) condition) table.rows) (kept_by (λ row. is_kept other (sees table.definition row frame) condition) table.rows) _ _ (kept_like law _ _ (λ row. is_kept_like law setting setting' reached reach running below below' h (sees table.definition row frame) sight condition n) table.rows) (λ kept.
      bind_like law (each (λ row. order_values one (sees table.definition row frame) os >>= λ by. pure (by, row)) kept) (each (λ row. order_values other (sees table.definition row frame) os >>= λ by. pure (by, row)) kept) _ _ (every_like law _ _ (λ row. bind_like law (order_values one (sees table.definition row frame) os) (order_values other (sees table.definition row frame) os) _ _ (order_like law setting setting' reached reach running below below' h (sees table.definition row frame) sight os m) (λ by. pure_like law _)) kept) (λ keyed. pure_like law _))

  pub update_table_like : (frame : Frame) (sight : Sight) (t : List ℕ) (sets : List (List ℕ × Tree)) (condition : Part) (os : Orders) (limit : Option Count) → ((d : TableDef) → Known t d → Fires d causes.Update)
      → Sets sight sets → All (nodes_of_part condition sight) → All (nodes_of_orders os sight) → Same (update_table one frame t sets condition os limit) (update_table other frame t sets condition os limit)
  update_table_like frame sight t sets condition os limit f s n m =
      law.found t _ _ (λ table e.
      bind_like law (chosen_rows one frame table condition os limit) (chosen_rows other frame table condition os limit) _ _ (chosen_like frame sight table condition os limit n m) (λ chosen.
      bind_like law (counted (update_row one frame table.definition sets) chosen) (counted (update_row other frame table.definition sets) chosen) _ _ (counted_like law (update_row one frame table.definition sets) (update_row other frame table.definition sets) (λ row. update_like frame sight table.definition sets row (f table.definition e) s) chosen) (λ n. pure_like law _)))

  pub delete_from_like : (frame : Frame) (sight : Sight) (t : List ℕ) (condition : Part) (os : Orders) (limit : Option Count) → ((d : TableDef) → Known t d → Fires d causes.Delete)
      → All (nodes_of_part condition sight) → All (nodes_of_orders os sight) → Same (delete_from_table one frame t condition os limit) (delete_from_table other frame t condition os limit)
  delete_from_like frame sight t condition os limit f n m =
      law.found t _ _ (λ table e.
      bind_like law (chosen_rows one frame table condition os limit) (chosen_rows other frame table condition os limit) _ _ (chosen_like frame sight table condition os limit n m) (λ chosen.
      bind_like law (each (delete_row one table.definition) chosen) (each (delete_row other table.definition) chosen) _ _ (every_like law (delete_row one table.definition) (delete_row other table.definition) (λ row. delete_like table.definition row (f table.definition e)) chosen) (λ _. pure_like law _)))
