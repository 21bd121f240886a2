-- What LAST_INSERT_ID() becomes is not below 0, where no value below 0 is forced.
use Rattle.std.proofs.Common.{◌≡◌, ℕ, ◌+◌, ◌*◌, List, [], ◌∷◌, length, zip, Bool, true, false, cond, Option, Some, None, ℤ, pos, refl, subst, arith}
use Rattle.std.specs.Prelude.{IfSome, IsTrue, int_le, nat_le, unwrap_or, slice_index_or, slice_set}
use Rattle.std.specs.Option.{option_or}
use Rattle.std.proofs.lemmas.Bool.Decides.{nat_tests}
use Rattle.val_types.specs.declared.value.Value.{Value}
use Rattle.val_types.specs.declared.value.Value.TheVariants.{Null, Int, Text}
use Rattle.val_types.specs.declared.change.Change.TheVariants as changes
use Rattle.val_types.specs.declared.definitions.TableDef.{TableDef}
use Rattle.val_types.specs.Fitting.{greatest_of}
use Rattle.auto_inc.specs.Generating.{Sequence, next_value, after_generated, after_explicit, least_congruent, used_offset, start_of}
use Rattle.table_rules.specs.Stored.{key_tests, row_in_way}
use Rattle.sql_tree.specs.Statement.{Supply, rows, rows_of}
use Rattle.sql_tree.specs.Statement.{Statement, create_table, create_function, create_procedure, create_trigger, drop_table, drop_function, drop_procedure, drop_trigger, truncate, insert_into, replace_into, update_rows, delete_rows, select, evaluate, set_all, call_procedure, begin, commit, rollback, savepoint, rollback_to, release_savepoint, block, if_steps, while_steps, return_value}
use Rattle.sql_locals.specs.declared.locals.Local.{Local}
use Rattle.sql_tree.specs.declared.statements.Cause.TheVariants as causes
use Rattle.statement_names.specs.catalog_rules.Nodes.{nodes_of}
use Rattle.statement_names.specs.sql_meaning.Scenes.{Scene, Ending, done, failed, Action, then_do, ◌>>=◌, pure, fail, needed, each, counted, carried_on, make, table_now, counter_now, raise_counter, undone_from}
use Rattle.statement_names.specs.sql_meaning.Frames.{Setting, World, Frame, only_locals}
use Rattle.statement_names.specs.sql_meaning.Values.{values, rows_of_query}
use Rattle.statement_names.specs.sql_meaning.Changing.{put_at, asked_place, asks, none_missing, before_row, after_row, delete_row, update_row, Inserting, nothing_inserted, Manner, refusing, ignoring, replacing, updating, generated_next, Counted, type_at, generate_at, given_value, count_row, put_row, clear_way, passed_by, updating_frame, settle, place_row, left_out_row, insert_row, insert_supply, insert_into_table, chosen_rows, Did, did_insert, affected_rows}
use Rattle.prog_run.specs.Runs.{Counts}
use Rattle.statement_names.specs.sql_meaning.Running.{manner_of, rows_shown, perform, world_of, forced_for, uses_forced, effect}

-- what an action gives, where it gives something
record Gives {A : Type 0} (P : A → Type 0) (m : Action A) : Type 0 where
  pub gives : (s : Scene) (a : A) (after : Scene) → m s ≡ done a after → P a

done_value : {A : Type 0} (a b : A) (s t : Scene) → done a s ≡ done b t → a ≡ b
done_value a b s t e = cc

then_gives : {A B : Type 0} (P : B → Type 0) (f : A → Action B) (o : Ending A) → ((x : A) → Gives P (f x)) → (b : B) (after : Scene) → then_do o f ≡ done b after → P b
then_gives P f (done x s) rest b after e = (rest x).gives s b after e
then_gives P f (failed code s) rest b after e = cc

bind_gives : {A B : Type 0} (P : B → Type 0) (m : Action A) (f : A → Action B) → ((x : A) → Gives P (f x)) → Gives P (m >>= f)
bind_gives P m f rest = record { gives = λ s b after e. then_gives P f (m s) rest b after e }

then_known : {A B : Type 0} (Q : A → Type 0) (P : B → Type 0) (f : A → Action B) (o : Ending A) → ((x : A) (s : Scene) → o ≡ done x s → Q x) → ((x : A) → Q x → Gives P (f x))
    → (b : B) (after : Scene) → then_do o f ≡ done b after → P b
then_known Q P f (done x s) first rest b after e = (rest x (first x s refl)).gives s b after e
then_known Q P f (failed code s) first rest b after e = cc

bind_known : {A B : Type 0} (Q : A → Type 0) (P : B → Type 0) (m : Action A) (f : A → Action B) → Gives Q m → ((x : A) → Q x → Gives P (f x)) → Gives P (m >>= f)
bind_known Q P m f first rest = record { gives = λ s b after e. then_known Q P f (m s) (λ x t same. first.gives s x t same) rest b after e }

pure_gives : {A : Type 0} (P : A → Type 0) (a : A) → P a → Gives P (pure a)
pure_gives P a p = record { gives = λ s b after e. subst P (done_value a b s after e) p }

fail_gives : {A : Type 0} (P : A → Type 0) (code : ℕ) → Gives P (fail code)
fail_gives P code = record { gives = λ s b after e. cc }

needed_gives : {A : Type 0} (P : A → Type 0) (code : ℕ) (o : Option A) → IfSome o P → Gives P (needed code o)
needed_gives P code None p = fail_gives P code
needed_gives P code (Some a) p = pure_gives P a p

carried_gives : {S A : Type 0} (P : S → Type 0) (f : S → A → Action S) → ((s : S) (a : A) → P s → Gives P (f s a)) → (s : S) → P s → (as' : List A) → Gives P (carried_on f s as')
carried_gives P f step s p [] = pure_gives P s p
carried_gives P f step s p (a ∷ as') = bind_known P P (f s a) (λ next. carried_on f next as') (step s a p) (λ next q. carried_gives P f step next q as')

-- ---- generated values

abbrev generated_row : List Value → Sequence → ℕ → ℤ → Counted
generated_row row sequence place v = record { row = slice_set row place (Int v); sequence = after_generated v sequence; generated = Some v }

abbrev given_row : List Value → Sequence → ℤ → Counted
given_row row sequence v = record { row = row; sequence = after_explicit v sequence; generated = None }

abbrev row_put_in : Counted → Inserting → Inserting
row_put_in counted so_far = record { sequence = counted.sequence; affected = so_far.affected + 1; last_id = option_or so_far.last_id counted.generated }

abbrev Is : ℤ → Type 0
Is v = IsTrue (int_le (pos 0) v)

is_natural : (n : ℕ) → Is (pos n)
is_natural n = let here : nat_le 0 n ≡ true = grind (arith, nat_tests) in here

next_from : (b : Bool) (n : ℕ) → IfSome (cond b (Some (pos n)) None) Is
next_from true n = is_natural n
next_from false n = tt {0}

next_counts : (counter increment offset : ℕ) (top : ℤ) (sequence : Sequence) → Counts (next_value counter increment offset top sequence)
next_counts counter increment offset top sequence =
    next_from (int_le (pos (least_congruent increment (used_offset increment offset) (start_of counter sequence))) top) (least_congruent increment (used_offset increment offset) (start_of counter sequence))

within_by : (b : Bool) (v : ℤ) → Is v → IfSome (cond b (Some v) None) Is
within_by true v p = p
within_by false v p = tt {0}

module _ (world : World) (forced : Option ℤ) (h : Counts forced) where
  generated_by : (f : Option ℤ) → Counts f → (top : ℤ) (counter : ℕ) (sequence : Sequence) → Counts (generated_next world f top counter sequence)
  generated_by None p top counter sequence = next_counts counter world.setting.context.increment world.setting.context.offset top sequence
  generated_by (Some v) p top counter None = within_by (int_le v top) v p
  generated_by (Some v) p top counter (Some g) = next_counts counter world.setting.context.increment world.setting.context.offset top (Some g)

  abbrev CountedWell : Counted → Type 0
  CountedWell c = Counts c.generated

  abbrev Well : Inserting → Type 0
  Well i = Counts i.last_id

  generate_gives : (definition : TableDef) (row : List Value) (sequence : Sequence) (place : ℕ) → Gives CountedWell (generate_at world forced definition row sequence place)
  generate_gives definition row sequence place =
      bind_gives CountedWell (type_at definition place) _ (λ kind. bind_gives CountedWell (counter_now definition.name) _ (λ counter.
      bind_known Is CountedWell (needed 1467 (generated_next world forced (greatest_of kind) counter sequence)) (λ v. raise_counter definition.name v >>= λ _. pure (generated_row row sequence place v))
      (needed_gives Is 1467 (generated_next world forced (greatest_of kind) counter sequence) (generated_by forced h (greatest_of kind) counter sequence)) (λ v p.
      bind_gives CountedWell (raise_counter definition.name v) (λ _. pure (generated_row row sequence place v)) (λ _. pure_gives CountedWell (generated_row row sequence place v) p))))

  given_gives : (definition : TableDef) (row : List Value) (sequence : Sequence) (v : Value) → Gives CountedWell (given_value definition row sequence v)
  given_gives definition row sequence Null = pure_gives CountedWell (record { row = row; sequence = sequence; generated = None }) (tt {0})
  given_gives definition row sequence (Int v) = bind_gives CountedWell (raise_counter definition.name v) (λ _. pure (given_row row sequence v)) (λ _. pure_gives CountedWell (given_row row sequence v) (tt {0}))
  given_gives definition row sequence (Text t) = pure_gives CountedWell (record { row = row; sequence = sequence; generated = None }) (tt {0})

  either_gives : {A : Type 0} (P : A → Type 0) (b : Bool) (m n : Action A) → Gives P m → Gives P n → Gives P (cond b m n)
  either_gives P true m n p q = p
  either_gives P false m n p q = q

  counted_gives : (definition : TableDef) (row : List Value) (sequence : Sequence) (auto : Option ℕ)
      → Gives CountedWell (elim auto as (λ _. Action Counted) [
        | None ↦ pure (record { row = row; sequence = sequence; generated = None })
        | Some place ↦ cond (asks (slice_index_or row place Null)) (generate_at world forced definition row sequence place) (given_value definition row sequence (slice_index_or row place Null))
      ])
  counted_gives definition row sequence None = pure_gives CountedWell (record { row = row; sequence = sequence; generated = None }) (tt {0})
  counted_gives definition row sequence (Some place) =
      either_gives CountedWell (asks (slice_index_or row place Null)) _ _ (generate_gives definition row sequence place) (given_gives definition row sequence (slice_index_or row place Null))

  count_gives : (definition : TableDef) (row : List Value) (sequence : Sequence) → Gives CountedWell (count_row world forced definition row sequence)
  count_gives definition row sequence = counted_gives definition row sequence definition.auto

  first_of : (a b : Option ℤ) → Counts a → Counts b → Counts (option_or a b)
  first_of None b p q = q
  first_of (Some v) b p q = p

  put_gives : (definition : TableDef) (counted : Counted) (so_far : Inserting) → CountedWell counted → Well so_far → Gives Well (put_row world definition counted so_far)
  put_gives definition counted so_far p q =
      bind_gives Well (make 1062 (changes.Insert definition.name counted.row)) (λ _. after_row world causes.Insert definition (Some counted.row) None >>= λ _. pure (row_put_in counted so_far)) (λ _.
      bind_gives Well (after_row world causes.Insert definition (Some counted.row) None) (λ _. pure (row_put_in counted so_far)) (λ _. pure_gives Well (row_put_in counted so_far) (first_of so_far.last_id counted.generated q p)))

  settle_gives : (frame : Frame) (definition : TableDef) (manner : Manner) (counted : Counted) (other : List Value) (so_far : Inserting) → CountedWell counted → Well so_far
      → Gives Well (settle world frame definition manner counted other so_far)
  settle_gives frame definition refusing counted other so_far p q = fail_gives Well 1062
  settle_gives frame definition ignoring counted other so_far p q = pure_gives Well (passed_by counted 0 so_far) q
  settle_gives frame definition replacing counted other so_far p q =
      bind_gives Well (clear_way world definition (key_tests definition counted.row)) _ (λ deleted. put_gives definition counted (passed_by counted deleted so_far) p q)
  settle_gives frame definition (updating sets) counted other so_far p q =
      bind_gives Well (update_row world (updating_frame frame definition counted.row) definition sets other) _ (λ count. pure_gives Well (passed_by counted (2 * count) so_far) q)

  placed_gives : (frame : Frame) (definition : TableDef) (manner : Manner) (counted : Counted) (so_far : Inserting) (found : Option (List Value)) → CountedWell counted → Well so_far
      → Gives Well (elim found as (λ _. Action Inserting) [
        | None ↦ put_row world definition counted so_far
        | Some other ↦ settle world frame definition manner counted other so_far
      ])
  placed_gives frame definition manner counted so_far None p q = put_gives definition counted so_far p q
  placed_gives frame definition manner counted so_far (Some other) p q = settle_gives frame definition manner counted other so_far p q

  place_gives : (frame : Frame) (definition : TableDef) (manner : Manner) (counted : Counted) (so_far : Inserting) → CountedWell counted → Well so_far
      → Gives Well (place_row world frame definition manner counted so_far)
  place_gives frame definition manner counted so_far p q =
      bind_gives Well (table_now definition.name) _ (λ table. placed_gives frame definition manner counted so_far (row_in_way definition counted.row table.rows) p q)

  insert_gives : (frame : Frame) (definition : TableDef) (places : List ℕ) (manner : Manner) (so_far : Inserting) (vs : List Value) → Well so_far
      → Gives Well (insert_row world frame forced definition places manner so_far vs)
  insert_gives frame definition places manner so_far vs q =
      bind_gives Well (carried_on (put_at definition) (left_out_row definition) (zip places vs)) _ (λ filled.
      bind_gives Well (before_row world causes.Insert definition (Some filled) None) _ (λ left.
      bind_gives Well (none_missing definition (unwrap_or left filled) (asked_place definition (unwrap_or left filled))) _ (λ _.
      bind_known CountedWell Well (count_row world forced definition (unwrap_or left filled) so_far.sequence) _ (count_gives definition (unwrap_or left filled) so_far.sequence) (λ counted p.
      place_gives frame definition manner counted so_far p q))))

  supply_gives : (frame : Frame) (insert_one : Inserting → List Value → Action Inserting) → ((so_far : Inserting) (vs : List Value) → Well so_far → Gives Well (insert_one so_far vs)) → (supply : Supply)
      → Gives Well (insert_supply world frame insert_one supply)
  supply_gives frame insert_one one (rows rs) =
      carried_gives Well (λ so_far ts. values world frame ts >>= insert_one so_far) (λ so_far ts q. bind_gives Well (values world frame ts) _ (λ vs. one so_far vs q)) nothing_inserted (tt {0}) rs
  supply_gives frame insert_one one (rows_of q) =
      bind_gives Well (rows_of_query world frame q) _ (λ answer. carried_gives Well insert_one one nothing_inserted (tt {0}) answer)

  abbrev DidWell : Did → Type 0
  DidWell did = Counts did.last_id

  into_gives : (frame : Frame) (t : List ℕ) (names : Option (List (List ℕ))) (supply : Supply) (manner : Manner) → Gives DidWell (insert_into_table world frame forced t names supply manner)
  into_gives frame t names supply manner =
      bind_gives DidWell (table_now t) _ (λ table.
      bind_known Well DidWell (insert_supply world frame _ supply) _ (supply_gives frame _ (insert_gives frame table.definition _ manner) supply) (λ so_far q. pure_gives DidWell (did_insert so_far) q))

  perform_gives : (frame : Frame) (s : Statement) → Gives DidWell (perform world frame forced s)
  perform_gives frame (insert_into ignore t names supply sets) = into_gives frame t names supply (manner_of ignore sets)
  perform_gives frame (replace_into t names supply) = into_gives frame t names supply replacing
  perform_gives frame (update_rows t sets condition os limit) =
      bind_gives DidWell (table_now t) _ (λ table. bind_gives DidWell (chosen_rows world frame table condition os limit) _ (λ chosen. bind_gives DidWell (counted (update_row world frame table.definition sets) chosen) (λ n. pure (affected_rows n)) (λ n. pure_gives DidWell (affected_rows n) (tt {0}))))
  perform_gives frame (delete_rows t condition os limit) =
      bind_gives DidWell (table_now t) _ (λ table. bind_gives DidWell (chosen_rows world frame table condition os limit) _ (λ chosen. bind_gives DidWell (each (delete_row world table.definition) chosen) (λ _. pure (affected_rows (length chosen))) (λ _. pure_gives DidWell (affected_rows (length chosen)) (tt {0}))))
  perform_gives frame (select q) = bind_gives DidWell (rows_of_query world frame q) _ (λ shown. pure_gives DidWell (rows_shown shown) (tt {0}))
  perform_gives frame (evaluate ts) = bind_gives DidWell (values world frame ts) (λ _. pure (affected_rows 0)) (λ vs. pure_gives DidWell (affected_rows 0) (tt {0}))
  perform_gives frame (create_table t) = pure_gives DidWell (affected_rows 0) (tt {0})
  perform_gives frame (create_function p) = pure_gives DidWell (affected_rows 0) (tt {0})
  perform_gives frame (create_procedure p) = pure_gives DidWell (affected_rows 0) (tt {0})
  perform_gives frame (create_trigger t) = pure_gives DidWell (affected_rows 0) (tt {0})
  perform_gives frame (drop_table n) = pure_gives DidWell (affected_rows 0) (tt {0})
  perform_gives frame (drop_function n) = pure_gives DidWell (affected_rows 0) (tt {0})
  perform_gives frame (drop_procedure n) = pure_gives DidWell (affected_rows 0) (tt {0})
  perform_gives frame (drop_trigger n) = pure_gives DidWell (affected_rows 0) (tt {0})
  perform_gives frame (truncate n) = pure_gives DidWell (affected_rows 0) (tt {0})
  perform_gives frame (set_all as') = pure_gives DidWell (affected_rows 0) (tt {0})
  perform_gives frame (call_procedure n ts) = pure_gives DidWell (affected_rows 0) (tt {0})
  perform_gives frame begin = pure_gives DidWell (affected_rows 0) (tt {0})
  perform_gives frame commit = pure_gives DidWell (affected_rows 0) (tt {0})
  perform_gives frame rollback = pure_gives DidWell (affected_rows 0) (tt {0})
  perform_gives frame (savepoint n) = pure_gives DidWell (affected_rows 0) (tt {0})
  perform_gives frame (rollback_to n) = pure_gives DidWell (affected_rows 0) (tt {0})
  perform_gives frame (release_savepoint n) = pure_gives DidWell (affected_rows 0) (tt {0})
  perform_gives frame (block ds ss) = pure_gives DidWell (affected_rows 0) (tt {0})
  perform_gives frame (if_steps bs o) = pure_gives DidWell (affected_rows 0) (tt {0})
  perform_gives frame (while_steps c ss) = pure_gives DidWell (affected_rows 0) (tt {0})
  perform_gives frame (return_value e) = pure_gives DidWell (affected_rows 0) (tt {0})

forced_by : (uses : Bool) (forced : Option ℤ) → Counts forced → Counts (cond uses forced None)
forced_by true forced h = h
forced_by false forced h = tt {0}

undone_was : {A : Type 0} (before : Scene) (o : Ending A) (a : A) (after : Scene) → undone_from before o ≡ done a after → o ≡ done a after
undone_was before (done b s) a after e = e
undone_was before (failed code s) a after e = cc

-- what a session's statement makes of LAST_INSERT_ID()
pub last_id_counts : (setting : Setting) (nesting : ℕ) (locals : List Local) (s : Statement) (before : Scene) (did : Did) (after : Scene) → Counts setting.context.forced
    → effect setting nesting locals s before ≡ done did after → Counts did.last_id
unfolding effect
last_id_counts setting nesting locals s before did after h e =
    (perform_gives (world_of setting nesting (nodes_of s)) (forced_for setting.context s) (forced_by (uses_forced s) setting.context.forced h) (only_locals locals) s).gives before did after
    (undone_was before _ did after e)
