-- What is counted is bounded by the changes that are made.
use Rattle.std.proofs.Common.{◌≡◌, ℕ, suc, ◌+◌, ◌*◌, ◌≤◌, List, [], ◌∷◌, ◌++◌, length, find, zip, Bool, true, false, cond, Option, Some, None, ℤ, sym, subst, arith, length-append}
use Rattle.std.specs.Prelude.{unwrap_or, is_none, ◌&&◌}
use Rattle.std.specs.Option.{option_or}
use Rattle.val_types.specs.declared.value.Value.{Value}
use Rattle.val_types.specs.declared.change.Change.{Change}
use Rattle.val_types.specs.declared.change.Change.TheVariants as changes
use Rattle.val_types.specs.declared.definitions.TableDef.{TableDef}
use Rattle.val_types.specs.Fitting.{row_fits}
use Rattle.val_types.specs.Keys.{primary_key, same_values}
use Rattle.table_rules.specs.Tables.{Table}
use Rattle.table_rules.specs.Changes.{applied}
use Rattle.table_rules.specs.Stored.{rows_beside, key_in_way, key_tests, row_in_way}
use Rattle.sql_tree.specs.Tree.{Tree, Part, Orders}
use Rattle.sql_tree.specs.Statement.{Supply, rows, rows_of}
use Rattle.sql_tree.specs.Statement.{Statement, create_table, create_function, create_procedure, create_trigger, drop_table, drop_function, drop_procedure, drop_trigger, truncate, insert_into, replace_into, update_rows, delete_rows, select, evaluate, set_all, call_procedure, begin, commit, rollback, savepoint, rollback_to, release_savepoint, block, if_steps, while_steps, return_value}
use Rattle.sql_tree.specs.declared.expressions.Count.{Count}
use Rattle.sql_tree.specs.declared.statements.Cause.{Cause}
use Rattle.sql_tree.specs.declared.statements.Cause.TheVariants as causes
use Rattle.sql_meaning.specs.catalog_rules.Nodes.{nodes_of}
use Rattle.sql_meaning.specs.Scenes.{Scene, Ending, done, failed, Action, then_do, ◌>>=◌, pure, fail, require, each, counted, carried_on, make, noted, table_now, undone_from, undone}
use Rattle.sql_meaning.specs.Frames.{Below, World, Frame, only_locals}
use Rattle.sql_meaning.specs.Values.{values, rows_of_query}
use Rattle.sql_meaning.specs.Changing.{put_at, asked_place, none_missing, before_row, after_row, is_there, take_out, put_in_place, delete_row, assign_column, store_update, update_row, Inserting, nothing_inserted, Manner, refusing, ignoring, replacing, updating, Counted, count_row, put_row, clear_way, passed_by, updating_frame, settle, place_row, left_out_row, insert_row, Did, affected_rows, did_insert, insert_supply, insert_into_table, chosen_rows, update_table, delete_from_table}
use Rattle.sql_meaning.specs.Running.{manner_of, rows_shown, perform, world_of, forced_for, effect}
use Rattle.sql_meaning.specs.Leading.{scene_after}
use Rattle.sql_meaning.proofs.Steps.{IsMove, IsMoved, IsWork, require_moved, table_moved, carried_moved}
use Rattle.sql_meaning.proofs.Moved.{values_moved, query_moved}
use Rattle.sql_meaning.proofs.MovedChanges.{ProgramsMoved, put_at_moved, missing_moved, before_moved, after_moved, assign_moved, count_moved, chosen_moved}
use Rattle.sql_meaning.proofs.MovedBodies.{level_moved}
use Rattle.counting_laws.specs.Counts.{Grows, CountsChanges, KeepsChanges, LevelsKeepChanges, itself, affected_of, did_affect, DeletedRowsCount, ClearedRowsCount, UpdatedRowsCount, PutRowsCount, PlacedRowsCount, InsertedRowsCount, InsertsCount, UpdatesCount, DeletesCount, PerformedCount, StatementsCount}

-- ---- changes grow in number

growing : IsMove Grows
growing = record {
  same = λ a b tables same turns. record { more = subst (λ (cs : List Change). length a.changes ≤ length cs) (sym same) (omega arith) };
  on = λ a b c p q. record { more = chained (length a.changes) (length b.changes) (length c.changes) p.more q.more };
}
  where
    chained : (a b c : ℕ) → a ≤ b → b ≤ c → a ≤ c
    chained a b c p q = omega arith

one_more : (change : Change) (cs : List Change) → length (cs ++ change ∷ []) ≡ length cs + 1
one_more change cs = length-append cs (change ∷ [])

make_grows : (code : ℕ) (change : Change) → IsMoved Grows (make code change)
make_grows code change = record { moves = λ scene. found scene (applied change scene.tables) }
  where
    longer : (scene : Scene) → length scene.changes ≤ length (scene.changes ++ change ∷ [])
    longer scene = let sum = one_more change scene.changes in omega arith

    found : (scene : Scene) (o : Option (List Table)) → Grows scene (scene_after (elim o as (λ _. Ending (Unit {0})) [ None ↦ failed code scene | Some tables ↦ done tt (noted change scene tables) ]))
    found scene None = record { more = omega arith }
    found scene (Some tables) = record { more = longer scene }

growing_work : IsWork Grows
growing_work = record { move = growing; made = make_grows }

moved_below : (below : Below) → KeepsChanges below → ProgramsMoved Grows below
moved_below below keeps = record {
  calls = record { calls = λ running n vs. record { moves = λ scene. keeps.calls running n vs scene } };
  fires = λ running time event d new old. record { moves = λ scene. keeps.fires running time event d new old scene };
}

pub levels_keep : LevelsKeepChanges
levels_keep setting nesting =
    let moves = level_moved growing_work setting nesting in
    record {
      calls = λ running n vs scene. (moves.calls.calls running n vs).moves scene;
      fires = λ running time event d new old scene. (moves.fires running time event d new old).moves scene;
    }

-- ---- what actions count, by twice their changes

-- the count of an ending, where it is a value
abbrev Within : {A : Type 0} → (A → ℕ) → ℕ → Scene → Ending A → Type 0
Within count before scene (done a after) = count a + 2 * length scene.changes ≤ before + 2 * length after.changes
Within count before scene (failed code after) = Unit {0}

record IsWithin {A : Type 0} (count : A → ℕ) (before : ℕ) (m : Action A) : Type 0 where
  within : (scene : Scene) → Within count before scene (m scene)

summed : (m c b s a e : ℕ) → c + 2 * s ≤ b + 2 * a → m + 2 * a ≤ c + 2 * e → m + 2 * s ≤ b + 2 * e
summed m c b s a e p q = omega arith

bind_counts : {A B : Type 0} (count : A → ℕ) (more : B → ℕ) (before : ℕ) (m : Action A) (f : A → Action B) → IsWithin count before m → ((a : A) → IsWithin more (count a) (f a)) → IsWithin more before (m >>= f)
bind_counts {A} {B} count more before m f first rest = record { within = λ scene. then_counts scene (m scene) (first.within scene) }
  where
    chain : (c : ℕ) (scene after : Scene) (e : Ending B) → c + 2 * length scene.changes ≤ before + 2 * length after.changes → Within more c after e → Within more before scene e
    chain c scene after (done b end) p q = summed (more b) c before (length scene.changes) (length after.changes) (length end.changes) p q
    chain c scene after (failed code end) p q = tt

    then_counts : (scene : Scene) (e : Ending A) → Within count before scene e → Within more before scene (then_do e f)
    then_counts scene (done a after) p = chain (count a) scene after (f a after) p ((rest a).within after)
    then_counts scene (failed code after) p = tt

-- an action that grows, with a count of another
grown : {A : Type 0} (k : ℕ) (m : Action A) → IsMoved Grows m → IsWithin (λ (_ : A). k) k m
grown {A} k m moved = record { within = λ scene. ended scene (m scene) (moved.moves scene) }
  where
    twice : (a b : ℕ) → a ≤ b → k + 2 * a ≤ k + 2 * b
    twice a b p = omega arith

    ended : (scene : Scene) (e : Ending A) → Grows scene (scene_after e) → Within (λ (_ : A). k) k scene e
    ended scene (done a after) p = twice (length scene.changes) (length after.changes) p.more
    ended scene (failed code after) p = tt

bind_grown : {A B : Type 0} (more : B → ℕ) (before : ℕ) (m : Action A) (f : A → Action B) → IsMoved Grows m → ((a : A) → IsWithin more before (f a)) → IsWithin more before (m >>= f)
bind_grown {A} more before m f moved rest = bind_counts (λ (_ : A). before) more before m f (grown before m moved) rest

pure_counts : {A : Type 0} (count : A → ℕ) (before : ℕ) (a : A) → count a ≤ before → IsWithin count before (pure a)
pure_counts count before a small = record { within = λ scene. shifted (count a) before (length scene.changes) small }
  where
    shifted : (c b s : ℕ) → c ≤ b → c + 2 * s ≤ b + 2 * s
    shifted c b s p = omega arith

fail_counts : {A : Type 0} (count : A → ℕ) (before code : ℕ) → IsWithin count before (fail code)
fail_counts count before code = record { within = λ scene. tt }

if_counts : {A : Type 0} (count : A → ℕ) (before : ℕ) (test : Bool) (m n : Action A) → IsWithin count before m → IsWithin count before n → IsWithin count before (cond test m n)
if_counts count before true m n p q = p
if_counts count before false m n p q = q

-- a count that may be more before, or is less behind
raised : {A : Type 0} (count less : A → ℕ) (before top : ℕ) (m : Action A) → ((a : A) → less a ≤ count a) → before ≤ top → IsWithin count before m → IsWithin less top m
raised {A} count less before top m small high inner = record { within = λ scene. ended scene (m scene) (inner.within scene) }
  where
    both : (c l s a : ℕ) → l ≤ c → c + 2 * s ≤ before + 2 * a → l + 2 * s ≤ top + 2 * a
    both c l s a p q = omega arith

    ended : (scene : Scene) (e : Ending A) → Within count before scene e → Within less top scene e
    ended scene (done a after) p = both (count a) (less a) (length scene.changes) (length after.changes) (small a) p
    ended scene (failed code after) p = tt

made_counts : (k code : ℕ) (change : Change) → IsWithin (λ (_ : Unit {0}). k + 2) k (make code change)
made_counts k code change = record { within = λ scene. found scene (applied change scene.tables) }
  where
    sums : (s a : ℕ) → a ≡ s + 1 → k + 2 + 2 * s ≤ k + 2 * a
    sums s a e = omega arith

    found : (scene : Scene) (o : Option (List Table)) → Within (λ (_ : Unit {0}). k + 2) k scene (elim o as (λ _. Ending (Unit {0})) [ None ↦ failed code scene | Some tables ↦ done tt (noted change scene tables) ])
    found scene None = tt
    found scene (Some tables) = sums (length scene.changes) (length (scene.changes ++ change ∷ [])) (one_more change scene.changes)

undone_counts : {A : Type 0} (count : A → ℕ) (before : ℕ) (m : Action A) → IsWithin count before m → IsWithin count before (undone m)
undone_counts {A} count before m inner = record { within = λ scene. ended scene (m scene) (inner.within scene) }
  where
    ended : (scene : Scene) (e : Ending A) → Within count before scene e → Within count before scene (undone_from scene e)
    ended scene (done a after) p = p
    ended scene (failed code after) p = tt

-- ---- as the laws say it

by_two : {A : Type 0} (count : A → ℕ) (before : ℕ) (m : Action A) → IsWithin count before m → CountsChanges 2 count before m
by_two count before m inner scene after a e = subst (Within count before scene) e (inner.within scene)

by_one : {A : Type 0} (count : A → ℕ) (m : Action A) → IsWithin (λ a. 0 + 2 * count a) 0 m → CountsChanges 1 count 0 m
by_one count m inner scene after a e = halved (count a) (length scene.changes) (length after.changes) (subst (Within (λ a. 0 + 2 * count a) 0 scene) e (inner.within scene))
  where
    halved : (c s a : ℕ) → 0 + 2 * c + 2 * s ≤ 0 + 2 * a → c + 1 * s ≤ 0 + 1 * a
    halved c s a p = omega arith

-- ---- lists

carried_counts : {S A : Type 0} (count : S → ℕ) (f : S → A → Action S) → ((s : S) (a : A) → IsWithin count (count s) (f s a)) → (s : S) (as' : List A) → IsWithin count (count s) (carried_on f s as')
carried_counts count f each_one s [] = pure_counts count (count s) s (omega arith)
carried_counts count f each_one s (a ∷ as') = bind_counts count count (count s) (f s a) _ (each_one s a) (λ next. carried_counts count f each_one next as')

counted_counts : {A : Type 0} (f : A → Action ℕ) → ((k : ℕ) (a : A) → IsWithin (λ (n : ℕ). k + 2 * n) k (f a)) → (k : ℕ) (as' : List A) → IsWithin (λ (n : ℕ). k + 2 * n) k (counted f as')
counted_counts f each_one k [] = pure_counts (λ (n : ℕ). k + 2 * n) k 0 (omega arith)
counted_counts f each_one k (a ∷ as') =
    bind_counts (λ (n : ℕ). k + 2 * n) (λ (n : ℕ). k + 2 * n) k (f a) _ (each_one k a) (λ n.
    bind_counts (λ (m : ℕ). k + 2 * n + 2 * m) (λ (s : ℕ). k + 2 * s) (k + 2 * n) (counted f as') _ (counted_counts f each_one (k + 2 * n) as') (λ m.
    pure_counts (λ (s : ℕ). k + 2 * s) (k + 2 * n + 2 * m) (n + m) (omega arith)))

each_counts : {A B : Type 0} (f : A → Action B) → ((k : ℕ) (a : A) → IsWithin (λ (_ : B). k + 2) k (f a)) → (k : ℕ) (as' : List A) → IsWithin (λ (_ : List B). k + 2 * length as') k (each f as')
each_counts {A} {B} f each_one k [] = pure_counts (λ (_ : List B). k + 2 * length {A = A} []) k [] (omega arith)
each_counts {A} {B} f each_one k (a ∷ as') =
    bind_counts (λ (_ : B). k + 2) (λ (_ : List B). k + 2 * length (a ∷ as')) k (f a) _ (each_one k a) (λ b.
    bind_counts (λ (_ : List B). k + 2 + 2 * length as') (λ (_ : List B). k + 2 * length (a ∷ as')) (k + 2) (each f as') _ (each_counts f each_one (k + 2) as') (λ bs.
    pure_counts (λ (_ : List B). k + 2 * length (a ∷ as')) (k + 2 + 2 * length as') (b ∷ bs) (sums (length as'))))
  where
    sums : (n : ℕ) → k + 2 * suc n ≤ k + 2 + 2 * n
    sums n = omega arith

-- ---- changes of one row

take_out_counts : (k : ℕ) (name : List ℕ) (row : List Value) → IsWithin (λ (_ : Unit {0}). k + 2) k (take_out name row)
take_out_counts k name row =
    bind_grown (λ (_ : Unit {0}). k + 2) k (table_now name) _ (table_moved growing name) (λ table.
    bind_grown (λ (_ : Unit {0}). k + 2) k (require 1032 _) _ (require_moved growing 1032 (is_there table.definition row table.rows)) (λ _.
    made_counts k 1032 (changes.Delete name row)))

put_in_place_counts : (k : ℕ) (name : List ℕ) (old new : List Value) → IsWithin (λ (_ : Unit {0}). k + 2) k (put_in_place name old new)
put_in_place_counts k name old new =
    bind_grown (λ (_ : Unit {0}). k + 2) k (table_now name) _ (table_moved growing name) (λ table.
    bind_grown (λ (_ : Unit {0}). k + 2) k (require 1032 _) _ (require_moved growing 1032 (row_fits table.definition.columns new && is_there table.definition old table.rows)) (λ _.
    bind_grown (λ (_ : Unit {0}). k + 2) k (require 1062 _) _ (require_moved growing 1062 (is_none (key_in_way table.definition new (rows_beside table.definition (primary_key table.definition old) table.rows)))) (λ _.
    made_counts k 1032 (changes.Update name old new))))

store_counts : (k : ℕ) (d : TableDef) (old new : List Value) → IsWithin (λ (n : ℕ). k + 2 * n) k (store_update d old new)
store_counts k d old new =
    if_counts (λ (n : ℕ). k + 2 * n) k (same_values new old) _ _ (pure_counts (λ (n : ℕ). k + 2 * n) k 0 (omega arith))
    (bind_counts (λ (_ : Unit {0}). k + 2) (λ (n : ℕ). k + 2 * n) k (put_in_place d.name old new) _ (put_in_place_counts k d.name old new) (λ _. pure_counts (λ (n : ℕ). k + 2 * n) (k + 2) 1 (omega arith)))

-- what an INSERT has come to behind a row that was put in
abbrev one_put : Counted → Inserting → Inserting
one_put counted so_far = record { sequence = counted.sequence; affected = so_far.affected + 1; last_id = option_or so_far.last_id counted.generated }

module _ (world : World) (below : ProgramsMoved Grows world.below) where
  after_grows : (event : Cause) (d : TableDef) (new old : Option (List Value)) → IsMoved Grows (after_row world event d new old)
  after_grows event d new old = after_moved growing_work world below event d new old

  delete_counts : (k : ℕ) (d : TableDef) (row : List Value) → IsWithin (λ (_ : Unit {0}). k + 2) k (delete_row world d row)
  delete_counts k d row =
      bind_grown (λ (_ : Unit {0}). k + 2) k (before_row world causes.Delete d None (Some row)) _ (before_moved growing_work world below causes.Delete d None (Some row)) (λ _.
      bind_counts (λ (_ : Unit {0}). k + 2) (λ (_ : Unit {0}). k + 2) k (take_out d.name row) _ (take_out_counts k d.name row) (λ _.
      grown (k + 2) (after_row world causes.Delete d None (Some row)) (after_grows causes.Delete d None (Some row))))

  update_counts : (k : ℕ) (frame : Frame) (d : TableDef) (sets : List (List ℕ × Tree)) (old : List Value) → IsWithin (λ (n : ℕ). k + 2 * n) k (update_row world frame d sets old)
  update_counts k frame d sets old =
      bind_grown (λ (n : ℕ). k + 2 * n) k (carried_on (assign_column world frame d) old sets) _ (carried_moved growing (assign_column world frame d) (assign_moved growing_work world below frame d) old sets) (λ assigned.
      bind_grown (λ (n : ℕ). k + 2 * n) k (before_row world causes.Update d (Some assigned) (Some old)) _ (before_moved growing_work world below causes.Update d (Some assigned) (Some old)) (λ left.
      bind_grown (λ (n : ℕ). k + 2 * n) k (none_missing d (unwrap_or left assigned) None) _ (missing_moved growing_work d (unwrap_or left assigned) None) (λ _.
      bind_counts (λ (n : ℕ). k + 2 * n) (λ (n : ℕ). k + 2 * n) k (store_update d old (unwrap_or left assigned)) _ (store_counts k d old (unwrap_or left assigned)) (λ count.
      bind_grown (λ (n : ℕ). k + 2 * n) (k + 2 * count) (after_row world causes.Update d (Some (unwrap_or left assigned)) (Some old)) _ (after_grows causes.Update d (Some (unwrap_or left assigned)) (Some old)) (λ _.
      pure_counts (λ (n : ℕ). k + 2 * n) (k + 2 * count) count (omega arith))))))

  -- ---- inserting

  put_counts : (d : TableDef) (counted : Counted) (so_far : Inserting) → IsWithin affected_of so_far.affected (put_row world d counted so_far)
  put_counts d counted so_far =
      bind_counts (λ (_ : Unit {0}). so_far.affected + 2) affected_of so_far.affected (make 1062 (changes.Insert d.name counted.row)) _ (made_counts so_far.affected 1062 (changes.Insert d.name counted.row)) (λ _.
      bind_grown affected_of (so_far.affected + 2) (after_row world causes.Insert d (Some counted.row) None) _ (after_grows causes.Insert d (Some counted.row) None) (λ _.
      pure_counts affected_of (so_far.affected + 2) (one_put counted so_far) (omega arith)))

  cleared_counts : (k : ℕ) (d : TableDef) (tests : List (List Value → Bool)) (found : Option (List Value)) → ((j : ℕ) → IsWithin (λ (n : ℕ). j + 2 * n) j (clear_way world d tests))
      → IsWithin (λ (n : ℕ). k + 2 * n) k (elim found as (λ _. Action ℕ) [
        | None ↦ clear_way world d tests
        | Some row ↦ delete_row world d row >>= λ _. clear_way world d tests >>= λ n. pure (n + 1)
      ])
  cleared_counts k d tests None rest = rest k
  cleared_counts k d tests (Some row) rest =
      bind_counts (λ (_ : Unit {0}). k + 2) (λ (n : ℕ). k + 2 * n) k (delete_row world d row) _ (delete_counts k d row) (λ _.
      bind_counts (λ (n : ℕ). k + 2 + 2 * n) (λ (n : ℕ). k + 2 * n) (k + 2) (clear_way world d tests) _ (rest (k + 2)) (λ n.
      pure_counts (λ (n : ℕ). k + 2 * n) (k + 2 + 2 * n) (n + 1) (omega arith)))

  clear_counts : (d : TableDef) (tests : List (List Value → Bool)) (k : ℕ) → IsWithin (λ (n : ℕ). k + 2 * n) k (clear_way world d tests)
  clear_counts d [] k = pure_counts (λ (n : ℕ). k + 2 * n) k 0 (omega arith)
  clear_counts d (test ∷ tests) k =
      bind_grown (λ (n : ℕ). k + 2 * n) k (table_now d.name) _ (table_moved growing d.name) (λ table. cleared_counts k d tests (find test table.rows) (clear_counts d tests))

  settle_counts : (frame : Frame) (d : TableDef) (manner : Manner) (counted : Counted) (other : List Value) (so_far : Inserting)
      → IsWithin affected_of so_far.affected (settle world frame d manner counted other so_far)
  settle_counts frame d refusing counted other so_far = fail_counts affected_of so_far.affected 1062
  settle_counts frame d ignoring counted other so_far = pure_counts affected_of so_far.affected (passed_by counted 0 so_far) (omega arith)
  settle_counts frame d replacing counted other so_far =
      bind_counts (λ (n : ℕ). so_far.affected + 2 * n) affected_of so_far.affected (clear_way world d (key_tests d counted.row)) _ (clear_counts d (key_tests d counted.row) so_far.affected) (λ deleted.
      raised affected_of affected_of (so_far.affected + deleted) (so_far.affected + 2 * deleted) (put_row world d counted (passed_by counted deleted so_far)) (λ a. omega arith) (omega arith)
      (put_counts d counted (passed_by counted deleted so_far)))
  settle_counts frame d (updating sets) counted other so_far =
      bind_counts (λ (n : ℕ). so_far.affected + 2 * n) affected_of so_far.affected (update_row world (updating_frame frame d counted.row) d sets other) _
      (update_counts so_far.affected (updating_frame frame d counted.row) d sets other) (λ count. pure_counts affected_of (so_far.affected + 2 * count) (passed_by counted (2 * count) so_far) (omega arith))

  placed_counts : (frame : Frame) (d : TableDef) (manner : Manner) (counted : Counted) (so_far : Inserting) (found : Option (List Value))
      → IsWithin affected_of so_far.affected (elim found as (λ _. Action Inserting) [
        | None ↦ put_row world d counted so_far
        | Some other ↦ settle world frame d manner counted other so_far
      ])
  placed_counts frame d manner counted so_far None = put_counts d counted so_far
  placed_counts frame d manner counted so_far (Some other) = settle_counts frame d manner counted other so_far

  place_counts : (frame : Frame) (d : TableDef) (manner : Manner) (counted : Counted) (so_far : Inserting) → IsWithin affected_of so_far.affected (place_row world frame d manner counted so_far)
  place_counts frame d manner counted so_far =
      bind_grown affected_of so_far.affected (table_now d.name) _ (table_moved growing d.name) (λ table. placed_counts frame d manner counted so_far (row_in_way d counted.row table.rows))

  insert_counts : (frame : Frame) (forced : Option ℤ) (d : TableDef) (places : List ℕ) (manner : Manner) (so_far : Inserting) (vs : List Value)
      → IsWithin affected_of so_far.affected (insert_row world frame forced d places manner so_far vs)
  insert_counts frame forced d places manner so_far vs =
      bind_grown affected_of so_far.affected (carried_on (put_at d) (left_out_row d) (zip places vs)) _ (carried_moved growing (put_at d) (put_at_moved growing_work d) (left_out_row d) (zip places vs)) (λ filled.
      bind_grown affected_of so_far.affected (before_row world causes.Insert d (Some filled) None) _ (before_moved growing_work world below causes.Insert d (Some filled) None) (λ left.
      bind_grown affected_of so_far.affected (none_missing d (unwrap_or left filled) (asked_place d (unwrap_or left filled))) _ (missing_moved growing_work d (unwrap_or left filled) (asked_place d (unwrap_or left filled))) (λ _.
      bind_grown affected_of so_far.affected (count_row world forced d (unwrap_or left filled) so_far.sequence) _ (count_moved growing_work world below forced d (unwrap_or left filled) so_far.sequence) (λ counted.
      place_counts frame d manner counted so_far))))

  -- ---- whole statements

  supply_counts : (frame : Frame) (insert_one : Inserting → List Value → Action Inserting) → ((so_far : Inserting) (vs : List Value) → IsWithin affected_of so_far.affected (insert_one so_far vs))
      → (supply : Supply) → IsWithin affected_of 0 (insert_supply world frame insert_one supply)
  supply_counts frame insert_one counts (rows rs) =
      carried_counts affected_of (λ so_far ts. values world frame ts >>= insert_one so_far)
      (λ so_far ts. bind_grown affected_of so_far.affected (values world frame ts) _ (values_moved growing world below.calls frame ts) (counts so_far)) nothing_inserted rs
  supply_counts frame insert_one counts (rows_of q) =
      bind_grown affected_of 0 (rows_of_query world frame q) _ (query_moved growing world below.calls frame q) (λ answer. carried_counts affected_of insert_one counts nothing_inserted answer)

  insert_into_counts : (frame : Frame) (forced : Option ℤ) (t : List ℕ) (names : Option (List (List ℕ))) (supply : Supply) (manner : Manner)
      → IsWithin did_affect 0 (insert_into_table world frame forced t names supply manner)
  insert_into_counts frame forced t names supply manner =
      bind_grown did_affect 0 (table_now t) _ (table_moved growing t) (λ table.
      bind_counts affected_of did_affect 0 (insert_supply world frame _ supply) _ (supply_counts frame _ (insert_counts frame forced table.definition _ manner) supply) (λ so_far.
      pure_counts did_affect so_far.affected (did_insert so_far) (omega arith)))

  update_table_counts : (frame : Frame) (t : List ℕ) (sets : List (List ℕ × Tree)) (condition : Part) (os : Orders) (limit : Option Count)
      → IsWithin (λ (did : Did). 0 + 2 * did_affect did) 0 (update_table world frame t sets condition os limit)
  update_table_counts frame t sets condition os limit =
      bind_grown (λ (did : Did). 0 + 2 * did_affect did) 0 (table_now t) _ (table_moved growing t) (λ table.
      bind_grown (λ (did : Did). 0 + 2 * did_affect did) 0 (chosen_rows world frame table condition os limit) _ (chosen_moved growing_work world below frame table condition os limit) (λ chosen.
      bind_counts (λ (n : ℕ). 0 + 2 * n) (λ (did : Did). 0 + 2 * did_affect did) 0 (counted (update_row world frame table.definition sets) chosen) _
      (counted_counts (update_row world frame table.definition sets) (λ k old. update_counts k frame table.definition sets old) 0 chosen) (λ n.
      pure_counts (λ (did : Did). 0 + 2 * did_affect did) (0 + 2 * n) (affected_rows n) (omega arith))))

  delete_from_counts : (frame : Frame) (t : List ℕ) (condition : Part) (os : Orders) (limit : Option Count)
      → IsWithin (λ (did : Did). 0 + 2 * did_affect did) 0 (delete_from_table world frame t condition os limit)
  delete_from_counts frame t condition os limit =
      bind_grown (λ (did : Did). 0 + 2 * did_affect did) 0 (table_now t) _ (table_moved growing t) (λ table.
      bind_grown (λ (did : Did). 0 + 2 * did_affect did) 0 (chosen_rows world frame table condition os limit) _ (chosen_moved growing_work world below frame table condition os limit) (λ chosen.
      bind_counts (λ (_ : List (Unit {0})). 0 + 2 * length chosen) (λ (did : Did). 0 + 2 * did_affect did) 0 (each (delete_row world table.definition) chosen) _
      (each_counts (delete_row world table.definition) (λ k row. delete_counts k table.definition row) 0 chosen) (λ _.
      pure_counts (λ (did : Did). 0 + 2 * did_affect did) (0 + 2 * length chosen) (affected_rows (length chosen)) (omega arith))))

  halved_counts : (m : Action Did) → IsWithin (λ (did : Did). 0 + 2 * did_affect did) 0 m → IsWithin did_affect 0 m
  halved_counts m inner = raised (λ (did : Did). 0 + 2 * did_affect did) did_affect 0 0 m (λ did. less (did_affect did)) (omega arith) inner
    where
      less : (n : ℕ) → n ≤ 0 + 2 * n
      less n = omega arith

  nothing_done : IsWithin did_affect 0 (pure (affected_rows 0))
  nothing_done = pure_counts did_affect 0 (affected_rows 0) (omega arith)

  perform_counts : (frame : Frame) (forced : Option ℤ) (s : Statement) → IsWithin did_affect 0 (perform world frame forced s)
  perform_counts frame forced (insert_into ignore t names supply sets) = insert_into_counts frame forced t names supply (manner_of ignore sets)
  perform_counts frame forced (replace_into t names supply) = insert_into_counts frame forced t names supply replacing
  perform_counts frame forced (update_rows t sets condition os limit) = halved_counts (update_table world frame t sets condition os limit) (update_table_counts frame t sets condition os limit)
  perform_counts frame forced (delete_rows t condition os limit) = halved_counts (delete_from_table world frame t condition os limit) (delete_from_counts frame t condition os limit)
  perform_counts frame forced (select q) =
      bind_grown did_affect 0 (rows_of_query world frame q) _ (query_moved growing world below.calls frame q) (λ shown. pure_counts did_affect 0 (rows_shown shown) (omega arith))
  perform_counts frame forced (evaluate ts) = bind_grown did_affect 0 (values world frame ts) _ (values_moved growing world below.calls frame ts) (λ _. nothing_done)
  perform_counts frame forced (create_table t) = nothing_done
  perform_counts frame forced (create_function p) = nothing_done
  perform_counts frame forced (create_procedure p) = nothing_done
  perform_counts frame forced (create_trigger t) = nothing_done
  perform_counts frame forced (drop_table n) = nothing_done
  perform_counts frame forced (drop_function n) = nothing_done
  perform_counts frame forced (drop_procedure n) = nothing_done
  perform_counts frame forced (drop_trigger n) = nothing_done
  perform_counts frame forced (truncate n) = nothing_done
  perform_counts frame forced (set_all as') = nothing_done
  perform_counts frame forced (call_procedure n ts) = nothing_done
  perform_counts frame forced begin = nothing_done
  perform_counts frame forced commit = nothing_done
  perform_counts frame forced rollback = nothing_done
  perform_counts frame forced (savepoint n) = nothing_done
  perform_counts frame forced (rollback_to n) = nothing_done
  perform_counts frame forced (release_savepoint n) = nothing_done
  perform_counts frame forced (block ds ss) = nothing_done
  perform_counts frame forced (if_steps bs o) = nothing_done
  perform_counts frame forced (while_steps c ss) = nothing_done
  perform_counts frame forced (return_value e) = nothing_done

-- ---- the laws

pub deleted_rows : DeletedRowsCount
deleted_rows world keeps d row = by_one (λ (_ : Unit {0}). 1) (delete_row world d row) (delete_counts world (moved_below world.below keeps) 0 d row)

pub cleared_rows : ClearedRowsCount
cleared_rows world keeps d tests = by_one itself (clear_way world d tests) (clear_counts world (moved_below world.below keeps) d tests 0)

pub updated_rows : UpdatedRowsCount
updated_rows world keeps frame d sets old = by_one itself (update_row world frame d sets old) (update_counts world (moved_below world.below keeps) 0 frame d sets old)

pub put_rows : PutRowsCount
put_rows world keeps d counted so_far = by_two affected_of so_far.affected (put_row world d counted so_far) (put_counts world (moved_below world.below keeps) d counted so_far)

pub placed_rows : PlacedRowsCount
placed_rows world keeps frame d manner counted so_far =
    by_two affected_of so_far.affected (place_row world frame d manner counted so_far) (place_counts world (moved_below world.below keeps) frame d manner counted so_far)

pub inserted_rows : InsertedRowsCount
inserted_rows world keeps frame forced d places manner so_far vs =
    by_two affected_of so_far.affected (insert_row world frame forced d places manner so_far vs) (insert_counts world (moved_below world.below keeps) frame forced d places manner so_far vs)

pub inserts : InsertsCount
inserts world keeps frame forced t names supply manner =
    by_two did_affect 0 (insert_into_table world frame forced t names supply manner) (insert_into_counts world (moved_below world.below keeps) frame forced t names supply manner)

pub updates : UpdatesCount
updates world keeps frame t sets condition os limit =
    by_one did_affect (update_table world frame t sets condition os limit) (update_table_counts world (moved_below world.below keeps) frame t sets condition os limit)

pub deletes : DeletesCount
deletes world keeps frame t condition os limit =
    by_one did_affect (delete_from_table world frame t condition os limit) (delete_from_counts world (moved_below world.below keeps) frame t condition os limit)

pub performed : PerformedCount
performed world keeps frame forced s = by_two did_affect 0 (perform world frame forced s) (perform_counts world (moved_below world.below keeps) frame forced s)

pub statements : StatementsCount
unfolding effect
statements setting nesting locals s =
    let world = world_of setting nesting (nodes_of s) in
    by_two did_affect 0 (undone (perform world (only_locals locals) (forced_for setting.context s) s)) (undone_counts did_affect 0 (perform world (only_locals locals) (forced_for setting.context s) s)
    (perform_counts world (level_moved growing_work setting nesting) (only_locals locals) (forced_for setting.context s) s))
