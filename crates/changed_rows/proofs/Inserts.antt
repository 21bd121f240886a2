-- An INSERT of a row, one step at a time.
use Rattle.std.proofs.Common.{◌≡◌, ℕ, suc, ◌+◌, ◌*◌, ◌<◌, ◌≤◌, List, [], ◌∷◌, Bool, false, Option, Some, None, ℤ, length, get_or, drop, refl, sym, ap, ◌∙◌, subst, Result, Ok, Err, unwrap_or, zip, find, reverse, ◌++◌, add-one, drop-cons, arith}
use Rattle.std.specs.Borrow.{Bor}
use Rattle.std.proofs.lemmas.List.{drop_all, length-map, reverse-append, reverse-reverse}
use Rattle.val_types.specs.declared.value.Value.{Value}
use Rattle.val_types.specs.declared.refusal.SqlRefusal.{SqlRefusal}
use Rattle.val_types.specs.declared.refusal.SqlRefusal.TheVariants.{Sql, NoMemory}
use Rattle.val_types.specs.declared.definitions.TableDef.{TableDef}
use Rattle.table_rules.specs.Tables.{Table}
use Rattle.table_rules.specs.Stored.{table_named, row_in_way, key_tests, has_key_in_way}
use Rattle.sql_tree.specs.Tree.{Tree}
use Rattle.sql_tree.specs.declared.statements.Cause.TheVariants as causes
use Rattle.sql_evaluation.specs.sql_meaning.Scenes.{Scene, Ending, Action, done, failed, then_do, pure, needed, carried_on, ◌>>=◌}
use Rattle.sql_evaluation.specs.sql_meaning.Frames.{World, Frame}
use Rattle.sql_evaluation.specs.sql_meaning.Changing.{Manner, refusing, ignoring, replacing, updating, Inserting, Counted, put_at, left_out_row, before_row, none_missing, asked_place, count_row, put_row, clear_way, delete_row, settle, place_row, update_row}
use Rattle.sql_evaluation.specs.exec_state.Stage.{EndsAs, EndsAsBy}
use Rattle.sql_evaluation.specs.declared.world.View.{View as Shown}
use Rattle.sql_evaluation.specs.declared.world.Around.{Around}
use Rattle.sql_evaluation.specs.Seen.{Anywhere, world_of, frame_of}
use Rattle.changed_rows.specs.declared.inserting.Inserting.{Inserting as SoFar}
use Rattle.changed_rows.specs.Changed.{frame_behind, inserting_of, left_in, updated_in, inserted_in}
use Rattle.changed_rows.specs.Inserted.{IsBehind, InWay, come_to, filled_in, entered_in, placed_in, put_row_in, way_of, one_deleted, cleared_by}

ends_through : (r : Result SoFar SqlRefusal) (scene : Scene) (x y : Ending Inserting) → x ≡ y → EndsAsBy inserting_of r scene y → EndsAsBy inserting_of r scene x
ends_through r scene x y e given = subst (λ (z : Ending Inserting). EndsAsBy inserting_of r scene z) (sym e) given

-- ---- the rows in the way deleted

unfoldable pub cleared_left : Around → TableDef → List (List Value → Bool) → ℕ → Scene → Ending ℕ
cleared_left a d tests n scene = then_do (clear_way (world_of a) d tests scene) (λ m. pure (n + m))

nothing_before : (e : Ending ℕ) → then_do e (λ m. pure (0 + m)) ≡ e
nothing_before (done m scene) = let same : 0 + m ≡ m = omega arith in ap (λ (k : ℕ). done k scene) same
nothing_before (failed code scene) = refl

one_more : (e : Ending ℕ) (n : ℕ) → then_do (then_do e (λ m. pure (m + 1))) (λ m. pure (n + m)) ≡ then_do e (λ m. pure ((n + 1) + m))
one_more (done m scene) n = let same : n + (m + 1) ≡ (n + 1) + m = omega arith in ap (λ (k : ℕ). done k scene) same
one_more (failed code scene) n = refl

none_more : (e : Ending ℕ) (n : ℕ) → then_do e (λ m. pure (n + m)) ≡ then_do e (λ m. pure ((n + 0) + m))
none_more (done m scene) n = let same : n + m ≡ (n + 0) + m = omega arith in ap (λ (k : ℕ). done k scene) same
none_more (failed code scene) n = refl

deleted_next : (a : Around) (d : TableDef) (tests : List (List Value → Bool)) (n : ℕ) (e : Ending (Unit {0}))
    → then_do (then_do e (λ _. clear_way (world_of a) d tests >>= λ m. pure (m + 1))) (λ m. pure (n + m)) ≡ then_do (then_do e (λ _. pure 1)) (λ k. cleared_left a d tests (n + k))
unfolding cleared_left
deleted_next a d tests n (done u scene) = one_more (clear_way (world_of a) d tests scene) n
deleted_next a d tests n (failed code scene) = refl

-- what is done by the row that a key has
abbrev on_row : Around → TableDef → List (List Value → Bool) → Option (List Value) → Action ℕ
on_row a d tests o = elim o [
  | None ↦ clear_way (world_of a) d tests
  | Some row ↦ delete_row (world_of a) d row >>= λ _. clear_way (world_of a) d tests >>= λ n. pure (n + 1)
]

cleared_first : (a : Around) (d : TableDef) (test : List Value → Bool) (tests : List (List Value → Bool)) (n : ℕ) (scene : Scene)
    → cleared_left a d (test ∷ tests) n scene ≡ then_do (cleared_by a d test scene) (λ k. cleared_left a d tests (n + k))
unfolding cleared_left
cleared_first a d test tests n scene = by_table (table_named d.name scene.tables)
  where
    by_row : (o : Option (List Value)) → then_do (on_row a d tests o scene) (λ m. pure (n + m)) ≡ then_do (one_deleted a d o scene) (λ k. cleared_left a d tests (n + k))
    by_row None = none_more (clear_way (world_of a) d tests scene) n
    by_row (Some row) = deleted_next a d tests n (delete_row (world_of a) d row scene)

    by_table : (o : Option Table)
        → then_do (then_do (needed 1146 o scene) (λ table. on_row a d tests (find test table.rows))) (λ m. pure (n + m))
        ≡ then_do (then_do (then_do (needed 1146 o scene) (λ table. pure (find test table.rows))) (one_deleted a d)) (λ k. cleared_left a d tests (n + k))
    by_table None = refl
    by_table (Some table) = by_row (find test table.rows)

tests_at : (d : TableDef) (row : List Value) (i : ℕ) → i ≤ length d.uniques → drop i (key_tests d row) ≡ has_key_in_way d row i ∷ drop (i + 1) (key_tests d row)
tests_at d row i within = rw add-one (drop-cons (key_tests d row) i (λ other. false) (tests_within d row i within))
  where
    tests_within : (d : TableDef) (row : List Value) (i : ℕ) → i ≤ length d.uniques → i < length (key_tests d row)
    tests_within d row i within = grind (arith, length-map)

pub cleared_start : (a : Around) (d : TableDef) (tests : List (List Value → Bool)) (scene : Scene) → cleared_left a d tests 0 scene ≡ clear_way (world_of a) d tests scene
unfolding cleared_left
cleared_start a d tests scene = nothing_before (clear_way (world_of a) d tests scene)

pub cleared_more : (a : Around) (d : TableDef) (row : List Value) (i n k : ℕ) (scene next : Scene) (o : Ending ℕ) → i ≤ length d.uniques
    → cleared_by a d (has_key_in_way d row i) scene ≡ done k next
    → cleared_left a d (drop i (key_tests d row)) n scene ≡ o → cleared_left a d (drop (i + 1) (key_tests d row)) (n + k) next ≡ o
cleared_more a d row i n k scene next o within h before =
    sym (ap (λ (ts : List (List Value → Bool)). cleared_left a d ts n scene) (tests_at d row i within) ∙ cleared_first a d (has_key_in_way d row i) (drop (i + 1) (key_tests d row)) n scene
    ∙ ap (λ (x : Ending ℕ). then_do x (λ k. cleared_left a d (drop (i + 1) (key_tests d row)) (n + k))) h) ∙ before

pub cleared_fail : (a : Around) (d : TableDef) (row : List Value) (i n code : ℕ) (scene next : Scene) (o : Ending ℕ) → i ≤ length d.uniques
    → cleared_by a d (has_key_in_way d row i) scene ≡ failed code next
    → cleared_left a d (drop i (key_tests d row)) n scene ≡ o → o ≡ failed code next
cleared_fail a d row i n code scene next o within h before =
    sym before ∙ ap (λ (ts : List (List Value → Bool)). cleared_left a d ts n scene) (tests_at d row i within) ∙ cleared_first a d (has_key_in_way d row i) (drop (i + 1) (key_tests d row)) n scene
    ∙ ap (λ (x : Ending ℕ). then_do x (λ k. cleared_left a d (drop (i + 1) (key_tests d row)) (n + k))) h

pub cleared_fail_at : (a : Around) (d : TableDef) (row : List Value) (i n : ℕ) (e : SqlRefusal) (scene next : Scene) (o : Ending ℕ) → i ≤ length d.uniques
    → EndsAs {A = ℕ} (Err e) next (cleared_by a d (has_key_in_way d row i) scene)
    → cleared_left a d (drop i (key_tests d row)) n scene ≡ o → EndsAs {A = ℕ} (Err e) next o
cleared_fail_at a d row i n (Sql code) scene next o within h before = cleared_fail a d row i n code scene next o within h before
cleared_fail_at a d row i n NoMemory scene next o within h before = tt

tests_end : (d : TableDef) (row : List Value) (i : ℕ) → length d.uniques < i → drop i (key_tests d row) ≡ []
tests_end d row i past = drop_all i (key_tests d row) (tests_past d row i past)
  where
    tests_past : (d : TableDef) (row : List Value) (i : ℕ) → length d.uniques < i → length (key_tests d row) ≤ i
    tests_past d row i past = grind (arith, length-map)

pub cleared_end : (a : Around) (d : TableDef) (row : List Value) (i n : ℕ) (scene : Scene) (o : Ending ℕ) → length d.uniques < i
    → cleared_left a d (drop i (key_tests d row)) n scene ≡ o → o ≡ done n scene
unfolding cleared_left
cleared_end a d row i n scene o past before =
    let same : n + 0 ≡ n = omega arith in
    sym before ∙ ap (λ (ts : List (List Value → Bool)). then_do (clear_way (world_of a) d ts scene) (λ m. pure (n + m))) (tests_end d row i past) ∙ ap (λ (m : ℕ). done m scene) same

pub ruleset clearing = (cleared_start, cleared_more, cleared_fail, cleared_end)

-- ---- the row in its place

-- what is done by the row that is in the way
abbrev on_way : Around → TableDef → Manner → Counted → Inserting → Option (List Value) → Action Inserting
on_way a d manner counted so_far o = elim o [
  | None ↦ put_row (world_of a) d counted so_far
  | Some other ↦ settle (world_of a) (frame_of a []) d manner counted other so_far
]

place_by : (a : Around) (d : TableDef) (manner : Manner) (counted : Counted) (affected : ℕ) (last_id : Option ℤ) (o : Option (List Value)) (scene : Scene)
    → way_of d counted.row scene ≡ done o scene → placed_in a d manner counted affected last_id scene ≡ on_way a d manner counted (come_to affected last_id) o scene
place_by a d manner counted affected last_id o scene h = by_table (table_named d.name scene.tables) h
  where
    by_table : (t : Option Table) → then_do (needed 1146 t scene) (λ table. pure (row_in_way d counted.row table.rows)) ≡ done o scene
        → then_do (needed 1146 t scene) (λ table. on_way a d manner counted (come_to affected last_id) (row_in_way d counted.row table.rows)) ≡ on_way a d manner counted (come_to affected last_id) o scene
    by_table None e = cc
    by_table (Some table) e =
        let same : row_in_way d counted.row table.rows ≡ o = cc in
        ap (λ (r : Option (List Value)). on_way a d manner counted (come_to affected last_id) r scene) same

pub placed_clear : (a : Around) (d : TableDef) (manner : Manner) (counted : Counted) (affected : ℕ) (last_id : Option ℤ) (r : Result SoFar SqlRefusal) (scene last : Scene)
    → way_of d counted.row scene ≡ done None scene → EndsAsBy inserting_of r last (put_row_in a d counted affected last_id scene)
    → EndsAsBy inserting_of r last (placed_in a d manner counted affected last_id scene)
placed_clear a d manner counted affected last_id r scene last h given =
    ends_through r last (placed_in a d manner counted affected last_id scene) (put_row_in a d counted affected last_id scene) (place_by a d manner counted affected last_id None scene h) given

pub placed_refusing : (a : Around) (d : TableDef) (counted : Counted) (affected : ℕ) (last_id : Option ℤ) (scene : Scene) → InWay d counted.row scene
    → placed_in a d refusing counted affected last_id scene ≡ failed 1062 scene
placed_refusing a d counted affected last_id scene h = place_by a d refusing counted affected last_id (Some h.other) scene h.there

pub placed_ignoring : (a : Around) (d : TableDef) (counted : Counted) (affected : ℕ) (last_id : Option ℤ) (scene : Scene) → InWay d counted.row scene
    → placed_in a d ignoring counted affected last_id scene ≡ done (record { sequence = counted.sequence; affected = affected; last_id = last_id }) scene
placed_ignoring a d counted affected last_id scene h =
    let same : affected + 0 ≡ affected = omega arith in
    place_by a d ignoring counted affected last_id (Some h.other) scene h.there
    ∙ ap (λ (n : ℕ). done (record { sequence = counted.sequence; affected = n; last_id = last_id }) scene) same

replaces : (a : Around) (d : TableDef) (counted : Counted) (affected : ℕ) (last_id : Option ℤ) (scene : Scene) → InWay d counted.row scene
    → placed_in a d replacing counted affected last_id scene
    ≡ then_do (clear_way (world_of a) d (key_tests d counted.row) scene) (λ deleted. put_row_in a d counted (affected + deleted) last_id)
replaces a d counted affected last_id scene h = place_by a d replacing counted affected last_id (Some h.other) scene h.there

pub placed_replacing : (a : Around) (d : TableDef) (counted : Counted) (affected deleted : ℕ) (last_id : Option ℤ) (r : Result SoFar SqlRefusal) (scene next last : Scene) → InWay d counted.row scene
    → clear_way (world_of a) d (key_tests d counted.row) scene ≡ done deleted next → EndsAsBy inserting_of r last (put_row_in a d counted (affected + deleted) last_id next)
    → EndsAsBy inserting_of r last (placed_in a d replacing counted affected last_id scene)
placed_replacing a d counted affected deleted last_id r scene next last h e given =
    ends_through r last (placed_in a d replacing counted affected last_id scene) (put_row_in a d counted (affected + deleted) last_id next)
    (replaces a d counted affected last_id scene h ∙ ap (λ (x : Ending ℕ). then_do x (λ deleted. put_row_in a d counted (affected + deleted) last_id)) e) given

pub placed_not_cleared : (a : Around) (d : TableDef) (counted : Counted) (affected code : ℕ) (last_id : Option ℤ) (scene next : Scene) → InWay d counted.row scene
    → clear_way (world_of a) d (key_tests d counted.row) scene ≡ failed code next → placed_in a d replacing counted affected last_id scene ≡ failed code next
placed_not_cleared a d counted affected code last_id scene next h e =
    replaces a d counted affected last_id scene h ∙ ap (λ (x : Ending ℕ). then_do x (λ deleted. put_row_in a d counted (affected + deleted) last_id)) e

-- the row that is to be inserted, as it is seen
abbrev pub seen_as : TableDef → List Value → Shown
seen_as d row = record { definition = d; row = row }

updates_other : (a : Around) (d : TableDef) (sets : List (List ℕ × Tree)) (counted : Counted) (affected : ℕ) (last_id : Option ℤ) (other : List Value) (scene : Scene) → way_of d counted.row scene ≡ done (Some other) scene
    → placed_in a d (updating sets) counted affected last_id scene
    ≡ then_do (update_row (world_of a) (frame_behind a (seen_as d counted.row) []) d sets other scene) (λ count. pure (record { sequence = counted.sequence; affected = affected + 2 * count; last_id = last_id }))
updates_other a d sets counted affected last_id other scene h = place_by a d (updating sets) counted affected last_id (Some other) scene h

updates_seen : (a : Around) (d : TableDef) (sets : List (List ℕ × Tree)) (counted : Counted) (affected : ℕ) (last_id : Option ℤ) (other : List Value) (v : Shown) (scene : Scene)
    → way_of d counted.row scene ≡ done (Some other) scene → v ≡ seen_as d counted.row
    → placed_in a d (updating sets) counted affected last_id scene
    ≡ then_do (update_row (world_of a) (frame_behind a v []) d sets other scene) (λ count. pure (record { sequence = counted.sequence; affected = affected + 2 * count; last_id = last_id }))
updates_seen a d sets counted affected last_id other v scene h is =
    updates_other a d sets counted affected last_id other scene h
    ∙ ap (λ (w : Shown). then_do (update_row (world_of a) (frame_behind a w []) d sets other scene) (λ count. pure (record { sequence = counted.sequence; affected = affected + 2 * count; last_id = last_id }))) (sym is)

pub placed_updating : (a : Around) (d : TableDef) (sets : List (List ℕ × Tree)) (counted : Counted) (affected count sum : ℕ) (last_id : Option ℤ) (other : List Value) (v : Shown) (scene next : Scene)
    → way_of d counted.row scene ≡ done (Some other) scene → v ≡ seen_as d counted.row
    → update_row (world_of a) (frame_behind a v []) d sets other scene ≡ done count next → sum ≡ affected + 2 * count
    → placed_in a d (updating sets) counted affected last_id scene ≡ done (record { sequence = counted.sequence; affected = sum; last_id = last_id }) next
placed_updating a d sets counted affected count sum last_id other v scene next h is e all =
    updates_seen a d sets counted affected last_id other v scene h is
    ∙ ap (λ (x : Ending ℕ). then_do x (λ count. pure (record { sequence = counted.sequence; affected = affected + 2 * count; last_id = last_id }))) e
    ∙ ap (λ (n : ℕ). done (record { sequence = counted.sequence; affected = n; last_id = last_id }) next) (sym all)

pub placed_not_updated : (a : Around) (d : TableDef) (sets : List (List ℕ × Tree)) (counted : Counted) (affected : ℕ) (e : SqlRefusal) (last_id : Option ℤ) (other : List Value) (v : Shown) (scene next : Scene)
    → way_of d counted.row scene ≡ done (Some other) scene → v ≡ seen_as d counted.row
    → EndsAs {A = ℕ} (Err e) next (update_row (world_of a) (frame_behind a v []) d sets other scene)
    → EndsAsBy inserting_of (Err e) next (placed_in a d (updating sets) counted affected last_id scene)
placed_not_updated a d sets counted affected (Sql code) last_id other v scene next h is e =
    updates_seen a d sets counted affected last_id other v scene h is
    ∙ ap (λ (x : Ending ℕ). then_do x (λ count. pure (record { sequence = counted.sequence; affected = affected + 2 * count; last_id = last_id }))) e
placed_not_updated a d sets counted affected NoMemory last_id other v scene next h is e = tt

pub ruleset placing = (placed_clear, placed_refusing, placed_ignoring, placed_replacing, placed_not_cleared)

-- ---- behind ON DUPLICATE KEY UPDATE

pub is_behind : (a b : Around) (row : Bor Shown) → b ≡ record a { inserted = Some row } → IsBehind b a row.now
unfolding world_of frame_of
is_behind a b row is = subst (λ (c : Around). IsBehind c a row.now) (sym is) (record { world = refl; frame = λ vs. refl })

pub updated_behind : (a b : Around) (row : Shown) (d : TableDef) (sets : List (List ℕ × Tree)) (old : List Value) (r : Result ℕ SqlRefusal) (scene last : Scene) → IsBehind b a row
    → EndsAs r last (updated_in b d sets old scene) → EndsAs r last (update_row (world_of a) (frame_behind a row []) d sets old scene)
updated_behind a b row d sets old r scene last is h =
    subst (λ (f : Frame). EndsAs r last (update_row (world_of a) f d sets old scene)) (is.frame [])
    (subst (λ (w : World). EndsAs r last (update_row w (frame_of b []) d sets old scene)) is.world h)

pub ruleset seen_behind = (updated_behind)

-- ---- NOT NULL, the AUTO_INCREMENT value and the place

-- what an INSERT has generated before is of no account there
place_any : (a : Around) (d : TableDef) (manner : Manner) (counted : Counted) (so_far : Inserting) (scene : Scene)
    → place_row (world_of a) (frame_of a []) d manner counted so_far scene ≡ placed_in a d manner counted so_far.affected so_far.last_id scene
place_any a d manner counted so_far scene = by_table (table_named d.name scene.tables)
  where
    settled : (m : Manner) (other : List Value) → settle (world_of a) (frame_of a []) d m counted other so_far scene ≡ settle (world_of a) (frame_of a []) d m counted other (come_to so_far.affected so_far.last_id) scene
    settled refusing other = refl
    settled ignoring other = refl
    settled replacing other = refl
    settled (updating sets) other = refl

    by_row : (o : Option (List Value)) → on_way a d manner counted so_far o scene ≡ on_way a d manner counted (come_to so_far.affected so_far.last_id) o scene
    by_row None = refl
    by_row (Some other) = settled manner other

    by_table : (t : Option Table)
        → then_do (needed 1146 t scene) (λ table. on_way a d manner counted so_far (row_in_way d counted.row table.rows))
        ≡ then_do (needed 1146 t scene) (λ table. on_way a d manner counted (come_to so_far.affected so_far.last_id) (row_in_way d counted.row table.rows))
    by_table None = refl
    by_table (Some table) = by_row (row_in_way d counted.row table.rows)

pub entered_missing : (a : Around) (forced : Option ℤ) (d : TableDef) (manner : Manner) (so_far : Inserting) (left : List Value) (code : ℕ) (scene : Scene)
    → Anywhere {A = Unit {0}} (Err (Sql code)) (none_missing d left (asked_place d left)) → entered_in a forced d manner so_far left scene ≡ failed code scene
entered_missing a forced d manner so_far left code scene h =
    ap (λ (e : Ending (Unit {0})). then_do e (λ _. count_row (world_of a) forced d left so_far.sequence >>= λ counted. place_row (world_of a) (frame_of a []) d manner counted so_far)) (h.ends scene)

entered_known : (a : Around) (forced : Option ℤ) (d : TableDef) (manner : Manner) (so_far : Inserting) (left : List Value) (known : Unit {0}) (scene : Scene)
    → Anywhere (Ok known) (none_missing d left (asked_place d left))
    → entered_in a forced d manner so_far left scene ≡ then_do (count_row (world_of a) forced d left so_far.sequence scene) (λ counted. place_row (world_of a) (frame_of a []) d manner counted so_far)
entered_known a forced d manner so_far left known scene h =
    ap (λ (e : Ending (Unit {0})). then_do e (λ _. count_row (world_of a) forced d left so_far.sequence >>= λ counted. place_row (world_of a) (frame_of a []) d manner counted so_far)) (h.ends scene)

pub entered_not_counted : (a : Around) (forced : Option ℤ) (d : TableDef) (manner : Manner) (so_far : Inserting) (left : List Value) (known : Unit {0}) (code : ℕ) (scene next : Scene)
    → Anywhere (Ok known) (none_missing d left (asked_place d left)) → count_row (world_of a) forced d left so_far.sequence scene ≡ failed code next
    → entered_in a forced d manner so_far left scene ≡ failed code next
entered_not_counted a forced d manner so_far left known code scene next h e =
    entered_known a forced d manner so_far left known scene h ∙ ap (λ (x : Ending Counted). then_do x (λ counted. place_row (world_of a) (frame_of a []) d manner counted so_far)) e

pub entered_ends : (a : Around) (forced : Option ℤ) (d : TableDef) (manner : Manner) (so_far : Inserting) (left : List Value) (known : Unit {0}) (counted : Counted) (r : Result SoFar SqlRefusal) (scene next last : Scene)
    → Anywhere (Ok known) (none_missing d left (asked_place d left)) → count_row (world_of a) forced d left so_far.sequence scene ≡ done counted next
    → EndsAsBy inserting_of r last (placed_in a d manner counted so_far.affected so_far.last_id next) → EndsAsBy inserting_of r last (entered_in a forced d manner so_far left scene)
entered_ends a forced d manner so_far left known counted r scene next last h e given =
    ends_through r last (entered_in a forced d manner so_far left scene) (placed_in a d manner counted so_far.affected so_far.last_id next)
    (entered_known a forced d manner so_far left known scene h ∙ ap (λ (x : Ending Counted). then_do x (λ counted. place_row (world_of a) (frame_of a []) d manner counted so_far)) e ∙ place_any a d manner counted so_far next)
    given

pub ruleset entering = (entered_missing, entered_not_counted, entered_ends)

-- ---- the whole

through_left : {B : Type 0} (e : Ending (Option (List Value))) (row : List Value) (next : List Value → Action B)
    → then_do e (λ left. next (unwrap_or left row)) ≡ then_do (then_do e (λ left. pure (unwrap_or left row))) next
through_left (done left scene) row next = refl
through_left (failed code scene) row next = refl

pub insert_unfilled : (a : Around) (forced : Option ℤ) (d : TableDef) (places : List ℕ) (manner : Manner) (so_far : Inserting) (vs : List Value) (code : ℕ) (scene : Scene)
    → Anywhere {A = List Value} (Err (Sql code)) (filled_in d places vs) → inserted_in a forced d places manner so_far vs scene ≡ failed code scene
insert_unfilled a forced d places manner so_far vs code scene h =
    ap (λ (e : Ending (List Value)). then_do e (λ filled. before_row (world_of a) causes.Insert d (Some filled) None >>= λ left. entered_in a forced d manner so_far (unwrap_or left filled))) (h.ends scene)

insert_by : (a : Around) (forced : Option ℤ) (d : TableDef) (places : List ℕ) (manner : Manner) (so_far : Inserting) (vs filled : List Value) (scene : Scene) → Anywhere (Ok filled) (filled_in d places vs)
    → inserted_in a forced d places manner so_far vs scene ≡ then_do (left_in a causes.Insert d filled None scene) (entered_in a forced d manner so_far)
insert_by a forced d places manner so_far vs filled scene h =
    ap (λ (e : Ending (List Value)). then_do e (λ filled. before_row (world_of a) causes.Insert d (Some filled) None >>= λ left. entered_in a forced d manner so_far (unwrap_or left filled))) (h.ends scene)
    ∙ through_left (before_row (world_of a) causes.Insert d (Some filled) None scene) filled (entered_in a forced d manner so_far)

pub insert_not_left : (a : Around) (forced : Option ℤ) (d : TableDef) (places : List ℕ) (manner : Manner) (so_far : Inserting) (vs filled : List Value) (code : ℕ) (scene next : Scene) → Anywhere (Ok filled) (filled_in d places vs)
    → left_in a causes.Insert d filled None scene ≡ failed code next → inserted_in a forced d places manner so_far vs scene ≡ failed code next
insert_not_left a forced d places manner so_far vs filled code scene next h e =
    insert_by a forced d places manner so_far vs filled scene h ∙ ap (λ (x : Ending (List Value)). then_do x (entered_in a forced d manner so_far)) e

pub insert_ends : (a : Around) (forced : Option ℤ) (d : TableDef) (places : List ℕ) (manner : Manner) (so_far : Inserting) (vs filled left : List Value) (r : Result SoFar SqlRefusal) (scene next last : Scene) → Anywhere (Ok filled) (filled_in d places vs)
    → left_in a causes.Insert d filled None scene ≡ done left next → EndsAsBy inserting_of r last (entered_in a forced d manner so_far left next)
    → EndsAsBy inserting_of r last (inserted_in a forced d places manner so_far vs scene)
insert_ends a forced d places manner so_far vs filled left r scene next last h e given =
    ends_through r last (inserted_in a forced d places manner so_far vs scene) (entered_in a forced d manner so_far left next)
    (insert_by a forced d places manner so_far vs filled scene h ∙ ap (λ (x : Ending (List Value)). then_do x (entered_in a forced d manner so_far)) e) given

pub ruleset inserting = (insert_unfilled, insert_not_left, insert_ends)

-- ---- the row filled

place_at : (places : List ℕ) (i place : ℕ) → i < length places → place ≡ get_or places i 0 → drop i places ≡ place ∷ drop (i + 1) places
place_at places i place within is = rw add-one (drop-cons places i 0 within ∙ ap (λ (p : ℕ). p ∷ drop (suc i) places) (sym is))

-- what is left of the places and values, the values from the end on, does from a row what all do from the start
unfoldable pub FillsLeft : TableDef → List ℕ → List Value → ℕ → List Value → List Value → Type 0
FillsLeft d places vs i row rest = (scene : Scene) → carried_on (put_at d) row (zip (drop i places) (reverse rest)) scene ≡ filled_in d places vs scene

pub fills_start : (d : TableDef) (places : List ℕ) (vs row rest : List Value) → row ≡ left_out_row d → rest ≡ reverse vs → FillsLeft d places vs 0 row rest
unfolding FillsLeft
fills_start d places vs row rest is back scene =
    ap (λ (xs : List Value). carried_on (put_at d) xs (zip places (reverse rest)) scene) is
    ∙ ap (λ (xs : List Value). carried_on (put_at d) (left_out_row d) (zip places (reverse xs)) scene) back
    ∙ ap (λ (xs : List Value). carried_on (put_at d) (left_out_row d) (zip places xs) scene) (reverse-reverse vs)

fills_next : (d : TableDef) (places : List ℕ) (vs : List Value) (i place : ℕ) (row rest more : List Value) (v : Value) (scene : Scene) → i < length places → place ≡ get_or places i 0 → rest ≡ more ++ v ∷ []
    → FillsLeft d places vs i row rest → then_do (put_at d row (place, v) scene) (λ next. carried_on (put_at d) next (zip (drop (i + 1) places) (reverse more))) ≡ filled_in d places vs scene
unfolding FillsLeft
fills_next d places vs i place row rest more v scene within is last h =
    ap (λ (xs : List Value). carried_on (put_at d) row (zip (place ∷ drop (i + 1) places) xs) scene) (sym (reverse-append more (v ∷ [])) ∙ ap (λ (xs : List Value). reverse xs) (sym last))
    ∙ ap (λ (ps : List ℕ). carried_on (put_at d) row (zip ps (reverse rest)) scene) (sym (place_at places i place within is))
    ∙ h scene

pub fills_more : (d : TableDef) (places : List ℕ) (vs : List Value) (i place : ℕ) (row next rest more : List Value) (v : Value) → i < length places → place ≡ get_or places i 0 → rest ≡ more ++ v ∷ []
    → Anywhere (Ok next) (put_at d row (place, v)) → FillsLeft d places vs i row rest → FillsLeft d places vs (i + 1) next more
unfolding FillsLeft
fills_more d places vs i place row next rest more v within is last put h scene =
    sym (ap (λ (x : Ending (List Value)). then_do x (λ next. carried_on (put_at d) next (zip (drop (i + 1) places) (reverse more)))) (put.ends scene))
    ∙ fills_next d places vs i place row rest more v scene within is last h

pub fills_fail : (d : TableDef) (places : List ℕ) (vs : List Value) (i place : ℕ) (row rest more : List Value) (v : Value) (e : SqlRefusal) → i < length places → place ≡ get_or places i 0 → rest ≡ more ++ v ∷ []
    → Anywhere {A = List Value} (Err e) (put_at d row (place, v)) → FillsLeft d places vs i row rest → Anywhere {A = List Value} (Err e) (filled_in d places vs)
fills_fail d places vs i place row rest more v NoMemory within is last put h = record { ends = λ scene. tt }
fills_fail d places vs i place row rest more v (Sql code) within is last put h = record {
  ends = λ scene.
      sym (fills_next d places vs i place row rest more v scene within is last h)
      ∙ ap (λ (x : Ending (List Value)). then_do x (λ next. carried_on (put_at d) next (zip (drop (i + 1) places) (reverse more)))) (put.ends scene);
}

none_to_zip : (ps : List ℕ) (vs : List Value) → vs ≡ [] → zip ps vs ≡ []
none_to_zip [] vs e = refl
none_to_zip (p ∷ ps) [] e = refl
none_to_zip (p ∷ ps) (v ∷ vs) e = cc

pub fills_short : (d : TableDef) (places : List ℕ) (vs : List Value) (i : ℕ) (row rest : List Value) → rest ≡ [] → FillsLeft d places vs i row rest → Anywhere (Ok row) (filled_in d places vs)
unfolding FillsLeft
fills_short d places vs i row rest none h = record {
  ends = λ scene.
      sym (h scene) ∙ ap (λ (xs : List Value). carried_on (put_at d) row (zip (drop i places) (reverse xs)) scene) none
      ∙ ap (λ (ps : List (ℕ × Value)). carried_on (put_at d) row ps scene) (none_to_zip (drop i places) [] refl);
}

pub fills_end : (d : TableDef) (places : List ℕ) (vs : List Value) (i : ℕ) (row rest : List Value) → length places ≤ i → FillsLeft d places vs i row rest → Anywhere (Ok row) (filled_in d places vs)
unfolding FillsLeft
fills_end d places vs i row rest past h = record {
  ends = λ scene.
      sym (h scene) ∙ ap (λ (ps : List ℕ). carried_on (put_at d) row (zip ps (reverse rest)) scene) (drop_all i places past);
}

pub ruleset filling = (fills_start, fills_more, fills_fail, fills_short, fills_end)
