-- Stages over lists of events: an item leads behind an item, and what a scan ends with is a run.
use Rattle.std.proofs.Common.{◌≡◌, ℕ, true, cond, ltb, List, [], ◌∷◌, ◌++◌, map, Option, Some, None, refl, ap, ◌∙◌, append_assoc, append-nil}
use Rattle.val_types.specs.declared.value.Value.{Value}
use Rattle.event_codec.specs.declared.event.IntVarKind.{IntVarKind}
use Rattle.event_codec.specs.declared.event.IntVarKind.TheVariants.{LastInsertId, InsertId}
use Rattle.event_codec.specs.Event.{Body, query, int_var, rand, user_var, rows, Query, Map, Rows}
use Rattle.log_model.specs.Groups.{Stage, first, between, vars, maps, in_rows, Move, go, close, refuse, move, find, rows_move}
use Rattle.log_model.specs.Spelling.{Spelled, text_item, rows_item, some_of, vars_before, maps_before, bodies_of, bodies, AreNew, FitsOne, EndWell, IsItem, AreItems, ran, run}

pub run_append : (xs ys : List Body) (s t : Stage) → run s xs ≡ Some t → run s (xs ++ ys) ≡ run t ys
run_append [] ys s t e = let same : s ≡ t = cc in rw same refl
run_append (b ∷ xs) ys s t e = by (λ u. run_append xs ys u t) (move s b) e
  where
    by : ((u : Stage) → run u xs ≡ Some t → run u (xs ++ ys) ≡ run t ys) → (m : Move) → ran (λ u. run u xs) m ≡ Some t → ran (λ u. run u (xs ++ ys)) m ≡ run t ys
    by again (go u) e = again u e
    by again (close n) e = cc
    by again refuse e = cc

-- ---- an item leads behind an item

vars_run : (vs : List (List ℕ × Value)) (q : Query) (p : ℕ) → run (vars p) (vars_before vs (query q ∷ [])) ≡ Some between
vars_run [] q p = refl
vars_run (v ∷ vs) q p = vars_run vs q 3

seeds_run : (seeds : Option (ℕ × ℕ)) (vs : List (List ℕ × Value)) (q : Query) (p : ℕ) → ltb p 3 ≡ true
    → run (vars p) (some_of (λ s. rand s.0 s.1) seeds (vars_before vs (query q ∷ []))) ≡ Some between
seeds_run None vs q p low = vars_run vs q p
seeds_run (Some s) vs q p low = rw low (vars_run vs q 3)

first_run : (id : Option ℕ) (seeds : Option (ℕ × ℕ)) (vs : List (List ℕ × Value)) (q : Query) (p : ℕ) → ltb p 2 ≡ true → ltb p 3 ≡ true
    → run (vars p) (some_of (int_var InsertId) id (some_of (λ s. rand s.0 s.1) seeds (vars_before vs (query q ∷ [])))) ≡ Some between
first_run None seeds vs q p low lower = seeds_run seeds vs q p lower
first_run (Some n) seeds vs q p low lower = rw low (seeds_run seeds vs q 2 refl)

text_run : (id next : Option ℕ) (seeds : Option (ℕ × ℕ)) (vs : List (List ℕ × Value)) (q : Query)
    → run (vars 0) (bodies_of (text_item id next seeds vs q)) ≡ Some between
text_run None next seeds vs q = first_run next seeds vs q 0 refl refl
text_run (Some n) next seeds vs q = first_run next seeds vs q 1 refl refl

-- variables begin an item
begins : (s : Stage) (b : Body) → Type 0
begins s b = move s b ≡ move (vars 0) b

same_begin : (s : Stage) (b : Body) (bs : List Body) → begins s b → run s (b ∷ bs) ≡ run (vars 0) (b ∷ bs)
unfolding begins
same_begin s b bs e = ap (ran (λ t. run t bs)) e

vars_begin : (s : Stage) → ((q : Query) → begins s (query q)) → ((name : List ℕ) (v : Value) → begins s (user_var name v)) → (vs : List (List ℕ × Value)) (q : Query)
    → run s (vars_before vs (query q ∷ [])) ≡ run (vars 0) (vars_before vs (query q ∷ []))
vars_begin s a b [] q = same_begin s (query q) [] (a q)
vars_begin s a b (v ∷ vs) q = same_begin s (user_var v.0 v.1) (vars_before vs (query q ∷ [])) (b v.0 v.1)

text_begin : (s : Stage) → ((q : Query) → begins s (query q)) → ((name : List ℕ) (v : Value) → begins s (user_var name v))
    → ((x y : ℕ) → begins s (rand x y)) → ((kind : IntVarKind) (n : ℕ) → begins s (int_var kind n)) → (id next : Option ℕ) (seeds : Option (ℕ × ℕ)) (vs : List (List ℕ × Value)) (q : Query)
    → run s (bodies_of (text_item id next seeds vs q)) ≡ Some between
text_begin s a b d e (Some n) next seeds vs q = same_begin s (int_var LastInsertId n) _ (e LastInsertId n) ∙ text_run (Some n) next seeds vs q
text_begin s a b d e None (Some n) seeds vs q = same_begin s (int_var InsertId n) _ (e InsertId n) ∙ text_run None (Some n) seeds vs q
text_begin s a b d e None None (Some x) vs q = same_begin s (rand x.0 x.1) _ (d x.0 x.1) ∙ text_run None None (Some x) vs q
text_begin s a b d e None None None vs q = vars_begin s a b vs q ∙ text_run None None None vs q

pub rows_run : (ms : List Map) (r : Rows) (o : Option Map) → FitsOne o r → rows_move ms r o ≡ cond r.ends (go between) (go (in_rows ms))
rows_run ms r None fits = absurd fits
rows_run ms r (Some m) fits = rw fits refl

last_runs : (ms : List Map) (rs : List Rows) → EndWell ms rs → run (in_rows ms) (map rows rs) ≡ Some between
last_runs ms [] well = absurd well
last_runs ms (r ∷ []) well = rw (rows_run ms r (find r.id ms) well.0, well.1) refl
last_runs ms (r ∷ s ∷ rs) well = rw (rows_run ms r (find r.id ms) well.0, well.1) (last_runs ms (s ∷ rs) well.2)

first_runs : (ms : List Map) (rs : List Rows) → EndWell ms rs → run (maps ms) (map rows rs) ≡ Some between
first_runs ms [] well = absurd well
first_runs ms (r ∷ []) well = rw (rows_run ms r (find r.id ms) well.0, well.1) refl
first_runs ms (r ∷ s ∷ rs) well = rw (rows_run ms r (find r.id ms) well.0, well.1) (last_runs ms (s ∷ rs) well.2)

maps_run : (before ms : List Map) (rs : List Rows) → AreNew before ms → EndWell (before ++ ms) rs → run (maps before) (maps_before ms (map rows rs)) ≡ Some between
maps_run before [] rs new well = first_runs before rs (rw append-nil at well)
maps_run before (m ∷ ms) rs new well = rw new.0 (maps_run (before ++ m ∷ []) ms rs new.1 (rw append_assoc well))

item_first : (i : Spelled) → IsItem i → run first (bodies_of i) ≡ Some between
unfolding begins
item_first (text_item id next seeds vs q) is = text_begin first (λ x. refl) (λ x y. refl) (λ x y. refl) (λ x y. refl) id next seeds vs q
item_first (rows_item [] rs) is = absurd is
item_first (rows_item (m ∷ ms) rs) is = maps_run (m ∷ []) ms rs is.0 is.1

item_next : (i : Spelled) → IsItem i → run between (bodies_of i) ≡ Some between
unfolding begins
item_next (text_item id next seeds vs q) is = text_begin between (λ x. refl) (λ x y. refl) (λ x y. refl) (λ x y. refl) id next seeds vs q
item_next (rows_item [] rs) is = absurd is
item_next (rows_item (m ∷ ms) rs) is = maps_run (m ∷ []) ms rs is.0 is.1

items_next : (is : List Spelled) → AreItems is → run between (bodies is) ≡ Some between
items_next [] are = refl
items_next (i ∷ is) are = run_append (bodies_of i) (bodies is) between between (item_next i are.0) ∙ items_next is are.1

pub items_run : (i : Spelled) (is : List Spelled) → AreItems (i ∷ is) → run first (bodies (i ∷ is)) ≡ Some between
items_run i is are = run_append (bodies_of i) (bodies is) first between (item_first i are.0) ∙ items_next is are.1
