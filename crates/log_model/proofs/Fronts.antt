-- What stands in a transaction can be completed.
use Rattle.std.proofs.Common.{◌≡◌, ℕ, suc, ◌+◌, ◌<◌, Bool, true, false, cond, eqb, ltb, List, [], ◌∷◌, ◌++◌, Option, Some, None, refl, ap, ◌∙◌, arith, subst}
use Rattle.std.proofs.lemmas.Bool.{ne_eqb, eq-eqb}
use Rattle.byte_fields.specs.Unroll.{all_from}
use Rattle.event_codec.specs.declared.event.IntVarKind.{IntVarKind}
use Rattle.event_codec.specs.declared.event.IntVarKind.TheVariants.{LastInsertId, InsertId}
use Rattle.event_codec.specs.declared.event.RowsKind.TheVariants.{Write}
use Rattle.event_codec.specs.Event.{Body, query, rotate, int_var, rand, user_var, format_description, xid, table_map, rows, Query, Map, Rows}
use Rattle.log_model.specs.Groups.{Stage, first, between, vars, maps, in_rows, Move, go, close, refuse, move, find, is_free, int_var_move, rows_move}
use Rattle.log_model.specs.Images.{are_rows, changes_at, row_at}
use Rattle.log_model.specs.Spelling.{FitsOne, ran, run}
use Rattle.log_model.proofs.Running.{run_append, rows_run}

-- behind rows, rows were read that fit
abbrev Live : Stage → Type 0
Live first = Unit {0}
Live between = Unit {0}
Live (vars p) = Unit {0}
Live (maps ms) = Unit {0}
Live (in_rows ms) = (r : Rows) × FitsOne (find r.id ms) r

-- ---- a map that is new, with a row

sum_of : List Map → ℕ
sum_of [] = 0
sum_of (m ∷ ms) = m.id + sum_of ms

find_none : (id : ℕ) (ms : List Map) → sum_of ms < id → find id ms ≡ None
unfolding sum_of
find_none id [] low = refl
find_none id (m ∷ ms) low =
    let other : eqb m.id id ≡ false = ne_eqb _ _ (λ e. omega arith) in
    rw other (find_none id ms (omega arith))

find_last : (id : ℕ) (ms : List Map) (m : Map) → sum_of ms < id → m.id ≡ id → find id (ms ++ m ∷ []) ≡ Some m
unfolding sum_of
find_last id [] m low same = let is : eqb m.id id ≡ true = eq-eqb _ _ same in rw is refl
find_last id (n ∷ ms) m low same =
    let other : eqb n.id id ≡ false = ne_eqb _ _ (λ e. omega arith) in
    rw other (find_last id ms m (omega arith) same)

-- a map of one column, and a row in which it is NULL
abbrev new_map : ℕ → Map
new_map id = record { id = id; name = []; kinds = 3 ∷ []; metadata = []; nulls = 1 ∷ [] }

abbrev new_rows : ℕ → Rows
new_rows id = record { kind = Write; id = id; ends = true; columns = 1; rows = 1 ∷ [] }

null_row : (id : ℕ) → are_rows (new_map id) (new_rows id) ≡ true
unfolding changes_at row_at all_from
null_row id = refl

new_ends : (ms : List Map) (id : ℕ) → sum_of ms < id → run (maps ms) (table_map (new_map id) ∷ rows (new_rows id) ∷ []) ≡ Some between
new_ends ms id low = rw (find_none id ms low, find_last id ms (new_map id) low refl, null_row id) refl

-- ---- each stage can be completed

abbrev ended : Rows → Rows
ended r = record { kind = r.kind; id = r.id; ends = true; columns = r.columns; rows = r.rows }

still : (o : Option Map) (r : Rows) → FitsOne o r → FitsOne o (ended r)
still None r fits = fits
still (Some m) r fits = fits

row_ends : (ms : List Map) (r : Rows) → FitsOne (find r.id ms) r → run (in_rows ms) (rows (ended r) ∷ []) ≡ Some between
row_ends ms r fits = rw (rows_run ms (ended r) (find r.id ms) (still (find r.id ms) r fits)) refl

abbrev empty_query : Query
empty_query = record { thread = 0; step = None; text = [] }

completes : (s : Stage) → Live s → (more : List Body) × (run s more ≡ Some between)
completes first live = (query empty_query ∷ [], refl)
completes between live = ([], refl)
completes (vars p) live = (query empty_query ∷ [], refl)
completes (maps ms) live =
    (table_map (new_map (suc (sum_of ms))) ∷ rows (new_rows (suc (sum_of ms))) ∷ [], new_ends ms (suc (sum_of ms)) (omega arith))
completes (in_rows ms) live = (rows (ended live.0) ∷ [], row_ends ms live.0 live.1)

-- ---- a stage that is reached is live

stage_of : Stage → Move → Stage
stage_of s (go t) = t
stage_of s (close n) = s
stage_of s refuse = s

stage_is : (s t : Stage) → go s ≡ go t → s ≡ t
unfolding stage_of
stage_is s t e = ap (stage_of s) e

-- a move to a stage that is always live
to_live : (s t : Stage) → Live s → go s ≡ go t → Live t
to_live s t live e = subst Live (stage_is s t e) live

if_live : (s t : Stage) → Live s → (b : Bool) → cond b (go s) refuse ≡ go t → Live t
if_live s t live true e = to_live s t live e
if_live s t live false e = cc

int_var_live : (p : ℕ) (kind : IntVarKind) (t : Stage) → int_var_move p kind ≡ go t → Live t
int_var_live p LastInsertId t e = if_live (vars 1) t tt (ltb p 1) e
int_var_live p InsertId t e = if_live (vars 2) t tt (ltb p 2) e

rows_live : (ms : List Map) (r : Rows) (o : Option Map) (t : Stage) → find r.id ms ≡ o → rows_move ms r o ≡ go t → Live t
rows_live ms r None t is e = cc
rows_live ms r (Some m) t is e = by (are_rows m r) r.ends refl e
  where
    by : (a b : Bool) → are_rows m r ≡ a → cond a (cond b (go between) (go (in_rows ms))) refuse ≡ go t → Live t
    by false b fits e = cc
    by true true fits e = to_live between t tt e
    by true false fits e = to_live (in_rows ms) t (r, rw is fits) e

begin_live : (b : Body) (t : Stage) → move first b ≡ go t → Live t
begin_live (query q) t e = to_live between t tt e
begin_live (rotate next) t e = cc
begin_live (int_var kind n) t e = int_var_live 0 kind t e
begin_live (rand x y) t e = to_live (vars 3) t tt e
begin_live (user_var name v) t e = to_live (vars 3) t tt e
begin_live (format_description version) t e = cc
begin_live (xid n) t e = cc
begin_live (table_map m) t e = to_live (maps (m ∷ [])) t tt e
begin_live (rows r) t e = cc

between_live : (b : Body) (t : Stage) → move between b ≡ go t → Live t
between_live (query q) t e = to_live between t tt e
between_live (rotate next) t e = cc
between_live (int_var kind n) t e = int_var_live 0 kind t e
between_live (rand x y) t e = to_live (vars 3) t tt e
between_live (user_var name v) t e = to_live (vars 3) t tt e
between_live (format_description version) t e = cc
between_live (xid n) t e = cc
between_live (table_map m) t e = to_live (maps (m ∷ [])) t tt e
between_live (rows r) t e = cc

text_live : (p : ℕ) (b : Body) (t : Stage) → move (vars p) b ≡ go t → Live t
text_live p (query q) t e = to_live between t tt e
text_live p (rotate next) t e = cc
text_live p (int_var kind n) t e = int_var_live p kind t e
text_live p (rand x y) t e = if_live (vars 3) t tt (ltb p 3) e
text_live p (user_var name v) t e = to_live (vars 3) t tt e
text_live p (format_description version) t e = cc
text_live p (xid n) t e = cc
text_live p (table_map m) t e = cc
text_live p (rows r) t e = cc

maps_live : (ms : List Map) (b : Body) (t : Stage) → move (maps ms) b ≡ go t → Live t
maps_live ms (query q) t e = cc
maps_live ms (rotate next) t e = cc
maps_live ms (int_var kind n) t e = cc
maps_live ms (rand x y) t e = cc
maps_live ms (user_var name v) t e = cc
maps_live ms (format_description version) t e = cc
maps_live ms (xid n) t e = cc
maps_live ms (table_map m) t e = if_live (maps (ms ++ m ∷ [])) t tt (is_free (find m.id ms)) e
maps_live ms (rows r) t e = rows_live ms r (find r.id ms) t refl e

in_rows_live : (ms : List Map) (b : Body) (t : Stage) → move (in_rows ms) b ≡ go t → Live t
in_rows_live ms (query q) t e = cc
in_rows_live ms (rotate next) t e = cc
in_rows_live ms (int_var kind n) t e = cc
in_rows_live ms (rand x y) t e = cc
in_rows_live ms (user_var name v) t e = cc
in_rows_live ms (format_description version) t e = cc
in_rows_live ms (xid n) t e = cc
in_rows_live ms (table_map m) t e = cc
in_rows_live ms (rows r) t e = rows_live ms r (find r.id ms) t refl e

live_on : (s : Stage) (b : Body) (t : Stage) → move s b ≡ go t → Live t
live_on first b t e = begin_live b t e
live_on between b t e = between_live b t e
live_on (vars p) b t e = text_live p b t e
live_on (maps ms) b t e = maps_live ms b t e
live_on (in_rows ms) b t e = in_rows_live ms b t e

run_live : (bs : List Body) (s t : Stage) → Live s → run s bs ≡ Some t → Live t
run_live [] s t live e = let same : s ≡ t = cc in subst Live same live
run_live (b ∷ bs) s t live e = by (λ u. run_live bs u t) (move s b) refl e
  where
    by : ((u : Stage) → Live u → run u bs ≡ Some t → Live t) → (m : Move) → move s b ≡ m → ran (λ u. run u bs) m ≡ Some t → Live t
    by again (go u) is e = again u (live_on s b u is) e
    by again (close n) is e = cc
    by again refuse is e = cc

pub fronts : (bs : List Body) (s : Stage) → run first bs ≡ Some s → (more : List Body) × (run first (bs ++ more) ≡ Some between)
fronts bs s e =
    let c = completes s (run_live bs first s tt e) in
    (c.0, run_append bs c.0 first s e ∙ c.1)
