-- Events that lead behind an item are those of some items.
use Rattle.std.proofs.Common.{◌≡◌, ℕ, ◌≤◌, ◌<◌, Bool, true, false, cond, ltb, List, [], ◌∷◌, ◌++◌, map, Option, Some, None, refl, ap, append_assoc, append-nil, arith}
use Rattle.std.proofs.lemmas.Bool.{ltb-true}
use Rattle.val_types.specs.declared.value.Value.{Value}
use Rattle.event_codec.specs.declared.event.IntVarKind.{IntVarKind}
use Rattle.event_codec.specs.declared.event.IntVarKind.TheVariants.{LastInsertId, InsertId}
use Rattle.event_codec.specs.Event.{Body, query, rotate, int_var, rand, user_var, format_description, xid, table_map, rows, Query, Map, Rows}
use Rattle.log_model.specs.Groups.{Stage, first, between, vars, maps, in_rows, go, refuse, find, is_free, int_var_move, rows_move}
use Rattle.log_model.specs.Images.{are_rows}
use Rattle.log_model.specs.Spelling.{Spelled, text_item, rows_item, some_of, vars_before, maps_before, bodies_of, bodies, AreNew, FitsOne, EndWell, AreItems, ran, run}

-- the rest of a text item, behind so many kinds of variables, and items behind it
pub record Text (p : ℕ) (bs : List Body) : Type 0 where
  pub last_id : Option ℕ
  pub generated : Option ℕ
  pub seeds : Option (ℕ × ℕ)
  pub variables : List (List ℕ × Value)
  pub statement : Query
  pub items : List Spelled
  pub no_last : 1 ≤ p → last_id ≡ None
  pub no_generated : 2 ≤ p → generated ≡ None
  pub no_seeds : 3 ≤ p → seeds ≡ None
  pub are : AreItems items
  pub same : bs ≡ bodies_of (text_item last_id generated seeds variables statement) ++ bodies items

abbrev pub Parsed : Stage → List Body → Type 0
Parsed first bs = (i : Spelled) × (is : List Spelled) × AreItems (i ∷ is) × (bs ≡ bodies (i ∷ is))
Parsed between bs = (is : List Spelled) × AreItems is × (bs ≡ bodies is)
Parsed (vars p) bs = Text p bs
Parsed (maps ms) bs =
    (new : List Map) × (rs : List Rows) × (is : List Spelled) × AreNew ms new × EndWell (ms ++ new) rs × AreItems is × (bs ≡ maps_before new (map rows rs) ++ bodies is)
Parsed (in_rows ms) bs = (rs : List Rows) × (is : List Spelled) × EndWell ms rs × AreItems is × (bs ≡ map rows rs ++ bodies is)

-- ---- a text

-- behind all kinds but user variables
plain : (bs : List Body) → (t : Text 3 bs) → bs ≡ vars_before t.variables (query t.statement ∷ []) ++ bodies t.items
plain bs t =
    let same = t.same in
    rw (t.no_last (omega arith), t.no_generated (omega arith), t.no_seeds (omega arith)) at same

with_seeds : (bs : List Body) → (t : Text 2 bs) → bs ≡ some_of (λ s. rand s.0 s.1) t.seeds (vars_before t.variables (query t.statement ∷ [])) ++ bodies t.items
with_seeds bs t =
    let same = t.same in
    rw (t.no_last (omega arith), t.no_generated (omega arith)) at same

with_generated : (bs : List Body) → (t : Text 1 bs)
    → bs ≡ some_of (int_var InsertId) t.generated (some_of (λ s. rand s.0 s.1) t.seeds (vars_before t.variables (query t.statement ∷ []))) ++ bodies t.items
with_generated bs t =
    let same = t.same in
    rw (t.no_last (omega arith)) at same

query_text : (p : ℕ) (q : Query) (bs : List Body) → Parsed between bs → Text p (query q ∷ bs)
query_text p q bs t = record {
  last_id = None;
  generated = None;
  seeds = None;
  variables = [];
  statement = q;
  items = t.0;
  no_last = λ low. refl;
  no_generated = λ low. refl;
  no_seeds = λ low. refl;
  are = t.1;
  same = ap (λ (xs : List Body). query q ∷ xs) t.2;
}

var_text : (p : ℕ) (name : List ℕ) (v : Value) (bs : List Body) → Text 3 bs → Text p (user_var name v ∷ bs)
var_text p name v bs t = record {
  last_id = None;
  generated = None;
  seeds = None;
  variables = (name, v) ∷ t.variables;
  statement = t.statement;
  items = t.items;
  no_last = λ low. refl;
  no_generated = λ low. refl;
  no_seeds = λ low. refl;
  are = t.are;
  same = ap (λ (xs : List Body). user_var name v ∷ xs) (plain bs t);
}

seeds_text : (p a b : ℕ) (bs : List Body) → p < 3 → Text 3 bs → Text p (rand a b ∷ bs)
seeds_text p a b bs low t = record {
  last_id = None;
  generated = None;
  seeds = Some (a, b);
  variables = t.variables;
  statement = t.statement;
  items = t.items;
  no_last = λ high. refl;
  no_generated = λ high. refl;
  no_seeds = λ high. absurd (omega arith);
  are = t.are;
  same = ap (λ (xs : List Body). rand a b ∷ xs) (plain bs t);
}

generated_text : (p n : ℕ) (bs : List Body) → p < 2 → Text 2 bs → Text p (int_var InsertId n ∷ bs)
generated_text p n bs low t = record {
  last_id = None;
  generated = Some n;
  seeds = t.seeds;
  variables = t.variables;
  statement = t.statement;
  items = t.items;
  no_last = λ high. refl;
  no_generated = λ high. absurd (omega arith);
  no_seeds = λ high. absurd (omega arith);
  are = t.are;
  same = ap (λ (xs : List Body). int_var InsertId n ∷ xs) (with_seeds bs t);
}

last_text : (p n : ℕ) (bs : List Body) → p < 1 → Text 1 bs → Text p (int_var LastInsertId n ∷ bs)
last_text p n bs low t = record {
  last_id = Some n;
  generated = t.generated;
  seeds = t.seeds;
  variables = t.variables;
  statement = t.statement;
  items = t.items;
  no_last = λ high. absurd (omega arith);
  no_generated = λ high. absurd (omega arith);
  no_seeds = λ high. absurd (omega arith);
  are = t.are;
  same = ap (λ (xs : List Body). int_var LastInsertId n ∷ xs) (with_generated bs t);
}

-- the others behind an event
abbrev Again : List Body → Type 0
Again bs = (s : Stage) → run s bs ≡ Some between → Parsed s bs

int_var_parsed : (p : ℕ) (kind : IntVarKind) (n : ℕ) (bs : List Body) → Again bs → ran (λ t. run t bs) (int_var_move p kind) ≡ Some between → Text p (int_var kind n ∷ bs)
int_var_parsed p LastInsertId n bs again e = by (ltb p 1) refl e
  where
    by : (b : Bool) → ltb p 1 ≡ b → ran (λ t. run t bs) (cond b (go (vars 1)) refuse) ≡ Some between → Text p (int_var LastInsertId n ∷ bs)
    by true low e = last_text p n bs (ltb-true _ _ low) (again (vars 1) e)
    by false low e = cc
int_var_parsed p InsertId n bs again e = by (ltb p 2) refl e
  where
    by : (b : Bool) → ltb p 2 ≡ b → ran (λ t. run t bs) (cond b (go (vars 2)) refuse) ≡ Some between → Text p (int_var InsertId n ∷ bs)
    by true low e = generated_text p n bs (ltb-true _ _ low) (again (vars 2) e)
    by false low e = cc

rand_parsed : (p a b : ℕ) (bs : List Body) → Again bs → (low : Bool) → ltb p 3 ≡ low → ran (λ t. run t bs) (cond low (go (vars 3)) refuse) ≡ Some between → Text p (rand a b ∷ bs)
rand_parsed p a b bs again true low e = seeds_text p a b bs (ltb-true _ _ low) (again (vars 3) e)
rand_parsed p a b bs again false low e = cc

text_parsed : (p : ℕ) (b : Body) (bs : List Body) → Again bs → run (vars p) (b ∷ bs) ≡ Some between → Text p (b ∷ bs)
text_parsed p (query q) bs again e = query_text p q bs (again between e)
text_parsed p (rotate next) bs again e = cc
text_parsed p (int_var kind n) bs again e = int_var_parsed p kind n bs again e
text_parsed p (rand a b) bs again e = rand_parsed p a b bs again (ltb p 3) refl e
text_parsed p (user_var name v) bs again e = var_text p name v bs (again (vars 3) e)
text_parsed p (format_description version) bs again e = cc
text_parsed p (xid n) bs again e = cc
text_parsed p (table_map m) bs again e = cc
text_parsed p (rows r) bs again e = cc

of_text : (bs : List Body) → Text 0 bs → Parsed first bs
of_text bs t = (text_item t.last_id t.generated t.seeds t.variables t.statement, t.items, (tt, t.are), t.same)

-- ---- rows

pub well_more : (ms : List Map) (r : Rows) (rs : List Rows) → FitsOne (find r.id ms) r → r.ends ≡ false → EndWell ms rs → EndWell ms (r ∷ rs)
well_more ms r [] fits last well = absurd well
well_more ms r (s ∷ rs) fits last well = (fits, last, well)

rows_parsed : (ms : List Map) (r : Rows) (bs : List Body) → Again bs → (o : Option Map) → find r.id ms ≡ o
    → ran (λ t. run t bs) (rows_move ms r o) ≡ Some between → Parsed (in_rows ms) (rows r ∷ bs)
rows_parsed ms r bs again None is e = cc
rows_parsed ms r bs again (Some m) is e = by (are_rows m r) r.ends refl refl e
  where
    by : (a b : Bool) → are_rows m r ≡ a → r.ends ≡ b → ran (λ t. run t bs) (cond a (cond b (go between) (go (in_rows ms))) refuse) ≡ Some between
        → Parsed (in_rows ms) (rows r ∷ bs)
    by false b fits ends e = cc
    by true true fits ends e = let p = again between e in (r ∷ [], p.0, (rw is fits, ends), p.1, ap (λ (xs : List Body). rows r ∷ xs) p.2)
    by true false fits ends e =
        let p = again (in_rows ms) e in
        (r ∷ p.0, p.1, well_more ms r p.0 (rw is fits) ends p.2, p.3, ap (λ (xs : List Body). rows r ∷ xs) p.4)

map_parsed : (ms : List Map) (m : Map) (bs : List Body) → Again bs → (o : Option Map) → find m.id ms ≡ o
    → ran (λ t. run t bs) (cond (is_free o) (go (maps (ms ++ m ∷ []))) refuse) ≡ Some between → Parsed (maps ms) (table_map m ∷ bs)
map_parsed ms m bs again (Some n) is e = cc
map_parsed ms m bs again None is e =
    let p = again (maps (ms ++ m ∷ [])) e in
    (m ∷ p.0, p.1, p.2, (is, p.3), rw (← append_assoc ms (m ∷ []) p.0) p.4, p.5, ap (λ (xs : List Body). table_map m ∷ xs) p.6)

maps_parsed : (ms : List Map) (b : Body) (bs : List Body) → Again bs → run (maps ms) (b ∷ bs) ≡ Some between → Parsed (maps ms) (b ∷ bs)
maps_parsed ms (query q) bs again e = cc
maps_parsed ms (rotate next) bs again e = cc
maps_parsed ms (int_var kind n) bs again e = cc
maps_parsed ms (rand x y) bs again e = cc
maps_parsed ms (user_var name v) bs again e = cc
maps_parsed ms (format_description version) bs again e = cc
maps_parsed ms (xid n) bs again e = cc
maps_parsed ms (table_map m) bs again e = map_parsed ms m bs again (find m.id ms) refl e
maps_parsed ms (rows r) bs again e =
    let p = rows_parsed ms r bs again (find r.id ms) refl e in ([], p.0, p.1, tt, rw append-nil p.2, p.3, p.4)

in_rows_parsed : (ms : List Map) (b : Body) (bs : List Body) → Again bs → run (in_rows ms) (b ∷ bs) ≡ Some between → Parsed (in_rows ms) (b ∷ bs)
in_rows_parsed ms (query q) bs again e = cc
in_rows_parsed ms (rotate next) bs again e = cc
in_rows_parsed ms (int_var kind n) bs again e = cc
in_rows_parsed ms (rand x y) bs again e = cc
in_rows_parsed ms (user_var name v) bs again e = cc
in_rows_parsed ms (format_description version) bs again e = cc
in_rows_parsed ms (xid n) bs again e = cc
in_rows_parsed ms (table_map m) bs again e = cc
in_rows_parsed ms (rows r) bs again e = rows_parsed ms r bs again (find r.id ms) refl e

-- ---- items

first_parsed : (b : Body) (bs : List Body) → Again bs → run first (b ∷ bs) ≡ Some between → Parsed first (b ∷ bs)
first_parsed (query q) bs again e = of_text (query q ∷ bs) (query_text 0 q bs (again between e))
first_parsed (rotate next) bs again e = cc
first_parsed (int_var kind n) bs again e = of_text (int_var kind n ∷ bs) (int_var_parsed 0 kind n bs again e)
first_parsed (rand x y) bs again e = of_text (rand x y ∷ bs) (seeds_text 0 x y bs (omega arith) (again (vars 3) e))
first_parsed (user_var name v) bs again e = of_text (user_var name v ∷ bs) (var_text 0 name v bs (again (vars 3) e))
first_parsed (format_description version) bs again e = cc
first_parsed (xid n) bs again e = cc
first_parsed (table_map m) bs again e =
    let p = again (maps (m ∷ [])) e in (rows_item (m ∷ p.0) p.1, p.2, ((p.3, p.4), p.5), ap (λ (xs : List Body). table_map m ∷ xs) p.6)
first_parsed (rows r) bs again e = cc

one_more : (bs : List Body) → Parsed first bs → Parsed between bs
one_more bs p = (p.0 ∷ p.1, p.2, p.3)

between_parsed : (b : Body) (bs : List Body) → Again bs → run between (b ∷ bs) ≡ Some between → Parsed between (b ∷ bs)
between_parsed (query q) bs again e = one_more _ (first_parsed (query q) bs again e)
between_parsed (rotate next) bs again e = cc
between_parsed (int_var kind n) bs again e = one_more _ (first_parsed (int_var kind n) bs again e)
between_parsed (rand x y) bs again e = one_more _ (first_parsed (rand x y) bs again e)
between_parsed (user_var name v) bs again e = one_more _ (first_parsed (user_var name v) bs again e)
between_parsed (format_description version) bs again e = cc
between_parsed (xid n) bs again e = cc
between_parsed (table_map m) bs again e = one_more _ (first_parsed (table_map m) bs again e)
between_parsed (rows r) bs again e = cc

pub parse : (bs : List Body) (s : Stage) → run s bs ≡ Some between → Parsed s bs
parse [] first e = cc
parse [] between e = ([], tt, refl)
parse [] (vars p) e = cc
parse [] (maps ms) e = cc
parse [] (in_rows ms) e = cc
parse (b ∷ bs) first e = first_parsed b bs (parse bs) e
parse (b ∷ bs) between e = between_parsed b bs (parse bs) e
parse (b ∷ bs) (vars p) e = text_parsed p b bs (parse bs) e
parse (b ∷ bs) (maps ms) e = maps_parsed ms b bs (parse bs) e
parse (b ∷ bs) (in_rows ms) e = in_rows_parsed ms b bs (parse bs) e

pub whole : (bs : List Body) → run first bs ≡ Some between → (i : Spelled) × (is : List Spelled) × AreItems (i ∷ is) × (bs ≡ bodies (i ∷ is))
whole bs e = parse bs first e
