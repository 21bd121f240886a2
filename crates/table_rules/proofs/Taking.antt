-- What is put in can be taken out again, and what was taken out can be put back.
use Rattle.std.proofs.Common.{◌≡◌, ℕ, List, [], ◌∷◌, Bool, true, false, not, ◌&&◌, ◌||◌, cond, Option, Some, None, Ordering, Less, Equal, Greater, refl, sym, ap, subst, ◌∙◌}
use Rattle.std.specs.List.{list_any, list_all, AllByRecursion}
use Rattle.std.specs.Option.{option_map, option_and_then}
use Rattle.std.specs.Ordering.{is_eq, is_lt, ordering_reverse}
use Rattle.std.specs.Prelude.{nat_eq}
use Rattle.std.specs.Cmp.Lexicographic.{pointwise}
use Rattle.std.proofs.lemmas.Cmp.{tied_itself}
use Rattle.std.proofs.lemmas.Bool.{and_parts, and_from, or_parts, or_from, not-true, not_from_false, false_from_ne_true, true≢false}
use Rattle.val_types.specs.declared.value.Value.{Value}
use Rattle.val_types.specs.declared.definitions.KeyDef.{KeyDef}
use Rattle.val_types.specs.declared.definitions.TableDef.{TableDef}
use Rattle.val_types.specs.Order.{key_order}
use Rattle.val_types.specs.Fitting.{row_fits, is_null}
use Rattle.val_types.specs.Keys.{values_at, primary_key, same_values, agree_on, collide}
use Rattle.table_rules.specs.Tables.{Table, is_below, rise, are_apart, IsKept}
use Rattle.val_types.specs.declared.change.Change.{Change}
use Rattle.val_types.specs.declared.change.Change.TheVariants.{Insert, Update, Delete}
use Rattle.table_rules.specs.Changes.{without, with_row, put, rows_after, table_after, applied}
use Rattle.val_types.specs.Changes.{table_of, inverse}
use Rattle.val_types.proofs.Values.{key_exact, key_order_total}

-- ---- the order of keys

equal_is : (o : Ordering) → is_eq o ≡ true → o ≡ Equal
equal_is Less e = cc
equal_is Equal e = refl
equal_is Greater e = cc

less_is : (o : Ordering) → is_lt o ≡ true → o ≡ Less
less_is Less e = refl
less_is Equal e = cc
less_is Greater e = cc

pub same_is : (a b : List Value) → same_values a b ≡ true → a ≡ b
same_is a b e = key_exact a b (equal_is (key_order a b) e)

pub same_self : (a : List Value) → same_values a a ≡ true
same_self a = ap is_eq (tied_itself key_order_total a)

reversed_equal : (o : Ordering) → is_eq (ordering_reverse o) ≡ is_eq o
reversed_equal Less = refl
reversed_equal Equal = refl
reversed_equal Greater = refl

same_turned : (a b : List Value) → same_values a b ≡ same_values b a
same_turned a b = ap is_eq (key_order_total.antisymm a b) ∙ reversed_equal (key_order b a)

below_chain : (d : TableDef) (a b c : List Value) → is_below d a b ≡ true → is_below d b c ≡ true → is_below d a c ≡ true
below_chain d a b c e f = ap is_lt (key_order_total.trans (primary_key d a) (primary_key d b) (primary_key d c) (less_is _ e) (less_is _ f))

reversed_less : (o : Ordering) → is_lt o ≡ true → is_lt (ordering_reverse o) ≡ false
reversed_less Less e = refl
reversed_less Equal e = refl
reversed_less Greater e = cc

not_below_back : (d : TableDef) (a b : List Value) → is_below d a b ≡ true → is_below d b a ≡ false
not_below_back d a b e = ap is_lt (key_order_total.antisymm (primary_key d b) (primary_key d a)) ∙ reversed_less (key_order (primary_key d a) (primary_key d b)) e

neither : (o : Ordering) → is_eq o ≡ false → is_lt o ≡ false → is_lt (ordering_reverse o) ≡ true
neither Less e f = cc
neither Equal e f = cc
neither Greater e f = refl

-- ---- keys in common

collide_self : (d : TableDef) (a : List Value) → collide d a a ≡ true
collide_self d a = ap (λ (b : Bool). b || list_any (agree_on a a) d.uniques) (same_self (primary_key d a))

-- rows without a key in common differ
pub apart_differ : (d : TableDef) (a b : List Value) → collide d a b ≡ false → same_values a b ≡ false
apart_differ d a b e =
    false_from_ne_true (same_values a b) (λ same.
    let equal : a ≡ b = same_is a b same in
    true≢false (sym (collide_self d a) ∙ ap (collide d a) equal ∙ e))

-- one of two rows without a key in common has the lower primary key
below_or_above : (d : TableDef) (a b : List Value) → collide d a b ≡ false → is_below d a b ≡ false → is_below d b a ≡ true
below_or_above d a b e f =
    ap is_lt (key_order_total.antisymm (primary_key d b) (primary_key d a))
    ∙ neither (key_order (primary_key d a) (primary_key d b)) (or_parts (same_values (primary_key d a) (primary_key d b)) (list_any (agree_on a b) d.uniques) e).0 f

both_false : (x y : Bool) → (x && false) ≡ (y && false)
both_false true true = refl
both_false true false = refl
both_false false true = refl
both_false false false = refl

agree_by : (s : Bool) (va vb : List Value) → same_values va vb ≡ s → (not (list_any is_null va) && same_values va vb) ≡ (not (list_any is_null vb) && same_values vb va)
agree_by true va vb e =
    let equal : va ≡ vb = same_is va vb e in
    ap (λ (v : List Value). not (list_any is_null v) && same_values va vb) equal ∙ ap (λ (s : Bool). not (list_any is_null vb) && s) (same_turned va vb)
agree_by false va vb e =
    let back : same_values vb va ≡ false = sym (same_turned va vb) ∙ e in
    rw (e, back) (both_false _ _)

agree_turned : (a b : List Value) (key : KeyDef) → agree_on a b key ≡ agree_on b a key
agree_turned a b key = agree_by (same_values (values_at key.columns a) (values_at key.columns b)) (values_at key.columns a) (values_at key.columns b) refl

any_turned : (a b : List Value) (keys : List KeyDef) → list_any (agree_on a b) keys ≡ list_any (agree_on b a) keys
any_turned a b [] = refl
any_turned a b (key ∷ keys) =
    ap (λ (s : Bool). s || list_any (agree_on a b) keys) (agree_turned a b key) ∙ ap (λ (s : Bool). agree_on b a key || s) (any_turned a b keys)

collide_turned : (d : TableDef) (a b : List Value) → collide d a b ≡ collide d b a
collide_turned d a b =
    ap (λ (s : Bool). s || list_any (agree_on a b) d.uniques) (same_turned (primary_key d a) (primary_key d b))
    ∙ ap (λ (s : Bool). same_values (primary_key d b) (primary_key d a) || s) (any_turned a b d.uniques)

-- ---- the rows of a table, by cases

-- a row is below all of some rows, and has no key in common with one
abbrev pub Behind : TableDef → List Value → List (List Value) → Type 0
Behind d r [] = Unit {0}
Behind d r (s ∷ ss) = (is_below d r s ≡ true) × (collide d r s ≡ false) × Behind d r ss

-- what holds of the rows of each table
abbrev pub Kept : TableDef → List (List Value) → Type 0
Kept d [] = Unit {0}
Kept d (r ∷ rs) = (row_fits d.columns r ≡ true) × Behind d r rs × Kept d rs

no_collision : (d : TableDef) (r : List Value) (rs : List (List Value)) → Behind d r rs → list_any (collide d r) rs ≡ false
no_collision d r [] p = refl
no_collision d r (s ∷ ss) p = or_from (collide d r s) (list_any (collide d r) ss) p.1 (no_collision d r ss p.2)

-- ---- putting in

either_behind : (d : TableDef) (r : List Value) (b : Bool) (xs ys : List (List Value)) → Behind d r xs → Behind d r ys → Behind d r (cond b xs ys)
either_behind d r true xs ys p q = p
either_behind d r false xs ys p q = q

behind_with : (d : TableDef) (r x : List Value) (rs : List (List Value)) → Behind d r rs → is_below d r x ≡ true → collide d r x ≡ false → Behind d r (with_row d x rs)
behind_with d r x [] p e f = (e, f, tt)
behind_with d r x (s ∷ ss) p e f =
    either_behind d r (is_below d x s) (x ∷ s ∷ ss) (s ∷ with_row d x ss) (e, f, p) (p.0, p.1, behind_with d r x ss p.2 e f)

behind_chain : (d : TableDef) (x r : List Value) (rs : List (List Value)) → is_below d x r ≡ true → Behind d r rs → list_any (collide d x) rs ≡ false → Behind d x rs
behind_chain d x r [] e p free = tt
behind_chain d x r (s ∷ ss) e p free =
    let parts = or_parts (collide d x s) (list_any (collide d x) ss) free in
    (below_chain d x r s e p.0, parts.0, behind_chain d x r ss e p.2 parts.1)

kept_step : (d : TableDef) (x s : List Value) (ss : List (List Value)) (b : Bool) → is_below d x s ≡ b → Kept d (s ∷ ss) → row_fits d.columns x ≡ true
    → collide d x s ≡ false → list_any (collide d x) ss ≡ false → Kept d (with_row d x ss) → Kept d (cond b (x ∷ s ∷ ss) (s ∷ with_row d x ss))
kept_step d x s ss true e kept fits apart free rest = (fits, (e, apart, behind_chain d x s ss e kept.1 free), kept)
kept_step d x s ss false e kept fits apart free rest =
    (kept.0, behind_with d s x ss kept.1 (below_or_above d x s apart e) (sym (collide_turned d x s) ∙ apart), rest)

pub kept_with : (d : TableDef) (x : List Value) (rs : List (List Value)) → Kept d rs → row_fits d.columns x ≡ true → list_any (collide d x) rs ≡ false → Kept d (with_row d x rs)
kept_with d x [] kept fits free = (fits, tt, tt)
kept_with d x (s ∷ ss) kept fits free =
    let parts = or_parts (collide d x s) (list_any (collide d x) ss) free in
    kept_step d x s ss (is_below d x s) refl kept fits parts.0 parts.1 (kept_with d x ss kept.2 fits parts.1)

without_either : (x : List Value) (b : Bool) (xs ys : List (List Value)) (o : Option (List (List Value))) → without x xs ≡ o → without x ys ≡ o → without x (cond b xs ys) ≡ o
without_either x true xs ys o e f = e
without_either x false xs ys o e f = f

-- what is put in can be taken out
pub without_with : (d : TableDef) (x : List Value) (rs : List (List Value)) → list_any (collide d x) rs ≡ false → without x (with_row d x rs) ≡ Some rs
without_with d x [] free = rw (same_self x) refl
without_with d x (s ∷ ss) free =
    let parts = or_parts (collide d x s) (list_any (collide d x) ss) free in
    let differ : same_values x s ≡ false = apart_differ d x s parts.0 in
    without_either x (is_below d x s) (x ∷ s ∷ ss) (s ∷ with_row d x ss) (Some (s ∷ ss)) (rw (same_self x) refl)
    (rw (differ, without_with d x ss parts.1) refl)

-- ---- taking out

-- what is known of a row that was taken out of the rows of a table
pub record TakenOut (d : TableDef) (x : List Value) (rs rest : List (List Value)) : Type 0 where
  pub fits : row_fits d.columns x ≡ true
  pub free : list_any (collide d x) rest ≡ false
  pub back : with_row d x rest ≡ rs
  pub kept : Kept d rest
  pub each : (r : List Value) → Behind d r rs → (is_below d r x ≡ true) × (collide d r x ≡ false) × Behind d r rest

first_again : (d : TableDef) (s : List Value) (ss : List (List Value)) → Behind d s ss → with_row d s ss ≡ s ∷ ss
first_again d s [] p = refl
first_again d s (t ∷ ts) p = ap (λ (b : Bool). cond b (s ∷ t ∷ ts) (t ∷ with_row d s ts)) p.0

some_of : {A B : Type 0} (f : A → B) (o : Option A) (y : B) → option_map f o ≡ Some y → (z : A) × (o ≡ Some z) × (f z ≡ y)
some_of f (Some z) y e = (z, refl, cc)
some_of f None y e = cc

first_out : (d : TableDef) (s : List Value) (ss : List (List Value)) → Kept d (s ∷ ss) → TakenOut d s (s ∷ ss) ss
first_out d s ss kept = record {
  fits = kept.0;
  free = no_collision d s ss kept.1;
  back = first_again d s ss kept.1;
  kept = kept.2;
  each = λ r p. (p.0, p.1, p.2);
}

later_out : (d : TableDef) (x s : List Value) (ss rest : List (List Value)) → Kept d (s ∷ ss) → TakenOut d x ss rest → TakenOut d x (s ∷ ss) (s ∷ rest)
later_out d x s ss rest kept out =
    let first = out.each s kept.1 in
    let not_first : is_below d x s ≡ false = not_below_back d s x first.0 in
    record {
      fits = out.fits;
      free = or_from (collide d x s) (list_any (collide d x) rest) (collide_turned d x s ∙ first.1) out.free;
      back = ap (λ (b : Bool). cond b (x ∷ s ∷ rest) (s ∷ with_row d x rest)) not_first ∙ ap (λ (rows : List (List Value)). s ∷ rows) out.back;
      kept = (kept.0, first.2, out.kept);
      each = λ r p. let later = out.each r p.2 in (later.0, later.1, (p.0, p.1, later.2));
    }

out_step : (d : TableDef) (x s : List Value) (ss rest : List (List Value)) (b : Bool) → same_values x s ≡ b → Kept d (s ∷ ss)
    → ((left : List (List Value)) → without x ss ≡ Some left → TakenOut d x ss left)
    → cond b (Some ss) (option_map (λ (left : List (List Value)). s ∷ left) (without x ss)) ≡ Some rest → TakenOut d x (s ∷ ss) rest
out_step d x s ss rest true e kept below found =
    let row : s ≡ x = sym (same_is x s e) in
    let rows : ss ≡ rest = cc in
    subst (λ (y : List Value). TakenOut d y (s ∷ ss) rest) row (subst (λ (left : List (List Value)). TakenOut d s (s ∷ ss) left) rows (first_out d s ss kept))
out_step d x s ss rest false e kept below found =
    let left = some_of (λ (left : List (List Value)). s ∷ left) (without x ss) rest found in
    subst (λ (rows : List (List Value)). TakenOut d x (s ∷ ss) rows) left.2 (later_out d x s ss left.0 kept (below left.0 left.1))

pub taken_out : (d : TableDef) (x : List Value) (rs rest : List (List Value)) → Kept d rs → without x rs ≡ Some rest → TakenOut d x rs rest
taken_out d x [] rest kept found = cc
taken_out d x (s ∷ ss) rest kept found =
    out_step d x s ss rest (same_values x s) refl kept (λ left e. taken_out d x ss left kept.2 e) found

-- ---- the rows of a table after a change

put_split : (d : TableDef) (x : List Value) (rs rest : List (List Value)) (fits taken : Bool) → cond (fits && not taken) (Some (with_row d x rs)) None ≡ Some rest
    → (fits ≡ true) × (taken ≡ false) × (with_row d x rs ≡ rest)
put_split d x rs rest true false e = (refl, refl, cc)
put_split d x rs rest true true e = cc
put_split d x rs rest false true e = cc
put_split d x rs rest false false e = cc

put_parts : (d : TableDef) (x : List Value) (rs rest : List (List Value)) → put d x rs ≡ Some rest
    → (row_fits d.columns x ≡ true) × (list_any (collide d x) rs ≡ false) × (with_row d x rs ≡ rest)
put_parts d x rs rest e = put_split d x rs rest (row_fits d.columns x) (list_any (collide d x) rs) e

put_from : (d : TableDef) (x : List Value) (rs : List (List Value)) → row_fits d.columns x ≡ true → list_any (collide d x) rs ≡ false → put d x rs ≡ Some (with_row d x rs)
put_from d x rs fits free = rw (fits, free) refl

-- a change that can be made, and its inverse after it
pub record Reversible (d : TableDef) (change : Change) (rs rest : List (List Value)) : Type 0 where
  pub back : rows_after d (inverse change) rest ≡ Some rs
  pub kept : Kept d rest

put_back : (d : TableDef) (x : List Value) (rs rest : List (List Value)) → Kept d rs → put d x rs ≡ Some rest → (without x rest ≡ Some rs) × Kept d rest
put_back d x rs rest kept e =
    let parts = put_parts d x rs rest e in (
      ap (without x) (sym parts.2) ∙ without_with d x rs parts.1,
      subst (λ (rows : List (List Value)). Kept d rows) parts.2 (kept_with d x rs kept parts.0 parts.1),
    )

taken_back : (d : TableDef) (x : List Value) (rs rest : List (List Value)) → Kept d rs → without x rs ≡ Some rest → (put d x rest ≡ Some rs) × Kept d rest
taken_back d x rs rest kept e =
    let out = taken_out d x rs rest kept e in
    (put_from d x rest out.fits out.free ∙ ap (λ (rows : List (List Value)). Some rows) out.back, out.kept)

then_some : {A B : Type 0} (f : A → Option B) (o : Option A) (y : B) → option_and_then f o ≡ Some y → (z : A) × (o ≡ Some z) × (f z ≡ Some y)
then_some f (Some z) y e = (z, refl, e)
then_some f None y e = cc

pub rows_reversible : (d : TableDef) (change : Change) (rs rest : List (List Value)) → Kept d rs → rows_after d change rs ≡ Some rest → Reversible d change rs rest
rows_reversible d (Insert name row) rs rest kept e = let both = put_back d row rs rest kept e in record { back = both.0; kept = both.1 }
rows_reversible d (Delete name row) rs rest kept e = let both = taken_back d row rs rest kept e in record { back = both.0; kept = both.1 }
rows_reversible d (Update name before after) rs rest kept e =
    let mid = then_some (put d after) (without before rs) rest e in
    let out = taken_back d before rs mid.0 kept mid.1 in
    let into = put_back d after mid.0 rest out.1 mid.2 in
    record { back = ap (option_and_then (put d before)) into.0 ∙ out.0; kept = into.1 }

-- ---- what holds of a table, as a record and by cases

behind_from : (d : TableDef) (r : List Value) (rs : List (List Value)) → list_all (is_below d r) rs ≡ true → list_all (λ later. not (collide d r later)) rs ≡ true → Behind d r rs
behind_from d r [] e f = tt
behind_from d r (s ∷ ss) e f =
    let low = and_parts (is_below d r s) (list_all (is_below d r) ss) e in
    let free = and_parts (not (collide d r s)) (list_all (λ later. not (collide d r later)) ss) f in
    (low.0, not-true (collide d r s) free.0, behind_from d r ss low.1 free.1)

below_from : (d : TableDef) (r : List Value) (rs : List (List Value)) → Behind d r rs → list_all (is_below d r) rs ≡ true
below_from d r [] p = refl
below_from d r (s ∷ ss) p = and_from (is_below d r s) (list_all (is_below d r) ss) p.0 (below_from d r ss p.2)

free_from : (d : TableDef) (r : List Value) (rs : List (List Value)) → Behind d r rs → list_all (λ later. not (collide d r later)) rs ≡ true
free_from d r [] p = refl
free_from d r (s ∷ ss) p = and_from (not (collide d r s)) (list_all (λ later. not (collide d r later)) ss) (not_from_false (collide d r s) p.1) (free_from d r ss p.2)

kept_from : (d : TableDef) (rs : List (List Value)) → list_all (row_fits d.columns) rs ≡ true → rise d rs ≡ true → are_apart d rs ≡ true → Kept d rs
kept_from d [] e f g = tt
kept_from d (r ∷ rs) e f g =
    let fits = and_parts (row_fits d.columns r) (list_all (row_fits d.columns) rs) e in
    let rising = and_parts (list_all (is_below d r) rs) (rise d rs) f in
    let apart = and_parts (list_all (λ later. not (collide d r later)) rs) (are_apart d rs) g in
    (fits.0, behind_from d r rs rising.0 apart.0, kept_from d rs fits.1 rising.1 apart.1)

fits_from : (d : TableDef) (rs : List (List Value)) → Kept d rs → list_all (row_fits d.columns) rs ≡ true
fits_from d [] p = refl
fits_from d (r ∷ rs) p = and_from (row_fits d.columns r) (list_all (row_fits d.columns) rs) p.0 (fits_from d rs p.2)

rise_from : (d : TableDef) (rs : List (List Value)) → Kept d rs → rise d rs ≡ true
rise_from d [] p = refl
rise_from d (r ∷ rs) p = and_from (list_all (is_below d r) rs) (rise d rs) (below_from d r rs p.1) (rise_from d rs p.2)

apart_from : (d : TableDef) (rs : List (List Value)) → Kept d rs → are_apart d rs ≡ true
apart_from d [] p = refl
apart_from d (r ∷ rs) p = and_from (list_all (λ later. not (collide d r later)) rs) (are_apart d rs) (free_from d r rs p.1) (apart_from d rs p.2)

pub as_kept : (t : Table) → IsKept t → Kept t.definition t.rows
as_kept t k = kept_from t.definition t.rows k.fit k.rising k.apart

pub is_kept : (d : TableDef) (rs : List (List Value)) → Kept d rs → IsKept (record { definition = d; rows = rs })
is_kept d rs p = record { fit = fits_from d rs p; rising = rise_from d rs p; apart = apart_from d rs p }

-- ---- the tables after a change

same_table : (change : Change) → table_of (inverse change) ≡ table_of change
same_table (Insert name row) = refl
same_table (Update name before after) = refl
same_table (Delete name row) = refl

-- a table, and it after the change
table_reversible : (change : Change) (t changed : Table) → IsKept t → table_after change t ≡ Some changed
    → (table_after (inverse change) changed ≡ Some t) × (changed.definition ≡ t.definition) × IsKept changed
table_reversible change t changed kept e =
    let found = some_of (λ (rows : List (List Value)). record { definition = t.definition; rows = rows }) (rows_after t.definition change t.rows) changed e in
    let turned = rows_reversible t.definition change t.rows found.0 (as_kept t kept) found.1 in
    subst (λ (now : Table). (table_after (inverse change) now ≡ Some t) × (now.definition ≡ t.definition) × IsKept now) found.2
    (ap (option_map (λ (rows : List (List Value)). record { definition = t.definition; rows = rows })) turned.back, refl, is_kept t.definition found.0 turned.kept)

tables_step : (change : Change) (t : Table) (ts after : List Table) (here : Bool) → pointwise nat_eq (table_of change) t.definition.name ≡ here → IsKept t → AllByRecursion IsKept ts
    → ((rest : List Table) → applied change ts ≡ Some rest → (applied (inverse change) rest ≡ Some ts) × AllByRecursion IsKept rest)
    → cond here (option_map (λ (changed : Table). changed ∷ ts) (table_after change t)) (option_map (λ (rest : List Table). t ∷ rest) (applied change ts)) ≡ Some after
    → (applied (inverse change) after ≡ Some (t ∷ ts)) × AllByRecursion IsKept after
tables_step change t ts after true name kept all below e =
    let found = some_of (λ (changed : Table). changed ∷ ts) (table_after change t) after e in
    let turned = table_reversible change t found.0 kept found.1 in
    let named : pointwise nat_eq (table_of (inverse change)) found.0.definition.name ≡ true =
    ap (λ (d : TableDef). pointwise nat_eq (table_of (inverse change)) d.name) turned.1 ∙ ap (λ (n : List ℕ). pointwise nat_eq n t.definition.name) (same_table change) ∙ name in
    subst (λ (now : List Table). (applied (inverse change) now ≡ Some (t ∷ ts)) × AllByRecursion IsKept now) found.2 (rw (named, turned.0) refl, (turned.2, all))
tables_step change t ts after false name kept all below e =
    let found = some_of (λ (rest : List Table). t ∷ rest) (applied change ts) after e in
    let turned = below found.0 found.1 in
    let named : pointwise nat_eq (table_of (inverse change)) t.definition.name ≡ false =
    ap (λ (n : List ℕ). pointwise nat_eq n t.definition.name) (same_table change) ∙ name in
    subst (λ (now : List Table). (applied (inverse change) now ≡ Some (t ∷ ts)) × AllByRecursion IsKept now) found.2 (rw (named, turned.0) refl, (kept, turned.1))

-- a change that was made can be taken back, and the tables stay as tables have to be
pub tables_reversible : (change : Change) (ts after : List Table) → AllByRecursion IsKept ts → applied change ts ≡ Some after
    → (applied (inverse change) after ≡ Some ts) × AllByRecursion IsKept after
tables_reversible change [] after all e = cc
tables_reversible change (t ∷ ts) after all e =
    tables_step change t ts after (pointwise nat_eq (table_of change) t.definition.name) refl all.0 all.1 (λ rest f. tables_reversible change ts rest all.1 f) e
