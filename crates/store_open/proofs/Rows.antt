-- The rows of a table put in one after the other.
use Rattle.std.proofs.Common.{◌≡◌, ◌⊎◌, inl, inr, ℕ, zero, suc, ◌+◌, ◌≤◌, Bool, true, false, not, ◌&&◌, cond, List, [], ◌∷◌, ◌++◌, length, take, Option, Some, None, refl, sym, ap, subst, ◌∙◌, add-one, arith}
use Rattle.std.specs.Prelude.{nat_eq, slice_get}
use Rattle.std.specs.List.{list_any, list_all, AllByRecursion}
use Rattle.std.specs.Option.{option_map, option_map_or}
use Rattle.std.specs.Cmp.Lexicographic.{pointwise}
use Rattle.std.proofs.lemmas.Bool.{and_parts, cases_eq, false_from_ne_true, true≢false}
use Rattle.std.proofs.lemmas.List.{take_all}
use Rattle.val_types.specs.declared.value.Value.{Value}
use Rattle.val_types.specs.declared.change.Change.TheVariants.{Insert, Delete}
use Rattle.val_types.specs.declared.definitions.TableDef.{TableDef}
use Rattle.val_types.specs.Fitting.{row_fits}
use Rattle.val_types.specs.Keys.{same_values, collide}
use Rattle.table_rules.specs.Tables.{Table, IsKept, rise, are_apart}
use Rattle.table_rules.specs.Changes.{AreKept, applied, put, without}
use Rattle.table_rules.specs.Stored.{has_name, rows_of, table_named}
use Rattle.table_rules.proofs.Places.{name_self}
use Rattle.table_rules.proofs.Taking.{Behind, Kept, apart_differ, as_kept, is_kept, rows_reversible, same_is, same_self}
use Rattle.store_model.specs.Snapshots.{table_of_rows}
use Rattle.store_load.specs.Loading.{TablesAre}
use Rattle.store_open.specs.Filling.{AreRows, AreSame, Filling, FillsOn, IsFilled, ends_with}

-- ---- rows that may be those of a table

abbrev full : TableDef → List (List Value) → Table
full d rows = record { definition = d; rows = rows }

unless : (d : TableDef) (rows : List (List Value)) (b : Bool) → (cond b (Some (full d rows)) None ≡ Some (full d rows) → ⊥) → cond b (Some (full d rows)) None ≡ None
unless d rows true never = absurd (never refl)
unless d rows false never = refl

pub unless_rows : (d : TableDef) (rows : List (List Value)) → (AreRows d rows → ⊥) → table_of_rows d rows ≡ None
unless_rows d rows never = unless d rows (list_all (row_fits d.columns) rows && rise d rows && are_apart d rows) never

kept_if : (d : TableDef) (rows : List (List Value)) (b : Bool) → list_all (row_fits d.columns) rows && rise d rows && are_apart d rows ≡ b
    → cond b (Some (full d rows)) None ≡ Some (full d rows) → Kept d rows
kept_if d rows true is e =
    let a = and_parts (list_all (row_fits d.columns) rows && rise d rows) (are_apart d rows) is in
    let b = and_parts (list_all (row_fits d.columns) rows) (rise d rows) a.0 in
    as_kept (full d rows) (record { fit = b.0; rising = b.1; apart = a.1 })
kept_if d rows false is e = cc

kept_rows : (d : TableDef) (rows : List (List Value)) → AreRows d rows → Kept d rows
kept_rows d rows are = kept_if d rows (list_all (row_fits d.columns) rows && rise d rows && are_apart d rows) refl are

pub rows_kept : (d : TableDef) (rows : List (List Value)) → IsKept (record { definition = d; rows = rows }) → AreRows d rows
rows_kept d rows k = rw (k.fit, k.rising, k.apart) refl

-- ---- one row more behind others

behind_front : (d : TableDef) (r : List Value) (xs ys : List (List Value)) → Behind d r (xs ++ ys) → Behind d r xs
behind_front d r [] ys b = tt
behind_front d r (x ∷ xs) ys b = (b.0, b.1, behind_front d r xs ys b.2)

behind_last : (d : TableDef) (r x : List Value) (xs : List (List Value)) → Behind d r (xs ++ x ∷ []) → collide d r x ≡ false
behind_last d r x [] b = b.1
behind_last d r x (y ∷ ys) b = behind_last d r x ys b.2

kept_front : (d : TableDef) (xs ys : List (List Value)) → Kept d (xs ++ ys) → Kept d xs
kept_front d [] ys k = tt
kept_front d (x ∷ xs) ys k = (k.0, behind_front d x xs ys k.1, kept_front d xs ys k.2)

differs : (d : TableDef) (r x : List Value) → collide d r x ≡ false → same_values x r ≡ false
differs d r x apart =
    false_from_ne_true (same_values x r) (λ same.
    true≢false (sym (ap (same_values r) (same_is x r same) ∙ same_self r) ∙ apart_differ d r x apart))

without_last : (d : TableDef) (x : List Value) (xs : List (List Value)) → Kept d (xs ++ x ∷ []) → without x (xs ++ x ∷ []) ≡ Some xs
without_last d x [] k = ap (λ (b : Bool). cond b (Some []) (option_map (λ (rest : List (List Value)). x ∷ rest) None)) (same_self x)
without_last d x (r ∷ rs) k =
    ap (λ (b : Bool). cond b (Some (rs ++ x ∷ [])) (option_map (λ (rest : List (List Value)). r ∷ rest) (without x (rs ++ x ∷ [])))) (differs d r x (behind_last d r x rs k.1))
    ∙ ap (option_map (λ (rest : List (List Value)). r ∷ rest)) (without_last d x rs k.2)

-- it is put behind them
put_last : (d : TableDef) (x : List Value) (xs : List (List Value)) → Kept d (xs ++ x ∷ []) → put d x xs ≡ Some (xs ++ x ∷ [])
put_last d x xs k = (rows_reversible d (Delete d.name x) (xs ++ x ∷ []) xs k (without_last d x xs k)).back

some_same : {A : Type 0} (x y : A) → Some x ≡ Some y → x ≡ y
some_same x y e = cc

-- the first rows and the next
record Split (all : List (List Value)) (i : ℕ) (x : List Value) : Type 0 where
  pub rest : List (List Value)
  pub all_is : all ≡ (take i all ++ x ∷ []) ++ rest
  pub more : take (suc i) all ≡ take i all ++ x ∷ []

split_at : (all : List (List Value)) (i : ℕ) (x : List Value) → slice_get all i ≡ Some x → Split all i x
split_at [] i x e = cc
split_at (r ∷ rs) zero x e = let same = some_same r x e in record { rest = rs; all_is = ap (λ (y : List Value). y ∷ rs) same; more = ap (λ (y : List Value). y ∷ []) same }
split_at (r ∷ rs) (suc i) x e =
    let s = split_at rs i x e in
    record { rest = s.rest; all_is = ap (λ (ys : List (List Value)). r ∷ ys) s.all_is; more = ap (λ (ys : List (List Value)). r ∷ ys) s.more }

put_next : (d : TableDef) (all : List (List Value)) (i : ℕ) (x : List Value) → AreRows d all → slice_get all i ≡ Some x → put d x (take i all) ≡ Some (take (i + 1) all)
put_next d all i x are at =
    let s = split_at all i x at in
    put_last d x (take i all) (kept_front d (take i all ++ x ∷ []) s.rest (subst (λ (ys : List (List Value)). Kept d ys) s.all_is (kept_rows d all are)))
    ∙ ap (λ (ys : List (List Value)). Some ys) (sym s.more) ∙ ap (λ (n : ℕ). Some (take n all)) (sym (add-one i))

-- ---- the last table

other_first : (name : List ℕ) (t : Table) (ts : List Table) → table_named name (t ∷ ts) ≡ None → (has_name name t ≡ false) × (table_named name ts ≡ None)
other_first name t ts none = by (has_name name t) refl none
  where
    by : (b : Bool) → has_name name t ≡ b → cond b (Some t) (table_named name ts) ≡ None → (has_name name t ≡ false) × (table_named name ts ≡ None)
    by true is e = cc
    by false is e = (is, e)

mapped_twice : {A B C : Type 0} (f : A → B) (g : B → C) (o : Option A) → option_map g (option_map f o) ≡ option_map (λ (x : A). g (f x)) o
mapped_twice f g None = refl
mapped_twice f g (Some x) = refl

pub applied_last : (before : List Table) (d : TableDef) (rows : List (List Value)) (x : List Value) → table_named d.name before ≡ None
    → applied (Insert d.name x) (ends_with before d rows) ≡ option_map (λ (rs : List (List Value)). ends_with before d rs) (put d x rows)
applied_last [] d rows x none =
    ap (λ (b : Bool). cond b (option_map (λ (changed : Table). changed ∷ []) (option_map (λ (rs : List (List Value)). record { definition = d; rows = rs }) (put d x rows)))
    (option_map (λ (rest : List Table). record { definition = d; rows = rows } ∷ rest) None)) (name_self d.name)
    ∙ mapped_twice (λ (rs : List (List Value)). record { definition = d; rows = rs }) (λ (changed : Table). changed ∷ []) (put d x rows)
applied_last (t ∷ ts) d rows x none =
    let other = other_first d.name t ts none in
    ap (λ (b : Bool). cond b (option_map (λ (changed : Table). changed ∷ (ends_with ts d rows)) (option_map (λ (rs : List (List Value)). record { definition = t.definition; rows = rs }) (put t.definition x t.rows)))
    (option_map (λ (rest : List Table). t ∷ rest) (applied (Insert d.name x) (ends_with ts d rows)))) other.0
    ∙ ap (option_map (λ (rest : List Table). t ∷ rest)) (applied_last ts d rows x other.1)
    ∙ mapped_twice (λ (rs : List (List Value)). ends_with ts d rs) (λ (rest : List Table). t ∷ rest) (put d x rows)

named_last : (before : List Table) (d : TableDef) (rows : List (List Value)) → table_named d.name before ≡ None → table_named d.name (ends_with before d rows) ≡ Some (record { definition = d; rows = rows })
named_last [] d rows none = ap (λ (b : Bool). cond b (Some (record { definition = d; rows = rows })) None) (name_self d.name)
named_last (t ∷ ts) d rows none =
    let other = other_first d.name t ts none in
    ap (λ (b : Bool). cond b (Some t) (table_named d.name (ends_with ts d rows))) other.0 ∙ named_last ts d rows other.1

pub rows_last : (before : List Table) (d : TableDef) (rows : List (List Value)) → table_named d.name before ≡ None → rows_of d.name (ends_with before d rows) ≡ rows
rows_last before d rows none = ap (λ (o : Option Table). option_map_or (λ (t : Table). t.rows) o []) (named_last before d rows none)

kept_last : (before : List Table) (t : Table) → AreKept (before ++ t ∷ []) → IsKept t
kept_last [] t k = k.0
kept_last (u ∷ us) t k = kept_last us t k.1

-- ---- step by step

pub none_filled : (before : List Table) (d : TableDef) (all : List (List Value)) (tables : List Table) → tables ≡ ends_with before d [] → Filling before d all 0 tables
none_filled before d all tables is = record { rows = []; is = is; front = λ are. refl }

module _ (before : List Table) (d : TableDef) (name : List ℕ) (apart : table_named d.name before ≡ None) (named : d.name ≡ name) where
  row_tells : (all : List (List Value)) (i : ℕ) (tables : List Table) (x : List Value) (f : Filling before d all i tables)
      → applied (Insert name x) tables ≡ option_map (λ (rs : List (List Value)). ends_with before d rs) (put d x f.rows)
  row_tells all i tables x f =
      ap (λ (n : List ℕ). applied (Insert n x) tables) (sym named) ∙ ap (applied (Insert d.name x)) f.is ∙ applied_last before d f.rows x apart

  filled_one : (all : List (List Value)) (i : ℕ) (after : List Table) (x : List Value) (rows : List (List Value)) → (AreRows d all → rows ≡ take i all) → slice_get all i ≡ Some x → (o : Option (List (List Value)))
      → put d x rows ≡ o → option_map (λ (rs : List (List Value)). ends_with before d rs) o ≡ Some after → Filling before d all (i + 1) after
  filled_one all i after x rows front at None is e = cc
  filled_one all i after x rows front at (Some rs) is e = record {
    rows = rs;
    is = sym (some_same (ends_with before d rs) after e);
    front = λ are. some_same rs (take (i + 1) all) (sym is ∙ ap (put d x) (front are) ∙ put_next d all i x are at);
  }

  none_put : (all : List (List Value)) (i : ℕ) (x : List Value) (rows : List (List Value)) → (AreRows d all → rows ≡ take i all) → slice_get all i ≡ Some x → (o : Option (List (List Value)))
      → put d x rows ≡ o → option_map (λ (rs : List (List Value)). ends_with before d rs) o ≡ None → table_of_rows d all ≡ None
  none_put all i x rows front at None is e =
      unless_rows d all (λ are. let nay : None ≡ Some (take (i + 1) all) = sym is ∙ ap (put d x) (front are) ∙ put_next d all i x are at in cc)
  none_put all i x rows front at (Some rs) is e = cc

  pub one_filled : (made : Bool) (all : List (List Value)) (i : ℕ) (tables after : List Table) (x : List Value) → Filling before d all i tables → slice_get all i ≡ Some x
      → TablesAre made (applied (Insert name x) tables) after → FillsOn made before d all (i + 1) after
  one_filled true all i tables after x f at is = filled_one all i after x f.rows f.front at (put d x f.rows) refl (sym (row_tells all i tables x f) ∙ is)
  one_filled false all i tables after x f at is = none_put all i x f.rows f.front at (put d x f.rows) refl (sym (row_tells all i tables x f) ∙ is)

  rows_there : (all : List (List Value)) (i : ℕ) (tables : List Table) (f : Filling before d all i tables) → rows_of name tables ≡ f.rows
  rows_there all i tables f = ap (λ (n : List ℕ). rows_of n tables) (sym named) ∙ ap (rows_of d.name) f.is ∙ rows_last before d f.rows apart

  -- all were put, and stand as they should
  pub all_filled : (all : List (List Value)) (i : ℕ) (tables : List Table) → Filling before d all i tables → AreKept tables → rows_of name tables ≡ all → IsFilled true before d all tables
  all_filled all i tables f kept same =
      let rows : f.rows ≡ all = sym (rows_there all i tables f) ∙ same in
      let there : tables ≡ ends_with before d all = f.is ∙ ap (ends_with before d) rows in
      (rows_kept d all (kept_last before (record { definition = d; rows = all }) (subst AreKept there kept)), there)

  -- or they stand otherwise
  pub not_filled : (all : List (List Value)) (i : ℕ) (tables : List Table) → Filling before d all i tables → length all ≤ i → (rows_of name tables ≡ all → ⊥) → table_of_rows d all ≡ None
  not_filled all i tables f le other =
      unless_rows d all (λ are. other (rows_there all i tables f ∙ f.front are ∙ take_all i all le))

  -- a row was put in, or it could not be
  pub step_filled : (made : Bool) (all : List (List Value)) (i : ℕ) (tables after : List Table) (x y : List Value) → made ≡ true → Filling before d all i tables → slice_get all i ≡ Some y → x ≡ y
      → TablesAre made (applied (Insert name x) tables) after → Filling before d all (i + 1) after
  step_filled true all i tables after x y so f at same is = one_filled true all i tables after x f (at ∙ ap (λ (z : List Value). Some z) (sym same)) is
  step_filled false all i tables after x y so f at same is = cc

  pub step_not : (made : Bool) (all : List (List Value)) (i : ℕ) (tables after : List Table) (x y : List Value) → made ≡ false → Filling before d all i tables → slice_get all i ≡ Some y → x ≡ y
      → TablesAre made (applied (Insert name x) tables) after → table_of_rows d all ≡ None
  step_not true all i tables after x y nay f at same is = cc
  step_not false all i tables after x y nay f at same is = one_filled false all i tables after x f (at ∙ ap (λ (z : List Value). Some z) (sym same)) is

  -- all were, and stand as they should, or not
  pub fill_done : (made has : Bool) (all : List (List Value)) (tables there after : List Table) → made ≡ true → has ≡ true → there ≡ tables → FillsOn made before d all (length all) tables
      → AreSame has (rows_of name there) all → AreKept tables → after ≡ tables → IsFilled true before d all after
  fill_done false has all tables there after so same read f are kept stays = cc
  fill_done true false all tables there after so same read f are kept stays = cc
  fill_done true true all tables there after so same read f are kept stays =
      let filled = all_filled all (length all) tables f kept (ap (rows_of name) (sym read) ∙ are) in
      (filled.0, stays ∙ filled.1)

  pub fill_not : (made has : Bool) (all : List (List Value)) (tables there : List Table) → made ≡ true → has ≡ false → there ≡ tables → FillsOn made before d all (length all) tables
      → AreSame has (rows_of name there) all → table_of_rows d all ≡ None
  fill_not false has all tables there so nay read f differ = cc
  fill_not true true all tables there so nay read f differ = cc
  fill_not true false all tables there so nay read f differ = not_filled all (length all) tables f (omega arith) (λ same. differ (ap (rows_of name) read ∙ same))
