-- COUNT, MIN and MAX of the rows of a table, read at its ends.
use Rattle.std.proofs.Common.{◌≡◌, ℕ, zero, suc, List, [], ◌∷◌, Bool, true, false, not, ◌&&◌, ◌||◌, cond, Option, Some, None, Ok, Err, Ordering, length, map, refl, sym, ap, subst, ◌∙◌, arith}
use Rattle.std.specs.Prelude.{◌-◌, ◌^◌, nat_le, pos, filter, slice_get, slice_index_or}
use Rattle.std.specs.Option.{option_and_then}
use Rattle.std.specs.Result.{is_ok}
use Rattle.std.specs.List.{list_all, list_any}
use Rattle.std.specs.Ordering.{is_lt, ordering_then}
use Rattle.std.proofs.lemmas.Bool.{and_parts}
use Rattle.val_types.specs.declared.value.Value.{Value}
use Rattle.val_types.specs.declared.value.Value.TheVariants.{Null, Int, Text}
use Rattle.val_types.specs.declared.definitions.ColType.{ColType}
use Rattle.val_types.specs.declared.definitions.ColType.TheVariants.{Int as IntType, BigInt, Varchar}
use Rattle.val_types.specs.declared.definitions.ColumnDef.{ColumnDef}
use Rattle.val_types.specs.declared.definitions.TableDef.{TableDef}
use Rattle.val_types.specs.declared.ops.Agg.{Agg}
use Rattle.val_types.specs.declared.ops.Agg.TheVariants.{Count, Sum, Min, Max}
use Rattle.val_types.specs.Fitting.{row_fits, may_hold, fitting, is_null}
use Rattle.val_types.specs.Keys.{values_at}
use Rattle.val_types.specs.Order.{value_order, key_order}
use Rattle.value_rules.specs.Selecting.{is_number, is_text, known_count, extreme, comes_first, aggregate_value}
use Rattle.table_rules.specs.Tables.{is_below, rise}
use Rattle.sql_tree.specs.Tree.{Tree}
use Rattle.where_candidates.specs.where_keys.where_laws.Sides.{of_column, side_of}
use Rattle.where_candidates.specs.session_ctx.sql_meaning.Frames.{World, Frame}
use Rattle.where_candidates.specs.where_keys.declared.outside.Outside.{Outside}
use Rattle.where_candidates.specs.where_keys.Sides.{IsRound}
use Rattle.key_order.specs.Extremes.{values_rise, last_from}
use Rattle.key_order.proofs.Extremes.{lowest_is_first, highest_is_last}
use Rattle.key_order.specs.Columns.{is_column, count_in, only_of, sure_place, key_column, edge_value, end_of, end_in}
use Rattle.key_order.proofs.Ordered.{column_so}

-- the value behind all of a row's
pub nothing_there : (row : List Value) (place : ℕ) → slice_get row place ≡ None → slice_index_or row place Null ≡ Null
nothing_there [] place e = refl
nothing_there (v ∷ vs) zero e = cc
nothing_there (v ∷ vs) (suc place) e = nothing_there vs place e

-- the value at a place
abbrev pub at : ℕ → List Value → Value
at place row = slice_index_or row place Null

-- ---- what a column of rows that fit holds

some_column : (a b : ColumnDef) → Some a ≡ Some b → a ≡ b
some_column a b e = cc

held_at : (columns : List ColumnDef) (row : List Value) (place : ℕ) (found : ColumnDef) → row_fits columns row ≡ true → slice_get columns place ≡ Some found → may_hold found (at place row) ≡ true
held_at [] row place found fits e = cc
held_at (c ∷ cs) [] place found fits e = cc
held_at (c ∷ cs) (v ∷ vs) zero found fits e = subst (λ (o : ColumnDef). may_hold o v ≡ true) (some_column c found e) (and_parts (may_hold c v) (row_fits cs vs) fits).0
held_at (c ∷ cs) (v ∷ vs) (suc place) found fits e = held_at cs vs place found (and_parts (may_hold c v) (row_fits cs vs) fits).1 e

all_held : (d : TableDef) (place : ℕ) (c : ColumnDef) (rows : List (List Value)) → slice_get d.columns place ≡ Some c → list_all (row_fits d.columns) rows ≡ true
    → list_all (may_hold c) (map (at place) rows) ≡ true
all_held d place c [] there fit = refl
all_held d place c (row ∷ rows) there fit =
    let both = and_parts (row_fits d.columns row) (list_all (row_fits d.columns) rows) fit in
    ap (λ (b : Bool). b && list_all (may_hold c) (map (at place) rows)) (held_at d.columns row place c both.0 there) ∙ all_held d place c rows there both.1

known_or : (nullable null : Bool) → nullable ≡ false → nullable || not null ≡ true → not null ≡ true
known_or true null e h = cc
known_or false null e h = h

-- none is NULL where the column is not
none_null : (c : ColumnDef) (vs : List Value) → c.nullable ≡ false → list_all (may_hold c) vs ≡ true → list_all (λ (v : Value). not (is_null v)) vs ≡ true
none_null c [] sure held = refl
none_null c (v ∷ vs) sure held =
    let both = and_parts (may_hold c v) (list_all (may_hold c) vs) held in
    let one = and_parts (is_ok (fitting c.kind v)) (c.nullable || not (is_null v)) both.0 in
    ap (λ (b : Bool). b && list_all (λ (v : Value). not (is_null v)) vs) (known_or c.nullable (is_null v) sure one.1) ∙ none_null c vs sure both.1

-- numbers and texts do not mix
texts_none : (kind : ColType) (v : Value) → is_ok (fitting kind v) ≡ true → elim kind [ IntType ↦ is_text v | BigInt ↦ is_text v | Varchar most ↦ is_number v ] ≡ false
texts_none IntType Null e = refl
texts_none IntType (Int n) e = refl
texts_none IntType (Text t) e = cc
texts_none BigInt Null e = refl
texts_none BigInt (Int n) e = refl
texts_none BigInt (Text t) e = cc
texts_none (Varchar most) Null e = refl
texts_none (Varchar most) (Int n) e = cc
texts_none (Varchar most) (Text t) e = refl

none_of : (p : Value → Bool) (c : ColumnDef) (vs : List Value) → ((v : Value) → is_ok (fitting c.kind v) ≡ true → p v ≡ false) → list_all (may_hold c) vs ≡ true → list_any p vs ≡ false
none_of p c [] never held = refl
none_of p c (v ∷ vs) never held =
    let both = and_parts (may_hold c v) (list_all (may_hold c) vs) held in
    let one = and_parts (is_ok (fitting c.kind v)) (c.nullable || not (is_null v)) both.0 in
    ap (λ (b : Bool). b || list_any p vs) (never v one.0) ∙ none_of p c vs never both.1

and_false : (a b : Bool) → b ≡ false → a && b ≡ false
and_false true b e = e
and_false false b e = refl

not_mixed : (c : ColumnDef) (vs : List Value) → list_all (may_hold c) vs ≡ true → list_any is_text vs && list_any is_number vs ≡ false
not_mixed c vs held = step c.kind refl
  where
    step : (kind : ColType) → c.kind ≡ kind → list_any is_text vs && list_any is_number vs ≡ false
    step IntType e = ap (λ (b : Bool). b && list_any is_number vs) (none_of is_text c vs (λ v h. texts_none IntType v (sym (ap (λ (k : ColType). is_ok (fitting k v)) e) ∙ h)) held)
    step BigInt e = ap (λ (b : Bool). b && list_any is_number vs) (none_of is_text c vs (λ v h. texts_none BigInt v (sym (ap (λ (k : ColType). is_ok (fitting k v)) e) ∙ h)) held)
    step (Varchar most) e =
        and_false (list_any is_text vs) (list_any is_number vs) (none_of is_number c vs (λ v h. texts_none (Varchar most) v (sym (ap (λ (k : ColType). is_ok (fitting k v)) e) ∙ h)) held)

-- ---- a key of one column rises

only_place : (places : List ℕ) (place : ℕ) → only_of places ≡ Some place → places ≡ place ∷ []
only_place [] place e = cc
only_place (p ∷ []) place e = let same : p ≡ place = cc in ap (λ (q : ℕ). q ∷ []) same
only_place (p ∷ (q ∷ ps)) place e = cc

one_order : (o : Ordering) → is_lt (ordering_then o Rattle.std.proofs.Common.Equal) ≡ is_lt o
one_order Rattle.std.proofs.Common.Less = refl
one_order Rattle.std.proofs.Common.Equal = refl
one_order Rattle.std.proofs.Common.Greater = refl

below_at : (d : TableDef) (place : ℕ) (row later : List Value) → d.primary ≡ place ∷ [] → is_below d row later ≡ true → is_lt (value_order (at place row) (at place later)) ≡ true
below_at d place row later only below =
    sym (one_order (value_order (at place row) (at place later)))
    ∙ sym (ap (λ (places : List ℕ). is_lt (key_order (values_at places row) (values_at places later))) only) ∙ below

all_above : (d : TableDef) (place : ℕ) (row : List Value) (rows : List (List Value)) → d.primary ≡ place ∷ [] → list_all (is_below d row) rows ≡ true
    → list_all (λ (later : Value). is_lt (value_order (at place row) later)) (map (at place) rows) ≡ true
all_above d place row [] only below = refl
all_above d place row (later ∷ rows) only below =
    let both = and_parts (is_below d row later) (list_all (is_below d row) rows) below in
    ap (λ (b : Bool). b && list_all (λ (later : Value). is_lt (value_order (at place row) later)) (map (at place) rows)) (below_at d place row later only both.0)
    ∙ all_above d place row rows only both.1

column_rises : (d : TableDef) (place : ℕ) (rows : List (List Value)) → d.primary ≡ place ∷ [] → rise d rows ≡ true → values_rise (map (at place) rows) ≡ true
column_rises d place [] only rising = refl
column_rises d place (row ∷ rows) only rising =
    let both = and_parts (list_all (is_below d row) rows) (rise d rows) rising in
    ap (λ (b : Bool). b && values_rise (map (at place) rows)) (all_above d place row rows only both.0) ∙ column_rises d place rows only both.1

-- ---- MIN, MAX and COUNT of a column that rises

last_is : (place : ℕ) (row : List Value) (rows : List (List Value)) → edge_value place (slice_get (row ∷ rows) (length rows)) ≡ last_from (at place row) (map (at place) rows)
last_is place row [] = refl
last_is place row (next ∷ rows) = last_is place next rows

pub one_less : (n : ℕ) → suc n - 1 ≡ n
one_less n = omega arith

not_true : (b : Bool) → not b ≡ true → b ≡ false
not_true true e = cc
not_true false e = refl

lowest : (place : ℕ) (rows : List (List Value)) → list_all (λ (v : Value). not (is_null v)) (map (at place) rows) ≡ true → values_rise (map (at place) rows) ≡ true
    → extreme (comes_first false) Null (map (at place) rows) ≡ edge_value place (slice_get rows 0)
lowest place [] there rising = refl
lowest place (row ∷ rows) there rising =
    let both = and_parts (not (is_null (at place row))) (list_all (λ (v : Value). not (is_null v)) (map (at place) rows)) there in
    lowest_is_first (at place row) (map (at place) rows) (not_true (is_null (at place row)) both.0) rising

highest : (place : ℕ) (rows : List (List Value)) → list_all (λ (v : Value). not (is_null v)) (map (at place) rows) ≡ true → values_rise (map (at place) rows) ≡ true
    → extreme (comes_first true) Null (map (at place) rows) ≡ edge_value place (slice_get rows (length rows - 1))
highest place [] there rising = refl
highest place (row ∷ rows) there rising =
    highest_is_last (at place row) (map (at place) rows) there rising ∙ sym (last_is place row rows)
    ∙ ap (λ (i : ℕ). edge_value place (slice_get (row ∷ rows) i)) (sym (one_less (length rows)))

counts_more : (v : Value) (kept : List Value) (n : ℕ) (known : Bool) → known ≡ true → length kept ≡ n → length (cond known (v ∷ kept) kept) ≡ suc n
counts_more v kept n true e more = ap suc more
counts_more v kept n false e more = cc

all_known : (place : ℕ) (rows : List (List Value)) → list_all (λ (v : Value). not (is_null v)) (map (at place) rows) ≡ true → known_count (map (at place) rows) ≡ length rows
all_known place [] there = refl
all_known place (row ∷ rows) there =
    let both = and_parts (not (is_null (at place row))) (list_all (λ (v : Value). not (is_null v)) (map (at place) rows)) there in
    counts_more (at place row) (filter (λ (v : Value). not (is_null v)) (map (at place) rows)) (length rows) (not (is_null (at place row))) both.0 (all_known place rows both.1)

pub counted_is : (n : ℕ) (v : Value) → count_in n ≡ Some v → v ≡ Int (pos n)
counted_is n v e = step (nat_le n (2 ^ 63 - 1)) e
  where
    step : (fits : Bool) → cond fits (Some (Int (pos n))) None ≡ Some v → v ≡ Int (pos n)
    step true e = cc
    step false e = cc

answer : (mixed : Bool) (v w : Value) → mixed ≡ false → v ≡ w → cond mixed (Err Rattle.val_types.specs.Errors.kinds_mixed) (Ok v) ≡ Ok w
answer true v w e same = cc
answer false v w e same = ap (λ (x : Value). Ok x) same

some_value : (a b : Value) → Some a ≡ Some b → a ≡ b
some_value a b e = cc

end_so : (f : Agg) (place : ℕ) (rows : List (List Value)) (v : Value) → list_all (λ (v : Value). not (is_null v)) (map (at place) rows) ≡ true → values_rise (map (at place) rows) ≡ true
    → list_any is_text (map (at place) rows) && list_any is_number (map (at place) rows) ≡ false → end_of f place rows ≡ Some v → aggregate_value f (map (at place) rows) ≡ Ok v
end_so Count place rows v there rising mixed e =
    ap (λ (n : ℕ). Ok (Int (pos n))) (all_known place rows there) ∙ ap (λ (x : Value). Ok x) (sym (counted_is (length rows) v e))
end_so Sum place rows v there rising mixed e = cc
end_so Min place rows v there rising mixed e = answer _ _ v mixed (lowest place rows there rising ∙ some_value _ v e)
end_so Max place rows v there rising mixed e = answer _ _ v mixed (highest place rows there rising ∙ some_value _ v e)

-- ---- the key's column

-- that a place is that of the primary key's only column, which is never NULL
pub record IsKeyColumn (d : TableDef) (place : ℕ) : Type 0 where
  pub only : d.primary ≡ place ∷ []
  pub column : ColumnDef
  pub there : slice_get d.columns place ≡ Some column
  pub sure : column.nullable ≡ false

key_is : (d : TableDef) (place : ℕ) → key_column d ≡ Some place → IsKeyColumn d place
key_is d place e = step (only_of d.primary) refl e
  where
    sure : (p : ℕ) (c : ColumnDef) (nullable : Bool) → only_of d.primary ≡ Some p → slice_get d.columns p ≡ Some c → c.nullable ≡ nullable → cond nullable None (Some p) ≡ Some place → IsKeyColumn d place
    sure p c true only there is e = cc
    sure p c false only there is e =
        let same : p ≡ place = cc in
        record {
          only = only_place d.primary place (only ∙ ap (λ (q : ℕ). Some q) same);
          column = c;
          there = sym (ap (slice_get d.columns) same) ∙ there;
          sure = is;
        }

    found : (p : ℕ) (c : Option ColumnDef) → only_of d.primary ≡ Some p → slice_get d.columns p ≡ c → sure_place p c ≡ Some place → IsKeyColumn d place
    found p None only there e = cc
    found p (Some c) only there e = sure p c c.nullable only there refl e

    step : (only : Option ℕ) → only_of d.primary ≡ only → option_and_then (λ (p : ℕ). sure_place p (slice_get d.columns p)) only ≡ Some place → IsKeyColumn d place
    step None only e = cc
    step (Some p) only e = found p (slice_get d.columns p) only refl e

-- ---- an aggregate over an expression

-- what it is over in each row, and what it comes to
pub record IsEnd (w : World) (f : Frame) (d : TableDef) (rows : List (List Value)) (function : Agg) (t : Tree) (v : Value) : Type 0 where
  pub place : ℕ
  pub column : ColumnDef
  pub is : side_of w f d t ≡ Some (of_column place column)
  pub comes : aggregate_value function (map (at place) rows) ≡ Ok v

pub over_so : (o : Outside) (w : World) (f : Frame) (d : TableDef) (rows : List (List Value)) (one : Agg × Tree) (v : Value) → IsRound o w f
    → list_all (row_fits d.columns) rows ≡ true → rise d rows ≡ true → end_in o d rows (Some one) ≡ Some v → IsEnd w f d rows one.0 one.1 v
over_so o w f d rows one v round fit rising e = step (key_column d) refl e
  where
    known : (place : ℕ) → IsKeyColumn d place → is_column o d place one.1 ≡ true → end_of one.0 place rows ≡ Some v → IsEnd w f d rows one.0 one.1 v
    known place key column e =
        let side = column_so o w f d place one.1 round column in
        let held = all_held d place key.column rows key.there fit in
        record {
          place = place;
          column = side.0;
          is = side.2;
          comes = end_so one.0 place rows v (none_null key.column (map (at place) rows) key.sure held) (column_rises d place rows key.only rising) (not_mixed key.column (map (at place) rows) held) e;
        }

    tested : (place : ℕ) (is : Bool) → key_column d ≡ Some place → is_column o d place one.1 ≡ is → cond is (end_of one.0 place rows) None ≡ Some v → IsEnd w f d rows one.0 one.1 v
    tested place true key column e = known place (key_is d place key) column e
    tested place false key column e = cc

    step : (found : Option ℕ) → key_column d ≡ found → option_and_then (λ (place : ℕ). cond (is_column o d place one.1) (end_of one.0 place rows) None) found ≡ Some v → IsEnd w f d rows one.0 one.1 v
    step None key e = cc
    step (Some place) key e = tested place (is_column o d place one.1) key refl e
