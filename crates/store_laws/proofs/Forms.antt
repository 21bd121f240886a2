-- Changes that can be made have bodies.
use Rattle.std.proofs.Common.{◌≡◌, ℕ, suc, ◌+◌, ◌≤◌, ◌^◌, Bool, true, false, cond, eqb, ltb, List, [], ◌∷◌, length, map, Option, Some, None, Result, Ok, Err, ℤ, pos, neg_ℤ, FitsSigned, refl, sym, ap, subst, ◌∙◌, arith}
use Rattle.std.specs.Prelude.{◌||◌, not, nat_eq, nat_le, int_le, int_lt, if◌then◌else◌}
use Rattle.std.specs.List.{AllByRecursion, list_any, list_all}
use Rattle.std.specs.Option.{option_map, option_and_then}
use Rattle.std.specs.Result.{is_ok}
use Rattle.std.specs.Int.{w64}
use Rattle.std.specs.Cmp.Lexicographic.{pointwise}
use Rattle.std.proofs.lemmas.Int.{ints}
use Rattle.std.proofs.lemmas.Bool.{ltb-false, leb-true, and_parts}
use Rattle.val_types.specs.declared.value.Value.{Value}
use Rattle.val_types.specs.declared.value.Value.TheVariants.{Null, Int, Text}
use Rattle.val_types.specs.declared.change.Change.{Change}
use Rattle.val_types.specs.declared.change.Change.TheVariants.{Insert, Update, Delete}
use Rattle.val_types.specs.declared.definitions.ColType.{ColType}
use Rattle.val_types.specs.declared.definitions.ColType.TheVariants.{Int as IntType, BigInt, Varchar}
use Rattle.val_types.specs.declared.definitions.ColumnDef.{ColumnDef}
use Rattle.val_types.specs.declared.definitions.TableDef.{TableDef}
use Rattle.val_types.specs.Changes.{table_of}
use Rattle.val_types.specs.Errors.{out_of_range, too_long_for_column}
use Rattle.val_types.specs.Fitting.{fitting, is_bigint, is_int, is_null, may_hold, row_fits}
use Rattle.val_types.specs.Keys.{same_values, collide}
use Rattle.table_rules.specs.Tables.{Table}
use Rattle.table_rules.specs.Changes.{without, with_row, may_put, put, rows_after, applied, AreKept, ChangesTurnBack}
use Rattle.table_rules.specs.Stored.{all_applied, DefinitionsStay}
use Rattle.table_rules.proofs.Places.{name_is}
use Rattle.table_rules.proofs.Taking.{same_is}
use Rattle.sql_tree.specs.declared.statements.Column.{Column}
use Rattle.catalog_laws.specs.catalog_rules.Bases.{definitions_in}
use Rattle.catalog_laws.specs.catalog_rules.Objects.{Object, table, function, procedure, reaction}
use Rattle.catalog_laws.specs.catalog_rules.Defined.{written_table, written_columns, written_type}
use Rattle.catalog_laws.specs.catalog_rules.Creating.{Check, first_refusal, ddl_refusal, table_checks, is_ill_type}
use Rattle.catalog_laws.specs.catalog_show_create.Stated.{IsMade, StatementIsThatOfMaking}
use Rattle.catalog_laws.specs.Making.{IsMadeWell}
use Rattle.store_model.specs.Bodies.{IsValue, IsRow, IsChange}

-- ---- tables are small

abbrev IsSmallType : ColType → Type 0
IsSmallType IntType = Unit {0}
IsSmallType BigInt = Unit {0}
IsSmallType (Varchar most) = most ≤ 65535

pub record IsSmall (d : TableDef) : Type 0 where
  pub name : length d.name ≤ 64
  pub columns : length d.columns ≤ 64
  pub types : AllByRecursion (λ (c : ColumnDef). IsSmallType c.kind) d.columns

abbrev AllPass : List Check → Type 0
AllPass [] = Unit {0}
AllPass (check ∷ checks) = (check.1 ≡ false) × AllPass checks

pass_first : (b : Bool) (e : ℕ) (rest : Option ℕ) → cond b (Some e) rest ≡ None → (b ≡ false) × (rest ≡ None)
pass_first true e rest none = cc
pass_first false e rest none = (refl, none)

all_passed : (checks : List Check) → first_refusal checks ≡ None → AllPass checks
all_passed [] none = tt
all_passed (check ∷ checks) none =
    let parts = pass_first check.1 check.0 (first_refusal checks) none in
    (parts.0, all_passed checks parts.1)

neither : (a b : Bool) → (a || b) ≡ false → (a ≡ false) × (b ≡ false)
neither true b e = cc
neither false b e = (refl, e)

as_many : (auto : Option ℕ) (place : ℕ) (cs : List ColumnDef) → length (written_columns auto place cs) ≡ length cs
as_many auto place [] = refl
as_many auto place (c ∷ cs) = ap (λ n. suc n) (as_many auto (place + 1) cs)

small_type : (kind : ColType) → is_ill_type (written_type kind) ≡ false → IsSmallType kind
small_type IntType e = tt
small_type BigInt e = tt
small_type (Varchar most) e = ltb-false 65535 most (neither (eqb most 0) (ltb 65535 most) e).1

small_types : (auto : Option ℕ) (place : ℕ) (cs : List ColumnDef) → list_any (λ (c : Column). is_ill_type c.kind) (written_columns auto place cs) ≡ false
    → AllByRecursion (λ (c : ColumnDef). IsSmallType c.kind) cs
small_types auto place [] e = tt
small_types auto place (c ∷ cs) e =
    let two = neither (is_ill_type (written_type c.kind)) (list_any (λ (d : Column). is_ill_type d.kind) (written_columns auto (place + 1) cs)) e in
    (small_type c.kind two.0, small_types auto (place + 1) cs two.1)

module _ (its : StatementIsThatOfMaking) where
  small_table : (d : TableDef) → length d.name ≤ 64 → IsMade (table d) → IsSmall d
  unfolding ddl_refusal
  small_table d short is =
      let none = subst (λ s. ddl_refusal is.catalog s ≡ None) (sym (its (table d) is)) is.let_through in
      let pass = all_passed (table_checks is.catalog (written_table d)) none in
      let limits = neither _ _ pass.1.1.1.1.1.1.1.1.0 in
      let width = neither _ _ limits.0 in
      let types = neither _ _ width.0 in
      let uniques = neither _ _ types.0 in
      let keys = neither _ _ uniques.0 in
      record {
        name = short;
        columns = omega (arith, as_many d.auto 0 d.columns, ltb-false 64 (length (written_columns d.auto 0 d.columns)) keys.0);
        types = small_types d.auto 0 d.columns types.1;
      }

  pub small_tables : (os : List Object) → AllByRecursion IsMadeWell os → AllByRecursion (λ (d : TableDef). length d.name ≤ 64) (definitions_in os) → AllByRecursion IsSmall (definitions_in os)
  small_tables [] all names = tt
  small_tables (table d ∷ os) all names = (small_table d names.0 all.0.made, small_tables os all.1 names.1)
  small_tables (function p ∷ os) all names = small_tables os all.1 names
  small_tables (procedure p ∷ os) all names = small_tables os all.1 names
  small_tables (reaction t ∷ os) all names = small_tables os all.1 names

-- ---- rows that fit small tables

int_fits : (n : ℤ) → is_int n ≡ true → FitsSigned w64 n
int_fits n e = let p = and_parts (int_le (neg_ℤ (pos (2 ^ 31))) n) (int_lt n (pos (2 ^ 31))) e in grind (arith, ints, p)

bigint_fits : (n : ℤ) → is_bigint n ≡ true → FitsSigned w64 n
bigint_fits n e = let p = and_parts (int_le (neg_ℤ (pos (2 ^ 63))) n) (int_lt n (pos (2 ^ 63))) e in grind (arith, ints, p)

ok_if : (b : Bool) (code : ℕ) (r : Result (Unit {0}) ℕ) → r ≡ (if b then Ok tt else Err code) → is_ok r ≡ true → b ≡ true
ok_if true code r is e = refl
ok_if false code r is e = cc

value_has : (kind : ColType) (v : Value) → IsSmallType kind → is_ok (fitting kind v) ≡ true → IsValue v
value_has kind Null small fits = tt
value_has IntType (Int n) small fits = int_fits n (ok_if (is_int n) out_of_range (fitting IntType (Int n)) refl fits)
value_has IntType (Text t) small fits = cc
value_has BigInt (Int n) small fits = bigint_fits n (ok_if (is_bigint n) out_of_range (fitting BigInt (Int n)) refl fits)
value_has BigInt (Text t) small fits = cc
value_has (Varchar most) (Int n) small fits = cc
value_has (Varchar most) (Text t) small fits =
    let low = leb-true (length t) most (ok_if (nat_le (length t) most) too_long_for_column (fitting (Varchar most) (Text t)) refl fits) in
    omega (arith, low, small)

values_have : (cs : List ColumnDef) (row : List Value) → AllByRecursion (λ (c : ColumnDef). IsSmallType c.kind) cs → row_fits cs row ≡ true
    → (length row ≡ length cs) × AllByRecursion IsValue row
values_have [] [] small fits = (refl, tt)
values_have [] (v ∷ row) small fits = cc
values_have (c ∷ cs) [] small fits = cc
values_have (c ∷ cs) (v ∷ row) small fits =
    let two = and_parts (may_hold c v) (row_fits cs row) fits in
    let more = values_have cs row small.1 two.1 in
    (ap (λ n. suc n) more.0, (value_has c.kind v small.0 (and_parts (is_ok (fitting c.kind v)) (c.nullable || not (is_null v)) two.0).0, more.1))

row_has : (d : TableDef) (row : List Value) → IsSmall d → row_fits d.columns row ≡ true → IsRow row
row_has d row small fits =
    let both = values_have d.columns row small.types fits in
    record { few = omega (arith, both.0, small.columns); values = both.1 }

-- ---- changes of small tables

without_fits : (cs : List ColumnDef) (row : List Value) (rows rest : List (List Value)) → without row rows ≡ Some rest → list_all (row_fits cs) rows ≡ true → row_fits cs row ≡ true
without_fits cs row [] rest e all = cc
without_fits cs row (first ∷ rows) rest e all =
    let two = and_parts (row_fits cs first) (list_all (row_fits cs) rows) all in
    by (same_values row first) refl (without row rows) refl e two.0 (λ r e'. without_fits cs row rows r e' two.1)
  where
    by : (b : Bool) → same_values row first ≡ b → (x : Option (List (List Value))) → without row rows ≡ x
        → cond b (Some rows) (option_map (λ r. first ∷ r) x) ≡ Some rest → row_fits cs first ≡ true
        → ((r : List (List Value)) → without row rows ≡ Some r → row_fits cs row ≡ true) → row_fits cs row ≡ true
    by true same x is e fits behind = ap (row_fits cs) (same_is row first same) ∙ fits
    by false same None is e fits behind = cc
    by false same (Some r) is e fits behind = behind r is

put_fits : (d : TableDef) (row : List Value) (rows rest : List (List Value)) → put d row rows ≡ Some rest → row_fits d.columns row ≡ true
put_fits d row rows rest e = by (may_put d row rows) refl e
  where
    by : (b : Bool) → may_put d row rows ≡ b → cond b (Some (with_row d row rows)) None ≡ Some rest → row_fits d.columns row ≡ true
    by true is e = (and_parts (row_fits d.columns row) (not (list_any (collide d row) rows)) is).0
    by false is e = cc

rows_have : (d : TableDef) (change : Change) (rows rest : List (List Value)) → IsSmall d → list_all (row_fits d.columns) rows ≡ true → table_of change ≡ d.name
    → rows_after d change rows ≡ Some rest → IsChange change
rows_have d (Insert name row) rows rest small all named e =
    (omega (arith, ap (λ (n : List ℕ). length n) named, small.name), row_has d row small (put_fits d row rows rest e))
rows_have d (Update name before after) rows rest small all named e = by (without before rows) refl e
  where
    by : (x : Option (List (List Value))) → without before rows ≡ x → option_and_then (put d after) x ≡ Some rest → IsChange (Update name before after)
    by None is e = cc
    by (Some left) is e = (
      omega (arith, ap (λ (n : List ℕ). length n) named, small.name),
      (row_has d before small (without_fits d.columns before rows left is all), row_has d after small (put_fits d after left rest e)),
    )
rows_have d (Delete name row) rows rest small all named e =
    (omega (arith, ap (λ (n : List ℕ). length n) named, small.name), row_has d row small (without_fits d.columns row rows rest e all))

change_has : (change : Change) (ts after : List Table) → AllByRecursion IsSmall (map (λ (t : Table). t.definition) ts) → AreKept ts → applied change ts ≡ Some after → IsChange change
change_has change [] after small kept e = cc
change_has change (t ∷ ts) after small kept e =
    by (pointwise nat_eq (table_of change) t.definition.name) refl (rows_after t.definition change t.rows) refl (applied change ts) refl e (λ a e'. change_has change ts a small.1 kept.1 e')
  where
    by : (b : Bool) → pointwise nat_eq (table_of change) t.definition.name ≡ b
        → (x : Option (List (List Value))) → rows_after t.definition change t.rows ≡ x → (y : Option (List Table)) → applied change ts ≡ y
        → cond b (option_map (λ u. u ∷ ts) (option_map (λ rows. record { definition = t.definition; rows = rows }) x)) (option_map (λ rest. t ∷ rest) y) ≡ Some after
        → ((a : List Table) → applied change ts ≡ Some a → IsChange change) → IsChange change
    by true named None is y its e behind = cc
    by true named (Some rows) is y its e behind =
        rows_have t.definition change t.rows rows small.0 kept.0.fit (name_is (table_of change) t.definition.name named) is
    by false named x is None its e behind = cc
    by false named x is (Some a) its e behind = behind a its

pub changes_have : ChangesTurnBack → DefinitionsStay → (cs : List Change) (ts after : List Table) → AllByRecursion IsSmall (map (λ (t : Table). t.definition) ts) → AreKept ts
    → all_applied cs ts ≡ Some after → AllByRecursion IsChange cs
unfolding all_applied
changes_have back stay [] ts after small kept e = tt
changes_have back stay (c ∷ cs) ts after small kept e = by (applied c ts) refl e (λ a small' kept' e'. changes_have back stay cs a after small' kept' e')
  where
    by : (x : Option (List Table)) → applied c ts ≡ x → option_and_then (all_applied cs) x ≡ Some after
        → ((a : List Table) → AllByRecursion IsSmall (map (λ (t : Table). t.definition) a) → AreKept a → all_applied cs a ≡ Some after → AllByRecursion IsChange cs)
        → AllByRecursion IsChange (c ∷ cs)
    by None is e behind = cc
    by (Some a) is e behind = (
      change_has c ts a small kept is,
      behind a (subst (AllByRecursion IsSmall) (sym (stay c ts a is)) small) (back c ts a kept is).1 e,
    )
