-- What a CREATE TABLE that nothing refuses may rest on.
use Rattle.std.proofs.Common.{◌≡◌, ℕ, ◌<◌, ◌≤◌, ◌^◌, Bool, true, false, ◌||◌, List, [], ◌∷◌, ◌++◌, length, drop, zero, suc, Option, Some, None, cond, refl, ap, ◌∙◌, arith}
use Rattle.std.specs.Prelude.{if◌then◌else◌, is_some, nat_lt}
use Rattle.std.specs.List.{list_any}
use Rattle.std.proofs.lemmas.Bool.Decides.{nat_tests}
use Rattle.val_types.specs.declared.definitions.TableDef.{TableDef}
use Rattle.sql_tree.specs.declared.statements.CreateTable.{CreateTable}
use Rattle.sql_tree.specs.declared.statements.Column.{Column}
use Rattle.sql_tree.specs.Statement.{create_table}
use Rattle.catalog_show_create.specs.catalog_rules.Objects as rules
use Rattle.catalog_show_create.specs.catalog_rules.Defined.{definition_of}
use Rattle.catalog_show_create.specs.catalog_rules.Creating.{Check, first_refusal, table_checks, ddl_refusal, is_past_table_limits, is_ill_type}
use Rattle.catalog_show_create.specs.catalog_objects.declared.object.Object.{Object}
use Rattle.catalog_show_create.specs.catalog_objects.declared.object.Object.TheVariants as kinds
use Rattle.catalog_show_create.specs.catalog_objects.Keys.{seen, objects_of}
use Rattle.catalog_show_create.specs.catalog_objects.Lookups.{object_of, is_free}
use Rattle.catalog_show_create.proofs.of_catalog_objects.Found.{same_tied}
use Rattle.catalog_create_program.proofs.RefusedFirst.{ddl_is}

-- ---- names that are free

pub free_step : {D : Type 0} (b c : Bool) (o : Object) (rest : Option Object) (d : D) (more : Option D) → b ≡ c
    → elim (cond c (Some d) None) as (λ _. Option D) [ None ↦ more | Some e ↦ Some e ] ≡ None → (more ≡ None → rest ≡ None) → cond b (Some o) rest ≡ None
free_step true true o rest d more e none later = cc
free_step true false o rest d more e none later = cc
free_step false true o rest d more e none later = cc
free_step false false o rest d more e none later = later none

-- where no table has a name, no object has it as a table
pub table_free : (objects : List Object) (name : List ℕ) → rules.table_in (objects_of objects) name ≡ None → object_of objects 0 name ≡ None
table_free [] name none = refl
table_free (kinds.Table d ∷ os) name none = free_step _ _ (kinds.Table d) (object_of os 0 name) d (rules.table_in (objects_of os) name) (same_tied name d.name) none (table_free os name)
table_free (kinds.Function p ∷ os) name none = table_free os name none
table_free (kinds.Procedure p ∷ os) name none = table_free os name none
table_free (kinds.Trigger t ∷ os) name none = table_free os name none

-- ---- checks that did not refuse

pub passed : (b : Bool) (code : ℕ) (rest : Option ℕ) → (if b then Some code else rest) ≡ None → (b ≡ false) × (rest ≡ None)
passed true code rest e = cc
passed false code rest e = (refl, e)

-- nor did those behind some
pub behind : (n : ℕ) (checks : List Check) → first_refusal checks ≡ None → first_refusal (drop n checks) ≡ None
behind zero checks e = e
behind (suc n) [] e = refl
behind (suc n) (check ∷ checks) e = behind n checks (passed check.1 check.0 (first_refusal checks) e).1

pub no_some : {D : Type 0} (o : Option D) → is_some o ≡ false → o ≡ None
no_some None e = refl
no_some (Some d) e = cc

pub neither : (a b : Bool) → (a || b) ≡ false → (a ≡ false) × (b ≡ false)
neither true b e = cc
neither false b e = (refl, e)

module _ (objects : List Object) (t : CreateTable) (none : ddl_refusal (objects_of objects) (create_table t) ≡ None) where
  let_through : first_refusal (table_checks (objects_of objects) t) ≡ None
  let_through = ddl_is (objects_of objects) (create_table t) ∙ none

  pub is_new : is_free (kinds.Table (definition_of t)) objects
  is_new = table_free objects t.name (no_some _ (passed _ _ _ let_through).0)

  limits : is_past_table_limits (objects_of objects) t ≡ false
  limits = (passed (is_past_table_limits (objects_of objects) t) 30009 None (behind 8 (table_checks (objects_of objects) t) let_through)).0

  -- few columns, none of an ill type
  pub is_small : (length t.columns < 2 ^ 16) × (list_any (λ (c : Column). is_ill_type c.kind) t.columns ≡ false)
  is_small =
      let bytes = (neither _ _ limits).0 in
      let kinds' = (neither _ _ bytes).0 in
      let types = neither _ _ kinds' in
      let uniques = (neither _ _ types.0).0 in
      let columns = (neither _ _ uniques).0 in
      let few : nat_lt 64 (length t.columns) ≡ false = columns in
      let most : length t.columns ≤ 64 = grind (arith, nat_tests) in
      (omega arith, types.1)

-- one more table, as definitions see it
pub seen_behind : (objects : List Object) (d : TableDef) → objects_of (objects ++ kinds.Table d ∷ []) ≡ objects_of objects ++ rules.table d ∷ []
seen_behind [] d = refl
seen_behind (o ∷ os) d = ap (λ (xs : List rules.Object). seen o ∷ xs) (seen_behind os d)
