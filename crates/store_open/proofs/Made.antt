-- One object more.
use Rattle.std.proofs.Common.{◌≡◌, ℕ, ◌+◌, ◌≤◌, zero, suc, ◌==◌, Bool, true, false, not, ◌&&◌, cond, List, [], ◌∷◌, ◌++◌, length, map, Option, Some, None, refl, sym, ap, subst, ◌∙◌, arith}
use Rattle.std.specs.Prelude.{nat_eq}
use Rattle.std.specs.List.{list_any}
use Rattle.std.specs.Option.{option_map, option_and_then}
use Rattle.std.specs.Str.{bytes_eq}
use Rattle.std.specs.Cmp.Lexicographic.{pointwise}
use Rattle.std.proofs.lemmas.Bool.{and_parts, or_parts, not-true, ne_eqb, eq-eqb, false_from_ne_true, true≢false}
use Rattle.val_types.specs.declared.definitions.TableDef.{TableDef}
use Rattle.table_rules.specs.Tables.{Table}
use Rattle.table_rules.specs.Stored.{has_name, table_named}
use Rattle.table_rules.specs.Stores.{definitions_of, names_differ}
use Rattle.table_rules.proofs.Places.{name_is, name_self}
use Rattle.sql_tree.specs.Statement.{Statement, create_table, create_function, create_procedure, create_trigger, drop_table, drop_function, drop_procedure, drop_trigger, truncate, insert_into, replace_into, update_rows, delete_rows, select, evaluate, set_all, call_procedure, begin, commit, rollback, savepoint, rollback_to, release_savepoint, block, if_steps, while_steps, return_value}
use Rattle.sql_tree.specs.declared.statements.CreateTable.{CreateTable}
use Rattle.store_model.specs.log_model.Images.{Read, and_then}
use Rattle.store_model.specs.sql_reach.Reach.{is_definition}
use Rattle.store_model.specs.sql_reach.catalog_rules.Bases.{Base, defined, tables_after, table_without_rows}
use Rattle.store_model.specs.sql_reach.catalog_rules.Creating.{catalog_after, ddl_refusal}
use Rattle.store_model.specs.sql_reach.catalog_rules.Defined.{definition_of}
use Rattle.store_model.specs.sql_reach.catalog_rules.Objects.{Object}
use Rattle.store_model.specs.Snapshots.{filled, object_made_by, one_more}
use Rattle.store_open.specs.Filling.{IsEmpty, ends_with}
use Rattle.store_open.specs.Objects.{filled_by, table_made}

-- ---- what is no definition makes no object

catalog_stays : (s : Statement) (catalog : List Object) → is_definition s ≡ false → catalog_after s catalog ≡ catalog
catalog_stays (create_table t) catalog e = cc
catalog_stays (create_function p) catalog e = cc
catalog_stays (create_procedure p) catalog e = cc
catalog_stays (create_trigger t) catalog e = cc
catalog_stays (drop_table n) catalog e = cc
catalog_stays (drop_function n) catalog e = cc
catalog_stays (drop_procedure n) catalog e = cc
catalog_stays (drop_trigger n) catalog e = cc
catalog_stays (truncate n) catalog e = cc
catalog_stays (insert_into a b c d f) catalog e = refl
catalog_stays (replace_into a b c) catalog e = refl
catalog_stays (update_rows a b c d f) catalog e = refl
catalog_stays (delete_rows a b c d) catalog e = refl
catalog_stays (select q) catalog e = refl
catalog_stays (evaluate es) catalog e = refl
catalog_stays (set_all a) catalog e = refl
catalog_stays (call_procedure n es) catalog e = refl
catalog_stays begin catalog e = refl
catalog_stays commit catalog e = refl
catalog_stays rollback catalog e = refl
catalog_stays (savepoint n) catalog e = refl
catalog_stays (rollback_to n) catalog e = refl
catalog_stays (release_savepoint n) catalog e = refl
catalog_stays (block ds b) catalog e = refl
catalog_stays (if_steps a o) catalog e = refl
catalog_stays (while_steps c b) catalog e = refl
catalog_stays (return_value v) catalog e = refl

abbrev made_of : Statement → Base → Base
made_of s base = record { catalog = catalog_after s base.catalog; tables = tables_after s base.tables }

not_more : (before made : Base) → made.catalog ≡ before.catalog → one_more before made ≡ None
not_more before made same =
    let differ : (length made.catalog == length before.catalog + 1) ≡ false = ne_eqb _ _ (λ e. omega (arith, ap length same, e)) in
    ap (λ (b : Bool). cond b (Some made) None) differ

no_one : (s : Statement) (before : Base) (o : Option ℕ) → catalog_after s before.catalog ≡ before.catalog
    → option_and_then (one_more before) (elim o [ None ↦ Some (made_of s before) | Some code ↦ None ]) ≡ None
no_one s before None same = not_more before (made_of s before) same
no_one s before (Some code) same = refl

pub no_definition : (s : Statement) (before : Base) → is_definition s ≡ false → option_and_then (one_more before) (defined s before) ≡ None
no_definition s before e = no_one s before (ddl_refusal before.catalog s) (catalog_stays s before.catalog e)

-- ---- one object more, or not

pub refused : (s : Statement) (before : Base) → defined s before ≡ None → option_and_then (one_more before) (defined s before) ≡ None
refused s before e = ap (option_and_then (one_more before)) e

pub counted_more : (s : Statement) (before made : Base) → defined s before ≡ Some made → length made.catalog ≡ length before.catalog + 1 → option_and_then (one_more before) (defined s before) ≡ Some made
counted_more s before made e count =
    ap (option_and_then (one_more before)) e ∙ ap (λ (n : ℕ). cond (n == length before.catalog + 1) (Some made) None) count
    ∙ ap (λ (b : Bool). cond b (Some made) None) (eq-eqb (length before.catalog + 1) (length before.catalog + 1) refl)

pub counted_other : (s : Statement) (before made : Base) → defined s before ≡ Some made → (length made.catalog ≡ length before.catalog + 1 → ⊥) → option_and_then (one_more before) (defined s before) ≡ None
counted_other s before made e other = ap (option_and_then (one_more before)) e ∙ ap (λ (b : Bool). cond b (Some made) None) (ne_eqb _ _ other)

-- ---- a table among the objects

pub other_filled : (s : Statement) (before made : Base) (bytes : List ℕ) → table_made s ≡ None → filled s before made bytes ≡ Some (made, bytes)
other_filled (create_table t) before made bytes e = cc
other_filled (create_function p) before made bytes e = refl
other_filled (create_procedure p) before made bytes e = refl
other_filled (create_trigger t) before made bytes e = refl
other_filled (drop_table n) before made bytes e = refl
other_filled (drop_function n) before made bytes e = refl
other_filled (drop_procedure n) before made bytes e = refl
other_filled (drop_trigger n) before made bytes e = refl
other_filled (truncate n) before made bytes e = refl
other_filled (insert_into a b c d f) before made bytes e = refl
other_filled (replace_into a b c) before made bytes e = refl
other_filled (update_rows a b c d f) before made bytes e = refl
other_filled (delete_rows a b c d) before made bytes e = refl
other_filled (select q) before made bytes e = refl
other_filled (evaluate es) before made bytes e = refl
other_filled (set_all a) before made bytes e = refl
other_filled (call_procedure n es) before made bytes e = refl
other_filled begin before made bytes e = refl
other_filled commit before made bytes e = refl
other_filled rollback before made bytes e = refl
other_filled (savepoint n) before made bytes e = refl
other_filled (rollback_to n) before made bytes e = refl
other_filled (release_savepoint n) before made bytes e = refl
other_filled (block ds b) before made bytes e = refl
other_filled (if_steps a o) before made bytes e = refl
other_filled (while_steps c b) before made bytes e = refl
other_filled (return_value v) before made bytes e = refl

-- a statement that makes a table
pub record MakesTable (s : Statement) (name : List ℕ) : Type 0 where
  pub table : CreateTable
  pub is : s ≡ create_table table
  pub named : table.name ≡ name

some_same : {A : Type 0} (x y : A) → Some x ≡ Some y → x ≡ y
some_same x y e = cc

pub makes_table : (s : Statement) (name : List ℕ) → table_made s ≡ Some name → MakesTable s name
makes_table (create_table t) name e = record { table = t; is = refl; named = some_same t.name name e }
makes_table (create_function p) name e = cc
makes_table (create_procedure p) name e = cc
makes_table (create_trigger t) name e = cc
makes_table (drop_table n) name e = cc
makes_table (drop_function n) name e = cc
makes_table (drop_procedure n) name e = cc
makes_table (drop_trigger n) name e = cc
makes_table (truncate n) name e = cc
makes_table (insert_into a b c d f) name e = cc
makes_table (replace_into a b c) name e = cc
makes_table (update_rows a b c d f) name e = cc
makes_table (delete_rows a b c d) name e = cc
makes_table (select q) name e = cc
makes_table (evaluate es) name e = cc
makes_table (set_all a) name e = cc
makes_table (call_procedure n es) name e = cc
makes_table begin name e = cc
makes_table commit name e = cc
makes_table rollback name e = cc
makes_table (savepoint n) name e = cc
makes_table (rollback_to n) name e = cc
makes_table (release_savepoint n) name e = cc
makes_table (block ds b) name e = cc
makes_table (if_steps a o) name e = cc
makes_table (while_steps c b) name e = cc
makes_table (return_value v) name e = cc

-- names that differ: the last is none of those before it
not_last : (name : List ℕ) (ts : List Table) (d : TableDef) (rest : List Table) → list_any (λ (other : TableDef). pointwise nat_eq name other.name) (definitions_of (ts ++ table_without_rows d ∷ [])) ≡ false
    → pointwise nat_eq name d.name ≡ false
not_last name [] d rest e = (or_parts (pointwise nat_eq name d.name) false e).0
not_last name (t ∷ ts) d rest e =
    not_last name ts d rest (or_parts (pointwise nat_eq name t.definition.name) (list_any (λ (other : TableDef). pointwise nat_eq name other.name) (definitions_of (ts ++ table_without_rows d ∷ []))) e).1

turned : (a b : List ℕ) → pointwise nat_eq a b ≡ false → pointwise nat_eq b a ≡ false
turned a b e =
    false_from_ne_true (pointwise nat_eq b a) (λ same. true≢false (sym (name_self a) ∙ ap (λ (n : List ℕ). pointwise nat_eq a n) (sym (name_is b a same)) ∙ e))

pub last_apart : (ts : List Table) (d : TableDef) → names_differ (definitions_of (ts ++ table_without_rows d ∷ [])) ≡ true → table_named d.name ts ≡ None
last_apart [] d e = refl
last_apart (t ∷ ts) d e =
    let parts = and_parts (not (list_any (λ (other : TableDef). pointwise nat_eq t.definition.name other.name) (definitions_of (ts ++ table_without_rows d ∷ [])))) (names_differ (definitions_of (ts ++ table_without_rows d ∷ []))) e in
    ap (λ (b : Bool). cond b (Some t) (table_named d.name ts)) (turned t.definition.name d.name (not_last t.definition.name ts d [] (not-true _ parts.0)))
    ∙ last_apart ts d parts.1

abbrev tables_or : List Table → Option Base → List Table
tables_or ts None = ts
tables_or ts (Some base) = base.tables

made_tables : (t : CreateTable) (before made : Base) (o : Option ℕ) → (elim o [ None ↦ Some (made_of (create_table t) before) | Some code ↦ None ]) ≡ Some made
    → made.tables ≡ before.tables ++ table_without_rows (definition_of t) ∷ []
made_tables t before made None e = sym (ap (tables_or []) e)
made_tables t before made (Some code) e = cc

-- the table that was made is the last, and empty
pub just_made : (s : Statement) (name : List ℕ) (before made : Base) (m : MakesTable s name) → defined s before ≡ Some made → names_differ (definitions_of made.tables) ≡ true
    → IsEmpty before.tables (definition_of m.table) name made.tables
just_made s name before made m e differ =
    let there : made.tables ≡ before.tables ++ table_without_rows (definition_of m.table) ∷ [] =
    made_tables m.table before made (ddl_refusal before.catalog (create_table m.table)) (ap (λ (u : Statement). defined u before) (sym m.is) ∙ e) in
    record {
      named = m.named;
      apart = last_apart before.tables (definition_of m.table) (sym (ap (λ (ts : List Table). names_differ (definitions_of ts)) there) ∙ differ);
      is = there;
    }

pub table_filled : (s : Statement) (name : List ℕ) (before made : Base) (bytes : List ℕ) (m : MakesTable s name)
    → filled s before made bytes ≡ filled_by (definition_of m.table) before.tables made bytes
table_filled s name before made bytes m = ap (λ (u : Statement). filled u before made bytes) m.is
