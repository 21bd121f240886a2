-- Definitions keep that procedures have types of sizes that there are.
use Rattle.std.proofs.Common.{◌≡◌, ℕ, Bool, true, false, not, List, [], ◌∷◌, ◌++◌, Option, Some, None, refl, sym, ◌∙◌, subst, cond, filter}
use Rattle.std.specs.Prelude.{◌&&◌, ◌==◌, nat_le, nat_lt}
use Rattle.std.specs.List.{list_all, list_any}
use Rattle.std.specs.Option.{option_map, option_and_then}
use Rattle.std.proofs.lemmas.Bool.{and_parts, or_parts, ltb-false, le-leb}
use Rattle.std.proofs.lemmas.List.Folds.{list_all-append}
use Rattle.sql_tree.specs.Statement.{Statement, create_table, create_function, create_procedure, create_trigger, drop_table, drop_function, drop_procedure, drop_trigger, truncate, insert_into, replace_into, update_rows, delete_rows, select, evaluate, set_all, call_procedure, begin, commit, rollback, savepoint, rollback_to, release_savepoint, block, if_steps, while_steps, return_value, Program}
use Rattle.sql_tree.specs.declared.statements.SqlType.{SqlType}
use Rattle.sql_tree.specs.declared.statements.SqlType.TheVariants as types
use Rattle.sql_locals.specs.Types.{has_size}
use Rattle.table_rules.specs.Tables.{Table}
use Rattle.table_rules.specs.Stored.{all_applied}
use Rattle.name_const_laws.specs.catalog_rules.Bases.{Base, tables_after}
use Rattle.name_const_laws.specs.catalog_rules.Bodies.{has_code, body_codes, of_procedure}
use Rattle.name_const_laws.specs.catalog_rules.Creating.{Check, first_refusal, is_ill_type, program_types, is_past_program_limits, parameter_names, ddl_refusal, catalog_after, goes_with_table, is_function_named, is_procedure_named, is_trigger_named}
use Rattle.name_const_laws.specs.catalog_rules.Objects.{Object, procedure_in, name_of, body_of, count_of_programs}
use Rattle.std.specs.Prelude.{is_some, flat_map}
use Rattle.name_const_laws.specs.log_entries.declared.entries.Entry.{Entry}
use Rattle.name_const_laws.specs.log_entries.declared.entries.Entry.TheVariants.{Transaction, Definition, LogStart}
use Rattle.name_const_laws.specs.log_entries.Entries.{after, with_tables}
use Rattle.session_model.specs.Machine.{Whole}
use Rattle.session_model.specs.Holding.{changes_of, define}
use Rattle.session_replays.specs.Sizes.{has_sizes}

abbrev AllSized : List Object → Type 0
AllSized catalog = list_all has_sizes catalog ≡ true

-- ---- tests of lists

pub and_join : (a b : Bool) → a ≡ true → b ≡ true → (a && b) ≡ true
and_join true b e f = f
and_join false b e f = cc

pub split_all : {A : Type 0} (test : A → Bool) (xs ys : List A) → list_all test (xs ++ ys) ≡ true → (list_all test xs ≡ true) × (list_all test ys ≡ true)
split_all test xs ys e = and_parts (list_all test xs) (list_all test ys) (sym (list_all-append test xs ys) ∙ e)

pub join_all : {A : Type 0} (test : A → Bool) (xs ys : List A) → list_all test xs ≡ true → list_all test ys ≡ true → list_all test (xs ++ ys) ≡ true
join_all test xs ys e f = list_all-append test xs ys ∙ and_join (list_all test xs) (list_all test ys) e f

-- what is left of them
pub filter_all : {A : Type 0} (test goes : A → Bool) (xs : List A) → list_all test xs ≡ true → list_all test (filter (λ x. not (goes x)) xs) ≡ true
filter_all test goes [] e = refl
filter_all {A = A} test goes (x ∷ xs) e =
    let p = and_parts (test x) (list_all test xs) e in
    by (not (goes x)) p.0 (filter_all test goes xs p.1)
  where
    by : (b : Bool) → test x ≡ true → list_all test (filter (λ y. not (goes y)) xs) ≡ true → list_all test (cond b (x ∷ filter (λ y. not (goes y)) xs) (filter (λ y. not (goes y)) xs)) ≡ true
    by true f g = and_join (test x) (list_all test (filter (λ y. not (goes y)) xs)) f g
    by false f g = g

-- ---- one procedure more

size_of_type : (kind : SqlType) → is_ill_type kind ≡ false → has_size kind ≡ true
size_of_type types.Int e = refl
size_of_type types.BigInt e = refl
size_of_type (types.Varchar most) e = le-leb most 65535 (ltb-false 65535 most (or_parts (most == 0) (nat_lt 65535 most) e).1)

sizes_of_types : (kinds : List SqlType) → list_any is_ill_type kinds ≡ false → list_all has_size kinds ≡ true
sizes_of_types [] e = refl
sizes_of_types (k ∷ ks) e =
    let p = or_parts (is_ill_type k) (list_any is_ill_type ks) e in
    and_join (has_size k) (list_all has_size ks) (size_of_type k p.0) (sizes_of_types ks p.1)

-- a check that does not refuse, and those behind it
passed : (code : ℕ) (b : Bool) (more : List Check) → first_refusal ((code, b) ∷ more) ≡ None → (b ≡ false) × (first_refusal more ≡ None)
passed code true more e = cc
passed code false more e = (refl, e)

made_has_sizes : (catalog : List Object) (p : Program) → ddl_refusal catalog (create_procedure p) ≡ None → list_all has_size (program_types p) ≡ true
unfolding ddl_refusal
made_has_sizes catalog p e =
    let met : List ℕ = body_codes of_procedure (parameter_names p) (body_of p) in
    let limit : Bool = is_past_program_limits catalog (program_types p) in
    let a = passed 1304 (is_some (procedure_in catalog (name_of p))) ((1193, has_code met 1193) ∷ (30005, has_code met 30005) ∷ (30009, limit) ∷ []) e in
    let b = passed 1193 (has_code met 1193) ((30005, has_code met 30005) ∷ (30009, limit) ∷ []) a.1 in
    let c = passed 30005 (has_code met 30005) ((30009, limit) ∷ []) b.1 in
    let d = passed 30009 limit [] c.1 in
    sizes_of_types (program_types p) (or_parts (list_any is_ill_type (program_types p)) (nat_le 1000 (count_of_programs catalog)) d.0).0

catalog_keeps : (s : Statement) (catalog : List Object) → ddl_refusal catalog s ≡ None → AllSized catalog → AllSized (catalog_after s catalog)
catalog_keeps (create_table t) catalog e h = join_all has_sizes catalog _ h refl
catalog_keeps (create_function p) catalog e h = join_all has_sizes catalog _ h refl
catalog_keeps (create_procedure p) catalog e h =
    join_all has_sizes catalog _ h (and_join (list_all has_size (program_types p)) true (made_has_sizes catalog p e) refl)
catalog_keeps (create_trigger t) catalog e h = join_all has_sizes catalog _ h refl
catalog_keeps (drop_table name) catalog e h = filter_all has_sizes (goes_with_table name) catalog h
catalog_keeps (drop_function name) catalog e h = filter_all has_sizes (is_function_named name) catalog h
catalog_keeps (drop_procedure name) catalog e h = filter_all has_sizes (is_procedure_named name) catalog h
catalog_keeps (drop_trigger name) catalog e h = filter_all has_sizes (is_trigger_named name) catalog h
catalog_keeps (truncate n) catalog e h = h
catalog_keeps (insert_into ignore t names supply sets) catalog e h = h
catalog_keeps (replace_into t names supply) catalog e h = h
catalog_keeps (update_rows t sets condition os limit) catalog e h = h
catalog_keeps (delete_rows t condition os limit) catalog e h = h
catalog_keeps (select q) catalog e h = h
catalog_keeps (evaluate ts) catalog e h = h
catalog_keeps (set_all as') catalog e h = h
catalog_keeps (call_procedure name ts) catalog e h = h
catalog_keeps begin catalog e h = h
catalog_keeps commit catalog e h = h
catalog_keeps rollback catalog e h = h
catalog_keeps (savepoint name) catalog e h = h
catalog_keeps (rollback_to name) catalog e h = h
catalog_keeps (release_savepoint name) catalog e h = h
catalog_keeps (block ds ss) catalog e h = h
catalog_keeps (if_steps bs o) catalog e h = h
catalog_keeps (while_steps c ss) catalog e h = h
catalog_keeps (return_value v) catalog e h = h

-- ---- entries

defined_keeps : (s : Statement) (base next : Base) (refusal : Option ℕ) → ddl_refusal base.catalog s ≡ refusal → elim refusal as (λ _. Option Base) [
  | None ↦ Some (record { catalog = catalog_after s base.catalog; tables = tables_after s base.tables })
  | Some code ↦ None
] ≡ Some next → AllSized base.catalog → AllSized next.catalog
defined_keeps s base next None q e h =
    let same : record { catalog = catalog_after s base.catalog; tables = tables_after s base.tables } ≡ next = cc in
    subst (λ (b : Base). AllSized b.catalog) same (catalog_keeps s base.catalog q h)
defined_keeps s base next (Some code) q e h = cc

tables_keep : (base next : Base) (o : Option (List Table)) → option_map (with_tables base) o ≡ Some next → AllSized base.catalog → AllSized next.catalog
tables_keep base next None e h = cc
tables_keep base next (Some tables) e h =
    let same : with_tables base tables ≡ next = cc in
    subst (λ (b : Base). AllSized b.catalog) same h

rest_keeps : (es : List (Entry Whole)) (last : Base) (made : Option Base) → ((next : Base) → made ≡ Some next → AllSized next.catalog) → ((next : Base) → after changes_of define es next ≡ Some last → AllSized next.catalog → AllSized last.catalog)
    → option_and_then (after changes_of define es) made ≡ Some last → AllSized last.catalog
rest_keeps es last None first rest e = cc
rest_keeps es last (Some next) first rest e = rest next e (first next refl)

-- what entries make of a base
pub entries_keep : (es : List (Entry Whole)) (base last : Base) → after changes_of define es base ≡ Some last → AllSized base.catalog → AllSized last.catalog
entries_keep [] base last e h =
    let same : base ≡ last = cc in
    subst (λ (b : Base). AllSized b.catalog) same h
entries_keep (Transaction stamp server items ∷ es) base last e h =
    let made : Option (List Table) = all_applied (flat_map changes_of items) base.tables in
    rest_keeps es last (option_map (with_tables base) made) (λ next q. tables_keep base next made q h) (λ next q. entries_keep es next last q) e
entries_keep (Definition stamp server item ∷ es) base last e h =
    rest_keeps es last (define item base) (λ next q. defined_keeps item.began.tree base next (ddl_refusal base.catalog item.began.tree) refl q h) (λ next q. entries_keep es next last q) e
entries_keep (LogStart stamp server ∷ es) base last e h = entries_keep es base last e h
