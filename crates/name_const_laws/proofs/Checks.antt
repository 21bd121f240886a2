-- What refuses a statement with locals closed in, in a session, is what refuses the statement with its locals in scope.
use Rattle.std.proofs.Common.{◌≡◌, ℕ, List, [], ◌∷◌, ◌++◌, map, length, Bool, true, false, not, cond, ◌||◌, Option, Some, None, refl, sym, ap, ◌∙◌}
use Rattle.std.specs.Prelude.{◌==◌, flat_map, find, nat_eq, is_some}
use Rattle.std.specs.List.{list_any, enumerate_from}
use Rattle.std.specs.Option.{option_and_then, option_map_or}
use Rattle.std.specs.Cmp.Lexicographic.{pointwise}
use Rattle.std.proofs.lemmas.Cmp.{nat_list_eq_equiv}
use Rattle.val_types.specs.declared.definitions.TableDef.{TableDef}
use Rattle.sql_tree.specs.Tree.{Tree, Trees, Query, query, items, all_columns, aggregates, Aggregates, no_aggregate, count_all, aggregate, Origin, no_origin, from_table}
use Rattle.sql_tree.specs.Statement.{Statement, create_table, create_function, create_procedure, create_trigger, drop_table, drop_function, drop_procedure, drop_trigger, truncate, insert_into, replace_into, update_rows, delete_rows, select, evaluate, set_all, call_procedure, begin, commit, rollback, savepoint, rollback_to, release_savepoint, block, if_steps, while_steps, return_value}
use Rattle.sql_tree.specs.Statement.{Supply, rows, rows_of}
use Rattle.sql_tree.specs.declared.expressions.Count.{Count}
use Rattle.sql_tree.specs.declared.expressions.Count.TheVariants as counts
use Rattle.sql_locals.specs.declared.locals.Local.{Local}
use Rattle.sql_locals.specs.Locals.{find_from, find_local}
use Rattle.sql_reach.specs.catalog_rules.Names.{is_among, has_twice}
use Rattle.sql_reach.specs.catalog_rules.Objects.{Object, table_in}
use Rattle.sql_reach.specs.catalog_rules.Bodies.{has_code}
use Rattle.sql_reach.specs.catalog_rules.Nodes.{Sight, no_sight, Node, a_name, a_column, a_new_column, an_old_column, an_inserted_value, a_user_variable, a_system_variable, a_built_in, a_random_number, a_function_call, a_table_read, a_limit, a_statement, count_of_trees, nodes_of, nodes_of_tree, nodes_of_rows, table_read_at}
use Rattle.sql_reach.specs.catalog_rules.Checks.{session_scope, unless, has_column, table_has_column, limit_codes, given_columns, is_left_out, count_of_aggregates, width_of_origin, width_of_query, has_width, tables_read, reads_its_target, columns_codes, insert_codes, set_codes, change_codes, statement_codes, node_codes, check_order, statement_refusal}
use Rattle.sql_reach.specs.sql_meaning.Frames.{number_or_none}
use Rattle.sql_reach.specs.sql_meaning.Running.{is_ill_count, is_ill_limit}
use Rattle.sql_reach.specs.Closing.{statement_mapped, trees_mapped, query_mapped, origin_mapped, aggregates_mapped, set_mapped, supply_mapped, const_if, closed_name, number_if, closed_by, closed_count, closed}
use Rattle.name_const_laws.specs.Laws.{ClosedIsAllowed, is_closable, scope_with}
use Rattle.name_const_laws.proofs.Asking.{Alike, as_many, is_plain, rows_asked, statement_asked}
use Rattle.name_const_laws.proofs.Whole.{listed, all_listed}

-- ---- the names of locals

or_true : (a : Bool) → (a || true) ≡ true
or_true true = refl
or_true false = refl

or_false : (a : Bool) → (a || false) ≡ a
or_false true = refl
or_false false = refl

one_found : (same : Bool) (l : Local) (found : Option Local) (rest : Bool) → (is_some (cond same (Some l) found) || rest) ≡ (is_some found || (same || rest))
one_found true l found rest = sym (or_true (is_some found))
one_found false l found rest = refl

among_found : (found : Option Local) (ls : List Local) (n : List ℕ) → is_some (find_from found ls n) ≡ (is_some found || is_among (map (λ (l : Local). l.name) ls) n)
among_found found [] n = sym (or_false (is_some found))
among_found found (l ∷ ls) n =
    let same = pointwise nat_eq l.name n in
    among_found (cond same (Some l) found) ls n
    ∙ one_found same l found (is_among (map (λ (x : Local). x.name) ls) n)
    ∙ ap (λ b. is_some found || (b || is_among (map (λ (x : Local). x.name) ls) n)) (nat_list_eq_equiv.symm l.name n)

named : (locals : List Local) (n : List ℕ) → is_among (map (λ (l : Local). l.name) locals) n ≡ is_some (find_local locals n)
named locals n = sym (among_found None locals n)

-- ---- the tables that are read

abbrev read_asked : Node → List (List ℕ)
read_asked node = listed (table_read_at node)

same_reads : (a b : List Node) → Alike read_asked read_asked a b → tables_read a ≡ tables_read b
same_reads a b h = all_listed table_read_at a ∙ h.same ∙ sym (all_listed table_read_at b)

const_reads : (n : List ℕ) (sight : Sight) (o : Option Local) → Alike read_asked read_asked (nodes_of_tree (const_if n o) sight) (a_name sight n ∷ [])
const_reads n sight None = record { same = refl }
const_reads n sight (Some l) = record { same = refl }

name_reads : (locals : List Local) (n : List ℕ) (sight : Sight) → Alike read_asked read_asked (nodes_of_tree (closed_name locals n) sight) (a_name sight n ∷ [])
name_reads locals n sight = const_reads n sight (find_local locals n)

module _ (catalog : List Object) (locals : List Local) where
  -- ---- what refuses a statement by itself

  width_same : (count : ℕ) (rs : List Trees)
      → list_any (λ ts. not (count_of_trees ts == count)) (map (trees_mapped (closed_name locals) (closed_count locals)) rs) ≡ list_any (λ ts. not (count_of_trees ts == count)) rs
  width_same count [] = refl
  width_same count (r ∷ rs) = λ i. not (as_many (closed_name locals) (closed_count locals) r i == count) || width_same count rs i

  aggregates_same : (rest : Aggregates) → count_of_aggregates (aggregates_mapped (closed_name locals) (closed_count locals) rest) ≡ count_of_aggregates rest
  aggregates_same no_aggregate = refl
  aggregates_same (count_all rest) = ap ℕ.suc (aggregates_same rest)
  aggregates_same (aggregate f a rest) = ap ℕ.suc (aggregates_same rest)

  origin_same : (o : Origin) → width_of_origin catalog (origin_mapped (closed_name locals) (closed_count locals) o) ≡ width_of_origin catalog o
  origin_same no_origin = refl
  origin_same (from_table t w os l) = refl

  query_same : (q : Query) → width_of_query catalog (query_mapped (closed_name locals) (closed_count locals) q) ≡ width_of_query catalog q
  query_same (query (items ts) o) = ap Some (as_many (closed_name locals) (closed_count locals) ts)
  query_same (query all_columns o) = origin_same o
  query_same (query (aggregates rest) o) = ap Some (aggregates_same rest)

  supply_width : (count : ℕ) (from : Supply) → has_width catalog count (supply_mapped (closed_name locals) (closed_count locals) from) ≡ has_width catalog count from
  supply_width count (rows rs) = ap not (width_same count rs)
  supply_width count (rows_of q) = ap (λ (o : Option ℕ). option_map_or (λ width. width == count) o true) (query_same q)

  supply_reads : (t : List ℕ) (from : Supply) → reads_its_target t (supply_mapped (closed_name locals) (closed_count locals) from) ≡ reads_its_target t from
  supply_reads t (rows rs) =
      ap (λ (ts : List (List ℕ)). is_among ts t)
      (same_reads (nodes_of_rows (map (trees_mapped (closed_name locals) (closed_count locals)) rs) no_sight) (nodes_of_rows rs no_sight)
      (rows_asked read_asked read_asked (closed_name locals) (closed_count locals) (λ x e. refl) (name_reads locals) (λ c. refl) rs no_sight))
  supply_reads t (rows_of q) = refl

  columns_same : (names : Option (List (List ℕ))) (from : Supply) (definition : TableDef)
      → columns_codes catalog names (supply_mapped (closed_name locals) (closed_count locals) from) definition ≡ columns_codes catalog names from definition
  columns_same names from definition =
      let given = given_columns definition names in
      λ i. unless (not (list_any (λ c. not (has_column c definition)) given)) 1054
      ++ unless (not (has_twice given)) 1110
      ++ unless (supply_width (length given) from i) 1136
      ++ unless (not (supply_reads definition.name from i)) 1093
      ++ unless (not (list_any (is_left_out definition given) (enumerate_from 0 definition.columns))) 1364

  insert_same : (t : List ℕ) (names : Option (List (List ℕ))) (from : Supply)
      → insert_codes catalog t names (supply_mapped (closed_name locals) (closed_count locals) from) ≡ insert_codes catalog t names from
  insert_same t names from = λ i. option_map_or (λ definition. columns_same names from definition i) (table_in catalog t) (1146 ∷ [])

  sets_same : (t : List ℕ) (ss : List (List ℕ × Tree)) → set_codes catalog t (map (set_mapped (closed_name locals) (closed_count locals)) ss) ≡ set_codes catalog t ss
  sets_same t [] = refl
  sets_same t (s ∷ ss) = ap (λ codes. unless (table_has_column catalog s.0 t) 1054 ++ codes) (sets_same t ss)

  reads_same : (s : Statement) → tables_read (nodes_of (statement_mapped (closed_name locals) (closed_count locals) s)) ≡ tables_read (nodes_of s)
  reads_same s =
      same_reads (nodes_of (statement_mapped (closed_name locals) (closed_count locals) s)) (nodes_of s)
      (statement_asked read_asked read_asked (closed_name locals) (closed_count locals) (λ x e. refl) (name_reads locals) (λ c. refl) s refl (λ e. record { same = refl }))

  change_same : (t : List ℕ) (s : Statement) → change_codes catalog t (statement_mapped (closed_name locals) (closed_count locals) s) ≡ change_codes catalog t s
  change_same t s = λ i. unless (is_some (table_in catalog t)) 1146 ++ unless (not (is_among (reads_same s i) t)) 1093

  statement_same : (s : Statement) → is_closable s ≡ true
      → statement_codes catalog session_scope (statement_mapped (closed_name locals) (closed_count locals) s) ≡ statement_codes catalog (scope_with locals) s
  statement_same (insert_into ignore t cs from us) e = λ i. insert_same t cs from i ++ sets_same t us i
  statement_same (replace_into t cs from) e = insert_same t cs from
  statement_same (update_rows t ss w os l) e = λ i. sets_same t ss i ++ change_same t (update_rows t ss w os l) i
  statement_same (delete_rows t w os l) e = change_same t (delete_rows t w os l)
  statement_same (select q) e = refl
  statement_same (evaluate ts) e = refl
  statement_same (create_table t) e = cc
  statement_same (create_function p) e = cc
  statement_same (create_procedure p) e = cc
  statement_same (create_trigger t) e = cc
  statement_same (drop_table n) e = cc
  statement_same (drop_function n) e = cc
  statement_same (drop_procedure n) e = cc
  statement_same (drop_trigger n) e = cc
  statement_same (truncate n) e = cc
  statement_same (set_all as') e = cc
  statement_same (call_procedure n ts) e = cc
  statement_same begin e = cc
  statement_same commit e = cc
  statement_same rollback e = cc
  statement_same (savepoint n) e = cc
  statement_same (rollback_to n) e = cc
  statement_same (release_savepoint n) e = cc
  statement_same (block ds ss) e = cc
  statement_same (if_steps bs o) e = cc
  statement_same (while_steps c ss) e = cc
  statement_same (return_value t) e = cc

  -- ---- what refuses its nodes, where a LIMIT counts as it is closed

  abbrev codes_before : Node → List ℕ
  codes_before (a_limit c) = limit_codes session_scope (closed_count locals c)
  codes_before node = node_codes catalog (scope_with locals) node

  plain_same : (x : Node) → is_plain x ≡ true → node_codes catalog session_scope x ≡ codes_before x
  plain_same (a_name sight n) e = cc
  plain_same (a_column sight t c) e = refl
  plain_same (a_new_column c) e = refl
  plain_same (an_old_column c) e = refl
  plain_same (an_inserted_value sight c) e = refl
  plain_same (a_user_variable n) e = refl
  plain_same (a_system_variable n) e = refl
  plain_same (a_built_in f) e = refl
  plain_same a_random_number e = refl
  plain_same (a_function_call n count) e = refl
  plain_same (a_table_read t) e = refl
  plain_same (a_limit c) e = cc
  plain_same (a_statement s) e = cc

  const_same : (n : List ℕ) (sight : Sight) (o : Option Local) → is_among (map (λ (l : Local). l.name) locals) n ≡ is_some o
      → Alike (node_codes catalog session_scope) codes_before (nodes_of_tree (const_if n o) sight) (a_name sight n ∷ [])
  const_same n sight None e = record { same = λ i. unless (sym e i || list_any (table_has_column catalog n) sight.tables) 1054 ++ [] }
  const_same n sight (Some l) e = record { same = λ i. unless (sym e i || list_any (table_has_column catalog n) sight.tables) 1054 ++ [] }

  name_same : (n : List ℕ) (sight : Sight) → Alike (node_codes catalog session_scope) codes_before (nodes_of_tree (closed_name locals n) sight) (a_name sight n ∷ [])
  name_same n sight = const_same n sight (find_local locals n) (named locals n)

  -- ---- where no LIMIT is ill

  number_same : (n : List ℕ) (number : Option ℕ) → not (is_some number) ≡ false → is_among (map (λ (l : Local). l.name) locals) n ≡ true
      → limit_codes session_scope (number_if (counts.Name n) number) ≡ unless (is_among (map (λ (l : Local). l.name) locals) n) 1327
  number_same n None ill e = cc
  number_same n (Some k) ill e = λ i. unless (sym e i) 1327

  local_same : (n : List ℕ) (o : Option Local) → not (is_some (option_and_then (λ (l : Local). number_or_none l.value) o)) ≡ false → is_among (map (λ (l : Local). l.name) locals) n ≡ is_some o
      → limit_codes session_scope (closed_by (counts.Name n) o) ≡ unless (is_among (map (λ (l : Local). l.name) locals) n) 1327
  local_same n None ill e = cc
  local_same n (Some l) ill e = number_same n (number_or_none l.value) ill e

  count_same : (c : Count) → is_ill_count locals c ≡ false → limit_codes session_scope (closed_count locals c) ≡ limit_codes (scope_with locals) c
  count_same (counts.Number n) ill = refl
  count_same (counts.Name n) ill = local_same n (find_local locals n) ill (named locals n)

  node_same : (x : Node) → is_ill_limit locals x ≡ false → codes_before x ≡ node_codes catalog (scope_with locals) x
  node_same (a_name sight n) ill = refl
  node_same (a_column sight t c) ill = refl
  node_same (a_new_column c) ill = refl
  node_same (an_old_column c) ill = refl
  node_same (an_inserted_value sight c) ill = refl
  node_same (a_user_variable n) ill = refl
  node_same (a_system_variable n) ill = refl
  node_same (a_built_in f) ill = refl
  node_same a_random_number ill = refl
  node_same (a_function_call n count) ill = refl
  node_same (a_table_read t) ill = refl
  node_same (a_limit c) ill = count_same c ill
  node_same (a_statement s) ill = refl

  neither : (a b : Bool) → (a || b) ≡ false → (a ≡ false) × (b ≡ false)
  neither false b e = (refl, e)
  neither true b e = (e, cc)

  nodes_same : (nodes : List Node) → list_any (is_ill_limit locals) nodes ≡ false → flat_map codes_before nodes ≡ flat_map (node_codes catalog (scope_with locals)) nodes
  nodes_same [] ill = refl
  nodes_same (x ∷ nodes) ill =
      let p = neither (is_ill_limit locals x) (list_any (is_ill_limit locals) nodes) ill in
      λ i. node_same x p.0 i ++ nodes_same nodes p.1 i

  whole_same : (s : Statement) → is_closable s ≡ true → list_any (is_ill_limit locals) (nodes_of s) ≡ false
      → flat_map (node_codes catalog session_scope) (nodes_of (statement_mapped (closed_name locals) (closed_count locals) s)) ≡ flat_map (node_codes catalog (scope_with locals)) (nodes_of s)
  whole_same s e ill =
      (statement_asked (node_codes catalog session_scope) codes_before (closed_name locals) (closed_count locals) plain_same name_same (λ c. refl) s (statement_same s e) (λ f. cc)).same
      ∙ nodes_same (nodes_of s) ill

pub is_allowed : ClosedIsAllowed
unfolding statement_refusal closed
is_allowed catalog locals s e ill = λ i. find (has_code (whole_same catalog locals s e ill i)) check_order
