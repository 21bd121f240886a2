-- One walk over a statement finds the error that comes first.
use Rattle.std.proofs.Common.{◌≡◌, ℕ, Bool, true, false, not, ◌||◌, ◌&&◌, cond, min, List, [], ◌∷◌, ◌++◌, Option, Some, None, refl, sym, ap, ◌∙◌, arith}
use Rattle.std.specs.Prelude.{flat_map, length, nat_eq}
use Rattle.std.specs.List.{list_any, enumerate_from}
use Rattle.std.specs.Option.{option_map_or}
use Rattle.std.proofs.lemmas.Grind.{flat_map-append}
use Rattle.std.proofs.lemmas.Bool.Decides.{nat_tests}
use Rattle.val_types.specs.declared.definitions.TableDef.{TableDef}
use Rattle.sql_tree.specs.Tree.{Tree, Trees, Part, Orders}
use Rattle.sql_tree.specs.Statement.{Supply, rows, rows_of, Declared}
use Rattle.sql_tree.specs.Statement.{Statement, insert_into, replace_into, update_rows, delete_rows, select, evaluate, set_all, call_procedure, block, if_steps, while_steps, return_value}
use Rattle.sql_tree.specs.Statement.{Statements, no_statement, statement, Branches, no_branch, branch, Otherwise, no_else, else_steps}
use Rattle.sql_tree.specs.declared.expressions.Count.{Count}
use Rattle.sql_tree.specs.declared.statements.Target.{Target}
use Rattle.catalog_rules.specs.Names.{same_name, is_among, has_twice}
use Rattle.catalog_rules.specs.Objects.{Object, table, function, procedure, reaction, table_in}
use Rattle.catalog_rules.specs.Bodies.{session_variables}
use Rattle.catalog_rules.specs.Nodes.{Sight, no_sight, in_sight, sight_of_update, Node, a_statement, count_of_trees, count_nodes, nodes_of, nodes_of_tree, nodes_of_trees, nodes_of_part, nodes_of_query, nodes_of_orders, nodes_of_sets, nodes_of_rows, nodes_of_supply, nodes_of_assignments, nodes_of_declared, nodes_of_steps, nodes_of_branches, nodes_of_otherwise}
use Rattle.catalog_rules.specs.Checks.{Scope, unless, check_order, node_codes, statement_codes, insert_codes, columns_codes, set_codes, change_codes, assigned_codes, table_has_column, given_columns, has_column, has_width, reads_its_target, is_left_out, tables_read, statement_refusal, expression_refusal}
use Rattle.catalog_rules.specs.Ranks.{rank_of, rank_unless, code_of, Asked, changing, has_table, tree_rank, rows_rank, supply_rank, sets_rank, given_rank, insert_rank, target_rank, assignments_rank, declared_rank, changed_rank, statement_rank, steps_rank, branches_rank, otherwise_rank}
use Rattle.catalog_rules.proofs.Ranking.{rank_append, rank_most, rank_1146, rank_1054, rank_1110, rank_1136, rank_1093, rank_1193, rank_1364, first_met, ranks, codes_rank, ranks_append, two, split, tree_law, trees_law, part_law, query_law, orders_law, count_if_law, procedure_law}

-- ---- the table that was found has the name

eq_step : (a b : Bool) (m n : ℕ) → (a ≡ true → m ≡ n) → (a && b) ≡ true → (m ≡ n) × (b ≡ true)
eq_step true b m n e h = (e refl, h)
eq_step false b m n e h = cc

nat_same : (m n : ℕ) → nat_eq m n ≡ true → m ≡ n
nat_same m n e = grind (arith, nat_tests)

names_same : (a b : List ℕ) → same_name a b ≡ true → a ≡ b
names_same [] [] e = refl
names_same [] (y ∷ ys) e = cc
names_same (x ∷ xs) [] e = cc
names_same (x ∷ xs) (y ∷ ys) e =
    let parts = eq_step (nat_eq x y) (same_name xs ys) x y (nat_same x y) e in
    (λ i. parts.0 i ∷ names_same xs ys parts.1 i)

found_step : (b : Bool) (t : List ℕ) (d e : TableDef) (o : Option TableDef) → same_name t d.name ≡ b → (o ≡ Some e → t ≡ e.name)
    → elim (cond b (Some d) None) as (λ _. Option TableDef) [ None ↦ o | Some f ↦ Some f ] ≡ Some e → t ≡ e.name
found_step true t d e o same later is = let inner : d ≡ e = cc in names_same t d.name same ∙ ap (λ (f : TableDef). f.name) inner
found_step false t d e o same later is = later is

pub found_name : (catalog : List Object) (t : List ℕ) (d : TableDef) → table_in catalog t ≡ Some d → t ≡ d.name
found_name [] t d e = cc
found_name (table f ∷ os) t d e = found_step (same_name t f.name) t f d (table_in os t) refl (found_name os t d) e
found_name (function p ∷ os) t d e = found_name os t d e
found_name (procedure p ∷ os) t d e = found_name os t d e
found_name (reaction r ∷ os) t d e = found_name os t d e

-- ---- parts of statements

-- asked where any table may be read
abbrev pub asking : List Object → Scope → Asked
asking catalog scope = record { catalog = catalog; scope = scope; target = None }

-- there the ranks of nodes are those of their errors
reads_none : (reads : List (List ℕ)) → list_any (λ (t : List ℕ). false) reads ≡ false
reads_none [] = refl
reads_none (t ∷ ts) = reads_none ts

codes_most : (asked : Asked) (nodes : List Node) → min (codes_rank asked nodes) 10 ≡ codes_rank asked nodes
codes_most asked nodes = rank_most (flat_map (node_codes asked.catalog asked.scope) nodes)

pub plain : (catalog : List Object) (scope : Scope) (nodes : List Node) → ranks (asking catalog scope) nodes ≡ codes_rank (asking catalog scope) nodes
plain catalog scope nodes =
    split (asking catalog scope) nodes
    ∙ ap (λ (b : Bool). min (codes_rank (asking catalog scope) nodes) (rank_unless (not b) 8)) (reads_none (tables_read nodes))
    ∙ codes_most (asking catalog scope) nodes

rows_law : (asked : Asked) (rs : List Trees) → rows_rank asked rs ≡ ranks asked (nodes_of_rows rs no_sight)
rows_law asked [] = refl
rows_law asked (ts ∷ rs) = two asked (nodes_of_trees ts no_sight) (nodes_of_rows rs no_sight) _ _ (trees_law asked ts no_sight) (rows_law asked rs)

sets_law : (asked : Asked) (t : List ℕ) (ss : List (List ℕ × Tree)) (sight : Sight)
    → sets_rank asked t ss sight ≡ min (rank_of (set_codes asked.catalog t ss)) (ranks asked (nodes_of_sets ss sight))
sets_law asked t [] sight = refl
sets_law asked t (s ∷ ss) sight =
    let codes : rank_of (set_codes asked.catalog t (s ∷ ss)) ≡ min (rank_of (unless (table_has_column asked.catalog s.0 t) 1054)) (rank_of (set_codes asked.catalog t ss)) =
    rank_append (unless (table_has_column asked.catalog s.0 t) 1054) (set_codes asked.catalog t ss) in
    let code : rank_of (unless (table_has_column asked.catalog s.0 t) 1054) ≡ rank_unless (table_has_column asked.catalog s.0 t) 1 = rank_1054 (table_has_column asked.catalog s.0 t) in
    let nodes : ranks asked (nodes_of_sets (s ∷ ss) sight) ≡ min (ranks asked (nodes_of_tree s.1 sight)) (ranks asked (nodes_of_sets ss sight)) =
    ranks_append asked (nodes_of_tree s.1 sight) (nodes_of_sets ss sight) in
    let value : tree_rank asked s.1 sight ≡ ranks asked (nodes_of_tree s.1 sight) = tree_law asked s.1 sight in
    let rest : sets_rank asked t ss sight ≡ min (rank_of (set_codes asked.catalog t ss)) (ranks asked (nodes_of_sets ss sight)) = sets_law asked t ss sight in
    omega arith

target_step : (o : Option TableDef) (c : List ℕ) → option_map_or (λ d. rank_unless (has_column c d) 1) o 4 ≡ rank_of (option_map_or (λ d. unless (has_column c d) 1054) o (1193 ∷ []))
target_step None c = refl
target_step (Some d) c = sym (rank_1054 (has_column c d))

target_law : (asked : Asked) (target : Target) (e : Tree) → target_rank asked target ≡ rank_of (assigned_codes asked.scope (target, e))
target_law asked (Target.User n) e = refl
target_law asked (Target.Plain n) e = sym (rank_1193 (is_among asked.scope.locals n || is_among session_variables n))
target_law asked (Target.System n) e = sym (rank_1193 (is_among session_variables n))
target_law asked (Target.New c) e = target_step asked.scope.new_row c

assignments_law : (asked : Asked) (as' : List (Target × Tree))
    → assignments_rank asked as' ≡ min (rank_of (flat_map (assigned_codes asked.scope) as')) (ranks asked (nodes_of_assignments as' no_sight))
assignments_law asked [] = refl
assignments_law asked (a ∷ as') =
    let codes : rank_of (flat_map (assigned_codes asked.scope) (a ∷ as')) ≡ min (rank_of (assigned_codes asked.scope a)) (rank_of (flat_map (assigned_codes asked.scope) as')) =
    rank_append (assigned_codes asked.scope a) (flat_map (assigned_codes asked.scope) as') in
    let code : target_rank asked a.0 ≡ rank_of (assigned_codes asked.scope a) = target_law asked a.0 a.1 in
    let nodes : ranks asked (nodes_of_assignments (a ∷ as') no_sight) ≡ min (ranks asked (nodes_of_tree a.1 no_sight)) (ranks asked (nodes_of_assignments as' no_sight)) =
    ranks_append asked (nodes_of_tree a.1 no_sight) (nodes_of_assignments as' no_sight) in
    let value : tree_rank asked a.1 no_sight ≡ ranks asked (nodes_of_tree a.1 no_sight) = tree_law asked a.1 no_sight in
    let rest : assignments_rank asked as' ≡ min (rank_of (flat_map (assigned_codes asked.scope) as')) (ranks asked (nodes_of_assignments as' no_sight)) = assignments_law asked as' in
    omega arith

declared_law : (asked : Asked) (ds : List Declared) → declared_rank asked ds ≡ ranks asked (nodes_of_declared ds no_sight)
declared_law asked [] = refl
declared_law asked (d ∷ ds) = two asked (nodes_of_part d.preset no_sight) (nodes_of_declared ds no_sight) _ _ (part_law asked d.preset no_sight) (declared_law asked ds)

-- ---- INSERT and REPLACE

-- what is given without 1093, and with it
given_law : (asked : Asked) (names : Option (List (List ℕ))) (from : Supply) (d : TableDef)
    → rank_of (columns_codes asked.catalog names from d) ≡ min (given_rank asked names from d) (rank_unless (not (reads_its_target d.name from)) 8)
given_law asked names from d =
    let given = given_columns d names in
    let unknown : rank_of (unless (not (list_any (λ c. not (has_column c d)) given)) 1054) ≡ rank_unless (not (list_any (λ c. not (has_column c d)) given)) 1 = rank_1054 (not (list_any (λ c. not (has_column c d)) given)) in
    let twice : rank_of (unless (not (has_twice given)) 1110) ≡ rank_unless (not (has_twice given)) 6 = rank_1110 (not (has_twice given)) in
    let width : rank_of (unless (has_width asked.catalog (length given) from) 1136) ≡ rank_unless (has_width asked.catalog (length given) from) 7 = rank_1136 (has_width asked.catalog (length given) from) in
    let target : rank_of (unless (not (reads_its_target d.name from)) 1093) ≡ rank_unless (not (reads_its_target d.name from)) 8 = rank_1093 (not (reads_its_target d.name from)) in
    let left : rank_of (unless (not (list_any (is_left_out d given) (enumerate_from 0 d.columns))) 1364) ≡ rank_unless (not (list_any (is_left_out d given) (enumerate_from 0 d.columns))) 9 = rank_1364 (not (list_any (is_left_out d given) (enumerate_from 0 d.columns))) in
    let one = rank_append (unless (not (list_any (λ c. not (has_column c d)) given)) 1054) (unless (not (has_twice given)) 1110) in
    let two' = rank_append (unless (not (list_any (λ c. not (has_column c d)) given)) 1054 ++ unless (not (has_twice given)) 1110) (unless (has_width asked.catalog (length given) from) 1136) in
    let three = rank_append (unless (not (list_any (λ c. not (has_column c d)) given)) 1054 ++ unless (not (has_twice given)) 1110 ++ unless (has_width asked.catalog (length given) from) 1136) (unless (not (reads_its_target d.name from)) 1093) in
    let four = rank_append (unless (not (list_any (λ c. not (has_column c d)) given)) 1054 ++ unless (not (has_twice given)) 1110 ++ unless (has_width asked.catalog (length given) from) 1136 ++ unless (not (reads_its_target d.name from)) 1093) (unless (not (list_any (is_left_out d given) (enumerate_from 0 d.columns))) 1364) in
    omega (arith, one, two', three, four, unknown, twice, width, target, left)

-- with a row of VALUES or a SELECT
supply_law : (catalog : List Object) (scope : Scope) (t : List ℕ) (from : Supply)
    → supply_rank (asking catalog scope) t from ≡ min (codes_rank (asking catalog scope) (nodes_of_supply from no_sight)) (rank_unless (not (reads_its_target t from)) 8)
supply_law catalog scope t (rows rs) = rows_law (changing t (asking catalog scope)) rs ∙ split (changing t (asking catalog scope)) (nodes_of_rows rs no_sight)
supply_law catalog scope t (rows_of q) =
    query_law (asking catalog scope) q no_sight ∙ plain catalog scope (nodes_of_query q no_sight) ∙ sym (codes_most (asking catalog scope) (nodes_of_query q no_sight))

insert_step : (asked : Asked) (t : List ℕ) (names : Option (List (List ℕ))) (from : Supply) (o : Option TableDef) (k : ℕ) → table_in asked.catalog t ≡ o
    → min (option_map_or (given_rank asked names from) o 0) (min k (rank_unless (not (reads_its_target t from)) 8))
    ≡ min (rank_of (option_map_or (columns_codes asked.catalog names from) o (1146 ∷ []))) k
insert_step asked t names from None k e = omega arith
insert_step asked t names from (Some d) k e =
    let law : rank_of (columns_codes asked.catalog names from d) ≡ min (given_rank asked names from d) (rank_unless (not (reads_its_target d.name from)) 8) = given_law asked names from d in
    let same : rank_unless (not (reads_its_target t from)) 8 ≡ rank_unless (not (reads_its_target d.name from)) 8 =
    ap (λ (n : List ℕ). rank_unless (not (reads_its_target n from)) 8) (found_name asked.catalog t d e) in
    omega arith

-- what refuses the rows of an INSERT or REPLACE
insert_law : (catalog : List Object) (scope : Scope) (t : List ℕ) (names : Option (List (List ℕ))) (from : Supply)
    → min (insert_rank (asking catalog scope) t names from) (supply_rank (asking catalog scope) t from)
    ≡ min (rank_of (insert_codes catalog t names from)) (codes_rank (asking catalog scope) (nodes_of_supply from no_sight))
insert_law catalog scope t names from =
    ap (λ (k : ℕ). min (insert_rank (asking catalog scope) t names from) k) (supply_law catalog scope t from)
    ∙ insert_step (asking catalog scope) t names from (table_in catalog t) (codes_rank (asking catalog scope) (nodes_of_supply from no_sight)) refl

-- ---- UPDATE and DELETE

changed_law : (catalog : List Object) (scope : Scope) (t : List ℕ) (w : Part) (os : Orders) (l : Option Count)
    → changed_rank (asking catalog scope) t w os l ≡ min (rank_unless (has_table catalog t) 0)
    (min (min (ranks (changing t (asking catalog scope)) (nodes_of_part w (in_sight t no_sight))) (ranks (changing t (asking catalog scope)) (nodes_of_orders os (in_sight t no_sight))))
    (ranks (changing t (asking catalog scope)) (count_nodes l)))
changed_law catalog scope t w os l =
    let part' = part_law (changing t (asking catalog scope)) w (in_sight t no_sight) in
    let orders = orders_law (changing t (asking catalog scope)) os (in_sight t no_sight) in
    let count = count_if_law (changing t (asking catalog scope)) l in
    λ i. min (rank_unless (has_table catalog t) 0) (min (min (part' i) (orders i)) (count i))

change_codes_law : (catalog : List Object) (t : List ℕ) (s : Statement)
    → rank_of (change_codes catalog t s) ≡ min (rank_unless (has_table catalog t) 0) (rank_unless (not (is_among (tables_read (nodes_of s)) t)) 8)
change_codes_law catalog t s =
    rank_append (unless (has_table catalog t) 1146) (unless (not (is_among (tables_read (nodes_of s)) t)) 1093)
    ∙ (λ i. min (rank_1146 (has_table catalog t) i) (rank_1093 (not (is_among (tables_read (nodes_of s)) t)) i))

-- ---- all statements

-- a statement's own errors and those of its parts
own : (asked : Asked) (s : Statement) (nodes : List Node) → codes_rank asked (a_statement s ∷ nodes) ≡ min (rank_of (statement_codes asked.catalog asked.scope s)) (codes_rank asked nodes)
own asked s nodes = rank_append (statement_codes asked.catalog asked.scope s) (flat_map (node_codes asked.catalog asked.scope) nodes)

codes_append : (asked : Asked) (ns ms : List Node) → codes_rank asked (ns ++ ms) ≡ min (codes_rank asked ns) (codes_rank asked ms)
codes_append asked ns ms =
    ap rank_of (flat_map-append (node_codes asked.catalog asked.scope) ns ms)
    ∙ rank_append (flat_map (node_codes asked.catalog asked.scope) ns) (flat_map (node_codes asked.catalog asked.scope) ms)

gather : (s p o k : ℕ) → min (min (min s p) o) k ≡ min s (min (min p o) k)
gather s p o k = omega arith

shuffle : (c s t x : ℕ) → min (min c s) (min t x) ≡ min (min c t) (min s x)
shuffle c s t x = omega arith

settle : (c t d r : ℕ) → min (min c t) (min d r) ≡ min (min c (min t r)) d
settle c t d r = omega arith

module _ (catalog : List Object) (scope : Scope) where
  -- of parts with ranks of nodes
  both : (ns ms : List Node) (a b : ℕ) → a ≡ codes_rank (asking catalog scope) ns → b ≡ codes_rank (asking catalog scope) ms → min a b ≡ codes_rank (asking catalog scope) (ns ++ ms)
  both ns ms a b e f = (λ i. min (e i) (f i)) ∙ sym (codes_append (asking catalog scope) ns ms)

  insert_statement : (ignore : Bool) (t : List ℕ) (cs : Option (List (List ℕ))) (from : Supply) (us : List (List ℕ × Tree))
      → statement_rank (asking catalog scope) (insert_into ignore t cs from us) ≡ codes_rank (asking catalog scope) (nodes_of (insert_into ignore t cs from us))
  insert_statement ignore t cs from us =
      let asked : Asked = asking catalog scope in
      let whole = own asked (insert_into ignore t cs from us) (nodes_of_supply from no_sight ++ nodes_of_sets us (sight_of_update t)) in
      let codes = rank_append (insert_codes catalog t cs from) (set_codes catalog t us) in
      let nodes = codes_append asked (nodes_of_supply from no_sight) (nodes_of_sets us (sight_of_update t)) in
      let put = insert_law catalog scope t cs from in
      let sets = sets_law asked t us (sight_of_update t) in
      let same = plain catalog scope (nodes_of_sets us (sight_of_update t)) in
      omega (arith, whole, codes, nodes, put, sets, same)

  replace_statement : (t : List ℕ) (cs : Option (List (List ℕ))) (from : Supply)
      → statement_rank (asking catalog scope) (replace_into t cs from) ≡ codes_rank (asking catalog scope) (nodes_of (replace_into t cs from))
  replace_statement t cs from = insert_law catalog scope t cs from ∙ sym (own (asking catalog scope) (replace_into t cs from) (nodes_of_supply from no_sight))

  update_statement : (t : List ℕ) (ss : List (List ℕ × Tree)) (w : Part) (os : Orders) (l : Option Count)
      → statement_rank (asking catalog scope) (update_rows t ss w os l) ≡ codes_rank (asking catalog scope) (nodes_of (update_rows t ss w os l))
  update_statement t ss w os l =
      let asked : Asked = asking catalog scope in
      let c : Asked = changing t asked in
      let s : Statement = update_rows t ss w os l in
      let sight : Sight = in_sight t no_sight in
      let nodes : List Node = nodes_of_sets ss sight ++ nodes_of_part w sight ++ nodes_of_orders os sight ++ count_nodes l in
      let set : ℕ = rank_of (set_codes catalog t ss) in
      let there : ℕ = rank_unless (has_table catalog t) 0 in
      let read : ℕ = rank_unless (not (is_among (tables_read nodes) t)) 8 in
      let of_sets : ℕ = ranks c (nodes_of_sets ss sight) in
      let of_part : ℕ = ranks c (nodes_of_part w sight) in
      let of_orders : ℕ = ranks c (nodes_of_orders os sight) in
      let of_count : ℕ = ranks c (count_nodes l) in
      let joined : ranks c nodes ≡ min (min (min of_sets of_part) of_orders) of_count =
      ranks_append c (nodes_of_sets ss sight ++ nodes_of_part w sight ++ nodes_of_orders os sight) (count_nodes l)
      ∙ ap (λ (k : ℕ). min k of_count) (ranks_append c (nodes_of_sets ss sight ++ nodes_of_part w sight) (nodes_of_orders os sight)
      ∙ ap (λ (k : ℕ). min k of_orders) (ranks_append c (nodes_of_sets ss sight) (nodes_of_part w sight))) in
      let all : min of_sets (min (min of_part of_orders) of_count) ≡ min (codes_rank asked nodes) read =
      sym (gather of_sets of_part of_orders of_count) ∙ sym joined ∙ split c nodes in
      let own_codes : rank_of (statement_codes catalog scope s) ≡ min set (min there read) =
      rank_append (set_codes catalog t ss) (change_codes catalog t s) ∙ ap (λ (k : ℕ). min set k) (change_codes_law catalog t s) in
      (λ i. min (sets_law c t ss sight i) (changed_law catalog scope t w os l i))
      ∙ shuffle set of_sets there (min (min of_part of_orders) of_count)
      ∙ ap (λ (k : ℕ). min (min set there) k) all
      ∙ settle set there (codes_rank asked nodes) read
      ∙ ap (λ (k : ℕ). min k (codes_rank asked nodes)) (sym own_codes)
      ∙ sym (own asked s nodes)

  delete_statement : (t : List ℕ) (w : Part) (os : Orders) (l : Option Count)
      → statement_rank (asking catalog scope) (delete_rows t w os l) ≡ codes_rank (asking catalog scope) (nodes_of (delete_rows t w os l))
  delete_statement t w os l =
      let asked : Asked = asking catalog scope in
      let s : Statement = delete_rows t w os l in
      let changed = changed_law catalog scope t w os l in
      let nodes : List Node = nodes_of_part w (in_sight t no_sight) ++ nodes_of_orders os (in_sight t no_sight) ++ count_nodes l in
      let parted = split (changing t asked) nodes in
      let one = ranks_append (changing t asked) (nodes_of_part w (in_sight t no_sight)) (nodes_of_orders os (in_sight t no_sight)) in
      let two' = ranks_append (changing t asked) (nodes_of_part w (in_sight t no_sight) ++ nodes_of_orders os (in_sight t no_sight)) (count_nodes l) in
      let whole = own asked s nodes in
      let change = change_codes_law catalog t s in
      omega (arith, changed, parted, one, two', whole, change)

  set_statement : (as' : List (Target × Tree)) → statement_rank (asking catalog scope) (set_all as') ≡ codes_rank (asking catalog scope) (nodes_of (set_all as'))
  set_statement as' =
      let asked : Asked = asking catalog scope in
      let all = assignments_law asked as' in
      let whole = own asked (set_all as') (nodes_of_assignments as' no_sight) in
      let same = plain catalog scope (nodes_of_assignments as' no_sight) in
      omega (arith, all, whole, same)

  call_statement : (n : List ℕ) (ts : Trees) → statement_rank (asking catalog scope) (call_procedure n ts) ≡ codes_rank (asking catalog scope) (nodes_of (call_procedure n ts))
  call_statement n ts =
      let asked : Asked = asking catalog scope in
      let called = procedure_law asked n (count_of_trees ts) in
      let arguments = trees_law asked ts no_sight in
      let whole = own asked (call_procedure n ts) (nodes_of_trees ts no_sight) in
      let same = plain catalog scope (nodes_of_trees ts no_sight) in
      omega (arith, called, arguments, whole, same)

  mutual
    pub statement_law : (s : Statement) → statement_rank (asking catalog scope) s ≡ codes_rank (asking catalog scope) (nodes_of s)
    statement_law (insert_into ignore t cs from us) = insert_statement ignore t cs from us
    statement_law (replace_into t cs from) = replace_statement t cs from
    statement_law (update_rows t ss w os l) = update_statement t ss w os l
    statement_law (delete_rows t w os l) = delete_statement t w os l
    statement_law (select q) = query_law (asking catalog scope) q no_sight ∙ plain catalog scope (nodes_of_query q no_sight)
    statement_law (evaluate ts) = trees_law (asking catalog scope) ts no_sight ∙ plain catalog scope (nodes_of_trees ts no_sight)
    statement_law (set_all as') = set_statement as'
    statement_law (call_procedure n ts) = call_statement n ts
    statement_law (block ds ss) =
        both (nodes_of_declared ds no_sight) (nodes_of_steps ss) _ _ (declared_law (asking catalog scope) ds ∙ plain catalog scope (nodes_of_declared ds no_sight)) (steps_law ss)
    statement_law (if_steps bs o) = both (nodes_of_branches bs) (nodes_of_otherwise o) _ _ (branches_law bs) (otherwise_law o)
    statement_law (while_steps c ss) =
        both (nodes_of_tree c no_sight) (nodes_of_steps ss) _ _ (tree_law (asking catalog scope) c no_sight ∙ plain catalog scope (nodes_of_tree c no_sight)) (steps_law ss)
    statement_law (return_value e) = tree_law (asking catalog scope) e no_sight ∙ plain catalog scope (nodes_of_tree e no_sight)
    statement_law s = refl

    steps_law : (ss : Statements) → steps_rank (asking catalog scope) ss ≡ codes_rank (asking catalog scope) (nodes_of_steps ss)
    steps_law no_statement = refl
    steps_law (statement s ss) = both (nodes_of s) (nodes_of_steps ss) _ _ (statement_law s) (steps_law ss)

    branches_law : (bs : Branches) → branches_rank (asking catalog scope) bs ≡ codes_rank (asking catalog scope) (nodes_of_branches bs)
    branches_law no_branch = refl
    branches_law (branch c ss bs) =
        both (nodes_of_tree c no_sight ++ nodes_of_steps ss) (nodes_of_branches bs) _ _
        (both (nodes_of_tree c no_sight) (nodes_of_steps ss) _ _ (tree_law (asking catalog scope) c no_sight ∙ plain catalog scope (nodes_of_tree c no_sight)) (steps_law ss))
        (branches_law bs)

    otherwise_law : (o : Otherwise) → otherwise_rank (asking catalog scope) o ≡ codes_rank (asking catalog scope) (nodes_of_otherwise o)
    otherwise_law no_else = refl
    otherwise_law (else_steps ss) = steps_law ss

  -- what refuses a statement is the error of its rank
  pub refusal_law : (s : Statement) → statement_refusal catalog scope s ≡ code_of (statement_rank (asking catalog scope) s)
  unfolding statement_refusal
  refusal_law s = first_met (flat_map (node_codes catalog scope) (nodes_of s)) check_order ∙ ap code_of (sym (statement_law s))

  -- and so of an expression
  pub expression_law : (e : Tree) → expression_refusal catalog scope e ≡ code_of (tree_rank (asking catalog scope) e no_sight)
  unfolding expression_refusal
  expression_law e =
      first_met (flat_map (node_codes catalog scope) (nodes_of_tree e no_sight)) check_order
      ∙ ap code_of (sym (tree_law (asking catalog scope) e no_sight ∙ plain catalog scope (nodes_of_tree e no_sight)))
