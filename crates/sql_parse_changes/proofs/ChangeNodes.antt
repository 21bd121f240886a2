-- What is kept of INSERT, REPLACE, UPDATE and DELETE.
use Rattle.std.proofs.Common.{◌≡◌, ℕ, Bool, List, map, Option, Some, refl, rules}
use Rattle.sql_tree.specs.Depth.{depth_of, depth_of_tree, depth_of_trees, depth_of_part, depth_of_orders, depth_of_query, depth_of_sets, depth_of_supply, deepest, depth_of_value}
use Rattle.sql_tree.specs.Statement.{insert_into, replace_into, update_rows, delete_rows, Supply, rows, rows_of, select}
use Rattle.sql_tree.specs.StatementView.{view, view_set, view_sets, view_supply}
use Rattle.sql_tree.specs.Tree.{Tree, Trees, Part, part, Query, Orders}
use Rattle.sql_tree.specs.View.{view_tree, view_trees, view_part, view_query, view_orders}
use Rattle.sql_tree.specs.declared.expressions.Count.{Count}
use Rattle.sql_tree.specs.declared.expressions.Expr.{Expr}
use Rattle.sql_tree.specs.declared.expressions.OrderItem.{OrderItem}
use Rattle.sql_tree.specs.declared.expressions.Select.{Select}
use Rattle.sql_tree.specs.declared.statements.ColumnSet.{ColumnSet}
use Rattle.sql_tree.specs.declared.statements.Source.{Source}
use Rattle.sql_tree.specs.declared.statements.Stmt
use Rattle.sql_tree.specs.declared.statements.Stmt.{the_lemmas}
use Rattle.sql_parse_nodes.specs.declared.kept.Levelled.{Levelled}
use Rattle.sql_parse_nodes.specs.Kept.{IsKept, above, beside, in_place, view_beside, depth_beside}
use Rattle.sql_parse_nodes.proofs.KeptLaws.{kept_in_place, kept_above, kept_beside}

-- ---- parts
pub set_kept : (c : List ℕ) (t : Tree) (k : Option (Levelled Expr)) → IsKept view_tree depth_of_tree t k → IsKept view_set depth_of_value (c, t) (in_place (λ v. record { column = c; value = v }) k)
set_kept c t k h = kept_in_place view_tree depth_of_tree view_set depth_of_value (λ t. (c, t)) (λ v. record { column = c; value = v }) (λ x. refl) t refl k h

pub query_kept : (q : Query) (k : Option (Levelled Select)) → IsKept view_query depth_of_query q k → IsKept view_supply depth_of_supply (rows_of q) (in_place (λ q. Source.Select q) k)
query_kept q k h = kept_in_place view_query depth_of_query view_supply depth_of_supply rows_of (λ q. Source.Select q) (λ x. refl) q refl k h

pub rows_kept : (rs : List Trees) (k : Option (Levelled (List (List Expr)))) → IsKept (map view_trees) (deepest depth_of_trees) rs k
    → IsKept view_supply depth_of_supply (rows rs) (in_place (λ rs. Source.Rows rs) k)
rows_kept rs k h = kept_in_place (map view_trees) (deepest depth_of_trees) view_supply depth_of_supply rows (λ rs. Source.Rows rs) (λ x. refl) rs refl k h

-- ---- statements
pub insert_kept : (i : Bool) (t : List ℕ) (cs : Option (List (List ℕ))) (s : Supply) (us : List (List ℕ × Tree)) (k : Option (Levelled Source)) (l : Option (Levelled (List ColumnSet)))
    → IsKept view_supply depth_of_supply s k → IsKept view_sets depth_of_sets us l
    → IsKept view depth_of (insert_into i t cs s us) (in_place (λ p. Stmt.Insert (record { ignore = i; table = t; columns = cs; source = p.0; update = p.1 })) (above (beside k l)))
insert_kept i t cs s us k l h g =
    kept_above (view_beside view_supply view_sets) (depth_beside depth_of_supply depth_of_sets) view depth_of (λ p. insert_into i t cs p.0 p.1)
    (λ p. Stmt.Insert (record { ignore = i; table = t; columns = cs; source = p.0; update = p.1 })) (λ p. search (rules, the_lemmas)) (s, us) refl (beside k l)
    (kept_beside view_supply depth_of_supply view_sets depth_of_sets s us k l h g)

pub replace_kept : (t : List ℕ) (cs : Option (List (List ℕ))) (s : Supply) (k : Option (Levelled Source)) → IsKept view_supply depth_of_supply s k
    → IsKept view depth_of (replace_into t cs s) (in_place (λ s. Stmt.Replace (record { table = t; columns = cs; source = s })) (above k))
replace_kept t cs s k h =
    kept_above view_supply depth_of_supply view depth_of (λ s. replace_into t cs s) (λ s. Stmt.Replace (record { table = t; columns = cs; source = s })) (λ p. search (rules, the_lemmas)) s refl k h

pub update_kept : (t : List ℕ) (l : Option Count) (ss : List (List ℕ × Tree)) (w : Part) (os : Orders) (k : Option (Levelled (List ColumnSet))) (m : Option (Levelled (Option Expr))) (n : Option (Levelled (List OrderItem)))
    → IsKept view_sets depth_of_sets ss k → IsKept view_part depth_of_part w m → IsKept view_orders depth_of_orders os n
    → IsKept view depth_of (update_rows t ss w os l) (in_place (λ p. Stmt.Update (record { table = t; sets = p.0; filter = p.1.0; order = p.1.1; limit = l })) (above (beside k (beside m n))))
update_kept t l ss w os k m n h g i =
    kept_above (view_beside view_sets (view_beside view_part view_orders)) (depth_beside depth_of_sets (depth_beside depth_of_part depth_of_orders)) view depth_of (λ p. update_rows t p.0 p.1.0 p.1.1 l)
    (λ p. Stmt.Update (record { table = t; sets = p.0; filter = p.1.0; order = p.1.1; limit = l })) (λ p. search (rules, the_lemmas)) (ss, (w, os)) refl (beside k (beside m n))
    (kept_beside view_sets depth_of_sets (view_beside view_part view_orders) (depth_beside depth_of_part depth_of_orders) ss (w, os) k (beside m n) h
    (kept_beside view_part depth_of_part view_orders depth_of_orders w os m n g i))

pub delete_kept : (t : List ℕ) (l : Option Count) (w : Part) (os : Orders) (m : Option (Levelled (Option Expr))) (n : Option (Levelled (List OrderItem)))
    → IsKept view_part depth_of_part w m → IsKept view_orders depth_of_orders os n
    → IsKept view depth_of (delete_rows t w os l) (in_place (λ p. Stmt.Delete (record { table = t; filter = p.0; order = p.1; limit = l })) (above (beside m n)))
delete_kept t l w os m n g i =
    kept_above (view_beside view_part view_orders) (depth_beside depth_of_part depth_of_orders) view depth_of (λ p. delete_rows t p.0 p.1 l)
    (λ p. Stmt.Delete (record { table = t; filter = p.0; order = p.1; limit = l })) (λ p. search (rules, the_lemmas)) (w, os) refl (beside m n)
    (kept_beside view_part depth_of_part view_orders depth_of_orders w os m n g i)

-- ---- a SELECT as a statement
pub select_kept : (q : Query) (k : Option (Levelled Select)) → IsKept view_query depth_of_query q k → IsKept view depth_of (select q) (in_place (λ q. Stmt.Select q) k)
select_kept q k h = kept_in_place view_query depth_of_query view depth_of select (λ q. Stmt.Select q) (λ x. search (rules, the_lemmas)) q refl k h
