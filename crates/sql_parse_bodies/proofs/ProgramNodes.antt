-- What is kept of the parts of programs.
use Rattle.std.proofs.Common.{◌≡◌, ◌∙◌, ℕ, suc, max, List, [], ◌∷◌, ◌++◌, map, Option, Some, None, refl, ap, subst, rules}
use Rattle.sql_tree.specs.Depth.{depth_of, depth_of_branches, depth_of_declarations, depth_of_otherwise, depth_of_part, depth_of_statements, depth_of_tree, deepest, depth_of_declared}
use Rattle.sql_tree.specs.Statement.{Statement, Statements, Otherwise, Declared, create_table, block, if_steps, while_steps, return_value, else_steps}
use Rattle.sql_tree.specs.StatementView.{view, view_branch, view_branches, view_declaration, view_declarations, view_otherwise, view_statements}
use Rattle.sql_tree.specs.StatementView as views
use Rattle.sql_tree.specs.Tree.{Tree, Part, part}
use Rattle.sql_tree.specs.View.{view_part, view_tree}
use Rattle.sql_tree.specs.declared.expressions.Expr.{Expr}
use Rattle.sql_tree.specs.declared.statements.Branch.{Branch}
use Rattle.sql_tree.specs.declared.statements.Branch.{the_lemmas as branch_lemmas}
use Rattle.sql_tree.specs.declared.statements.CreateTable.{CreateTable}
use Rattle.sql_tree.specs.declared.statements.Declaration.{Declaration}
use Rattle.sql_tree.specs.declared.statements.SqlType.{SqlType}
use Rattle.sql_tree.specs.declared.statements.Stmt
use Rattle.sql_tree.specs.declared.statements.Stmt.{the_lemmas}
use Rattle.sql_syntax.specs.declared.heads.Head.{Head}
use Rattle.sql_parse_nodes.specs.declared.kept.Levelled.{Levelled}
use Rattle.sql_parse_nodes.specs.Kept.{IsKept, above, beside, in_place, view_beside, depth_beside}
use Rattle.sql_parse_bodies.specs.KeptParts.{depth_of_branch}
use Rattle.sql_syntax.specs.Programs.{with_body, with_heads, declared_as, statements_of, branches_of}
use Rattle.sql_parse_nodes.proofs.KeptLaws.{kept_in_place, kept_above, kept_beside}

-- the last head stands round the body
pub heads_last : (hs : List Head) (h : Head) (s : Statement) → with_heads (hs ++ h ∷ []) s ≡ with_heads hs (with_body h s)
heads_last [] h s = refl
heads_last (g ∷ hs) h s = ap (with_body g) (heads_last hs h s)

-- ---- lists
same_statements : (ss : List Statement) → views.statements_of ss ≡ statements_of ss
same_statements [] = refl
same_statements (s ∷ ss) = rw (same_statements ss) refl

pub statements_seen : (ss : List Stmt.Stmt) → view_statements ss ≡ statements_of (map view ss)
statements_seen ss = same_statements (map view ss)

pub statements_deep : (ss : List Statement) → depth_of_statements (statements_of ss) ≡ deepest depth_of ss
statements_deep [] = refl
statements_deep (s ∷ ss) = ap (λ n. max (depth_of s) n) (statements_deep ss)

-- ---- parts
pub declaration_kept : (ns : List (List ℕ)) (kind : SqlType) (p : Part) (k : Option (Levelled (Option Expr))) → IsKept view_part depth_of_part p k
    → IsKept view_declaration depth_of_declared (declared_as ns (kind, p)) (in_place (λ p. record { names = ns; kind = kind; preset = p }) k)
declaration_kept ns kind p k h =
    kept_in_place view_part depth_of_part view_declaration depth_of_declared (λ p. declared_as ns (kind, p)) (λ p. record { names = ns; kind = kind; preset = p }) (λ x. refl) p refl k h

pub steps_kept : (ss : List Statement) (k : Option (Levelled (List Stmt.Stmt))) → IsKept (map view) (deepest depth_of) ss k → IsKept view_statements depth_of_statements (statements_of ss) k
steps_kept ss k h = subst (λ (m : Option (Levelled (List Stmt.Stmt))). IsKept view_statements depth_of_statements (statements_of ss) m) (itself k)
    (kept_in_place (map view) (deepest depth_of) view_statements depth_of_statements statements_of (λ x. x) statements_seen ss (statements_deep ss) k h)
  where
    itself : (k : Option (Levelled (List Stmt.Stmt))) → in_place (λ x. x) k ≡ k
    itself None = refl
    itself (Some l) = refl

pub branch_kept : (t : Tree) (ss : Statements) (k : Option (Levelled Expr)) (l : Option (Levelled (List Stmt.Stmt))) → IsKept view_tree depth_of_tree t k → IsKept view_statements depth_of_statements ss l
    → IsKept view_branch depth_of_branch (t, ss) (in_place (λ p. record { condition = p.0; steps = p.1 }) (beside k l))
branch_kept t ss k l h g =
    kept_in_place (view_beside view_tree view_statements) (depth_beside depth_of_tree depth_of_statements) view_branch depth_of_branch (λ p. p) (λ p. record { condition = p.0; steps = p.1 })
    (λ p. search (rules, branch_lemmas)) (t, ss) refl (beside k l) (kept_beside view_tree depth_of_tree view_statements depth_of_statements t ss k l h g)

same_branches : (bs : List (Tree × Statements)) → views.branches_of bs ≡ branches_of bs
same_branches [] = refl
same_branches (b ∷ bs) = rw (same_branches bs) refl

branches_deep : (bs : List (Tree × Statements)) → depth_of_branches (branches_of bs) ≡ deepest depth_of_branch bs
branches_deep [] = refl
branches_deep (b ∷ bs) = ap (λ n. max (max (depth_of_tree b.0) (depth_of_statements b.1)) n) (branches_deep bs)

pub else_kept : (ss : Statements) (k : Option (Levelled (List Stmt.Stmt))) → IsKept view_statements depth_of_statements ss k → IsKept view_otherwise depth_of_otherwise (else_steps ss) (in_place (λ ss. Some ss) k)
else_kept ss k h = kept_in_place view_statements depth_of_statements view_otherwise depth_of_otherwise else_steps (λ ss. Some ss) (λ x. refl) ss refl k h

-- ---- statements
pub block_kept : (ds : List Declared) (ss : Statements) (k : Option (Levelled (List Declaration))) (l : Option (Levelled (List Stmt.Stmt))) → IsKept view_declarations depth_of_declarations ds k
    → IsKept view_statements depth_of_statements ss l → IsKept view depth_of (block ds ss) (in_place (λ p. Stmt.Block p.0 p.1) (above (beside k l)))
block_kept ds ss k l h g =
    kept_above (view_beside view_declarations view_statements) (depth_beside depth_of_declarations depth_of_statements) view depth_of (λ p. block p.0 p.1) (λ p. Stmt.Block p.0 p.1)
    (λ p. search (rules, the_lemmas)) (ds, ss) refl (beside k l) (kept_beside view_declarations depth_of_declarations view_statements depth_of_statements ds ss k l h g)

pub if_kept : (bs : List (Tree × Statements)) (o : Otherwise) (k : Option (Levelled (List Branch))) (l : Option (Levelled (Option (List Stmt.Stmt)))) → IsKept (map view_branch) (deepest depth_of_branch) bs k
    → IsKept view_otherwise depth_of_otherwise o l → IsKept view depth_of (if_steps (branches_of bs) o) (in_place (λ p. Stmt.If p.0 p.1) (above (beside k l)))
if_kept bs o k l h g =
    kept_above (view_beside (map view_branch) view_otherwise) (depth_beside (deepest depth_of_branch) depth_of_otherwise) view depth_of (λ p. if_steps (branches_of p.0) p.1) (λ p. Stmt.If p.0 p.1)
    (λ p. seen p.0 p.1) (bs, o) (ap (λ n. suc (max n (depth_of_otherwise o))) (branches_deep bs)) (beside k l)
    (kept_beside (map view_branch) (deepest depth_of_branch) view_otherwise depth_of_otherwise bs o k l h g)
  where
    plain : (bs : List Branch) (o : Option (List Stmt.Stmt)) → view (Stmt.If bs o) ≡ if_steps (view_branches bs) (view_otherwise o)
    plain bs None = search (rules, the_lemmas)
    plain bs (Some ss) = search (rules, the_lemmas)

    seen : (bs : List Branch) (o : Option (List Stmt.Stmt)) → view (Stmt.If bs o) ≡ if_steps (branches_of (map view_branch bs)) (view_otherwise o)
    seen bs o = plain bs o ∙ ap (λ z. if_steps z (view_otherwise o)) (same_branches (map view_branch bs))

pub while_kept : (t : Tree) (ss : Statements) (k : Option (Levelled Expr)) (l : Option (Levelled (List Stmt.Stmt))) → IsKept view_tree depth_of_tree t k → IsKept view_statements depth_of_statements ss l
    → IsKept view depth_of (while_steps t ss) (in_place (λ p. Stmt.While p.0 p.1) (above (beside k l)))
while_kept t ss k l h g =
    kept_above (view_beside view_tree view_statements) (depth_beside depth_of_tree depth_of_statements) view depth_of (λ p. while_steps p.0 p.1) (λ p. Stmt.While p.0 p.1)
    (λ p. search (rules, the_lemmas)) (t, ss) refl (beside k l) (kept_beside view_tree depth_of_tree view_statements depth_of_statements t ss k l h g)

pub return_kept : (t : Tree) (k : Option (Levelled Expr)) → IsKept view_tree depth_of_tree t k → IsKept view depth_of (return_value t) (in_place (λ e. Stmt.Return e) (above k))
return_kept t k h = kept_above view_tree depth_of_tree view depth_of return_value (λ e. Stmt.Return e) (λ x. search (rules, the_lemmas)) t refl k h

pub table_kept : (t : CreateTable) (k : Option (Levelled Stmt.Stmt)) → (depth_of (view (Stmt.CreateTable t)) ≡ 1 → IsKept view depth_of (view (Stmt.CreateTable t)) k) → IsKept view depth_of (create_table t) k
table_kept t k h =
    let v : view (Stmt.CreateTable t) ≡ create_table t = search (rules, the_lemmas) in
    subst (λ (s : Statement). IsKept view depth_of s k) v (h (ap depth_of v))
