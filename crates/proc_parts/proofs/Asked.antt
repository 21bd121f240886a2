-- The DO over expressions.
use Rattle.std.proofs.Common.{◌≡◌, ◌≤◌, ◌<◌, ◌+◌, ℕ, true, List, [], ◌∷◌, ◌++◌, length, get_or, drop, refl, sym, ap, ◌∙◌}
use Rattle.std.proofs.lemmas.List.{drop_all}
use Rattle.sql_tree.specs.Tree.{Tree, Trees, tree, no_tree}
use Rattle.sql_tree.specs.View.{view_tree, view_trees}
use Rattle.sql_tree.specs.Statement.{Statement, evaluate}
use Rattle.sql_tree.specs.StatementView.{view_assignments}
use Rattle.sql_tree.specs.declared.expressions.Expr.{Expr}
use Rattle.sql_tree.specs.declared.statements.Assignment.{Assignment}
use Rattle.prog_run.proofs.of_sql_evaluation.Branching.{rest_is}
use Rattle.name_const.specs.sql_meaning.Within.{do_one, values_assigned}
use Rattle.proc_parts.specs.Calls.{is_do}

-- ---- one expression

pub one_alone : (es : List Expr) (e d : Expr) (q : Statement) → es ≡ e ∷ [] → e ≡ d → q ≡ evaluate (view_trees es) → q ≡ do_one (view_tree d)
one_alone es e d q is same asked = asked ∙ ap (λ (xs : List Expr). evaluate (view_trees xs)) is ∙ ap (λ (x : Expr). do_one (view_tree x)) same

pub ruleset alone = (one_alone)

-- ---- the expressions of assignments

-- expressions before others
abbrev pub trees_before : List Expr → Trees → Trees
trees_before [] ts = ts
trees_before (e ∷ es) ts = tree (view_tree e) (trees_before es ts)

before_none : (es : List Expr) → trees_before es no_tree ≡ view_trees es
before_none [] = refl
before_none (e ∷ es) = ap (tree (view_tree e)) (before_none es)

before_one : (es : List Expr) (e : Expr) (ts : Trees) → trees_before (es ++ e ∷ []) ts ≡ trees_before es (tree (view_tree e) ts)
before_one [] e ts = refl
before_one (d ∷ es) e ts = ap (tree (view_tree d)) (before_one es e ts)

pub assigned_more : (es es' : List Expr) (xs : List Assignment) (i : ℕ) (x : Assignment) (e : Expr) (o : Trees) → i < length xs → x ≡ get_or xs i x → e ≡ x.value → es' ≡ es ++ e ∷ []
    → trees_before es (values_assigned (view_assignments (drop i xs))) ≡ o → trees_before es' (values_assigned (view_assignments (drop (i + 1) xs))) ≡ o
assigned_more es es' xs i x e o within is same added before =
    ap (λ (ds : List Expr). trees_before ds (values_assigned (view_assignments (drop (i + 1) xs)))) added ∙ before_one es e (values_assigned (view_assignments (drop (i + 1) xs)))
    ∙ ap (λ (d : Expr). trees_before es (tree (view_tree d) (values_assigned (view_assignments (drop (i + 1) xs))))) same
    ∙ (rw (rest_is xs i x within is) at before)

pub assigned_end : (es : List Expr) (xs : List Assignment) (i : ℕ) (o : Trees) → length xs ≤ i → trees_before es (values_assigned (view_assignments (drop i xs))) ≡ o → view_trees es ≡ o
assigned_end es xs i o past before = sym (before_none es) ∙ (rw (drop_all i xs past) at before)

pub ruleset assigned = (assigned_more, assigned_end)

-- ---- what is a DO

pub one_is_do : (t : Tree) (q : Statement) → q ≡ do_one t → is_do q ≡ true
one_is_do t q is = ap is_do is

pub all_are_do : (ts : Trees) (q : Statement) → q ≡ evaluate ts → is_do q ≡ true
all_are_do ts q is = ap is_do is

pub ruleset doing_one = (one_is_do)

pub ruleset doing_all = (all_are_do)
