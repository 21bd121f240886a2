-- What is kept of SET, DO and CALL.
use Rattle.std.proofs.Common.{◌≡◌, ◌∙◌, ◌≤◌, ℕ, zero, suc, ◌-◌, max, Bool, true, false, List, [], ◌∷◌, length, take, map, Option, None, Result, Ok, Err, refl, ap, rules, arith}
use Rattle.sql_grammar.specs.Reader.{Read, Reader, bind, front_of, read_mapped, read_with_tokens}
use Rattle.sql_grammar.specs.Rule.{paired}
use Rattle.sql_parse_tokens.specs.declared.fault.Stop.{Stop}
use Rattle.sql_parse_tokens.specs.Gives.{Fails}
use Rattle.sql_parse_tokens.proofs.Reading.{again, fails_made, fails_on}
use Rattle.sql_tree.specs.Depth.{depth_of, depth_of_tree, depth_of_trees, deepest, depth_of_value}
use Rattle.sql_tree.specs.Statement.{set_all, evaluate, call_procedure}
use Rattle.sql_tree.specs.StatementView.{view, view_assignment}
use Rattle.sql_tree.specs.Tree.{Tree, Trees}
use Rattle.sql_tree.specs.View.{view_tree, view_trees}
use Rattle.sql_tree.specs.declared.expressions.Expr.{Expr}
use Rattle.sql_tree.specs.declared.statements.Assignment.{Assignment}
use Rattle.sql_tree.specs.declared.statements.Stmt
use Rattle.sql_tree.specs.declared.statements.Stmt.{the_lemmas}
use Rattle.sql_tree.specs.declared.statements.Target.{Target}
use Rattle.sql_parse_nodes.specs.declared.kept.Levelled.{Levelled}
use Rattle.sql_parse_nodes.specs.Kept.{IsKept, Keeps, above, in_place}
use Rattle.sql_syntax.specs.Sessions.{format_said, format_word, format_or, value_assigned}
use Rattle.sql_syntax.specs.Tokens.{Tok, first_keyword}
use Rattle.sql_parse_nodes.proofs.KeptLaws.{kept_in_place, kept_above}

-- ---- formats
no_format : (n : ℕ) (ts : List Tok) → n ≤ length ts → (n ≡ 1 → ⊥) → format_said (take n ts) ≡ None
no_format zero ts l e = refl
no_format (suc zero) ts l e = absurd (e refl)
no_format (suc (suc n)) [] l e = absurd (omega arith)
no_format (suc (suc n)) (t ∷ []) l e = absurd (omega arith)
no_format (suc (suc n)) (t ∷ u ∷ ts) l e = refl

one_format : (n : ℕ) (ts : List Tok) → n ≤ length ts → n ≡ 1 → format_said (take n ts) ≡ format_word (first_keyword ts)
one_format zero ts l e = absurd (omega arith)
one_format (suc zero) [] l e = absurd (omega arith)
one_format (suc zero) (t ∷ ts) l e = refl
one_format (suc (suc n)) ts l e = absurd (omega (arith, e))

-- an expression that is one token
pub format_taken : (ts us : List Tok) (a : Tree) (b : Bool) → b ≡ true → length ts - length us ≡ 1 → value_assigned b (a, front_of ts us) ≡ format_or (format_word (first_keyword ts)) a
format_taken ts us a b e one = rw (e, one_format (length ts - length us) ts (omega arith) one) refl

-- an expression of other tokens, or another variable
pub format_left : (ts us : List Tok) (a : Tree) (b : Bool) → (length ts - length us ≡ 1 → ⊥) → value_assigned b (a, front_of ts us) ≡ a
format_left ts us a true other = rw (no_format (length ts - length us) ts (omega arith) other) refl
format_left ts us a false other = refl

pub no_format_left : (ts us : List Tok) (a : Tree) (b : Bool) → b ≡ false → value_assigned b (a, front_of ts us) ≡ a
no_format_left ts us a b e = rw e refl

-- ---- parts
pub assignment_kept : (to : Target) (t : Tree) (k : Option (Levelled Expr)) → IsKept view_tree depth_of_tree t k
    → IsKept view_assignment depth_of_value (to, t) (in_place (λ v. record { target = to; value = v }) k)
assignment_kept to t k h = kept_in_place view_tree depth_of_tree view_assignment depth_of_value (λ t. (to, t)) (λ v. record { target = to; value = v }) (λ x. refl) t refl k h

-- ---- statements
pub set_kept : (xs : List (Target × Tree)) (k : Option (Levelled (List Assignment))) → IsKept (map view_assignment) (deepest depth_of_value) xs k
    → IsKept view depth_of (set_all xs) (in_place (λ xs. Stmt.Set xs) (above k))
set_kept xs k h = kept_above (map view_assignment) (deepest depth_of_value) view depth_of set_all (λ xs. Stmt.Set xs) (λ x. search (rules, the_lemmas)) xs refl k h

pub do_kept : (ts : Trees) (k : Option (Levelled (List Expr))) → IsKept view_trees depth_of_trees ts k → IsKept view depth_of (evaluate ts) (in_place (λ es. Stmt.Do es) (above k))
do_kept ts k h = kept_above view_trees depth_of_trees view depth_of evaluate (λ es. Stmt.Do es) (λ x. search (rules, the_lemmas)) ts refl k h

pub call_kept : (n : List ℕ) (ts : Trees) (k : Option (Levelled (List Expr))) → IsKept view_trees depth_of_trees ts k
    → IsKept view depth_of (call_procedure n ts) (in_place (λ es. Stmt.Call n es) (above k))
call_kept n ts k h = kept_above view_trees depth_of_trees view depth_of (call_procedure n) (λ es. Stmt.Call n es) (λ x. search (rules, the_lemmas)) ts refl k h

-- ---- what is read
module _ (b : Bool) where
  abbrev valued : Read Tok (Tree × List Tok) → Read Tok Tree
  valued m = bind m (λ y. Ok (value_assigned b y.0, y.1))

  abbrev pub targeted : Target → Read Tok (Tree × List Tok) → Read Tok (Target × Tree)
  targeted to m = bind (bind m (λ y. Ok (y.0, y.1))) (λ y. Ok ((to, value_assigned b y.0), y.1))

  pub assign_ok : (m : Read Tok (Tree × List Tok)) (to : Target) (t : Tree) (rest : List Tok) → bind m (λ y. Ok (value_assigned b y.0, y.1)) ≡ Ok (t, rest) → targeted to m ≡ Ok ((to, t), rest)
  assign_ok (Ok y) to t rest e =
      let q : (value_assigned b y.0, y.1) ≡ (t, rest) = cc in
      ap (λ (z : Tree × List Tok). Ok ((to, z.0), z.1)) q
  assign_ok (Err f) to t rest e = absurd cc

  pub assign_fail : (stop : Stop) (m : Read Tok (Tree × List Tok)) (to : Target) → Fails stop (bind m (λ y. Ok (value_assigned b y.0, y.1))) → Fails stop (targeted to m)
  assign_fail stop m to h = rw (again m) (fails_on stop m (λ y. (value_assigned b y.0, y.1)) (λ y. Ok ((to, value_assigned b y.0), y.1)) h)

-- another variable takes the expression as it is
pub plain_keeps : (result : Result (Option (Levelled Expr) × List Tok) Stop) (ts : List Tok) (p : Reader Tok Tree) (b : Bool) → b ≡ false → Keeps view_tree depth_of_tree result (p ts)
    → Keeps view_tree depth_of_tree result (read_mapped (value_assigned b) (read_with_tokens paired p) ts)
plain_keeps (Ok (k, rest)) ts p b e h = (h.0, rw (h.1, e) refl, h.2)
plain_keeps (Err stop) ts p b e h = fails_made stop (read_with_tokens paired p ts) (λ y. (value_assigned b y.0, y.1)) (fails_made stop (p ts) (λ x. ((x.0, front_of ts x.1), x.1)) h)
