-- SET by its parts.
use Rattle.std.proofs.Common.{rules, ◌≡◌, ℕ, List, [], ◌∷◌, Bool, false, map, zip, if◌then◌else◌, Option, Some, None, Result, Ok, Err, refl, sym, ap, subst, ◌∙◌}
use Rattle.val_types.specs.declared.value.Value.{Value}
use Rattle.answer_making.specs.log_entries.declared.entries.Item.{Item}
use Rattle.answer_text.specs.declared.answer.Answer.{Answer}
use Rattle.answer_making.specs.catalog_rules.Checks.{session_scope, statement_refusal}
use Rattle.sql_print.specs.StatementSpelling.{spelling}
use Rattle.sql_tree.specs.Statement.{Statement, evaluate, set_all}
use Rattle.sql_tree.specs.StatementView.{view, view_assignments}
use Rattle.sql_tree.specs.Tree.{Tree, Trees, no_tree, tree}
use Rattle.sql_tree.specs.View.{view_tree, view_trees}
use Rattle.sql_tree.specs.declared.statements.Assignment.{Assignment}
use Rattle.sql_tree.specs.declared.statements.Target.{Target}
use Rattle.sql_tree.specs.declared.expressions.Expr.{Expr}
use Rattle.sql_tree.specs.declared.statements.Stmt.{Stmt}
use Rattle.sql_tree.specs.declared.statements.Stmt.{the_lemmas}
use Rattle.answer_making.specs.session_model.Answers.{ok_warned, refused}
use Rattle.answer_making.specs.session_model.Sessions.{Session, Shared}
use Rattle.answer_making.specs.session_model.Running.{Call, Given, Turn, fitted_run, full, lock_refusal}
use Rattle.answer_making.specs.session_model.Commands.{all_assigned, answered, code_answer, is_open, is_too_long, set_by, set_expressions, set_misfit, set_turn, unless_refused}
use Rattle.session_set.specs.Assigning.{misfit_of, set_from, set_parts, set_to, target_of, value_of}
use Rattle.session_statement.specs.session_shared.declared.desk.Desk.{Desk}
use Rattle.session_statement.specs.Turned.{IsTurn, Moves}

-- ---- the parts of assignments

pub targets_of : (as' : List Assignment) → map (λ (a : Target × Tree). a.0) (view_assignments as') ≡ map target_of as'
targets_of [] = refl
targets_of (a ∷ as') = ap (λ ts. a.target ∷ ts) (targets_of as')

pub expressions_of : (as' : List Assignment) → set_expressions (view_assignments as') ≡ view_trees (map value_of as')
expressions_of [] = refl
expressions_of (a ∷ as') = ap (λ ts. tree (view_tree a.value) ts) (expressions_of as')

-- ---- what SET leaves

set_by_is : (as' : List (Target × Tree)) (result : Result (List Value) ℕ) (t : Turn Item (Given (List Value)))
    → set_by as' result t ≡ set_to (map (λ (a : Target × Tree). a.0) as') result t
set_by_is as' (Err code) t = refl
set_by_is as' (Ok vs) t = refl

set_of : (call : Call Item) (as' : List (Target × Tree)) (shared : Shared) (session : Session Item)
    → set_turn call as' shared session
    ≡ set_parts call (statement_refusal shared.base.catalog session_scope (set_all as')) (map (λ (a : Target × Tree). a.0) as') (set_expressions as') shared session
set_of call as' shared session =
    let ts : Trees = set_expressions as' in
    let t : Turn Item (Given (List Value)) = fitted_run call full (spelling (evaluate ts)) ts (set_misfit (is_open session) as') shared session in
    ap (λ (u : Turn Item Answer). if is_too_long (spelling (evaluate ts)) then answered (refused 1153) shared session
    else
    unless_refused (code_answer (statement_refusal shared.base.catalog session_scope (set_all as'))) shared session
    (unless_refused (lock_refusal call.number shared (evaluate ts)) shared session u))
    (set_by_is as' t.given.result t)

pub set_taken_apart : (call : Call Item) (as' : List Assignment) (refusal : Option ℕ) (names : List Target) (ts : Trees) (shared : Shared) (session : Session Item)
    → refusal ≡ statement_refusal shared.base.catalog session_scope (set_all (view_assignments as')) → names ≡ map target_of as' → ts ≡ view_trees (map value_of as')
    → set_parts call refusal names ts shared session ≡ set_turn call (view_assignments as') shared session
set_taken_apart call as' refusal names ts shared session checks targets values =
    ap (λ (r : Option ℕ). set_parts call r names ts shared session) checks
    ∙ ap (λ (ns : List Target). set_parts call (statement_refusal shared.base.catalog session_scope (set_all (view_assignments as'))) ns ts shared session) (targets ∙ sym (targets_of as'))
    ∙ ap (λ (us : Trees). set_parts call (statement_refusal shared.base.catalog session_scope (set_all (view_assignments as'))) (map (λ (a : Target × Tree). a.0) (view_assignments as')) us shared session) (values ∙ sym (expressions_of as'))
    ∙ sym (set_of call (view_assignments as') shared session)

-- values assigned
pub set_values : (names : List Target) (vs : List Value) (warned : Bool) (old new : Desk) (ran after : Session Item) (answer : Answer) (t : Turn Item (Given (List Value))) → Moves old new ran t → t.given.result ≡ Ok vs → t.given.warned ≡ warned
    → answer ≡ ok_warned warned 0 → after ≡ all_assigned ran (zip names vs) → IsTurn old new after answer (set_from names t)
set_values names vs warned old new ran after answer t moves gave warns said left =
    subst (λ (r : Result (List Value) ℕ). IsTurn old new after answer (set_to names r t)) (sym gave)
    ((moves.0, left ∙ ap (λ (s : Session Item). all_assigned s (zip names vs)) moves.1, moves.2), said ∙ ap (λ (b : Bool). ok_warned b 0) (sym warns))

pub set_failed : (names : List Target) (code : ℕ) (old new : Desk) (after : Session Item) (answer : Answer) (t : Turn Item (Given (List Value))) → Moves old new after t → t.given.result ≡ Err code
    → answer ≡ refused code → IsTurn old new after answer (set_from names t)
set_failed names code old new after answer t moves gave said =
    subst (λ (r : Result (List Value) ℕ). IsTurn old new after answer (set_to names r t)) (sym gave) (moves, said)

-- ---- where nothing refuses

pub set_goes : (call : Call Item) (refusal : Option ℕ) (names : List Target) (text : List ℕ) (ts us : Trees) (shared : Shared) (session : Session Item)
    → text ≡ spelling (evaluate ts) → is_too_long text ≡ false → refusal ≡ None → None ≡ lock_refusal call.number shared (evaluate ts) → us ≡ ts
    → set_from names (fitted_run call full text us (misfit_of (is_open session) names) shared session) ≡ set_parts call refusal names ts shared session
set_goes call refusal names text ts us shared session is short none free same =
    let misfit : List Value → Option ℕ = misfit_of (is_open session) names in
    ap (λ (vs : Trees). set_from names (fitted_run call full text vs misfit shared session)) same
    ∙ ap (λ (x : List ℕ). set_from names (fitted_run call full x ts misfit shared session)) is
    ∙ ap (λ (o : Option Answer). unless_refused o shared session (set_from names (fitted_run call full (spelling (evaluate ts)) ts misfit shared session))) free
    ∙ ap (λ (r : Option ℕ). unless_refused (code_answer r) shared session (unless_refused (lock_refusal call.number shared (evaluate ts)) shared session
    (set_from names (fitted_run call full (spelling (evaluate ts)) ts misfit shared session)))) (sym none)
    ∙ ap (λ (b : Bool). if b then answered (refused 1153) shared session
    else unless_refused (code_answer refusal) shared session (unless_refused (lock_refusal call.number shared (evaluate ts)) shared session
    (set_from names (fitted_run call full (spelling (evaluate ts)) ts misfit shared session)))) (sym (ap is_too_long (sym is) ∙ short))

-- DO over expressions
pub view_do : (es : List Expr) → view (Stmt.Do es) ≡ evaluate (view_trees es)
view_do es = search (rules, the_lemmas)

trees_in : Statement → Trees
trees_in (evaluate ts) = ts
trees_in s = no_tree

pub do_same : (es fs : List Expr) → Stmt.Do es ≡ Stmt.Do fs → view_trees fs ≡ view_trees es
unfolding trees_in
do_same es fs e = ap trees_in (sym (view_do fs) ∙ ap view (sym e) ∙ view_do es)
