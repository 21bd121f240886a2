-- Which statement is which.
use Rattle.std.proofs.Common.{rules, ◌≡◌, ℕ, List, Bool, true, false, if◌then◌else◌, Option, None, refl, sym, ap, ◌∙◌}
use Rattle.answer_text.specs.declared.answer.Answer.{Answer}
use Rattle.sql_tree.specs.Statement.{Statement, create_table, create_function, create_procedure, create_trigger, drop_table, drop_function, drop_procedure, drop_trigger, truncate, insert_into, replace_into, update_rows, delete_rows, select, evaluate, set_all, call_procedure, begin, commit, rollback, savepoint, rollback_to, release_savepoint, block, if_steps, while_steps, return_value}
use Rattle.session_model.specs.Sessions.{Session, Shared}
use Rattle.sql_tree.specs.StatementView.{view}
use Rattle.sql_tree.specs.declared.statements.Stmt.{Stmt}
use Rattle.sql_tree.specs.declared.statements.Stmt.{the_lemmas}
use Rattle.session_transaction.specs.catalog_rules.Checks.{session_scope, statement_refusal}
use Rattle.session_transaction.specs.sql_reach.Reach.{is_definition}
use Rattle.session_transaction.specs.text_answers.Answers.{TextAnswer, a_statement}
use Rattle.session_model.specs.Running.{Call, full, lock_refusal, statement_run}
use Rattle.session_model.specs.Commands.{code_answer, definition_turn, given_turn, plain_turn, unless_refused}
use Rattle.session_model.specs.Machine.{statement_turn, text_turn}
use Rattle.session_transaction.specs.log_entries.declared.entries.Item.{Item}
use Rattle.source_node.specs.Other.{is_call, is_of_transaction, is_set, other_turn}

pub other_is : (call : Call Item) (text : List ℕ) (s : Statement) (shared : Shared) (session : Session Item) → is_of_transaction s ≡ false → is_set s ≡ false → is_call s ≡ false
    → other_turn call text s shared session ≡ statement_turn call text s shared session
other_is call text (create_table t) shared session no_turn no_set no_call = refl
other_is call text (create_function p) shared session no_turn no_set no_call = refl
other_is call text (create_procedure p) shared session no_turn no_set no_call = refl
other_is call text (create_trigger t) shared session no_turn no_set no_call = refl
other_is call text (drop_table n) shared session no_turn no_set no_call = refl
other_is call text (drop_function n) shared session no_turn no_set no_call = refl
other_is call text (drop_procedure n) shared session no_turn no_set no_call = refl
other_is call text (drop_trigger n) shared session no_turn no_set no_call = refl
other_is call text (truncate n) shared session no_turn no_set no_call = refl
other_is call text (insert_into ignore t names supply sets) shared session no_turn no_set no_call = refl
other_is call text (replace_into t names supply) shared session no_turn no_set no_call = refl
other_is call text (update_rows t sets condition os limit) shared session no_turn no_set no_call = refl
other_is call text (delete_rows t condition os limit) shared session no_turn no_set no_call = refl
other_is call text (select q) shared session no_turn no_set no_call = refl
other_is call text (evaluate ts) shared session no_turn no_set no_call = refl
other_is call text (set_all as') shared session no_turn no_set no_call = cc
other_is call text (call_procedure n ts) shared session no_turn no_set no_call = cc
other_is call text begin shared session no_turn no_set no_call = cc
other_is call text commit shared session no_turn no_set no_call = cc
other_is call text rollback shared session no_turn no_set no_call = cc
other_is call text (savepoint n) shared session no_turn no_set no_call = cc
other_is call text (rollback_to n) shared session no_turn no_set no_call = cc
other_is call text (release_savepoint n) shared session no_turn no_set no_call = cc
other_is call text (block ds ss) shared session no_turn no_set no_call = refl
other_is call text (if_steps bs o) shared session no_turn no_set no_call = refl
other_is call text (while_steps c ss) shared session no_turn no_set no_call = refl
other_is call text (return_value t) shared session no_turn no_set no_call = refl

-- ---- views

pub view_begin : view Stmt.Begin ≡ begin
view_begin = search (rules, the_lemmas)

pub view_commit : view Stmt.Commit ≡ commit
view_commit = search (rules, the_lemmas)

pub view_rollback : view Stmt.Rollback ≡ rollback
view_rollback = search (rules, the_lemmas)

pub view_savepoint : (name : List ℕ) → view (Stmt.Savepoint name) ≡ savepoint name
view_savepoint name = search (rules, the_lemmas)

-- ---- where nothing refuses

pub plain_goes : (call : Call Item) (text : List ℕ) (s : Statement) (refusal : Option ℕ) (shared : Shared) (session : Session Item)
    → refusal ≡ statement_refusal shared.base.catalog session_scope s → refusal ≡ None → None ≡ lock_refusal call.number shared s
    → given_turn (statement_run call full text s shared session) ≡ plain_turn call text s shared session
plain_goes call text s refusal shared session is none free =
    ap (λ (o : Option Answer). unless_refused o shared session (given_turn (statement_run call full text s shared session))) free
    ∙ ap (λ (r : Option ℕ). unless_refused (code_answer r) shared session (unless_refused (lock_refusal call.number shared s) shared session (given_turn (statement_run call full text s shared session)))) (sym none ∙ is)

pub definition_goes : (call : Call Item) (text : List ℕ) (s : Statement) (shared : Shared) (session : Session Item) → is_definition s ≡ true
    → definition_turn call text s shared session ≡ other_turn call text s shared session
definition_goes call text s shared session e =
    ap (λ (b : Bool). if b then definition_turn call text s shared session else plain_turn call text s shared session) (sym e)

pub plain_comes : (call : Call Item) (text : List ℕ) (s : Statement) (shared : Shared) (session : Session Item) → is_definition s ≡ false
    → plain_turn call text s shared session ≡ other_turn call text s shared session
plain_comes call text s shared session e =
    ap (λ (b : Bool). if b then definition_turn call text s shared session else plain_turn call text s shared session) (sym e)

-- ---- texts

pub text_goes : (call : Call Item) (text : List ℕ) (answer : TextAnswer) (s : Statement) (shared : Shared) (session : Session Item) → answer ≡ a_statement s
    → statement_turn call text s shared session ≡ text_turn call text answer shared session
text_goes call text answer s shared session e = ap (λ (a : TextAnswer). text_turn call text a shared session) (sym e)
