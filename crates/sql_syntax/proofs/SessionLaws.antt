-- SET, CALL, DO, DROP, TRUNCATE and the statements of transactions keep the laws.
use Rattle.std.proofs.Common.{ℕ, true, false, List, [], ◌∷◌, Some, None, unwrap_or, refl}
use Rattle.sql_lex.specs.declared.keyword.Keyword.TheVariants as words
use Rattle.sql_lex.specs.declared.token.Symbol.TheVariants as signs
use Rattle.sql_tree.specs.Tree.{no_tree}
use Rattle.sql_tree.specs.Statement.{drop_table, drop_function, drop_procedure, drop_trigger, truncate, evaluate, set_all, call_procedure, begin, commit, rollback, savepoint, rollback_to, release_savepoint}
use Rattle.sql_tree.specs.declared.statements.Target.{Target}
use Rattle.sql_grammar.specs.Rule.{mapped, optional, paired}
use Rattle.sql_grammar.proofs.Lawful.{shape, Lawful}
use Rattle.sql_grammar.proofs.Single.{pure_lawful, mapped_lawful, with_tokens_lawful, widened}
use Rattle.sql_grammar.proofs.Sequence.{both_lawful}
use Rattle.sql_grammar.proofs.Choice.{either_lawful}
use Rattle.sql_syntax.specs.Tokens.{kind, code, sign_code, names}
use Rattle.sql_syntax.specs.Parts.{a_name, arguments}
use Rattle.sql_syntax.specs.Expressions.{expression}
use Rattle.sql_syntax.specs.Sessions.{new_by, target, assigned, set, do_exprs, call, drop, truncated, transaction, begun, started}
use Rattle.sql_syntax.proofs.Words.{keyword_lawful, sign_lawful}
use Rattle.sql_syntax.proofs.Shapes.{statements_from}
use Rattle.sql_syntax.proofs.PartLaws.{name_lawful, but_lawful, word_name_lawful, keyword_then, sign_then, list_lawful, exprs_lawful, arguments_lawful, arguments_alive, in_parentheses_lawful}
use Rattle.sql_syntax.proofs.ExpressionLaws.{system_name_lawful, expression_lawful, expression_alive}

module _ (d : ℕ) where
  some_name_lawful : Lawful kind (shape names true names true) (λ e. optional kind names None (mapped Some a_name)) d
  some_name_lawful = either_lawful names (mapped_lawful Some (name_lawful d)) (pure_lawful None d) refl refl refl

  abbrev behind_targets : List ℕ
  behind_targets = sign_code signs.Dot ∷ names

  target_lawful : Lawful kind (shape (sign_code signs.At ∷ sign_code signs.AtAt ∷ names) false behind_targets true) (λ e. target) d
  target_lawful =
      let user = mapped_lawful Target.User (sign_then (name_lawful d) refl signs.At) in
      let system = mapped_lawful Target.System (sign_then (system_name_lawful d) refl signs.AtAt) in
      let session = both_lawful (λ s o. Target.Plain (unwrap_or o s)) (word_name_lawful words.Session d) some_name_lawful refl refl in
      let dot = either_lawful (sign_code signs.Dot ∷ []) (mapped_lawful Some (sign_then (name_lawful d) refl signs.Dot)) (pure_lawful None d) refl refl refl in
      let new = both_lawful new_by (word_name_lawful words.New d) dot refl refl in
      let other = mapped_lawful Target.Plain (but_lawful (code words.Session ∷ code words.New ∷ []) refl d) in
      let a1 = either_lawful (code words.New ∷ []) new other refl refl refl in
      let a2 = either_lawful (code words.Session ∷ []) session a1 refl refl refl in
      let a3 = either_lawful (sign_code signs.AtAt ∷ []) system a2 refl refl refl in
      widened (either_lawful (sign_code signs.At ∷ []) user a3 refl refl refl) (shape (sign_code signs.At ∷ sign_code signs.AtAt ∷ names) false behind_targets true) refl

  pub set_lawful : Lawful kind (statements_from (code words.Set ∷ [])) (λ e. set e) d
  set_lawful =
      let equals = either_lawful (sign_code signs.Equal ∷ []) (sign_lawful signs.Equal d) (sign_lawful signs.Assign d) refl refl refl in
      let value = both_lawful (λ u a. a) equals (with_tokens_lawful paired (expression_lawful d)) refl refl in
      let item = both_lawful assigned target_lawful value refl refl in
      widened (keyword_then (mapped_lawful set_all (list_lawful item refl refl refl)) refl words.Set) (statements_from (code words.Set ∷ [])) refl

  pub do_lawful : Lawful kind (statements_from (code words.Do ∷ [])) (λ e. do_exprs e) d
  do_lawful = widened (keyword_then (mapped_lawful evaluate (exprs_lawful (expression_lawful d))) refl words.Do) (statements_from (code words.Do ∷ [])) refl

  pub call_lawful : Lawful kind (statements_from (code words.Call ∷ [])) (λ e. call e) d
  call_lawful =
      let some = in_parentheses_lawful (λ e. arguments (expression e)) (arguments_alive expression expression_alive) d (λ k e. arguments_lawful (expression_lawful k)) refl in
      let args = either_lawful (sign_code signs.Open ∷ []) some (pure_lawful no_tree d) refl refl refl in
      widened (keyword_then (both_lawful call_procedure (name_lawful d) args refl refl) refl words.Call) (statements_from (code words.Call ∷ [])) refl

  pub drop_lawful : Lawful kind (statements_from (code words.Drop ∷ [])) (λ e. drop) d
  drop_lawful =
      let a1 = either_lawful (code words.Procedure ∷ []) (keyword_then (mapped_lawful drop_procedure (name_lawful d)) refl words.Procedure) (keyword_then (mapped_lawful drop_trigger (name_lawful d)) refl words.Trigger) refl refl refl in
      let a2 = either_lawful (code words.Function ∷ []) (keyword_then (mapped_lawful drop_function (name_lawful d)) refl words.Function) a1 refl refl refl in
      let a3 = either_lawful (code words.Table ∷ []) (keyword_then (mapped_lawful drop_table (name_lawful d)) refl words.Table) a2 refl refl refl in
      widened (keyword_then a3 refl words.Drop) (statements_from (code words.Drop ∷ [])) refl

  pub truncate_lawful : Lawful kind (statements_from (code words.Truncate ∷ [])) (λ e. truncated) d
  truncate_lawful =
      let table = either_lawful (code words.Table ∷ []) (keyword_lawful words.Table d) (pure_lawful tt d) refl refl refl in
      widened (keyword_then (mapped_lawful truncate (both_lawful (λ u a. a) table (name_lawful d) refl refl)) refl words.Truncate) (statements_from (code words.Truncate ∷ [])) refl

  abbrev transaction_words : List ℕ
  transaction_words = code words.Commit ∷ code words.Rollback ∷ code words.Savepoint ∷ code words.Release ∷ []

  pub transaction_lawful : Lawful kind (statements_from (code words.Commit ∷ code words.Rollback ∷ code words.Savepoint ∷ code words.Release ∷ [])) (λ e. transaction) d
  transaction_lawful =
      let named = either_lawful (code words.Savepoint ∷ []) (both_lawful (λ s o. unwrap_or o s) (word_name_lawful words.Savepoint d) some_name_lawful refl refl) (but_lawful (code words.Savepoint ∷ []) refl d) refl refl refl in
      let to = either_lawful (code words.To ∷ []) (keyword_then (mapped_lawful rollback_to named) refl words.To) (pure_lawful rollback d) refl refl refl in
      let release = keyword_then (keyword_then (mapped_lawful release_savepoint (name_lawful d)) refl words.Savepoint) refl words.Release in
      let a1 = either_lawful (code words.Savepoint ∷ []) (keyword_then (mapped_lawful savepoint (name_lawful d)) refl words.Savepoint) release refl refl refl in
      let a2 = either_lawful (code words.Rollback ∷ []) (keyword_then to refl words.Rollback) a1 refl refl refl in
      widened (either_lawful (code words.Commit ∷ []) (mapped_lawful (λ u. commit) (keyword_lawful words.Commit d)) a2 refl refl refl) (statements_from transaction_words) refl

  pub begun_lawful : Lawful kind (statements_from (code words.Begin ∷ [])) (λ e. begun) d
  begun_lawful =
      let work = either_lawful (code words.Work ∷ []) (mapped_lawful (λ u. begin) (keyword_lawful words.Work d)) (pure_lawful begin d) refl refl refl in
      widened (keyword_then work refl words.Begin) (statements_from (code words.Begin ∷ [])) refl

  pub started_lawful : Lawful kind (statements_from (code words.Start ∷ [])) (λ e. started) d
  started_lawful = widened (keyword_then (mapped_lawful (λ u. begin) (keyword_lawful words.Transaction d)) refl words.Start) (statements_from (code words.Start ∷ [])) refl
