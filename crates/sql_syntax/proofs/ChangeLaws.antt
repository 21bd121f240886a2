-- INSERT, REPLACE, UPDATE and DELETE keep the laws.
use Rattle.std.proofs.Common.{ℕ, true, false, List, [], ◌∷◌, Some, None, refl}
use Rattle.sql_lex.specs.declared.keyword.Keyword.TheVariants as words
use Rattle.sql_lex.specs.declared.token.Symbol.TheVariants as signs
use Rattle.sql_tree.specs.Statement.{rows, rows_of}
use Rattle.sql_grammar.specs.Rule.{paired}
use Rattle.sql_grammar.proofs.Lawful.{shape, Lawful}
use Rattle.sql_grammar.proofs.Single.{pure_lawful, mapped_lawful, widened}
use Rattle.sql_grammar.proofs.Sequence.{both_lawful}
use Rattle.sql_grammar.proofs.Choice.{either_lawful}
use Rattle.sql_syntax.specs.Tokens.{kind, code, sign_code, names}
use Rattle.sql_syntax.specs.Parts.{closed, exprs}
use Rattle.sql_syntax.specs.Expressions.{expression}
use Rattle.sql_syntax.specs.Changes.{sets, ignore, into, columns, a_row, source, on_duplicate, inserted, insert, replaced, replace, chosen, updated, update, deleted, delete, change}
use Rattle.sql_syntax.proofs.Words.{keyword_lawful}
use Rattle.sql_syntax.proofs.Shapes.{behind_lists, behind_order, behind_selects, statements_from}
use Rattle.sql_syntax.proofs.PartLaws.{name_lawful, keyword_then, sign_then, list_lawful, exprs_closed_lawful, exprs_closed_alive, in_parentheses_lawful, names_in_lawful}
use Rattle.sql_syntax.proofs.SelectLaws.{where_lawful, order_lawful, limit_lawful}
use Rattle.sql_syntax.proofs.ExpressionLaws.{expression_lawful, expression_alive, query_lawful}

module _ (d : ℕ) where
  sets_lawful : Lawful kind (shape names false behind_lists true) (λ e. sets (expression e)) d
  sets_lawful =
      widened (list_lawful (both_lawful paired (name_lawful d) (sign_then (expression_lawful d) refl signs.Equal) refl refl) refl refl refl) (shape names false behind_lists true) refl

  ignore_lawful : Lawful kind (shape (code words.Ignore ∷ []) true (code words.Ignore ∷ []) true) (λ e. ignore) d
  ignore_lawful = either_lawful (code words.Ignore ∷ []) (mapped_lawful (λ u. true) (keyword_lawful words.Ignore d)) (pure_lawful false d) refl refl refl

  into_lawful : Lawful kind (shape (code words.Into ∷ names) false [] true) (λ e. into) d
  into_lawful =
      widened (both_lawful (λ u a. a) (either_lawful (code words.Into ∷ []) (keyword_lawful words.Into d) (pure_lawful tt d) refl refl refl) (name_lawful d) refl refl)
      (shape (code words.Into ∷ names) false [] true) refl

  columns_lawful : Lawful kind (shape (sign_code signs.Open ∷ []) true (sign_code signs.Open ∷ []) true) (λ e. columns e) d
  columns_lawful = either_lawful (sign_code signs.Open ∷ []) (mapped_lawful Some (names_in_lawful d)) (pure_lawful None d) refl refl refl

  row_lawful : Lawful kind (shape (sign_code signs.Open ∷ []) false [] true) (λ e. a_row e) d
  row_lawful =
      in_parentheses_lawful (λ e. closed (exprs (expression e))) (exprs_closed_alive expression expression_alive) d (λ k e. exprs_closed_lawful (expression_lawful k)) refl

  source_lawful : Lawful kind (shape (code words.Select ∷ code words.Values ∷ code words.Value ∷ []) false behind_selects true) (λ e. source e) d
  source_lawful =
      let word = either_lawful (code words.Values ∷ []) (keyword_lawful words.Values d) (keyword_lawful words.Value d) refl refl refl in
      let some = both_lawful (λ u a. a) word (mapped_lawful rows (list_lawful row_lawful refl refl refl)) refl refl in
      widened (either_lawful (code words.Select ∷ []) (mapped_lawful rows_of (query_lawful d)) some refl refl refl)
      (shape (code words.Select ∷ code words.Values ∷ code words.Value ∷ []) false behind_selects true) refl

  on_duplicate_lawful : Lawful kind (shape (code words.On ∷ []) true (code words.On ∷ behind_lists) true) (λ e. on_duplicate e) d
  on_duplicate_lawful =
      let some = keyword_then (keyword_then (keyword_then (keyword_then sets_lawful refl words.Update) refl words.Key) refl words.Duplicate) refl words.On in
      widened (either_lawful (code words.On ∷ []) some (pure_lawful [] d) refl refl refl) (shape (code words.On ∷ []) true (code words.On ∷ behind_lists) true) refl

  insert_lawful : Lawful kind (statements_from (code words.Insert ∷ [])) (λ e. insert e) d
  insert_lawful =
      let supply = both_lawful paired columns_lawful (both_lawful paired source_lawful on_duplicate_lawful refl refl) refl refl in
      widened (keyword_then (both_lawful inserted ignore_lawful (both_lawful paired into_lawful supply refl refl) refl refl) refl words.Insert) (statements_from (code words.Insert ∷ [])) refl

  replace_lawful : Lawful kind (statements_from (code words.Replace ∷ [])) (λ e. replace e) d
  replace_lawful =
      widened (keyword_then (both_lawful replaced into_lawful (both_lawful paired columns_lawful source_lawful refl refl) refl refl) refl words.Replace) (statements_from (code words.Replace ∷ [])) refl

  chosen_lawful : Lawful kind (shape (code words.Where ∷ code words.Order ∷ code words.Limit ∷ []) true (code words.Limit ∷ code words.Where ∷ behind_order) true) (λ e. chosen e) d
  chosen_lawful =
      widened (both_lawful paired (where_lawful (expression_lawful d)) (both_lawful paired (order_lawful (expression_lawful d)) (limit_lawful d) refl refl) refl refl)
      (shape (code words.Where ∷ code words.Order ∷ code words.Limit ∷ []) true (code words.Limit ∷ code words.Where ∷ behind_order) true) refl

  update_lawful : Lawful kind (statements_from (code words.Update ∷ [])) (λ e. update e) d
  update_lawful =
      let rest = keyword_then (both_lawful paired sets_lawful chosen_lawful refl refl) refl words.Set in
      widened (keyword_then (both_lawful updated (name_lawful d) rest refl refl) refl words.Update) (statements_from (code words.Update ∷ [])) refl

  delete_lawful : Lawful kind (statements_from (code words.Delete ∷ [])) (λ e. delete e) d
  delete_lawful =
      widened (keyword_then (keyword_then (both_lawful deleted (name_lawful d) chosen_lawful refl refl) refl words.From) refl words.Delete) (statements_from (code words.Delete ∷ [])) refl

  abbrev change_words : List ℕ
  change_words = code words.Insert ∷ code words.Replace ∷ code words.Update ∷ code words.Delete ∷ []

  pub change_lawful : Lawful kind (statements_from (code words.Insert ∷ code words.Replace ∷ code words.Update ∷ code words.Delete ∷ [])) (λ e. change e) d
  change_lawful =
      let a1 = either_lawful (code words.Update ∷ []) update_lawful delete_lawful refl refl refl in
      let a2 = either_lawful (code words.Replace ∷ []) replace_lawful a1 refl refl refl in
      widened (either_lawful (code words.Insert ∷ []) insert_lawful a2 refl refl refl) (statements_from change_words) refl
