-- Which statements insert into no table with AUTO_INCREMENT.
use Rattle.std.proofs.Common.{◌≡◌, ℕ, false, List, Option, Some, None, refl, sym, ap, ◌∙◌}
use Rattle.std.specs.Prelude.{is_some}
use Rattle.std.specs.Option.{option_map_or}
use Rattle.val_types.specs.declared.definitions.TableDef.{TableDef}
use Rattle.sql_tree.specs.Statement.{create_table, create_function, create_procedure, create_trigger, drop_table, drop_function, drop_procedure, drop_trigger, truncate, insert_into, replace_into, update_rows, delete_rows, select, evaluate, set_all, call_procedure, begin, commit, rollback, savepoint, rollback_to, release_savepoint, block, if_steps, while_steps, return_value}
use Rattle.session_ctx.specs.catalog_rules.Objects.{Object, table_in}
use Rattle.session_ctx.specs.catalog_rules.Nodes.{Node, a_name, a_column, a_new_column, an_old_column, an_inserted_value, a_user_variable, a_system_variable, a_built_in, a_random_number, a_function_call, a_table_read, a_limit, a_statement}
use Rattle.reach_laws.specs.sql_reach.Reasons.{is_counted, inserts_counted}
use Rattle.reach_laws.proofs.Reaching.{table_inserted}
use Rattle.reach_laws.proofs.Expressions.{IsNoStatement}

-- a statement among nodes inserts into no table with AUTO_INCREMENT
abbrev pub Quiet : List Object → Node → Type 0
Quiet catalog (a_statement one) = (t : List ℕ) (d : TableDef) → table_inserted one ≡ Some t → table_in catalog t ≡ Some d → d.auto ≡ None
Quiet catalog node = Unit {0}

module _ (catalog : List Object) where
  -- a node that is no statement is quiet
  pub quiet_plain : (node : Node) → IsNoStatement node → Quiet catalog node
  quiet_plain (a_name sight n) h = tt
  quiet_plain (a_column sight t c) h = tt
  quiet_plain (a_new_column c) h = tt
  quiet_plain (an_old_column c) h = tt
  quiet_plain (an_inserted_value sight c) h = tt
  quiet_plain (a_user_variable n) h = tt
  quiet_plain (a_system_variable n) h = tt
  quiet_plain (a_built_in f) h = tt
  quiet_plain a_random_number h = tt
  quiet_plain (a_function_call n count) h = tt
  quiet_plain (a_table_read t) h = tt
  quiet_plain (a_limit c) h = tt
  quiet_plain (a_statement one) h = absurd h

  -- a statement that inserts into no table with AUTO_INCREMENT is quiet
  not_counted : (o : Option ℕ) → is_some o ≡ false → o ≡ None
  not_counted None e = refl
  not_counted (Some n) e = cc

  table_not_counted : (t u : List ℕ) (d : TableDef) → is_counted catalog t ≡ false → Some t ≡ Some u → table_in catalog u ≡ Some d → d.auto ≡ None
  table_not_counted t u d e same is =
      let it : t ≡ u = some_is same in
      not_counted d.auto (sym (ap (λ (o : Option TableDef). option_map_or (λ (x : TableDef). is_some x.auto) o false) (ap (table_in catalog) it ∙ is)) ∙ e)
    where
      some_is : Some t ≡ Some u → t ≡ u
      some_is q = cc

  pub quiet_by : (node : Node) → inserts_counted catalog node ≡ false → Quiet catalog node
  quiet_by (a_name sight n) e = tt
  quiet_by (a_column sight t c) e = tt
  quiet_by (a_new_column c) e = tt
  quiet_by (an_old_column c) e = tt
  quiet_by (an_inserted_value sight c) e = tt
  quiet_by (a_user_variable n) e = tt
  quiet_by (a_system_variable n) e = tt
  quiet_by (a_built_in f) e = tt
  quiet_by a_random_number e = tt
  quiet_by (a_function_call n count) e = tt
  quiet_by (a_table_read t) e = tt
  quiet_by (a_limit c) e = tt
  quiet_by (a_statement (create_table x)) e = λ u d same is. cc
  quiet_by (a_statement (create_function x)) e = λ u d same is. cc
  quiet_by (a_statement (create_procedure x)) e = λ u d same is. cc
  quiet_by (a_statement (create_trigger x)) e = λ u d same is. cc
  quiet_by (a_statement (drop_table x)) e = λ u d same is. cc
  quiet_by (a_statement (drop_function x)) e = λ u d same is. cc
  quiet_by (a_statement (drop_procedure x)) e = λ u d same is. cc
  quiet_by (a_statement (drop_trigger x)) e = λ u d same is. cc
  quiet_by (a_statement (truncate x)) e = λ u d same is. cc
  quiet_by (a_statement (insert_into ignore t names supply sets)) e = λ u d same is. table_not_counted t u d e same is
  quiet_by (a_statement (replace_into t names supply)) e = λ u d same is. table_not_counted t u d e same is
  quiet_by (a_statement (update_rows t sets condition os limit)) e = λ u d same is. cc
  quiet_by (a_statement (delete_rows t condition os limit)) e = λ u d same is. cc
  quiet_by (a_statement (select q)) e = λ u d same is. cc
  quiet_by (a_statement (evaluate ts)) e = λ u d same is. cc
  quiet_by (a_statement (set_all as')) e = λ u d same is. cc
  quiet_by (a_statement (call_procedure x ts)) e = λ u d same is. cc
  quiet_by (a_statement begin) e = λ u d same is. cc
  quiet_by (a_statement commit) e = λ u d same is. cc
  quiet_by (a_statement rollback) e = λ u d same is. cc
  quiet_by (a_statement (savepoint x)) e = λ u d same is. cc
  quiet_by (a_statement (rollback_to x)) e = λ u d same is. cc
  quiet_by (a_statement (release_savepoint x)) e = λ u d same is. cc
  quiet_by (a_statement (block ds ss)) e = λ u d same is. cc
  quiet_by (a_statement (if_steps bs o)) e = λ u d same is. cc
  quiet_by (a_statement (while_steps c ss)) e = λ u d same is. cc
  quiet_by (a_statement (return_value x)) e = λ u d same is. cc
