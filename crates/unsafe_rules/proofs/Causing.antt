-- A statement without a call of a function and without a change reaches nothing.
use Rattle.std.proofs.Common.{◌≡◌, Bool, true, false, List, [], length, refl}
use Rattle.std.specs.List.{list_any}
use Rattle.sql_tree.specs.Statement.{Statement, insert_into, replace_into, update_rows, delete_rows}
use Rattle.sql_tree.specs.Statement.{Trigger, trigger}
use Rattle.session_ctx.specs.catalog_rules.Objects.{Object, table, function, procedure, reaction}
use Rattle.session_ctx.specs.catalog_rules.Nodes.{Node, a_name, a_column, a_new_column, an_old_column, an_inserted_value, a_user_variable, a_system_variable, a_built_in, a_random_number, a_function_call, a_table_read, a_limit, a_statement}
use Rattle.sql_reach.specs.Reach.{rounds}
use Rattle.node_walk.specs.declared.asking.Ask.TheVariants as asks
use Rattle.node_walk.specs.Asking.{asks_node}
use Rattle.unsafe_rules.specs.Reaching.{reaches, nothing_wanted, IsAll}
use Rattle.unsafe_rules.proofs.Elements.{any_is, any_from}
use Rattle.unsafe_rules.proofs.Rounds.{nothing_found, none_wanted, clash, not_true}

-- what a trigger waits for is caused by a change
fired : (t : Trigger) (s : Statement) → reaches (reaction t) (a_statement s) ≡ true → asks_node asks.Cause (a_statement s) ≡ true
fired (trigger n time event on body) (insert_into ignore t cs from us) e = refl
fired (trigger n time event on body) (replace_into t cs from) e = refl
fired (trigger n time event on body) (update_rows t ss w os l) e = refl
fired (trigger n time event on body) (delete_rows t w os l) e = refl
fired (trigger n time event on body) s e = e

caused : (o : Object) (node : Node) → reaches o node ≡ true → asks_node asks.Cause node ≡ true
caused (table d) node e = cc
caused (procedure p) node e = cc
caused (function p) (a_function_call n count) e = refl
caused (function p) (a_name sight n) e = cc
caused (function p) (a_column sight t c) e = cc
caused (function p) (a_new_column c) e = cc
caused (function p) (an_old_column c) e = cc
caused (function p) (an_inserted_value sight c) e = cc
caused (function p) (a_user_variable n) e = cc
caused (function p) (a_system_variable n) e = cc
caused (function p) (a_built_in f) e = cc
caused (function p) a_random_number e = cc
caused (function p) (a_table_read t) e = cc
caused (function p) (a_limit c) e = cc
caused (function p) (a_statement s) e = cc
caused (reaction t) (a_statement s) e = fired t s e
caused (reaction (trigger n time event on body)) (a_function_call m count) e = refl
caused (reaction (trigger n time event on body)) (a_name sight m) e = e
caused (reaction (trigger n time event on body)) (a_column sight t c) e = e
caused (reaction (trigger n time event on body)) (a_new_column c) e = e
caused (reaction (trigger n time event on body)) (an_old_column c) e = e
caused (reaction (trigger n time event on body)) (an_inserted_value sight c) e = e
caused (reaction (trigger n time event on body)) (a_user_variable m) e = e
caused (reaction (trigger n time event on body)) (a_system_variable m) e = e
caused (reaction (trigger n time event on body)) (a_built_in f) e = e
caused (reaction (trigger n time event on body)) a_random_number e = e
caused (reaction (trigger n time event on body)) (a_table_read t) e = e
caused (reaction (trigger n time event on body)) (a_limit c) e = e

not_reached : (nodes : List Node) (o : Object) → list_any (asks_node asks.Cause) nodes ≡ false → list_any (reaches o) nodes ≡ false
not_reached nodes o none =
    not_true (list_any (reaches o) nodes)
    (λ some. any_from (reaches o) nodes some
    (λ i node get e. clash (list_any (asks_node asks.Cause) nodes) none (any_is (asks_node asks.Cause) nodes i node get (caused o node e))))

pub nothing_caused : (catalog : List Object) (nodes : List Node) (wanted : Object → Bool) → list_any (asks_node asks.Cause) nodes ≡ false → list_any wanted (rounds (length catalog) catalog nodes) ≡ false
nothing_caused catalog nodes wanted none =
    none_wanted catalog nodes wanted [] (nothing_found catalog nodes wanted) (λ at o get new. not_reached nodes o none)

pub nothing_reached : (catalog : List Object) (nodes : List Node) → list_any (asks_node asks.Cause) nodes ≡ false → IsAll catalog nodes []
nothing_reached catalog nodes none = record {
  found = nothing_found catalog nodes nothing_wanted;
  none = (λ at o get new. not_reached nodes o none);
}
