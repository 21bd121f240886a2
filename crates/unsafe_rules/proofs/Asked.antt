-- What the walk is asked says whether an object is reached.
use Rattle.std.proofs.Common.{◌≡◌, ℕ, Bool, false, ◌||◌, List, [], ◌∷◌, slice_get, Option, Some, None, refl, sym, ap, ◌∙◌, Bor}
use Rattle.std.specs.List.{list_any}
use Rattle.sql_tree.specs.Statement.{Program, Trigger, trigger}
use Rattle.val_types.specs.declared.definitions.TableDef.{TableDef}
use Rattle.sql_tree.specs.StatementView.{view_trigger}
use Rattle.sql_tree.specs.declared.statements.TriggerDef.{TriggerDef}
use Rattle.session_ctx.specs.catalog_rules.Objects.{Object, table, function, procedure, reaction, name_of}
use Rattle.session_ctx.specs.catalog_rules.Nodes.{Node, a_name, a_column, a_new_column, an_old_column, an_inserted_value, a_user_variable, a_system_variable, a_built_in, a_random_number, a_function_call, a_table_read, a_limit, a_statement}
use Rattle.session_ctx.specs.catalog_rules.Names.{same_name}
use Rattle.sql_reach.specs.Reach.{body_nodes, fires_trigger, holds_change}
use Rattle.node_walk.specs.declared.asking.Ask.TheVariants as asks
use Rattle.node_walk.specs.declared.asking.Ask.{Ask}
use Rattle.node_walk.specs.Asking.{asks_node}
use Rattle.unsafe_rules.specs.Reaching.{reaches, body_reaches, is_reached, in_place, in_found}
use Rattle.unsafe_rules.proofs.Elements.{any_same, none_of}

both : (a b c d : Bool) → a ≡ b → c ≡ d → (a || c) ≡ (b || d)
both a b c d e f = cc

place_reached : (ask : Ask) (o : Object) → ((node : Node) → reaches o node ≡ asks_node ask node) → (found : Option Object) → body_reaches o found ≡ in_place ask found
place_reached ask o same None = refl
place_reached ask o same (Some x) = any_same (reaches o) (asks_node ask) (body_nodes x) same

-- an object is reached just where the walk finds a node of which is asked what reaches the object
pub found_reached : (ask : Ask) (catalog : List Object) (nodes : List Node) (places : List ℕ) (o : Object) → ((node : Node) → reaches o node ≡ asks_node ask node)
    → is_reached catalog nodes places o ≡ in_found ask catalog nodes places
found_reached ask catalog nodes [] o same = any_same (reaches o) (asks_node ask) nodes same
found_reached ask catalog nodes (at ∷ places) o same = both _ _ _ _ (place_reached ask o same (slice_get catalog at)) (found_reached ask catalog nodes places o same)

-- an object that nothing reaches
pub never_reached : (catalog : List Object) (ns : List Node) (places : List ℕ) (o : Object) → ((node : Node) → reaches o node ≡ false) → is_reached catalog ns places o ≡ false
never_reached catalog ns [] o none = any_same (reaches o) (λ node. false) ns none ∙ none_of ns
never_reached catalog ns (at ∷ places) o none = both _ _ _ _ (by_place (slice_get catalog at) none) (never_reached catalog ns places o none) where
  by_place : (found : Option Object) → ((node : Node) → reaches o node ≡ false) → body_reaches o found ≡ false
  by_place None h = refl
  by_place (Some x) h = any_same (reaches o) (λ node. false) (body_nodes x) h ∙ none_of (body_nodes x)

by_name : (p : Program) (name : Bor (List ℕ)) → name.now ≡ name_of p → (node : Node) → reaches (function p) node ≡ asks_node (asks.Function name) node
by_name p name e (a_name sight n) = refl
by_name p name e (a_column sight t c) = refl
by_name p name e (a_new_column c) = refl
by_name p name e (an_old_column c) = refl
by_name p name e (an_inserted_value sight c) = refl
by_name p name e (a_user_variable n) = refl
by_name p name e (a_system_variable n) = refl
by_name p name e (a_built_in f) = refl
by_name p name e a_random_number = refl
by_name p name e (a_function_call n count) = ap (λ own. same_name own n) (sym e)
by_name p name e (a_table_read t) = refl
by_name p name e (a_limit c) = refl
by_name p name e (a_statement s) = refl

by_event : (t : Trigger) (own : Bor TriggerDef) → view_trigger own.now ≡ t → (node : Node) → reaches (reaction t) node ≡ asks_node (asks.Trigger own) node
by_event (trigger n time event on body) own e (a_name sight m) = refl
by_event (trigger n time event on body) own e (a_column sight d c) = refl
by_event (trigger n time event on body) own e (a_new_column c) = refl
by_event (trigger n time event on body) own e (an_old_column c) = refl
by_event (trigger n time event on body) own e (an_inserted_value sight c) = refl
by_event (trigger n time event on body) own e (a_user_variable m) = refl
by_event (trigger n time event on body) own e (a_system_variable m) = refl
by_event (trigger n time event on body) own e (a_built_in f) = refl
by_event (trigger n time event on body) own e a_random_number = refl
by_event (trigger n time event on body) own e (a_function_call m count) = refl
by_event (trigger n time event on body) own e (a_table_read d) = refl
by_event (trigger n time event on body) own e (a_limit c) = refl
by_event (trigger n time event on body) own e (a_statement s) = ap (λ t. fires_trigger t (a_statement s)) (sym e)

-- a function is reached just where a call of its name is found
pub function_found : (catalog : List Object) (nodes : List Node) (places : List ℕ) (p : Program) (name : Bor (List ℕ)) → name.now ≡ name_of p
    → in_found (asks.Function name) catalog nodes places ≡ is_reached catalog nodes places (function p)
function_found catalog nodes places p name e = sym (found_reached (asks.Function name) catalog nodes places (function p) (by_name p name e))

-- a trigger where a statement is found that causes what it waits for
pub trigger_found : (catalog : List Object) (nodes : List Node) (places : List ℕ) (own : Bor TriggerDef)
    → in_found (asks.Trigger own) catalog nodes places ≡ is_reached catalog nodes places (reaction (view_trigger own.now))
trigger_found catalog nodes places own = sym (found_reached (asks.Trigger own) catalog nodes places (reaction (view_trigger own.now)) (by_event (view_trigger own.now) own refl))

-- tables and procedures never
pub table_not_found : (catalog : List Object) (ns : List Node) (places : List ℕ) (d : TableDef) → is_reached catalog ns places (table d) ≡ false
table_not_found catalog ns places d = never_reached catalog ns places (table d) (λ node. refl)

pub procedure_not_found : (catalog : List Object) (ns : List Node) (places : List ℕ) (p : Program) → is_reached catalog ns places (procedure p) ≡ false
procedure_not_found catalog ns places p = never_reached catalog ns places (procedure p) (λ node. refl)

change_asked : (node : Node) → holds_change node ≡ asks_node asks.Change node
change_asked (a_name sight n) = refl
change_asked (a_column sight t c) = refl
change_asked (a_new_column c) = refl
change_asked (an_old_column c) = refl
change_asked (an_inserted_value sight c) = refl
change_asked (a_user_variable n) = refl
change_asked (a_system_variable n) = refl
change_asked (a_built_in f) = refl
change_asked a_random_number = refl
change_asked (a_function_call n count) = refl
change_asked (a_table_read t) = refl
change_asked (a_limit c) = refl
change_asked (a_statement s) = refl

-- changes that are found
pub changes_asked : (nodes : List Node) → list_any (asks_node asks.Change) nodes ≡ list_any holds_change nodes
changes_asked nodes = sym (any_same holds_change (asks_node asks.Change) nodes change_asked)
