-- Whether a LIMIT is a name that is no local, asked as whether it is ill where all locals are numbers.
use Rattle.std.proofs.Common.{◌≡◌, ℕ, List, [], ◌∷◌, map, Bool, true, false, cond, not, Option, Some, None, Bor, arith, refl, ap, ◌∙◌}
use Rattle.std.specs.Prelude.{◌<◌, ◌≤◌, ◌||◌, min, nat_eq, nat_lt, is_none, is_some}
use Rattle.std.specs.List.{list_any}
use Rattle.std.specs.Option.{option_map, option_and_then}
use Rattle.std.specs.Cmp.Lexicographic.{pointwise}
use Rattle.std.proofs.lemmas.Bool.{lt-ltb, le-ltb}
use Rattle.sql_tree.specs.Statement.{Statement}
use Rattle.sql_tree.specs.declared.expressions.Count.{Count}
use Rattle.sql_tree.specs.declared.expressions.Count.TheVariants as counts
use Rattle.sql_locals.specs.Locals.{find_from, find_local}
use Rattle.sql_locals.specs.declared.locals.Local.{Local}
use Rattle.name_const_length.specs.catalog_rules.Nodes.{Node, a_name, a_column, a_new_column, an_old_column, an_inserted_value, a_user_variable, a_system_variable, a_built_in, a_random_number, a_function_call, a_table_read, a_limit, a_statement, nodes_of}
use Rattle.name_const_length.specs.sql_meaning.Frames.{number_or_none}
use Rattle.name_const_length.specs.sql_meaning.Running.{is_ill_count, is_ill_limit}
use Rattle.node_walk.specs.Asking.{asks_node}
use Rattle.node_walk.specs.declared.asking.Ask.TheVariants.{IllLimit}
use Rattle.name_const_length.specs.Growing.{greatest}
use Rattle.proc_model.specs.Closing.{is_nameless_count, is_nameless, limit_refusal, most_bytes}
use Rattle.name_const_checks.specs.Refusing.{numbered}

either_numbered : (b : Bool) (l : Local) (found : Option Local) → cond b (Some (numbered l)) (option_map numbered found) ≡ option_map numbered (cond b (Some l) found)
either_numbered true l found = refl
either_numbered false l found = refl

found_numbered : (found : Option Local) (ls : List Local) (n : List ℕ) → find_from (option_map numbered found) (map numbered ls) n ≡ option_map numbered (find_from found ls n)
found_numbered found [] n = refl
found_numbered found (l ∷ ls) n =
    let same = pointwise nat_eq l.name n in
    ap (λ (o : Option Local). find_from o (map numbered ls) n) (either_numbered same l found) ∙ found_numbered (cond same (Some l) found) ls n

number_of_none : (o : Option Local) → not (is_some (option_and_then (λ (l : Local). number_or_none l.value) (option_map numbered o))) ≡ is_none o
number_of_none None = refl
number_of_none (Some l) = refl

ill_numbered : (locals : List Local) (c : Count) → is_ill_count (map numbered locals) c ≡ is_nameless_count locals c
ill_numbered locals (counts.Number n) = refl
ill_numbered locals (counts.Name n) =
    ap (λ (o : Option Local). not (is_some (option_and_then (λ (l : Local). number_or_none l.value) o))) (found_numbered None locals n) ∙ number_of_none (find_local locals n)

asked_ill : (locals : Bor (List Local)) (node : Node) → asks_node (IllLimit locals) node ≡ is_ill_limit locals.now node
asked_ill locals (a_name sight n) = refl
asked_ill locals (a_column sight t c) = refl
asked_ill locals (a_new_column c) = refl
asked_ill locals (an_old_column c) = refl
asked_ill locals (an_inserted_value sight c) = refl
asked_ill locals (a_user_variable n) = refl
asked_ill locals (a_system_variable n) = refl
asked_ill locals (a_built_in f) = refl
asked_ill locals a_random_number = refl
asked_ill locals (a_function_call n count) = refl
asked_ill locals (a_table_read t) = refl
asked_ill locals (a_limit c) = refl
asked_ill locals (a_statement s) = refl

nameless_asked : (locals : List Local) (node : Node) → is_ill_limit (map numbered locals) node ≡ is_nameless locals node
nameless_asked locals (a_name sight n) = refl
nameless_asked locals (a_column sight t c) = refl
nameless_asked locals (a_new_column c) = refl
nameless_asked locals (an_old_column c) = refl
nameless_asked locals (an_inserted_value sight c) = refl
nameless_asked locals (a_user_variable n) = refl
nameless_asked locals (a_system_variable n) = refl
nameless_asked locals (a_built_in f) = refl
nameless_asked locals a_random_number = refl
nameless_asked locals (a_function_call n count) = refl
nameless_asked locals (a_table_read t) = refl
nameless_asked locals (a_limit c) = ill_numbered locals c
nameless_asked locals (a_statement s) = refl

-- a LIMIT that is ill is asked for
pub any_ill : (locals : Bor (List Local)) (nodes : List Node) → list_any (asks_node (IllLimit locals)) nodes ≡ list_any (is_ill_limit locals.now) nodes
any_ill locals nodes = λ i. list_any (λ node. asked_ill locals node i) nodes

-- and where all locals are numbers, one that is no local
pub any_nameless : (numbers locals : List Local) (nodes : List Node) → numbers ≡ map numbered locals → list_any (is_ill_limit numbers) nodes ≡ list_any (is_nameless locals) nodes
any_nameless numbers locals nodes e = (λ i. list_any (is_ill_limit (e i)) nodes) ∙ (λ i. list_any (λ node. nameless_asked locals node i) nodes)

-- ---- a name that is no local cannot be closed

named_of : (o : Option Local) → not (is_some (option_and_then (λ (l : Local). number_or_none l.value) o)) ≡ false → is_none o ≡ false
named_of None e = cc
named_of (Some l) e = refl

well_named : (locals : List Local) (node : Node) → is_ill_limit locals node ≡ false → is_nameless locals node ≡ false
well_named locals (a_name sight n) e = refl
well_named locals (a_column sight t c) e = refl
well_named locals (a_new_column c) e = refl
well_named locals (an_old_column c) e = refl
well_named locals (an_inserted_value sight c) e = refl
well_named locals (a_user_variable n) e = refl
well_named locals (a_system_variable n) e = refl
well_named locals (a_built_in f) e = refl
well_named locals a_random_number e = refl
well_named locals (a_function_call n count) e = refl
well_named locals (a_table_read t) e = refl
well_named locals (a_limit (counts.Number n)) e = refl
well_named locals (a_limit (counts.Name n)) e = named_of (find_local locals n) e
well_named locals (a_statement s) e = refl

neither : (a b a' b' : Bool) → (a ≡ false → a' ≡ false) → (b ≡ false → b' ≡ false) → (a || b) ≡ false → (a' || b') ≡ false
neither false b a' b' f g e = rw (f refl) (g e)
neither true b a' b' f g e = cc

all_named : (locals : List Local) (nodes : List Node) → list_any (is_ill_limit locals) nodes ≡ false → list_any (is_nameless locals) nodes ≡ false
all_named locals [] e = refl
all_named locals (x ∷ nodes) e = neither (is_ill_limit locals x) (list_any (is_ill_limit locals) nodes) _ _ (well_named locals x) (all_named locals nodes) e

-- nothing refuses the LIMITs of a statement where none is ill
pub no_refusal : (s : Statement) (locals : List Local) → list_any (is_ill_limit locals) (nodes_of s) ≡ false → limit_refusal s locals ≡ None
no_refusal s locals e = λ i. cond (all_named locals (nodes_of s) e i) (Some 1327) (cond (e i) (Some 30002) None)

-- ---- a text that is too long

pub too_long : (n total : ℕ) → total ≡ min n greatest → 1048576 < total → nat_lt most_bytes n ≡ true
too_long n total e long = lt-ltb most_bytes n (omega (arith, e, long))

pub short_enough : (n total : ℕ) → total ≡ min n greatest → total ≤ 1048576 → nat_lt most_bytes n ≡ false
short_enough n total e short = le-ltb most_bytes n (omega (arith, e, short))
