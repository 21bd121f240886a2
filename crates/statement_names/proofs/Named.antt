-- Names put one after the other are names in the order of their bytes.
use Rattle.std.proofs.Common.{◌≡◌, ℕ, List, [], ◌∷◌, Option, Some, None, Ordering, Less, Equal, Greater, refl, sym, ap, ◌∙◌}
use Rattle.std.specs.Ordering.{ordering_reverse}
use Rattle.std.proofs.lemmas.Map.Lookups.{exact_bytes}
use Rattle.sql_reach.specs.catalog_rules.Nodes.{Node, a_name, a_column, a_new_column, an_old_column, an_inserted_value, a_user_variable, a_system_variable, a_built_in, a_random_number, a_function_call, a_table_read, a_limit, a_statement, table_changed}
use Rattle.sql_reach.specs.Carrying.{put_by_order, put_name}
use Rattle.statement_names.specs.Naming.{nodes_put, variables, NamesAreInByteOrder}
use Rattle.statement_names.specs.Visiting.{nodes_visited, table_visited}
use Rattle.statement_names.specs.Rising.{by_bytes}
use Rattle.statement_names.proofs.Placed.{total}

turned : (a b : List ℕ) (o : Ordering) → by_bytes a b ≡ o → by_bytes b a ≡ ordering_reverse o
turned a b o e = total.antisymm b a ∙ ap ordering_reverse e

-- two names behind which the same stand, put in either order
pair : (a b : List ℕ) (rest : List (List ℕ)) (o : Ordering) → by_bytes a b ≡ o → put_by_order (by_bytes a b) a b rest (a ∷ rest) ≡ put_by_order (by_bytes b a) b a rest (b ∷ rest)
pair a b rest Less e = rw e (rw (turned a b Less e) refl)
pair a b rest Equal e = rw e (rw (turned a b Equal e) (ap (λ (n : List ℕ). n ∷ rest) (sym (exact_bytes a b e))))
pair a b rest Greater e = rw e (rw (turned a b Greater e) refl)

-- two names before, at or behind the first of others
swapped : (a b x : List ℕ) (xs : List (List ℕ)) (p q : Ordering) → by_bytes a x ≡ p → by_bytes b x ≡ q → put_name a (put_name b xs) ≡ put_name b (put_name a xs)
    → put_name a (put_by_order q b x xs (put_name b xs)) ≡ put_name b (put_by_order p a x xs (put_name a xs))
swapped a b x xs Less Less e f later = rw e (rw f (pair a b (x ∷ xs) (by_bytes a b) refl))
swapped a b x xs Less Equal e f later =
    let same : b ≡ x = exact_bytes b x f in
    let behind : by_bytes b a ≡ Greater = turned a b Less (ap (by_bytes a) same ∙ e) in
    rw e (rw behind (rw f refl))
swapped a b x xs Less Greater e f later =
    let behind : by_bytes b a ≡ Greater = turned a b Less (total.trans a x b e (turned b x Greater f)) in
    rw e (rw behind (rw f refl))
swapped a b x xs Equal Less e f later =
    let same : a ≡ x = exact_bytes a x e in
    let behind : by_bytes a b ≡ Greater = turned b a Less (ap (by_bytes b) same ∙ f) in
    rw f (rw behind (rw e refl))
swapped a b x xs Equal Equal e f later = rw e (rw f refl)
swapped a b x xs Equal Greater e f later = rw e (rw f refl)
swapped a b x xs Greater Less e f later =
    let behind : by_bytes a b ≡ Greater = turned b a Less (total.trans b x a f (turned a x Greater e)) in
    rw f (rw behind (rw e refl))
swapped a b x xs Greater Equal e f later = rw e (rw f refl)
swapped a b x xs Greater Greater e f later = rw e (rw f (ap (λ (rest : List (List ℕ)). x ∷ rest) later))

either_order : (a b : List ℕ) (names : List (List ℕ)) → put_name a (put_name b names) ≡ put_name b (put_name a names)
either_order a b [] = pair a b [] (by_bytes a b) refl
either_order a b (x ∷ xs) = swapped a b x xs (by_bytes a x) (by_bytes b x) refl refl (either_order a b xs)

-- tables leave names as they are
no_table : (t : Option (List ℕ)) (names : List (List ℕ)) → table_visited variables t names ≡ names
no_table None names = refl
no_table (Some t) names = refl

-- a name put first is a name put last
put_late : (name : List ℕ) (nodes : List Node) (names : List (List ℕ)) → nodes_put nodes (put_name name names) ≡ put_name name (nodes_put nodes names)
put_late name [] names = refl
put_late name (a_user_variable n ∷ nodes) names = ap (nodes_put nodes) (either_order n name names) ∙ put_late name nodes (put_name n names)
put_late name (a_name sight n ∷ nodes) names = put_late name nodes names
put_late name (a_column sight t c ∷ nodes) names = put_late name nodes names
put_late name (a_new_column c ∷ nodes) names = put_late name nodes names
put_late name (an_old_column c ∷ nodes) names = put_late name nodes names
put_late name (an_inserted_value sight c ∷ nodes) names = put_late name nodes names
put_late name (a_system_variable n ∷ nodes) names = put_late name nodes names
put_late name (a_built_in f ∷ nodes) names = put_late name nodes names
put_late name (a_random_number ∷ nodes) names = put_late name nodes names
put_late name (a_function_call n count ∷ nodes) names = put_late name nodes names
put_late name (a_table_read t ∷ nodes) names = put_late name nodes names
put_late name (a_limit c ∷ nodes) names = put_late name nodes names
put_late name (a_statement s ∷ nodes) names =
    ap (nodes_put nodes) (no_table (table_changed s) (put_name name names)) ∙ put_late name nodes names
    ∙ ap (λ more. put_name name (nodes_put nodes more)) (sym (no_table (table_changed s) names))

pub in_order : NamesAreInByteOrder
in_order [] = refl
in_order (a_user_variable n ∷ nodes) = put_late n nodes [] ∙ ap (put_name n) (in_order nodes)
in_order (a_name sight n ∷ nodes) = in_order nodes
in_order (a_column sight t c ∷ nodes) = in_order nodes
in_order (a_new_column c ∷ nodes) = in_order nodes
in_order (an_old_column c ∷ nodes) = in_order nodes
in_order (an_inserted_value sight c ∷ nodes) = in_order nodes
in_order (a_system_variable n ∷ nodes) = in_order nodes
in_order (a_built_in f ∷ nodes) = in_order nodes
in_order (a_random_number ∷ nodes) = in_order nodes
in_order (a_function_call n count ∷ nodes) = in_order nodes
in_order (a_table_read t ∷ nodes) = in_order nodes
in_order (a_limit c ∷ nodes) = in_order nodes
in_order (a_statement s ∷ nodes) = ap (nodes_put nodes) (no_table (table_changed s) []) ∙ in_order nodes
