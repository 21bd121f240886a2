-- How many expressions there are, and calls of routines that were looked for.
use Rattle.std.proofs.Common.{◌≡◌, ℕ, suc, ◌+◌, Bool, true, false, not, ◌||◌, ◌&&◌, List, [], ◌∷◌, length, map, min, Option, Some, None, refl, sym, ap, ◌∙◌, arith}
use Rattle.std.specs.List.{list_any, enumerate_from}
use Rattle.std.proofs.lemmas.Bool.Decides.{nat_tests}
use Rattle.val_types.specs.declared.ops.Agg.{Agg}
use Rattle.val_types.specs.declared.definitions.TableDef.{TableDef}
use Rattle.val_types.specs.declared.definitions.ColumnDef.{ColumnDef}
use Rattle.sql_tree.specs.Tree.{Tree, Aggregates}
use Rattle.sql_tree.specs.declared.expressions.Aggregate.{Aggregate}
use Rattle.catalog_objects.specs.catalog_rules.Names.{same_name, is_among, has_twice}
use Rattle.catalog_objects.specs.catalog_rules.Objects.{columns_of}
use Rattle.catalog_objects.specs.catalog_rules.Checks.{has_width, count_of_aggregates, is_left_out, must_be_given}
use Rattle.std.specs.Option.{option_map}
use Rattle.std.specs.Prelude.{◌==◌, nat_eq}
use Rattle.sql_tree.specs.declared.expressions.Expr.{Expr}
use Rattle.sql_tree.specs.declared.statements.Routine.{Routine}
use Rattle.sql_tree.specs.Statement.{Program}
use Rattle.sql_tree.specs.View.{view_trees, view_aggregate, view_aggregates, aggregate_before}
use Rattle.sql_tree.specs.StatementView.{view_program}
use Rattle.catalog_objects.specs.catalog_rules.Nodes.{count_of_trees}
use Rattle.catalog_objects.specs.catalog_rules.Objects.{parameters_of}
use Rattle.sql_tree.specs.Statement.{Supply}
use Rattle.std.proofs.lemmas.List.{length-map}
use Rattle.catalog_objects.specs.catalog_rules.Ranks.{Asked, given_rank, rank_unless}
use Rattle.catalog_objects.proofs.Parts.{program_seen}
use Rattle.catalog_checks.specs.Asking.{called_rank}

pub counted : (es : List Expr) → length es ≡ count_of_trees (view_trees es)
counted [] = refl
counted (e ∷ es) = let rest : length es ≡ count_of_trees (view_trees es) = counted es in ap (λ (k : ℕ). suc k) rest

called_as : (r : Option Routine) (count : ℕ) → called_rank r count ≡ elim (option_map view_program r) as (λ _. ℕ) [ None ↦ 2 | Some p ↦ rank_unless (length (parameters_of p) == count) 3 ]
called_as None count = refl
called_as (Some r) count = ap (λ (p : Program). rank_unless (length (parameters_of p) == count) 3) (sym (program_seen r))

-- a call is refused by what is found under the name
pub called_found : (r : Option Routine) (found : Option Program) (count : ℕ) → option_map view_program r ≡ found
    → called_rank r count ≡ elim found as (λ _. ℕ) [ None ↦ 2 | Some p ↦ rank_unless (length (parameters_of p) == count) 3 ]
called_found r found count e =
    called_as r count ∙ ap (λ (o : Option Program). elim o as (λ _. ℕ) [ None ↦ 2 | Some p ↦ rank_unless (length (parameters_of p) == count) 3 ]) e

counted_step : (a : Option (Agg × Tree)) (n : ℕ) (rest : Aggregates) → n ≡ count_of_aggregates rest → suc n ≡ count_of_aggregates (aggregate_before a rest)
counted_step None n rest e = ap (λ (k : ℕ). suc k) e
counted_step (Some a) n rest e = ap (λ (k : ℕ). suc k) e

pub aggregates_counted : (as' : List Aggregate) → length as' ≡ count_of_aggregates (view_aggregates as')
aggregates_counted [] = refl
aggregates_counted (a ∷ as') = counted_step (view_aggregate a) (length as') (view_aggregates as') (aggregates_counted as')

-- ---- where no column is named all are given

same_self : (name : List ℕ) → same_name name name ≡ true
same_self [] = refl
same_self (x ∷ xs) = let here : nat_eq x x ≡ true = grind (arith, nat_tests) in rw here (same_self xs)

-- names of which each is among others are none of them unknown
none_unknown : (names others : List (List ℕ)) → ((c : List ℕ) → is_among names c ≡ true → is_among others c ≡ true) → list_any (λ c. not (is_among others c)) names ≡ false
none_unknown [] others h = refl
none_unknown (n ∷ ns) others h =
    let first : is_among others n ≡ true = h n (rw (same_self n) refl) in
    rw first (none_unknown ns others (λ c e. h c (more (same_name c n) (is_among ns c) e)))
  where
    more : (a b : Bool) → b ≡ true → (a || b) ≡ true
    more true b e = refl
    more false b e = e

pub all_known : (names : List (List ℕ)) → list_any (λ c. not (is_among names c)) names ≡ false
all_known names = none_unknown names names (λ c e. e)

-- of columns of which each is given, none is left out
none_out : (d : TableDef) (given : List (List ℕ)) (k : ℕ) (cs : List ColumnDef) → ((c : List ℕ) → is_among (map (λ (c : ColumnDef). c.name) cs) c ≡ true → is_among given c ≡ true)
    → list_any (is_left_out d given) (enumerate_from k cs) ≡ false
none_out d given k [] h = refl
none_out d given k (c ∷ cs) h =
    let first : is_among given c.name ≡ true = h c.name (rw (same_self c.name) refl) in
    let here : (must_be_given d (k, c) && not (is_among given c.name)) ≡ false = rw first (never (must_be_given d (k, c))) in
    rw here (none_out d given (k + 1) cs (λ n e. h n (more (same_name n c.name) (is_among (map (λ (c : ColumnDef). c.name) cs) n) e)))
  where
    never : (b : Bool) → (b && false) ≡ false
    never true = refl
    never false = refl

    more : (a b : Bool) → b ≡ true → (a || b) ≡ true
    more true b e = refl
    more false b e = e

pub all_in : (d : TableDef) → list_any (is_left_out d (columns_of d)) (enumerate_from 0 d.columns) ≡ false
all_in d = none_out d (columns_of d) 0 d.columns (λ c e. e)

given_step : (a b : Bool) → min (rank_unless a 6) (rank_unless b 7) ≡ min (rank_unless (not false) 1) (min (rank_unless a 6) (min (rank_unless b 7) (rank_unless (not false) 9)))
given_step true true = refl
given_step true false = refl
given_step false true = refl
given_step false false = refl

-- where no column is named
pub all_given_is : (asked : Asked) (from : Supply) (d : TableDef)
    → min (rank_unless (not (has_twice (columns_of d))) 6) (rank_unless (has_width asked.catalog (length d.columns) from) 7) ≡ given_rank asked None from d
all_given_is asked from d =
    let known = sym (all_known (columns_of d)) in
    let out = sym (all_in d) in
    let count = sym (length-map d.columns (λ (c : ColumnDef). c.name)) in
    given_step (not (has_twice (columns_of d))) (has_width asked.catalog (length d.columns) from)
    ∙ (λ i. min (rank_unless (not (known i)) 1) (min (rank_unless (not (has_twice (columns_of d))) 6) (min (rank_unless (has_width asked.catalog (count i) from) 7) (rank_unless (not (out i)) 9))))
