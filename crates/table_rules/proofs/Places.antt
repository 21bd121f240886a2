-- Tables by their places.
use Rattle.std.proofs.Common.{◌≡◌, ℕ, zero, suc, ◌+◌, List, [], ◌∷◌, map, length, Bool, true, false, not, nat_lt, cond, Option, Some, None, Err, refl, sym, ap, ◌∙◌, arith}
use Rattle.std.specs.List.{position_or_len}
use Rattle.std.proofs.lemmas.Bool.Decides.{nat_tests}
use Rattle.std.specs.Prelude.{nat_eq, find, position, slice_get}
use Rattle.std.specs.Option.{option_map, option_map_or, option_and_then}
use Rattle.std.specs.Cmp.Lexicographic.{pointwise}
use Rattle.std.proofs.lemmas.Bool.{and_parts, and_from, eqb-true, eq-eqb}
use Rattle.val_types.specs.declared.value.Value.{Value}
use Rattle.val_types.specs.declared.definitions.TableDef.{TableDef}
use Rattle.val_types.specs.Fitting.{row_fits}
use Rattle.val_types.specs.Keys.{primary_key}
use Rattle.val_types.proofs.Lookup.{place_mapped, missing, unchanged, all_left}
use Rattle.table_rules.specs.Tables.{Table}
use Rattle.table_rules.specs.Stored.{has_name, table_named, row_of_key, row_at, row_absent, insertion, replacement, deletion, keys_at, fits_table, tables_beside, tables_cleared}
use Rattle.table_rules.specs.Stores.{place_of, PlaceIsOfName, PlaceHasName, FitsByPlace, PlacesStay}
use Rattle.table_rules.proofs.Equations.{none_inserted, none_replaced, none_deleted}

-- ---- names

pub name_is : (a b : List ℕ) → pointwise nat_eq a b ≡ true → a ≡ b
name_is [] [] e = refl
name_is [] (y ∷ ys) e = cc
name_is (x ∷ xs) [] e = cc
name_is (x ∷ xs) (y ∷ ys) e =
    let parts = and_parts (nat_eq x y) (pointwise nat_eq xs ys) e in
    let first : x ≡ y = eqb-true x y parts.0 in
    let rest : xs ≡ ys = name_is xs ys parts.1 in cc

pub name_self : (a : List ℕ) → pointwise nat_eq a a ≡ true
name_self [] = refl
name_self (x ∷ xs) = and_from (nat_eq x x) (pointwise nat_eq xs xs) (eq-eqb x x refl) (name_self xs)

-- ---- places

shifted : (within : Bool) (k : ℕ) → cond within (Some (suc k)) None ≡ option_map suc (cond within (Some k) None)
shifted true k = refl
shifted false k = refl

place_step : (here : Bool) (k n : ℕ)
    → cond (nat_lt (cond (not here) (1 + k) 0) (suc n)) (Some (cond (not here) (1 + k) 0)) None ≡ cond here (Some 0) (option_map suc (cond (nat_lt k n) (Some k) None))
place_step true k n =
    let within : nat_lt 0 (suc n) ≡ true = grind (arith, nat_tests) in ap (λ (b : Bool). cond b (Some 0) None) within
place_step false k n =
    let one : 1 + k ≡ suc k = omega arith in
    let within : nat_lt (suc k) (suc n) ≡ nat_lt k n = grind (arith, nat_tests) in
    ap (λ (m : ℕ). cond (nat_lt m (suc n)) (Some m) None) one
    ∙ ap (λ (b : Bool). cond b (Some (suc k)) None) within
    ∙ shifted (nat_lt k n) k

module _ {X : Type 0} (test : X → Bool) where
  -- the place among one item more
  pub place : (x : X) (xs : List X) → position test (x ∷ xs) ≡ cond (test x) (Some 0) (option_map suc (position test xs))
  place x xs = place_step (test x) (position_or_len test xs) (length xs)

  at_step : (here : Bool) (x : X) (xs : List X) (at : Option ℕ) (o : Option X) (i : ℕ) → test x ≡ here → ((j : ℕ) → at ≡ Some j → (slice_get xs j ≡ o) × (option_map test o ≡ Some true))
      → cond here (Some 0) (option_map suc at) ≡ Some i → (slice_get (x ∷ xs) i ≡ cond here (Some x) o) × (option_map test (cond here (Some x) o) ≡ Some true)
  at_step true x xs at o zero e later f = (refl, ap (λ (b : Bool). Some b) e)
  at_step true x xs at o (suc i) e later f = cc
  at_step false x xs None o i e later f = cc
  at_step false x xs (Some j) o zero e later f = cc
  at_step false x xs (Some j) o (suc i) e later f = let same : Some j ≡ Some i = cc in later i same

  -- the first item that passes stands at its place
  pub at_place : (xs : List X) (i : ℕ) → position test xs ≡ Some i → (slice_get xs i ≡ find test xs) × (option_map test (find test xs) ≡ Some true)
  at_place [] i e = cc
  at_place (x ∷ xs) i e = at_step (test x) x xs (position test xs) (find test xs) i refl (λ j at. at_place xs j at) (sym (place x xs) ∙ e)

pub place_is_of_name : PlaceIsOfName
place_is_of_name name tables at e = (at_place (has_name name) tables at e).0

get_mapped : {X Y : Type 0} (f : X → Y) (xs : List X) (i : ℕ) → slice_get (map f xs) i ≡ option_map f (slice_get xs i)
get_mapped f [] i = refl
get_mapped f (x ∷ xs) zero = refl
get_mapped f (x ∷ xs) (suc i) = get_mapped f xs i

named_of : (name : List ℕ) (o : Option Table) → option_map (has_name name) o ≡ Some true → option_map (λ (t : Table). t.definition.name) o ≡ Some name
named_of name None e = cc
named_of name (Some t) e =
    let named : has_name name t ≡ true = cc in ap (λ (n : List ℕ). Some n) (sym (name_is name t.definition.name named))

mapped_twice : (o : Option Table) → option_map (λ (d : TableDef). d.name) (option_map (λ (t : Table). t.definition) o) ≡ option_map (λ (t : Table). t.definition.name) o
mapped_twice None = refl
mapped_twice (Some t) = refl

pub place_has_name : PlaceHasName
place_has_name name tables at e =
    let found = at_place (has_name name) tables at e in
    ap (option_map (λ (d : TableDef). d.name)) (get_mapped (λ (t : Table). t.definition) tables at ∙ ap (option_map (λ (t : Table). t.definition)) found.0)
    ∙ mapped_twice (table_named name tables)
    ∙ named_of name (table_named name tables) found.1

pub fits_by_place : FitsByPlace
fits_by_place name row tables at e = ap (λ (o : Option Table). option_map_or (λ (t : Table). row_fits t.definition.columns row) o true) (place_is_of_name name tables at e)

pub places_stay : PlacesStay
places_stay name old new same =
    sym (place_mapped (λ (t : Table). t.definition) (λ (d : TableDef). pointwise nat_eq name d.name) new)
    ∙ ap (position (λ (d : TableDef). pointwise nat_eq name d.name)) same
    ∙ place_mapped (λ (t : Table). t.definition) (λ (d : TableDef). pointwise nat_eq name d.name) old

-- ---- where there is no table of a name

pub none_named : (name : List ℕ) (ts : List Table) → place_of name ts ≡ None → table_named name ts ≡ None
none_named name ts e = missing (has_name name) ts e

pub nothing_inserted : (name : List ℕ) (row : List Value) (ts : List Table) → place_of name ts ≡ None → insertion name row ts ≡ Err row_absent
nothing_inserted name row ts e = none_inserted name row ts (none_named name ts e)

pub nothing_replaced : (name : List ℕ) (key row : List Value) (ts : List Table) → place_of name ts ≡ None → replacement name key row ts ≡ Err row_absent
nothing_replaced name key row ts e = none_replaced name key row ts (none_named name ts e)

pub nothing_deleted : (name : List ℕ) (key : List Value) (ts : List Table) → place_of name ts ≡ None → deletion name key ts ≡ Err row_absent
nothing_deleted name key ts e = none_deleted name key ts (none_named name ts e)

pub no_row : (name : List ℕ) (key : List Value) (ts : List Table) → place_of name ts ≡ None → row_at name key ts ≡ None
no_row name key ts e = ap (option_and_then (λ (t : Table). row_of_key t.definition key t.rows)) (none_named name ts e)

pub no_keys : (name : List ℕ) (ts : List Table) → place_of name ts ≡ None → keys_at name ts ≡ []
no_keys name ts e = ap (λ (o : Option Table). option_map_or (λ (t : Table). map (primary_key t.definition) t.rows) o []) (none_named name ts e)

pub all_fit : (name : List ℕ) (row : List Value) (ts : List Table) → place_of name ts ≡ None → fits_table name row ts ≡ true
all_fit name row ts e = ap (λ (o : Option Table). option_map_or (λ (t : Table). row_fits t.definition.columns row) o true) (none_named name ts e)

pub nothing_cleared : (name : List ℕ) (ts : List Table) → place_of name ts ≡ None → ts ≡ tables_cleared name ts
nothing_cleared name ts e = sym (unchanged (has_name name) (λ table. record table { rows = [] }) ts e)

pub nothing_dropped : (name : List ℕ) (ts : List Table) → place_of name ts ≡ None → ts ≡ tables_beside name ts
nothing_dropped name ts e = sym (all_left (has_name name) ts e)
