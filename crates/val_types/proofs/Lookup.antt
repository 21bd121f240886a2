-- The first item that passes a test, by its place.
use Rattle.std.proofs.Common.{◌≡◌, ℕ, zero, suc, ◌+◌, ◌<◌, List, [], ◌∷◌, length, map, get_or, Bool, true, false, not, nat_lt, cond, Option, Some, None, refl, sym, ap, ◌∙◌, arith}
use Rattle.std.specs.Prelude.{slice_set, find, position}
use Rattle.std.specs.List.{remove, position_or_len}
use Rattle.std.specs.Option.{option_map}
use Rattle.std.proofs.lemmas.Bool.Decides.{nat_tests}
use Rattle.val_types.specs.Lookup.{change_first, remove_first}

shifted : (within : Bool) (k : ℕ) → cond within (Some (suc k)) None ≡ option_map suc (cond within (Some k) None)
shifted true k = refl
shifted false k = refl

place_step : (here : Bool) (k n : ℕ)
    → cond (nat_lt (cond (not here) (1 + k) 0) (suc n)) (Some (cond (not here) (1 + k) 0)) None ≡ cond here (Some 0) (option_map suc (cond (nat_lt k n) (Some k) None))
place_step true k n =
    let within : nat_lt 0 (suc n) ≡ true = grind (arith, nat_tests) in ap (λ (b : Bool). cond b (Some 0) None) within
place_step false k n =
    let one : 1 + k ≡ suc k = omega arith in
    let within : nat_lt (suc k) (suc n) ≡ nat_lt k n = grind (arith, nat_tests) in
    ap (λ (m : ℕ). cond (nat_lt m (suc n)) (Some m) None) one
    ∙ ap (λ (b : Bool). cond b (Some (suc k)) None) within
    ∙ shifted (nat_lt k n) k

module _ {X : Type 0} (test : X → Bool) where
  -- the place among one item more
  place : (x : X) (xs : List X) → position test (x ∷ xs) ≡ cond (test x) (Some 0) (option_map suc (position test xs))
  place x xs = place_step (test x) (position_or_len test xs) (length xs)

  -- ---- where one passes

  found_step : (here : Bool) (x d : X) (xs : List X) (at : Option ℕ) (o : Option X) (i : ℕ) → ((j : ℕ) → at ≡ Some j → d ≡ get_or xs j d → o ≡ Some d)
      → cond here (Some 0) (option_map suc at) ≡ Some i → d ≡ get_or (x ∷ xs) i d → cond here (Some x) o ≡ Some d
  found_step true x d xs at o zero later e is = ap (λ (y : X). Some y) (sym is)
  found_step true x d xs at o (suc i) later e is = cc
  found_step false x d xs None o i later e is = cc
  found_step false x d xs (Some j) o zero later e is = cc
  found_step false x d xs (Some j) o (suc i) later e is = let same : Some j ≡ Some i = cc in later i same is

  -- what stands at the place is the item
  pub found : (xs : List X) (i : ℕ) (d : X) → position test xs ≡ Some i → d ≡ get_or xs i d → find test xs ≡ Some d
  found [] i d e is = cc
  found (x ∷ xs) i d e is = found_step (test x) x d xs (position test xs) (find test xs) i (λ j at here. found xs j d at here) (sym (place x xs) ∙ e) is

  changed_step : (here : Bool) (change : X → X) (x y d : X) (xs more : List X) (at : Option ℕ) (i : ℕ) → ((j : ℕ) → at ≡ Some j → d ≡ get_or xs j d → slice_set xs j y ≡ more)
      → cond here (Some 0) (option_map suc at) ≡ Some i → d ≡ get_or (x ∷ xs) i d → y ≡ change d → slice_set (x ∷ xs) i y ≡ cond here (change x ∷ xs) (x ∷ more)
  changed_step true change x y d xs more at zero later e is new = ap (λ (z : X). z ∷ xs) (new ∙ ap change is)
  changed_step true change x y d xs more at (suc i) later e is new = cc
  changed_step false change x y d xs more None i later e is new = cc
  changed_step false change x y d xs more (Some j) zero later e is new = cc
  changed_step false change x y d xs more (Some j) (suc i) later e is new = let same : Some j ≡ Some i = cc in ap (λ (rest : List X). x ∷ rest) (later i same is)

  -- a write there changes it
  pub changed : (change : X → X) (xs : List X) (i : ℕ) (y d : X) → position test xs ≡ Some i → d ≡ get_or xs i d → y ≡ change d → slice_set xs i y ≡ change_first test change xs
  changed change [] i y d e is new = cc
  changed change (x ∷ xs) i y d e is new =
      changed_step (test x) change x y d xs (change_first test change xs) (position test xs) i (λ j at here. changed change xs j y d at here new) (sym (place x xs) ∙ e) is new

  replaced_step : (here : Bool) (x y : X) (xs more : List X) (at : Option ℕ) (i : ℕ) → ((j : ℕ) → at ≡ Some j → slice_set xs j y ≡ more)
      → cond here (Some 0) (option_map suc at) ≡ Some i → slice_set (x ∷ xs) i y ≡ cond here (y ∷ xs) (x ∷ more)
  replaced_step true x y xs more at zero later e = refl
  replaced_step true x y xs more at (suc i) later e = cc
  replaced_step false x y xs more None i later e = cc
  replaced_step false x y xs more (Some j) zero later e = cc
  replaced_step false x y xs more (Some j) (suc i) later e = ap (λ (rest : List X). x ∷ rest) (later i cc)

  -- another item there takes its place
  pub replaced : (y : X) (xs : List X) (i : ℕ) → position test xs ≡ Some i → slice_set xs i y ≡ change_first test (λ x. y) xs
  replaced y [] i e = cc
  replaced y (x ∷ xs) i e = replaced_step (test x) x y xs (change_first test (λ z. y) xs) (position test xs) i (λ j at. replaced y xs j at) (sym (place x xs) ∙ e)

  removed_step : (here : Bool) (x : X) (xs more : List X) (at : Option ℕ) (i : ℕ) → ((j : ℕ) → at ≡ Some j → remove xs j ≡ more)
      → cond here (Some 0) (option_map suc at) ≡ Some i → remove (x ∷ xs) i ≡ cond here xs (x ∷ more)
  removed_step true x xs more at zero later e = refl
  removed_step true x xs more at (suc i) later e = cc
  removed_step false x xs more None i later e = cc
  removed_step false x xs more (Some j) zero later e = cc
  removed_step false x xs more (Some j) (suc i) later e = ap (λ (rest : List X). x ∷ rest) (later i cc)

  -- taking out what stands there leaves the others
  pub removed : (xs : List X) (i : ℕ) → position test xs ≡ Some i → remove xs i ≡ remove_first test xs
  removed [] i e = cc
  removed (x ∷ xs) i e = removed_step (test x) x xs (remove_first test xs) (position test xs) i (λ j at. removed xs j at) (sym (place x xs) ∙ e)

  -- ---- where none passes

  none_step : {A : Type 0} (here : Bool) (first other : A) (last : A) (at : Option ℕ) → (at ≡ None → other ≡ last) → cond here (Some 0) (option_map suc at) ≡ None → cond here first other ≡ last
  none_step true first other last at later e = cc
  none_step false first other last None later e = later refl
  none_step false first other last (Some j) later e = cc

  pub missing : (xs : List X) → position test xs ≡ None → find test xs ≡ None
  missing [] e = refl
  missing (x ∷ xs) e = none_step (test x) (Some x) (find test xs) None (position test xs) (missing xs) (sym (place x xs) ∙ e)

  pub unchanged : (change : X → X) (xs : List X) → position test xs ≡ None → change_first test change xs ≡ xs
  unchanged change [] e = refl
  unchanged change (x ∷ xs) e =
      none_step (test x) (change x ∷ xs) (x ∷ change_first test change xs) (x ∷ xs) (position test xs) (λ none. ap (λ (rest : List X). x ∷ rest) (unchanged change xs none)) (sym (place x xs) ∙ e)

  pub all_left : (xs : List X) → position test xs ≡ None → remove_first test xs ≡ xs
  all_left [] e = refl
  all_left (x ∷ xs) e =
      none_step (test x) xs (x ∷ remove_first test xs) (x ∷ xs) (position test xs) (λ none. ap (λ (rest : List X). x ∷ rest) (all_left xs none)) (sym (place x xs) ∙ e)

-- ---- what is made of each item

module _ {X Y : Type 0} (f : X → Y) (test : Y → Bool) where
  -- the place is that of the item
  pub place_mapped : (xs : List X) → position test (map f xs) ≡ position (λ x. test (f x)) xs
  place_mapped [] = refl
  place_mapped (x ∷ xs) =
      place test (f x) (map f xs)
      ∙ ap (λ (at : Option ℕ). cond (test (f x)) (Some 0) (option_map suc at)) (place_mapped xs)
      ∙ sym (place (λ z. test (f z)) x xs)

  find_step : (here : Bool) (x : X) (o : Option Y) (p : Option X) → o ≡ option_map f p → cond here (Some (f x)) o ≡ option_map f (cond here (Some x) p)
  find_step true x o p e = refl
  find_step false x o p e = e

  pub find_mapped : (xs : List X) → find test (map f xs) ≡ option_map f (find (λ x. test (f x)) xs)
  find_mapped [] = refl
  find_mapped (x ∷ xs) = find_step (test (f x)) x (find test (map f xs)) (find (λ z. test (f z)) xs) (find_mapped xs)

  left_step : (here : Bool) (x : X) (xs more : List X) (mapped : List Y) → mapped ≡ map f more → cond here (map f xs) (f x ∷ mapped) ≡ map f (cond here xs (x ∷ more))
  left_step true x xs more mapped e = refl
  left_step false x xs more mapped e = ap (λ (ys : List Y). f x ∷ ys) e

  pub left_mapped : (xs : List X) → remove_first test (map f xs) ≡ map f (remove_first (λ x. test (f x)) xs)
  left_mapped [] = refl
  left_mapped (x ∷ xs) = left_step (test (f x)) x xs (remove_first (λ z. test (f z)) xs) (remove_first test (map f xs)) (left_mapped xs)

  change_step : (here : Bool) (there : Y → Y) (here_to : X → X) (x old : X) (xs more : List X) (mapped : List Y) (o : Option X) → there (f old) ≡ f (here_to old) → (o ≡ Some old → mapped ≡ map f more)
      → cond here (Some x) o ≡ Some old → cond here (there (f x) ∷ map f xs) (f x ∷ mapped) ≡ map f (cond here (here_to x ∷ xs) (x ∷ more))
  change_step true there here_to x old xs more mapped o same later e =
      let first : x ≡ old = cc in
      ap (λ (y : Y). y ∷ map f xs) (ap (λ (z : X). there (f z)) first ∙ same ∙ ap (λ (z : X). f (here_to z)) (sym first))
  change_step false there here_to x old xs more mapped o same later e = ap (λ (ys : List Y). f x ∷ ys) (later e)

  -- a change of what is made of the item that is found is that of a change of the item
  pub change_mapped : (there : Y → Y) (here_to : X → X) (xs : List X) (old : X) → find (λ x. test (f x)) xs ≡ Some old → there (f old) ≡ f (here_to old)
      → change_first test there (map f xs) ≡ map f (change_first (λ x. test (f x)) here_to xs)
  change_mapped there here_to [] old e same = refl
  change_mapped there here_to (x ∷ xs) old e same =
      change_step (test (f x)) there here_to x old xs (change_first (λ z. test (f z)) here_to xs) (change_first test there (map f xs)) (find (λ z. test (f z)) xs) same (λ later. change_mapped there here_to xs old later same) e
