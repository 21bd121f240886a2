-- The last local variable of a name, by its place.
use Rattle.std.proofs.Common.{◌≡◌, ℕ, zero, suc, ◌+◌, ◌<◌, ◌≤◌, Bool, true, false, ◌&&◌, cond, List, [], ◌∷◌, length, get_or, drop, Fits, w8, Option, Some, None, IfSome, refl, sym, ap, ◌∙◌, arith}
use Rattle.std.specs.Prelude.{nat_eq, nat_le, slice_set, is_some, take}
use Rattle.std.specs.List.{list_all}
use Rattle.std.specs.Cmp.Lexicographic.{pointwise}
use Rattle.std.proofs.lemmas.Bool.{le-leb}
use Rattle.std.proofs.lemmas.List.{drop_all}
use Rattle.val_types.specs.declared.value.Value.{Value}
use Rattle.sql_locals.specs.declared.locals.Local.{Local}
use Rattle.sql_locals.specs.Locals.{find_from, find_local, set_local, last_place, place_behind, has_literal}

-- the place in what comes behind the first `i`, else the one that was found before
abbrev pub else_found : Option ℕ → ℕ → Option ℕ → Option ℕ
else_found found i None = found
else_found found i (Some k) = Some (i + k)

abbrev pub placed_from : Option ℕ → ℕ → List Local → List ℕ → Option ℕ
placed_from found i ls n = else_found found i (last_place ls n)

step_of : (here : Bool) (later found : Option ℕ) (i : ℕ) → else_found found i (place_behind here later) ≡ else_found (cond here (Some i) found) (i + 1) later
step_of true None found i = let same : i + 0 ≡ i = omega arith in ap (λ (m : ℕ). Some m) same
step_of false None found i = refl
step_of here (Some k) found i = let same : i + suc k ≡ i + 1 + k = omega arith in ap (λ (m : ℕ). Some m) same

pub placed_step : (found : Option ℕ) (i : ℕ) (l : Local) (ls : List Local) (n : List ℕ)
    → placed_from found i (l ∷ ls) n ≡ placed_from (cond (pointwise nat_eq l.name n) (Some i) found) (i + 1) ls n
placed_step found i l ls n = step_of (pointwise nat_eq l.name n) (last_place ls n) found i

within_step : (here : Bool) (later : Option ℕ) (k m : ℕ) → ((j : ℕ) → later ≡ Some j → j < m)
    → place_behind here later ≡ Some k → k < suc m
within_step true None k m h e = let none : 0 ≡ k = cc in omega arith
within_step false None k m h e = cc
within_step here (Some j) k m h e = let one : suc j ≡ k = cc in omega (arith, h j refl)

pub place_within : (ls : List Local) (n : List ℕ) (k : ℕ) → last_place ls n ≡ Some k → k < length ls
place_within [] n k e = cc
place_within (l ∷ ls) n k e = within_step (pointwise nat_eq l.name n) (last_place ls n) k (length ls) (λ j p. place_within ls n j p) e

pub found_within : (found : Option ℕ) (i : ℕ) (ls : List Local) (n : List ℕ) → length ls ≤ i → placed_from found i (drop i ls) n ≡ last_place ls n → IfSome found (λ k. k < length ls)
found_within None i ls n past e = tt
found_within (Some k) i ls n past e =
    place_within ls n k (sym (sym (ap (λ (rest : List Local). placed_from (Some k) i rest n) (drop_all i ls past)) ∙ e))

-- ---- each holds what a literal can say

pub bytes_small : (bytes : List ℕ) → ((i : ℕ) → Fits w8 (get_or bytes i 0)) → list_all (λ b. nat_le b 255) bytes ≡ true
bytes_small [] fits = refl
bytes_small (b ∷ bytes) fits =
    let first : Fits w8 b = fits 0 in
    rw (le-leb b 255 (omega (arith, first))) (bytes_small bytes (λ i. fits (suc i)))

kept : (b c d : Bool) → (c ≡ true → d ≡ true) → (b && c) ≡ true → (b && d) ≡ true
kept true c d h e = h e
kept false c d h e = e

pub literals_taken : (k : ℕ) (ls : List Local) → list_all has_literal ls ≡ true → list_all has_literal (take k ls) ≡ true
literals_taken zero ls e = refl
literals_taken (suc k) [] e = refl
literals_taken (suc k) (l ∷ ls) e = kept (has_literal l) (list_all has_literal ls) (list_all has_literal (take k ls)) (literals_taken k ls) e

-- ---- what stands at the place

module _ (n : List ℕ) where
  none_step : {A : Type 0} (here : Bool) (later : Option ℕ) (a b : A) → (later ≡ None → here ≡ false → ◌≡◌ {A = A} a b)
      → place_behind here later ≡ None → ◌≡◌ {A = A} a b
  none_step true None a b h e = cc
  none_step false None a b h e = h refl refl
  none_step here (Some k) a b h e = cc

  skipped : (here : Bool) (l : Local) (found : Option Local) (ls : List Local) → here ≡ false → ((f : Option Local) → find_from f ls n ≡ f) → find_from (cond here (Some l) found) ls n ≡ found
  skipped true l found ls e h = cc
  skipped false l found ls e h = h found

  -- where there is none
  pub find_missing : (found : Option Local) (ls : List Local) → last_place ls n ≡ None → find_from found ls n ≡ found
  find_missing found [] e = refl
  find_missing found (l ∷ ls) e =
      none_step (pointwise nat_eq l.name n) (last_place ls n) (find_from found (l ∷ ls) n) found
      (λ later here. skipped (pointwise nat_eq l.name n) l found ls here (λ f. find_missing f ls later)) e

  found_step : (here : Bool) (later : Option ℕ) (l d : Local) (found : Option Local) (ls : List Local) (k : ℕ)
      → (later ≡ None → (f : Option Local) → find_from f ls n ≡ f) → ((j : ℕ) (f : Option Local) → later ≡ Some j → d ≡ get_or ls j d → find_from f ls n ≡ Some d)
      → place_behind here later ≡ Some k → d ≡ get_or (l ∷ ls) k d → find_from (cond here (Some l) found) ls n ≡ Some d
  found_step true None l d found ls zero none some e is = none refl (Some l) ∙ ap (λ (x : Local). Some x) (sym is)
  found_step true None l d found ls (suc k) none some e is = cc
  found_step false None l d found ls k none some e is = cc
  found_step here (Some j) l d found ls zero none some e is = cc
  found_step here (Some j) l d found ls (suc k) none some e is = let same : Some j ≡ Some k = cc in some k (cond here (Some l) found) same is

  pub find_found : (found : Option Local) (ls : List Local) (k : ℕ) (d : Local) → last_place ls n ≡ Some k → d ≡ get_or ls k d → find_from found ls n ≡ Some d
  find_found found [] k d e is = cc
  find_found found (l ∷ ls) k d e is =
      found_step (pointwise nat_eq l.name n) (last_place ls n) l d found ls k (λ later f. find_missing f ls later) (λ j f later there. find_found f ls j d later there) e is

  -- ---- an assignment there

  pub set_missing : (v : Value) (ls : List Local) → last_place ls n ≡ None → set_local n v ls ≡ ls
  set_missing v [] e = refl
  set_missing v (l ∷ ls) e =
      none_step (pointwise nat_eq l.name n) (last_place ls n) (set_local n v (l ∷ ls)) (l ∷ ls)
      (λ later here. rw (find_missing None ls later, here) refl) e

  set_step : (here : Bool) (later : Option ℕ) (v : Value) (l d : Local) (ls more : List Local) (o : Option Local) (k : ℕ)
      → (later ≡ None → o ≡ None) → ((j : ℕ) → later ≡ Some j → d ≡ get_or ls j d → (o ≡ Some d) × (slice_set ls j (record d { value = v }) ≡ more))
      → place_behind here later ≡ Some k → d ≡ get_or (l ∷ ls) k d
      → slice_set (l ∷ ls) k (record d { value = v }) ≡ cond (is_some o) (l ∷ more) (cond here (record l { value = v } ∷ ls) (l ∷ ls))
  set_step true None v l d ls more o zero none some e is = rw (none refl) (ap (λ (x : Local). record x { value = v } ∷ ls) is)
  set_step true None v l d ls more o (suc k) none some e is = cc
  set_step false None v l d ls more o k none some e is = cc
  set_step here (Some j) v l d ls more o zero none some e is = cc
  set_step here (Some j) v l d ls more o (suc k) none some e is =
      let same : Some j ≡ Some k = cc in
      let both = some k same is in
      rw both.0 (ap (λ (rest : List Local). l ∷ rest) both.1)

  pub set_found : (v : Value) (ls : List Local) (k : ℕ) (d : Local) → last_place ls n ≡ Some k → d ≡ get_or ls k d → slice_set ls k (record d { value = v }) ≡ set_local n v ls
  set_found v [] k d e is = cc
  set_found v (l ∷ ls) k d e is =
      set_step (pointwise nat_eq l.name n) (last_place ls n) v l d ls (set_local n v ls) (find_local ls n) k
      (λ later. find_missing None ls later) (λ j later there. (find_found None ls j d later there, set_found v ls j d later there)) e is

-- a value that is a literal in the place of another
set_literal : (b c d e : Bool) → b ≡ true → (c && d) ≡ true → (b && d) ≡ true
set_literal true true d e p q = q
set_literal true false d e p q = cc
set_literal false c d e p q = cc

pub literals_set : (k : ℕ) (x : Local) (ls : List Local) → has_literal x ≡ true → list_all has_literal ls ≡ true → list_all has_literal (slice_set ls k x) ≡ true
literals_set k x [] h e = refl
literals_set zero x (l ∷ ls) h e = set_literal (has_literal x) (has_literal l) (list_all has_literal ls) true h e
literals_set (suc k) x (l ∷ ls) h e = kept (has_literal l) (list_all has_literal ls) (list_all has_literal (slice_set ls k x)) (literals_set k x ls h) e
