-- Lists one a unique key: one of them changed, the others as they were.
use Rattle.std.proofs.Common.{◌≡◌, ◌≢◌, ℕ, zero, suc, ◌+◌, ◌<◌, ◌≤◌, List, [], ◌∷◌, ◌++◌, length, get_or, take, Some, None, ◌⊎◌, inl, inr, refl, sym, ap, subst, ◌∙◌, arith}
use Rattle.std.specs.Prelude.{slice_get, slice_set, map}
use Rattle.std.proofs.lemmas.Option.{slice_get-get_or}
use Rattle.val_types.specs.declared.definitions.KeyDef.{KeyDef}
use Rattle.block_list.specs.Layouts.{Layout, flat, holds}
use Rattle.row_index.specs.Lists.{nothing, list_at, numbers_at, KeepsNumbers}

-- a list that is read
pub list_read : (ls : List Layout) (which : ℕ) (l : Layout) → which < length ls → l ≡ get_or ls which l → list_at ls which ≡ l
list_read [] which l lt e = absurd (omega (arith, lt))
list_read (x ∷ ls) zero l lt e = sym e
list_read (x ∷ ls) (suc which) l lt e = list_read ls which l (omega (arith, lt)) e

pub list_got : (ls : List Layout) (which : ℕ) (l : Layout) → Some l ≡ slice_get ls which → list_at ls which ≡ l
list_got [] which l e = cc
list_got (x ∷ ls) zero l e = cc
list_got (x ∷ ls) (suc which) l e = list_got ls which l e

-- one that is not there
pub list_missing : (ls : List Layout) (which : ℕ) → length ls ≤ which → list_at ls which ≡ nothing
list_missing [] which le = refl
list_missing (x ∷ ls) zero le = absurd (omega (arith, le))
list_missing (x ∷ ls) (suc which) le = list_missing ls which (omega (arith, le))

pub list_none : (ls : List Layout) (which : ℕ) → None ≡ slice_get ls which → list_at ls which ≡ nothing
list_none [] which e = refl
list_none (x ∷ ls) zero e = cc
list_none (x ∷ ls) (suc which) e = list_none ls which e

-- one that holds some is there
pub is_there : (ls : List Layout) (which n : ℕ) → n < holds (list_at ls which) → which < length ls
is_there [] which n lt = absurd (omega (arith, lt))
is_there (x ∷ ls) zero n lt = omega arith
is_there (x ∷ ls) (suc which) n lt = let later : which < length ls = is_there ls which n lt in omega (arith, later)

-- one that is set
pub list_set : (ls : List Layout) (which : ℕ) (l : Layout) → which < length ls → list_at (slice_set ls which l) which ≡ l
list_set [] which l lt = absurd (omega (arith, lt))
list_set (x ∷ ls) zero l lt = refl
list_set (x ∷ ls) (suc which) l lt = list_set ls which l (omega (arith, lt))

pub list_beside : (ls : List Layout) (which other : ℕ) (l : Layout) → other ≢ which → list_at (slice_set ls which l) other ≡ list_at ls other
list_beside [] which other l differs = refl
list_beside (x ∷ ls) zero zero l differs = absurd (differs refl)
list_beside (x ∷ ls) zero (suc other) l differs = refl
list_beside (x ∷ ls) (suc which) zero l differs = refl
list_beside (x ∷ ls) (suc which) (suc other) l differs = list_beside ls which other l (λ e. differs (ap suc e))

-- ---- lists that keep their numbers

pub keeps_same : (ls : List Layout) → KeepsNumbers ls ls
keeps_same ls = record { numbers = λ which. refl; holds = λ which. omega arith }

pub keeps_on : (a b c : List Layout) → KeepsNumbers a b → KeepsNumbers b c → KeepsNumbers a c
keeps_on a b c first second = record {
  numbers = λ which. second.numbers which ∙ first.numbers which;
  holds = λ which. omega (arith, first.holds which, second.holds which);
}

at_pushed : (ls : List Layout) (l : Layout) (which : ℕ) → flat l.blocks ≡ [] → numbers_at (ls ++ l ∷ []) which ≡ numbers_at ls which
at_pushed [] l zero none = none
at_pushed [] l (suc which) none = refl
at_pushed (x ∷ ls) l zero none = refl
at_pushed (x ∷ ls) l (suc which) none = at_pushed ls l which none

holds_pushed : (ls : List Layout) (l : Layout) (which : ℕ) → holds (list_at ls which) ≤ holds (list_at (ls ++ l ∷ []) which)
holds_pushed [] l zero = omega arith
holds_pushed [] l (suc which) = omega arith
holds_pushed (x ∷ ls) l zero = omega arith
holds_pushed (x ∷ ls) l (suc which) = holds_pushed ls l which

-- one more list without numbers
pub keeps_pushed : (ls new : List Layout) (l : Layout) → new ≡ ls ++ l ∷ [] → flat l.blocks ≡ [] → KeepsNumbers ls new
keeps_pushed ls new l is none = record {
  numbers = λ which. ap (λ (xs : List Layout). numbers_at xs which) is ∙ at_pushed ls l which none;
  holds = λ which. omega (arith, holds_pushed ls l which, ap (λ (xs : List Layout). holds (list_at xs which)) is);
}

-- ---- one list after the other

before_or_at : (w i : ℕ) → w < i + 1 → (w < i) ⊎ (w ≡ i)
before_or_at zero zero lt = inr refl
before_or_at zero (suc i) lt = inl (omega arith)
before_or_at (suc w) zero lt = absurd (omega (arith, lt))
before_or_at (suc w) (suc i) lt = at (before_or_at w i (omega (arith, lt)))
  where
    at : (w < i) ⊎ (w ≡ i) → (suc w < suc i) ⊎ (suc w ≡ suc i)
    at (inl less) = inl (omega (arith, less))
    at (inr same) = inr (ap suc same)

-- what holds of the lists so far holds of one more
pub one_more : (P : KeyDef → Layout → Layout → Type 0) (us : List KeyDef) (i : ℕ) (key : KeyDef) (old now new : List Layout) → slice_get us i ≡ Some key → P key (list_at old i) (list_at new i)
    → ((w : ℕ) → w ≢ i → list_at new w ≡ list_at now w) → ((w : ℕ) (k : KeyDef) → slice_get us w ≡ Some k → w < i → P k (list_at old w) (list_at now w))
    → (w : ℕ) (k : KeyDef) → slice_get us w ≡ Some k → w < i + 1 → P k (list_at old w) (list_at new w)
one_more P us i key old now new is here others so_far w k at lt = by (before_or_at w i lt)
  where
    by : (w < i) ⊎ (w ≡ i) → P k (list_at old w) (list_at new w)
    by (inl less) = subst (λ (l : Layout). P k (list_at old w) l) (sym (others w (λ e. absurd (omega (arith, less, e))))) (so_far w k at less)
    by (inr same) =
        let keys : Some key ≡ Some k = sym is ∙ ap (slice_get us) (sym same) ∙ at in
        let key_is : key ≡ k = cc in
        subst (λ (v : ℕ). P k (list_at old v) (list_at new v)) (sym same) (subst (λ (x : KeyDef). P x (list_at old i) (list_at new i)) key_is here)

pub others_left : (i : ℕ) (old now new : List Layout) → ((w : ℕ) → w ≢ i → list_at new w ≡ list_at now w) → ((w : ℕ) → i ≤ w → list_at now w ≡ list_at old w) → (w : ℕ) → i + 1 ≤ w → list_at new w ≡ list_at old w
others_left i old now new others left w le = others w (λ e. absurd (omega (arith, le, e))) ∙ left w (omega (arith, le))

-- the key that a loop has come to
pub key_here : (us items : List KeyDef) (i : ℕ) (key : KeyDef) → items ≡ us → i < length items → key ≡ get_or items i key → slice_get us i ≡ Some key
key_here us items i key same lt is = ap (λ (ks : List KeyDef). slice_get ks i) (sym same) ∙ slice_get-get_or items i key lt ∙ ap (λ (k : KeyDef). Some k) (sym is)

-- ---- one list set

which_is : (w which : ℕ) → (w ≡ which) ⊎ (w ≢ which)
which_is zero zero = inl refl
which_is zero (suc which) = inr (λ e. absurd (omega (arith, e)))
which_is (suc w) zero = inr (λ e. absurd (omega (arith, e)))
which_is (suc w) (suc which) = at (which_is w which)
  where
    at : (w ≡ which) ⊎ (w ≢ which) → (suc w ≡ suc which) ⊎ (suc w ≢ suc which)
    at (inl same) = inl (ap suc same)
    at (inr other) = inr (λ e. other (omega (arith, e)))

-- what holds of the one that is set, and of those that stay, holds of all
pub each_set : (P : Layout → Layout → Type 0) (ls : List Layout) (which : ℕ) (l : Layout) → which < length ls → P (list_at ls which) l → ((x : Layout) → P x x) → (w : ℕ) → P (list_at ls w) (list_at (slice_set ls which l) w)
each_set P ls which l lt here same w = at (which_is w which)
  where
    at : (w ≡ which) ⊎ (w ≢ which) → P (list_at ls w) (list_at (slice_set ls which l) w)
    at (inl is) =
        subst (λ (v : ℕ). P (list_at ls v) (list_at (slice_set ls which l) v)) (sym is) (subst (λ (x : Layout). P (list_at ls which) x) (sym (list_set ls which l lt)) here)
    at (inr other) = subst (λ (x : Layout). P (list_at ls w) x) (sym (list_beside ls which w l other)) (same (list_at ls w))

pub keeps_set : (ls : List Layout) (which : ℕ) (was l : Layout) → which < length ls → was ≡ get_or ls which was → flat l.blocks ≡ flat was.blocks → holds was ≤ holds l → KeepsNumbers ls (slice_set ls which l)
keeps_set ls which was l lt is same more = record {
  numbers = each_set (λ x y. flat y.blocks ≡ flat x.blocks) ls which l lt (same ∙ ap (λ (x : Layout). flat x.blocks) (sym (list_read ls which was lt is))) (λ x. refl);
  holds = each_set (λ x y. holds x ≤ holds y) ls which l lt (omega (arith, more, ap holds (list_read ls which was lt is))) (λ x. omega arith);
}

pub holds_set : (ls : List Layout) (which : ℕ) (was l : Layout) → which < length ls → was ≡ get_or ls which was → holds l ≡ holds was → (w : ℕ) → holds (list_at (slice_set ls which l) w) ≡ holds (list_at ls w)
holds_set ls which was l lt is same = each_set (λ x y. holds y ≡ holds x) ls which l lt (same ∙ ap holds (sym (list_read ls which was lt is))) (λ x. refl)

-- one more holds so many
pub held_next : (count i : ℕ) (now new : List Layout) → count ≤ holds (list_at new i) → KeepsNumbers now new → ((w : ℕ) → w < i → count ≤ holds (list_at now w)) → (w : ℕ) → w < i + 1 → count ≤ holds (list_at new w)
held_next count i now new here keeps so_far w lt = by (before_or_at w i lt)
  where
    by : (w < i) ⊎ (w ≡ i) → count ≤ holds (list_at new w)
    by (inl less) = omega (arith, so_far w less, keeps.holds w)
    by (inr same) = subst (λ (v : ℕ). count ≤ holds (list_at new v)) (sym same) here

-- one more is without numbers
pub cleared_next : (i : ℕ) (now new : List Layout) → numbers_at new i ≡ [] → ((w : ℕ) → w ≢ i → list_at new w ≡ list_at now w) → ((w : ℕ) → w < i → numbers_at now w ≡ []) → (w : ℕ) → w < i + 1 → numbers_at new w ≡ []
cleared_next i now new here others so_far w lt = by (before_or_at w i lt)
  where
    by : (w < i) ⊎ (w ≡ i) → numbers_at new w ≡ []
    by (inl less) = ap (λ (l : Layout). flat l.blocks) (others w (λ e. absurd (omega (arith, less, e)))) ∙ so_far w less
    by (inr same) = ap (numbers_at new) same ∙ here

pub all_cleared : (ls : List Layout) (i : ℕ) → length ls ≤ i → ((w : ℕ) → w < i → numbers_at ls w ≡ []) → (w : ℕ) → numbers_at ls w ≡ []
all_cleared ls i all so_far w = by (less_or_past w i)
  where
    less_or_past : (a b : ℕ) → (a < b) ⊎ (b ≤ a)
    less_or_past a zero = inr (omega arith)
    less_or_past zero (suc b) = inl (omega arith)
    less_or_past (suc a) (suc b) = at (less_or_past a b)
      where
        at : (a < b) ⊎ (b ≤ a) → (suc a < suc b) ⊎ (suc b ≤ suc a)
        at (inl lt) = inl (omega (arith, lt))
        at (inr le) = inr (omega (arith, le))

    by : (w < i) ⊎ (i ≤ w) → numbers_at ls w ≡ []
    by (inl lt) = so_far w lt
    by (inr le) = ap (λ (l : Layout). flat l.blocks) (list_missing ls w (omega (arith, all, le)))

-- ---- lists of the same numbers

pub same_numbers : (xs ys : List Layout) → map (λ (l : Layout). flat l.blocks) xs ≡ map (λ (l : Layout). flat l.blocks) ys → (which : ℕ) → numbers_at xs which ≡ numbers_at ys which
same_numbers [] [] e which = refl
same_numbers [] (y ∷ ys) e which = cc
same_numbers (x ∷ xs) [] e which = cc
same_numbers (x ∷ xs) (y ∷ ys) e zero = cc
same_numbers (x ∷ xs) (y ∷ ys) e (suc which) = same_numbers xs ys (cons_rest (flat x.blocks) (flat y.blocks) (map (λ (l : Layout). flat l.blocks) xs) (map (λ (l : Layout). flat l.blocks) ys) e) which
  where
    cons_rest : (a b : List ℕ) (us vs : List (List ℕ)) → a ∷ us ≡ b ∷ vs → us ≡ vs
    cons_rest a b us vs h = cc

pub taken_whole : (ls : List Layout) (i : ℕ) → length ls ≤ i → take i ls ≡ ls
taken_whole [] zero le = refl
taken_whole [] (suc i) le = refl
taken_whole (l ∷ ls) zero le = absurd (omega (arith, le))
taken_whole (l ∷ ls) (suc i) le = ap (λ (rest : List Layout). l ∷ rest) (taken_whole ls i (omega (arith, le)))
