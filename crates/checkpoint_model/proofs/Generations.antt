-- Which snapshot counts, where one file's generations are even and the other's odd.
use Rattle.std.proofs.Common.{◌≡◌, ◌⊎◌, inl, inr, ℕ, ◌+◌, ◌<◌, ◌≤◌, ◌%◌, Bool, true, false, cond, eqb, ltb, List, length, take, drop, leb, Option, Some, None, Result, Ok, Err, refl, sym, ap, subst, ◌∙◌, arith}
use Rattle.std.specs.Option.{option_and_then}
use Rattle.std.proofs.lemmas.Bool.{cases_lt, cond-true, cond-false, lt-ltb, le-ltb, ltb-true, ltb-false, eqb-true}
use Rattle.byte_fields.specs.Field.{number_at}
use Rattle.disk_model.specs.Story.{Image}
use Rattle.store_model.specs.declared.record.Kind.{Kind}
use Rattle.store_model.specs.Held.{Held, nothing_held}
use Rattle.store_model.specs.Snapshots.{is_open, of_file, snapshot_in, snapshot_of}
use Rattle.store_model.specs.Stores.{Spot, begun_by, begun_in, greater, greater_if, begun_from}
use Rattle.checkpoint_model.specs.Pieces.{snapshot_file}
use Rattle.checkpoint_model.specs.Moments.{IsOlder}

-- a generation and what is held
abbrev Begun : Type 0
Begun = ℕ × Held

-- ---- of two, the greater

-- one of them counts at a generation, or that is 0 and neither does
abbrev Counts : Option Begun → (generation : ℕ) → (begun : Held) → Type 0
Counts x generation begun = (x ≡ Some (generation, begun)) ⊎ ((x ≡ None) × ((generation ≡ 0) × (begun ≡ nothing_held)))

-- the other has a smaller one, or none
abbrev Below : Option Begun → (generation : ℕ) → Type 0
Below None generation = Unit {0}
Below (Some b) generation = b.0 < generation

-- it is of a file
abbrev OfFile : Option Begun → (f : ℕ) → Type 0
OfFile None f = Unit {0}
OfFile (Some b) f = b.0 % 2 ≡ f

begun_is : (a b : Begun) → Some a ≡ Some b → a ≡ b
begun_is a b e = ap (some_or a) e
  where
    some_or : Begun → Option Begun → Begun
    some_or d (Some x) = x
    some_or d None = d

-- the even one, in file 0, counts
counts_even : (x y : Option Begun) (g : ℕ) (begun : Held) → greater x y ≡ (g, begun) → OfFile y 1 → g % 2 ≡ 0 → Counts x g begun × Below y g
counts_even None None g begun e of even = (inr (refl, (sym (ap (λ (b : Begun). b.0) e), sym (ap (λ (b : Begun). b.1) e))), tt)
counts_even (Some a) None g begun e of even = (inl (ap (λ (b : Begun). Some b) e), tt)
counts_even None (Some b) g begun e of even = let n : b.0 ≡ g = ap (λ (c : Begun). c.0) e in absurd (omega (arith, n, of, even))
counts_even (Some a) (Some b) g begun e of even = by (ltb a.0 b.0) refl e
  where
    by : (z : Bool) → ltb a.0 b.0 ≡ z → cond z b a ≡ (g, begun) → Counts (Some a) g begun × Below (Some b) g
    by true is e = let n : b.0 ≡ g = ap (λ (c : Begun). c.0) e in absurd (omega (arith, n, of, even))
    by false is e = let n : a.0 ≡ g = ap (λ (c : Begun). c.0) e in (inl (ap (λ (c : Begun). Some c) e), omega (arith, n, of, even, ltb-false a.0 b.0 is))

-- the odd one, in file 1, counts
counts_odd : (x y : Option Begun) (g : ℕ) (begun : Held) → greater x y ≡ (g, begun) → OfFile x 0 → g % 2 ≡ 1 → Counts y g begun × Below x g
counts_odd None None g begun e of odd = let n : 0 ≡ g = ap (λ (c : Begun). c.0) e in absurd (omega (arith, n, odd))
counts_odd (Some a) None g begun e of odd = let n : a.0 ≡ g = ap (λ (c : Begun). c.0) e in absurd (omega (arith, n, of, odd))
counts_odd None (Some b) g begun e of odd = (inl (ap (λ (c : Begun). Some c) e), tt)
counts_odd (Some a) (Some b) g begun e of odd = by (ltb a.0 b.0) refl e
  where
    by : (z : Bool) → ltb a.0 b.0 ≡ z → cond z b a ≡ (g, begun) → Counts (Some b) g begun × Below (Some a) g
    by true is e = let n : b.0 ≡ g = ap (λ (c : Begun). c.0) e in (inl (ap (λ (c : Begun). Some c) e), omega (arith, n, ltb-true a.0 b.0 is))
    by false is e = let n : a.0 ≡ g = ap (λ (c : Begun). c.0) e in absurd (omega (arith, n, of, odd))

-- and the other way
zeroth_is : (x y : Option Begun) (g : ℕ) (begun : Held) → Counts x g begun → Below y g → greater x y ≡ (g, begun)
zeroth_is None None g begun (inl e) below = cc
zeroth_is None None g begun (inr (none, (zero_is, nothing))) below = ap (λ (n : ℕ). (n, nothing_held)) (sym zero_is) ∙ ap (λ (h : Held). (g, h)) (sym nothing)
zeroth_is None (Some b) g begun (inl e) below = cc
zeroth_is None (Some b) g begun (inr (none, (zero_is, nothing))) below = absurd (omega (arith, zero_is, below))
zeroth_is (Some a) None g begun (inl e) below = begun_is a (g, begun) e
zeroth_is (Some a) None g begun (inr (none, rest)) below = cc
zeroth_is (Some a) (Some b) g begun (inl e) below =
    let same = begun_is a (g, begun) e in
    let n : a.0 ≡ g = ap (λ (c : Begun). c.0) same in
    cond-false (ltb a.0 b.0) b a (le-ltb _ _ (omega (arith, n, below))) ∙ same
zeroth_is (Some a) (Some b) g begun (inr (none, rest)) below = cc

first_is : (x y : Option Begun) (g : ℕ) (begun : Held) → Counts y g begun → Below x g → greater x y ≡ (g, begun)
first_is None None g begun (inl e) below = cc
first_is None None g begun (inr (none, (zero_is, nothing))) below = ap (λ (n : ℕ). (n, nothing_held)) (sym zero_is) ∙ ap (λ (h : Held). (g, h)) (sym nothing)
first_is (Some a) None g begun (inl e) below = cc
first_is (Some a) None g begun (inr (none, (zero_is, nothing))) below = absurd (omega (arith, zero_is, below))
first_is None (Some b) g begun (inl e) below = begun_is b (g, begun) e
first_is None (Some b) g begun (inr (none, rest)) below = cc
first_is (Some a) (Some b) g begun (inl e) below =
    let same = begun_is b (g, begun) e in
    let n : b.0 ≡ g = ap (λ (c : Begun). c.0) same in
    cond-true (ltb a.0 b.0) b a (lt-ltb _ _ (omega (arith, n, below))) ∙ same
first_is (Some a) (Some b) g begun (inr (none, rest)) below = cc

-- what counts is below the next generation
below_next : (x : Option Begun) (g : ℕ) (begun : Held) → Counts x g begun → Below x (g + 1)
below_next None g begun counts = tt
below_next (Some a) g begun (inl e) = let n : a.0 ≡ g = ap (λ (c : Begun). c.0) (begun_is a (g, begun) e) in omega (arith, n)
below_next (Some a) g begun (inr (none, rest)) = cc

-- ---- one file

begun_or : Option Begun → Result (Option Begun) Spot → Option Begun
begun_or d (Ok x) = x
begun_or d (Err spot) = d

abbrev begins : Option Begun → Result (Option Begun) Spot
begins x = Ok x

begun_ok : (x y : Option Begun) → begins x ≡ begins y → x ≡ y
unfolding begun_or
begun_ok x y e = ap (begun_or None) e

from_or : Begun → Result Begun Spot → Begun
from_or d (Ok x) = x
from_or d (Err spot) = d

abbrev goes_from : Begun → Result Begun Spot
goes_from b = Ok b

from_ok : (a b : Begun) → goes_from a ≡ goes_from b → a ≡ b
unfolding from_or
from_ok a b e = ap (from_or a) e

-- what is kept of a body is of the file
kept_is : (f : ℕ) (o : Option Begun) (b : Begun) → option_and_then (of_file f) o ≡ Some b → b.0 % 2 ≡ f
kept_is f None b e = cc
kept_is f (Some c) b e = by (eqb (c.0 % 2) f) refl e
  where
    by : (z : Bool) → eqb (c.0 % 2) f ≡ z → cond z (Some c) None ≡ Some b → b.0 % 2 ≡ f
    by true is e = ap (λ (d : Begun). d.0 % 2) (sym (begun_is c b e)) ∙ eqb-true (c.0 % 2) f is
    by false is e = cc

snapshot_is : (kind : Kind) (f : ℕ) (file : List ℕ) (b : Begun) → snapshot_in kind f file ≡ Some b → b.0 % 2 ≡ f
snapshot_is kind f file b e = by (leb (9 + number_at 1 8 file) (length file)) e
  where
    by : (z : Bool) → cond z (option_and_then (of_file f) (snapshot_of kind (take (number_at 1 8 file) (drop 9 file)))) None ≡ Some b → b.0 % 2 ≡ f
    by true e = kept_is f (snapshot_of kind (take (number_at 1 8 file) (drop 9 file))) b e
    by false e = cc

-- what a file that is opened begins with
record Opens (kind : Kind) (f : ℕ) (file : List ℕ) (x : Option Begun) : Type 0 where
  pub of : OfFile x f
  pub older : (g : ℕ) → Below x g → IsOlder kind g f file

module _ (kind : Kind) (image : Image) (f : ℕ) where
  opens : (x : Option Begun) → begun_in kind image f ≡ Ok x → Opens kind f (image f) x
  opens x e = by (is_open (image f)) refl (snapshot_in kind f (image f)) refl x e
    where
      by : (z : Bool) → is_open (image f) ≡ z → (o : Option Begun) → snapshot_in kind f (image f) ≡ o → (x : Option Begun)
          → cond z (begun_by f o) (Ok None) ≡ Ok x → Opens kind f (image f) x
      by false shut o is None e = record { of = tt; older = λ g below. inl shut }
      by false shut o is (Some b) e = let none = begun_ok None (Some b) e in cc
      by true shows None is x e = cc
      by true shows (Some b) is None e = let none = begun_ok (Some b) None e in cc
      by true shows (Some b) is (Some c) e =
          let same : b ≡ c = begun_is b c (begun_ok (Some b) (Some c) e) in
          let read : snapshot_in kind f (image f) ≡ Some c = is ∙ ap (λ (d : Begun). Some d) same in
          record { of = snapshot_is kind f (image f) c read; older = λ g below. inr (c, (read, below)) }

  -- a file that does not count
  record Older (g : ℕ) : Type 0 where
    pub x : Option Begun
    pub is : begun_in kind image f ≡ Ok x
    pub below : Below x g

  older_in : (g : ℕ) → IsOlder kind g f (image f) → Older g
  older_in g (inl shut) = record { x = None; is = cond-false (is_open (image f)) (begun_by f (snapshot_in kind f (image f))) (Ok None) shut; below = tt }
  older_in g (inr (b, (is, below))) = by (is_open (image f)) refl
    where
      by : (z : Bool) → is_open (image f) ≡ z → Older g
      by false shut = record { x = None; is = cond-false (is_open (image f)) (begun_by f (snapshot_in kind f (image f))) (Ok None) shut; below = tt }
      by true shows = record {
        x = Some b;
        is = cond-true (is_open (image f)) (begun_by f (snapshot_in kind f (image f))) (Ok None) shows ∙ ap (begun_by f) is;
        below = below;
      }

  -- an shows snapshot that is whole
  newest_in : (b : Begun) → is_open (image f) ≡ true → snapshot_in kind f (image f) ≡ Some b → begun_in kind image f ≡ Ok (Some b)
  newest_in b shows is = cond-true (is_open (image f)) (begun_by f (snapshot_in kind f (image f))) (Ok None) shows ∙ ap (begun_by f) is

same_in : (kind : Kind) (image image' : Image) (f : ℕ) → image' f ≡ image f → begun_in kind image' f ≡ begun_in kind image f
same_in kind image image' f same = ap (λ file. cond (is_open file) (begun_by f (snapshot_in kind f file)) (Ok None)) same

-- ---- both files

record Parts (kind : Kind) (image : Image) (g : ℕ) (begun : Held) : Type 0 where
  pub x : Option Begun
  pub y : Option Begun
  pub zeroth : begun_in kind image 0 ≡ Ok x
  pub first : begun_in kind image 1 ≡ Ok y
  pub is : greater x y ≡ (g, begun)

parts : (kind : Kind) (image : Image) (g : ℕ) (begun : Held) → begun_from kind image ≡ Ok (g, begun) → Parts kind image g begun
unfolding begun_from
parts kind image g begun e = by (begun_in kind image 0) refl (begun_in kind image 1) refl e
  where
    by : (a : Result (Option Begun) Spot) → begun_in kind image 0 ≡ a → (b : Result (Option Begun) Spot) → begun_in kind image 1 ≡ b → greater_if a b ≡ Ok (g, begun)
        → Parts kind image g begun
    by (Err spot) zeroth b first e = cc
    by (Ok x) zeroth (Err spot) first e = cc
    by (Ok x) zeroth (Ok y) first e = record { x = x; y = y; zeroth = zeroth; first = first; is = from_ok (greater x y) (g, begun) e }

from_parts : (kind : Kind) (image : Image) (g : ℕ) (begun : Held) (x y : Option Begun) → begun_in kind image 0 ≡ Ok x → begun_in kind image 1 ≡ Ok y → greater x y ≡ (g, begun)
    → begun_from kind image ≡ Ok (g, begun)
unfolding begun_from
from_parts kind image g begun x y zeroth first is =
    ap (λ a. greater_if a (begun_in kind image 1)) zeroth ∙ ap (greater_if (Ok x)) first ∙ ap (λ (b : Begun). Ok b) is

parity : (n : ℕ) → (n % 2 ≡ 0) ⊎ (n % 2 ≡ 1)
parity n = by (cases_lt (n % 2) 1)
  where
    by : (n % 2 < 1) ⊎ (1 ≤ n % 2) → (n % 2 ≡ 0) ⊎ (n % 2 ≡ 1)
    by (inl lt) = inl (omega (arith, lt))
    by (inr ge) = inr (omega (arith, ge))

module _ (kind : Kind) (g : ℕ) (image : Image) (begun : Held) (from : begun_from kind image ≡ Ok (g, begun)) where
  pub older_other : IsOlder kind g (snapshot_file (g + 1)) (image (snapshot_file (g + 1)))
  older_other = by (parity g)
    where
      p : Parts kind image g begun
      p = parts kind image g begun from

      by : (g % 2 ≡ 0) ⊎ (g % 2 ≡ 1) → IsOlder kind g (snapshot_file (g + 1)) (image (snapshot_file (g + 1)))
      by (inl even) =
          let o = opens kind image 1 p.y p.first in
          let other : (g + 1) % 2 ≡ 1 = omega (arith, even) in
          subst (λ f. IsOlder kind g f (image f)) (sym other) (o.older g (counts_even p.x p.y g begun p.is o.of even).1)
      by (inr odd) =
          let o = opens kind image 0 p.x p.zeroth in
          let other : (g + 1) % 2 ≡ 0 = omega (arith, odd) in
          subst (λ f. IsOlder kind g f (image f)) (sym other) (o.older g (counts_odd p.x p.y g begun p.is o.of odd).1)

  module _ (image' : Image) (same : image' (snapshot_file g) ≡ image (snapshot_file g)) where
    pub begun_still : IsOlder kind g (snapshot_file (g + 1)) (image' (snapshot_file (g + 1))) → begun_from kind image' ≡ Ok (g, begun)
    begun_still older = by (parity g)
      where
        p : Parts kind image g begun
        p = parts kind image g begun from

        by : (g % 2 ≡ 0) ⊎ (g % 2 ≡ 1) → begun_from kind image' ≡ Ok (g, begun)
        by (inl even) =
            let other : (g + 1) % 2 ≡ 1 = omega (arith, even) in
            let o = older_in kind image' 1 g (subst (λ f. IsOlder kind g f (image' f)) other older) in
            let zeroth = same_in kind image image' 0 (subst (λ f. image' f ≡ image f) even same) ∙ p.zeroth in
            let counts = (counts_even p.x p.y g begun p.is (opens kind image 1 p.y p.first).of even).0 in
            from_parts kind image' g begun p.x o.x zeroth o.is (zeroth_is p.x o.x g begun counts o.below)
        by (inr odd) =
            let other : (g + 1) % 2 ≡ 0 = omega (arith, odd) in
            let o = older_in kind image' 0 g (subst (λ f. IsOlder kind g f (image' f)) other older) in
            let first = same_in kind image image' 1 (subst (λ f. image' f ≡ image f) odd same) ∙ p.first in
            let counts = (counts_odd p.x p.y g begun p.is (opens kind image 0 p.x p.zeroth).of odd).0 in
            from_parts kind image' g begun o.x p.y o.is first (first_is o.x p.y g begun counts o.below)

    pub begun_next : (held : Held) → is_open (image' (snapshot_file (g + 1))) ≡ true → snapshot_in kind (snapshot_file (g + 1)) (image' (snapshot_file (g + 1))) ≡ Some (g + 1, held)
        → begun_from kind image' ≡ Ok (g + 1, held)
    begun_next held shows is = by (parity g)
      where
        p : Parts kind image g begun
        p = parts kind image g begun from

        by : (g % 2 ≡ 0) ⊎ (g % 2 ≡ 1) → begun_from kind image' ≡ Ok (g + 1, held)
        by (inl even) =
            let other : (g + 1) % 2 ≡ 1 = omega (arith, even) in
            let newest = subst (λ f. begun_in kind image' f ≡ Ok (Some (g + 1, held))) other (newest_in kind image' (snapshot_file (g + 1)) (g + 1, held) shows is) in
            let zeroth = same_in kind image image' 0 (subst (λ f. image' f ≡ image f) even same) ∙ p.zeroth in
            let counts = (counts_even p.x p.y g begun p.is (opens kind image 1 p.y p.first).of even).0 in
            from_parts kind image' (g + 1) held p.x (Some (g + 1, held)) zeroth newest (first_is p.x (Some (g + 1, held)) (g + 1) held (inl refl) (below_next p.x g begun counts))
        by (inr odd) =
            let other : (g + 1) % 2 ≡ 0 = omega (arith, odd) in
            let newest = subst (λ f. begun_in kind image' f ≡ Ok (Some (g + 1, held))) other (newest_in kind image' (snapshot_file (g + 1)) (g + 1, held) shows is) in
            let first = same_in kind image image' 1 (subst (λ f. image' f ≡ image f) odd same) ∙ p.first in
            let counts = (counts_odd p.x p.y g begun p.is (opens kind image 0 p.x p.zeroth).of odd).0 in
            from_parts kind image' (g + 1) held (Some (g + 1, held)) p.y newest first (zeroth_is (Some (g + 1, held)) p.y (g + 1) held (inl refl) (below_next p.y g begun counts))
