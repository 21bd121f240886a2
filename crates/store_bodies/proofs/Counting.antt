-- So many things, read one behind the other.
use Rattle.std.proofs.Common.{◌≡◌, ℕ, suc, ◌+◌, ◌-◌, ◌<◌, ◌≤◌, List, [], ◌∷◌, ◌++◌, Some, None, refl, sym, ap, ◌∙◌, arith, append_assoc, append-nil}
use Rattle.store_model.specs.log_model.Images.{Read, and_then}
use Rattle.store_model.specs.Reading.{read_as, so_many}

-- what is read, behind what was read before
abbrev pub ahead : {X : Type 0} → List X → Read (List X) → Read (List X)
ahead xs = read_as (λ ys. xs ++ ys)

module _ {X : Type 0} (one : List ℕ → Read X) where
  ahead_cons : (xs : List X) (x : X) (r : Read (List X)) → ahead xs (read_as (λ ys. x ∷ ys) r) ≡ ahead (xs ++ (x ∷ [])) r
  ahead_cons xs x None = refl
  ahead_cons xs x (Some r) = ap (λ (ys : List X). found ys r.1) (sym (append_assoc xs (x ∷ []) r.0))
    where
      found : List X → List ℕ → Read (List X)
      found ys rest = Some (ys, rest)

  next_by : (xs : List X) (n : ℕ) (r : Read X)
      → ahead xs (and_then (λ x rest. read_as (λ ys. x ∷ ys) (so_many one n rest)) r) ≡ and_then (λ x rest. ahead (xs ++ (x ∷ [])) (so_many one n rest)) r
  next_by xs n None = refl
  next_by xs n (Some x) = ahead_cons xs x.0 (so_many one n x.1)

  -- one thing, and those behind it
  next : (xs : List X) (count i : ℕ) (bytes : List ℕ) → i < count
      → ahead xs (so_many one (count - i) bytes) ≡ and_then (λ x rest. ahead (xs ++ (x ∷ [])) (so_many one (count - (i + 1)) rest)) (one bytes)
  next xs count i bytes low =
      let more : count - i ≡ suc (count - (i + 1)) = omega arith in
      ap (λ (n : ℕ). ahead xs (so_many one n bytes)) more ∙ next_by xs (count - (i + 1)) (one bytes)

  -- nothing was read yet
  pub none_yet : (new : List X) (count : ℕ) (bytes : List ℕ) → new ≡ [] → ahead new (so_many one (count - 0) bytes) ≡ so_many one count bytes
  none_yet new count bytes fresh =
      ap (λ (xs : List X). ahead xs (so_many one (count - 0) bytes)) fresh ∙ ap (λ (n : ℕ). ahead [] (so_many one n bytes)) all ∙ nothing (so_many one count bytes)
    where
      all : count - 0 ≡ count
      all = omega arith

      nothing : (r : Read (List X)) → ahead [] r ≡ r
      nothing None = refl
      nothing (Some r) = refl

  -- one more was read
  pub one_more : (xs new : List X) (count i : ℕ) (bytes behind : List ℕ) (x : X) (whole : Read (List X)) → i < count → one bytes ≡ Some (x, behind) → new ≡ xs ++ (x ∷ [])
      → ahead xs (so_many one (count - i) bytes) ≡ whole → ahead new (so_many one (count - (i + 1)) behind) ≡ whole
  one_more xs new count i bytes behind x whole low is grown before =
      ap (λ (ys : List X). ahead ys (so_many one (count - (i + 1)) behind)) grown
      ∙ sym (ap (and_then (λ y rest. ahead (xs ++ (y ∷ [])) (so_many one (count - (i + 1)) rest))) is)
      ∙ sym (next xs count i bytes low) ∙ before

  -- none was there
  pub none_more : (xs : List X) (count i : ℕ) (bytes : List ℕ) (whole : Read (List X)) → i < count → one bytes ≡ None
      → ahead xs (so_many one (count - i) bytes) ≡ whole → None ≡ whole
  none_more xs count i bytes whole low is before =
      sym (ap (and_then (λ y rest. ahead (xs ++ (y ∷ [])) (so_many one (count - (i + 1)) rest))) is) ∙ sym (next xs count i bytes low) ∙ before

  -- all were read
  pub all_read : (xs : List X) (count i : ℕ) (bytes : List ℕ) (whole : Read (List X)) → count ≤ i
      → ahead xs (so_many one (count - i) bytes) ≡ whole → Some (xs, bytes) ≡ whole
  all_read xs count i bytes whole high before =
      ap (λ (ys : List X). found ys) (sym (append-nil xs)) ∙ sym (ap (λ (n : ℕ). ahead xs (so_many one n bytes)) none) ∙ before
    where
      found : List X → Read (List X)
      found ys = Some (ys, bytes)

      none : count - i ≡ 0
      none = omega arith
