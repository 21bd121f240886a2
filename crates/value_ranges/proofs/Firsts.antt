-- The first value of a row's primary key.
use Rattle.std.proofs.Common.{◌≡◌, ℕ, List, [], ◌∷◌, Some, None, refl, ap}
use Rattle.std.specs.Prelude.{slice_get, slice_index_or}
use Rattle.val_types.specs.declared.value.Value.{Value}
use Rattle.val_types.specs.declared.value.Value.TheVariants.{Null}
use Rattle.val_types.specs.Keys.{values_at}
use Rattle.value_ranges.specs.Keys.{first_of}

some_is : (p q : ℕ) → Some p ≡ Some q → p ≡ q
some_is p q e = cc

pub first_there : (places : List ℕ) (row : List Value) (p : ℕ) → Some p ≡ slice_get places 0 → slice_index_or row p Null ≡ first_of (values_at places row)
first_there [] row p e = cc
first_there (q ∷ places) row p e = ap (λ (k : ℕ). slice_index_or row k Null) (some_is p q e)

pub first_missing : (places : List ℕ) (row : List Value) → None ≡ slice_get places 0 → Null ≡ first_of (values_at places row)
first_missing [] row e = refl
first_missing (q ∷ places) row e = cc
