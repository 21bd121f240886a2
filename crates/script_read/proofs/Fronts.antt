-- The front of a list that a test holds of.
use Rattle.std.proofs.Common.{◌≡◌, ◌≤◌, ◌+◌, List, [], ◌∷◌, Bool, true, false, length, take, cond, ap, arith}
use Rattle.std.specs.List.{prefix_len, take_while}
use Rattle.std.proofs.lemmas.List.{length-take-le}

within_by : {A : Type 0} (test : A → Bool) (t : Bool) (a : A) (items : List A) → prefix_len test items ≤ length items → cond t (1 + prefix_len test items) 0 ≤ length (a ∷ items)
within_by test true a items within = omega arith
within_by test false a items within = omega arith

front_within : {A : Type 0} (test : A → Bool) (items : List A) → prefix_len test items ≤ length items
front_within test [] = omega arith
front_within test (a ∷ items) = within_by test (test a) a items (front_within test items)

-- as many items as that front has are that front
pub front_is_taken : {A : Type 0} (test : A → Bool) (items : List A) → take (length (take_while test items)) items ≡ take_while test items
front_is_taken test items = ap (λ n. take n items) (length-take-le (prefix_len test items) items (front_within test items))
