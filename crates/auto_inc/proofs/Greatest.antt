-- What counters start with, row by row.
use Rattle.std.proofs.Common.{◌≡◌, ℕ, max, List, [], ◌∷◌, ◌++◌, refl, arith}
use Rattle.std.specs.Prelude.{slice_index_or}
use Rattle.val_types.specs.declared.value.Value.{Value}
use Rattle.val_types.specs.declared.value.Value.TheVariants.{Null}
use Rattle.auto_inc.specs.Counting.{greatest_held, number_held, StartRises}

greatest_behind : (column : ℕ) (rows : List (List Value)) (row : List Value) → greatest_held column (rows ++ row ∷ []) ≡ max (number_held (slice_index_or row column Null)) (greatest_held column rows)
greatest_behind column [] row = refl
greatest_behind column (r ∷ rows) row =
    let rest = greatest_behind column rows row in
    omega (arith, rest)

pub start_rises : StartRises
start_rises column rows row = let rest = greatest_behind column rows row in omega (arith, rest)

-- the greatest so far and of the rows that are left
pub greatest_step : (n column : ℕ) (row : List Value) (rows : List (List Value)) → max n (greatest_held column (row ∷ rows)) ≡ max (max (number_held (slice_index_or row column Null)) n) (greatest_held column rows)
greatest_step n column row rows = omega arith
