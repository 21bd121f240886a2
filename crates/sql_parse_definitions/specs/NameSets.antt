-- Names to be looked up.
use Rattle.std.specs.Prelude.{◌≡◌, ◌||◌, ℕ, List}
use Rattle.std.specs.Ordering.{nat_cmp}
use Rattle.std.specs.Cmp.Lexicographic.{slice_cmp}
use Rattle.std.specs.BTreeSet.{BTreeSet, contains}
use Rattle.sql_syntax.specs.Tables.{is_one_of}

-- the set has these names
abbrev pub Holds : BTreeSet (List ℕ) → List (List ℕ) → Type 0
Holds set ns = (n : List ℕ) → contains (slice_cmp nat_cmp) set n ≡ is_one_of ns n

-- the set and the names that are left have all names
abbrev pub HoldsBut : BTreeSet (List ℕ) → List (List ℕ) → List (List ℕ) → Type 0
HoldsBut set left all = (n : List ℕ) → (contains (slice_cmp nat_cmp) set n || is_one_of left n) ≡ is_one_of all n
