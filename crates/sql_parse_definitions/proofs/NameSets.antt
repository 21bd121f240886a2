-- A set of names, name by name.
use Rattle.std.proofs.Common.{◌≡◌, ◌||◌, ℕ, Bool, true, false, cond, List, ◌∷◌, refl}
use Rattle.std.specs.Ordering.{nat_cmp, eq_by_cmp}
use Rattle.std.specs.Cmp.Lexicographic.{slice_cmp, texts_ties}
use Rattle.std.specs.BTreeSet.{BTreeSet, contains, Updates}
use Rattle.sql_syntax.specs.Tables.{is_one_of}
use Rattle.sql_parse_definitions.specs.NameSets.{HoldsBut}

on_by : (found had more : Bool) → (cond found true had || more) ≡ (had || (found || more))
on_by true true more = refl
on_by true false more = refl
on_by false had more = refl

-- a name more
pub holds_on : (s s' : BTreeSet (List ℕ)) (m : List ℕ) (left left' all : List (List ℕ)) → left ≡ m ∷ left' → HoldsBut s left all → Updates (slice_cmp nat_cmp) s s' m true → HoldsBut s' left' all
holds_on s s' m left left' all e h u n = rw (u.0 n, ← h n, e, texts_ties m n) (on_by (eq_by_cmp (slice_cmp nat_cmp) m n) (contains (slice_cmp nat_cmp) s n) (is_one_of left' n))
