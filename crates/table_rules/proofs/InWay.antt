-- The row in the way has the first key in the way.
use Rattle.std.proofs.Common.{◌≡◌, ℕ, suc, List, [], ◌∷◌, map, Bool, true, false, ◌||◌, cond, Option, Some, None, refl, sym, ap, ◌∙◌}
use Rattle.std.specs.Prelude.{find, slice_index_or}
use Rattle.std.specs.List.{list_any}
use Rattle.std.specs.Option.{option_map, option_or, option_and_then}
use Rattle.val_types.specs.declared.value.Value.{Value}
use Rattle.val_types.specs.declared.definitions.KeyDef.{KeyDef}
use Rattle.val_types.specs.declared.definitions.TableDef.{TableDef}
use Rattle.val_types.specs.Keys.{primary_key, agree_on}
use Rattle.table_rules.specs.Stored.{has_key, first_agreed, key_in_way, key_tests, row_by_tests, RowInWay}

abbrev Test : Type 0
Test = List Value → Bool

-- the test at a place
abbrev test_at : List Test → ℕ → Test
test_at tests which = slice_index_or tests which (λ other. false)

-- the first test that some row passes
abbrev first_passed : List Test → List (List Value) → Option ℕ
first_passed [] rows = None
first_passed (test ∷ tests) rows = cond (list_any test rows) (Some 0) (option_map suc (first_passed tests rows))

-- where a row passes, one is found, and the rest is not asked
found_at : (b : Bool) (row : List Value) (rest found : Option (List Value)) (others : Bool)
    → (others ≡ true → option_or found rest ≡ found)
    → (b || others) ≡ true → option_or (cond b (Some row) found) rest ≡ cond b (Some row) found
found_at true row rest found others later e = refl
found_at false row rest found others later e = later e

found_first : (test : Test) (rows : List (List Value)) (rest : Option (List Value)) → list_any test rows ≡ true → option_or (find test rows) rest ≡ find test rows
found_first test [] rest e = cc
found_first test (row ∷ rows) rest e = found_at (test row) row rest (find test rows) (list_any test rows) (found_first test rows rest) e

none_at : (b : Bool) (row : List Value) (rest found : Option (List Value)) (others : Bool)
    → (others ≡ false → option_or found rest ≡ rest)
    → (b || others) ≡ false → option_or (cond b (Some row) found) rest ≡ rest
none_at true row rest found others later e = cc
none_at false row rest found others later e = later e

none_first : (test : Test) (rows : List (List Value)) (rest : Option (List Value)) → list_any test rows ≡ false → option_or (find test rows) rest ≡ rest
none_first test [] rest e = refl
none_first test (row ∷ rows) rest e = none_at (test row) row rest (find test rows) (list_any test rows) (none_first test rows rest) e

-- one place further on
further : (test : Test) (tests : List Test) (rows : List (List Value)) (o : Option ℕ)
    → option_and_then (λ which. find (test_at tests which) rows) o ≡ option_and_then (λ which. find (test_at (test ∷ tests) which) rows) (option_map suc o)
further test tests rows None = refl
further test tests rows (Some which) = refl

-- whether the first test is passed or not
by_test : (b : Bool) (test : Test) (tests : List Test) (rows : List (List Value))
    → row_by_tests tests rows ≡ option_and_then (λ which. find (test_at tests which) rows) (first_passed tests rows)
    → list_any test rows ≡ b
    → option_or (find test rows) (row_by_tests tests rows) ≡ option_and_then (λ which. find (test_at (test ∷ tests) which) rows) (cond b (Some 0) (option_map suc (first_passed tests rows)))
by_test true test tests rows later e = found_first test rows (row_by_tests tests rows) e
by_test false test tests rows later e = none_first test rows (row_by_tests tests rows) e ∙ later ∙ further test tests rows (first_passed tests rows)

by_tests : (tests : List Test) (rows : List (List Value)) → row_by_tests tests rows ≡ option_and_then (λ which. find (test_at tests which) rows) (first_passed tests rows)
by_tests [] rows = refl
by_tests (test ∷ tests) rows = by_test (list_any test rows) test tests rows (by_tests tests rows) refl

-- the numbers of keys are those of their tests
agreed : (keys : List KeyDef) (row : List Value) (rows : List (List Value)) → first_agreed keys row rows ≡ first_passed (map (λ key other. agree_on row other key) keys) rows
agreed [] row rows = refl
agreed (key ∷ keys) row rows = ap (λ (o : Option ℕ). cond (list_any (λ other. agree_on row other key) rows) (Some 0) (option_map suc o)) (agreed keys row rows)

in_way : (definition : TableDef) (row : List Value) (rows : List (List Value)) → key_in_way definition row rows ≡ first_passed (key_tests definition row) rows
in_way definition row rows =
    ap (λ (o : Option ℕ). cond (list_any (has_key definition (primary_key definition row)) rows) (Some 0) (option_map suc o)) (agreed definition.uniques row rows)

pub row_in_way_has_key : RowInWay
row_in_way_has_key definition row rows =
    by_tests (key_tests definition row) rows
    ∙ ap (option_and_then (λ which. find (test_at (key_tests definition row) which) rows)) (sym (in_way definition row rows))
