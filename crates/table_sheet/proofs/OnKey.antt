-- The keys of a row by their numbers.
use Rattle.std.proofs.Common.{◌≡◌, ℕ, zero, suc, ◌<◌, ◌≤◌, List, [], ◌∷◌, map, length, get_or, Bool, false, Some, None, refl, sym, ap, ◌∙◌, arith}
use Rattle.std.specs.Prelude.{find, slice_get, slice_index_or}
use Rattle.std.specs.Option.{option_and_then}
use Rattle.val_types.specs.declared.value.Value.{Value}
use Rattle.val_types.specs.declared.definitions.KeyDef.{KeyDef}
use Rattle.val_types.specs.declared.definitions.TableDef.{TableDef}
use Rattle.val_types.specs.Keys.{agree_on}
use Rattle.table_rules.specs.Stored.{has_key_in_way, row_of_values}
use Rattle.table_sheet.specs.Keyed.{row_with}

abbrev Test : Type 0
Test = List Value → Bool

test_there : (make : KeyDef → Test) (keys : List KeyDef) (k : ℕ) (key : KeyDef) (other : Test) → k < length keys → key ≡ get_or keys k key → slice_index_or (map make keys) k other ≡ make key
test_there make [] k key other h is = absurd (omega arith)
test_there make (first ∷ keys) zero key other h is = ap make (sym is)
test_there make (first ∷ keys) (suc k) key other h is = test_there make keys k key other (omega arith) is

-- the key of a number above 0 is a unique key
pub on_unique : (d : TableDef) (row : List Value) (rows : List (List Value)) (which k : ℕ) (key : KeyDef) → which ≡ suc k → k < length d.uniques → key ≡ get_or d.uniques k key
    → find (λ other. agree_on row other key) rows ≡ find (has_key_in_way d row which) rows
on_unique d row rows which k key one h is =
    ap (λ (test : Test). find test rows) (sym (test_there (λ key other. agree_on row other key) d.uniques k key (λ other. false) h is))
    ∙ ap (λ (n : ℕ). find (has_key_in_way d row n) rows) (sym one)

test_past : (make : KeyDef → Test) (keys : List KeyDef) (k : ℕ) (other : Test) → length keys ≤ k → slice_index_or (map make keys) k other ≡ other
test_past make [] k other h = refl
test_past make (first ∷ keys) zero other h = absurd (omega arith)
test_past make (first ∷ keys) (suc k) other h = test_past make keys k other (omega arith)

none_found : (rows : List (List Value)) → find (λ (other : List Value). false) rows ≡ None
none_found [] = refl
none_found (row ∷ rows) = none_found rows

past_by : (d : TableDef) (row : List Value) (rows : List (List Value)) (k : ℕ) → length d.uniques ≤ k → None ≡ find (has_key_in_way d row (suc k)) rows
past_by d row rows k h =
    sym (ap (λ (test : Test). find test rows) (test_past (λ key other. agree_on row other key) d.uniques k (λ other. false) h) ∙ none_found rows)

-- there is no key of a number past the last
pub on_none : (d : TableDef) (row : List Value) (rows : List (List Value)) (which : ℕ) → length d.uniques < which → None ≡ find (has_key_in_way d row which) rows
on_none d row rows zero h = absurd (omega arith)
on_none d row rows (suc k) h = past_by d row rows k (omega arith)

-- ---- rows with some values

pub with_unique : (d : TableDef) (values : List Value) (rows : List (List Value)) (which k : ℕ) (key : KeyDef) → which ≡ suc k → slice_get d.uniques k ≡ Some key → row_of_values key values rows ≡ row_with d which values rows
with_unique d values rows which k key one there =
    sym (ap (option_and_then (λ (key : KeyDef). row_of_values key values rows)) there) ∙ ap (λ (n : ℕ). row_with d n values rows) (sym one)

get_past : (keys : List KeyDef) (k : ℕ) → length keys ≤ k → slice_get keys k ≡ None
get_past [] k h = refl
get_past (first ∷ keys) zero h = absurd (omega arith)
get_past (first ∷ keys) (suc k) h = get_past keys k (omega arith)

pub with_none : (d : TableDef) (values : List Value) (rows : List (List Value)) (which : ℕ) → length d.uniques < which → None ≡ row_with d which values rows
with_none d values rows zero h = absurd (omega arith)
with_none d values rows (suc k) h = sym (ap (option_and_then (λ (key : KeyDef). row_of_values key values rows)) (get_past d.uniques k (omega arith)))
