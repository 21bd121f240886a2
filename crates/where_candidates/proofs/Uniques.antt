-- The first unique key of which a condition names each value.
use Rattle.std.proofs.Common.{◌≡◌, ℕ, zero, suc, ◌+◌, ◌<◌, ◌≤◌, List, [], ◌∷◌, length, get_or, drop, Option, Some, None, refl, sym, ap, ◌∙◌, arith}
use Rattle.std.specs.Prelude.{slice_get}
use Rattle.std.specs.Option.{option_map, option_or, option_and_then}
use Rattle.val_types.specs.declared.value.Value.{Value}
use Rattle.val_types.specs.declared.definitions.KeyDef.{KeyDef}
use Rattle.val_types.specs.declared.definitions.TableDef.{TableDef}
use Rattle.table_rules.specs.Tables.{Table}
use Rattle.table_rules.specs.Stored.{table_named, row_of_values}
use Rattle.row_store.specs.Found.{found_with}
use Rattle.row_store.specs.table_sheet.Keyed.{row_with}
use Rattle.sql_tree.specs.Tree.{Tree}
use Rattle.where_ranges.specs.where_keys.declared.outside.Outside.{Outside}
use Rattle.where_ranges.specs.where_keys.Keys.{key_in}
use Rattle.where_candidates.specs.declared.seeing.Named.{Named}
use Rattle.where_candidates.specs.Candidates.{first_named}

module _ (o : Outside) (d : TableDef) (t : Tree) where
  step_named : (n : ℕ) (key : KeyDef) (keys : List KeyDef) (said : Option (List Value)) → key_in o d t key.columns ≡ said
      → first_named o d t n (key ∷ keys) ≡ option_or (option_map (λ (values : List Value). record { which = n; values = values }) said) (first_named o d t (suc n) keys)
  step_named n key keys said e = ap (λ (s : Option (List Value)). option_or (option_map (λ (values : List Value). record { which = n; values = values }) s) (first_named o d t (suc n) keys)) e

  -- a key that is named, one that is not, and none
  pub named_here : (n : ℕ) (keys : List KeyDef) (i : ℕ) (key : KeyDef) (values : List Value) → i < length keys → key ≡ get_or keys i key → key_in o d t key.columns ≡ Some values
      → Some (record { which = n; values = values }) ≡ first_named o d t n (drop i keys)
  named_here n [] i key values h is e = absurd (omega arith)
  named_here n (k ∷ ks) zero key values h is e = sym (ap (λ (x : KeyDef). first_named o d t n (x ∷ ks)) (sym is) ∙ step_named n key ks (Some values) e)
  named_here n (k ∷ ks) (suc i) key values h is e = named_here n ks i key values (omega arith) is e

  pub named_next : (n m : ℕ) (keys : List KeyDef) (i j : ℕ) (key : KeyDef) → m ≡ suc n → j ≡ suc i → i < length keys → key ≡ get_or keys i key → key_in o d t key.columns ≡ None
      → first_named o d t n (drop i keys) ≡ first_named o d t m (drop j keys)
  named_next n m keys i j key next one h is e = by keys i h is ∙ ap (λ (k : ℕ). first_named o d t k (drop (suc i) keys)) (sym next) ∙ ap (λ (k : ℕ). first_named o d t m (drop k keys)) (sym one)
    where
      by : (ks : List KeyDef) (k : ℕ) → k < length ks → key ≡ get_or ks k key → first_named o d t n (drop k ks) ≡ first_named o d t (suc n) (drop (suc k) ks)
      by [] k h is = absurd (omega arith)
      by (x ∷ ks) zero h is = ap (λ (y : KeyDef). first_named o d t n (y ∷ ks)) (sym is) ∙ step_named n key ks None e
      by (x ∷ ks) (suc k) h is = by ks k (omega arith) is

  pub named_none : (n : ℕ) (keys : List KeyDef) (i : ℕ) → length keys ≤ i → None ≡ first_named o d t n (drop i keys)
  named_none n [] zero h = refl
  named_none n [] (suc i) h = refl
  named_none n (key ∷ keys) zero h = absurd (omega arith)
  named_none n (key ∷ keys) (suc i) h = named_none n keys i (omega arith)

  -- ---- it is one of the keys, and its values are named

  pub record IsNamed (n : ℕ) (keys : List KeyDef) (named : Named) : Type 0 where
    pub place : ℕ
    pub key : KeyDef
    pub number : named.which ≡ n + place
    pub there : slice_get keys place ≡ Some key
    pub said : key_in o d t key.columns ≡ Some named.values

  pub is_named : (n : ℕ) (keys : List KeyDef) (named : Named) → first_named o d t n keys ≡ Some named → IsNamed n keys named
  is_named n [] named e = cc
  is_named n (key ∷ keys) named e = by (λ (after : first_named o d t (suc n) keys ≡ Some named). is_named (suc n) keys named after) (key_in o d t key.columns) refl
    where
      by : (first_named o d t (suc n) keys ≡ Some named → IsNamed (suc n) keys named) → (said : Option (List Value)) → key_in o d t key.columns ≡ said → IsNamed n (key ∷ keys) named
      by of_keys None none =
          let later : IsNamed (suc n) keys named = of_keys (sym (step_named n key keys None none) ∙ e) in
          record { place = suc later.place; key = later.key; number = omega (arith, later.number); there = later.there; said = later.said }
      by of_keys (Some values) some =
          let both : Some (record { which = n; values = values }) ≡ Some named = sym (step_named n key keys (Some values) some) ∙ e in
          let same : record { which = n; values = values } ≡ named = cc in
          let number : n ≡ named.which = ap (λ (m : Named). m.which) same in
          record { place = 0; key = key; number = omega (arith, number); there = refl; said = some ∙ ap (λ (m : Named). Some m.values) same }

-- the row that has some values in the unique key of a number
pub row_is : (d : TableDef) (which k : ℕ) (key : KeyDef) (values : List Value) (name : List ℕ) (tables : List Table) (all : List (List Value)) → which ≡ suc k → slice_get d.uniques k ≡ Some key
    → table_named name tables ≡ Some (record { definition = d; rows = all }) → found_with name which values tables ≡ row_of_values key values all
row_is d which k key values name tables all number there table =
    ap (option_and_then (λ (t : Table). row_with t.definition which values t.rows)) table
    ∙ ap (λ (n : ℕ). row_with d n values all) number
    ∙ ap (option_and_then (λ (x : KeyDef). row_of_values x values all)) there
