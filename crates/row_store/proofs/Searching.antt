-- Rows found by the values of a key on a shelf, and how many comparisons that are.
use Rattle.std.proofs.Common.{◌≡◌, ℕ, ◌<◌, List, length, get_or, Option, Some, None, sym, ap, subst, ◌∙◌}
use Rattle.std.specs.Option.{option_map, option_and_then, option_map_or}
use Rattle.std.proofs.lemmas.List.{length-map}
use Rattle.val_types.specs.declared.value.Value.{Value}
use Rattle.table_rules.specs.Tables.{Table}
use Rattle.table_rules.specs.Stores.{Store, place_of}
use Rattle.table_rules.proofs.Places.{none_named}
use Rattle.table_sheet.specs.row_sheets.Slots.{Slot, rows_in}
use Rattle.val_types.specs.Keys.{primary_key}
use Rattle.table_sheet.specs.Costs.{AreWithinBoth, AreWithinTwice}
use Rattle.table_sheet.specs.Keyed.{row_with}
use Rattle.table_sheet.specs.Pages.{rows_on}
use Rattle.row_store.specs.declared.shelf.Shelf.{Shelf}
use Rattle.row_store.specs.Found.{found_with, keys_at, rows_at}
use Rattle.row_store.specs.Shelves.{committed_on, keys_on, store_of}
use Rattle.row_store.proofs.Shelved.{get_is, get_mapped, shelf_at}
use Rattle.row_store.proofs.Storing.{table_found}

pub got_with : (name : List ℕ) (which : ℕ) (values : List Value) (ss : List Shelf) (at : ℕ) (s : Shelf) → s ≡ get_or ss at s → place_of name (store_of ss).tables ≡ Some at
    → row_with s.sheet.definition which values (rows_on s.sheet) ≡ found_with name which values (store_of ss).tables
unfolding store_of
got_with name which values ss at s is e = sym (ap (option_and_then (λ (t : Table). row_with t.definition which values t.rows)) (table_found name ss s (shelf_at name ss at s e is)))

-- there is none in a table that is not there
pub none_with : (name : List ℕ) (which : ℕ) (values : List Value) (tables : List Table) → place_of name tables ≡ None → None ≡ found_with name which values tables
none_with name which values tables e = sym (ap (option_and_then (λ (t : Table). row_with t.definition which values t.rows)) (none_named name tables e))

-- ---- how many there are

keys_here : (ss : List Shelf) (at : ℕ) (s : Shelf) → at < length ss → s ≡ get_or ss at s → keys_at at (store_of ss) ≡ length s.sheet.entries
unfolding store_of
keys_here ss at s h is =
    ap (λ (o : Option (List (List Value))). option_map_or (λ (keys : List (List Value)). length keys) o 0) (get_mapped keys_on ss at ∙ ap (option_map keys_on) (get_is ss at s h is))
    ∙ length-map s.sheet.entries (λ (slot : Slot). slot.key)

committed_here : (ss : List Shelf) (at : ℕ) (s : Shelf) → at < length ss → s ≡ get_or ss at s → rows_at at (store_of ss) ≡ length s.sheet.committed
unfolding store_of
committed_here ss at s h is =
    ap (λ (o : Option Table). option_map_or (λ (t : Table). length t.rows) o 0) (get_mapped committed_on ss at ∙ ap (option_map committed_on) (get_is ss at s h is))
    ∙ sym (ap (λ (slots : List Slot). length slots) s.rows.own ∙ length-map (rows_in s.sheet.committed) (λ (row : List Value). record { key = primary_key s.sheet.definition row; row = Some row }))

module _ (ss : List Shelf) (at : ℕ) (s : Shelf) (h : at < length ss) (is : s ≡ get_or ss at s) (steps : ℕ) where
  pub both_at : AreWithinBoth (length s.sheet.entries) (length s.sheet.committed) steps → AreWithinBoth (keys_at at (store_of ss)) (rows_at at (store_of ss)) steps
  both_at w =
      subst (λ (n : ℕ). AreWithinBoth n (rows_at at (store_of ss)) steps) (sym (keys_here ss at s h is))
      (subst (λ (m : ℕ). AreWithinBoth (length s.sheet.entries) m steps) (sym (committed_here ss at s h is)) w)

  pub twice_at : AreWithinTwice (length s.sheet.entries) (length s.sheet.committed) steps → AreWithinTwice (keys_at at (store_of ss)) (rows_at at (store_of ss)) steps
  twice_at w =
      subst (λ (n : ℕ). AreWithinTwice n (rows_at at (store_of ss)) steps) (sym (keys_here ss at s h is))
      (subst (λ (m : ℕ). AreWithinTwice (length s.sheet.entries) m steps) (sym (committed_here ss at s h is)) w)

-- the same of the place of a name
module _ (store : Store) (name : List ℕ) (a steps : ℕ) (place : place_of name store.tables ≡ Some a) (b : ℕ) (other : place_of name store.tables ≡ Some b) where
  same_place : a ≡ b
  same_place = let both : Some a ≡ Some b = sym place ∙ other in cc

  pub both_by : AreWithinBoth (keys_at a store) (rows_at a store) steps → AreWithinBoth (keys_at b store) (rows_at b store) steps
  both_by w = subst (λ (n : ℕ). AreWithinBoth (keys_at n store) (rows_at n store) steps) same_place w

  pub twice_by : AreWithinTwice (keys_at a store) (rows_at a store) steps → AreWithinTwice (keys_at b store) (rows_at b store) steps
  twice_by w = subst (λ (n : ℕ). AreWithinTwice (keys_at n store) (rows_at n store) steps) same_place w
