-- The indexes of all unique keys as rows come and go, and the first key in the way.
use Rattle.std.proofs.Common.{◌≡◌, ℕ, suc, List, [], ◌∷◌, Bool, true, false, ◌||◌, cond, Option, Some, refl, ap, ◌∙◌}
use Rattle.std.specs.Prelude.{is_some}
use Rattle.std.specs.List.{list_any, list_all, find, AllByRecursion}
use Rattle.std.specs.Option.{option_map}
use Rattle.val_types.specs.declared.value.Value.{Value}
use Rattle.val_types.specs.declared.definitions.TableDef.{TableDef}
use Rattle.val_types.specs.declared.definitions.KeyDef.{KeyDef}
use Rattle.val_types.specs.Fitting.{is_null}
use Rattle.val_types.specs.Keys.{values_at, agree_on}
use Rattle.table_rules.specs.Stored.{first_agreed}
use Rattle.row_sheets.specs.Slots.{Slot, held, keys_in, keys_rise, rows_in, drop_slot, has_own_key}
use Rattle.row_sheets.specs.Over.{over}
use Rattle.row_sheets.specs.Claims.{AreApart}
use Rattle.row_indexes.specs.Indexes.{IsIndexOf, found_in}
use Rattle.row_indexes.specs.IndexLaws.{DifferAt, by_values}
use Rattle.row_indexes.specs.Wholes.{AreIndexesOf, index_with, index_without, all_with, all_without, first_found, DifferInAll}
use Rattle.row_indexes.proofs.Indexing.{put_keeps, null_put_keeps, taken_keeps, null_taken_keeps, found_in_both}

-- ---- one key of all

first_of : (u : KeyDef) (us : List KeyDef) (key : List Value) (old new : List Slot) → DifferInAll (u ∷ us) key old new → DifferAt u key old new
first_of u us key old new differ = record {
  old_rises = differ.old_rises;
  new_rises = differ.new_rises;
  old_apart = differ.old_apart.0;
  new_apart = differ.new_apart.0;
  beside = differ.beside;
}

others_of : (u : KeyDef) (us : List KeyDef) (key : List Value) (old new : List Slot) → DifferInAll (u ∷ us) key old new → DifferInAll us key old new
others_of u us key old new differ = record {
  old_rises = differ.old_rises;
  new_rises = differ.new_rises;
  old_apart = differ.old_apart.1;
  new_apart = differ.new_apart.1;
  beside = differ.beside;
}

-- ---- a row put

put_one : (u : KeyDef) (key row : List Value) (old new index : List Slot) → DifferAt u key old new → ((other : List Value) → held key old ≡ Some (Some other) → ⊥) → held key new ≡ Some (Some row)
    → IsIndexOf u index (rows_in old) → IsIndexOf u (index_with u row index) (rows_in new)
put_one u key row old new index differ free has are = at (list_any is_null (values_at u.columns row)) refl
  where
    at : (null : Bool) → list_any is_null (values_at u.columns row) ≡ null → IsIndexOf u (cond null index (over (by_values u row) index)) (rows_in new)
    at true e = null_put_keeps u key row old new index differ free has are e
    at false e = put_keeps u key row old new index differ free has are e

pub put_in_all : (us : List KeyDef) (key row : List Value) (old new : List Slot) (indexes : List (List Slot)) → DifferInAll us key old new → ((other : List Value) → held key old ≡ Some (Some other) → ⊥) → held key new ≡ Some (Some row)
    → AreIndexesOf us indexes (rows_in old) → AreIndexesOf us (all_with us row indexes) (rows_in new)
put_in_all [] key row old new indexes differ free has are = are
put_in_all (u ∷ us) key row old new [] differ free has are = absurd are
put_in_all (u ∷ us) key row old new (i ∷ is) differ free has are =
    (put_one u key row old new i (first_of u us key old new differ) free has are.0, put_in_all us key row old new is (others_of u us key old new differ) free has are.1)

-- ---- a row taken out

take_one : (u : KeyDef) (key row : List Value) (old new index : List Slot) → DifferAt u key old new → held key old ≡ Some (Some row) → ((other : List Value) → held key new ≡ Some (Some other) → ⊥)
    → IsIndexOf u index (rows_in old) → IsIndexOf u (index_without u row index) (rows_in new)
take_one u key row old new index differ has gone are = at (list_any is_null (values_at u.columns row)) refl
  where
    at : (null : Bool) → list_any is_null (values_at u.columns row) ≡ null → IsIndexOf u (cond null index (drop_slot (values_at u.columns row) index)) (rows_in new)
    at true e = null_taken_keeps u key row old new index differ has gone are e
    at false e = taken_keeps u key row old new index differ has gone are e

pub taken_of_all : (us : List KeyDef) (key row : List Value) (old new : List Slot) (indexes : List (List Slot)) → DifferInAll us key old new → held key old ≡ Some (Some row) → ((other : List Value) → held key new ≡ Some (Some other) → ⊥)
    → AreIndexesOf us indexes (rows_in old) → AreIndexesOf us (all_without us row indexes) (rows_in new)
taken_of_all [] key row old new indexes differ has gone are = are
taken_of_all (u ∷ us) key row old new [] differ has gone are = absurd are
taken_of_all (u ∷ us) key row old new (i ∷ is) differ has gone are =
    (take_one u key row old new i (first_of u us key old new differ) has gone are.0, taken_of_all us key row old new is (others_of u us key old new differ) has gone are.1)

-- ---- the first key in the way

some_found : (test : List Value → Bool) (rows : List (List Value)) → is_some (find test rows) ≡ list_any test rows
some_found test [] = refl
some_found test (r ∷ rs) = step (test r) (some_found test rs)
  where
    step : (here : Bool) → is_some (find test rs) ≡ list_any test rs → is_some (cond here (Some r) (find test rs)) ≡ (here || list_any test rs)
    step true later = refl
    step false later = later

pub first_in_way : (d : TableDef) (us : List KeyDef) (row : List Value) (es cs : List Slot) → keys_rise (keys_in es) ≡ true → keys_rise (keys_in cs) ≡ true → list_all (has_own_key d) cs ≡ true
    → AllByRecursion (λ u. AreApart u cs) us → AllByRecursion (λ u. AreApart u (over es cs)) us
    → first_found d us row es cs ≡ first_agreed us row (rows_in (over es cs))
first_in_way d [] row es cs rise_es rise_cs own apart_cs apart_all = refl
first_in_way d (u ∷ us) row es cs rise_es rise_cs own apart_cs apart_all =
    let found : is_some (found_in d u (values_at u.columns row) es cs) ≡ list_any (λ other. agree_on row other u) (rows_in (over es cs)) =
    ap (λ (o : Option (List Value)). is_some o) (found_in_both d u (values_at u.columns row) es cs rise_es rise_cs own apart_cs.0 apart_all.0)
    ∙ some_found (λ other. agree_on row other u) (rows_in (over es cs)) in
    ap (λ (b : Bool). cond b (Some 0) (option_map suc (first_found d us row es cs))) found
    ∙ ap (λ (o : Option ℕ). cond (list_any (λ other. agree_on row other u) (rows_in (over es cs))) (Some 0) (option_map suc o)) (first_in_way d us row es cs rise_es rise_cs own apart_cs.1 apart_all.1)
