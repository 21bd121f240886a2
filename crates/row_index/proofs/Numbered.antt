-- The numbers of a unique key: how they compare with a row, and what becomes of their slots.
use Rattle.std.proofs.Common.{◌≡◌, ℕ, List, [], ◌∷◌, Bool, true, false, cond, Option, Some, None, Ok, Err, Ordering, refl, sym, ap, ◌∙◌}
use Rattle.std.specs.Prelude.{slice_get, slice_index, insert, remove}
use Rattle.std.specs.List.{list_any}
use Rattle.std.specs.Option.{option_map}
use Rattle.std.proofs.lemmas.Option.{slice_get-get_or}
use Rattle.val_types.specs.declared.value.Value.{Value}
use Rattle.val_types.specs.declared.definitions.KeyDef.{KeyDef}
use Rattle.val_types.specs.Fitting.{is_null}
use Rattle.val_types.specs.Keys.{values_at}
use Rattle.val_types.specs.Order.{key_order}
use Rattle.block_list.specs.Layouts.{Layout, flat, holds}
use Rattle.block_list.specs.Spots.{place, IsAt, IsFound}
use Rattle.block_list.specs.declared.spot.Spot.{Spot}
use Rattle.block_list.proofs.Found.{place_is_within}
use Rattle.row_sheets.specs.Slots.{Slot, held, drop_slot, is_slot_of}
use Rattle.row_sheets.specs.Over.{over}
use Rattle.row_sheets.specs.Orders.{by_key, NumbersRise}
use Rattle.row_sheets.proofs.Orders.{found_at, missing_at, put_at, taken_at}
use Rattle.row_indexes.specs.Indexes.{slot_by_values}
use Rattle.row_index.specs.Numbers.{number_slot, number_slots, IsPut, IsTaken}

-- the slot of a number is that of its row
pub number_slot_is : (u : KeyDef) (row_at : ℕ → Option (List Value)) (n : ℕ) (o : Option (List Value)) → o ≡ row_at n → slot_by_values u o ≡ number_slot u row_at n
unfolding number_slot
number_slot_is u row_at n o e = ap (slot_by_values u) e

-- and has it
pub slot_has_row : (u : KeyDef) (row_at : ℕ → Option (List Value)) (n : ℕ) → (number_slot u row_at n).row ≡ row_at n
slot_has_row u row_at n = at (row_at n) refl
  where
    at : (o : Option (List Value)) → o ≡ row_at n → (number_slot u row_at n).row ≡ row_at n
    at None e = sym (ap (λ (s : Slot). s.row) (number_slot_is u row_at n None e)) ∙ e
    at (Some row) e = sym (ap (λ (s : Slot). s.row) (number_slot_is u row_at n (Some row) e)) ∙ e

module _ (u : KeyDef) (row_at : ℕ → Option (List Value)) (values : List Value) where
  -- ---- how a number's row stands to values that are looked for

  pub row_compared : (n : ℕ) (other : List Value) (order : Ordering) → Some other ≡ row_at n → order ≡ key_order (values_at u.columns other) values → order ≡ by_key (number_slot u row_at) values n
  row_compared n other order is e = e ∙ ap (λ (s : Slot). key_order s.key values) (number_slot_is u row_at n (Some other) is)

  pub nothing_compared : (n : ℕ) (order : Ordering) → None ≡ row_at n → order ≡ key_order [] values → order ≡ by_key (number_slot u row_at) values n
  nothing_compared n order is e = e ∙ ap (λ (s : Slot). key_order s.key values) (number_slot_is u row_at n None is)

  -- ---- what is found

  here : (blocks : List (List ℕ)) (spot : Spot) → IsAt blocks spot → slice_get (flat blocks) (place blocks spot) ≡ Some (slice_index (flat blocks) (place blocks spot))
  here blocks spot at = slice_get-get_or (flat blocks) (place blocks spot) 0 (place_is_within blocks spot.block spot.at at)

  pub found_number : (blocks : List (List ℕ)) (spot : Spot) (o : Option ℕ) → NumbersRise (number_slot u row_at) (flat blocks) → IsFound (by_key (number_slot u row_at) values) blocks (Ok spot)
      → o ≡ slice_get (flat blocks) (place blocks spot) → held values (number_slots u row_at (flat blocks)) ≡ option_map row_at o
  found_number blocks spot o rises found is =
      found_at (number_slot u row_at) values blocks spot rises found
      ∙ ap (λ (p : Option (List Value)). Some p) (slot_has_row u row_at (slice_index (flat blocks) (place blocks spot)))
      ∙ ap (option_map row_at) (sym (is ∙ here blocks spot found.0))

  pub missing_number : (blocks : List (List ℕ)) (spot : Spot) → IsFound (by_key (number_slot u row_at) values) blocks (Err spot) → held values (number_slots u row_at (flat blocks)) ≡ None
  missing_number blocks spot missing = missing_at (number_slot u row_at) values blocks spot missing

module _ (u : KeyDef) (row_at : ℕ → Option (List Value)) (row : List Value) where
  -- ---- a number put

  pub put_null : (old : Layout) → list_any is_null (values_at u.columns row) ≡ true → IsPut u row_at row old old
  put_null old null = record {
    slots = λ free. sym (ap (λ (b : Bool). cond b (number_slots u row_at (flat old.blocks)) (over (record { key = values_at u.columns row; row = Some row } ∷ []) (number_slots u row_at (flat old.blocks)))) null);
    holds = refl;
  }

  pub put_found : (old : Layout) (spot : Spot) → NumbersRise (number_slot u row_at) (flat old.blocks) → IsFound (by_key (number_slot u row_at) (values_at u.columns row)) old.blocks (Ok spot) → IsPut u row_at row old old
  put_found old spot rises found = record {
    slots = λ free.
        let never : None ≡ Some (number_slot u row_at (slice_index (flat old.blocks) (place old.blocks spot))).row = sym free ∙ found_at (number_slot u row_at) (values_at u.columns row) old.blocks spot rises found in cc;
    holds = refl;
  }

  pub put_missing : (old new : Layout) (spot : Spot) (n : ℕ) → row_at n ≡ Some row → list_any is_null (values_at u.columns row) ≡ false
      → IsFound (by_key (number_slot u row_at) (values_at u.columns row)) old.blocks (Err spot) → flat new.blocks ≡ insert (flat old.blocks) (place old.blocks spot) n → holds new ≡ holds old → IsPut u row_at row old new
  put_missing old new spot n is full missing put same = record {
    slots = λ free.
        ap (number_slots u row_at) put
        ∙ put_at (number_slot u row_at) (values_at u.columns row) old.blocks spot n (ap (λ (s : Slot). s.key) slot) missing
        ∙ ap (λ (s : Slot). over (s ∷ []) (number_slots u row_at (flat old.blocks))) slot
        ∙ sym (ap (λ (b : Bool). cond b (number_slots u row_at (flat old.blocks)) (over (record { key = values_at u.columns row; row = Some row } ∷ []) (number_slots u row_at (flat old.blocks)))) full);
    holds = same;
  }
    where
      slot : number_slot u row_at n ≡ record { key = values_at u.columns row; row = Some row }
      slot = sym (number_slot_is u row_at n (Some row) (sym is))

  -- ---- a number taken out

  pub taken_null : (old : Layout) → list_any is_null (values_at u.columns row) ≡ true → IsTaken u row_at row old old
  taken_null old null = record {
    slots = sym (ap (λ (b : Bool). cond b (number_slots u row_at (flat old.blocks)) (drop_slot (values_at u.columns row) (number_slots u row_at (flat old.blocks)))) null);
    holds = refl;
  }

  dropped_none : (key : List Value) (ss : List Slot) → held key ss ≡ None → drop_slot key ss ≡ ss
  dropped_none key [] none = refl
  dropped_none key (s ∷ ss) none = step (is_slot_of key s) none (dropped_none key ss)
    where
      step : (same : Bool) → cond same (Some s.row) (held key ss) ≡ None → (held key ss ≡ None → drop_slot key ss ≡ ss) → cond same ss (s ∷ drop_slot key ss) ≡ s ∷ ss
      step true e later = cc
      step false e later = ap (λ (rest : List Slot). s ∷ rest) (later e)

  pub taken_missing : (old : Layout) → list_any is_null (values_at u.columns row) ≡ false → held (values_at u.columns row) (number_slots u row_at (flat old.blocks)) ≡ None → IsTaken u row_at row old old
  taken_missing old full none = record {
    slots =
        sym (ap (λ (b : Bool). cond b (number_slots u row_at (flat old.blocks)) (drop_slot (values_at u.columns row) (number_slots u row_at (flat old.blocks)))) full
        ∙ dropped_none (values_at u.columns row) (number_slots u row_at (flat old.blocks)) none);
    holds = refl;
  }

  pub taken_found : (old new : Layout) (spot : Spot) → list_any is_null (values_at u.columns row) ≡ false → NumbersRise (number_slot u row_at) (flat old.blocks)
      → IsFound (by_key (number_slot u row_at) (values_at u.columns row)) old.blocks (Ok spot) → flat new.blocks ≡ remove (flat old.blocks) (place old.blocks spot) → holds new ≡ holds old → IsTaken u row_at row old new
  taken_found old new spot full rises found taken same = record {
    slots =
        ap (number_slots u row_at) taken ∙ taken_at (number_slot u row_at) (values_at u.columns row) old.blocks spot rises found
        ∙ sym (ap (λ (b : Bool). cond b (number_slots u row_at (flat old.blocks)) (drop_slot (values_at u.columns row) (number_slots u row_at (flat old.blocks)))) full);
    holds = same;
  }

-- of no numbers none is taken out
pub taken_nothing : (u : KeyDef) (row_at : ℕ → Option (List Value)) (row : List Value) → IsTaken u row_at row (record { blocks = []; spares = 0 }) (record { blocks = []; spares = 0 })
taken_nothing u row_at row = record { slots = at (list_any is_null (values_at u.columns row)); holds = refl }
  where
    at : (null : Bool) → [] ≡ cond null [] (drop_slot (values_at u.columns row) [])
    at true = refl
    at false = refl
