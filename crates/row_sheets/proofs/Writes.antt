-- The claims of all unique keys of a table.
use Rattle.std.proofs.Common.{◌≡◌, ℕ, suc, List, [], ◌∷◌, ◌++◌, Bool, true, false, ◌||◌, cond, Option, Some, None, refl, sym, ap, ◌∙◌}
use Rattle.std.specs.Prelude.{option_to_list, slice_get}
use Rattle.std.specs.List.{list_any, AllByRecursion}
use Rattle.std.specs.Option.{option_or}
use Rattle.std.proofs.lemmas.Bool.{true≢false}
use Rattle.val_types.specs.declared.value.Value.{Value}
use Rattle.val_types.specs.declared.definitions.TableDef.{TableDef}
use Rattle.val_types.specs.declared.definitions.KeyDef.{KeyDef}
use Rattle.val_types.specs.Keys.{values_at, primary_key, same_values, agree_on, collide}
use Rattle.row_sheets.specs.Slots.{Slot, held, keys_in, keys_rise, rows_in, fill, with_slot, is_slot_of}
use Rattle.row_sheets.specs.Over.{over}
use Rattle.row_sheets.specs.Claims.{Claim, has_values, has_under}
use Rattle.row_sheets.specs.Sheets.{AreAllClaimed}
use Rattle.row_sheets.specs.Writes.{all_released, all_claimed_by, HasFreeValue}
use Rattle.row_sheets.proofs.Held.{held-over, held_rest}
use Rattle.row_sheets.proofs.Claims.{entry_claims_nothing, row_taken_out, row_put, under_is}
use Rattle.row_sheets.proofs.Sheets.{any_at, either}

pub all_with_entry : (us : List KeyDef) (key : List Value) (es cs : List Slot) (claims : List (List Claim)) → held key es ≡ None → AreAllClaimed us es cs claims → AreAllClaimed us (with_slot key es) cs claims
all_with_entry [] key es cs claims none all = all
all_with_entry (u ∷ us) key es cs [] none all = all
all_with_entry (u ∷ us) key es cs (own ∷ claims) none all = (entry_claims_nothing u key es cs own none all.0, all_with_entry us key es cs claims none all.1)

pub all_taken_out : (us : List KeyDef) (key row : List Value) (es cs : List Slot) (claims : List (List Claim)) → held key es ≡ Some (Some row) → AreAllClaimed us es cs claims
    → AreAllClaimed us (fill key None es) cs (all_released us key row claims)
all_taken_out [] key row es cs claims has all = all
all_taken_out (u ∷ us) key row es cs [] has all = all
all_taken_out (u ∷ us) key row es cs (own ∷ claims) has all = (row_taken_out u key row es cs own has all.0, all_taken_out us key row es cs claims has all.1)

pub all_put : (us : List KeyDef) (key row : List Value) (es cs : List Slot) (claims : List (List Claim)) → held key es ≡ Some None → AllByRecursion (HasFreeValue row es) us → AreAllClaimed us es cs claims
    → AreAllClaimed us (fill key (Some row) es) cs (all_claimed_by us key row cs claims)
all_put [] key row es cs claims bare free all = all
all_put (u ∷ us) key row es cs [] bare free all = all
all_put (u ∷ us) key row es cs (own ∷ claims) bare free all = (row_put u key row es cs own bare free.0 all.0, all_put us key row es cs claims bare free.1 all.1)

-- ---- values that are free

-- a row in a slot is among the rows
any_shown : (test : List Value → Bool) (ss : List Slot) (key row : List Value) → held key ss ≡ Some (Some row) → test row ≡ true → list_any test (rows_in ss) ≡ true
any_shown test [] key row has passes = cc
any_shown test (s ∷ ss) key row has passes = at s.row refl (is_slot_of key s) refl (λ there. any_shown test ss key row there passes)
  where
    later : (o : Option (List Value)) → list_any test (rows_in ss) ≡ true → list_any test (option_to_list o ++ rows_in ss) ≡ true
    later None e = e
    later (Some first) e = either (test first) (list_any test (rows_in ss)) e

    first_or : (a b : Bool) → a ≡ true → (a || b) ≡ true
    first_or true b e = refl
    first_or false b e = cc

    here : (o : Option (List Value)) → Some o ≡ Some (Some row) → list_any test (option_to_list o ++ rows_in ss) ≡ true
    here None e = cc
    here (Some first) e = let same : first ≡ row = cc in first_or (test first) (list_any test (rows_in ss)) (ap test same ∙ passes)

    at : (o : Option (List Value)) → s.row ≡ o → (t : Bool) → is_slot_of key s ≡ t → (held key ss ≡ Some (Some row) → list_any test (rows_in ss) ≡ true) → list_any test (option_to_list o ++ rows_in ss) ≡ true
    at o is true slot rest =
        let mine : held key (s ∷ ss) ≡ Some o = ap (λ (t : Bool). cond t (Some s.row) (held key ss)) slot ∙ ap (λ (r : Option (List Value)). Some r) is in
        here o (sym mine ∙ has)
    at o is false slot rest = later o (rest (sym (held_rest key s ss slot) ∙ has))

module _ (d : TableDef) (row : List Value) (es cs : List Slot) (rises : keys_rise (keys_in es) ≡ true) (none : list_any (collide d row) (rows_in (over es cs)) ≡ false) where
  -- an entry's row that has the value collides
  collides : (which : ℕ) (u : KeyDef) (other : List Value) → slice_get d.uniques which ≡ Some u → has_values u (values_at u.columns row) other ≡ true → collide d row other ≡ true
  collides which u other is has =
      either (same_values (primary_key d row) (primary_key d other)) (list_any (agree_on row other) d.uniques) (any_at (agree_on row other) d.uniques which u is has)

  free_value : (which : ℕ) (u : KeyDef) → slice_get d.uniques which ≡ Some u → HasFreeValue row es u
  free_value which u is key = at (held key es) refl (has_under u (values_at u.columns row) key es) refl
    where
      at : (o : Option (Option (List Value))) → held key es ≡ o → (t : Bool) → has_under u (values_at u.columns row) key es ≡ t → has_under u (values_at u.columns row) key es ≡ false
      at o held_is false under = under
      at None held_is true under = absurd (true≢false (sym (under_is u (values_at u.columns row) key es None held_is under)))
      at (Some None) held_is true under = absurd (true≢false (sym (under_is u (values_at u.columns row) key es (Some None) held_is under)))
      at (Some (Some other)) held_is true under =
          let shown : held key (over es cs) ≡ Some (Some other) = held-over key es cs rises ∙ ap (λ o. option_or o (held key cs)) held_is in
          let has : has_values u (values_at u.columns row) other ≡ true = under_is u (values_at u.columns row) key es (Some (Some other)) held_is under in
          absurd (true≢false (sym (any_shown (collide d row) (over es cs) key other shown (collides which u other is has)) ∙ none))

free_each : (row : List Value) (es : List Slot) (us : List KeyDef) → ((which : ℕ) (u : KeyDef) → slice_get us which ≡ Some u → HasFreeValue row es u) → AllByRecursion (HasFreeValue row es) us
free_each row es [] each = tt
free_each row es (u ∷ us) each = (each 0 u refl, free_each row es us (λ which v is. each (suc which) v is))

pub free_where_none : (d : TableDef) (row : List Value) (es cs : List Slot) → keys_rise (keys_in es) ≡ true → list_any (collide d row) (rows_in (over es cs)) ≡ false → AllByRecursion (HasFreeValue row es) d.uniques
free_where_none d row es cs rises none = free_each row es d.uniques (free_value d row es cs rises none)
