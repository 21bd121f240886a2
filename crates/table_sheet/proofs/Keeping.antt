-- What holds of a table's slots is kept where an entry is set or made, and what its rows are then.
use Rattle.std.proofs.Common.{◌≡◌, ℕ, suc, ◌+◌, ◌^◌, ◌≤◌, List, length, Bool, true, false, ◌||◌, Option, Some, None, refl, sym, ap, ◌∙◌, arith}
use Rattle.std.specs.List.{list_any, list_all}
use Rattle.std.specs.Option.{option_or, option_map, option_and_then}
use Rattle.val_types.specs.declared.value.Value.{Value}
use Rattle.val_types.specs.declared.definitions.TableDef.{TableDef}
use Rattle.val_types.specs.Fitting.{row_fits}
use Rattle.val_types.specs.Keys.{primary_key, same_values, collide}
use Rattle.table_rules.specs.Changes.{with_row}
use Rattle.table_rules.specs.Stored.{row_of_key, rows_beside}
use Rattle.table_rules.specs.Stores.{is_among}
use Rattle.table_rules.proofs.Taking.{same_self}
use Rattle.row_index.specs.row_sheets.Slots.{Slot, held, fill, with_slot, keys_in, keys_rise, rows_in, has_own_key, is_sound}
use Rattle.row_index.specs.row_sheets.Over.{over}
use Rattle.row_index.proofs.of_row_sheets.Held.{held-over, rises-over}
use Rattle.table_sheet.specs.Pages.{Holds, news}
use Rattle.table_sheet.proofs.Shown.{Sound, sound, is_sound_from, sound_with, sound_emptied, sound_put, rows_emptied, rows_filled, rows_with, keys_filled, among_with, own_with, own_filled, row_of_slot, row_is_under, none_of_its_key}
use Rattle.table_sheet.proofs.Entering.{one, over_one, shown_set, shown_hidden, shown_new, news_set, news_hidden, news_new, is_there, not_there}

module _ (d : TableDef) (cs es : List Slot) (space fresh : ℕ) (h : Holds d cs es space fresh) where
  abbrev pub shown_now : List Slot
  shown_now = over es cs

  sound_now : Sound d (over es cs)
  sound_now = sound d (over es cs) h.sound

  rise_below : keys_rise (keys_in cs) ≡ true
  rise_below = (sound d cs h.whole).rising

  pub with_more : (more : ℕ) → space ≤ more → Holds d cs es more fresh
  with_more more le = record { whole = h.whole; rising = h.rising; own = h.own; sound = h.sound; counted = h.counted; enough = omega (arith, h.enough, le); few = h.few }

  module _ (key : List Value) (p : Option (List Value)) (own : has_own_key d (record { key = key; row = p }) ≡ true) where
    -- an entry that is there, set again
    pub holds_set : (was : Option (List Value)) → held key es ≡ Some was → Sound d (fill key p (over es cs)) → Holds d cs (fill key p es) space fresh
    holds_set was has s = record {
      whole = h.whole;
      rising = ap keys_rise (keys_filled key p es) ∙ h.rising;
      own = own_filled d key p es own h.own;
      sound = ap (is_sound d) (shown_set key p was es cs h.rising has) ∙ is_sound_from d (fill key p (over es cs)) s;
      counted = h.counted ∙ sym (news_set key p es cs);
      enough = h.enough;
      few = h.few;
    }

    own_made : held key es ≡ None → list_all (has_own_key d) (over (one key p) es) ≡ true
    own_made none = ap (list_all (has_own_key d)) (over_one key p es h.rising none) ∙ own_filled d key p (with_slot key es) own (own_with d key es h.own)

    -- a new one that hides a committed row
    pub holds_hidden : (was : Option (List Value)) → held key es ≡ None → held key cs ≡ Some was → Sound d (fill key p (over es cs)) → Holds d cs (over (one key p) es) space fresh
    holds_hidden was none has s = record {
      whole = h.whole;
      rising = rises-over (one key p) es refl h.rising;
      own = own_made none;
      sound = ap (is_sound d) (shown_hidden key p was es cs h.rising rise_below none has) ∙ is_sound_from d (fill key p (over es cs)) s;
      counted = h.counted ∙ sym (news_hidden key p was es cs h.rising none has);
      enough = h.enough;
      few = h.few;
    }

    -- a new one of a key that no committed row has
    pub holds_new : (more : ℕ) → held key es ≡ None → held key cs ≡ None → Sound d (fill key p (with_slot key (over es cs))) → fresh + 1 ≤ more → length cs + (fresh + 1) ≤ 2 ^ 32
        → Holds d cs (over (one key p) es) more (fresh + 1)
    holds_new more none missing s enough few = record {
      whole = h.whole;
      rising = rises-over (one key p) es refl h.rising;
      own = own_made none;
      sound = ap (is_sound d) (shown_new key p es cs h.rising none missing) ∙ is_sound_from d (fill key p (with_slot key (over es cs))) s;
      counted = let one_more : fresh + 1 ≡ suc (news cs es) = omega (arith, h.counted) in one_more ∙ sym (news_new key p es cs h.rising none missing);
      enough = enough;
      few = few;
    }

  -- ---- a row taken out

  pub out_set : (key : List Value) (was : Option (List Value)) → held key es ≡ Some was → Holds d cs (fill key None es) space fresh
  out_set key was has = holds_set key None refl was has (sound_emptied d key (over es cs) sound_now)

  pub out_set_rows : (key : List Value) (was : Option (List Value)) → held key es ≡ Some was → rows_in (over (fill key None es) cs) ≡ rows_beside d key (rows_in (over es cs))
  out_set_rows key was has = ap rows_in (shown_set key None was es cs h.rising has) ∙ rows_emptied d key (over es cs) sound_now

  pub out_hidden : (key : List Value) (was : Option (List Value)) → held key es ≡ None → held key cs ≡ Some was → Holds d cs (over (one key None) es) space fresh
  out_hidden key was none has = holds_hidden key None refl was none has (sound_emptied d key (over es cs) sound_now)

  pub out_hidden_rows : (key : List Value) (was : Option (List Value)) → held key es ≡ None → held key cs ≡ Some was
      → rows_in (over (over (one key None) es) cs) ≡ rows_beside d key (rows_in (over es cs))
  out_hidden_rows key was none has = ap rows_in (shown_hidden key None was es cs h.rising rise_below none has) ∙ rows_emptied d key (over es cs) sound_now

  -- ---- a row put

  module _ (row : List Value) (fits : row_fits d.columns row ≡ true) (free : list_any (collide d row) (rows_in (over es cs)) ≡ false) where
    abbrev its_key : List Value
    its_key = primary_key d row

    own_row : has_own_key d (record { key = primary_key d row; row = Some row }) ≡ true
    own_row = same_self (primary_key d row)

    shown_there : (was : Option (List Value)) → held (primary_key d row) es ≡ Some was → is_among (primary_key d row) (keys_in (over es cs)) ≡ true
    shown_there was has =
        is_there (primary_key d row) was (over es cs)
        (held-over (primary_key d row) es cs h.rising ∙ ap (λ (o : Option (Option (List Value))). option_or o (held (primary_key d row) cs)) has)

    pub in_set : (was : Option (List Value)) → held (primary_key d row) es ≡ Some was → Holds d cs (fill (primary_key d row) (Some row) es) space fresh
    in_set was has = holds_set (primary_key d row) (Some row) own_row was has (sound_put d row (over es cs) sound_now (shown_there was has) fits free)

    pub in_set_rows : (was : Option (List Value)) → held (primary_key d row) es ≡ Some was
        → rows_in (over (fill (primary_key d row) (Some row) es) cs) ≡ with_row d row (rows_in (over es cs))
    in_set_rows was has = ap rows_in (shown_set (primary_key d row) (Some row) was es cs h.rising has) ∙ rows_filled d row (over es cs) sound_now (shown_there was has) free

    none_shown : held (primary_key d row) es ≡ None → held (primary_key d row) cs ≡ None → is_among (primary_key d row) (keys_in (over es cs)) ≡ false
    none_shown none missing =
        not_there (primary_key d row) (over es cs)
        (held-over (primary_key d row) es cs h.rising ∙ ap (λ (o : Option (Option (List Value))). option_or o (held (primary_key d row) cs)) none ∙ missing)

    sound_slot : held (primary_key d row) es ≡ None → held (primary_key d row) cs ≡ None → Sound d (with_slot (primary_key d row) (over es cs))
    sound_slot none missing = sound_with d (primary_key d row) (over es cs) sound_now (none_shown none missing)

    or_first : (a b : Bool) → a ≡ true → (a || b) ≡ true
    or_first true b e = refl
    or_first false b e = cc

    slot_there : is_among (primary_key d row) (keys_in (with_slot (primary_key d row) (over es cs))) ≡ true
    slot_there =
        among_with (primary_key d row) (primary_key d row) (over es cs)
        ∙ or_first (same_values (primary_key d row) (primary_key d row)) (is_among (primary_key d row) (keys_in (over es cs))) (same_self (primary_key d row))

    free_slot : list_any (collide d row) (rows_in (with_slot (primary_key d row) (over es cs))) ≡ false
    free_slot = ap (λ (rows : List (List Value)). list_any (collide d row) rows) (rows_with (primary_key d row) (over es cs)) ∙ free

    pub in_new : (more : ℕ) → held (primary_key d row) es ≡ None → held (primary_key d row) cs ≡ None → fresh + 1 ≤ more → length cs + (fresh + 1) ≤ 2 ^ 32
        → Holds d cs (over (one (primary_key d row) (Some row)) es) more (fresh + 1)
    in_new more none missing enough few =
        holds_new (primary_key d row) (Some row) own_row more none missing (sound_put d row (with_slot (primary_key d row) (over es cs)) (sound_slot none missing) slot_there fits free_slot) enough few

    pub in_new_rows : held (primary_key d row) es ≡ None → held (primary_key d row) cs ≡ None
        → rows_in (over (over (one (primary_key d row) (Some row)) es) cs) ≡ with_row d row (rows_in (over es cs))
    in_new_rows none missing =
        ap rows_in (shown_new (primary_key d row) (Some row) es cs h.rising none missing)
        ∙ rows_filled d row (with_slot (primary_key d row) (over es cs)) (sound_slot none missing) slot_there free_slot
        ∙ ap (with_row d row) (rows_with (primary_key d row) (over es cs))

    -- a row that collides with none has no committed row of its key, where there is no entry of it
    pub none_below : held (primary_key d row) es ≡ None → (o : Option (List Value)) → held (primary_key d row) cs ≡ option_map (λ r. Some r) o → held (primary_key d row) cs ≡ None
    none_below none None has = has
    none_below none (Some other) has =
        let there : row_of_key d (primary_key d row) (rows_in (over es cs)) ≡ Some other =
        row_of_slot d (primary_key d row) (over es cs) sound_now ∙ row_is_under (primary_key d row) (over es cs)
        ∙ ap (option_and_then (λ r. r)) (held-over (primary_key d row) es cs h.rising ∙ ap (λ (o : Option (Option (List Value))). option_or o (held (primary_key d row) cs)) none ∙ has) in
        let never : Some other ≡ None = sym there ∙ none_of_its_key d row (rows_in (over es cs)) free in cc
