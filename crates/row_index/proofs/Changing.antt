-- Indexes as the slots of their rows change at one key.
use Rattle.std.proofs.Common.{◌≡◌, ℕ, suc, ◌<◌, ◌≤◌, List, [], ◌∷◌, ◌++◌, length, Bool, true, false, cond, not, Option, Some, None, refl, sym, ap, ◌∙◌, arith}
use Rattle.std.specs.Prelude.{slice_get, option_to_list}
use Rattle.std.specs.List.{list_any}
use Rattle.std.specs.Option.{option_map}
use Rattle.std.proofs.lemmas.Bool.{and_parts, and_from, true≢false}
use Rattle.val_types.specs.declared.value.Value.{Value}
use Rattle.val_types.specs.declared.definitions.KeyDef.{KeyDef}
use Rattle.val_types.specs.Fitting.{is_null}
use Rattle.val_types.specs.Keys.{values_at, same_values}
use Rattle.table_rules.proofs.Taking.{same_is, same_self}
use Rattle.row_sheets.specs.Slots.{Slot, held, fill, keys_in, keys_rise, rows_in, is_slot_of, drop_slot}
use Rattle.row_sheets.specs.Over.{over}
use Rattle.row_sheets.specs.Claims.{has_values, has_under, AreApart}
use Rattle.row_sheets.proofs.Claims.{under_of, under_is, under_same, filled_self, filled_other}
use Rattle.row_sheets.proofs.Finding.{Shown, shown_of}
use Rattle.row_indexes.specs.Indexes.{IsIndexOf}
use Rattle.row_indexes.specs.IndexLaws.{DifferAt, by_values}
use Rattle.row_indexes.specs.Wholes.{index_with, index_without}
use Rattle.row_indexes.proofs.Indexing.{none_with, with_beside, put_keeps, null_put_keeps, taken_keeps, null_taken_keeps}
use Rattle.row_index.specs.Numbers.{number_slots}
use Rattle.row_index.proofs.Members.{IsOfRow, is_of_row}

-- ---- rows that are among others

no_row : (u : KeyDef) (values key : List Value) (ss : List Slot) (o : Option (Option (List Value))) → held key ss ≡ o → has_under u values key ss ≡ true → (row : List Value) × (o ≡ Some (Some row))
no_row u values key ss None is e = absurd (true≢false (sym (under_is u values key ss None is e)))
no_row u values key ss (Some None) is e = absurd (true≢false (sym (under_is u values key ss (Some None) is e)))
no_row u values key ss (Some (Some row)) is e = (row, refl)

-- rows that others have under the same keys are apart as these are
pub apart_among : (u : KeyDef) (small big : List Slot) → ((key row : List Value) → held key small ≡ Some (Some row) → held key big ≡ Some (Some row)) → AreApart u big → AreApart u small
apart_among u small big has are = λ values first second a b. are values first second (up values first a) (up values second b)
  where
    up : (values key : List Value) → has_under u values key small ≡ true → has_under u values key big ≡ true
    up values key e =
        let found = no_row u values key small (held key small) refl e in
        under_same u values key small big (found.1 ∙ sym (has key found.0 found.1)) e

-- ---- a slot filled

pub keys_filled : (key : List Value) (p : Option (List Value)) (ss : List Slot) → keys_in (fill key p ss) ≡ keys_in ss
keys_filled key p [] = refl
keys_filled key p (s ∷ ss) = step (is_slot_of key s) (keys_filled key p ss)
  where
    step : (here : Bool) → keys_in (fill key p ss) ≡ keys_in ss → keys_in (cond here (record { key = s.key; row = p } ∷ ss) (s ∷ fill key p ss)) ≡ s.key ∷ keys_in ss
    step true later = refl
    step false later = ap (λ (ks : List (List Value)). s.key ∷ ks) later

rises_filled : (key : List Value) (p : Option (List Value)) (ss : List Slot) → keys_rise (keys_in ss) ≡ true → keys_rise (keys_in (fill key p ss)) ≡ true
rises_filled key p ss rises = ap keys_rise (keys_filled key p ss) ∙ rises

-- filled with what it has
pub rows_refilled : (key : List Value) (p : Option (List Value)) (ss : List Slot) → held key ss ≡ Some p → rows_in (fill key p ss) ≡ rows_in ss
rows_refilled key p [] has = refl
rows_refilled key p (s ∷ ss) has = step (is_slot_of key s) has (rows_refilled key p ss)
  where
    step : (here : Bool) → cond here (Some s.row) (held key ss) ≡ Some p → (held key ss ≡ Some p → rows_in (fill key p ss) ≡ rows_in ss) → rows_in (cond here (record { key = s.key; row = p } ∷ ss) (s ∷ fill key p ss)) ≡ option_to_list s.row ++ rows_in ss
    step true e later = let same : s.row ≡ p = cc in ap (λ (o : Option (List Value)). option_to_list o ++ rows_in ss) (sym same)
    step false e later = ap (λ (rows : List (List Value)). option_to_list s.row ++ rows) (later e)

refilled : (key : List Value) (p q : Option (List Value)) (ss : List Slot) → fill key p (fill key q ss) ≡ fill key p ss
refilled key p q [] = refl
refilled key p q (s ∷ ss) = step (is_slot_of key s) refl (refilled key p q ss)
  where
    step : (here : Bool) → is_slot_of key s ≡ here → fill key p (fill key q ss) ≡ fill key p ss
        → fill key p (cond here (record { key = s.key; row = q } ∷ ss) (s ∷ fill key q ss)) ≡ cond here (record { key = s.key; row = p } ∷ ss) (s ∷ fill key p ss)
    step true is later = ap (λ (b : Bool). cond b (record { key = s.key; row = p } ∷ ss) (record { key = s.key; row = q } ∷ fill key p ss)) is
    step false is later = ap (λ (b : Bool). cond b (record { key = s.key; row = p } ∷ fill key q ss) (s ∷ fill key p (fill key q ss))) is ∙ ap (λ (rest : List Slot). s ∷ rest) later

-- ---- how many rows there are

pub rows_few : (ss : List Slot) → length (rows_in ss) ≤ length ss
rows_few [] = omega arith
rows_few (s ∷ ss) = step s.row (rows_few ss)
  where
    step : (o : Option (List Value)) → length (rows_in ss) ≤ length ss → length (option_to_list o ++ rows_in ss) ≤ suc (length ss)
    step None later = omega (arith, later)
    step (Some row) later = omega (arith, later)

pub rows_fewer : (key : List Value) (ss : List Slot) → held key ss ≡ Some None → length (rows_in ss) < length ss
rows_fewer key [] has = cc
rows_fewer key (s ∷ ss) has = step (is_slot_of key s) s.row refl has (rows_fewer key ss)
  where
    step : (here : Bool) (o : Option (List Value)) → s.row ≡ o → cond here (Some s.row) (held key ss) ≡ Some None → (held key ss ≡ Some None → length (rows_in ss) < length ss) → length (option_to_list s.row ++ rows_in ss) < suc (length ss)
    step true None is e later = omega (arith, rows_few ss, ap (λ (p : Option (List Value)). length (option_to_list p ++ rows_in ss)) is)
    step true (Some row) is e later = let never : Some (Some row) ≡ Some None = ap (λ (p : Option (List Value)). Some p) (sym is) ∙ e in cc
    step false None is e later = omega (arith, later e, ap (λ (p : Option (List Value)). length (option_to_list p ++ rows_in ss)) is)
    step false (Some row) is e later = omega (arith, later e, ap (λ (p : Option (List Value)). length (option_to_list p ++ rows_in ss)) is)

-- ---- a row put at a key, and one taken out

module _ (u : KeyDef) (key row : List Value) (old new index : List Slot) (differ : DifferAt u key old new) where
  -- no row has its values before
  pub values_free : ((other : List Value) → held key old ≡ Some (Some other) → ⊥) → held key new ≡ Some (Some row) → IsIndexOf u index (rows_in old) → held (values_at u.columns row) index ≡ None
  values_free free has are =
      are.told (values_at u.columns row)
      ∙ ap (option_map (λ r. Some r)) (none_with u (values_at u.columns row) old differ.old_rises (λ k other there passes. at k other there passes (same_values k key) refl))
    where
      at : (k other : List Value) → held k old ≡ Some (Some other) → has_values u (values_at u.columns row) other ≡ true → (here : Bool) → same_values k key ≡ here → ⊥
      at k other there passes true e = free other (ap (λ (x : List Value). held x old) (sym (same_is k key e)) ∙ there)
      at k other there passes false e =
          let parts = and_parts (not (list_any is_null (values_at u.columns row))) (same_values (values_at u.columns row) (values_at u.columns other)) passes in
          let own : has_values u (values_at u.columns row) row ≡ true = and_from (not (list_any is_null (values_at u.columns row))) (same_values (values_at u.columns row) (values_at u.columns row)) parts.0 (same_self (values_at u.columns row)) in
          let mine : has_under u (values_at u.columns row) key new ≡ true = ap (λ o. under_of u (values_at u.columns row) o) has ∙ own in
          let others : has_under u (values_at u.columns row) k new ≡ true = ap (λ o. under_of u (values_at u.columns row) o) (differ.beside k e ∙ there) ∙ passes in
          let same : k ≡ key = differ.new_apart (values_at u.columns row) k key others mine in
          true≢false (sym (same_self key) ∙ ap (λ (x : List Value). same_values x key) (sym same) ∙ e)

  pub row_put : ((other : List Value) → held key old ≡ Some (Some other) → ⊥) → held key new ≡ Some (Some row) → IsIndexOf u index (rows_in old) → IsIndexOf u (index_with u row index) (rows_in new)
  row_put free has are = at (list_any is_null (values_at u.columns row)) refl
    where
      at : (null : Bool) → list_any is_null (values_at u.columns row) ≡ null → IsIndexOf u (cond null index (over (by_values u row) index)) (rows_in new)
      at true e = null_put_keeps u key row old new index differ free has are e
      at false e = put_keeps u key row old new index differ free has are e

  pub row_taken : held key old ≡ Some (Some row) → ((other : List Value) → held key new ≡ Some (Some other) → ⊥) → IsIndexOf u index (rows_in old) → IsIndexOf u (index_without u row index) (rows_in new)
  row_taken has gone are = at (list_any is_null (values_at u.columns row)) refl
    where
      at : (null : Bool) → list_any is_null (values_at u.columns row) ≡ null → IsIndexOf u (cond null index (drop_slot (values_at u.columns row) index)) (rows_in new)
      at true e = null_taken_keeps u key row old new index differ has gone are e
      at false e = taken_keeps u key row old new index differ has gone are e

  -- neither has one there
  pub none_moved : ((other : List Value) → held key old ≡ Some (Some other) → ⊥) → ((other : List Value) → held key new ≡ Some (Some other) → ⊥) → IsIndexOf u index (rows_in old) → IsIndexOf u index (rows_in new)
  none_moved free gone are = record {
    rising = are.rising;
    told = λ values.
        are.told values
        ∙ sym (ap (option_map (λ r. Some r)) (with_beside u values key old new differ (λ other there. absurd (free other there)) (λ other there. absurd (gone other there))));
  }

-- ---- a slot emptied, and filled

module _ (u : KeyDef) (key : List Value) (es : List Slot) (rises : keys_rise (keys_in es) ≡ true) (apart : AreApart u es) where
  never_none : {A : Type 0} (p q : Option (List Value)) (row : List Value) → held key (fill key None es) ≡ Some None → held key (fill key None es) ≡ Some (Some row) → A
  never_none p q row none has = let never : Some None ≡ Some (Some row) = sym none ∙ has in cc

  emptied_among : (k row : List Value) → held key (fill key None es) ≡ Some None → held k (fill key None es) ≡ Some (Some row) → held k es ≡ Some (Some row)
  emptied_among k row none has = at (same_values k key) refl
    where
      at : (here : Bool) → same_values k key ≡ here → held k es ≡ Some (Some row)
      at true e = never_none None None row none (ap (λ (x : List Value). held x (fill key None es)) (sym (same_is k key e)) ∙ has)
      at false e = sym (filled_other key k None es e) ∙ has

  pub emptied_differs : (was : Option (List Value)) → held key es ≡ Some was → DifferAt u key es (fill key None es)
  emptied_differs was has = record {
    old_rises = rises;
    new_rises = rises_filled key None es rises;
    old_apart = apart;
    new_apart = apart_among u (fill key None es) es (λ k row there. emptied_among k row (filled_self key None was es has) there) apart;
    beside = λ k e. filled_other key k None es e;
  }

  pub filled_differs : (was p : Option (List Value)) → held key es ≡ Some was → AreApart u (fill key p es) → DifferAt u key (fill key None es) (fill key p es)
  filled_differs was p has new_apart = record {
    old_rises = rises_filled key None es rises;
    new_rises = rises_filled key p es rises;
    old_apart = (emptied_differs was has).new_apart;
    new_apart = new_apart;
    beside = λ k e. filled_other key k p es e ∙ sym (filled_other key k None es e);
  }

  -- the number of a slot that was emptied is in no index of the others
  pub not_numbered : (row_at : ℕ → Option (List Value)) (ns : List ℕ) (number i : ℕ) (was : Option (List Value)) → held key es ≡ Some was → row_at number ≡ was
      → IsIndexOf u (number_slots u row_at ns) (rows_in (fill key None es)) → slice_get ns i ≡ Some number → ⊥
  not_numbered row_at ns number i was has there are at =
      let of : IsOfRow u row_at (rows_in (fill key None es)) number = is_of_row u row_at ns (rows_in (fill key None es)) i number are at in
      let shown : Shown (has_values u (values_at u.columns of.row)) (fill key None es) of.row =
      shown_of (has_values u (values_at u.columns of.row)) (fill key None es) of.row (rises_filled key None es rises) of.is in
      let none : held key (fill key None es) ≡ Some None = filled_self key None was es has in
      let mine : held key es ≡ Some (Some of.row) = has ∙ ap (λ (o : Option (List Value)). Some o) (sym there ∙ of.there) in
      let same : shown.key ≡ key =
      apart (values_at u.columns of.row) shown.key key (ap (λ o. under_of u (values_at u.columns of.row) o) (emptied_among shown.key of.row none shown.there) ∙ shown.passes) (ap (λ o. under_of u (values_at u.columns of.row) o) mine ∙ shown.passes) in
      never_none None None of.row none (ap (λ (x : List Value). held x (fill key None es)) (sym same) ∙ shown.there)
