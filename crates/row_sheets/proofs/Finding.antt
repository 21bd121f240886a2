-- A value leads to the row that is shown with it.
use Rattle.std.proofs.Common.{◌≡◌, List, [], ◌∷◌, ◌++◌, Bool, true, false, cond, Option, Some, None, inl, inr, ◌⊎◌, refl, sym, ap, subst, ◌∙◌}
use Rattle.std.specs.Prelude.{option_to_list, find}
use Rattle.std.specs.List.{list_all}
use Rattle.std.specs.Option.{option_or, option_map_or, option_and_then}
use Rattle.std.proofs.lemmas.Bool.{and_parts, true≢false}
use Rattle.val_types.specs.declared.value.Value.{Value}
use Rattle.val_types.specs.declared.definitions.TableDef.{TableDef}
use Rattle.val_types.specs.declared.definitions.KeyDef.{KeyDef}
use Rattle.val_types.specs.Keys.{primary_key, same_values}
use Rattle.table_rules.proofs.Taking.{same_is}
use Rattle.table_rules.specs.Stored.{row_of_values}
use Rattle.row_sheets.specs.Slots.{Slot, held, rows_in, keys_in, keys_rise, all_above, is_slot_of, has_own_key}
use Rattle.row_sheets.specs.Over.{over}
use Rattle.row_sheets.specs.Claims.{Claim, holder_of, has_values, row_under, has_under, AreClaimed, AreApart, left_of, by_holder, found_by}
use Rattle.row_sheets.proofs.Held.{held-over, rises-over, held_first, held_rest, none_above}
use Rattle.row_sheets.proofs.Claims.{under_of, under_is}

-- a row that is shown has a slot
pub record Shown (test : List Value → Bool) (ss : List Slot) (row : List Value) : Type 0 where
  pub key : List Value
  pub there : held key ss ≡ Some (Some row)
  pub passes : test row ≡ true

-- what a later slot holds, where keys rise
later_holds : (s : Slot) (ss : List Slot) (key row : List Value) → keys_rise (keys_in (s ∷ ss)) ≡ true → held key ss ≡ Some (Some row) → held key (s ∷ ss) ≡ Some (Some row)
later_holds s ss key row rises has = step (is_slot_of key s) refl
  where
    step : (here : Bool) → is_slot_of key s ≡ here → held key (s ∷ ss) ≡ Some (Some row)
    step true is =
        let both = and_parts (all_above s.key (keys_in ss)) (keys_rise (keys_in ss)) rises in
        let none : Some (Some row) ≡ None = sym has ∙ ap (λ (k : List Value). held k ss) (same_is key s.key is) ∙ none_above s.key ss both.0 in cc
    step false is = held_rest key s ss is ∙ has

pub shown_of : (test : List Value → Bool) (ss : List Slot) (row : List Value) → keys_rise (keys_in ss) ≡ true → find test (rows_in ss) ≡ Some row → Shown test ss row
shown_of test [] row rises e = absurd (none_some e)
  where
    none_some : None ≡ Some row → ⊥
    none_some h = cc
shown_of test (s ∷ ss) row rises e = at s.row refl e (λ more. shown_of test ss row (and_parts (all_above s.key (keys_in ss)) (keys_rise (keys_in ss)) rises).1 more)
  where
    later : Shown test ss row → Shown test (s ∷ ss) row
    later shown = record { key = shown.key; there = later_holds s ss shown.key row rises shown.there; passes = shown.passes }

    tested : (first : List Value) → s.row ≡ Some first → (t : Bool) → test first ≡ t → cond t (Some first) (find test (rows_in ss)) ≡ Some row
        → (find test (rows_in ss) ≡ Some row → Shown test ss row) → Shown test (s ∷ ss) row
    tested first has true passed e rest =
        let same : first ≡ row = cc in
        record {
          key = s.key;
          there = held_first s ss ∙ ap (λ (o : Option (List Value)). Some o) (has ∙ ap (λ (r : List Value). Some r) same);
          passes = subst (λ (r : List Value). test r ≡ true) same passed;
        }
    tested first has false passed e rest = later (rest e)

    at : (o : Option (List Value)) → s.row ≡ o → find test (option_to_list o ++ rows_in ss) ≡ Some row → (find test (rows_in ss) ≡ Some row → Shown test ss row) → Shown test (s ∷ ss) row
    at None has e rest = later (rest e)
    at (Some first) has e rest = tested first has (test first) refl e rest

-- what no row passes, no slot's row does
pub none_shown : (test : List Value → Bool) (ss : List Slot) (key row : List Value) → find test (rows_in ss) ≡ None → held key ss ≡ Some (Some row) → test row ≡ false
none_shown test [] key row e has = cc
none_shown test (s ∷ ss) key row e has = at s.row refl e has (λ more there. none_shown test ss key row more there)
  where
    own : (o : Option (List Value)) → (t : Bool) → test row ≡ t → Some o ≡ Some (Some row) → find test (option_to_list o ++ rows_in ss) ≡ None → test row ≡ false
    own o false passed same e = passed
    own o true passed same e =
        let is : o ≡ Some row = cc in
        let found : find test (row ∷ rows_in ss) ≡ None = subst (λ (p : Option (List Value)). find test (option_to_list p ++ rows_in ss) ≡ None) is e in
        let some : find test (row ∷ rows_in ss) ≡ Some row = ap (λ (t : Bool). cond t (Some row) (find test (rows_in ss))) passed in
        let never : Some row ≡ None = sym some ∙ found in cc

    rest_none : (o : Option (List Value)) → find test (option_to_list o ++ rows_in ss) ≡ None → find test (rows_in ss) ≡ None
    rest_none None e = e
    rest_none (Some first) e = tested (test first) e
      where
        tested : (t : Bool) → cond t (Some first) (find test (rows_in ss)) ≡ None → find test (rows_in ss) ≡ None
        tested true e = cc
        tested false e = e

    at : (o : Option (List Value)) → s.row ≡ o → find test (option_to_list o ++ rows_in ss) ≡ None → held key (s ∷ ss) ≡ Some (Some row) → (find test (rows_in ss) ≡ None → held key ss ≡ Some (Some row) → test row ≡ false) → test row ≡ false
    at o is e has rest = step (is_slot_of key s) refl
      where
        step : (here : Bool) → is_slot_of key s ≡ here → test row ≡ false
        step true slot =
            let mine : held key (s ∷ ss) ≡ Some s.row = rw slot refl in
            own o (test row) refl (ap (λ (p : Option (List Value)). Some p) (sym is) ∙ sym mine ∙ has) e
        step false slot = rest (rest_none o e) (sym (held_rest key s ss slot) ∙ has)

-- ---- a unique key

module _ (u : KeyDef) (values : List Value) where
  abbrev under : List Value → List Slot → Bool
  under key ss = has_under u values key ss

  under_row : (key row : List Value) (ss : List Slot) → held key ss ≡ Some (Some row) → has_values u values row ≡ true → under key ss ≡ true
  under_row key row ss has passes = ap (λ o. under_of u values o) has ∙ passes

  -- the one row that is shown with the values
  pub shown_is : (ss : List Slot) (key row : List Value) → keys_rise (keys_in ss) ≡ true → AreApart u ss → held key ss ≡ Some (Some row) → has_values u values row ≡ true → row_of_values u values (rows_in ss) ≡ Some row
  shown_is ss key row rises apart has passes = at (row_of_values u values (rows_in ss)) refl
    where
      at : (o : Option (List Value)) → row_of_values u values (rows_in ss) ≡ o → row_of_values u values (rows_in ss) ≡ Some row
      at None is = absurd (true≢false (sym passes ∙ none_shown (has_values u values) ss key row is has))
      at (Some other) is =
          let shown : Shown (has_values u values) ss other = shown_of (has_values u values) ss other rises is in
          let same : shown.key ≡ key = apart values shown.key key (under_row shown.key other ss shown.there shown.passes) (under_row key row ss has passes) in
          let rows : Some (Some other) ≡ Some (Some row) = sym shown.there ∙ ap (λ (k : List Value). held k ss) same ∙ has in
          let row_is : other ≡ row = cc in
          is ∙ ap (λ (r : List Value). Some r) row_is

  module _ (claims : List Claim) (es cs : List Slot) (rise_es : keys_rise (keys_in es) ≡ true) (rise_cs : keys_rise (keys_in cs) ≡ true)
      (apart_cs : AreApart u cs) (apart_all : AreApart u (over es cs)) (are : AreClaimed u es cs claims) where
    abbrev all : List Slot
    all = over es cs

    rise_all : keys_rise (keys_in (over es cs)) ≡ true
    rise_all = rises-over es cs rise_es rise_cs

    over_is : (key : List Value) (o : Option (Option (List Value))) → held key es ≡ o → held key (over es cs) ≡ option_or o (held key cs)
    over_is key o is = held-over key es cs rise_es ∙ ap (λ p. option_or p (held key cs)) is

    -- who has the value
    by_entry : (key : List Value) → holder_of values claims ≡ Some key → row_under key es ≡ row_of_values u values (rows_in (over es cs))
    by_entry key has = at (held key es) refl
      where
        at : (o : Option (Option (List Value))) → held key es ≡ o → row_under key es ≡ row_of_values u values (rows_in (over es cs))
        at None is = absurd (true≢false (sym (under_is u values key es None is (are.holders values key has))))
        at (Some None) is = absurd (true≢false (sym (under_is u values key es (Some None) is (are.holders values key has))))
        at (Some (Some row)) is =
            ap (λ o. option_and_then (λ (r : Option (List Value)). r) o) is
            ∙ sym (shown_is (over es cs) key row rise_all apart_all (over_is key (Some (Some row)) is) (under_is u values key es (Some (Some row)) is (are.holders values key has)))

    -- where nobody has it, a row that is shown with it stands under a committed one that has it, too
    committed_too : (key row : List Value) → holder_of values claims ≡ None → held key (over es cs) ≡ Some (Some row) → has_values u values row ≡ true → under key cs ≡ true
    committed_too key row nobody has passes = at (held key es) refl
      where
        by_claim : (holder_of values claims ≡ Some key) ⊎ (under key cs ≡ true) → under key cs ≡ true
        by_claim (inl h) = let never : None ≡ Some key = sym nobody ∙ h in cc
        by_claim (inr c) = c

        at : (o : Option (Option (List Value))) → held key es ≡ o → under key cs ≡ true
        at None is = under_row key row cs (sym (over_is key None is) ∙ has) passes
        at (Some p) is =
            let here : Some p ≡ Some (Some row) = sym (over_is key (Some p) is) ∙ has in
            by_claim (are.rows values key (under_row key row es (is ∙ here) passes))

    none_left : holder_of values claims ≡ None → ((key row : List Value) → held key (over es cs) ≡ Some (Some row) → has_values u values row ≡ true → ⊥) → None ≡ row_of_values u values (rows_in (over es cs))
    none_left nobody never = at (row_of_values u values (rows_in (over es cs))) refl
      where
        at : (o : Option (List Value)) → row_of_values u values (rows_in (over es cs)) ≡ o → None ≡ row_of_values u values (rows_in (over es cs))
        at None is = sym is
        at (Some row) is =
            let shown : Shown (has_values u values) (over es cs) row = shown_of (has_values u values) (over es cs) row rise_all is in
            absurd (never shown.key row shown.there shown.passes)

    -- no committed row has it
    by_none : holder_of values claims ≡ None → row_of_values u values (rows_in cs) ≡ None → None ≡ row_of_values u values (rows_in (over es cs))
    by_none nobody none = none_left nobody (λ key row has passes. at key (held key cs) refl (committed_too key row nobody has passes))
      where
        at : (key : List Value) (o : Option (Option (List Value))) → held key cs ≡ o → under key cs ≡ true → ⊥
        at key None is e = true≢false (sym (under_is u values key cs None is e))
        at key (Some None) is e = true≢false (sym (under_is u values key cs (Some None) is e))
        at key (Some (Some row)) is e =
            true≢false (sym (under_is u values key cs (Some (Some row)) is e) ∙ none_shown (has_values u values) cs key row none is)

    -- a committed row has it
    by_row : (key row : List Value) → holder_of values claims ≡ None → held key cs ≡ Some (Some row) → has_values u values row ≡ true
        → left_of u values row (held key es) ≡ row_of_values u values (rows_in (over es cs))
    by_row key row nobody has passes = at (held key es) refl
      where
        -- what is shown with it is under the key
        under_key : (other shown : List Value) → held other (over es cs) ≡ Some (Some shown) → has_values u values shown ≡ true → held key (over es cs) ≡ Some (Some shown)
        under_key other shown there it =
            let same : other ≡ key = apart_cs values other key (committed_too other shown nobody there it) (under_row key row cs has passes) in
            subst (λ (k : List Value). held k (over es cs) ≡ Some (Some shown)) same there

        present_left : (present : List Value) → held key es ≡ Some (Some present) → (t : Bool) → has_values u values present ≡ t
            → cond t (Some present) None ≡ row_of_values u values (rows_in (over es cs))
        present_left present is true it = sym (shown_is (over es cs) key present rise_all apart_all (over_is key (Some (Some present)) is) it)
        present_left present is false it = none_left nobody (λ other shown there passes_it. never shown (under_key other shown there passes_it) passes_it)
          where
            never : (shown : List Value) → held key (over es cs) ≡ Some (Some shown) → has_values u values shown ≡ true → ⊥
            never shown there passes_it =
                let here : Some (Some present) ≡ Some (Some shown) = sym (over_is key (Some (Some present)) is) ∙ there in
                let same : present ≡ shown = cc in
                true≢false (sym passes_it ∙ ap (λ (r : List Value). has_values u values r) (sym same) ∙ it)

        at : (o : Option (Option (List Value))) → held key es ≡ o → left_of u values row o ≡ row_of_values u values (rows_in (over es cs))
        at None is = sym (shown_is (over es cs) key row rise_all apart_all (over_is key None is ∙ has) passes)
        at (Some None) is = none_left nobody (λ other shown there it. never shown (under_key other shown there it))
          where
            never : (shown : List Value) → held key (over es cs) ≡ Some (Some shown) → ⊥
            never shown there = let here : Some None ≡ Some (Some shown) = sym (over_is key (Some None) is) ∙ there in none_some here
              where
                none_some : Some None ≡ Some (Some shown) → ⊥
                none_some h = cc
        at (Some (Some present)) is = present_left present is (has_values u values present) refl

-- the row in the slot of a key has that key
own_key : (d : TableDef) (key row : List Value) (ss : List Slot) → list_all (has_own_key d) ss ≡ true → held key ss ≡ Some (Some row) → primary_key d row ≡ key
own_key d key row [] own has = cc
own_key d key row (s ∷ ss) own has = step (is_slot_of key s) refl has (and_parts (has_own_key d s) (list_all (has_own_key d) ss) own) (λ more there. own_key d key row ss more there)
  where
    step : (here : Bool) → is_slot_of key s ≡ here → cond here (Some s.row) (held key ss) ≡ Some (Some row) → (has_own_key d s ≡ true) × (list_all (has_own_key d) ss ≡ true)
        → (list_all (has_own_key d) ss ≡ true → held key ss ≡ Some (Some row) → primary_key d row ≡ key) → primary_key d row ≡ key
    step true is e both later =
        let row_is : s.row ≡ Some row = cc in
        let same : same_values s.key (primary_key d row) ≡ true = sym (ap (λ (o : Option (List Value)). option_map_or (λ r. same_values s.key (primary_key d r)) o true) row_is) ∙ both.0 in
        sym (same_is key s.key is ∙ same_is s.key (primary_key d row) same)
    step false is e both later = later both.1 e

pub found_by_value : (d : TableDef) (u : KeyDef) (values : List Value) (claims : List Claim) (es cs : List Slot)
    → keys_rise (keys_in es) ≡ true → keys_rise (keys_in cs) ≡ true → list_all (has_own_key d) cs ≡ true → AreApart u cs → AreApart u (over es cs) → AreClaimed u es cs claims
    → found_by d u values claims es cs ≡ row_of_values u values (rows_in (over es cs))
found_by_value d u values claims es cs rise_es rise_cs own apart_cs apart_all are = at (holder_of values claims) refl
  where
    committed : holder_of values claims ≡ None → (o : Option (List Value)) → row_of_values u values (rows_in cs) ≡ o
        → option_and_then (λ row. left_of u values row (held (primary_key d row) es)) o ≡ row_of_values u values (rows_in (over es cs))
    committed nobody None is = by_none u values claims es cs rise_es rise_cs apart_cs apart_all are nobody is
    committed nobody (Some row) is =
        let shown : Shown (has_values u values) cs row = shown_of (has_values u values) cs row rise_cs is in
        let key_is : primary_key d row ≡ shown.key = own_key d shown.key row cs own shown.there in
        ap (λ (k : List Value). left_of u values row (held k es)) key_is
        ∙ by_row u values claims es cs rise_es rise_cs apart_cs apart_all are shown.key row nobody shown.there shown.passes

    at : (o : Option (List Value)) → holder_of values claims ≡ o → by_holder d u values es cs o ≡ row_of_values u values (rows_in (over es cs))
    at (Some key) is = by_entry u values claims es cs rise_es rise_cs apart_cs apart_all are key is
    at None is = committed is (row_of_values u values (rows_in cs)) refl
