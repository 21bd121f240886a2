-- Claims through what is done with entries.
use Rattle.std.proofs.Common.{◌≡◌, suc, List, [], ◌∷◌, length, Bool, true, false, ◌||◌, not, cond, Option, Some, None, inl, inr, ◌⊎◌, refl, sym, ap, subst, ◌∙◌}
use Rattle.std.specs.List.{list_any}
use Rattle.std.specs.Option.{option_map_or, option_and_then}
use Rattle.std.proofs.lemmas.Bool.{and_parts, and_from, or_parts, true≢false}
use Rattle.val_types.specs.declared.value.Value.{Value}
use Rattle.val_types.specs.declared.definitions.KeyDef.{KeyDef}
use Rattle.val_types.specs.Fitting.{is_null}
use Rattle.val_types.specs.Keys.{values_at, same_values}
use Rattle.table_rules.proofs.Taking.{same_is, same_self}
use Rattle.row_sheets.specs.Slots.{Slot, held, fill, with_slot, is_slot_of, is_not_before}
use Rattle.row_sheets.specs.Claims.{Claim, holder_of, is_claimed, held_now, has_values, has_under, AreClaimed, released, claimed_by, keeps_value}
use Rattle.row_sheets.proofs.Held.{held_rest}

-- ---- what slots hold once one is filled or new

pub filled_self : (key : List Value) (p was : Option (List Value)) (ss : List Slot) → held key ss ≡ Some was → held key (fill key p ss) ≡ Some p
filled_self key p was [] has = cc
filled_self key p was (s ∷ ss) has = step (is_slot_of key s) refl has (λ later. filled_self key p was ss later)
  where
    step : (here : Bool) → is_slot_of key s ≡ here → cond here (Some s.row) (held key ss) ≡ Some was → (held key ss ≡ Some was → held key (fill key p ss) ≡ Some p)
        → held key (cond here (record { key = s.key; row = p } ∷ ss) (s ∷ fill key p ss)) ≡ Some p
    step true is e later = rw is refl
    step false is e later = held_rest key s (fill key p ss) is ∙ later e

pub filled_other : (key other : List Value) (p : Option (List Value)) (ss : List Slot) → same_values other key ≡ false → held other (fill key p ss) ≡ held other ss
filled_other key other p [] apart = refl
filled_other key other p (s ∷ ss) apart = step (is_slot_of key s) refl (filled_other key other p ss apart)
  where
    step : (here : Bool) → is_slot_of key s ≡ here → held other (fill key p ss) ≡ held other ss
        → held other (cond here (record { key = s.key; row = p } ∷ ss) (s ∷ fill key p ss)) ≡ held other (s ∷ ss)
    step true is later =
        let not_this : is_slot_of other s ≡ false = subst (λ (k : List Value). same_values other k ≡ false) (same_is key s.key is) apart in
        rw not_this refl
    step false is later = ap (λ (rest : Option (Option (List Value))). cond (is_slot_of other s) (Some s.row) rest) later

pub new_self : (key : List Value) (ss : List Slot) → held key ss ≡ None → held key (with_slot key ss) ≡ Some None
new_self key [] none = rw (same_self key) refl
new_self key (s ∷ ss) none = step (is_not_before key s) (is_slot_of key s) refl none (λ later. new_self key ss later)
  where
    step : (before here : Bool) → is_slot_of key s ≡ here → cond here (Some s.row) (held key ss) ≡ None → (held key ss ≡ None → held key (with_slot key ss) ≡ Some None)
        → held key (cond before (record { key = key; row = None } ∷ s ∷ ss) (s ∷ with_slot key ss)) ≡ Some None
    step true here is e later = rw (same_self key) refl
    step false true is e later = cc
    step false false is e later = held_rest key s (with_slot key ss) is ∙ later e

pub new_other : (key other : List Value) (ss : List Slot) → same_values other key ≡ false → held other (with_slot key ss) ≡ held other ss
new_other key other [] apart = rw apart refl
new_other key other (s ∷ ss) apart = step (is_not_before key s) (new_other key other ss apart)
  where
    step : (before : Bool) → held other (with_slot key ss) ≡ held other ss → held other (cond before (record { key = key; row = None } ∷ s ∷ ss) (s ∷ with_slot key ss)) ≡ held other (s ∷ ss)
    step true later = rw apart refl
    step false later = ap (λ (rest : Option (Option (List Value))). cond (is_slot_of other s) (Some s.row) rest) later

-- ---- who has a value, once a claim has another holder

pub holder_now : (values : List Value) (holder : Option (List Value)) (cs : List Claim) → holder_of values (held_now values holder cs) ≡ holder
holder_now values holder [] = rw (same_self values) refl
holder_now values holder (c ∷ cs) = step (same_values values c.values) refl (holder_now values holder cs)
  where
    step : (here : Bool) → same_values values c.values ≡ here → holder_of values (held_now values holder cs) ≡ holder
        → holder_of values (cond here (record { values = c.values; holder = holder } ∷ cs) (c ∷ held_now values holder cs)) ≡ holder
    step true is later = rw is refl
    step false is later = rw is later

pub holder_beside : (values other : List Value) (holder : Option (List Value)) (cs : List Claim) → same_values other values ≡ false → holder_of other (held_now values holder cs) ≡ holder_of other cs
holder_beside values other holder [] apart = rw apart refl
holder_beside values other holder (c ∷ cs) apart = step (same_values values c.values) refl (holder_beside values other holder cs apart)
  where
    step : (here : Bool) → same_values values c.values ≡ here → holder_of other (held_now values holder cs) ≡ holder_of other cs
        → holder_of other (cond here (record { values = c.values; holder = holder } ∷ cs) (c ∷ held_now values holder cs)) ≡ holder_of other (c ∷ cs)
    step true is later =
        let not_this : same_values other c.values ≡ false = subst (λ (v : List Value). same_values other v ≡ false) (same_is values c.values is) apart in
        rw not_this refl
    step false is later = ap (λ (rest : Option (List Value)). cond (same_values other c.values) c.holder rest) later

claimed_step : (a b c : Bool) → (b ≡ true → c ≡ true) → (a || b) ≡ true → (a || c) ≡ true
claimed_step true b c h e = refl
claimed_step false b c h e = h e

-- no claim is dropped
pub claimed_still : (values other : List Value) (holder : Option (List Value)) (cs : List Claim) → is_claimed other cs ≡ true → is_claimed other (held_now values holder cs) ≡ true
claimed_still values other holder [] has = cc
claimed_still values other holder (c ∷ cs) has = step (same_values values c.values) has (λ later. claimed_still values other holder cs later)
  where
    step : (here : Bool) → is_claimed other (c ∷ cs) ≡ true → (is_claimed other cs ≡ true → is_claimed other (held_now values holder cs) ≡ true)
        → is_claimed other (cond here (record { values = c.values; holder = holder } ∷ cs) (c ∷ held_now values holder cs)) ≡ true
    step true e later = e
    step false e later = claimed_step (same_values other c.values) (is_claimed other cs) (is_claimed other (held_now values holder cs)) later e

-- nor is one new where the value was claimed
pub none_new : (values : List Value) (holder : Option (List Value)) (cs : List Claim) → is_claimed values cs ≡ true → length (held_now values holder cs) ≡ length cs
none_new values holder [] has = cc
none_new values holder (c ∷ cs) has = step (same_values values c.values) has (λ later. none_new values holder cs later)
  where
    step : (here : Bool) → (here || is_claimed values cs) ≡ true → (is_claimed values cs ≡ true → length (held_now values holder cs) ≡ length cs)
        → length (cond here (record { values = c.values; holder = holder } ∷ cs) (c ∷ held_now values holder cs)) ≡ suc (length cs)
    step true e later = refl
    step false e later = ap suc (later e)

-- ---- what a row has

-- the values that a row has are those in the columns
pub values_are : (u : KeyDef) (values row : List Value) → has_values u values row ≡ true → values ≡ values_at u.columns row
values_are u values row e = same_is values (values_at u.columns row) (and_parts (not (list_any is_null values)) (same_values values (values_at u.columns row)) e).1

-- of what a slot holds
abbrev pub under_of : KeyDef → List Value → Option (Option (List Value)) → Bool
under_of u values o = option_map_or (has_values u values) (option_and_then (λ row. row) o) false

pub under_same : (u : KeyDef) (values key : List Value) (xs ys : List Slot) → held key xs ≡ held key ys → has_under u values key xs ≡ true → has_under u values key ys ≡ true
under_same u values key xs ys same e = sym (ap (λ o. under_of u values o) same) ∙ e

pub under_is : (u : KeyDef) (values key : List Value) (ss : List Slot) (o : Option (Option (List Value))) → held key ss ≡ o → has_under u values key ss ≡ true → under_of u values o ≡ true
under_is u values key ss o is e = sym (ap (λ p. under_of u values p) is) ∙ e

-- an entry without a row has no values
bare_has_none : (u : KeyDef) (values key : List Value) (ss : List Slot) → held key ss ≡ Some None → has_under u values key ss ≡ true → ⊥
bare_has_none u values key ss bare e = true≢false (sym (under_is u values key ss (Some None) bare e))

no_slot_has_none : (u : KeyDef) (values key : List Value) (ss : List Slot) → held key ss ≡ None → has_under u values key ss ≡ true → ⊥
no_slot_has_none u values key ss none e = true≢false (sym (under_is u values key ss None none e))

same_by : (a b : List Value) → a ≡ b → same_values a b ≡ true
same_by a b e = subst (λ (x : List Value). same_values a x ≡ true) e (same_self a)

-- ---- entries without rows

pub entry_claims_nothing : (u : KeyDef) (key : List Value) (es cs : List Slot) (claims : List Claim) → held key es ≡ None → AreClaimed u es cs claims → AreClaimed u (with_slot key es) cs claims
entry_claims_nothing u key es cs claims none are = record {
  holders = λ values k e. still values k (are.holders values k e) (same_values k key) refl;
  rows = λ values k e. are.rows values k (before values k e (same_values k key) refl);
}
  where
    still : (values k : List Value) → has_under u values k es ≡ true → (here : Bool) → same_values k key ≡ here → has_under u values k (with_slot key es) ≡ true
    still values k e true is = absurd (no_slot_has_none u values key es none (subst (λ (n : List Value). has_under u values n es ≡ true) (same_is k key is) e))
    still values k e false is = under_same u values k es (with_slot key es) (sym (new_other key k es is)) e

    before : (values k : List Value) → has_under u values k (with_slot key es) ≡ true → (here : Bool) → same_values k key ≡ here → has_under u values k es ≡ true
    before values k e true is = absurd (bare_has_none u values key (with_slot key es) (new_self key es none) (subst (λ (n : List Value). has_under u values n (with_slot key es) ≡ true) (same_is k key is) e))
    before values k e false is = under_same u values k (with_slot key es) es (new_other key k es is) e

-- ---- a row taken out

module _ (u : KeyDef) (key row : List Value) (es cs : List Slot) (claims : List Claim) (has : held key es ≡ Some (Some row)) (are : AreClaimed u es cs claims) where
  abbrev own : List Value
  own = values_at u.columns row

  -- what the entry has is the row's value
  own_is : (values : List Value) → has_under u values key es ≡ true → values ≡ own
  own_is values e = values_are u values row (under_is u values key es (Some (Some row)) has e)

  taken_holder : (t : Bool) → option_map_or (same_values key) (holder_of own claims) false ≡ t → (values k : List Value)
      → holder_of values (cond t (held_now own None claims) claims) ≡ Some k → (holder_of values claims ≡ Some k) × (same_values k key ≡ false)
  taken_holder true is values k e = at (same_values values own) refl
    where
      other_key : holder_of values claims ≡ Some k → same_values values own ≡ false → (here : Bool) → same_values k key ≡ here → same_values k key ≡ false
      other_key h apart true same =
          let v : values ≡ own = own_is values (subst (λ (n : List Value). has_under u values n es ≡ true) (same_is k key same) (are.holders values k h)) in
          absurd (true≢false (sym (same_by values own v) ∙ apart))
      other_key h apart false same = same

      at : (here : Bool) → same_values values own ≡ here → (holder_of values claims ≡ Some k) × (same_values k key ≡ false)
      at true same =
          let none : None ≡ Some k = sym (holder_now own None claims) ∙ ap (λ (v : List Value). holder_of v (held_now own None claims)) (sym (same_is values own same)) ∙ e in cc
      at false apart =
          let h : holder_of values claims ≡ Some k = sym (holder_beside own values None claims apart) ∙ e in
          (h, other_key h apart (same_values k key) refl)
  taken_holder false is values k e = (e, other_key (same_values k key) refl)
    where
      other_key : (here : Bool) → same_values k key ≡ here → same_values k key ≡ false
      other_key true same =
          let k_is : k ≡ key = same_is k key same in
          let v : values ≡ own = own_is values (subst (λ (n : List Value). has_under u values n es ≡ true) k_is (are.holders values k e)) in
          let h : holder_of own claims ≡ Some key = ap (λ (x : List Value). holder_of x claims) (sym v) ∙ e ∙ ap (λ (x : List Value). Some x) k_is in
          absurd (true≢false (sym (ap (λ o. option_map_or (same_values key) o false) h ∙ same_self key) ∙ is))
      other_key false same = same

  taken_rows : (t : Bool) → option_map_or (same_values key) (holder_of own claims) false ≡ t → (values k : List Value) → same_values k key ≡ false
      → holder_of values claims ≡ Some k → holder_of values (cond t (held_now own None claims) claims) ≡ Some k
  taken_rows true is values k apart h = at (same_values values own) refl
    where
      at : (here : Bool) → same_values values own ≡ here → holder_of values (held_now own None claims) ≡ Some k
      at true same =
          let owns : holder_of own claims ≡ Some k = ap (λ (x : List Value). holder_of x claims) (sym (same_is values own same)) ∙ h in
          let yes : same_values key k ≡ true = sym (ap (λ o. option_map_or (same_values key) o false) owns) ∙ is in
          absurd (true≢false (sym (same_by k key (sym (same_is key k yes))) ∙ apart))
      at false other = holder_beside own values None claims other ∙ h
  taken_rows false is values k apart h = h

  pub row_taken_out : AreClaimed u (fill key None es) cs (released u key row claims)
  row_taken_out = record {
    holders = λ values k e.
        let both : (holder_of values claims ≡ Some k) × (same_values k key ≡ false) = taken_holder (option_map_or (same_values key) (holder_of own claims) false) refl values k e in
        under_same u values k es (fill key None es) (sym (filled_other key k None es both.1)) (are.holders values k both.0);
    rows = λ values k e. after values k e (same_values k key) refl;
  }
    where
      later : (values k : List Value) → same_values k key ≡ false → (holder_of values claims ≡ Some k) ⊎ (has_under u values k cs ≡ true)
          → (holder_of values (released u key row claims) ≡ Some k) ⊎ (has_under u values k cs ≡ true)
      later values k apart (inl h) = inl (taken_rows (option_map_or (same_values key) (holder_of own claims) false) refl values k apart h)
      later values k apart (inr c) = inr c

      after : (values k : List Value) → has_under u values k (fill key None es) ≡ true → (here : Bool) → same_values k key ≡ here
          → (holder_of values (released u key row claims) ≡ Some k) ⊎ (has_under u values k cs ≡ true)
      after values k e true is =
          absurd (bare_has_none u values key (fill key None es) (filled_self key None (Some row) es has) (subst (λ (n : List Value). has_under u values n (fill key None es) ≡ true) (same_is k key is) e))
      after values k e false is = later values k is (are.rows values k (under_same u values k (fill key None es) es (filled_other key k None es is) e))

-- ---- a row put

module _ (u : KeyDef) (key row : List Value) (es cs : List Slot) (claims : List Claim) (bare : held key es ≡ Some None)
    (free : (other : List Value) → has_under u (values_at u.columns row) other es ≡ false) (are : AreClaimed u es cs claims) where
  abbrev put_own : List Value
  put_own = values_at u.columns row

  abbrev stays : Bool
  stays = list_any is_null put_own || has_under u put_own key cs

  put_self : held key (fill key (Some row) es) ≡ Some (Some row)
  put_self = filled_self key (Some row) None es bare

  -- who had a value was another entry
  holder_beside_key : (values k : List Value) → holder_of values claims ≡ Some k → has_under u values k (fill key (Some row) es) ≡ true
  holder_beside_key values k h = at (same_values k key) refl
    where
      at : (here : Bool) → same_values k key ≡ here → has_under u values k (fill key (Some row) es) ≡ true
      at true is = absurd (bare_has_none u values key es bare (subst (λ (n : List Value). has_under u values n es ≡ true) (same_is k key is) (are.holders values k h)))
      at false is = under_same u values k es (fill key (Some row) es) (sym (filled_other key k (Some row) es is)) (are.holders values k h)

  put_holders : (t : Bool) → stays ≡ t → (values k : List Value) → holder_of values (cond t claims (held_now put_own (Some key) claims)) ≡ Some k → has_under u values k (fill key (Some row) es) ≡ true
  put_holders true is values k e = holder_beside_key values k e
  put_holders false is values k e = at (same_values values put_own) refl
    where
      at : (here : Bool) → same_values values put_own ≡ here → has_under u values k (fill key (Some row) es) ≡ true
      at true same =
          let v : values ≡ put_own = same_is values put_own same in
          let k_is : Some key ≡ Some k = sym (holder_now put_own (Some key) claims) ∙ ap (λ (x : List Value). holder_of x (held_now put_own (Some key) claims)) (sym v) ∙ e in
          let here : key ≡ k = cc in
          let no_null : list_any is_null put_own ≡ false = (or_parts (list_any is_null put_own) (has_under u put_own key cs) is).0 in
          let own_has : has_values u put_own row ≡ true = and_from (not (list_any is_null put_own)) (same_values put_own put_own) (ap not no_null) (same_self put_own) in
          let there : has_under u put_own key (fill key (Some row) es) ≡ true = ap (λ o. under_of u put_own o) put_self ∙ own_has in
          subst (λ (n : List Value). has_under u values n (fill key (Some row) es) ≡ true) here
          (subst (λ (x : List Value). has_under u x key (fill key (Some row) es) ≡ true) (sym v) there)
      at false apart = holder_beside_key values k (sym (holder_beside put_own values (Some key) claims apart) ∙ e)

  put_rows : (t : Bool) → stays ≡ t → (values k : List Value) → has_under u values k (fill key (Some row) es) ≡ true
      → (holder_of values (cond t claims (held_now put_own (Some key) claims)) ≡ Some k) ⊎ (has_under u values k cs ≡ true)
  put_rows t is values k e = at (same_values k key) refl
    where
      -- the entry's own row
      own_row : (t : Bool) → stays ≡ t → values ≡ put_own → k ≡ key → has_values u values row ≡ true → (holder_of values (cond t claims (held_now put_own (Some key) claims)) ≡ Some k) ⊎ (has_under u values k cs ≡ true)
      own_row true is v k_is has_it = null_or (list_any is_null put_own) refl is
        where
          null_or : (n : Bool) → list_any is_null put_own ≡ n → (n || has_under u put_own key cs) ≡ true → (holder_of values claims ≡ Some k) ⊎ (has_under u values k cs ≡ true)
          null_or true null_is e =
              let no_null : not (list_any is_null values) ≡ true = (and_parts (not (list_any is_null values)) (same_values values put_own) has_it).0 in
              let null_values : list_any is_null values ≡ true = ap (λ (x : List Value). list_any is_null x) v ∙ null_is in
              absurd (true≢false (sym no_null ∙ ap not null_values))
          null_or false null_is e =
              inr (subst (λ (n : List Value). has_under u values n cs ≡ true) (sym k_is) (subst (λ (x : List Value). has_under u x key cs ≡ true) (sym v) e))
      own_row false is v k_is has_it =
          inl (ap (λ (x : List Value). holder_of x (held_now put_own (Some key) claims)) v ∙ holder_now put_own (Some key) claims ∙ ap (λ (x : List Value). Some x) (sym k_is))

      -- another entry's
      beside : (t : Bool) → has_under u values k es ≡ true → (holder_of values claims ≡ Some k) ⊎ (has_under u values k cs ≡ true)
          → (holder_of values (cond t claims (held_now put_own (Some key) claims)) ≡ Some k) ⊎ (has_under u values k cs ≡ true)
      beside t has_it (inr c) = inr c
      beside true has_it (inl h) = inl h
      beside false has_it (inl h) = other (same_values values put_own) refl
        where
          other : (here : Bool) → same_values values put_own ≡ here → (holder_of values (held_now put_own (Some key) claims) ≡ Some k) ⊎ (has_under u values k cs ≡ true)
          other true same =
              absurd (true≢false (sym (subst (λ (x : List Value). has_under u x k es ≡ true) (same_is values put_own same) has_it) ∙ free k))
          other false apart = inl (holder_beside put_own values (Some key) claims apart ∙ h)

      at : (here : Bool) → same_values k key ≡ here → (holder_of values (cond t claims (held_now put_own (Some key) claims)) ≡ Some k) ⊎ (has_under u values k cs ≡ true)
      at true same =
          let k_is : k ≡ key = same_is k key same in
          let has_it : has_values u values row ≡ true =
          under_is u values key (fill key (Some row) es) (Some (Some row)) put_self (subst (λ (n : List Value). has_under u values n (fill key (Some row) es) ≡ true) k_is e) in
          own_row t is (values_are u values row has_it) k_is has_it
      at false apart =
          let was : has_under u values k es ≡ true = under_same u values k (fill key (Some row) es) es (filled_other key k (Some row) es apart) e in
          beside t was (are.rows values k was)

  pub row_put : AreClaimed u (fill key (Some row) es) cs (claimed_by u key row cs claims)
  row_put = record { holders = put_holders stays refl; rows = put_rows stays refl }

-- ---- what is kept

pub nothing_claimed : (u : KeyDef) (cs : List Slot) → AreClaimed u [] cs []
nothing_claimed u cs = record { holders = λ values k e. none e; rows = λ values k e. absurd (true≢false (sym e)) }
  where
    none : {k : List Value} → None ≡ Some k → false ≡ true
    none e = cc

released_keeps : (t : Bool) (values mine : List Value) (claims : List Claim) → is_claimed values claims ≡ true → is_claimed values (cond t (held_now mine None claims) claims) ≡ true
released_keeps true values mine claims e = claimed_still mine values None claims e
released_keeps false values mine claims e = e

claimed_keeps : (t : Bool) (values mine key : List Value) (claims : List Claim) → is_claimed values claims ≡ true → is_claimed values (cond t claims (held_now mine (Some key) claims)) ≡ true
claimed_keeps true values mine key claims e = e
claimed_keeps false values mine key claims e = claimed_still mine values (Some key) claims e

pub values_kept : (u : KeyDef) (key row other_key other : List Value) (cs : List Slot) (claims : List Claim) → keeps_value u key row cs claims ≡ true
    → (keeps_value u key row cs (released u other_key other claims) ≡ true) × (keeps_value u key row cs (claimed_by u other_key other cs claims) ≡ true)
values_kept u key row other_key other cs claims e = (
  claimed_step (list_any is_null (values_at u.columns row) || has_under u (values_at u.columns row) key cs) (is_claimed (values_at u.columns row) claims) (is_claimed (values_at u.columns row) (released u other_key other claims))
      (released_keeps (option_map_or (same_values other_key) (holder_of (values_at u.columns other) claims) false) (values_at u.columns row) (values_at u.columns other) claims) e,
  claimed_step (list_any is_null (values_at u.columns row) || has_under u (values_at u.columns row) key cs) (is_claimed (values_at u.columns row) claims) (is_claimed (values_at u.columns row) (claimed_by u other_key other cs claims))
      (claimed_keeps (list_any is_null (values_at u.columns other) || has_under u (values_at u.columns other) other_key cs) (values_at u.columns row) (values_at u.columns other) other_key claims) e,
)

pub no_new_claim : (u : KeyDef) (key row : List Value) (cs : List Slot) (claims : List Claim) → keeps_value u key row cs claims ≡ true → length (claimed_by u key row cs claims) ≡ length claims
no_new_claim u key row cs claims e = step (list_any is_null (values_at u.columns row) || has_under u (values_at u.columns row) key cs) e
  where
    step : (t : Bool) → (t || is_claimed (values_at u.columns row) claims) ≡ true → length (cond t claims (held_now (values_at u.columns row) (Some key) claims)) ≡ length claims
    step true e = refl
    step false e = none_new (values_at u.columns row) (Some key) claims e
