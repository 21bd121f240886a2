-- Entries settled leave the rows that are shown.
use Rattle.std.proofs.Common.{◌≡◌, List, [], ◌∷◌, Bool, true, false, cond, Option, Some, None, refl, sym, ap, subst, ◌∙◌, suc, ◌+◌, length, arith}
use Rattle.std.specs.List.{AllByRecursion}
use Rattle.std.proofs.lemmas.List.{nil_from_length}
use Rattle.std.specs.Option.{option_or}
use Rattle.val_types.specs.declared.value.Value.{Value}
use Rattle.val_types.specs.Keys.{same_values}
use Rattle.table_rules.proofs.Taking.{same_is, same_self}
use Rattle.row_sheets.specs.Slots.{Slot, is_slot_of, keys_in, rows_in, keys_rise, held, drop_slot}
use Rattle.row_sheets.specs.Over.{over, settled, settled_by, AreJust, AreOfOneEach}
use Rattle.row_sheets.proofs.Held.{slots_told, held-over, rises-over, dropped_self, dropped_other, rises-dropped, rows-dropped}

-- a row alone
abbrev alone : List Value → List Value → List Slot
alone key row = record { key = key; row = Some row } ∷ []

alone_self : (key row : List Value) → held key (alone key row) ≡ Some (Some row)
alone_self key row = rw (same_self key) refl

alone_other : (key other row : List Value) → same_values other key ≡ false → held other (alone key row) ≡ None
alone_other key other row e = rw e refl

put_stays : (key row : List Value) (es cs : List Slot) → keys_rise (keys_in es) ≡ true → keys_rise (keys_in cs) ≡ true → held key es ≡ Some (Some row)
    → over (drop_slot key es) (over (alone key row) cs) ≡ over es cs
put_stays key row es cs rise_es rise_cs has =
    slots_told (over (drop_slot key es) (over (alone key row) cs)) (over es cs)
    (rises-over (drop_slot key es) (over (alone key row) cs) (rises-dropped key es rise_es) (rises-over (alone key row) cs refl rise_cs))
    (rises-over es cs rise_es rise_cs)
    (λ k. both_sides k ∙ at k (same_values k key) refl ∙ sym (held-over k es cs rise_es))
  where
    both_sides : (k : List Value) → held k (over (drop_slot key es) (over (alone key row) cs)) ≡ option_or (held k (drop_slot key es)) (option_or (held k (alone key row)) (held k cs))
    both_sides k =
        held-over k (drop_slot key es) (over (alone key row) cs) (rises-dropped key es rise_es)
        ∙ ap (λ (o : Option (Option (List Value))). option_or (held k (drop_slot key es)) o) (held-over k (alone key row) cs refl)

    at : (k : List Value) (here : Bool) → same_values k key ≡ here → option_or (held k (drop_slot key es)) (option_or (held k (alone key row)) (held k cs)) ≡ option_or (held k es) (held k cs)
    at k true is =
        let e : key ≡ k = sym (same_is k key is) in
        subst (λ (n : List Value). option_or (held n (drop_slot key es)) (option_or (held n (alone key row)) (held n cs)) ≡ option_or (held n es) (held n cs)) e
        (ap (λ (o : Option (Option (List Value))). option_or o (option_or (held key (alone key row)) (held key cs))) (dropped_self key es rise_es)
        ∙ ap (λ (o : Option (Option (List Value))). option_or o (held key cs)) (alone_self key row)
        ∙ sym (ap (λ (o : Option (Option (List Value))). option_or o (held key cs)) has))
    at k false is =
        ap (λ (o : Option (Option (List Value))). option_or o (option_or (held k (alone key row)) (held k cs))) (dropped_other key k es is)
        ∙ ap (λ (o : Option (Option (List Value))). option_or (held k es) (option_or o (held k cs))) (alone_other key k row is)

taken_stays : (key : List Value) (es cs : List Slot) → keys_rise (keys_in es) ≡ true → keys_rise (keys_in cs) ≡ true
    → over (drop_slot key es) (drop_slot key cs) ≡ drop_slot key (over es cs)
taken_stays key es cs rise_es rise_cs =
    slots_told (over (drop_slot key es) (drop_slot key cs)) (drop_slot key (over es cs))
    (rises-over (drop_slot key es) (drop_slot key cs) (rises-dropped key es rise_es) (rises-dropped key cs rise_cs))
    (rises-dropped key (over es cs) (rises-over es cs rise_es rise_cs))
    (λ k. held-over k (drop_slot key es) (drop_slot key cs) (rises-dropped key es rise_es) ∙ at k (same_values k key) refl)
  where
    at : (k : List Value) (here : Bool) → same_values k key ≡ here → option_or (held k (drop_slot key es)) (held k (drop_slot key cs)) ≡ held k (drop_slot key (over es cs))
    at k true is =
        let e : key ≡ k = sym (same_is k key is) in
        subst (λ (n : List Value). option_or (held n (drop_slot key es)) (held n (drop_slot key cs)) ≡ held n (drop_slot key (over es cs))) e
        (ap (λ (o : Option (Option (List Value))). option_or o (held key (drop_slot key cs))) (dropped_self key es rise_es)
        ∙ dropped_self key cs rise_cs ∙ sym (dropped_self key (over es cs) (rises-over es cs rise_es rise_cs)))
    at k false is =
        ap (λ (o : Option (Option (List Value))). option_or o (held k (drop_slot key cs))) (dropped_other key k es is)
        ∙ ap (λ (o : Option (Option (List Value))). option_or (held k es) o) (dropped_other key k cs is)
        ∙ sym (held-over k es cs rise_es) ∙ sym (dropped_other key k (over es cs) is)

pub entry_stays : (key : List Value) (p : Option (List Value)) (es cs : List Slot) → keys_rise (keys_in es) ≡ true → keys_rise (keys_in cs) ≡ true → held key es ≡ Some p
    → rows_in (over (drop_slot key es) (settled_by key p cs)) ≡ rows_in (over es cs)
entry_stays key None es cs rise_es rise_cs has =
    let bare : held key (over es cs) ≡ Some None = held-over key es cs rise_es ∙ ap (λ (o : Option (Option (List Value))). option_or o (held key cs)) has in
    ap rows_in (taken_stays key es cs rise_es rise_cs) ∙ rows-dropped key (over es cs) bare
entry_stays key (Some row) es cs rise_es rise_cs has = ap rows_in (put_stays key row es cs rise_es rise_cs has)

pub settled_rises : (key : List Value) (p : Option (List Value)) (cs : List Slot) → keys_rise (keys_in cs) ≡ true → keys_rise (keys_in (settled_by key p cs)) ≡ true
settled_rises key None cs rises = rises-dropped key cs rises
settled_rises key (Some row) cs rises = rises-over (alone key row) cs refl rises

pub all_stay : (ts es cs : List Slot) → keys_rise (keys_in es) ≡ true → keys_rise (keys_in cs) ≡ true → AreJust ts es → rows_in (settled ts cs) ≡ rows_in (over es cs)
all_stay [] es cs rise_es rise_cs just = ap (λ (xs : List Slot). rows_in (over xs cs)) (sym just)
all_stay (t ∷ ts) es cs rise_es rise_cs just =
    all_stay ts (drop_slot t.key es) (settled_by t.key t.row cs) (rises-dropped t.key es rise_es) (settled_rises t.key t.row cs rise_cs) just.1
    ∙ entry_stays t.key t.row es cs rise_es rise_cs just.0

-- ---- entries in an order of their own

length-dropped : (key : List Value) (ss : List Slot) (p : Option (List Value)) → held key ss ≡ Some p → length (drop_slot key ss) + 1 ≡ length ss
length-dropped key [] p has = cc
length-dropped key (s ∷ ss) p has = step (is_slot_of key s) has (λ later. length-dropped key ss p later)
  where
    step : (here : Bool) → cond here (Some s.row) (held key ss) ≡ Some p → (held key ss ≡ Some p → length (drop_slot key ss) + 1 ≡ length ss)
        → length (cond here ss (s ∷ drop_slot key ss)) + 1 ≡ suc (length ss)
    step true e later = omega arith
    step false e later = omega (arith, later e)

still_held : (key : List Value) (ts es : List Slot) → AllByRecursion (λ later. same_values later.key key ≡ false) ts → AllByRecursion (λ t. held t.key es ≡ Some t.row) ts → AllByRecursion (λ t. held t.key (drop_slot key es) ≡ Some t.row) ts
still_held key [] es apart has = tt
still_held key (t ∷ ts) es apart has = (dropped_other key t.key es apart.0 ∙ has.0, still_held key ts es apart.1 has.1)

pub just_by_count : (ts es : List Slot) → keys_rise (keys_in es) ≡ true → AreOfOneEach ts → AllByRecursion (λ t. held t.key es ≡ Some t.row) ts → length ts ≡ length es → AreJust ts es
just_by_count [] es rises each has count = nil_from_length es (sym count)
just_by_count (t ∷ ts) es rises each has count =
    (has.0, just_by_count ts (drop_slot t.key es) (rises-dropped t.key es rises) each.1 (still_held t.key ts es each.0 has.1) (omega (arith, count, length-dropped t.key es t.row has.0)))
