-- Entries set and made: what is shown then, and how many are new.
use Rattle.std.proofs.Common.{◌≡◌, ℕ, suc, List, [], ◌∷◌, Bool, true, false, ◌||◌, cond, Option, Some, None, refl, sym, ap, subst, ◌∙◌}
use Rattle.std.specs.Prelude.{is_some, is_none}
use Rattle.std.specs.Option.{option_or}
use Rattle.val_types.specs.declared.value.Value.{Value}
use Rattle.val_types.specs.Keys.{same_values}
use Rattle.table_rules.specs.Stores.{is_among}
use Rattle.table_rules.proofs.Taking.{same_is, same_self}
use Rattle.row_index.specs.row_sheets.Slots.{Slot, held, fill, with_slot, keys_in, keys_rise, is_slot_of, is_not_before}
use Rattle.row_index.specs.row_sheets.Over.{over}
use Rattle.row_index.proofs.of_row_sheets.Over.{reset, new_slot, in_place}
use Rattle.row_index.proofs.of_row_sheets.Held.{slots_told, held-over, rises-over}
use Rattle.row_index.proofs.of_row_sheets.Claims.{filled_self, filled_other, new_self, new_other}
use Rattle.table_sheet.specs.Pages.{news}
use Rattle.table_sheet.proofs.Shown.{keys_filled, rise_with}

-- ---- keys that have a slot

pub among_held : (key : List Value) (ss : List Slot) → is_among key (keys_in ss) ≡ is_some (held key ss)
among_held key [] = refl
among_held key (s ∷ ss) = step (is_slot_of key s) (among_held key ss)
  where
    step : (here : Bool) → is_among key (keys_in ss) ≡ is_some (held key ss) → (here || is_among key (keys_in ss)) ≡ is_some (cond here (Some s.row) (held key ss))
    step true later = refl
    step false later = later

pub is_there : (key : List Value) (p : Option (List Value)) (ss : List Slot) → held key ss ≡ Some p → is_among key (keys_in ss) ≡ true
is_there key p ss has = among_held key ss ∙ ap (λ (o : Option (Option (List Value))). is_some o) has

pub not_there : (key : List Value) (ss : List Slot) → held key ss ≡ None → is_among key (keys_in ss) ≡ false
not_there key ss none = among_held key ss ∙ ap (λ (o : Option (Option (List Value))). is_some o) none

-- ---- one slot over others

-- a slot alone
abbrev pub one : List Value → Option (List Value) → List Slot
one key p = record { key = key; row = p } ∷ []

one_self : (key : List Value) (p : Option (List Value)) → held key (one key p) ≡ Some p
one_self key p = rw (same_self key) refl

one_other : (key other : List Value) (p : Option (List Value)) → same_values other key ≡ false → held other (one key p) ≡ None
one_other key other p e = rw e refl

-- over slots without its key it is a new slot, filled
pub over_one : (key : List Value) (p : Option (List Value)) (es : List Slot) → keys_rise (keys_in es) ≡ true → held key es ≡ None → over (one key p) es ≡ fill key p (with_slot key es)
over_one key p es rises none =
    slots_told (over (one key p) es) (fill key p (with_slot key es)) (rises-over (one key p) es refl rises)
    (ap keys_rise (keys_filled key p (with_slot key es)) ∙ rise_with key es rises (not_there key es none))
    (λ k. held-over k (one key p) es refl ∙ at k (same_values k key) refl)
  where
    at : (k : List Value) (here : Bool) → same_values k key ≡ here → option_or (held k (one key p)) (held k es) ≡ held k (fill key p (with_slot key es))
    at k true is =
        let e : key ≡ k = sym (same_is k key is) in
        subst (λ (n : List Value). option_or (held n (one key p)) (held n es) ≡ held n (fill key p (with_slot key es))) e
        (ap (λ (o : Option (Option (List Value))). option_or o (held key es)) (one_self key p) ∙ sym (filled_self key p None (with_slot key es) (new_self key es none)))
    at k false is =
        ap (λ (o : Option (Option (List Value))). option_or o (held k es)) (one_other key k p is)
        ∙ sym (filled_other key k p (with_slot key es) is ∙ new_other key k es is)

-- over slots that have its key it fills that slot
pub over_there : (key : List Value) (p was : Option (List Value)) (es : List Slot) → keys_rise (keys_in es) ≡ true → held key es ≡ Some was → over (one key p) es ≡ fill key p es
over_there key p was es rises has =
    slots_told (over (one key p) es) (fill key p es) (rises-over (one key p) es refl rises)
    (ap keys_rise (keys_filled key p es) ∙ rises)
    (λ k. held-over k (one key p) es refl ∙ at k (same_values k key) refl)
  where
    at : (k : List Value) (here : Bool) → same_values k key ≡ here → option_or (held k (one key p)) (held k es) ≡ held k (fill key p es)
    at k true is =
        let e : key ≡ k = sym (same_is k key is) in
        subst (λ (n : List Value). option_or (held n (one key p)) (held n es) ≡ held n (fill key p es)) e
        (ap (λ (o : Option (Option (List Value))). option_or o (held key es)) (one_self key p) ∙ sym (filled_self key p was es has))
    at k false is =
        ap (λ (o : Option (Option (List Value))). option_or o (held k es)) (one_other key k p is) ∙ sym (filled_other key k p es is)

-- ---- what is shown

pub fill_fill : (key : List Value) (p q : Option (List Value)) (ss : List Slot) → fill key p (fill key q ss) ≡ fill key p ss
fill_fill key p q [] = refl
fill_fill key p q (s ∷ ss) = step (is_slot_of key s) refl (fill_fill key p q ss)
  where
    step : (here : Bool) → is_slot_of key s ≡ here → fill key p (fill key q ss) ≡ fill key p ss
        → fill key p (cond here (record { key = s.key; row = q } ∷ ss) (s ∷ fill key q ss)) ≡ cond here (record { key = s.key; row = p } ∷ ss) (s ∷ fill key p ss)
    step true is later = ap (λ (b : Bool). cond b (record { key = s.key; row = p } ∷ ss) (record { key = s.key; row = q } ∷ fill key p ss)) is
    step false is later = ap (λ (b : Bool). cond b (record { key = s.key; row = p } ∷ fill key q ss) (s ∷ fill key p (fill key q ss))) is ∙ ap (λ (rest : List Slot). s ∷ rest) later

-- an entry that is set again
pub shown_set : (key : List Value) (p was : Option (List Value)) (es cs : List Slot) → keys_rise (keys_in es) ≡ true → held key es ≡ Some was
    → over (fill key p es) cs ≡ fill key p (over es cs)
shown_set key p was es cs rises has = reset key p es cs rises (is_there key was es has)

made : (key : List Value) (p : Option (List Value)) (es cs : List Slot) → keys_rise (keys_in es) ≡ true → held key es ≡ None
    → over (over (one key p) es) cs ≡ fill key p (over (with_slot key es) cs)
made key p es cs rises none =
    ap (λ (xs : List Slot). over xs cs) (over_one key p es rises none)
    ∙ reset key p (with_slot key es) cs (rise_with key es rises (not_there key es none)) (is_there key None (with_slot key es) (new_self key es none))

-- a new entry of the key of a committed row
pub shown_hidden : (key : List Value) (p was : Option (List Value)) (es cs : List Slot) → keys_rise (keys_in es) ≡ true → keys_rise (keys_in cs) ≡ true
    → held key es ≡ None → held key cs ≡ Some was → over (over (one key p) es) cs ≡ fill key p (over es cs)
shown_hidden key p was es cs rises up none has =
    made key p es cs rises none
    ∙ ap (fill key p) (in_place key es cs up (not_there key es none) (is_there key was cs has))
    ∙ fill_fill key p None (over es cs)

-- a new entry of a key that no committed row has
pub shown_new : (key : List Value) (p : Option (List Value)) (es cs : List Slot) → keys_rise (keys_in es) ≡ true → held key es ≡ None → held key cs ≡ None
    → over (over (one key p) es) cs ≡ fill key p (with_slot key (over es cs))
shown_new key p es cs rises none missing =
    made key p es cs rises none ∙ ap (fill key p) (new_slot key es cs (not_there key es none) (not_there key cs missing))

-- ---- how many are new

pub news_set : (key : List Value) (p : Option (List Value)) (es cs : List Slot) → news cs (fill key p es) ≡ news cs es
news_set key p [] cs = refl
news_set key p (s ∷ ss) cs = step (is_slot_of key s) (news_set key p ss cs)
  where
    step : (here : Bool) → news cs (fill key p ss) ≡ news cs ss → news cs (cond here (record { key = s.key; row = p } ∷ ss) (s ∷ fill key p ss)) ≡ news cs (s ∷ ss)
    step true later = refl
    step false later = ap (λ (n : ℕ). cond (is_none (held s.key cs)) (suc n) n) later

turned : (a b : Bool) (n : ℕ) → cond a (suc (cond b (suc n) n)) (cond b (suc n) n) ≡ cond b (suc (cond a (suc n) n)) (cond a (suc n) n)
turned true true n = refl
turned true false n = refl
turned false b n = refl

news_with : (key : List Value) (es cs : List Slot) → news cs (with_slot key es) ≡ cond (is_none (held key cs)) (suc (news cs es)) (news cs es)
news_with key [] cs = refl
news_with key (s ∷ ss) cs = step (is_not_before key s) (news_with key ss cs)
  where
    step : (before : Bool) → news cs (with_slot key ss) ≡ cond (is_none (held key cs)) (suc (news cs ss)) (news cs ss)
        → news cs (cond before (record { key = key; row = None } ∷ s ∷ ss) (s ∷ with_slot key ss)) ≡ cond (is_none (held key cs)) (suc (news cs (s ∷ ss))) (news cs (s ∷ ss))
    step true later = refl
    step false later =
        ap (λ (n : ℕ). cond (is_none (held s.key cs)) (suc n) n) later ∙ turned (is_none (held s.key cs)) (is_none (held key cs)) (news cs ss)

news_one : (key : List Value) (p : Option (List Value)) (es cs : List Slot) → keys_rise (keys_in es) ≡ true → held key es ≡ None
    → news cs (over (one key p) es) ≡ cond (is_none (held key cs)) (suc (news cs es)) (news cs es)
news_one key p es cs rises none =
    ap (news cs) (over_one key p es rises none) ∙ news_set key p (with_slot key es) cs ∙ news_with key es cs

pub news_hidden : (key : List Value) (p was : Option (List Value)) (es cs : List Slot) → keys_rise (keys_in es) ≡ true → held key es ≡ None → held key cs ≡ Some was
    → news cs (over (one key p) es) ≡ news cs es
news_hidden key p was es cs rises none has =
    news_one key p es cs rises none ∙ ap (λ (o : Option (Option (List Value))). cond (is_none o) (suc (news cs es)) (news cs es)) has

pub news_new : (key : List Value) (p : Option (List Value)) (es cs : List Slot) → keys_rise (keys_in es) ≡ true → held key es ≡ None → held key cs ≡ None
    → news cs (over (one key p) es) ≡ suc (news cs es)
news_new key p es cs rises none missing =
    news_one key p es cs rises none ∙ ap (λ (o : Option (Option (List Value))). cond (is_none o) (suc (news cs es)) (news cs es)) missing
