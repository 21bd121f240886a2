-- Slots by what they hold of each key.
use Rattle.std.proofs.Common.{◌≡◌, List, [], ◌∷◌, ◌++◌, Bool, true, false, cond, Option, Some, None, Ordering, Less, Equal, Greater, refl, sym, ap, subst, ◌∙◌}
use Rattle.std.specs.Prelude.{option_to_list}
use Rattle.std.specs.Ordering.{is_eq, is_lt}
use Rattle.std.specs.Option.{option_or}
use Rattle.std.proofs.lemmas.Bool.{and_parts, and_from}
use Rattle.val_types.specs.declared.value.Value.{Value}
use Rattle.val_types.specs.Order.{key_order}
use Rattle.val_types.specs.Keys.{same_values}
use Rattle.table_rules.proofs.Taking.{same_is, same_self}
use Rattle.row_sheets.specs.Slots.{Slot, keys_in, rows_in, is_slot_of, all_above, keys_rise, held, drop_slot}
use Rattle.row_sheets.specs.Over.{by_order, over_step, over}
use Rattle.row_sheets.proofs.Over.{chain, apart, greater_below, less_from, lt_is}

-- ---- keys below those of slots

-- what rises above a key does not hold it
pub none_above : (key : List Value) (ss : List Slot) → all_above key (keys_in ss) ≡ true → held key ss ≡ None
none_above key [] above = refl
none_above key (s ∷ ss) above =
    let both = and_parts (is_lt (key_order key s.key)) (all_above key (keys_in ss)) above in
    let other : is_slot_of key s ≡ false = ap is_eq (lt_is (key_order key s.key) both.0) in
    rw other (none_above key ss both.1)

above_later : (low key : List Value) (ss : List Slot) → is_lt (key_order low key) ≡ true → all_above key (keys_in ss) ≡ true → all_above low (keys_in ss) ≡ true
above_later low key [] below above = refl
above_later low key (s ∷ ss) below above =
    let both = and_parts (is_lt (key_order key s.key)) (all_above key (keys_in ss)) above in
    and_from (is_lt (key_order low s.key)) (all_above low (keys_in ss)) (chain low key s.key below both.0) (above_later low key ss below both.1)

-- a key below the first of those that rise
pub none_below : (key : List Value) (s : Slot) (ss : List Slot) → is_lt (key_order key s.key) ≡ true → keys_rise (keys_in (s ∷ ss)) ≡ true → held key (s ∷ ss) ≡ None
none_below key s ss below rises =
    let both = and_parts (all_above s.key (keys_in ss)) (keys_rise (keys_in ss)) rises in
    none_above key (s ∷ ss) (and_from (is_lt (key_order key s.key)) (all_above key (keys_in ss)) below (above_later key s.key ss below both.0))

-- ---- slots are told by what they hold

pub held_first : (s : Slot) (ss : List Slot) → held s.key (s ∷ ss) ≡ Some s.row
held_first s ss = rw (same_self s.key) refl

-- of a key other than the first the rest decides
pub held_rest : (key : List Value) (s : Slot) (ss : List Slot) → is_slot_of key s ≡ false → held key (s ∷ ss) ≡ held key ss
held_rest key s ss other = rw other refl

tails : (x y : Slot) (xs ys : List Slot) → x.key ≡ y.key → keys_rise (keys_in (x ∷ xs)) ≡ true → keys_rise (keys_in (y ∷ ys)) ≡ true
    → ((key : List Value) → held key (x ∷ xs) ≡ held key (y ∷ ys)) → (key : List Value) → held key xs ≡ held key ys
tails x y xs ys same rise_x rise_y told key = step (is_slot_of key x) refl
  where
    above_x : (all_above x.key (keys_in xs) ≡ true) × (keys_rise (keys_in xs) ≡ true)
    above_x = and_parts (all_above x.key (keys_in xs)) (keys_rise (keys_in xs)) rise_x

    above_y : (all_above y.key (keys_in ys) ≡ true) × (keys_rise (keys_in ys) ≡ true)
    above_y = and_parts (all_above y.key (keys_in ys)) (keys_rise (keys_in ys)) rise_y

    step : (here : Bool) → is_slot_of key x ≡ here → held key xs ≡ held key ys
    step true is =
        let e : key ≡ x.key = same_is key x.key is in
        ap (λ (k : List Value). held k xs) e ∙ none_above x.key xs above_x.0
        ∙ sym (ap (λ (k : List Value). held k ys) (e ∙ same) ∙ none_above y.key ys above_y.0)
    step false is =
        let other : is_slot_of key y ≡ false = subst (λ (k : List Value). same_values key k ≡ false) same is in
        sym (held_rest key x xs is) ∙ told key ∙ held_rest key y ys other

slot_is : (x y : Slot) → x.key ≡ y.key → x.row ≡ y.row → x ≡ y
slot_is x y e f =
    ap (λ (k : List Value). record { key = k; row = x.row }) e ∙ ap (λ (r : Option (List Value)). record { key = y.key; row = r }) f

pub slots_told : (xs ys : List Slot) → keys_rise (keys_in xs) ≡ true → keys_rise (keys_in ys) ≡ true → ((key : List Value) → held key xs ≡ held key ys) → xs ≡ ys
slots_told [] [] rise_x rise_y told = refl
slots_told [] (y ∷ ys) rise_x rise_y told = let e : None ≡ Some y.row = told y.key ∙ held_first y ys in cc
slots_told (x ∷ xs) [] rise_x rise_y told = let e : Some x.row ≡ None = sym (held_first x xs) ∙ told x.key in cc
slots_told (x ∷ xs) (y ∷ ys) rise_x rise_y told = step (key_order x.key y.key) refl (λ more. slots_told xs ys up_x.1 up_y.1 more)
  where
    up_x : (all_above x.key (keys_in xs) ≡ true) × (keys_rise (keys_in xs) ≡ true)
    up_x = and_parts (all_above x.key (keys_in xs)) (keys_rise (keys_in xs)) rise_x

    up_y : (all_above y.key (keys_in ys) ≡ true) × (keys_rise (keys_in ys) ≡ true)
    up_y = and_parts (all_above y.key (keys_in ys)) (keys_rise (keys_in ys)) rise_y

    step : (o : Ordering) → key_order x.key y.key ≡ o → (((key : List Value) → held key xs ≡ held key ys) → xs ≡ ys) → x ∷ xs ≡ y ∷ ys
    step Less is rest =
        let e : Some x.row ≡ None = sym (held_first x xs) ∙ told x.key ∙ none_below x.key y ys (less_from (key_order x.key y.key) is) rise_y in cc
    step Equal is rest =
        let same : x.key ≡ y.key = same_is x.key y.key (ap is_eq is) in
        let row : Some x.row ≡ Some y.row = sym (held_first x xs) ∙ told x.key ∙ ap (λ (k : List Value). held k (y ∷ ys)) same ∙ held_first y ys in
        let rows : x.row ≡ y.row = cc in
        ap (λ (s : Slot). s ∷ xs) (slot_is x y same rows) ∙ ap (λ (more : List Slot). y ∷ more) (rest (tails x y xs ys same rise_x rise_y told))
    step Greater is rest =
        let e : None ≡ Some y.row = sym (none_below y.key x xs (greater_below x.key y.key is) rise_x) ∙ told y.key ∙ held_first y ys in cc

-- ---- slots over slots

cond_or : (h : Bool) (r : Option (List Value)) (A B C : Option (Option (List Value))) → A ≡ option_or B C → cond h (Some r) A ≡ option_or (cond h (Some r) B) C
cond_or true r A B C e = refl
cond_or false r A B C e = e

held_step : (key : List Value) (e : Slot) (es cs : List Slot) → keys_rise (keys_in (e ∷ es)) ≡ true
    → ((ds : List Slot) → held key (over es ds) ≡ option_or (held key es) (held key ds)) → held key (over_step e (over es) cs) ≡ option_or (held key (e ∷ es)) (held key cs)
held_step key e es [] rises ih = cond_or (is_slot_of key e) e.row (held key (over es [])) (held key es) None (ih [])
held_step key e es (c ∷ cs) rises ih = at (key_order e.key c.key) refl (held_step key e es cs rises ih)
  where
    equal : (here : Bool) → is_slot_of key e ≡ here → key_order e.key c.key ≡ Equal → held key (e ∷ over es cs) ≡ option_or (held key (e ∷ es)) (held key (c ∷ cs))
    equal true here is = rw here refl
    equal false here is =
        let other : is_slot_of key c ≡ false = subst (λ (k : List Value). same_values key k ≡ false) (same_is e.key c.key (ap is_eq is)) here in
        rw here (rw other (ih cs))

    greater : (here : Bool) → is_slot_of key c ≡ here → key_order e.key c.key ≡ Greater → held key (over_step e (over es) cs) ≡ option_or (held key (e ∷ es)) (held key cs)
        → held key (c ∷ over_step e (over es) cs) ≡ option_or (held key (e ∷ es)) (held key (c ∷ cs))
    greater true here is later =
        let below : is_lt (key_order key e.key) ≡ true = subst (λ (k : List Value). is_lt (key_order k e.key) ≡ true) (sym (same_is key c.key here)) (greater_below e.key c.key is) in
        let none : held key (e ∷ es) ≡ None = none_below key e es below rises in
        let first : held key (c ∷ over_step e (over es) cs) ≡ Some c.row = rw here refl in
        let then : held key (c ∷ cs) ≡ Some c.row = rw here refl in
        first ∙ sym (ap (λ (o : Option (Option (List Value))). option_or o (held key (c ∷ cs))) none ∙ then)
    greater false here is later =
        held_rest key c (over_step e (over es) cs) here ∙ later ∙ ap (λ (o : Option (Option (List Value))). option_or (held key (e ∷ es)) o) (sym (held_rest key c cs here))

    at : (o : Ordering) → key_order e.key c.key ≡ o → held key (over_step e (over es) cs) ≡ option_or (held key (e ∷ es)) (held key cs)
        → held key (by_order o (e ∷ over es (c ∷ cs)) (e ∷ over es cs) (c ∷ over_step e (over es) cs)) ≡ option_or (held key (e ∷ es)) (held key (c ∷ cs))
    at Less is later = cond_or (is_slot_of key e) e.row (held key (over es (c ∷ cs))) (held key es) (held key (c ∷ cs)) (ih (c ∷ cs))
    at Equal is later = equal (is_slot_of key e) refl is
    at Greater is later = greater (is_slot_of key c) refl is later

pub held-over : (key : List Value) (es cs : List Slot) → keys_rise (keys_in es) ≡ true → held key (over es cs) ≡ option_or (held key es) (held key cs)
held-over key [] cs rises = refl
held-over key (e ∷ es) cs rises =
    let both = and_parts (all_above e.key (keys_in es)) (keys_rise (keys_in es)) rises in
    held_step key e es cs rises (λ ds. held-over key es ds both.1)

above_step : (low : List Value) (e : Slot) (on : List Slot → List Slot) (cs : List Slot) → is_lt (key_order low e.key) ≡ true → ((ds : List Slot) → all_above low (keys_in ds) ≡ true → all_above low (keys_in (on ds)) ≡ true)
    → all_above low (keys_in cs) ≡ true → all_above low (keys_in (over_step e on cs)) ≡ true
above_step low e on [] below ih above = and_from (is_lt (key_order low e.key)) (all_above low (keys_in (on []))) below (ih [] refl)
above_step low e on (c ∷ cs) below ih above = at (key_order e.key c.key) (and_parts (is_lt (key_order low c.key)) (all_above low (keys_in cs)) above)
    (λ up. above_step low e on cs below ih up)
  where
    at : (o : Ordering) → (is_lt (key_order low c.key) ≡ true) × (all_above low (keys_in cs) ≡ true) → (all_above low (keys_in cs) ≡ true → all_above low (keys_in (over_step e on cs)) ≡ true)
        → all_above low (keys_in (by_order o (e ∷ on (c ∷ cs)) (e ∷ on cs) (c ∷ over_step e on cs))) ≡ true
    at Less both later = and_from (is_lt (key_order low e.key)) (all_above low (keys_in (on (c ∷ cs)))) below (ih (c ∷ cs) above)
    at Equal both later = and_from (is_lt (key_order low e.key)) (all_above low (keys_in (on cs))) below (ih cs both.1)
    at Greater both later = and_from (is_lt (key_order low c.key)) (all_above low (keys_in (over_step e on cs))) both.0 (later both.1)

above_over : (low : List Value) (es cs : List Slot) → all_above low (keys_in es) ≡ true → all_above low (keys_in cs) ≡ true → all_above low (keys_in (over es cs)) ≡ true
above_over low [] cs over_es over_cs = over_cs
above_over low (e ∷ es) cs over_es over_cs =
    let both = and_parts (is_lt (key_order low e.key)) (all_above low (keys_in es)) over_es in
    above_step low e (over es) cs both.0 (λ ds up. above_over low es ds both.1 up) over_cs

rise_step : (e : Slot) (es cs : List Slot) → keys_rise (keys_in (e ∷ es)) ≡ true → keys_rise (keys_in cs) ≡ true
    → ((ds : List Slot) → keys_rise (keys_in ds) ≡ true → keys_rise (keys_in (over es ds)) ≡ true) → keys_rise (keys_in (over_step e (over es) cs)) ≡ true
rise_step e es [] rises up ih =
    let both = and_parts (all_above e.key (keys_in es)) (keys_rise (keys_in es)) rises in
    and_from (all_above e.key (keys_in (over es []))) (keys_rise (keys_in (over es []))) (above_over e.key es [] both.0 refl) (ih [] refl)
rise_step e es (c ∷ cs) rises up ih =
    at (key_order e.key c.key) refl (and_parts (all_above e.key (keys_in es)) (keys_rise (keys_in es)) rises) (and_parts (all_above c.key (keys_in cs)) (keys_rise (keys_in cs)) up)
    (λ later. rise_step e es cs rises later ih)
  where
    at : (o : Ordering) → key_order e.key c.key ≡ o → (all_above e.key (keys_in es) ≡ true) × (keys_rise (keys_in es) ≡ true) → (all_above c.key (keys_in cs) ≡ true) × (keys_rise (keys_in cs) ≡ true)
        → (keys_rise (keys_in cs) ≡ true → keys_rise (keys_in (over_step e (over es) cs)) ≡ true)
        → keys_rise (keys_in (by_order o (e ∷ over es (c ∷ cs)) (e ∷ over es cs) (c ∷ over_step e (over es) cs))) ≡ true
    at Less is both_e both_c later =
        let below : is_lt (key_order e.key c.key) ≡ true = less_from (key_order e.key c.key) is in
        let all : all_above e.key (keys_in (c ∷ cs)) ≡ true = and_from (is_lt (key_order e.key c.key)) (all_above e.key (keys_in cs)) below (above_later e.key c.key cs below both_c.0) in
        and_from (all_above e.key (keys_in (over es (c ∷ cs)))) (keys_rise (keys_in (over es (c ∷ cs)))) (above_over e.key es (c ∷ cs) both_e.0 all) (ih (c ∷ cs) up)
    at Equal is both_e both_c later =
        let all : all_above e.key (keys_in cs) ≡ true = subst (λ (k : List Value). all_above k (keys_in cs) ≡ true) (sym (same_is e.key c.key (ap is_eq is))) both_c.0 in
        and_from (all_above e.key (keys_in (over es cs))) (keys_rise (keys_in (over es cs))) (above_over e.key es cs both_e.0 all) (ih cs both_c.1)
    at Greater is both_e both_c later =
        let below : is_lt (key_order c.key e.key) ≡ true = greater_below e.key c.key is in
        and_from (all_above c.key (keys_in (over_step e (over es) cs))) (keys_rise (keys_in (over_step e (over es) cs)))
        (above_step c.key e (over es) cs below (λ ds up_ds. above_over c.key es ds (above_later c.key e.key es below both_e.0) up_ds) both_c.0) (later both_c.1)

pub rises-over : (es cs : List Slot) → keys_rise (keys_in es) ≡ true → keys_rise (keys_in cs) ≡ true → keys_rise (keys_in (over es cs)) ≡ true
rises-over [] cs rises up = up
rises-over (e ∷ es) cs rises up =
    let both = and_parts (all_above e.key (keys_in es)) (keys_rise (keys_in es)) rises in
    rise_step e es cs rises up (λ ds up_ds. rises-over es ds both.1 up_ds)

-- ---- slots without one

pub dropped_self : (key : List Value) (ss : List Slot) → keys_rise (keys_in ss) ≡ true → held key (drop_slot key ss) ≡ None
dropped_self key [] rises = refl
dropped_self key (s ∷ ss) rises = step (is_slot_of key s) refl (and_parts (all_above s.key (keys_in ss)) (keys_rise (keys_in ss)) rises) (λ up. dropped_self key ss up)
  where
    step : (here : Bool) → is_slot_of key s ≡ here → (all_above s.key (keys_in ss) ≡ true) × (keys_rise (keys_in ss) ≡ true) → (keys_rise (keys_in ss) ≡ true → held key (drop_slot key ss) ≡ None)
        → held key (cond here ss (s ∷ drop_slot key ss)) ≡ None
    step true is both later = ap (λ (k : List Value). held k ss) (same_is key s.key is) ∙ none_above s.key ss both.0
    step false is both later = held_rest key s (drop_slot key ss) is ∙ later both.1

pub dropped_other : (key other : List Value) (ss : List Slot) → same_values other key ≡ false → held other (drop_slot key ss) ≡ held other ss
dropped_other key other [] apart = refl
dropped_other key other (s ∷ ss) apart = step (is_slot_of key s) refl (dropped_other key other ss apart)
  where
    step : (here : Bool) → is_slot_of key s ≡ here → held other (drop_slot key ss) ≡ held other ss → held other (cond here ss (s ∷ drop_slot key ss)) ≡ held other (s ∷ ss)
    step true is later = sym (held_rest other s ss (subst (λ (k : List Value). same_values other k ≡ false) (same_is key s.key is) apart))
    step false is later = ap (λ (rest : Option (Option (List Value))). cond (is_slot_of other s) (Some s.row) rest) later

above_dropped : (low key : List Value) (ss : List Slot) → all_above low (keys_in ss) ≡ true → all_above low (keys_in (drop_slot key ss)) ≡ true
above_dropped low key [] above = refl
above_dropped low key (s ∷ ss) above = step (is_slot_of key s) (and_parts (is_lt (key_order low s.key)) (all_above low (keys_in ss)) above) (λ up. above_dropped low key ss up)
  where
    step : (here : Bool) → (is_lt (key_order low s.key) ≡ true) × (all_above low (keys_in ss) ≡ true) → (all_above low (keys_in ss) ≡ true → all_above low (keys_in (drop_slot key ss)) ≡ true)
        → all_above low (keys_in (cond here ss (s ∷ drop_slot key ss))) ≡ true
    step true both later = both.1
    step false both later = and_from (is_lt (key_order low s.key)) (all_above low (keys_in (drop_slot key ss))) both.0 (later both.1)

pub rises-dropped : (key : List Value) (ss : List Slot) → keys_rise (keys_in ss) ≡ true → keys_rise (keys_in (drop_slot key ss)) ≡ true
rises-dropped key [] rises = refl
rises-dropped key (s ∷ ss) rises = step (is_slot_of key s) (and_parts (all_above s.key (keys_in ss)) (keys_rise (keys_in ss)) rises) (λ up. rises-dropped key ss up)
  where
    step : (here : Bool) → (all_above s.key (keys_in ss) ≡ true) × (keys_rise (keys_in ss) ≡ true) → (keys_rise (keys_in ss) ≡ true → keys_rise (keys_in (drop_slot key ss)) ≡ true)
        → keys_rise (keys_in (cond here ss (s ∷ drop_slot key ss))) ≡ true
    step true both later = both.1
    step false both later = and_from (all_above s.key (keys_in (drop_slot key ss))) (keys_rise (keys_in (drop_slot key ss))) (above_dropped s.key key ss both.0) (later both.1)

-- an empty slot shows no row
pub rows-dropped : (key : List Value) (ss : List Slot) → held key ss ≡ Some None → rows_in (drop_slot key ss) ≡ rows_in ss
rows-dropped key [] bare = cc
rows-dropped key (s ∷ ss) bare = step (is_slot_of key s) bare (λ later. rows-dropped key ss later)
  where
    step : (here : Bool) → cond here (Some s.row) (held key ss) ≡ Some None → (held key ss ≡ Some None → rows_in (drop_slot key ss) ≡ rows_in ss) → rows_in (cond here ss (s ∷ drop_slot key ss)) ≡ rows_in (s ∷ ss)
    step true e later = let none : s.row ≡ None = cc in rw none refl
    step false e later = ap (λ (rest : List (List Value)). option_to_list s.row ++ rest) (later e)
