-- What holds of slots, and what filling and emptying one, or putting one in, makes of their rows.
use Rattle.std.proofs.Common.{◌≡◌, List, [], ◌∷◌, ◌++◌, Bool, true, false, ◌&&◌, ◌||◌, cond, Option, Some, None, Ordering, Less, Equal, Greater, refl, sym, ap, subst, ◌∙◌, suc, ℕ}
use Rattle.std.specs.Prelude.{is_some, option_to_list}
use Rattle.std.specs.List.{list_any, list_all}
use Rattle.std.specs.Option.{option_map, option_map_or, option_and_then}
use Rattle.std.specs.Ordering.{is_eq, is_lt, ordering_reverse}
use Rattle.std.proofs.lemmas.Bool.{and_parts, and_from, or_parts, not-true, not-false}
use Rattle.val_types.specs.declared.value.Value.{Value}
use Rattle.val_types.specs.declared.definitions.TableDef.{TableDef}
use Rattle.val_types.specs.Order.{key_order}
use Rattle.val_types.specs.Fitting.{row_fits}
use Rattle.val_types.specs.Keys.{primary_key, same_values, agree_on, collide}
use Rattle.table_rules.specs.Tables.{rise, are_apart}
use Rattle.table_rules.specs.Changes.{with_row}
use Rattle.table_rules.specs.Stored.{has_key, row_of_key, rows_beside, first_agreed, key_in_way}
use Rattle.table_rules.specs.Stores.{is_among}
use Rattle.val_types.proofs.Values.{key_order_total}
use Rattle.table_rules.proofs.Taking.{Kept, as_kept, is_kept, same_is, same_self, kept_with, taken_out}
use Rattle.table_rules.proofs.Storing.{without_is_beside, keys_in_way, key_is}
use Rattle.row_index.specs.row_sheets.Slots.{Slot, rows_in, keys_in, is_slot_of, is_not_before, all_above, keys_rise, held, fill, with_slot, has_own_key, rows_are_kept, is_sound}
use Rattle.row_index.specs.row_sheets.Claims.{row_under}

-- ---- the order of keys

pub lt_differs : (o : Ordering) → is_lt o ≡ true → is_eq o ≡ false
lt_differs Less e = refl
lt_differs Equal e = cc
lt_differs Greater e = cc

lt_back : (o : Ordering) → is_lt o ≡ true → is_lt (ordering_reverse o) ≡ false
lt_back Less e = refl
lt_back Equal e = cc
lt_back Greater e = cc

lt_is : (o : Ordering) → is_lt o ≡ true → o ≡ Less
lt_is Less e = refl
lt_is Equal e = cc
lt_is Greater e = cc

neither : (o : Ordering) → is_lt o ≡ false → is_eq (ordering_reverse o) ≡ false → is_lt (ordering_reverse o) ≡ true
neither Less e f = cc
neither Equal e f = cc
neither Greater e f = refl

not_back : (a b : List Value) → is_lt (key_order a b) ≡ true → is_lt (key_order b a) ≡ false
not_back a b e = ap is_lt (key_order_total.antisymm b a) ∙ lt_back (key_order a b) e

pub chain : (a b c : List Value) → is_lt (key_order a b) ≡ true → is_lt (key_order b c) ≡ true → is_lt (key_order a c) ≡ true
chain a b c e f = ap is_lt (key_order_total.trans a b c (lt_is _ e) (lt_is _ f))

pub before_other : (a b : List Value) → is_lt (key_order b a) ≡ false → same_values a b ≡ false → is_lt (key_order a b) ≡ true
before_other a b e f =
    ap is_lt (key_order_total.antisymm a b) ∙ neither (key_order b a) e (ap is_eq (sym (key_order_total.antisymm a b)) ∙ f)

-- ---- the slots as lists

-- the row in the slot of a key
abbrev pub row_in : List Value → List Slot → Option (List Value)
row_in key [] = None
row_in key (s ∷ ss) = cond (is_slot_of key s) s.row (row_in key ss)

-- where a key has no slot, it has no row, and filling it does nothing
pub no_slot : (key : List Value) (row : Option (List Value)) (ss : List Slot) → is_among key (keys_in ss) ≡ false → (row_in key ss ≡ None) × (fill key row ss ≡ ss)
no_slot key row [] e = (refl, refl)
no_slot key row (s ∷ ss) e =
    let parts = or_parts (same_values key s.key) (is_among key (keys_in ss)) e in
    let later = no_slot key row ss parts.1 in
    rw parts.0 (later.0, ap (λ (rest : List Slot). s ∷ rest) later.1)

keys_step : (here : Bool) (s : Slot) (row : Option (List Value)) (ss more : List Slot) → keys_in more ≡ keys_in ss → keys_in (cond here (record { key = s.key; row = row } ∷ ss) (s ∷ more)) ≡ s.key ∷ keys_in ss
keys_step true s row ss more later = refl
keys_step false s row ss more later = ap (λ (ks : List (List Value)). s.key ∷ ks) later

-- filling changes no key
pub keys_filled : (key : List Value) (row : Option (List Value)) (ss : List Slot) → keys_in (fill key row ss) ≡ keys_in ss
keys_filled key row [] = refl
keys_filled key row (s ∷ ss) = keys_step (is_slot_of key s) s row ss (fill key row ss) (keys_filled key row ss)

or_turned : (a b c : Bool) → (a || (b || c)) ≡ (b || (a || c))
or_turned true true c = refl
or_turned true false c = refl
or_turned false b c = refl

among_step : (here : Bool) (k key : List Value) (s : Slot) (ss more : List Slot) → is_among k (keys_in more) ≡ (same_values k key || is_among k (keys_in ss))
    → is_among k (keys_in (cond here (record { key = key; row = None } ∷ s ∷ ss) (s ∷ more))) ≡ (same_values k key || (same_values k s.key || is_among k (keys_in ss)))
among_step true k key s ss more later = refl
among_step false k key s ss more later = ap (λ (b : Bool). same_values k s.key || b) later ∙ or_turned (same_values k s.key) (same_values k key) (is_among k (keys_in ss))

-- a new slot has its key beside those that were there
pub among_with : (k key : List Value) (ss : List Slot) → is_among k (keys_in (with_slot key ss)) ≡ (same_values k key || is_among k (keys_in ss))
among_with k key [] = refl
among_with k key (s ∷ ss) = among_step (is_not_before key s) k key s ss (with_slot key ss) (among_with k key ss)

rows_step : (here : Bool) (key : List Value) (s : Slot) (ss more : List Slot) → rows_in more ≡ rows_in ss
    → rows_in (cond here (record { key = key; row = None } ∷ s ∷ ss) (s ∷ more)) ≡ option_to_list s.row ++ rows_in ss
rows_step true key s ss more later = refl
rows_step false key s ss more later = ap (λ (rs : List (List Value)). option_to_list s.row ++ rs) later

-- a new slot has no row
pub rows_with : (key : List Value) (ss : List Slot) → rows_in (with_slot key ss) ≡ rows_in ss
rows_with key [] = refl
rows_with key (s ∷ ss) = rows_step (is_not_before key s) key s ss (with_slot key ss) (rows_with key ss)

-- ---- what holds of slots

pub record Sound (d : TableDef) (ss : List Slot) : Type 0 where
  pub rising : keys_rise (keys_in ss) ≡ true
  pub own : list_all (has_own_key d) ss ≡ true
  pub kept : Kept d (rows_in ss)

pub sound : (d : TableDef) (ss : List Slot) → is_sound d ss ≡ true → Sound d ss
sound d ss e =
    let two = and_parts (keys_rise (keys_in ss) && list_all (has_own_key d) ss) (rows_are_kept d (rows_in ss)) e in
    let first = and_parts (keys_rise (keys_in ss)) (list_all (has_own_key d) ss) two.0 in
    let rows = and_parts (list_all (row_fits d.columns) (rows_in ss) && rise d (rows_in ss)) (are_apart d (rows_in ss)) two.1 in
    let fits = and_parts (list_all (row_fits d.columns) (rows_in ss)) (rise d (rows_in ss)) rows.0 in
    record { rising = first.0; own = first.1; kept = as_kept (record { definition = d; rows = rows_in ss }) (record { fit = fits.0; rising = fits.1; apart = rows.1 }) }

pub is_sound_from : (d : TableDef) (ss : List Slot) → Sound d ss → is_sound d ss ≡ true
is_sound_from d ss s =
    let k = is_kept d (rows_in ss) s.kept in
    and_from (keys_rise (keys_in ss) && list_all (has_own_key d) ss) (rows_are_kept d (rows_in ss))
    (and_from (keys_rise (keys_in ss)) (list_all (has_own_key d) ss) s.rising s.own)
    (and_from (list_all (row_fits d.columns) (rows_in ss) && rise d (rows_in ss)) (are_apart d (rows_in ss))
    (and_from (list_all (row_fits d.columns) (rows_in ss)) (rise d (rows_in ss)) k.fit k.rising) k.apart)

-- ---- a new slot

pub above_more : (low key : List Value) (keys : List (List Value)) → is_lt (key_order low key) ≡ true → all_above key keys ≡ true → all_above low keys ≡ true
above_more low key [] e all = refl
above_more low key (k ∷ ks) e all =
    let parts = and_parts (is_lt (key_order key k)) (all_above key ks) all in
    and_from (is_lt (key_order low k)) (all_above low ks) (chain low key k e parts.0) (above_more low key ks e parts.1)

above_step : (here : Bool) (low key : List Value) (s : Slot) (ss more : List Slot) → all_above low (keys_in (s ∷ ss)) ≡ true → is_lt (key_order low key) ≡ true → all_above low (keys_in more) ≡ true
    → all_above low (keys_in (cond here (record { key = key; row = None } ∷ s ∷ ss) (s ∷ more))) ≡ true
above_step true low key s ss more all e later = and_from (is_lt (key_order low key)) (all_above low (keys_in (s ∷ ss))) e all
above_step false low key s ss more all e later =
    and_from (is_lt (key_order low s.key)) (all_above low (keys_in more)) (and_parts (is_lt (key_order low s.key)) (all_above low (keys_in ss)) all).0 later

above_with : (low key : List Value) (ss : List Slot) → all_above low (keys_in ss) ≡ true → is_lt (key_order low key) ≡ true → all_above low (keys_in (with_slot key ss)) ≡ true
above_with low key [] all e = and_from (is_lt (key_order low key)) true e refl
above_with low key (s ∷ ss) all e =
    above_step (is_not_before key s) low key s ss (with_slot key ss) all e (above_with low key ss (and_parts (is_lt (key_order low s.key)) (all_above low (keys_in ss)) all).1 e)

rise_step : (here : Bool) (key : List Value) (s : Slot) (ss : List Slot) → is_not_before key s ≡ here → keys_rise (keys_in (s ∷ ss)) ≡ true → is_among key (keys_in (s ∷ ss)) ≡ false
    → keys_rise (keys_in (with_slot key ss)) ≡ true → keys_rise (keys_in (cond here (record { key = key; row = None } ∷ s ∷ ss) (s ∷ with_slot key ss))) ≡ true
rise_step true key s ss e rising new later =
    let parts = and_parts (all_above s.key (keys_in ss)) (keys_rise (keys_in ss)) rising in
    let other = or_parts (same_values key s.key) (is_among key (keys_in ss)) new in
    let less : is_lt (key_order key s.key) ≡ true = before_other key s.key (not-true (is_lt (key_order s.key key)) e) other.0 in
    and_from (all_above key (keys_in (s ∷ ss))) (keys_rise (keys_in (s ∷ ss)))
    (and_from (is_lt (key_order key s.key)) (all_above key (keys_in ss)) less (above_more key s.key (keys_in ss) less parts.0)) rising
rise_step false key s ss e rising new later =
    let parts = and_parts (all_above s.key (keys_in ss)) (keys_rise (keys_in ss)) rising in
    and_from (all_above s.key (keys_in (with_slot key ss))) (keys_rise (keys_in (with_slot key ss)))
    (above_with s.key key ss parts.0 (not-false (is_lt (key_order s.key key)) e)) later

pub rise_with : (key : List Value) (ss : List Slot) → keys_rise (keys_in ss) ≡ true → is_among key (keys_in ss) ≡ false → keys_rise (keys_in (with_slot key ss)) ≡ true
rise_with key [] rising new = refl
rise_with key (s ∷ ss) rising new =
    rise_step (is_not_before key s) key s ss refl rising new
    (rise_with key ss (and_parts (all_above s.key (keys_in ss)) (keys_rise (keys_in ss)) rising).1 (or_parts (same_values key s.key) (is_among key (keys_in ss)) new).1)

own_step : (here : Bool) (d : TableDef) (key : List Value) (s : Slot) (ss more : List Slot) → list_all (has_own_key d) (s ∷ ss) ≡ true → list_all (has_own_key d) more ≡ true
    → list_all (has_own_key d) (cond here (record { key = key; row = None } ∷ s ∷ ss) (s ∷ more)) ≡ true
own_step true d key s ss more own later = own
own_step false d key s ss more own later = and_from (has_own_key d s) (list_all (has_own_key d) more) (and_parts (has_own_key d s) (list_all (has_own_key d) ss) own).0 later

pub own_with : (d : TableDef) (key : List Value) (ss : List Slot) → list_all (has_own_key d) ss ≡ true → list_all (has_own_key d) (with_slot key ss) ≡ true
own_with d key [] own = refl
own_with d key (s ∷ ss) own = own_step (is_not_before key s) d key s ss (with_slot key ss) own (own_with d key ss (and_parts (has_own_key d s) (list_all (has_own_key d) ss) own).1)

-- a slot of a new key can be put in
pub sound_with : (d : TableDef) (key : List Value) (ss : List Slot) → Sound d ss → is_among key (keys_in ss) ≡ false → Sound d (with_slot key ss)
sound_with d key ss s new = record {
  rising = rise_with key ss s.rising new;
  own = own_with d key ss s.own;
  kept = subst (λ (rows : List (List Value)). Kept d rows) (sym (rows_with key ss)) s.kept;
}

-- ---- the rows behind a key

-- all rows have keys above a key
abbrev Above : TableDef → List Value → List (List Value) → Type 0
Above d k [] = Unit {0}
Above d k (r ∷ rs) = (is_lt (key_order k (primary_key d r)) ≡ true) × Above d k rs

own_row : (d : TableDef) (key row : List Value) → same_values key (primary_key d row) ≡ true → key ≡ primary_key d row
own_row d key row e = same_is key (primary_key d row) e

rows_above_step : (d : TableDef) (k key : List Value) (o : Option (List Value)) (rest : List (List Value)) → option_map_or (λ row. same_values key (primary_key d row)) o true ≡ true
    → is_lt (key_order k key) ≡ true → Above d k rest → Above d k (option_to_list o ++ rest)
rows_above_step d k key None rest own e later = later
rows_above_step d k key (Some row) rest own e later = (subst (λ (l : List Value). is_lt (key_order k l) ≡ true) (own_row d key row own) e, later)

rows_above : (d : TableDef) (k : List Value) (ss : List Slot) → all_above k (keys_in ss) ≡ true → list_all (has_own_key d) ss ≡ true → Above d k (rows_in ss)
rows_above d k [] all own = tt
rows_above d k (s ∷ ss) all own =
    let a = and_parts (is_lt (key_order k s.key)) (all_above k (keys_in ss)) all in
    let o = and_parts (has_own_key d s) (list_all (has_own_key d) ss) own in
    rows_above_step d k s.key s.row (rows_in ss) o.0 a.0 (rows_above d k ss a.1 o.1)

none_above : (d : TableDef) (k : List Value) (rows : List (List Value)) → Above d k rows → row_of_key d k rows ≡ None
none_above d k [] p = refl
none_above d k (r ∷ rs) p = rw (lt_differs (key_order k (primary_key d r)) p.0) (none_above d k rs p.1)

beside_cons : (d : TableDef) (k r : List Value) (rs : List (List Value)) → has_key d k r ≡ false → rows_beside d k (r ∷ rs) ≡ r ∷ rows_beside d k rs
beside_cons d k r rs e = rw e refl

beside_drop : (d : TableDef) (k r : List Value) (rs : List (List Value)) → has_key d k r ≡ true → rows_beside d k (r ∷ rs) ≡ rows_beside d k rs
beside_drop d k r rs e = rw e refl

beside_above : (d : TableDef) (k : List Value) (rows : List (List Value)) → Above d k rows → rows_beside d k rows ≡ rows
beside_above d k [] p = refl
beside_above d k (r ∷ rs) p =
    beside_cons d k r rs (lt_differs (key_order k (primary_key d r)) p.0) ∙ ap (λ (rows : List (List Value)). r ∷ rows) (beside_above d k rs p.1)

first_above : (d : TableDef) (row : List Value) (rows : List (List Value)) → Above d (primary_key d row) rows → with_row d row rows ≡ row ∷ rows
first_above d row [] p = refl
first_above d row (r ∷ rs) p = ap (λ (b : Bool). cond b (row ∷ r ∷ rs) (r ∷ with_row d row rs)) p.0

-- ---- the row of a key

find_step : (d : TableDef) (key own : List Value) (o : Option (List Value)) (rest : List (List Value)) (later : Option (List Value)) (here : Bool) → same_values key own ≡ here
    → option_map_or (λ row. same_values own (primary_key d row)) o true ≡ true
    → (key ≡ own → row_of_key d key rest ≡ None) → row_of_key d key rest ≡ later
    → row_of_key d key (option_to_list o ++ rest) ≡ cond here o later
find_step d key own None rest later true e p none found = none (same_is key own e)
find_step d key own (Some row) rest later true e p none found =
    let same : same_values key (primary_key d row) ≡ true = subst (λ (k : List Value). same_values key k ≡ true) (own_row d own row p) e in rw same refl
find_step d key own None rest later false e p none found = found
find_step d key own (Some row) rest later false e p none found =
    let other : same_values key (primary_key d row) ≡ false = subst (λ (k : List Value). same_values key k ≡ false) (own_row d own row p) e in rw other found

find : (d : TableDef) (key : List Value) (ss : List Slot) → keys_rise (keys_in ss) ≡ true → list_all (has_own_key d) ss ≡ true → row_of_key d key (rows_in ss) ≡ row_in key ss
find d key [] rising own = refl
find d key (s ∷ ss) rising own =
    let r = and_parts (all_above s.key (keys_in ss)) (keys_rise (keys_in ss)) rising in
    let o = and_parts (has_own_key d s) (list_all (has_own_key d) ss) own in
    find_step d key s.key s.row (rows_in ss) (row_in key ss) (is_slot_of key s) refl o.0
    (λ same. subst (λ (k : List Value). row_of_key d k (rows_in ss) ≡ None) (sym same) (none_above d s.key (rows_in ss) (rows_above d s.key ss r.0 o.1)))
    (find d key ss r.1 o.1)

-- the row of a key is that in its slot
under_step : (here : Bool) (o : Option (List Value)) (p : Option (Option (List Value))) → cond here o (option_and_then (λ row. row) p) ≡ option_and_then (λ row. row) (cond here (Some o) p)
under_step true o p = refl
under_step false o p = refl

pub row_is_under : (key : List Value) (ss : List Slot) → row_in key ss ≡ row_under key ss
row_is_under key [] = refl
row_is_under key (s ∷ ss) = ap (λ (o : Option (List Value)). cond (is_slot_of key s) s.row o) (row_is_under key ss) ∙ under_step (is_slot_of key s) s.row (held key ss)

pub row_of_slot : (d : TableDef) (key : List Value) (ss : List Slot) → Sound d ss → row_of_key d key (rows_in ss) ≡ row_in key ss
row_of_slot d key ss s = find d key ss s.rising s.own

-- ---- emptying a slot

empty_step : (d : TableDef) (key : List Value) (s : Slot) (ss more : List Slot) (here : Bool) → is_slot_of key s ≡ here → has_own_key d s ≡ true
    → (key ≡ s.key → rows_beside d key (rows_in ss) ≡ rows_in ss) → rows_in more ≡ rows_beside d key (rows_in ss)
    → rows_in (cond here (record { key = s.key; row = None } ∷ ss) (s ∷ more)) ≡ rows_beside d key (option_to_list s.row ++ rows_in ss)
empty_step d key s ss more here e p all later = with_option s.row here e p
  where
    kept_row : (o : Option (List Value)) → option_map_or (λ row. same_values s.key (primary_key d row)) o true ≡ true → is_slot_of key s ≡ false
        → option_to_list o ++ rows_in more ≡ rows_beside d key (option_to_list o ++ rows_in ss)
    kept_row None q f = later
    kept_row (Some row) q f =
        let other : same_values key (primary_key d row) ≡ false = subst (λ (k : List Value). same_values key k ≡ false) (own_row d s.key row q) f in
        ap (λ (rs : List (List Value)). row ∷ rs) later ∙ sym (beside_cons d key row (rows_in ss) other)

    gone_row : (o : Option (List Value)) → option_map_or (λ row. same_values s.key (primary_key d row)) o true ≡ true → is_slot_of key s ≡ true
        → rows_in ss ≡ rows_beside d key (option_to_list o ++ rows_in ss)
    gone_row None q f = sym (all (same_is key s.key f))
    gone_row (Some row) q f =
        let same : same_values key (primary_key d row) ≡ true = subst (λ (k : List Value). same_values key k ≡ true) (own_row d s.key row q) f in
        sym (all (same_is key s.key f)) ∙ sym (beside_drop d key row (rows_in ss) same)

    with_option : (o : Option (List Value)) (b : Bool) → is_slot_of key s ≡ b → option_map_or (λ row. same_values s.key (primary_key d row)) o true ≡ true
        → rows_in (cond b (record { key = s.key; row = None } ∷ ss) (record { key = s.key; row = o } ∷ more)) ≡ rows_beside d key (option_to_list o ++ rows_in ss)
    with_option o true f q = gone_row o q f
    with_option o false f q = kept_row o q f

emptied : (d : TableDef) (key : List Value) (ss : List Slot) → keys_rise (keys_in ss) ≡ true → list_all (has_own_key d) ss ≡ true
    → rows_in (fill key None ss) ≡ rows_beside d key (rows_in ss)
emptied d key [] rising own = refl
emptied d key (s ∷ ss) rising own =
    let r = and_parts (all_above s.key (keys_in ss)) (keys_rise (keys_in ss)) rising in
    let o = and_parts (has_own_key d s) (list_all (has_own_key d) ss) own in
    empty_step d key s ss (fill key None ss) (is_slot_of key s) refl o.0
    (λ same. subst (λ (k : List Value). rows_beside d k (rows_in ss) ≡ rows_in ss) (sym same) (beside_above d s.key (rows_in ss) (rows_above d s.key ss r.0 o.1)))
    (emptied d key ss r.1 o.1)

-- emptying the slot of a key leaves the rows beside
pub rows_emptied : (d : TableDef) (key : List Value) (ss : List Slot) → Sound d ss → rows_in (fill key None ss) ≡ rows_beside d key (rows_in ss)
rows_emptied d key ss s = emptied d key ss s.rising s.own

own_fill_step : (d : TableDef) (key : List Value) (row : Option (List Value)) (s : Slot) (ss more : List Slot) (here : Bool) → is_slot_of key s ≡ here
    → has_own_key d (record { key = key; row = row }) ≡ true → list_all (has_own_key d) (s ∷ ss) ≡ true → list_all (has_own_key d) more ≡ true
    → list_all (has_own_key d) (cond here (record { key = s.key; row = row } ∷ ss) (s ∷ more)) ≡ true
own_fill_step d key row s ss more true e new own later =
    and_from (has_own_key d (record { key = s.key; row = row })) (list_all (has_own_key d) ss)
    (subst (λ (k : List Value). has_own_key d (record { key = k; row = row }) ≡ true) (same_is key s.key e) new)
    (and_parts (has_own_key d s) (list_all (has_own_key d) ss) own).1
own_fill_step d key row s ss more false e new own later =
    and_from (has_own_key d s) (list_all (has_own_key d) more) (and_parts (has_own_key d s) (list_all (has_own_key d) ss) own).0 later

pub own_filled : (d : TableDef) (key : List Value) (row : Option (List Value)) (ss : List Slot) → has_own_key d (record { key = key; row = row }) ≡ true → list_all (has_own_key d) ss ≡ true
    → list_all (has_own_key d) (fill key row ss) ≡ true
own_filled d key row [] new own = refl
own_filled d key row (s ∷ ss) new own =
    own_fill_step d key row s ss (fill key row ss) (is_slot_of key s) refl new own (own_filled d key row ss new (and_parts (has_own_key d s) (list_all (has_own_key d) ss) own).1)

pub sound_filled : (d : TableDef) (key : List Value) (row : Option (List Value)) (ss : List Slot) → Sound d ss → has_own_key d (record { key = key; row = row }) ≡ true → Kept d (rows_in (fill key row ss)) → Sound d (fill key row ss)
sound_filled d key row ss s new kept = record {
  rising = subst (λ (keys : List (List Value)). keys_rise keys ≡ true) (sym (keys_filled key row ss)) s.rising;
  own = own_filled d key row ss new s.own;
  kept = kept;
}

stay_step : (d : TableDef) (key r : List Value) (rs : List (List Value)) (b : Bool) → has_key d key r ≡ b → (row_of_key d key rs ≡ None → rows_beside d key rs ≡ rs)
    → cond b (Some r) (row_of_key d key rs) ≡ None → rows_beside d key (r ∷ rs) ≡ r ∷ rs
stay_step d key r rs true f later g = cc
stay_step d key r rs false f later g = beside_cons d key r rs f ∙ ap (λ (rows : List (List Value)). r ∷ rows) (later g)

-- where no row has a key, all are beside it
pub all_stay : (d : TableDef) (key : List Value) (rows : List (List Value)) → row_of_key d key rows ≡ None → rows_beside d key rows ≡ rows
all_stay d key [] e = refl
all_stay d key (r ∷ rs) e = stay_step d key r rs (has_key d key r) refl (all_stay d key rs) e

kept_beside_step : (d : TableDef) (key : List Value) (rows : List (List Value)) (o : Option (List Value)) → row_of_key d key rows ≡ o → Kept d rows → Kept d (rows_beside d key rows)
kept_beside_step d key rows None e kept = subst (λ (rs : List (List Value)). Kept d rs) (sym (all_stay d key rows e)) kept
kept_beside_step d key rows (Some row) e kept = (taken_out d row rows (rows_beside d key rows) kept (without_is_beside d key row rows kept e)).kept

pub kept_beside : (d : TableDef) (key : List Value) (rows : List (List Value)) → Kept d rows → Kept d (rows_beside d key rows)
kept_beside d key rows kept = kept_beside_step d key rows (row_of_key d key rows) refl kept

-- a slot can be emptied
pub sound_emptied : (d : TableDef) (key : List Value) (ss : List Slot) → Sound d ss → Sound d (fill key None ss)
sound_emptied d key ss s =
    sound_filled d key None ss s refl (subst (λ (rows : List (List Value)). Kept d rows) (sym (rows_emptied d key ss s)) (kept_beside d key (rows_in ss) s.kept))

-- ---- filling a slot

behind_step : (low key k : List Value) (ks : List (List Value)) (b : Bool) → same_values key k ≡ b → is_lt (key_order low k) ≡ true → (is_among key ks ≡ true → is_lt (key_order low key) ≡ true)
    → (b || is_among key ks) ≡ true → is_lt (key_order low key) ≡ true
behind_step low key k ks true e less later f = subst (λ (l : List Value). is_lt (key_order low l) ≡ true) (sym (same_is key k e)) less
behind_step low key k ks false e less later f = later f

behind_all : (low key : List Value) (keys : List (List Value)) → all_above low keys ≡ true → is_among key keys ≡ true → is_lt (key_order low key) ≡ true
behind_all low key [] all among = cc
behind_all low key (k ∷ ks) all among =
    let parts = and_parts (is_lt (key_order low k)) (all_above low ks) all in
    behind_step low key k ks (same_values key k) refl parts.0 (behind_all low key ks parts.1) among

with_later : (d : TableDef) (row own : List Value) (o : Option (List Value)) (rest : List (List Value)) → option_map_or (λ r. same_values own (primary_key d r)) o true ≡ true
    → is_lt (key_order own (primary_key d row)) ≡ true → option_to_list o ++ with_row d row rest ≡ with_row d row (option_to_list o ++ rest)
with_later d row own None rest p less = refl
with_later d row own (Some r) rest p less =
    let below : is_lt (key_order (primary_key d r) (primary_key d row)) ≡ true = subst (λ (k : List Value). is_lt (key_order k (primary_key d row)) ≡ true) (own_row d own r p) less in
    sym (ap (λ (b : Bool). cond b (row ∷ r ∷ rest) (r ∷ with_row d row rest)) (not_back (primary_key d r) (primary_key d row) below))

fill_step : (d : TableDef) (row : List Value) (s : Slot) (ss more : List Slot) (here : Bool) → has_own_key d s ≡ true
    → (here ≡ true → Above d (primary_key d row) (rows_in ss))
    → (here ≡ false → is_lt (key_order s.key (primary_key d row)) ≡ true)
    → (here ≡ true → s.row ≡ None)
    → (here ≡ false → rows_in more ≡ with_row d row (rows_in ss))
    → rows_in (cond here (record { key = s.key; row = Some row } ∷ ss) (s ∷ more)) ≡ with_row d row (option_to_list s.row ++ rows_in ss)
fill_step d row s ss more true own above less none later =
    sym (first_above d row (rows_in ss) (above refl)) ∙ ap (λ (o : Option (List Value)). with_row d row (option_to_list o ++ rows_in ss)) (sym (none refl))
fill_step d row s ss more false own above less none later =
    ap (λ (rs : List (List Value)). option_to_list s.row ++ rs) (later refl) ∙ with_later d row s.key s.row (rows_in ss) own (less refl)

among_later : (b : Bool) (c : Bool) → (b || c) ≡ true → b ≡ false → c ≡ true
among_later true c e f = cc
among_later false c e f = e

at_here : (b : Bool) (o p : Option (List Value)) → cond b o p ≡ None → b ≡ true → o ≡ None
at_here true o p e f = e
at_here false o p e f = cc

at_later : (b : Bool) (o p : Option (List Value)) → cond b o p ≡ None → b ≡ false → p ≡ None
at_later true o p e f = cc
at_later false o p e f = e

put_in : (d : TableDef) (row : List Value) (ss : List Slot) → keys_rise (keys_in ss) ≡ true → list_all (has_own_key d) ss ≡ true
    → is_among (primary_key d row) (keys_in ss) ≡ true → row_in (primary_key d row) ss ≡ None
    → rows_in (fill (primary_key d row) (Some row) ss) ≡ with_row d row (rows_in ss)
put_in d row [] rising own among none = cc
put_in d row (s ∷ ss) rising own among none =
    let r = and_parts (all_above s.key (keys_in ss)) (keys_rise (keys_in ss)) rising in
    let o = and_parts (has_own_key d s) (list_all (has_own_key d) ss) own in
    fill_step d row s ss (fill (primary_key d row) (Some row) ss) (is_slot_of (primary_key d row) s) o.0
    (λ e. subst (λ (k : List Value). Above d k (rows_in ss)) (sym (same_is (primary_key d row) s.key e)) (rows_above d s.key ss r.0 o.1))
    (λ e. behind_all s.key (primary_key d row) (keys_in ss) r.0 (among_later (is_slot_of (primary_key d row) s) (is_among (primary_key d row) (keys_in ss)) among e))
    (λ e. at_here (is_slot_of (primary_key d row) s) s.row (row_in (primary_key d row) ss) none e)
    (λ e. put_in d row ss r.1 o.1 (among_later (is_slot_of (primary_key d row) s) (is_among (primary_key d row) (keys_in ss)) among e) (at_later (is_slot_of (primary_key d row) s) s.row (row_in (primary_key d row) ss) none e))

free_step : (d : TableDef) (row r : List Value) (rs : List (List Value)) (later : list_any (collide d row) rs ≡ false → row_of_key d (primary_key d row) rs ≡ None)
    → list_any (collide d row) (r ∷ rs) ≡ false → row_of_key d (primary_key d row) (r ∷ rs) ≡ None
free_step d row r rs later e =
    let parts = or_parts (collide d row r) (list_any (collide d row) rs) e in
    let other = or_parts (same_values (primary_key d row) (primary_key d r)) (list_any (agree_on row r) d.uniques) parts.0 in
    rw other.0 (later parts.1)

-- where a row collides with none, none has its primary key
pub none_of_its_key : (d : TableDef) (row : List Value) (rows : List (List Value)) → list_any (collide d row) rows ≡ false → row_of_key d (primary_key d row) rows ≡ None
none_of_its_key d row [] e = refl
none_of_its_key d row (r ∷ rs) e = free_step d row r rs (none_of_its_key d row rs) e

-- a row that collides with none is put by filling the slot of its key
pub rows_filled : (d : TableDef) (row : List Value) (ss : List Slot) → Sound d ss → is_among (primary_key d row) (keys_in ss) ≡ true → list_any (collide d row) (rows_in ss) ≡ false
    → rows_in (fill (primary_key d row) (Some row) ss) ≡ with_row d row (rows_in ss)
rows_filled d row ss s among free =
    put_in d row ss s.rising s.own among (sym (row_of_slot d (primary_key d row) ss s) ∙ none_of_its_key d row (rows_in ss) free)

pub sound_put : (d : TableDef) (row : List Value) (ss : List Slot) → Sound d ss → is_among (primary_key d row) (keys_in ss) ≡ true → row_fits d.columns row ≡ true → list_any (collide d row) (rows_in ss) ≡ false
    → Sound d (fill (primary_key d row) (Some row) ss)
sound_put d row ss s among fits free =
    sound_filled d (primary_key d row) (Some row) ss s (same_self (primary_key d row))
    (subst (λ (rows : List (List Value)). Kept d rows) (sym (rows_filled d row ss s among free)) (kept_with d row (rows_in ss) s.kept fits free))

-- ---- keys in the way

any_key_step : (b : Bool) (r : List Value) (o : Option (List Value)) (more : Bool) → more ≡ is_some o → (b || more) ≡ is_some (cond b (Some r) o)
any_key_step true r o more e = refl
any_key_step false r o more e = e

pub any_of_key : (d : TableDef) (key : List Value) (rows : List (List Value)) → list_any (has_key d key) rows ≡ is_some (row_of_key d key rows)
any_of_key d key [] = refl
any_of_key d key (r ∷ rs) = any_key_step (has_key d key r) r (row_of_key d key rs) (list_any (has_key d key) rs) (any_of_key d key rs)

pub primary_in_way : (d : TableDef) (row : List Value) (rows : List (List Value)) → is_some (row_of_key d (primary_key d row) rows) ≡ true → Some 0 ≡ key_in_way d row rows
primary_in_way d row rows e =
    sym (ap (λ (b : Bool). cond b (Some 0) (option_map suc (first_agreed d.uniques row rows))) (any_of_key d (primary_key d row) rows ∙ e))

pub unique_in_way : (d : TableDef) (row : List Value) (rows : List (List Value)) → is_some (row_of_key d (primary_key d row) rows) ≡ false → option_map suc (first_agreed d.uniques row rows) ≡ key_in_way d row rows
unique_in_way d row rows e =
    sym (ap (λ (b : Bool). cond b (Some 0) (option_map suc (first_agreed d.uniques row rows))) (any_of_key d (primary_key d row) rows ∙ e))

pub free_rows : (d : TableDef) (row : List Value) (rows : List (List Value)) → key_in_way d row rows ≡ None → list_any (collide d row) rows ≡ false
free_rows d row rows e = sym (keys_in_way d row rows) ∙ ap (λ (o : Option ℕ). is_some o) e

-- ---- a row taken out and put back

-- a row that was taken out fits, collides with none of those beside it, and put back gives the rows again
pub record TakenRow (d : TableDef) (key row : List Value) (rows : List (List Value)) : Type 0 where
  pub its_key : key ≡ primary_key d row
  pub fits : row_fits d.columns row ≡ true
  pub free : list_any (collide d row) (rows_beside d key rows) ≡ false
  pub back : with_row d row (rows_beside d key rows) ≡ rows

pub taken_row : (d : TableDef) (key row : List Value) (ss : List Slot) → Sound d ss → row_of_key d key (rows_in ss) ≡ Some row → TakenRow d key row (rows_in ss)
taken_row d key row ss s e =
    let out = taken_out d row (rows_in ss) (rows_beside d key (rows_in ss)) s.kept (without_is_beside d key row (rows_in ss) s.kept e) in
    record { its_key = key_is d key row (rows_in ss) e; fits = out.fits; free = out.free; back = out.back }

among_of : (b : Bool) (o p : Option (List Value)) (more : Bool) (row : List Value) → (p ≡ Some row → more ≡ true) → cond b o p ≡ Some row → (b || more) ≡ true
among_of true o p more row later e = refl
among_of false o p more row later e = later e

row_in_among : (key row : List Value) (ss : List Slot) → row_in key ss ≡ Some row → is_among key (keys_in ss) ≡ true
row_in_among key row [] e = cc
row_in_among key row (s ∷ ss) e = among_of (is_slot_of key s) s.row (row_in key ss) (is_among key (keys_in ss)) row (row_in_among key row ss) e

-- a key with a row has a slot
pub among_of_row : (d : TableDef) (key row : List Value) (ss : List Slot) → Sound d ss → row_of_key d key (rows_in ss) ≡ Some row → is_among key (keys_in ss) ≡ true
among_of_row d key row ss s e = row_in_among key row ss (sym (row_of_slot d key ss s) ∙ e)
