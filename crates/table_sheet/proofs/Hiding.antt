-- The committed rows of which there is no entry, as entries are hidden one after the other and settled one after the other.
use Rattle.std.proofs.Common.{◌≡◌, ℕ, ◌<◌, ◌≤◌, List, [], ◌∷◌, ◌++◌, length, Bool, true, false, cond, Option, Some, None, refl, sym, ap, ◌∙◌, arith}
use Rattle.std.specs.Prelude.{option_to_list}
use Rattle.std.specs.List.{list_all}
use Rattle.std.specs.Option.{option_map, option_or, option_and_then}
use Rattle.std.specs.Ordering.{is_lt}
use Rattle.std.proofs.lemmas.Bool.{and_parts}
use Rattle.val_types.specs.declared.value.Value.{Value}
use Rattle.val_types.specs.declared.definitions.KeyDef.{KeyDef}
use Rattle.val_types.specs.declared.definitions.TableDef.{TableDef}
use Rattle.val_types.specs.Order.{key_order}
use Rattle.val_types.specs.Keys.{primary_key, same_values, values_at}
use Rattle.table_rules.proofs.Taking.{same_is, same_self}
use Rattle.row_index.specs.row_sheets.Slots.{Slot, all_above, held, fill, with_slot, is_slot_of, keys_in, keys_rise, rows_in, has_own_key}
use Rattle.row_index.specs.row_sheets.Claims.{has_values, AreApart, row_under}
use Rattle.row_index.specs.row_sheets.Over.{over, settled_by}
use Rattle.row_index.proofs.of_row_sheets.Over.{apart}
use Rattle.row_index.proofs.of_row_sheets.Held.{held-over, rises-over, held_rest, none_above, dropped_self, slots_told}
use Rattle.row_index.proofs.of_row_sheets.Claims.{new_self}
use Rattle.row_index.proofs.of_row_sheets.Finding.{Shown, shown_of}
use Rattle.row_index.proofs.of_row_sheets.Settling.{settled_rises}
use Rattle.row_index.specs.row_indexes.IndexLaws.{DifferAt}
use Rattle.row_index.proofs.Changing.{apart_among, rows_few, rows_refilled}
use Rattle.row_index.proofs.Members.{IsOfRow}
use Rattle.table_sheet.specs.Settling.{hiding}
use Rattle.table_sheet.proofs.Shown.{rows_with}
use Rattle.table_sheet.proofs.Steps.{held_settled}
use Rattle.table_sheet.proofs.Entering.{one, over_one, over_there}

-- ---- slots hidden

pub keys_hiding : (es : List Slot) → keys_in (hiding es) ≡ keys_in es
keys_hiding [] = refl
keys_hiding (e ∷ es) = ap (λ (ks : List (List Value)). e.key ∷ ks) (keys_hiding es)

rises_hiding : (es : List Slot) → keys_rise (keys_in es) ≡ true → keys_rise (keys_in (hiding es)) ≡ true
rises_hiding es rises = ap keys_rise (keys_hiding es) ∙ rises

-- what a hidden slot has
abbrev no_row : Option (Option (List Value)) → Option (Option (List Value))
no_row o = option_map (λ (p : Option (List Value)). None) o

held_hiding : (k : List Value) (es : List Slot) → held k (hiding es) ≡ no_row (held k es)
held_hiding k [] = refl
held_hiding k (e ∷ es) = step (is_slot_of k e) (held_hiding k es)
  where
    step : (here : Bool) → held k (hiding es) ≡ no_row (held k es) → cond here (Some None) (held k (hiding es)) ≡ no_row (cond here (Some e.row) (held k es))
    step true later = refl
    step false later = later

module _ (k : List Value) (es cs : List Slot) (rises : keys_rise (keys_in es) ≡ true) where
  hidden_is : (o : Option (Option (List Value))) → held k es ≡ o → held k (over (hiding es) cs) ≡ option_or (no_row o) (held k cs)
  hidden_is o is = held-over k (hiding es) cs (rises_hiding es rises) ∙ ap (λ (p : Option (Option (List Value))). option_or p (held k cs)) (held_hiding k es ∙ ap no_row is)

  -- a row that is still there is a committed one without an entry
  pub hidden_among : (row : List Value) → held k (over (hiding es) cs) ≡ Some (Some row) → (held k es ≡ None) × (held k cs ≡ Some (Some row))
  hidden_among row has = at (held k es) refl
    where
      at : (o : Option (Option (List Value))) → held k es ≡ o → (held k es ≡ None) × (held k cs ≡ Some (Some row))
      at None is = (is, sym (hidden_is None is) ∙ has)
      at (Some p) is = let never : Some None ≡ Some (Some row) = sym (hidden_is (Some p) is) ∙ has in cc

  -- and is shown
  pub hidden_shown : (row : List Value) → held k (over (hiding es) cs) ≡ Some (Some row) → held k (over es cs) ≡ Some (Some row)
  hidden_shown row has =
      let both = hidden_among row has in
      held-over k es cs rises ∙ ap (λ (o : Option (Option (List Value))). option_or o (held k cs)) both.0 ∙ both.1

-- a committed row has its own key
pub own_at : (d : TableDef) (key row : List Value) (ss : List Slot) → list_all (has_own_key d) ss ≡ true → held key ss ≡ Some (Some row) → primary_key d row ≡ key
own_at d key row [] own has = cc
own_at d key row (s ∷ ss) own has = step (is_slot_of key s) refl has (and_parts (has_own_key d s) (list_all (has_own_key d) ss) own) (λ more there. own_at d key row ss more there)
  where
    step : (here : Bool) → is_slot_of key s ≡ here → cond here (Some s.row) (held key ss) ≡ Some (Some row) → (has_own_key d s ≡ true) × (list_all (has_own_key d) ss ≡ true)
        → (list_all (has_own_key d) ss ≡ true → held key ss ≡ Some (Some row) → primary_key d row ≡ key) → primary_key d row ≡ key
    step true is e both later =
        let row_here : s.row ≡ Some row = cc in
        let slot_is : has_own_key d (record { key = s.key; row = Some row }) ≡ true = sym (ap (λ (o : Option (List Value)). has_own_key d (record { key = s.key; row = o })) row_here) ∙ both.0 in
        sym (same_is key s.key is ∙ same_is s.key (primary_key d row) slot_is)
    step false is e both later = later both.1 e

-- ---- one more slot hidden

held_behind : (k : List Value) (xs : List Slot) (e : Slot) → held k (xs ++ e ∷ []) ≡ option_or (held k xs) (held k (e ∷ []))
held_behind k [] e = refl
held_behind k (x ∷ xs) e = step (is_slot_of k x) (held_behind k xs e)
  where
    step : (here : Bool) → held k (xs ++ e ∷ []) ≡ option_or (held k xs) (held k (e ∷ [])) → cond here (Some x.row) (held k (xs ++ e ∷ [])) ≡ option_or (cond here (Some x.row) (held k xs)) (held k (e ∷ []))
    step true later = refl
    step false later = later

last_above : (low : List Value) (xs : List Slot) (e : Slot) → all_above low (keys_in (xs ++ e ∷ [])) ≡ true → is_lt (key_order low e.key) ≡ true
last_above low [] e above = (and_parts (is_lt (key_order low e.key)) true above).0
last_above low (x ∷ xs) e above = last_above low xs e (and_parts (is_lt (key_order low x.key)) (all_above low (keys_in (xs ++ e ∷ []))) above).1

none_before : (xs : List Slot) (e : Slot) → keys_rise (keys_in (xs ++ e ∷ [])) ≡ true → held e.key xs ≡ None
none_before [] e rises = refl
none_before (x ∷ xs) e rises =
    let both = and_parts (all_above x.key (keys_in (xs ++ e ∷ []))) (keys_rise (keys_in (xs ++ e ∷ []))) rises in
    held_rest e.key x xs (apart x.key e.key (last_above x.key xs e both.0)) ∙ none_before xs e both.1

module _ (u : KeyDef) (xs : List Slot) (e : Slot) (cs : List Slot) (rises : keys_rise (keys_in xs) ≡ true) (more : keys_rise (keys_in (xs ++ e ∷ [])) ≡ true) (up : keys_rise (keys_in cs) ≡ true) (are : AreApart u cs) where
  next_has : held e.key (xs ++ e ∷ []) ≡ Some e.row
  next_has =
      held_behind e.key xs e ∙ ap (λ (o : Option (Option (List Value))). option_or o (held e.key (e ∷ []))) (none_before xs e more)
      ∙ ap (λ (b : Bool). cond b (Some e.row) None) (same_self e.key)

  next_beside : (k : List Value) → same_values k e.key ≡ false → held k (over (hiding (xs ++ e ∷ [])) cs) ≡ held k (over (hiding xs) cs)
  next_beside k differs = at (held k xs) refl
    where
      at : (o : Option (Option (List Value))) → held k xs ≡ o → held k (over (hiding (xs ++ e ∷ [])) cs) ≡ held k (over (hiding xs) cs)
      at None is =
          hidden_is k (xs ++ e ∷ []) cs more None (held_behind k xs e ∙ ap (λ (o : Option (Option (List Value))). option_or o (held k (e ∷ []))) is ∙ ap (λ (b : Bool). cond b (Some e.row) None) differs) ∙ sym (hidden_is k xs cs rises None is)
      at (Some p) is =
          hidden_is k (xs ++ e ∷ []) cs more (Some p) (held_behind k xs e ∙ ap (λ (o : Option (Option (List Value))). option_or o (held k (e ∷ []))) is) ∙ sym (hidden_is k xs cs rises (Some p) is)

  pub next_differs : DifferAt u e.key (over (hiding xs) cs) (over (hiding (xs ++ e ∷ [])) cs)
  next_differs = record {
    old_rises = rises-over (hiding xs) cs (rises_hiding xs rises) up;
    new_rises = rises-over (hiding (xs ++ e ∷ [])) cs (rises_hiding (xs ++ e ∷ []) more) up;
    old_apart = apart_among u (over (hiding xs) cs) cs (λ k row has. (hidden_among k xs cs rises row has).1) are;
    new_apart = apart_among u (over (hiding (xs ++ e ∷ [])) cs) cs (λ k row has. (hidden_among k (xs ++ e ∷ []) cs more row has).1) are;
    beside = next_beside;
  }

  -- the committed row of its key was there
  pub next_was : row_under e.key (over (hiding xs) cs) ≡ row_under e.key cs
  next_was = ap (option_and_then (λ (r : Option (List Value)). r)) (hidden_is e.key xs cs rises None (none_before xs e more))

  pub next_gone : row_under e.key (over (hiding (xs ++ e ∷ [])) cs) ≡ None
  next_gone = ap (option_and_then (λ (r : Option (List Value)). r)) (hidden_is e.key (xs ++ e ∷ []) cs more (Some e.row) next_has)

-- ---- the first entry settled

module _ (key : List Value) (p : Option (List Value)) (rest cs : List Slot) (rises : keys_rise (keys_in (record { key = key; row = p } ∷ rest)) ≡ true) (up : keys_rise (keys_in cs) ≡ true) where
  abbrev all : List Slot
  all = record { key = key; row = p } ∷ rest

  both_rise : (all_above key (keys_in rest) ≡ true) × (keys_rise (keys_in rest) ≡ true)
  both_rise = and_parts (all_above key (keys_in rest)) (keys_rise (keys_in rest)) rises

  abbrev now : List Slot
  now = settled_by key p cs

  now_up : keys_rise (keys_in now) ≡ true
  now_up = settled_rises key p cs up

  all_has : held key all ≡ Some p
  all_has = ap (λ (b : Bool). cond b (Some p) (held key rest)) (same_self key)

  rest_none : held key rest ≡ None
  rest_none = none_above key rest both_rise.0

  all_rest : (k : List Value) → same_values k key ≡ false → held k all ≡ held k rest
  all_rest k differs = ap (λ (b : Bool). cond b (Some p) (held k rest)) differs

  -- what is committed of its key is what it shows
  settled_self : (q : Option (List Value)) → row_under key (settled_by key q cs) ≡ q
  settled_self None = ap (option_and_then (λ (r : Option (List Value)). r)) (dropped_self key cs up)
  settled_self (Some row) =
      ap (option_and_then (λ (r : Option (List Value)). r))
      (held-over key (one key (Some row)) cs refl ∙ ap (λ (b : Bool). option_or (cond b (Some (Some row)) None) (held key cs)) (same_self key))

  pub first_is : row_under key now ≡ p
  first_is = settled_self p

  pub first_hidden : row_under key (over (hiding all) cs) ≡ None
  first_hidden = ap (option_and_then (λ (r : Option (List Value)). r)) (hidden_is key all cs rises (Some p) all_has)

  pub first_now : row_under key (over (hiding rest) now) ≡ p
  first_now = ap (option_and_then (λ (r : Option (List Value)). r)) (hidden_is key rest now both_rise.1 None rest_none) ∙ first_is

  first_beside : (k : List Value) → same_values k key ≡ false → held k (over (hiding rest) now) ≡ held k (over (hiding all) cs)
  first_beside k differs =
      hidden_is k rest now both_rise.1 (held k rest) refl ∙ ap (λ (o : Option (Option (List Value))). option_or (no_row (held k rest)) o) (held_settled key k p cs differs)
      ∙ sym (hidden_is k all cs rises (held k rest) (all_rest k differs))

  under_some : (o : Option (Option (List Value))) (row : List Value) → o ≡ Some (Some row) → option_and_then (λ (r : Option (List Value)). r) o ≡ Some row
  under_some o row e = ap (option_and_then (λ (r : Option (List Value)). r)) e

  -- what is shown stays
  still_shown : (k row : List Value) → held k (over rest now) ≡ Some (Some row) → held k (over all cs) ≡ Some (Some row)
  still_shown k row has = at (same_values k key) refl
    where
      at : (here : Bool) → same_values k key ≡ here → held k (over all cs) ≡ Some (Some row)
      at true e =
          let is : k ≡ key = same_is k key e in
          let there : held key now ≡ Some (Some row) =
          sym (held-over key rest now both_rise.1 ∙ ap (λ (o : Option (Option (List Value))). option_or o (held key now)) rest_none) ∙ ap (λ (x : List Value). held x (over rest now)) (sym is) ∙ has in
          let shows : p ≡ Some row = sym first_is ∙ under_some (held key now) row there in
          ap (λ (x : List Value). held x (over all cs)) is ∙ held-over key all cs rises ∙ ap (λ (o : Option (Option (List Value))). option_or o (held key cs)) all_has ∙ ap (λ (o : Option (List Value)). Some o) shows
      at false e =
          held-over k all cs rises ∙ ap (λ (o : Option (Option (List Value))). option_or o (held k cs)) (all_rest k e) ∙ ap (λ (o : Option (Option (List Value))). option_or (held k rest) o) (sym (held_settled key k p cs e))
          ∙ sym (held-over k rest now both_rise.1) ∙ has

  pub still_apart : (u : KeyDef) → AreApart u (over all cs) → AreApart u (over rest now)
  still_apart u are = apart_among u (over rest now) (over all cs) still_shown are

  pub first_differs : (u : KeyDef) → AreApart u (over all cs) → DifferAt u key (over (hiding all) cs) (over (hiding rest) now)
  first_differs u are = record {
    old_rises = rises-over (hiding all) cs (rises_hiding all rises) up;
    new_rises = rises-over (hiding rest) now (rises_hiding rest both_rise.1) now_up;
    old_apart = apart_among u (over (hiding all) cs) (over all cs) (λ k row has. hidden_shown k all cs rises row has) are;
    new_apart = apart_among u (over (hiding rest) now) (over rest now) (λ k row has. hidden_shown k rest now both_rise.1 row has) (still_apart u are);
    beside = first_beside;
  }

  -- a row of which there is no entry has another key
  pub other_key : (d : TableDef) (u : KeyDef) (row_at : ℕ → Option (List Value)) (m : ℕ) → list_all (has_own_key d) cs ≡ true → (of : IsOfRow u row_at (rows_in (over (hiding all) cs)) m) → same_values (primary_key d of.row) key ≡ false
  other_key d u row_at m own of =
      let shown : Shown (has_values u (values_at u.columns of.row)) (over (hiding all) cs) of.row =
      shown_of (has_values u (values_at u.columns of.row)) (over (hiding all) cs) of.row (rises-over (hiding all) cs (rises_hiding all rises) up) of.is in
      let both = hidden_among shown.key all cs rises of.row shown.there in
      let its : primary_key d of.row ≡ shown.key = own_at d shown.key of.row cs own both.1 in
      at shown.key its both.0 (same_values (primary_key d of.row) key) refl
    where
      at : (k : List Value) → primary_key d of.row ≡ k → held k all ≡ None → (same : Bool) → same_values (primary_key d of.row) key ≡ same → same_values (primary_key d of.row) key ≡ false
      at k its none true e =
          let is : k ≡ key = sym its ∙ same_is (primary_key d of.row) key e in
          let never : None ≡ Some p = sym none ∙ ap (λ (x : List Value). held x all) is ∙ all_has in cc
      at k its none false e = e

-- ---- how many rows are left

rows_emptied : (key : List Value) (ss : List Slot) → length (rows_in (fill key None ss)) ≤ length (rows_in ss)
rows_emptied key [] = omega arith
rows_emptied key (s ∷ ss) = step (is_slot_of key s) s.row refl (rows_emptied key ss)
  where
    step : (here : Bool) (o : Option (List Value)) → s.row ≡ o → length (rows_in (fill key None ss)) ≤ length (rows_in ss)
        → length (rows_in (cond here (record { key = s.key; row = None } ∷ ss) (s ∷ fill key None ss))) ≤ length (option_to_list s.row ++ rows_in ss)
    step true None is later = omega (arith, ap (λ (p : Option (List Value)). length (option_to_list p ++ rows_in ss)) is)
    step true (Some row) is later = omega (arith, ap (λ (p : Option (List Value)). length (option_to_list p ++ rows_in ss)) is)
    step false None is later =
        omega (arith, later, ap (λ (p : Option (List Value)). length (option_to_list p ++ rows_in ss)) is, ap (λ (p : Option (List Value)). length (option_to_list p ++ rows_in (fill key None ss))) is)
    step false (Some row) is later =
        omega (arith, later, ap (λ (p : Option (List Value)). length (option_to_list p ++ rows_in ss)) is, ap (λ (p : Option (List Value)). length (option_to_list p ++ rows_in (fill key None ss))) is)

rows_fewer_there : (key row : List Value) (ss : List Slot) → held key ss ≡ Some (Some row) → length (rows_in (fill key None ss)) < length (rows_in ss)
rows_fewer_there key row [] has = cc
rows_fewer_there key row (s ∷ ss) has = step (is_slot_of key s) s.row refl has (rows_fewer_there key row ss)
  where
    step : (here : Bool) (o : Option (List Value)) → s.row ≡ o → cond here (Some s.row) (held key ss) ≡ Some (Some row) → (held key ss ≡ Some (Some row) → length (rows_in (fill key None ss)) < length (rows_in ss))
        → length (rows_in (cond here (record { key = s.key; row = None } ∷ ss) (s ∷ fill key None ss))) < length (option_to_list s.row ++ rows_in ss)
    step true None is e later = let never : Some None ≡ Some (Some row) = ap (λ (p : Option (List Value)). Some p) (sym is) ∙ e in cc
    step true (Some r) is e later = omega (arith, ap (λ (p : Option (List Value)). length (option_to_list p ++ rows_in ss)) is)
    step false None is e later =
        omega (arith, later e, ap (λ (p : Option (List Value)). length (option_to_list p ++ rows_in ss)) is, ap (λ (p : Option (List Value)). length (option_to_list p ++ rows_in (fill key None ss))) is)
    step false (Some r) is e later =
        omega (arith, later e, ap (λ (p : Option (List Value)). length (option_to_list p ++ rows_in ss)) is, ap (λ (p : Option (List Value)). length (option_to_list p ++ rows_in (fill key None ss))) is)

-- one slot hidden over others
one_hidden : (key : List Value) (ys : List Slot) (was : Option (Option (List Value))) → keys_rise (keys_in ys) ≡ true → held key ys ≡ was → length (rows_in (over (one key None) ys)) ≤ length (rows_in ys)
one_hidden key ys None up none =
    omega (arith, ap (λ (ss : List Slot). length (rows_in ss)) (over_one key None ys up none), ap length (rows_refilled key None (with_slot key ys) (new_self key ys none)), ap length (rows_with key ys))
one_hidden key ys (Some was) up has = omega (arith, ap (λ (ss : List Slot). length (rows_in ss)) (over_there key None was ys up has), rows_emptied key ys)

module _ (key : List Value) (p : Option (List Value)) (rest xs : List Slot) (rises : keys_rise (keys_in (record { key = key; row = p } ∷ rest)) ≡ true) (up : keys_rise (keys_in xs) ≡ true) where
  rest_up : keys_rise (keys_in rest) ≡ true
  rest_up = (and_parts (all_above key (keys_in rest)) (keys_rise (keys_in rest)) rises).1

  none_left : held key rest ≡ None
  none_left = none_above key rest (and_parts (all_above key (keys_in rest)) (keys_rise (keys_in rest)) rises).0

  below : keys_rise (keys_in (over (hiding rest) xs)) ≡ true
  below = rises-over (hiding rest) xs (rises_hiding rest rest_up) up

  below_has : held key (over (hiding rest) xs) ≡ held key xs
  below_has = hidden_is key rest xs rest_up None none_left

  -- the first one hidden over the others
  pub hidden_first : over (hiding (record { key = key; row = p } ∷ rest)) xs ≡ over (one key None) (over (hiding rest) xs)
  hidden_first =
      slots_told (over (hiding (record { key = key; row = p } ∷ rest)) xs) (over (one key None) (over (hiding rest) xs))
      (rises-over (hiding (record { key = key; row = p } ∷ rest)) xs (rises_hiding (record { key = key; row = p } ∷ rest) rises) up) (rises-over (one key None) (over (hiding rest) xs) refl below)
      (λ k. at k (same_values k key) refl)
    where
      at : (k : List Value) (here : Bool) → same_values k key ≡ here → held k (over (hiding (record { key = key; row = p } ∷ rest)) xs) ≡ held k (over (one key None) (over (hiding rest) xs))
      at k true e =
          hidden_is k (record { key = key; row = p } ∷ rest) xs rises (Some p) (ap (λ (b : Bool). cond b (Some p) (held k rest)) e)
          ∙ sym (held-over k (one key None) (over (hiding rest) xs) refl ∙ ap (λ (b : Bool). option_or (cond b (Some None) None) (held k (over (hiding rest) xs))) e)
      at k false e =
          hidden_is k (record { key = key; row = p } ∷ rest) xs rises (held k rest) (ap (λ (b : Bool). cond b (Some p) (held k rest)) e) ∙ sym (hidden_is k rest xs rest_up (held k rest) refl)
          ∙ sym (held-over k (one key None) (over (hiding rest) xs) refl ∙ ap (λ (b : Bool). option_or (cond b (Some None) None) (held k (over (hiding rest) xs))) e)

-- hiding leaves no more rows
pub hidden_few : (es xs : List Slot) → keys_rise (keys_in es) ≡ true → keys_rise (keys_in xs) ≡ true → length (rows_in (over (hiding es) xs)) ≤ length (rows_in xs)
hidden_few [] xs rises up = omega arith
hidden_few (e ∷ es) xs rises up =
    omega (
      arith,
      ap (λ (ss : List Slot). length (rows_in ss)) (hidden_first e.key e.row es xs rises up),
      one_hidden e.key (over (hiding es) xs) (held e.key (over (hiding es) xs)) (below e.key e.row es xs rises up) refl,
      hidden_few es xs (rest_up e.key e.row es xs rises up) up,
    )

-- and fewer than there are slots where one of them had a row
pub hidden_fewer : (key row : List Value) (p : Option (List Value)) (rest xs : List Slot) → keys_rise (keys_in (record { key = key; row = p } ∷ rest)) ≡ true → keys_rise (keys_in xs) ≡ true → held key xs ≡ Some (Some row)
    → length (rows_in (over (hiding (record { key = key; row = p } ∷ rest)) xs)) < length xs
hidden_fewer key row p rest xs rises up has =
    let there : held key (over (hiding rest) xs) ≡ Some (Some row) = below_has key p rest xs rises up ∙ has in
    omega (
      arith,
      ap (λ (ss : List Slot). length (rows_in ss)) (hidden_first key p rest xs rises up ∙ over_there key None (Some row) (over (hiding rest) xs) (below key p rest xs rises up) there),
      rows_fewer_there key row (over (hiding rest) xs) there,
      hidden_few rest xs (rest_up key p rest xs rises up) up,
      rows_few xs,
    )

-- what is hidden does not matter
pub hidden_same : (key : List Value) (p : Option (List Value)) (rest cs : List Slot) → keys_rise (keys_in (record { key = key; row = p } ∷ rest)) ≡ true → keys_rise (keys_in cs) ≡ true
    → over (hiding (record { key = key; row = p } ∷ rest)) (settled_by key p cs) ≡ over (hiding (record { key = key; row = p } ∷ rest)) cs
hidden_same key p rest cs rises up =
    slots_told (over (hiding es) (settled_by key p cs)) (over (hiding es) cs) (rises-over (hiding es) (settled_by key p cs) (rises_hiding es rises) (settled_rises key p cs up)) (rises-over (hiding es) cs (rises_hiding es rises) up)
    (λ k. at k (same_values k key) refl)
  where
    es : List Slot
    es = record { key = key; row = p } ∷ rest

    at : (k : List Value) (here : Bool) → same_values k key ≡ here → held k (over (hiding es) (settled_by key p cs)) ≡ held k (over (hiding es) cs)
    at k true e =
        let has : held k es ≡ Some p = ap (λ (b : Bool). cond b (Some p) (held k rest)) e in
        hidden_is k es (settled_by key p cs) rises (Some p) has ∙ sym (hidden_is k es cs rises (Some p) has)
    at k false e =
        hidden_is k es (settled_by key p cs) rises (held k es) refl ∙ ap (λ (o : Option (Option (List Value))). option_or (no_row (held k es)) o) (held_settled key k p cs e) ∙ sym (hidden_is k es cs rises (held k es) refl)
