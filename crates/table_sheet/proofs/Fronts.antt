-- Slots in front that are in no range may be left out, and behind a range nothing is left.
use Rattle.std.proofs.Common.{◌≡◌, ℕ, zero, suc, List, [], ◌∷◌, ◌++◌, take, drop, Bool, true, false, not, ◌&&◌, cond, Option, Some, None, Ordering, Less, Equal, Greater, refl, sym, ap, ◌∙◌}
use Rattle.std.specs.Prelude.{filter, option_to_list}
use Rattle.std.specs.List.{list_all}
use Rattle.std.specs.Option.{option_or, option_map_or}
use Rattle.std.specs.Ordering.{is_lt, is_ge}
use Rattle.std.proofs.lemmas.Bool.{and_parts, and_from, true≢false}
use Rattle.val_types.specs.declared.value.Value.{Value}
use Rattle.val_types.specs.declared.definitions.TableDef.{TableDef}
use Rattle.val_types.specs.Order.{value_order, key_order}
use Rattle.val_types.specs.Keys.{primary_key, same_values}
use Rattle.table_rules.proofs.Taking.{same_is}
use Rattle.value_ranges.specs.Ranges.{Range, is_from, is_to, is_in}
use Rattle.value_ranges.specs.Keys.{first_of, row_is_in}
use Rattle.value_ranges.proofs.Standing.{to_on}
use Rattle.row_index.specs.row_sheets.Slots.{Slot, rows_in, keys_in, is_slot_of, all_above, keys_rise, held, has_own_key}
use Rattle.row_index.specs.row_sheets.Over.{by_order, over_step, over}
use Rattle.row_index.proofs.of_row_sheets.Held.{held_rest, slots_told, held-over, rises-over}
use Rattle.table_sheet.specs.Ranges.{slot_is_in, AreOutside, AreBehind, AreOrdered}
use Rattle.table_sheet.proofs.Firsts.{first_rises}

-- ---- slots over others

over_step_all : (test : Slot → Bool) (e : Slot) (on : List Slot → List Slot) (cs : List Slot) → test e ≡ true
    → ((ds : List Slot) → list_all test ds ≡ true → list_all test (on ds) ≡ true) → list_all test cs ≡ true → list_all test (over_step e on cs) ≡ true
over_step_all test e on [] own ih all = and_from (test e) (list_all test (on [])) own (ih [] refl)
over_step_all test e on (c ∷ cs) own ih all =
    at (key_order e.key c.key) (and_parts (test c) (list_all test cs) all) (λ more. over_step_all test e on cs own ih more)
  where
    at : (o : Ordering) → (test c ≡ true) × (list_all test cs ≡ true) → (list_all test cs ≡ true → list_all test (over_step e on cs) ≡ true)
        → list_all test (by_order o (e ∷ on (c ∷ cs)) (e ∷ on cs) (c ∷ over_step e on cs)) ≡ true
    at Less both later = and_from (test e) (list_all test (on (c ∷ cs))) own (ih (c ∷ cs) all)
    at Equal both later = and_from (test e) (list_all test (on cs)) own (ih cs both.1)
    at Greater both later = and_from (test c) (list_all test (over_step e on cs)) both.0 (later both.1)

over_all : (test : Slot → Bool) (es cs : List Slot) → list_all test es ≡ true → list_all test cs ≡ true → list_all test (over es cs) ≡ true
over_all test [] cs left right = right
over_all test (e ∷ es) cs left right =
    let both = and_parts (test e) (list_all test es) left in
    over_step_all test e (over es) cs both.0 (λ ds all. over_all test es ds both.1 all) right

-- ---- slots from a place on

drop_all : (test : Slot → Bool) (i : ℕ) (ss : List Slot) → list_all test ss ≡ true → list_all test (drop i ss) ≡ true
drop_all test zero ss all = all
drop_all test (suc i) [] all = refl
drop_all test (suc i) (s ∷ ss) all = drop_all test i ss (and_parts (test s) (list_all test ss) all).1

drop_rises : (i : ℕ) (ss : List Slot) → keys_rise (keys_in ss) ≡ true → keys_rise (keys_in (drop i ss)) ≡ true
drop_rises zero ss rises = rises
drop_rises (suc i) [] rises = refl
drop_rises (suc i) (s ∷ ss) rises = drop_rises i ss (and_parts (all_above s.key (keys_in ss)) (keys_rise (keys_in ss)) rises).1

dropped : (d : TableDef) (i : ℕ) (ss : List Slot) → AreOrdered d ss → AreOrdered d (drop i ss)
dropped d i ss ordered = record { rising = drop_rises i ss ordered.rising; own = drop_all (has_own_key d) i ss ordered.own }

module _ (range : Range) where
  abbrev key_in : List Value → Bool
  key_in key = is_in range (first_of key)

  -- the slots in the range
  abbrev those : List Slot → List Slot
  those ss = filter (slot_is_in range) ss

  -- ---- their rows

  rows_step : (d : TableDef) (key : List Value) (o : Option (List Value)) (ss more : List Slot) (inside : Bool) → key_in key ≡ inside
      → option_map_or (λ (row : List Value). same_values key (primary_key d row)) o true ≡ true → filter (row_is_in d range) (rows_in ss) ≡ rows_in more
      → filter (row_is_in d range) (option_to_list o ++ rows_in ss) ≡ rows_in (cond inside (record { key = key; row = o } ∷ more) more)
  rows_step d key None ss more true is own later = later
  rows_step d key None ss more false is own later = later
  rows_step d key (Some row) ss more inside is own later = step inside (ap key_in (sym (same_is key (primary_key d row) own)) ∙ is)
    where
      step : (b : Bool) → key_in (primary_key d row) ≡ b → filter (row_is_in d range) (row ∷ rows_in ss) ≡ rows_in (cond b (record { key = key; row = Some row } ∷ more) more)
      step true here = rw here (ap (λ (rs : List (List Value)). row ∷ rs) later)
      step false here = rw here later

  rows_of_those : (d : TableDef) (ss : List Slot) → list_all (has_own_key d) ss ≡ true → filter (row_is_in d range) (rows_in ss) ≡ rows_in (those ss)
  rows_of_those d [] own = refl
  rows_of_those d (s ∷ ss) own =
      let both = and_parts (has_own_key d s) (list_all (has_own_key d) ss) own in
      rows_step d s.key s.row ss (those ss) (key_in s.key) refl both.0 (rows_of_those d ss both.1)

  -- ---- they rise

  above_step : (low : List Value) (s : Slot) (more : List Slot) (inside : Bool) → is_lt (key_order low s.key) ≡ true → all_above low (keys_in more) ≡ true
      → all_above low (keys_in (cond inside (s ∷ more) more)) ≡ true
  above_step low s more true first later = and_from (is_lt (key_order low s.key)) (all_above low (keys_in more)) first later
  above_step low s more false first later = later

  those_above : (low : List Value) (ss : List Slot) → all_above low (keys_in ss) ≡ true → all_above low (keys_in (those ss)) ≡ true
  those_above low [] above = refl
  those_above low (s ∷ ss) above =
      let both = and_parts (is_lt (key_order low s.key)) (all_above low (keys_in ss)) above in
      above_step low s (those ss) (slot_is_in range s) both.0 (those_above low ss both.1)

  rise_step : (s : Slot) (more : List Slot) (inside : Bool) → all_above s.key (keys_in more) ≡ true → keys_rise (keys_in more) ≡ true
      → keys_rise (keys_in (cond inside (s ∷ more) more)) ≡ true
  rise_step s more true above rises = and_from (all_above s.key (keys_in more)) (keys_rise (keys_in more)) above rises
  rise_step s more false above rises = rises

  those_rise : (ss : List Slot) → keys_rise (keys_in ss) ≡ true → keys_rise (keys_in (those ss)) ≡ true
  those_rise [] rises = refl
  those_rise (s ∷ ss) rises =
      let both = and_parts (all_above s.key (keys_in ss)) (keys_rise (keys_in ss)) rises in
      rise_step s (those ss) (slot_is_in range s) (those_above s.key ss both.0) (those_rise ss both.1)

  -- ---- they hold what all hold of the keys in the range

  held_step : (key : List Value) (s : Slot) (ss more : List Slot) (here inside : Bool) → is_slot_of key s ≡ here → slot_is_in range s ≡ inside
      → held key more ≡ cond (key_in key) (held key ss) None
      → held key (cond inside (s ∷ more) more) ≡ cond (key_in key) (cond here (Some s.row) (held key ss)) None
  held_step key s ss more true true same is later =
      let own : key_in key ≡ true = ap key_in (same_is key s.key same) ∙ is in rw same (rw own refl)
  held_step key s ss more true false same is later =
      let own : key_in key ≡ false = ap key_in (same_is key s.key same) ∙ is in
      later ∙ ap (λ (b : Bool). cond b (held key ss) None) own ∙ sym (ap (λ (b : Bool). cond b (Some s.row) None) own)
  held_step key s ss more false true other is later = held_rest key s more other ∙ later
  held_step key s ss more false false other is later = later

  either_way : (b : Bool) (o : Option (Option (List Value))) → o ≡ cond b o o
  either_way true o = refl
  either_way false o = refl

  held_those : (key : List Value) (ss : List Slot) → held key (those ss) ≡ cond (key_in key) (held key ss) None
  held_those key [] = either_way (key_in key) None
  held_those key (s ∷ ss) = held_step key s ss (those ss) (is_slot_of key s) (slot_is_in range s) refl refl (held_those key ss)

  -- ---- slots in front that are outside

  not_true : (b : Bool) → not b ≡ true → b ≡ false
  not_true true e = cc
  not_true false e = refl

  other_slot : (key : List Value) (s : Slot) (here : Bool) → is_slot_of key s ≡ here → key_in key ≡ true → slot_is_in range s ≡ false → is_slot_of key s ≡ false
  other_slot key s true same inside outside = absurd (true≢false (sym inside ∙ ap key_in (same_is key s.key same) ∙ outside))
  other_slot key s false other inside outside = other

  held_dropped : (key : List Value) (i : ℕ) (ss : List Slot) → key_in key ≡ true → AreOutside range (take i ss) → held key (drop i ss) ≡ held key ss
  held_dropped key zero ss inside out = refl
  held_dropped key (suc i) [] inside out = refl
  held_dropped key (suc i) (s ∷ ss) inside out =
      let both = and_parts (not (slot_is_in range s)) (list_all (λ (slot : Slot). not (slot_is_in range slot)) (take i ss)) out in
      held_dropped key i ss inside both.1
      ∙ sym (held_rest key s ss (other_slot key s (is_slot_of key s) refl inside (not_true (slot_is_in range s) both.0)))

  module _ (es cs : List Slot) (i j : ℕ) (up_es : keys_rise (keys_in es) ≡ true) (up_cs : keys_rise (keys_in cs) ≡ true) (out_es : AreOutside range (take i es)) (out_cs : AreOutside range (take j cs)) where
    held_same : (key : List Value) (inside : Bool) → key_in key ≡ inside
        → cond inside (held key (over (drop i es) (drop j cs))) None ≡ cond inside (held key (over es cs)) None
    held_same key true is =
        held-over key (drop i es) (drop j cs) (drop_rises i es up_es)
        ∙ ap (λ (o : Option (Option (List Value))). option_or o (held key (drop j cs))) (held_dropped key i es is out_es)
        ∙ ap (λ (o : Option (Option (List Value))). option_or (held key es) o) (held_dropped key j cs is out_cs) ∙ sym (held-over key es cs up_es)
    held_same key false is = refl

    those_same : those (over (drop i es) (drop j cs)) ≡ those (over es cs)
    those_same =
        slots_told (those (over (drop i es) (drop j cs))) (those (over es cs))
        (those_rise (over (drop i es) (drop j cs)) (rises-over (drop i es) (drop j cs) (drop_rises i es up_es) (drop_rises j cs up_cs)))
        (those_rise (over es cs) (rises-over es cs up_es up_cs))
        (λ key. held_those key (over (drop i es) (drop j cs)) ∙ held_same key (key_in key) refl ∙ sym (held_those key (over es cs)))

  -- ---- slots behind

  none_in : (ss : List Slot) → AreOutside range ss → those ss ≡ []
  none_in [] out = refl
  none_in (s ∷ ss) out =
      let both = and_parts (not (slot_is_in range s)) (list_all (λ (slot : Slot). not (slot_is_in range slot)) ss) out in
      rw (not_true (slot_is_in range s) both.0) (none_in ss both.1)

  not_in : (a b : Bool) → b ≡ false → not (a && b) ≡ true
  not_in true b e = ap not e
  not_in false b e = refl

  behind_step : (before after : Value) (b : Bool) → is_to range.high after ≡ b → is_ge (value_order after before) ≡ true → is_to range.high before ≡ false → is_to range.high after ≡ false
  behind_step before after true is up out = absurd (true≢false (sym (to_on range.high before after up is) ∙ out))
  behind_step before after false is up out = is

  all_behind : (key : List Value) (ss : List Slot) → all_above key (keys_in ss) ≡ true → is_to range.high (first_of key) ≡ false → AreOutside range ss
  all_behind key [] above out = refl
  all_behind key (s ∷ ss) above out =
      let both = and_parts (is_lt (key_order key s.key)) (all_above key (keys_in ss)) above in
      and_from (not (slot_is_in range s)) (list_all (λ (slot : Slot). not (slot_is_in range slot)) ss)
      (not_in (is_from range.low (first_of s.key)) (is_to range.high (first_of s.key))
      (behind_step (first_of key) (first_of s.key) (is_to range.high (first_of s.key)) refl (first_rises key s.key both.0) out))
      (all_behind key ss both.1 out)

  behind_outside : (ss : List Slot) → keys_rise (keys_in ss) ≡ true → AreBehind range ss → AreOutside range ss
  behind_outside [] rises behind = refl
  behind_outside (s ∷ ss) rises behind =
      let both = and_parts (all_above s.key (keys_in ss)) (keys_rise (keys_in ss)) rises in
      and_from (not (slot_is_in range s)) (list_all (λ (slot : Slot). not (slot_is_in range slot)) ss)
      (not_in (is_from range.low (first_of s.key)) (is_to range.high (first_of s.key)) behind) (all_behind s.key ss both.0 behind)

-- slots in front that are not in a range may be left out: the same rows in it are shown
pub fronts_left_out : (d : TableDef) (range : Range) (es cs : List Slot) (i j : ℕ) → AreOrdered d es → AreOrdered d cs → AreOutside range (take i es) → AreOutside range (take j cs)
    → filter (row_is_in d range) (rows_in (over (drop i es) (drop j cs))) ≡ filter (row_is_in d range) (rows_in (over es cs))
fronts_left_out d range es cs i j left right out_es out_cs =
    let own = (λ (xs ys : List Slot) (a : AreOrdered d xs) (b : AreOrdered d ys). over_all (has_own_key d) xs ys a.own b.own) in
    rows_of_those range d (over (drop i es) (drop j cs)) (own (drop i es) (drop j cs) (dropped d i es left) (dropped d j cs right))
    ∙ ap rows_in (those_same range es cs i j left.rising right.rising out_es out_cs)
    ∙ sym (rows_of_those range d (over es cs) (own es cs left right))

-- where the first slots that are left of both are behind a range, no row in it is left
pub nothing_left : (d : TableDef) (range : Range) (es cs : List Slot) (i j : ℕ) → AreOrdered d es → AreOrdered d cs → AreBehind range (drop i es) → AreBehind range (drop j cs)
    → filter (row_is_in d range) (rows_in (over (drop i es) (drop j cs))) ≡ []
nothing_left d range es cs i j left right behind_es behind_cs =
    let es_left = dropped d i es left in
    let cs_left = dropped d j cs right in
    rows_of_those range d (over (drop i es) (drop j cs)) (over_all (has_own_key d) (drop i es) (drop j cs) es_left.own cs_left.own)
    ∙ ap rows_in (none_in range (over (drop i es) (drop j cs))
    (over_all (λ (slot : Slot). not (slot_is_in range slot)) (drop i es) (drop j cs) (behind_outside range (drop i es) es_left.rising behind_es) (behind_outside range (drop j cs) cs_left.rising behind_cs)))
