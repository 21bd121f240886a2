-- What holds of slots while entries are settled one after the other, and once all are.
use Rattle.std.proofs.Common.{◌≡◌, ℕ, suc, ◌+◌, ◌^◌, ◌≤◌, List, [], ◌∷◌, length, Bool, true, false, cond, Option, Some, None, Ok, Err, refl, sym, ap, subst, ◌∙◌, arith}
use Rattle.std.specs.Prelude.{slice_index, is_none, is_some}
use Rattle.std.specs.List.{list_all}
use Rattle.std.specs.Option.{option_or}
use Rattle.std.specs.Ordering.{is_lt}
use Rattle.std.proofs.lemmas.Bool.{and_parts, and_from}
use Rattle.val_types.specs.declared.value.Value.{Value}
use Rattle.val_types.specs.declared.definitions.TableDef.{TableDef}
use Rattle.val_types.specs.Order.{key_order}
use Rattle.val_types.specs.Keys.{primary_key, same_values}
use Rattle.table_rules.proofs.Taking.{Kept, same_is, same_self}
use Rattle.row_index.specs.block_list.Layouts.{flat}
use Rattle.row_index.specs.block_list.Spots.{place, IsFound}
use Rattle.row_index.specs.block_list.declared.spot.Spot.{Spot}
use Rattle.row_index.specs.row_sheets.Slots.{Slot, all_above, held, fill, with_slot, drop_slot, is_slot_of, is_not_before, keys_in, keys_rise, rows_in, row_slots, has_own_key, is_sound}
use Rattle.row_index.specs.row_sheets.Over.{over, settled_by}
use Rattle.row_index.specs.row_sheets.Orders.{by_key, slots_of, NumbersRise}
use Rattle.row_index.proofs.of_row_sheets.Over.{apart}
use Rattle.row_index.proofs.of_row_sheets.Orders.{found_at}
use Rattle.row_index.proofs.of_row_sheets.Held.{held-over, held_first, dropped_other}
use Rattle.row_index.proofs.of_row_sheets.Settling.{entry_stays, settled_rises}
use Rattle.table_sheet.specs.Numbered.{row_of, row_slot, are_numbered}
use Rattle.table_sheet.specs.Pages.{Holds, news}
use Rattle.table_sheet.specs.Settling.{taken_by, Settles}
use Rattle.table_sheet.proofs.Shown.{sound, is_sound_from, own_with, own_filled}
use Rattle.table_sheet.proofs.Entering.{one, over_one, over_there}
use Rattle.table_sheet.proofs.Slotted.{row_slot_is}

-- ---- slots dropped and put

-- where a key has no slot, none is dropped
pub dropped_none : (key : List Value) (ss : List Slot) → held key ss ≡ None → drop_slot key ss ≡ ss
dropped_none key [] none = refl
dropped_none key (s ∷ ss) none = step (is_slot_of key s) none (dropped_none key ss)
  where
    step : (here : Bool) → cond here (Some s.row) (held key ss) ≡ None → (held key ss ≡ None → drop_slot key ss ≡ ss) → cond here ss (s ∷ drop_slot key ss) ≡ s ∷ ss
    step true e later = cc
    step false e later = ap (λ (rest : List Slot). s ∷ rest) (later e)

-- the first slot dropped leaves the others
pub dropped_first : (s : Slot) (ss : List Slot) → drop_slot s.key (s ∷ ss) ≡ ss
dropped_first s ss = ap (λ (t : Bool). cond t ss (s ∷ drop_slot s.key ss)) (same_self s.key)

own_dropped : (d : TableDef) (key : List Value) (ss : List Slot) → list_all (has_own_key d) ss ≡ true → list_all (has_own_key d) (drop_slot key ss) ≡ true
own_dropped d key [] own = refl
own_dropped d key (s ∷ ss) own = step (is_slot_of key s) (and_parts (has_own_key d s) (list_all (has_own_key d) ss) own) (own_dropped d key ss)
  where
    step : (here : Bool) → (has_own_key d s ≡ true) × (list_all (has_own_key d) ss ≡ true) → (list_all (has_own_key d) ss ≡ true → list_all (has_own_key d) (drop_slot key ss) ≡ true)
        → list_all (has_own_key d) (cond here ss (s ∷ drop_slot key ss)) ≡ true
    step true both later = both.1
    step false both later = and_from (has_own_key d s) (list_all (has_own_key d) (drop_slot key ss)) both.0 (later both.1)

own_over : (d : TableDef) (key : List Value) (p : Option (List Value)) (cs : List Slot) (was : Option (Option (List Value))) → keys_rise (keys_in cs) ≡ true → held key cs ≡ was
    → has_own_key d (record { key = key; row = p }) ≡ true → list_all (has_own_key d) cs ≡ true → list_all (has_own_key d) (over (one key p) cs) ≡ true
own_over d key p cs None rises none new own = ap (list_all (has_own_key d)) (over_one key p cs rises none) ∙ own_filled d key p (with_slot key cs) new (own_with d key cs own)
own_over d key p cs (Some was) rises has new own = ap (list_all (has_own_key d)) (over_there key p was cs rises has) ∙ own_filled d key p cs new own

own_settled : (d : TableDef) (key : List Value) (p : Option (List Value)) (cs : List Slot) → keys_rise (keys_in cs) ≡ true → has_own_key d (record { key = key; row = p }) ≡ true
    → list_all (has_own_key d) cs ≡ true → list_all (has_own_key d) (settled_by key p cs) ≡ true
own_settled d key None cs rises new own = own_dropped d key cs own
own_settled d key (Some row) cs rises new own = own_over d key (Some row) cs (held key cs) rises refl new own

-- ---- how many there are

pub length-filled : (key : List Value) (p : Option (List Value)) (ss : List Slot) → length (fill key p ss) ≡ length ss
length-filled key p [] = refl
length-filled key p (s ∷ ss) = step (is_slot_of key s) (length-filled key p ss)
  where
    step : (here : Bool) → length (fill key p ss) ≡ length ss → length (cond here (record { key = s.key; row = p } ∷ ss) (s ∷ fill key p ss)) ≡ suc (length ss)
    step true later = refl
    step false later = ap suc later

pub length-with : (key : List Value) (ss : List Slot) → length (with_slot key ss) ≡ suc (length ss)
length-with key [] = refl
length-with key (s ∷ ss) = step (is_not_before key s) (length-with key ss)
  where
    step : (before : Bool) → length (with_slot key ss) ≡ suc (length ss) → length (cond before (record { key = key; row = None } ∷ s ∷ ss) (s ∷ with_slot key ss)) ≡ suc (suc (length ss))
    step true later = refl
    step false later = ap suc later

dropped_fewer : (key : List Value) (ss : List Slot) → length (drop_slot key ss) ≤ length ss
dropped_fewer key [] = omega arith
dropped_fewer key (s ∷ ss) = step (is_slot_of key s) (dropped_fewer key ss)
  where
    step : (here : Bool) → length (drop_slot key ss) ≤ length ss → length (cond here ss (s ∷ drop_slot key ss)) ≤ suc (length ss)
    step true later = omega arith
    step false later = omega (arith, later)

length-over : (key : List Value) (p : Option (List Value)) (cs : List Slot) (was : Option (Option (List Value))) → keys_rise (keys_in cs) ≡ true → held key cs ≡ was
    → length (over (one key p) cs) ≤ length cs + cond (is_none was) 1 0
length-over key p cs None rises none = omega (arith, ap length (over_one key p cs rises none), length-filled key p (with_slot key cs), length-with key cs)
length-over key p cs (Some was) rises has = omega (arith, ap length (over_there key p was cs rises has), length-filled key p cs)

pub length-settled : (key : List Value) (p : Option (List Value)) (cs : List Slot) → keys_rise (keys_in cs) ≡ true → length (settled_by key p cs) ≤ length cs + taken_by key cs
length-settled key None cs rises = omega (arith, dropped_fewer key cs)
length-settled key (Some row) cs rises = length-over key (Some row) cs (held key cs) rises refl

pub held_settled : (key other : List Value) (p : Option (List Value)) (cs : List Slot) → same_values other key ≡ false → held other (settled_by key p cs) ≡ held other cs
held_settled key other None cs e = dropped_other key other cs e
held_settled key other (Some row) cs e =
    held-over other (one key (Some row)) cs refl ∙ ap (λ (o : Option (Option (List Value))). option_or o (held other cs)) (ap (λ (t : Bool). cond t (Some (Some row)) None) e)

news_settled : (key : List Value) (p : Option (List Value)) (cs es : List Slot) → all_above key (keys_in es) ≡ true → news (settled_by key p cs) es ≡ news cs es
news_settled key p cs [] above = refl
news_settled key p cs (e ∷ es) above =
    let both = and_parts (is_lt (key_order key e.key)) (all_above key (keys_in es)) above in
    ap (λ (o : Option (Option (List Value))). cond (is_none o) (suc (news (settled_by key p cs) es)) (news (settled_by key p cs) es)) (held_settled key e.key p cs (apart key e.key both.0))
    ∙ ap (λ (n : ℕ). cond (is_none (held e.key cs)) (suc n) n) (news_settled key p cs es both.1)

taken_first : (t : Bool) (n : ℕ) → cond t (suc n) n ≡ cond t 1 0 + n
taken_first true n = omega arith
taken_first false n = omega arith

-- ---- one entry settled

module _ (d : TableDef) (cs es : List Slot) (space : ℕ) (s : Settles d cs es space) (key : List Value) (p : Option (List Value)) (rest : List Slot) (is : es ≡ record { key = key; row = p } ∷ rest) where
  rises : keys_rise (keys_in (record { key = key; row = p } ∷ rest)) ≡ true
  rises = ap (λ (xs : List Slot). keys_rise (keys_in xs)) (sym is) ∙ s.rising

  both_rise : (all_above key (keys_in rest) ≡ true) × (keys_rise (keys_in rest) ≡ true)
  both_rise = and_parts (all_above key (keys_in rest)) (keys_rise (keys_in rest)) rises

  both_own : (has_own_key d (record { key = key; row = p }) ≡ true) × (list_all (has_own_key d) rest ≡ true)
  both_own = and_parts (has_own_key d (record { key = key; row = p })) (list_all (has_own_key d) rest) (ap (list_all (has_own_key d)) (sym is) ∙ s.own)

  counted : news cs es ≡ taken_by key cs + news cs rest
  counted = ap (news cs) is ∙ taken_first (is_none (held key cs)) (news cs rest)

  pub first_own : has_own_key d (record { key = key; row = p }) ≡ true
  first_own = both_own.0

  pub first_room : taken_by key cs ≤ space
  first_room = omega (arith, counted, s.enough)

  pub first_few : length cs + taken_by key cs ≤ 2 ^ 32
  first_few = omega (arith, counted, s.few)

  pub next_settles : (more : ℕ) → space ≤ more + taken_by key cs → Settles d (settled_by key p cs) rest more
  next_settles more left = record {
    below = settled_rises key p cs s.below;
    own_below = own_settled d key p cs s.below both_own.0 s.own_below;
    rising = both_rise.1;
    own = both_own.1;
    enough = omega (arith, left, counted, s.enough, news_settled key p cs rest both_rise.0);
    few = omega (arith, counted, s.few, news_settled key p cs rest both_rise.0, length-settled key p cs s.below);
  }

  pub next_rows : rows_in (over rest (settled_by key p cs)) ≡ rows_in (over es cs)
  next_rows =
      ap (λ (xs : List Slot). rows_in (over xs (settled_by key p cs))) (sym (dropped_first (record { key = key; row = p }) rest))
      ∙ entry_stays key p (record { key = key; row = p } ∷ rest) cs rises s.below (held_first (record { key = key; row = p }) rest)
      ∙ ap (λ (xs : List Slot). rows_in (over xs cs)) (sym is)

-- ---- an entry by where its key was found among the committed rows

own_key : (d : TableDef) (key row : List Value) (p : Option (List Value)) → p ≡ Some row → has_own_key d (record { key = key; row = p }) ≡ true → key ≡ primary_key d row
own_key d key row p is own = same_is key (primary_key d row) (ap (λ (o : Option (List Value)). has_own_key d (record { key = key; row = o })) (sym is) ∙ own)

pub taken_none : (key : List Value) (cs : List Slot) → held key cs ≡ None → taken_by key cs ≡ 1
taken_none key cs none = ap (λ (o : Option (Option (List Value))). cond (is_none o) 1 0) none

-- where there is no committed row, one is put
pub put_settles : (d : TableDef) (key row : List Value) (p : Option (List Value)) (slot_at : ℕ → Slot) (blocks : List (List ℕ)) (spot : Spot) (new : List Slot) → p ≡ Some row → has_own_key d (record { key = key; row = p }) ≡ true
    → IsFound (by_key slot_at key) blocks (Err spot)
    → (IsFound (by_key slot_at (primary_key d row)) blocks (Err spot) → new ≡ over (one (primary_key d row) (Some row)) (slots_of slot_at (flat blocks)))
    → new ≡ settled_by key p (slots_of slot_at (flat blocks))
put_settles d key row p slot_at blocks spot new is own missing made =
    let same : key ≡ primary_key d row = own_key d key row p is own in
    made (subst (λ (k : List Value). IsFound (by_key slot_at k) blocks (Err spot)) same missing)
    ∙ ap (λ (k : List Value). over (one k (Some row)) (slots_of slot_at (flat blocks))) (sym same)
    ∙ ap (λ (o : Option (List Value)). settled_by key o (slots_of slot_at (flat blocks))) (sym is)

-- where there is one, another is put in its place
pub replaced_settles : (d : TableDef) (key row : List Value) (p : Option (List Value)) (slot_at : ℕ → Slot) (blocks : List (List ℕ)) (spot : Spot) (new : List Slot) → p ≡ Some row → has_own_key d (record { key = key; row = p }) ≡ true
    → NumbersRise slot_at (flat blocks) → IsFound (by_key slot_at key) blocks (Ok spot)
    → (IsFound (by_key slot_at (primary_key d row)) blocks (Ok spot) → new ≡ fill (primary_key d row) (Some row) (slots_of slot_at (flat blocks)))
    → new ≡ settled_by key p (slots_of slot_at (flat blocks))
replaced_settles d key row p slot_at blocks spot new is own rises found made =
    let same : key ≡ primary_key d row = own_key d key row p is own in
    made (subst (λ (k : List Value). IsFound (by_key slot_at k) blocks (Ok spot)) same found)
    ∙ ap (λ (k : List Value). fill k (Some row) (slots_of slot_at (flat blocks))) (sym same)
    ∙ sym (over_there key (Some row) (slot_at (slice_index (flat blocks) (place blocks spot))).row (slots_of slot_at (flat blocks)) rises (found_at slot_at key blocks spot rises found))
    ∙ ap (λ (o : Option (List Value)). settled_by key o (slots_of slot_at (flat blocks))) (sym is)

-- where there is none, none is taken out
pub nothing_settles : (key : List Value) (p : Option (List Value)) (cs : List Slot) → p ≡ None → held key cs ≡ None → cs ≡ settled_by key p cs
nothing_settles key p cs is none = sym (dropped_none key cs none) ∙ ap (λ (o : Option (List Value)). settled_by key o cs) (sym is)

-- ---- before the first, and behind the last

pub settles_first : (d : TableDef) (cs es : List Slot) (space fresh : ℕ) → Holds d cs es space fresh → Settles d cs es space
settles_first d cs es space fresh h = record {
  below = (sound d cs h.whole).rising;
  own_below = (sound d cs h.whole).own;
  rising = h.rising;
  own = h.own;
  enough = omega (arith, h.counted, h.enough);
  few = omega (arith, h.counted, h.few);
}

pub settled_holds : (d : TableDef) (cs es : List Slot) (space fresh : ℕ) → Holds d cs es space fresh → (now left : List Slot) (more : ℕ) → Settles d now left more → rows_in now ≡ rows_in (over es cs)
    → (none : List Slot) → none ≡ [] → (fresh_now : ℕ) → fresh_now ≡ 0 → (space_now : ℕ) → Holds d now none space_now fresh_now
settled_holds d cs es space fresh h now left more s rows none empty fresh_now none_fresh space_now =
    subst (λ (xs : List Slot). Holds d now xs space_now fresh_now) (sym empty) (subst (λ (n : ℕ). Holds d now [] space_now n) (sym none_fresh) holds)
  where
    whole : is_sound d now ≡ true
    whole = is_sound_from d now (record {
      rising = s.below;
      own = s.own_below;
      kept = subst (λ (rs : List (List Value)). Kept d rs) (sym rows) (sound d (over es cs) h.sound).kept;
    })

    holds : Holds d now [] space_now 0
    holds = record { whole = whole; rising = refl; own = refl; sound = whole; counted = refl; enough = omega arith; few = omega (arith, s.few) }

-- committed slots are those of their rows
pub full_slots : (d : TableDef) (rows : List (Option (List Value))) (ns : List ℕ) → are_numbered rows ns ≡ true
    → slots_of (row_slot d rows) ns ≡ row_slots d (rows_in (slots_of (row_slot d rows) ns))
full_slots d rows [] numbered = refl
full_slots d rows (n ∷ ns) numbered =
    let both = and_parts (is_some (row_of rows n)) (are_numbered rows ns) numbered in
    step (row_of rows n) refl both.0 (full_slots d rows ns both.1)
  where
    step : (o : Option (List Value)) → row_of rows n ≡ o → is_some o ≡ true → slots_of (row_slot d rows) ns ≡ row_slots d (rows_in (slots_of (row_slot d rows) ns))
        → row_slot d rows n ∷ slots_of (row_slot d rows) ns ≡ row_slots d (rows_in (row_slot d rows n ∷ slots_of (row_slot d rows) ns))
    step None is some later = cc
    step (Some row) is some later =
        let slot : row_slot d rows n ≡ record { key = primary_key d row; row = Some row } = sym (row_slot_is d rows n (Some row) (sym is)) in
        ap (λ (s : Slot). s ∷ slots_of (row_slot d rows) ns) slot
        ∙ ap (λ (rest : List Slot). record { key = primary_key d row; row = Some row } ∷ rest) later
        ∙ ap (λ (s : Slot). row_slots d (rows_in (s ∷ slots_of (row_slot d rows) ns))) (sym slot)
