-- How many rows entries over committed ones show.
use Rattle.std.proofs.Common.{◌≡◌, ℕ, suc, ◌+◌, ◌≤◌, List, [], ◌∷◌, ◌++◌, length, drop, Bool, true, false, ◌&&◌, cond, Option, Some, None, Ordering, Less, Equal, Greater, refl, sym, ap, ◌∙◌, add-one, arith}
use Rattle.std.specs.Prelude.{slice_get, is_none, is_some, option_to_list}
use Rattle.std.specs.List.{list_all}
use Rattle.std.specs.Option.{option_map, option_and_then}
use Rattle.std.specs.Ordering.{is_lt}
use Rattle.std.proofs.lemmas.Bool.{and_parts, and_from}
use Rattle.val_types.specs.declared.value.Value.{Value}
use Rattle.val_types.specs.declared.definitions.TableDef.{TableDef}
use Rattle.val_types.specs.Order.{key_order}
use Rattle.val_types.specs.Keys.{primary_key}
use Rattle.row_index.specs.block_list.Layouts.{flat}
use Rattle.row_index.specs.row_sheets.Slots.{Slot, all_above, held, with_slot, drop_slot, is_slot_of, keys_in, keys_rise, rows_in}
use Rattle.row_index.specs.row_sheets.Over.{by_order, over_step, over, settled_by}
use Rattle.row_index.specs.row_sheets.Orders.{slots_of}
use Rattle.row_index.proofs.of_row_sheets.Over.{apart}
use Rattle.row_index.proofs.of_row_sheets.Held.{held_first}
use Rattle.row_index.proofs.of_row_sheets.Settling.{entry_stays, settled_rises}
use Rattle.table_sheet.specs.declared.committed.Committed.{Committed}
use Rattle.table_sheet.specs.declared.entry.Entry.{Entry}
use Rattle.table_sheet.specs.declared.overlay.Overlay.{Overlay}
use Rattle.table_sheet.specs.Counts.{one_if, puts, takes}
use Rattle.table_sheet.specs.Numbered.{row_of, row_slot, are_numbered}
use Rattle.table_sheet.specs.Parts.{committed_slots, entry_slots}
use Rattle.table_sheet.proofs.Entering.{one, over_one, over_there}
use Rattle.table_sheet.proofs.Looking.{row_here}
use Rattle.table_sheet.proofs.Passing.{entry_next}
use Rattle.table_sheet.proofs.Steps.{dropped_none, dropped_first, length-filled, length-with, held_settled}

-- ---- slots that all have rows

abbrev all_full : List Slot → Bool
all_full ss = list_all (λ s. is_some s.row) ss

pub committed_full : (d : TableDef) (rows : List (Option (List Value))) (ns : List ℕ) → are_numbered rows ns ≡ true → list_all (λ s. is_some s.row) (slots_of (row_slot d rows) ns) ≡ true
committed_full d rows [] numbered = refl
committed_full d rows (n ∷ ns) numbered =
    let both = and_parts (is_some (row_of rows n)) (are_numbered rows ns) numbered in
    and_from (is_some (row_slot d rows n).row) (all_full (slots_of (row_slot d rows) ns)) (ap (λ (o : Option (List Value)). is_some o) (row_here d rows n (row_of rows n) refl) ∙ both.0) (committed_full d rows ns both.1)

rows_of_full : (ss : List Slot) → all_full ss ≡ true → length (rows_in ss) ≡ length ss
rows_of_full [] full = refl
rows_of_full (s ∷ ss) full =
    let both = and_parts (is_some s.row) (all_full ss) full in step s.row both.0 (rows_of_full ss both.1)
  where
    step : (o : Option (List Value)) → is_some o ≡ true → length (rows_in ss) ≡ length ss → length (option_to_list o ++ rows_in ss) ≡ suc (length ss)
    step None some later = cc
    step (Some row) some later = ap suc later

full_dropped : (key : List Value) (ss : List Slot) → all_full ss ≡ true → all_full (drop_slot key ss) ≡ true
full_dropped key [] full = refl
full_dropped key (s ∷ ss) full = step (is_slot_of key s) (and_parts (is_some s.row) (all_full ss) full) (full_dropped key ss)
  where
    step : (here : Bool) → (is_some s.row ≡ true) × (all_full ss ≡ true) → (all_full ss ≡ true → all_full (drop_slot key ss) ≡ true) → all_full (cond here ss (s ∷ drop_slot key ss)) ≡ true
    step true both later = both.1
    step false both later = and_from (is_some s.row) (all_full (drop_slot key ss)) both.0 (later both.1)

full_over : (key row : List Value) (cs : List Slot) → all_full cs ≡ true → all_full (over (one key (Some row)) cs) ≡ true
full_over key row [] full = refl
full_over key row (c ∷ cs) full = step (key_order key c.key) (and_parts (is_some c.row) (all_full cs) full) (full_over key row cs)
  where
    step : (o : Ordering) → (is_some c.row ≡ true) × (all_full cs ≡ true) → (all_full cs ≡ true → all_full (over_step (record { key = key; row = Some row }) (over []) cs) ≡ true)
        → all_full (by_order o (record { key = key; row = Some row } ∷ c ∷ cs) (record { key = key; row = Some row } ∷ cs) (c ∷ over_step (record { key = key; row = Some row }) (over []) cs)) ≡ true
    step Less both later = and_from (is_some c.row) (all_full cs) both.0 both.1
    step Equal both later = both.1
    step Greater both later = and_from (is_some c.row) (all_full (over_step (record { key = key; row = Some row }) (over []) cs)) both.0 (later both.1)

full_settled : (key : List Value) (p : Option (List Value)) (cs : List Slot) → all_full cs ≡ true → all_full (settled_by key p cs) ≡ true
full_settled key None cs full = full_dropped key cs full
full_settled key (Some row) cs full = full_over key row cs full

-- ---- one entry

dropped_by_one : (key : List Value) (ss : List Slot) (p : Option (List Value)) → held key ss ≡ Some p → length (drop_slot key ss) + 1 ≡ length ss
dropped_by_one key [] p has = cc
dropped_by_one key (s ∷ ss) p has = step (is_slot_of key s) has (λ later. dropped_by_one key ss p later)
  where
    step : (here : Bool) → cond here (Some s.row) (held key ss) ≡ Some p → (held key ss ≡ Some p → length (drop_slot key ss) + 1 ≡ length ss)
        → length (cond here ss (s ∷ drop_slot key ss)) + 1 ≡ suc (length ss)
    step true e later = omega arith
    step false e later = omega (arith, later e)

one_settled : (key : List Value) (p : Option (List Value)) (cs : List Slot) (was : Option (Option (List Value))) → keys_rise (keys_in cs) ≡ true → held key cs ≡ was
    → length (settled_by key p cs) + one_if (is_none p && is_some was) ≡ length cs + one_if (is_some p && is_none was)
one_settled key None cs None rises has = ap (λ (ss : List Slot). length ss + 0) (dropped_none key cs has)
one_settled key None cs (Some was) rises has = omega (arith, dropped_by_one key cs was has)
one_settled key (Some row) cs None rises has =
    omega (arith, ap length (over_one key (Some row) cs rises has), length-filled key (Some row) (with_slot key cs), length-with key cs)
one_settled key (Some row) cs (Some was) rises has = omega (arith, ap length (over_there key (Some row) was cs rises has), length-filled key (Some row) cs)

-- later entries put and take the same
module _ (key : List Value) (p : Option (List Value)) (cs : List Slot) where
  puts_settled : (es : List Slot) → all_above key (keys_in es) ≡ true → puts (settled_by key p cs) es ≡ puts cs es
  puts_settled [] above = refl
  puts_settled (e ∷ es) above =
      let both = and_parts (is_lt (key_order key e.key)) (all_above key (keys_in es)) above in
      ap (λ (o : Option (Option (List Value))). one_if (is_some e.row && is_none o) + puts (settled_by key p cs) es) (held_settled key e.key p cs (apart key e.key both.0))
      ∙ ap (λ (n : ℕ). one_if (is_some e.row && is_none (held e.key cs)) + n) (puts_settled es both.1)

  takes_settled : (es : List Slot) → all_above key (keys_in es) ≡ true → takes (settled_by key p cs) es ≡ takes cs es
  takes_settled [] above = refl
  takes_settled (e ∷ es) above =
      let both = and_parts (is_lt (key_order key e.key)) (all_above key (keys_in es)) above in
      ap (λ (o : Option (Option (List Value))). one_if (is_none e.row && is_some o) + takes (settled_by key p cs) es) (held_settled key e.key p cs (apart key e.key both.0))
      ∙ ap (λ (n : ℕ). one_if (is_none e.row && is_some (held e.key cs)) + n) (takes_settled es both.1)

-- ---- all of them

pub shown_count : (es cs : List Slot) → keys_rise (keys_in es) ≡ true → keys_rise (keys_in cs) ≡ true → list_all (λ s. is_some s.row) cs ≡ true
    → length (rows_in (over es cs)) + takes cs es ≡ length cs + puts cs es
shown_count [] cs rise_es rise_cs full = ap (λ (n : ℕ). n + 0) (rows_of_full cs full)
shown_count (e ∷ es) cs rise_es rise_cs full =
    let both = and_parts (all_above e.key (keys_in es)) (keys_rise (keys_in es)) rise_es in
    let later : length (rows_in (over es (settled_by e.key e.row cs))) + takes (settled_by e.key e.row cs) es ≡ length (settled_by e.key e.row cs) + puts (settled_by e.key e.row cs) es =
    shown_count es (settled_by e.key e.row cs) both.1 (settled_rises e.key e.row cs rise_cs) (full_settled e.key e.row cs full) in
    let rows : rows_in (over es (settled_by e.key e.row cs)) ≡ rows_in (over (e ∷ es) cs) =
    ap (λ (xs : List Slot). rows_in (over xs (settled_by e.key e.row cs))) (sym (dropped_first e es)) ∙ entry_stays e.key e.row (e ∷ es) cs rise_es rise_cs (held_first e es) in
    omega (arith, later, ap length rows, puts_settled e.key e.row cs es both.0, takes_settled e.key e.row cs es both.0, one_settled e.key e.row cs (held e.key cs) rise_cs refl)

one_at_most : (b : Bool) → one_if b ≤ 1
one_at_most true = omega arith
one_at_most false = omega arith

pub puts_few : (cs es : List Slot) → puts cs es ≤ length es
puts_few cs [] = omega arith
puts_few cs (e ∷ es) = omega (arith, one_at_most (is_some e.row && is_none (held e.key cs)), puts_few cs es)

pub takes_few : (cs es : List Slot) → takes cs es ≤ length es
takes_few cs [] = omega arith
takes_few cs (e ∷ es) = omega (arith, one_at_most (is_none e.row && is_some (held e.key cs)), takes_few cs es)

-- ---- the entry at a spot

none_same : (o : Option (List Value)) → is_none (option_map (λ (row : List Value). Some row) o) ≡ is_none o
none_same None = refl
none_same (Some row) = refl

some_same : (o : Option (List Value)) → is_some (option_map (λ (row : List Value). Some row) o) ≡ is_some o
some_same None = refl
some_same (Some row) = refl

module _ (d : TableDef) (c : Committed) (o : Overlay) (i : ℕ) (entry : Entry) (bearer : List Value) (below : Option (List Value))
    (here : Some entry ≡ option_and_then (slice_get o.entries.items) (slice_get (flat o.ranks.blocks) i)) (own : bearer ≡ entry.bearer)
    (has : held (primary_key d bearer) (committed_slots d c) ≡ option_map (λ row. Some row) below) where
  at_key : held (primary_key d entry.bearer) (committed_slots d c) ≡ option_map (λ row. Some row) below
  at_key = ap (λ (b : List Value). held (primary_key d b) (committed_slots d c)) (sym own) ∙ has

  -- what it puts, and those behind it
  pub puts_next : puts (committed_slots d c) (drop i (entry_slots d o)) ≡ one_if (is_some entry.present && is_none below) + puts (committed_slots d c) (drop (suc i) (entry_slots d o))
  puts_next =
      ap (puts (committed_slots d c)) (entry_next d o i entry here)
      ∙ ap (λ (b : Bool). one_if (is_some entry.present && b) + puts (committed_slots d c) (drop (suc i) (entry_slots d o))) (ap (λ (p : Option (Option (List Value))). is_none p) at_key ∙ none_same below)

  -- and what it takes
  pub takes_next : takes (committed_slots d c) (drop i (entry_slots d o)) ≡ one_if (is_none entry.present && is_some below) + takes (committed_slots d c) (drop (suc i) (entry_slots d o))
  takes_next =
      ap (takes (committed_slots d c)) (entry_next d o i entry here)
      ∙ ap (λ (b : Bool). one_if (is_none entry.present && b) + takes (committed_slots d c) (drop (suc i) (entry_slots d o))) (ap (λ (p : Option (Option (List Value))). is_some p) at_key ∙ some_same below)

-- ---- sums over the entries from a place on

pub sum_next : (sum : List Slot → ℕ) (es : List Slot) (i next so_far one_more : ℕ) → so_far + sum (drop i es) ≡ sum es → next ≡ i + 1 → sum (drop i es) ≡ one_more + sum (drop (suc i) es)
    → so_far + one_more + sum (drop next es) ≡ sum es
sum_next sum es i next so_far one_more before is here =
    let later : sum (drop next es) ≡ sum (drop (suc i) es) = ap (λ (k : ℕ). sum (drop k es)) (is ∙ add-one i) in omega (arith, before, here, later)

pub sum_end : (sum : List Slot → ℕ) (es : List Slot) (i so_far : ℕ) → so_far + sum (drop i es) ≡ sum es → sum (drop i es) ≡ 0 → so_far ≡ sum es
sum_end sum es i so_far before none = omega (arith, before, none)
