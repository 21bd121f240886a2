-- The indexes beside entries, where an entry is given another row or none, and where one is made.
use Rattle.std.proofs.Common.{◌≡◌, ◌≢◌, ℕ, zero, suc, ◌+◌, ◌<◌, ◌≤◌, ◌^◌, List, [], ◌∷◌, ◌++◌, length, Bool, true, false, Option, Some, None, Ok, Ordering, Less, Equal, Greater, refl, sym, ap, subst, ◌∙◌, arith}
use Rattle.std.specs.Prelude.{slice_get, slice_index, insert}
use Rattle.std.specs.Option.{option_and_then, option_or}
use Rattle.std.specs.Ordering.{is_eq}
use Rattle.std.proofs.lemmas.List.{length-map}
use Rattle.std.proofs.lemmas.Option.{slice_get_within}
use Rattle.val_types.specs.declared.value.Value.{Value}
use Rattle.val_types.specs.declared.definitions.KeyDef.{KeyDef}
use Rattle.val_types.specs.declared.definitions.TableDef.{TableDef}
use Rattle.val_types.specs.Keys.{same_values}
use Rattle.val_types.specs.Order.{key_order}
use Rattle.table_rules.proofs.Taking.{same_is, same_self}
use Rattle.row_index.specs.block_list.Layouts.{Layout, flat, holds}
use Rattle.row_index.specs.block_list.Spots.{place, IsAt, IsFound}
use Rattle.row_index.specs.block_list.declared.spot.Spot.{Spot}
use Rattle.row_index.specs.row_sheets.Slots.{Slot, held, fill, keys_in, keys_rise, rows_in}
use Rattle.row_index.specs.row_sheets.Claims.{AreApart}
use Rattle.row_index.specs.row_sheets.Over.{over}
use Rattle.row_index.specs.row_sheets.Orders.{by_key, slots_of, NumbersRise}
use Rattle.row_index.proofs.of_row_sheets.Held.{held-over, rises-over}
use Rattle.row_index.proofs.of_row_sheets.Claims.{filled_self}
use Rattle.row_index.specs.row_indexes.Indexes.{IsIndexOf}
use Rattle.row_index.specs.row_indexes.IndexLaws.{DifferAt}
use Rattle.row_index.proofs.of_row_indexes.Indexing.{nothing_indexed}
use Rattle.row_index.specs.Numbers.{number_slot, number_slots, CanPut}
use Rattle.row_index.specs.Lists.{list_at, numbers_at, AllHold, AreIndexes, CanPutInAll, KeepsNumbers, OfEach}
use Rattle.row_index.proofs.Members.{slot_held, mapped, IsOfRow, is_of_row, slots_same, index_is_few}
use Rattle.row_index.proofs.Changing.{apart_among, rows_few, rows_fewer, emptied_differs, filled_differs, not_numbered}
use Rattle.table_sheet.specs.declared.entry.Entry.{Entry}
use Rattle.table_sheet.specs.Ranked.{entry_slot, shown_by}
use Rattle.table_sheet.specs.Indexed.{AreAllApart, AreEntered, AreKept, AreLeft}
use Rattle.table_sheet.proofs.Slotted.{entry_slot_is, pushed_at_end, number_here, number_at}
use Rattle.table_sheet.proofs.Steps.{length-filled}
use Rattle.table_sheet.proofs.Moving.{left_index, left_holds, entered_index, entered_holds}

-- the numbers of each list rise
pub all_rise : (us : List KeyDef) (row_at : ℕ → Option (List Value)) (lists : List Layout) (rows : List (List Value)) → AreIndexes us row_at lists rows
    → OfEach us (λ which u. NumbersRise (number_slot u row_at) (numbers_at lists which))
all_rise us row_at lists rows are = λ which u e. (are which u e).rising

pub all_rise_of : (x d : TableDef) → x ≡ d → (row_at : ℕ → Option (List Value)) (lists : List Layout) (rows : List (List Value)) (count : ℕ) → AreKept d.uniques row_at lists rows count
    → OfEach x.uniques (λ which u. NumbersRise (number_slot u row_at) (numbers_at lists which))
all_rise_of x d same row_at lists rows count kept =
    subst (λ (y : TableDef). OfEach y.uniques (λ which u. NumbersRise (number_slot u row_at) (numbers_at lists which))) (sym same) (all_rise d.uniques row_at lists rows kept.indexes)

-- so many numbers fewer than a list holds can be put
pub can_put : (u : KeyDef) (row_at : ℕ → Option (List Value)) (l : Layout) (rows : List (List Value)) (most : ℕ) → IsIndexOf u (number_slots u row_at (flat l.blocks)) rows → length rows < most → most ≤ holds l → most ≤ 2 ^ 32
    → CanPut u row_at l
can_put u row_at l rows most are less hold few = record { rise = are.rising; room = omega (arith, count, less, hold); few = omega (arith, count, less, few) }
  where
    count : length (flat l.blocks) ≤ length rows
    count = omega (arith, index_is_few u (number_slots u row_at (flat l.blocks)) rows are, length-map (flat l.blocks) (number_slot u row_at))

-- ---- what an entry shows

shown_is : (d : TableDef) (entries : List Entry) (n : ℕ) → (entry_slot d entries n).row ≡ shown_by entries n
shown_is d entries n = at (slice_get entries n) refl
  where
    at : (o : Option Entry) → o ≡ slice_get entries n → (entry_slot d entries n).row ≡ shown_by entries n
    at None e = sym (ap (λ (s : Slot). s.row) (entry_slot_is d entries n None e)) ∙ ap (option_and_then (λ (entry : Entry). entry.present)) e
    at (Some entry) e = sym (ap (λ (s : Slot). s.row) (entry_slot_is d entries n (Some entry) e)) ∙ ap (option_and_then (λ (entry : Entry). entry.present)) e

eq_is : (o : Ordering) → is_eq o ≡ true → o ≡ Equal
eq_is Less e = cc
eq_is Equal e = refl
eq_is Greater e = cc

-- ---- an entry given another row

module _ (d : TableDef) (items items' : List Entry) (blocks : List (List ℕ)) (spot : Spot) (n : ℕ) (p : Option (List Value)) (at : IsAt blocks spot) (is : slice_get (flat blocks) (place blocks spot) ≡ Some n)
    (rises : NumbersRise (entry_slot d items) (flat blocks)) (apart : AreAllApart d.uniques (slots_of (entry_slot d items) (flat blocks)))
    (there : shown_by items' n ≡ p) (others : (m : ℕ) → m ≢ n → shown_by items' m ≡ shown_by items m) (few : length (flat blocks) ≤ 2 ^ 32)
    (lists lists1 : List Layout) (kept : AreKept d.uniques (shown_by items) lists (rows_in (slots_of (entry_slot d items) (flat blocks))) (length (flat blocks)))
    (left : AreLeft d.uniques (shown_by items) (shown_by items n) lists lists1) where
  abbrev es : List Slot
  es = slots_of (entry_slot d items) (flat blocks)

  abbrev key : List Value
  key = (entry_slot d items n).key

  has : held key es ≡ Some (shown_by items n)
  has = slot_held es (place blocks spot) (entry_slot d items n) rises (mapped (entry_slot d items) (flat blocks) (place blocks spot) n is) ∙ ap (λ (o : Option (List Value)). Some o) (shown_is d items n)

  emptied : held key (fill key None es) ≡ Some None
  emptied = filled_self key None (shown_by items n) es has

  -- its key is found where it stands
  pub key_found : IsFound (by_key (entry_slot d items) key) blocks (Ok spot)
  key_found =
      let both : Some (slice_index (flat blocks) (place blocks spot)) ≡ Some n = sym (number_here blocks spot at) ∙ is in
      let same : slice_index (flat blocks) (place blocks spot) ≡ n = cc in
      (at, ap (λ (m : ℕ). key_order (entry_slot d items m).key key) same ∙ eq_is (key_order key key) (same_self key))

  module _ (which : ℕ) (u : KeyDef) (e : slice_get d.uniques which ≡ Some u) where
    left_out : IsIndexOf u (number_slots u (shown_by items) (numbers_at lists1 which)) (rows_in (fill key None es))
    left_out =
        left_index u (shown_by items) key es (fill key None es) (list_at lists which) (list_at lists1 which) (emptied_differs u key es rises (apart which u e) (shown_by items n) has) (shown_by items n) (left which u e)
        (ap (option_and_then (λ (r : Option (List Value)). r)) has) (ap (option_and_then (λ (r : Option (List Value)). r)) emptied) (kept.indexes which u e)

    same : (i m : ℕ) → slice_get (numbers_at lists1 which) i ≡ Some m → shown_by items' m ≡ shown_by items m
    same i m here =
        others m (λ equal. not_numbered u key es rises (apart which u e) (shown_by items) (numbers_at lists1 which) n i (shown_by items n) has refl left_out (here ∙ ap (λ (k : ℕ). Some k) equal))

    now : IsIndexOf u (number_slots u (shown_by items') (numbers_at lists1 which)) (rows_in (fill key None es))
    now = subst (λ (ss : List Slot). IsIndexOf u ss (rows_in (fill key None es))) (sym (slots_same u (shown_by items) (shown_by items') (numbers_at lists1 which) same)) left_out

    held_as : holds (list_at lists1 which) ≡ holds (list_at lists which)
    held_as = left_holds u (shown_by items) (shown_by items n) (list_at lists which) (list_at lists1 which) (left which u e)

    can_one : CanPut u (shown_by items') (list_at lists1 which)
    can_one =
        can_put u (shown_by items') (list_at lists1 which) (rows_in (fill key None es)) (length (flat blocks)) now
        (omega (arith, rows_fewer key (fill key None es) emptied, length-filled key None es, length-map (flat blocks) (entry_slot d items))) (omega (arith, kept.hold which u e, held_as)) few

    put_in : (lists2 : List Layout) → AreEntered d.uniques (shown_by items') (shown_by items' n) lists1 lists2 → AreApart u (fill key p es)
        → IsIndexOf u (number_slots u (shown_by items') (numbers_at lists2 which)) (rows_in (fill key p es))
    put_in lists2 entered apart_now =
        entered_index u (shown_by items') key (fill key None es) (fill key p es) (list_at lists1 which) (list_at lists2 which) (filled_differs u key es rises (apart which u e) (shown_by items n) p has apart_now) (shown_by items' n) (entered which u e)
        (ap (option_and_then (λ (r : Option (List Value)). r)) emptied) (ap (option_and_then (λ (r : Option (List Value)). r)) (filled_self key p (shown_by items n) es has) ∙ sym there) now

  pub fill_can : CanPutInAll d.uniques (shown_by items') lists1
  fill_can = λ which u e. can_one which u e

  pub fill_kept : (lists2 : List Layout) → AreEntered d.uniques (shown_by items') (shown_by items' n) lists1 lists2 → AreAllApart d.uniques (fill key p es)
      → AreKept d.uniques (shown_by items') lists2 (rows_in (fill key p es)) (length (flat blocks))
  fill_kept lists2 entered apart_now = record {
    indexes = λ which u e. put_in which u e lists2 entered (apart_now which u e);
    hold = λ which u e. omega (arith, kept.hold which u e, held_as which u e, entered_holds u (shown_by items') (shown_by items' n) (list_at lists1 which) (list_at lists2 which) (entered which u e));
  }

-- the same by the steps of the code
module _ (x d : TableDef) (same : x ≡ d) (items items' : List Entry) (blocks blocks' : List (List ℕ)) (spot : Spot) (n : ℕ) (p : Option (List Value)) (at : IsAt blocks spot) (is : Some n ≡ slice_get (flat blocks) (place blocks spot))
    (rises : NumbersRise (entry_slot d items) (flat blocks)) (apart : AreAllApart d.uniques (slots_of (entry_slot d items) (flat blocks)))
    (there : shown_by items' (slice_index (flat blocks) (place blocks spot)) ≡ p) (others : (m : ℕ) → m ≢ slice_index (flat blocks) (place blocks spot) → shown_by items' m ≡ shown_by items m) (few : length (flat blocks) ≤ 2 ^ 32)
    (lists lists1 now : List Layout) (kept : AreKept d.uniques (shown_by items) lists (rows_in (slots_of (entry_slot d items) (flat blocks))) (length (flat blocks)))
    (left : AreLeft x.uniques (shown_by items) (shown_by items n) lists lists1) (still : now ≡ lists1) where
  number : slice_index (flat blocks) (place blocks spot) ≡ n
  number = number_at blocks spot n at (sym is)

  there_n : shown_by items' n ≡ p
  there_n = ap (shown_by items') (sym number) ∙ there

  others_n : (m : ℕ) → m ≢ n → shown_by items' m ≡ shown_by items m
  others_n m differs = others m (λ e. differs (e ∙ number))

  left_d : AreLeft d.uniques (shown_by items) (shown_by items n) lists now
  left_d = subst (AreLeft d.uniques (shown_by items) (shown_by items n) lists) (sym still) (subst (λ (y : TableDef). AreLeft y.uniques (shown_by items) (shown_by items n) lists lists1) same left)

  pub filled_can : CanPutInAll x.uniques (shown_by items') now
  filled_can = subst (λ (y : TableDef). CanPutInAll y.uniques (shown_by items') now) (sym same) (fill_can d items items' blocks spot n p at (sym is) rises apart there_n others_n few lists now kept left_d)

  pub filled_above : (lists2 : List Layout) → AreEntered x.uniques (shown_by items') (shown_by items' n) now lists2 → blocks' ≡ blocks
      → ((e : TableDef) (key : List Value) → NumbersRise (entry_slot e items) (flat blocks) → IsFound (by_key (entry_slot e items) key) blocks (Ok spot)
      → slots_of (entry_slot e items') (flat blocks') ≡ fill key p (slots_of (entry_slot e items) (flat blocks)))
      → AreAllApart d.uniques (slots_of (entry_slot d items') (flat blocks'))
      → AreKept d.uniques (shown_by items') lists2 (rows_in (slots_of (entry_slot d items') (flat blocks'))) (length (flat blocks'))
  filled_above lists2 entered ranks filled apart_now =
      let slots : slots_of (entry_slot d items') (flat blocks') ≡ fill (entry_slot d items n).key p (slots_of (entry_slot d items) (flat blocks)) =
      filled d (entry_slot d items n).key rises (key_found d items items' blocks spot n p at (sym is) rises apart there_n others_n few lists now kept left_d) in
      subst (λ (bs : List (List ℕ)). AreKept d.uniques (shown_by items') lists2 (rows_in (slots_of (entry_slot d items') (flat blocks'))) (length (flat bs))) (sym ranks)
      (subst (λ (ss : List Slot). AreKept d.uniques (shown_by items') lists2 (rows_in ss) (length (flat blocks))) (sym slots)
      (fill_kept d items items' blocks spot n p at (sym is) rises apart there_n others_n few lists now kept left_d lists2 (subst (λ (y : TableDef). AreEntered y.uniques (shown_by items') (shown_by items' n) now lists2) same entered) (subst (AreAllApart d.uniques) slots apart_now)))

-- ---- an entry made

shown_before : (items : List Entry) (entry : Entry) (m : ℕ) (row : List Value) → shown_by items m ≡ Some row → shown_by (items ++ entry ∷ []) m ≡ shown_by items m
shown_before [] entry m row e = cc
shown_before (x ∷ items) entry zero row e = refl
shown_before (x ∷ items) entry (suc m) row e = shown_before items entry m row e

shown_last : (items : List Entry) (entry : Entry) (n : ℕ) → n ≡ length items → shown_by (items ++ entry ∷ []) n ≡ entry.present
shown_last items entry n e = ap (option_and_then (λ (x : Entry). x.present)) (pushed_at_end items entry n e)

abbrev one : List Value → Option (List Value) → List Slot
one key p = record { key = key; row = p } ∷ []

one_self : (key : List Value) (p : Option (List Value)) → held key (one key p) ≡ Some p
one_self key p = rw (same_self key) refl

one_other : (key other : List Value) (p : Option (List Value)) → same_values other key ≡ false → held other (one key p) ≡ None
one_other key other p e = rw e refl

-- a slot of a key that has none
module _ (u : KeyDef) (key : List Value) (p : Option (List Value)) (es : List Slot) (rises : keys_rise (keys_in es) ≡ true) (missing : held key es ≡ None) (apart : AreApart u (over (one key p) es)) where
  over_self : held key (over (one key p) es) ≡ Some p
  over_self = held-over key (one key p) es refl ∙ ap (λ (o : Option (Option (List Value))). option_or o (held key es)) (one_self key p)

  over_other : (k : List Value) → same_values k key ≡ false → held k (over (one key p) es) ≡ held k es
  over_other k e = held-over k (one key p) es refl ∙ ap (λ (o : Option (Option (List Value))). option_or o (held k es)) (one_other key k p e)

  among : (k row : List Value) → held k es ≡ Some (Some row) → held k (over (one key p) es) ≡ Some (Some row)
  among k row has = step (same_values k key) refl
    where
      step : (here : Bool) → same_values k key ≡ here → held k (over (one key p) es) ≡ Some (Some row)
      step true e = let never : None ≡ Some (Some row) = sym missing ∙ ap (λ (x : List Value). held x es) (sym (same_is k key e)) ∙ has in cc
      step false e = over_other k e ∙ has

  pub made_differs : DifferAt u key es (over (one key p) es)
  made_differs = record {
    old_rises = rises;
    new_rises = rises-over (one key p) es refl rises;
    old_apart = apart_among u es (over (one key p) es) among apart;
    new_apart = apart;
    beside = over_other;
  }

module _ (d : TableDef) (items : List Entry) (entry : Entry) (blocks : List (List ℕ)) (n : ℕ) (number : n ≡ length items) (rises : NumbersRise (entry_slot d items) (flat blocks)) (most : ℕ) (more : length (flat blocks) < most) (few : most ≤ 2 ^ 32)
    (lists : List Layout) (indexes : AreIndexes d.uniques (shown_by items) lists (rows_in (slots_of (entry_slot d items) (flat blocks)))) (hold : AllHold d.uniques lists most) where
  abbrev ss : List Slot
  ss = slots_of (entry_slot d items) (flat blocks)

  abbrev items_now : List Entry
  items_now = items ++ entry ∷ []

  module _ (which : ℕ) (u : KeyDef) (e : slice_get d.uniques which ≡ Some u) where
    stays : (i m : ℕ) → slice_get (numbers_at lists which) i ≡ Some m → shown_by items_now m ≡ shown_by items m
    stays i m here =
        let of : IsOfRow u (shown_by items) (rows_in ss) m = is_of_row u (shown_by items) (numbers_at lists which) (rows_in ss) i m (indexes which u e) here in
        shown_before items entry m of.row of.there

    now_index : IsIndexOf u (number_slots u (shown_by items_now) (numbers_at lists which)) (rows_in ss)
    now_index = subst (λ (xs : List Slot). IsIndexOf u xs (rows_in ss)) (sym (slots_same u (shown_by items) (shown_by items_now) (numbers_at lists which) stays)) (indexes which u e)

    can_more : CanPut u (shown_by items_now) (list_at lists which)
    can_more = can_put u (shown_by items_now) (list_at lists which) (rows_in ss) most now_index (omega (arith, rows_few ss, length-map (flat blocks) (entry_slot d items), more)) (hold which u e) few

    made_index : (key : List Value) → held key ss ≡ None → (lists1 : List Layout) → AreEntered d.uniques (shown_by items_now) (shown_by items_now n) lists lists1 → AreApart u (over (one key entry.present) ss)
        → IsIndexOf u (number_slots u (shown_by items_now) (numbers_at lists1 which)) (rows_in (over (one key entry.present) ss))
    made_index key missing lists1 entered apart =
        entered_index u (shown_by items_now) key ss (over (one key entry.present) ss) (list_at lists which) (list_at lists1 which) (made_differs u key entry.present ss rises missing apart) (shown_by items_now n) (entered which u e)
        (ap (option_and_then (λ (r : Option (List Value)). r)) missing) (ap (option_and_then (λ (r : Option (List Value)). r)) (over_self u key entry.present ss rises missing apart) ∙ sym (shown_last items entry n number)) now_index

  pub made_can : CanPutInAll d.uniques (shown_by items_now) lists
  made_can = λ which u e. can_more which u e

  pub made_kept : (key : List Value) → held key ss ≡ None → (lists1 : List Layout) → AreEntered d.uniques (shown_by items_now) (shown_by items_now n) lists lists1 → AreAllApart d.uniques (over (one key entry.present) ss)
      → AreKept d.uniques (shown_by items_now) lists1 (rows_in (over (one key entry.present) ss)) most
  made_kept key missing lists1 entered apart = record {
    indexes = λ which u e. made_index which u e key missing lists1 entered (apart which u e);
    hold = λ which u e. omega (arith, hold which u e, entered_holds u (shown_by items_now) (shown_by items_now n) (list_at lists which) (list_at lists1 which) (entered which u e));
  }

-- ---- lists that have the same numbers

pub kept_same : (us : List KeyDef) (row_at : ℕ → Option (List Value)) (old new : List Layout) (rows : List (List Value)) → KeepsNumbers old new → AreIndexes us row_at old rows → AreIndexes us row_at new rows
kept_same us row_at old new rows keeps are = λ which u e. subst (λ (ns : List ℕ). IsIndexOf u (number_slots u row_at ns) rows) (sym (keeps.numbers which)) (are which u e)

pub kept_more : (us : List KeyDef) (row_at : ℕ → Option (List Value)) (old new : List Layout) (rows : List (List Value)) (count : ℕ) → KeepsNumbers old new → AreKept us row_at old rows count → AreKept us row_at new rows count
kept_more us row_at old new rows count keeps are = record {
  indexes = kept_same us row_at old new rows keeps are.indexes;
  hold = λ which u e. omega (arith, are.hold which u e, keeps.holds which);
}

-- lists that hold so many for each number of a key
pub all_hold : (us : List KeyDef) (lists : List Layout) (keys count : ℕ) → length us ≤ keys → ((which : ℕ) → which < keys → count ≤ holds (list_at lists which)) → AllHold us lists count
all_hold us lists keys count few each = λ which u e. each which (omega (arith, slice_get_within us which u e, few))

-- no numbers index no rows
pub none_kept : (us : List KeyDef) (row_at : ℕ → Option (List Value)) (lists : List Layout) → ((which : ℕ) → numbers_at lists which ≡ []) → AreKept us row_at lists [] 0
none_kept us row_at lists none = record {
  indexes = λ which u e. subst (λ (ns : List ℕ). IsIndexOf u (number_slots u row_at ns) []) (sym (none which)) (nothing_indexed u);
  hold = λ which u e. omega arith;
}

-- an entry made, by the steps of the code
module _ (x d : TableDef) (same : x ≡ d) (items items' : List Entry) (entry : Entry) (pushed : items' ≡ items ++ entry ∷ []) (blocks : List (List ℕ)) (n : ℕ) (number : n ≡ length items) (rises : NumbersRise (entry_slot d items) (flat blocks))
    (count : ℕ) (counted : count ≡ length (flat blocks)) (few : count + 1 ≤ 2 ^ 32) (lists lists1 : List Layout) (kept : AreKept d.uniques (shown_by items) lists (rows_in (slots_of (entry_slot d items) (flat blocks))) (length (flat blocks)))
    (keeps : KeepsNumbers lists lists1) (keys : ℕ) (all : length x.uniques ≤ keys) (made : (which : ℕ) → which < keys → count + 1 ≤ holds (list_at lists1 which)) where
  more_are : AreIndexes d.uniques (shown_by items) lists1 (rows_in (slots_of (entry_slot d items) (flat blocks)))
  more_are = kept_same d.uniques (shown_by items) lists lists1 (rows_in (slots_of (entry_slot d items) (flat blocks))) keeps kept.indexes

  more_hold : AllHold d.uniques lists1 (count + 1)
  more_hold = all_hold d.uniques lists1 keys (count + 1) (omega (arith, all, ap (λ (y : TableDef). length y.uniques) same)) made

  pub added_can : CanPutInAll x.uniques (shown_by items') lists1
  added_can =
      subst (λ (es : List Entry). CanPutInAll x.uniques (shown_by es) lists1) (sym pushed)
      (subst (λ (y : TableDef). CanPutInAll y.uniques (shown_by (items ++ entry ∷ [])) lists1) (sym same)
      (made_can d items entry blocks n number rises (count + 1) (omega (arith, counted)) few lists1 more_are more_hold))

  pub added_above : (lists2 : List Layout) → AreEntered x.uniques (shown_by items') (shown_by items' n) lists1 lists2 → (key : List Value) → held key (slots_of (entry_slot d items) (flat blocks)) ≡ None
      → (ms : List ℕ) → length ms ≤ count + 1 → slots_of (entry_slot d items') ms ≡ over (one key entry.present) (slots_of (entry_slot d items) (flat blocks)) → AreAllApart d.uniques (slots_of (entry_slot d items') ms)
      → AreKept d.uniques (shown_by items') lists2 (rows_in (slots_of (entry_slot d items') ms)) (length ms)
  added_above lists2 entered key missing ms within slots apart =
      let entered_d : AreEntered d.uniques (shown_by items') (shown_by items' n) lists1 lists2 = subst (λ (y : TableDef). AreEntered y.uniques (shown_by items') (shown_by items' n) lists1 lists2) same entered in
      let full : AreKept d.uniques (shown_by items') lists2 (rows_in (over (one key entry.present) (slots_of (entry_slot d items) (flat blocks)))) (count + 1) =
      subst (λ (es : List Entry). AreKept d.uniques (shown_by es) lists2 (rows_in (over (one key entry.present) (slots_of (entry_slot d items) (flat blocks)))) (count + 1)) (sym pushed)
      (made_kept d items entry blocks n number rises (count + 1) (omega (arith, counted)) few lists1 more_are more_hold key missing lists2
      (subst (λ (es : List Entry). AreEntered d.uniques (shown_by es) (shown_by es n) lists1 lists2) pushed entered_d) (subst (AreAllApart d.uniques) slots apart)) in
      record {
        indexes = subst (λ (ss : List Slot). AreIndexes d.uniques (shown_by items') lists2 (rows_in ss)) (sym slots) full.indexes;
        hold = λ which u e. omega (arith, full.hold which u e, within);
      }

-- entries and lists of the same numbers, that hold no less
pub above_stays : (d : TableDef) (items items' : List Entry) (blocks blocks' : List (List ℕ)) (lists lists' : List Layout) → items' ≡ items → blocks' ≡ blocks → KeepsNumbers lists lists'
    → AreKept d.uniques (shown_by items) lists (rows_in (slots_of (entry_slot d items) (flat blocks))) (length (flat blocks))
    → AreKept d.uniques (shown_by items') lists' (rows_in (slots_of (entry_slot d items') (flat blocks'))) (length (flat blocks'))
above_stays d items items' blocks blocks' lists lists' entries ranks keeps kept =
    subst (λ (es : List Entry). AreKept d.uniques (shown_by es) lists' (rows_in (slots_of (entry_slot d es) (flat blocks'))) (length (flat blocks'))) (sym entries)
    (subst (λ (bs : List (List ℕ)). AreKept d.uniques (shown_by items) lists' (rows_in (slots_of (entry_slot d items) (flat bs))) (length (flat bs))) (sym ranks)
    (kept_more d.uniques (shown_by items) lists lists' (rows_in (slots_of (entry_slot d items) (flat blocks))) (length (flat blocks)) keeps kept))

-- one number more
pub length_put : (roomy ns ms : List ℕ) (p n count : ℕ) → roomy ≡ ns → ms ≡ insert roomy p n → count ≡ length ns → length ms ≤ count + 1
length_put roomy ns ms p n count same put counted = omega (arith, ap length put, at roomy p, ap length same, counted)
  where
    at : (xs : List ℕ) (q : ℕ) → length (insert xs q n) ≤ length xs + 1
    at [] zero = omega arith
    at [] (suc q) = omega arith
    at (x ∷ xs) zero = omega arith
    at (x ∷ xs) (suc q) = let later : length (insert xs q n) ≤ length xs + 1 = at xs q in omega (arith, later)
