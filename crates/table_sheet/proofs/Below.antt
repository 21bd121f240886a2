-- The indexes beside committed rows, as entries are hidden and settled.
use Rattle.std.proofs.Common.{◌≡◌, ℕ, zero, suc, ◌+◌, ◌-◌, ◌≤◌, ◌^◌, List, [], ◌∷◌, ◌++◌, length, take, drop, min, true, false, Option, Some, None, Ok, Err, refl, sym, ap, subst, ◌∙◌, arith}
use Rattle.std.specs.Prelude.{slice_get, IsSome}
use Rattle.std.specs.List.{list_all}
use Rattle.std.specs.Option.{option_map, option_and_then}
use Rattle.std.specs.Ordering.{is_lt}
use Rattle.std.proofs.lemmas.Bool.{and_parts, and_from}
use Rattle.std.proofs.lemmas.List.{length-map}
use Rattle.val_types.specs.declared.value.Value.{Value}
use Rattle.val_types.specs.declared.definitions.KeyDef.{KeyDef}
use Rattle.val_types.specs.declared.definitions.TableDef.{TableDef}
use Rattle.val_types.specs.Keys.{primary_key, same_values}
use Rattle.val_types.specs.Order.{key_order}
use Rattle.row_index.specs.block_list.Layouts.{Layout, flat, room}
use Rattle.row_index.specs.block_list.Spots.{place, IsFound}
use Rattle.row_index.specs.block_list.declared.spot.Spot.{Spot}
use Rattle.row_index.specs.row_arena.Arenas.{Arena}
use Rattle.row_index.specs.row_sheets.Slots.{Slot, all_above, keys_in, keys_rise, rows_in, has_own_key}
use Rattle.row_index.specs.row_sheets.Claims.{row_under}
use Rattle.row_index.specs.row_sheets.Over.{over, settled_by}
use Rattle.row_index.specs.row_sheets.Orders.{by_key, slots_of, NumbersRise}
use Rattle.row_index.proofs.of_row_sheets.Orders.{missing_at}
use Rattle.row_index.specs.row_indexes.Indexes.{IsIndexOf}
use Rattle.row_index.specs.Numbers.{number_slot, number_slots, CanPut}
use Rattle.row_index.specs.Lists.{list_at, numbers_at, CanPutInAll, IsPutInAll, IsTakenOfAll, OfEach}
use Rattle.row_index.proofs.Members.{mapped, IsOfRow, is_of_row, slots_same as numbers_same}
use Rattle.table_sheet.specs.declared.committed.Committed.{Committed}
use Rattle.table_sheet.specs.declared.entry.Entry.{Entry}
use Rattle.table_sheet.specs.declared.overlay.Overlay.{Overlay}
use Rattle.table_sheet.specs.Ranked.{entry_slot}
use Rattle.table_sheet.specs.Numbered.{row_of, row_slot, are_numbered}
use Rattle.table_sheet.specs.Parts.{committed_slots, entry_slots, room_of}
use Rattle.table_sheet.specs.Settling.{hiding, taken_by, Settles}
use Rattle.table_sheet.specs.Indexed.{AreAllApart, AreEntered, AreKept, AreLeft, IsBelow, IsEntered, IsLeft}
use Rattle.row_index.proofs.of_row_sheets.Settling.{settled_rises}
use Rattle.table_sheet.proofs.Looking.{found_row}
use Rattle.table_sheet.proofs.Steps.{length-settled, first_room, first_few}
use Rattle.table_sheet.proofs.Slotted.{entry_slot_is}
use Rattle.table_sheet.proofs.Moving.{left_index, left_holds, entered_index, entered_holds, has_row_under}
use Rattle.table_sheet.proofs.Above.{can_put}
use Rattle.table_sheet.proofs.Hiding.{next_differs, next_was, next_gone, first_differs, first_hidden, first_now, first_is, still_apart, other_key, hidden_fewer, hidden_same}

-- ---- parts that stay

pub slots_same : (d : TableDef) (c c' : Committed) → c'.rows ≡ c.rows → c'.order ≡ c.order → committed_slots d c' ≡ committed_slots d c
slots_same d c c' rows order = ap (λ (a : Arena). slots_of (row_slot d a.rows) (flat c'.order.blocks)) rows ∙ ap (λ (l : Layout). slots_of (row_slot d c.rows.rows) (flat l.blocks)) order

pub room_same : (c c' : Committed) → c'.rows ≡ c.rows → c'.order ≡ c.order → c'.hold ≡ c.hold → room_of c' ≡ room_of c
room_same c c' rows order hold =
    ap (λ (a : Arena). min (min a.room (room c'.order)) (c'.hold - length (flat c'.order.blocks))) rows
    ∙ ap (λ (l : Layout). min (min c.rows.room (room l)) (c'.hold - length (flat l.blocks))) order
    ∙ ap (λ (n : ℕ). min (min c.rows.room (room c.order)) (n - length (flat c.order.blocks))) hold

-- ---- one more entry hidden

module _ (us : List KeyDef) (row_at : ℕ → Option (List Value)) (xs : List Slot) (e : Slot) (cs : List Slot) (rises : keys_rise (keys_in xs) ≡ true) (more : keys_rise (keys_in (xs ++ e ∷ [])) ≡ true)
    (up : keys_rise (keys_in cs) ≡ true) (apart : AreAllApart us cs) where
  pub hidden_next : (old new : List Layout) (count : ℕ) → AreKept us row_at old (rows_in (over (hiding xs) cs)) count → AreLeft us row_at (row_under e.key cs) old new
      → AreKept us row_at new (rows_in (over (hiding (xs ++ e ∷ [])) cs)) count
  hidden_next old new count kept left = record {
    indexes = λ which u is.
        left_index u row_at e.key (over (hiding xs) cs) (over (hiding (xs ++ e ∷ [])) cs) (list_at old which) (list_at new which) (next_differs u xs e cs rises more up (apart which u is)) (row_under e.key cs) (left which u is)
        (next_was u xs e cs rises more up (apart which u is)) (next_gone u xs e cs rises more up (apart which u is)) (kept.indexes which u is);
    hold = λ which u is. omega (arith, kept.hold which u is, left_holds u row_at (row_under e.key cs) (list_at old which) (list_at new which) (left which u is));
  }

-- ---- the first entry settled

module _ (d : TableDef) (key : List Value) (p : Option (List Value)) (rest cs : List Slot) (rises : keys_rise (keys_in (record { key = key; row = p } ∷ rest)) ≡ true) (up : keys_rise (keys_in cs) ≡ true)
    (own : list_all (has_own_key d) cs ≡ true) (apart : AreAllApart d.uniques (over (record { key = key; row = p } ∷ rest) cs))
    (row_at row_now : ℕ → Option (List Value)) (others : (m : ℕ) (row : List Value) → row_at m ≡ Some row → same_values (primary_key d row) key ≡ false → row_now m ≡ Some row)
    (lists : List Layout) (count : ℕ) (kept : AreKept d.uniques row_at lists (rows_in (over (hiding (record { key = key; row = p } ∷ rest)) cs)) count) where
  module _ (which : ℕ) (u : KeyDef) (e : slice_get d.uniques which ≡ Some u) where
    stays : (i m : ℕ) → slice_get (numbers_at lists which) i ≡ Some m → row_now m ≡ row_at m
    stays i m here =
        let of : IsOfRow u row_at (rows_in (over (hiding (record { key = key; row = p } ∷ rest)) cs)) m = is_of_row u row_at (numbers_at lists which) (rows_in (over (hiding (record { key = key; row = p } ∷ rest)) cs)) i m (kept.indexes which u e) here in
        others m of.row of.there (other_key key p rest cs rises up d u row_at m own of) ∙ sym of.there

    index_now : IsIndexOf u (number_slots u row_now (numbers_at lists which)) (rows_in (over (hiding (record { key = key; row = p } ∷ rest)) cs))
    index_now = subst (λ (ss : List Slot). IsIndexOf u ss (rows_in (over (hiding (record { key = key; row = p } ∷ rest)) cs))) (sym (numbers_same u row_at row_now (numbers_at lists which) stays)) (kept.indexes which u e)

    can_enter : (row : List Value) → row_under key (settled_by key p cs) ≡ Some row → length (settled_by key p cs) ≤ count → length (settled_by key p cs) ≤ 2 ^ 32 → keys_rise (keys_in (settled_by key p cs)) ≡ true → CanPut u row_now (list_at lists which)
    can_enter row has fits few rise =
        can_put u row_now (list_at lists which) (rows_in (over (hiding (record { key = key; row = p } ∷ rest)) cs)) (length (settled_by key p cs)) index_now
        (omega (
          arith,
          hidden_fewer key row p rest (settled_by key p cs) rises rise (has_row_under key row (settled_by key p cs) has),
          ap (λ (ss : List Slot). length (rows_in ss)) (hidden_same key p rest cs rises up),
        ))
        (omega (arith, fits, kept.hold which u e)) few

    entered_now : (lists1 : List Layout) → AreEntered d.uniques row_now (row_under key (settled_by key p cs)) lists lists1
        → IsIndexOf u (number_slots u row_now (numbers_at lists1 which)) (rows_in (over (hiding rest) (settled_by key p cs)))
    entered_now lists1 entered =
        entered_index u row_now key (over (hiding (record { key = key; row = p } ∷ rest)) cs) (over (hiding rest) (settled_by key p cs)) (list_at lists which) (list_at lists1 which) (first_differs key p rest cs rises up u (apart which u e))
        (row_under key (settled_by key p cs)) (entered which u e) (first_hidden key p rest cs rises up) (first_now key p rest cs rises up ∙ sym (first_is key p rest cs rises up)) index_now

  pub first_can : length (settled_by key p cs) ≤ count → length (settled_by key p cs) ≤ 2 ^ 32 → keys_rise (keys_in (settled_by key p cs)) ≡ true → IsSome (row_under key (settled_by key p cs)) → CanPutInAll d.uniques row_now lists
  first_can fits few rise some = λ which u e. at which u e (row_under key (settled_by key p cs)) refl some
    where
      at : (which : ℕ) (u : KeyDef) → slice_get d.uniques which ≡ Some u → (o : Option (List Value)) → row_under key (settled_by key p cs) ≡ o → IsSome o → CanPut u row_now (list_at lists which)
      at which u e None is none = cc
      at which u e (Some row) is some = can_enter which u e row is fits few rise

  pub first_kept : (lists1 : List Layout) → AreEntered d.uniques row_now (row_under key (settled_by key p cs)) lists lists1 → AreKept d.uniques row_now lists1 (rows_in (over (hiding rest) (settled_by key p cs))) count
  first_kept lists1 entered = record {
    indexes = λ which u e. entered_now which u e lists1 entered;
    hold = λ which u e. omega (arith, kept.hold which u e, entered_holds u row_now (row_under key (settled_by key p cs)) (list_at lists which) (list_at lists1 which) (entered which u e));
  }

  pub first_apart : AreAllApart d.uniques (over rest (settled_by key p cs))
  first_apart = λ which u e. still_apart key p rest cs rises up u (apart which u e)

-- ---- the row of a key, by its number

some_is_some : (o : Option (List Value)) → option_and_then (λ (row : Option (List Value)). row) (option_map (λ (row : List Value). Some row) o) ≡ o
some_is_some None = refl
some_is_some (Some row) = refl

pub under_found : (d : TableDef) (rows : List (Option (List Value))) (blocks : List (List ℕ)) (spot : Spot) (key : List Value) (n : ℕ) (o : Option (List Value)) → NumbersRise (row_slot d rows) (flat blocks) → are_numbered rows (flat blocks) ≡ true
    → IsFound (by_key (row_slot d rows) key) blocks (Ok spot) → Some n ≡ slice_get (flat blocks) (place blocks spot) → o ≡ row_of rows n → row_under key (slots_of (row_slot d rows) (flat blocks)) ≡ o
under_found d rows blocks spot key n o rises numbered found is row =
    ap (option_and_then (λ (r : Option (List Value)). r)) (found_row d key rows blocks spot o rises numbered found (row ∙ ap (option_and_then (row_of rows)) is)) ∙ some_is_some o

pub under_missing : (d : TableDef) (rows : List (Option (List Value))) (blocks : List (List ℕ)) (spot : Spot) (key : List Value) → IsFound (by_key (row_slot d rows) key) blocks (Err spot)
    → row_under key (slots_of (row_slot d rows) (flat blocks)) ≡ None
under_missing d rows blocks spot key missing = ap (option_and_then (λ (r : Option (List Value)). r)) (missing_at (row_slot d rows) key blocks spot missing)

-- nothing is left or entered
pub none_left : (us : List KeyDef) (row_at : ℕ → Option (List Value)) (o : Option (List Value)) (lists : List Layout) → o ≡ None → AreLeft us row_at o lists lists
none_left us row_at o lists none = λ which u e. subst (λ (p : Option (List Value)). IsLeft u row_at p (list_at lists which) (list_at lists which)) (sym none) refl

pub none_entered : (us : List KeyDef) (row_at : ℕ → Option (List Value)) (o : Option (List Value)) (lists : List Layout) → o ≡ None → AreEntered us row_at o lists lists
none_entered us row_at o lists none = λ which u e. subst (λ (p : Option (List Value)). IsEntered u row_at p (list_at lists which) (list_at lists which)) (sym none) refl

-- a row is
pub row_left : (x d : TableDef) → x ≡ d → (row_at : ℕ → Option (List Value)) (o : Option (List Value)) (row : List Value) (old new : List Layout) → o ≡ Some row → IsTakenOfAll x.uniques row_at row old new → AreLeft d.uniques row_at o old new
row_left x d same row_at o row old new is taken =
    λ which u e. subst (λ (p : Option (List Value)). IsLeft u row_at p (list_at old which) (list_at new which)) (sym is) (taken which u (ap (λ (y : TableDef). slice_get y.uniques which) same ∙ e))

pub row_entered : (x d : TableDef) → x ≡ d → (row_at : ℕ → Option (List Value)) (o : Option (List Value)) (row : List Value) (old new : List Layout) → o ≡ Some row → IsPutInAll x.uniques row_at row old new → AreEntered d.uniques row_at o old new
row_entered x d same row_at o row old new is put =
    λ which u e. subst (λ (p : Option (List Value)). IsEntered u row_at p (list_at old which) (list_at new which)) (sym is) (put which u (ap (λ (y : TableDef). slice_get y.uniques which) same ∙ e))

-- ---- entries hidden one after the other, by the steps of the code

take_next : {X : Type 0} (xs : List X) (i : ℕ) (x : X) → slice_get xs i ≡ Some x → take (suc i) xs ≡ take i xs ++ x ∷ []
take_next [] i x e = cc
take_next (y ∷ xs) zero x e = let same : y ≡ x = cc in ap (λ z. z ∷ []) same
take_next (y ∷ xs) (suc i) x e = ap (λ rest. y ∷ rest) (take_next xs i x e)

pub take_whole : {X : Type 0} (xs : List X) (i : ℕ) → drop i xs ≡ [] → take i xs ≡ xs
take_whole [] zero e = refl
take_whole [] (suc i) e = refl
take_whole (x ∷ xs) zero e = cc
take_whole (x ∷ xs) (suc i) e = ap (λ rest. x ∷ rest) (take_whole xs i e)

above_take : (key : List Value) (ss : List Slot) (i : ℕ) → all_above key (keys_in ss) ≡ true → all_above key (keys_in (take i ss)) ≡ true
above_take key [] zero above = refl
above_take key [] (suc i) above = refl
above_take key (s ∷ ss) zero above = refl
above_take key (s ∷ ss) (suc i) above =
    let both = and_parts (is_lt (key_order key s.key)) (all_above key (keys_in ss)) above in
    and_from (is_lt (key_order key s.key)) (all_above key (keys_in (take i ss))) both.0 (above_take key ss i both.1)

rises_take : (ss : List Slot) (i : ℕ) → keys_rise (keys_in ss) ≡ true → keys_rise (keys_in (take i ss)) ≡ true
rises_take [] zero rises = refl
rises_take [] (suc i) rises = refl
rises_take (s ∷ ss) zero rises = refl
rises_take (s ∷ ss) (suc i) rises =
    let both = and_parts (all_above s.key (keys_in ss)) (keys_rise (keys_in ss)) rises in
    and_from (all_above s.key (keys_in (take i ss))) (keys_rise (keys_in (take i ss))) (above_take s.key ss i both.0) (rises_take ss i both.1)

-- the slot of an entry that stands at a place
entry_at : (d : TableDef) (o : Overlay) (i : ℕ) (entry : Entry) → Some entry ≡ option_and_then (slice_get o.entries.items) (slice_get (flat o.ranks.blocks) i)
    → slice_get (entry_slots d o) i ≡ Some (record { key = primary_key d entry.bearer; row = entry.present })
entry_at d o i entry e = at (slice_get (flat o.ranks.blocks) i) refl e
  where
    at : (n : Option ℕ) → slice_get (flat o.ranks.blocks) i ≡ n → Some entry ≡ option_and_then (slice_get o.entries.items) n → slice_get (entry_slots d o) i ≡ Some (record { key = primary_key d entry.bearer; row = entry.present })
    at None is there = cc
    at (Some n) is there = mapped (entry_slot d o.entries.items) (flat o.ranks.blocks) i n is ∙ ap (λ (s : Slot). Some s) (sym (entry_slot_is d o.entries.items n (Some entry) there))

pub hide_rise : (d : TableDef) (c0 c : Committed) (rows : List (List Value)) (count : ℕ) → c.rows ≡ c0.rows → AreKept d.uniques (row_of c0.rows.rows) c.indexes.items rows count
    → OfEach d.uniques (λ which key. NumbersRise (number_slot key (row_of c.rows.rows)) (numbers_at c.indexes.items which))
hide_rise d c0 c rows count same kept =
    subst (λ (a : Arena). OfEach d.uniques (λ which key. NumbersRise (number_slot key (row_of a.rows)) (numbers_at c.indexes.items which))) (sym same) (λ which u e. (kept.indexes which u e).rising)

pub hide_up : (d : TableDef) (c0 c : Committed) → c.rows ≡ c0.rows → c.order ≡ c0.order → keys_rise (keys_in (committed_slots d c0)) ≡ true → keys_rise (keys_in (committed_slots d c)) ≡ true
hide_up d c0 c rows order up = ap (λ (ss : List Slot). keys_rise (keys_in ss)) (slots_same d c0 c rows order) ∙ up

pub hide_kept : (d : TableDef) (c0 c : Committed) (new : List Layout) (o : Overlay) (i next : ℕ) (entry : Entry) (bearer : List Value) → c.rows ≡ c0.rows → c.order ≡ c0.order → keys_rise (keys_in (entry_slots d o)) ≡ true → keys_rise (keys_in (committed_slots d c0)) ≡ true
    → AreAllApart d.uniques (committed_slots d c0) → Some entry ≡ option_and_then (slice_get o.entries.items) (slice_get (flat o.ranks.blocks) i) → bearer ≡ entry.bearer → next ≡ i + 1 → (count : ℕ)
    → AreKept d.uniques (row_of c0.rows.rows) c.indexes.items (rows_in (over (hiding (take i (entry_slots d o))) (committed_slots d c0))) count
    → AreLeft d.uniques (row_of c.rows.rows) (row_under (primary_key d bearer) (committed_slots d c)) c.indexes.items new
    → AreKept d.uniques (row_of c0.rows.rows) new (rows_in (over (hiding (take next (entry_slots d o))) (committed_slots d c0))) count
hide_kept d c0 c new o i next entry bearer rows order rises up apart there own one count kept left =
    subst (λ (xs : List Slot). AreKept d.uniques (row_of c0.rows.rows) new (rows_in (over (hiding xs) (committed_slots d c0))) count) (sym grown)
    (hidden_next d.uniques (row_of c0.rows.rows) (take i (entry_slots d o)) slot (committed_slots d c0) (rises_take (entry_slots d o) i rises) (ap (λ (xs : List Slot). keys_rise (keys_in xs)) (sym grown) ∙ rises_take (entry_slots d o) next rises) up apart c.indexes.items new count kept left_now)
  where
    slot : Slot
    slot = record { key = primary_key d entry.bearer; row = entry.present }

    grown : take next (entry_slots d o) ≡ take i (entry_slots d o) ++ slot ∷ []
    grown = let step : next ≡ suc i = omega (arith, one) in ap (λ (n : ℕ). take n (entry_slots d o)) step ∙ take_next (entry_slots d o) i slot (entry_at d o i entry there)

    left_now : AreLeft d.uniques (row_of c0.rows.rows) (row_under (primary_key d entry.bearer) (committed_slots d c0)) c.indexes.items new
    left_now =
        subst (λ (a : Arena). AreLeft d.uniques (row_of a.rows) (row_under (primary_key d entry.bearer) (committed_slots d c0)) c.indexes.items new) rows
        (subst (λ (ss : List Slot). AreLeft d.uniques (row_of c.rows.rows) (row_under (primary_key d entry.bearer) ss) c.indexes.items new) (slots_same d c0 c rows order)
        (subst (λ (b : List Value). AreLeft d.uniques (row_of c.rows.rows) (row_under (primary_key d b) (committed_slots d c)) c.indexes.items new) own left))

-- ---- the first entry settled, by the steps of the code

module _ (d : TableDef) (c c1 : Committed) (es rest : List Slot) (key : List Value) (p : Option (List Value)) (is : es ≡ record { key = key; row = p } ∷ rest) (settles : Settles d (committed_slots d c) es (room_of c))
    (below : IsBelow d c (rows_in (over (hiding es) (committed_slots d c)))) (apart : AreAllApart d.uniques (over es (committed_slots d c)))
    (slots : committed_slots d c1 ≡ settled_by key p (committed_slots d c)) (others : (m : ℕ) (row : List Value) → row_of c.rows.rows m ≡ Some row → same_values (primary_key d row) key ≡ false → row_of c1.rows.rows m ≡ Some row)
    (lists : c1.indexes.items ≡ c.indexes.items) (hold : c1.hold ≡ c.hold) where
  abbrev first : List Slot
  first = record { key = key; row = p } ∷ rest

  first_rises : keys_rise (keys_in first) ≡ true
  first_rises = ap (λ (ss : List Slot). keys_rise (keys_in ss)) (sym is) ∙ settles.rising

  apart_first : AreAllApart d.uniques (over first (committed_slots d c))
  apart_first = subst (λ (ss : List Slot). AreAllApart d.uniques (over ss (committed_slots d c))) is apart

  kept_first : AreKept d.uniques (row_of c.rows.rows) c1.indexes.items (rows_in (over (hiding first) (committed_slots d c))) c.hold
  kept_first =
      subst (λ (ls : List Layout). AreKept d.uniques (row_of c.rows.rows) ls (rows_in (over (hiding first) (committed_slots d c))) c.hold) (sym lists)
      (subst (λ (ss : List Slot). AreKept d.uniques (row_of c.rows.rows) c.indexes.items (rows_in (over (hiding ss) (committed_slots d c))) c.hold) is below.kept)

  long : length (committed_slots d c) ≡ length (flat c.order.blocks)
  long = length-map (flat c.order.blocks) (row_slot d c.rows.rows)

  taken : taken_by key (committed_slots d c) ≤ room_of c
  taken = first_room d (committed_slots d c) es (room_of c) settles key p rest is

  fits_now : length (settled_by key p (committed_slots d c)) ≤ c.hold
  fits_now = omega (arith, length-settled key p (committed_slots d c) settles.below, taken, long, below.fits)

  few_now : length (settled_by key p (committed_slots d c)) ≤ 2 ^ 32
  few_now = omega (arith, length-settled key p (committed_slots d c) settles.below, first_few d (committed_slots d c) es (room_of c) settles key p rest is)

  pub rises_now : keys_rise (keys_in (committed_slots d c1)) ≡ true
  rises_now = ap (λ (ss : List Slot). keys_rise (keys_in ss)) slots ∙ settled_rises key p (committed_slots d c) settles.below

  pub can_enter_first : IsSome (row_under key (committed_slots d c1)) → CanPutInAll d.uniques (row_of c1.rows.rows) c1.indexes.items
  can_enter_first some =
      first_can d key p rest (committed_slots d c) first_rises settles.below settles.own_below apart_first (row_of c.rows.rows) (row_of c1.rows.rows) others c1.indexes.items c.hold kept_first fits_now few_now
      (settled_rises key p (committed_slots d c) settles.below) (subst (λ (ss : List Slot). IsSome (row_under key ss)) slots some)

  module _ (c2 : Committed) (rows : c2.rows ≡ c1.rows) (order : c2.order ≡ c1.order) (hold2 : c2.hold ≡ c1.hold)
      (entered : AreEntered d.uniques (row_of c1.rows.rows) (row_under key (committed_slots d c1)) c1.indexes.items c2.indexes.items) where
    slots2 : committed_slots d c2 ≡ settled_by key p (committed_slots d c)
    slots2 = slots_same d c1 c2 rows order ∙ slots

    kept_now : AreKept d.uniques (row_of c1.rows.rows) c2.indexes.items (rows_in (over (hiding rest) (settled_by key p (committed_slots d c)))) c.hold
    kept_now =
        first_kept d key p rest (committed_slots d c) first_rises settles.below settles.own_below apart_first (row_of c.rows.rows) (row_of c1.rows.rows) others c1.indexes.items c.hold kept_first c2.indexes.items
        (subst (λ (ss : List Slot). AreEntered d.uniques (row_of c1.rows.rows) (row_under key ss) c1.indexes.items c2.indexes.items) slots entered)

    pub below_now : IsBelow d c2 (rows_in (over (hiding rest) (committed_slots d c2)))
    below_now = record {
      kept =
          subst (λ (n : ℕ). AreKept d.uniques (row_of c2.rows.rows) c2.indexes.items (rows_in (over (hiding rest) (committed_slots d c2))) n) (sym (hold2 ∙ hold))
          (subst (λ (ss : List Slot). AreKept d.uniques (row_of c2.rows.rows) c2.indexes.items (rows_in (over (hiding rest) ss)) c.hold) (sym slots2)
          (subst (λ (a : Arena). AreKept d.uniques (row_of a.rows) c2.indexes.items (rows_in (over (hiding rest) (settled_by key p (committed_slots d c)))) c.hold) (sym rows) kept_now));
      fits = omega (arith, fits_now, ap (λ (ss : List Slot). length ss) slots2, length-map (flat c2.order.blocks) (row_slot d c2.rows.rows), hold2, hold);
    }

    pub apart_now : AreAllApart d.uniques (over rest (committed_slots d c2))
    apart_now =
        subst (λ (ss : List Slot). AreAllApart d.uniques (over rest ss)) (sym slots2)
        (first_apart d key p rest (committed_slots d c) first_rises settles.below settles.own_below apart_first (row_of c.rows.rows) (row_of c1.rows.rows) others c1.indexes.items c.hold kept_first)

-- ---- before the first is hidden, and once all are

pub hidden_from : (d : TableDef) (c : Committed) (es : List Slot) (i : ℕ) → i ≡ 0 → AreKept d.uniques (row_of c.rows.rows) c.indexes.items (rows_in (committed_slots d c)) c.hold
    → AreKept d.uniques (row_of c.rows.rows) c.indexes.items (rows_in (over (hiding (take i es)) (committed_slots d c))) c.hold
hidden_from d c es i none kept = subst (λ (xs : List Slot). AreKept d.uniques (row_of c.rows.rows) c.indexes.items (rows_in (over (hiding xs) (committed_slots d c))) c.hold) (sym (ap (λ (n : ℕ). take n es) none ∙ nothing es)) kept
  where
    nothing : (xs : List Slot) → take 0 xs ≡ []
    nothing [] = refl
    nothing (x ∷ xs) = refl

pub hidden_to : (d : TableDef) (c0 c : Committed) (es : List Slot) (i : ℕ) → drop i es ≡ [] → c.rows ≡ c0.rows → c.order ≡ c0.order → c.hold ≡ c0.hold → length (flat c0.order.blocks) ≤ c0.hold
    → AreKept d.uniques (row_of c0.rows.rows) c.indexes.items (rows_in (over (hiding (take i es)) (committed_slots d c0))) c0.hold → IsBelow d c (rows_in (over (hiding es) (committed_slots d c0)))
hidden_to d c0 c es i end rows order hold fits kept = record {
  kept =
      subst (λ (n : ℕ). AreKept d.uniques (row_of c.rows.rows) c.indexes.items (rows_in (over (hiding es) (committed_slots d c0))) n) (sym hold)
      (subst (λ (a : Arena). AreKept d.uniques (row_of a.rows) c.indexes.items (rows_in (over (hiding es) (committed_slots d c0))) c0.hold) (sym rows)
      (subst (λ (xs : List Slot). AreKept d.uniques (row_of c0.rows.rows) c.indexes.items (rows_in (over (hiding xs) (committed_slots d c0))) c0.hold) (take_whole es i end) kept));
  fits = omega (arith, fits, hold, ap (λ (l : Layout). length (flat l.blocks)) order);
}
