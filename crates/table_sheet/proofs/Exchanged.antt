-- A row that stands just so, and another one of the same keys or none in its place.
use Rattle.std.proofs.Common.{◌≡◌, ℕ, ◌≤◌, List, [], ◌∷◌, Bool, true, false, not, ◌&&◌, ◌||◌, Option, Some, None, Ordering, Ok, Err, refl, sym, ap, subst, ◌∙◌}
use Rattle.std.specs.Prelude.{IfSome, OnErr, Result, is_some, slice_get, slice_index}
use Rattle.std.specs.List.{list_any, list_all}
use Rattle.std.specs.Option.{option_and_then, option_map_or}
use Rattle.std.specs.Ordering.{is_eq}
use Rattle.std.proofs.lemmas.Bool.{and_parts}
use Rattle.val_types.specs.declared.value.Value.{Value}
use Rattle.val_types.specs.declared.definitions.KeyDef.{KeyDef}
use Rattle.val_types.specs.declared.definitions.TableDef.{TableDef}
use Rattle.val_types.specs.Order.{key_order}
use Rattle.val_types.specs.Fitting.{row_fits, is_null}
use Rattle.val_types.specs.Keys.{values_at, primary_key, same_values, agree_on, collide}
use Rattle.table_rules.specs.Changes.{with_row}
use Rattle.table_rules.specs.Stored.{row_of_key, rows_beside, key_in_way}
use Rattle.table_rules.specs.Stores.{is_among}
use Rattle.table_rules.proofs.Taking.{same_is, same_self}
use Rattle.table_rules.proofs.Storing.{keys_in_way}
use Rattle.row_index.specs.block_list.Layouts.{flat}
use Rattle.row_index.specs.block_list.Spots.{place, IsFound}
use Rattle.row_index.specs.block_list.declared.spot.Spot.{Spot}
use Rattle.row_index.specs.row_sheets.Slots.{Slot, held, fill, keys_in, rows_in, has_own_key}
use Rattle.row_index.specs.row_sheets.Over.{over}
use Rattle.row_index.specs.row_sheets.Orders.{by_key}
use Rattle.row_index.proofs.of_row_sheets.Orders.{found_at, missing_at}
use Rattle.table_sheet.specs.declared.committed.Committed.{Committed}
use Rattle.table_sheet.specs.declared.entry.Entry.{Entry}
use Rattle.table_sheet.specs.declared.overlay.Overlay.{Overlay}
use Rattle.table_sheet.specs.Ranked.{entry_slot}
use Rattle.table_sheet.specs.Pages.{Page, Holds, rows_on}
use Rattle.table_sheet.specs.Parts.{committed_slots, entry_slots, page_of, room_of}
use Rattle.table_sheet.specs.Standing.{is_standing, have_same_keys, with_present}
use Rattle.table_sheet.proofs.Shown.{Sound, sound, sound_emptied, sound_put, rows_emptied, rows_filled, keys_filled, TakenRow, taken_row, among_of_row}
use Rattle.table_sheet.proofs.Entering.{one, fill_fill, shown_set, shown_hidden}
use Rattle.table_sheet.proofs.Keeping.{with_more, holds_set, holds_hidden}
use Rattle.table_sheet.proofs.Looking.{present_of, page_entry_same, page_row_same}
use Rattle.table_sheet.proofs.Turning.{moved, shown_as}

-- ---- just this row

-- what an entry that may be there shows
pub shown_of : (e : Option Entry) → option_and_then (λ (entry : Entry). entry.present) e ≡ present_of e
shown_of None = refl
shown_of (Some entry) = refl

just_one : (row : List Value) (standing : Option (List Value)) → option_map_or (λ s. same_values s row) standing false ≡ true → standing ≡ Some row
just_one row None e = cc
just_one row (Some s) e = ap (λ (r : List Value). Some r) (same_is s row e)

-- the row of its key is the row itself
pub row_standing : (d : TableDef) (row : List Value) (rows : List (List Value)) → is_standing d row rows ≡ true → row_of_key d (primary_key d row) rows ≡ Some row
row_standing d row rows e = just_one row (row_of_key d (primary_key d row) rows) e

-- ---- two rows of the same keys

same_agreed : (a b r : List Value) (key : KeyDef) → same_values (values_at key.columns a) (values_at key.columns b) ≡ true → agree_on a r key ≡ agree_on b r key
same_agreed a b r key e = ap (λ (v : List Value). not (list_any is_null v) && same_values v (values_at key.columns r)) (same_is (values_at key.columns a) (values_at key.columns b) e)

same_agree : (a b r : List Value) (keys : List KeyDef) → list_all (λ key. same_values (values_at key.columns a) (values_at key.columns b)) keys ≡ true
    → list_any (agree_on a r) keys ≡ list_any (agree_on b r) keys
same_agree a b r [] e = refl
same_agree a b r (k ∷ ks) e =
    let both = and_parts (same_values (values_at k.columns a) (values_at k.columns b)) (list_all (λ key. same_values (values_at key.columns a) (values_at key.columns b)) ks) e in
    ap (λ (t : Bool). t || list_any (agree_on a r) ks) (same_agreed a b r k both.0) ∙ ap (λ (t : Bool). agree_on b r k || t) (same_agree a b r ks both.1)

module _ (d : TableDef) (a b : List Value) (same : have_same_keys d a b ≡ true) where
  two_parts : (same_values (primary_key d a) (primary_key d b) ≡ true) × (list_all (λ key. same_values (values_at key.columns a) (values_at key.columns b)) d.uniques ≡ true)
  two_parts = and_parts (same_values (primary_key d a) (primary_key d b)) (list_all (λ key. same_values (values_at key.columns a) (values_at key.columns b)) d.uniques) same

  pub same_primary : primary_key d a ≡ primary_key d b
  same_primary = same_is (primary_key d a) (primary_key d b) two_parts.0

  same_collide : (r : List Value) → collide d a r ≡ collide d b r
  same_collide r =
      ap (λ (k : List Value). same_values k (primary_key d r) || list_any (agree_on a r) d.uniques) same_primary
      ∙ ap (λ (t : Bool). same_values (primary_key d b) (primary_key d r) || t) (same_agree a b r d.uniques two_parts.1)

  -- they collide with the same rows
  pub same_free : (rows : List (List Value)) → list_any (collide d a) rows ≡ list_any (collide d b) rows
  same_free [] = refl
  same_free (r ∷ rs) = ap (λ (t : Bool). t || list_any (collide d a) rs) (same_collide r) ∙ ap (λ (t : Bool). collide d b r || t) (same_free rs)

-- ---- slots

module _ (d : TableDef) (key old : List Value) (ss : List Slot) (s : Sound d ss) (stands : row_of_key d key (rows_in ss) ≡ Some old) where
  was_there : TakenRow d key old (rows_in ss)
  was_there = taken_row d key old ss s stands

  bare : Sound d (fill key None ss)
  bare = sound_emptied d key ss s

  module _ (new : List Value) (fits : row_fits d.columns new ≡ true) (same : have_same_keys d old new ≡ true) where
    its_key : key ≡ primary_key d new
    its_key = was_there.its_key ∙ same_primary d old new same

    pub free_beside : list_any (collide d new) (rows_beside d key (rows_in ss)) ≡ false
    free_beside = sym (same_free d old new same (rows_beside d key (rows_in ss))) ∙ was_there.free

    free_bare : list_any (collide d new) (rows_in (fill key None ss)) ≡ false
    free_bare = ap (λ (rows : List (List Value)). list_any (collide d new) rows) (rows_emptied d key ss s) ∙ free_beside

    among_bare : is_among (primary_key d new) (keys_in (fill key None ss)) ≡ true
    among_bare =
        ap (λ (k : List Value). is_among k (keys_in (fill key None ss))) (sym its_key)
        ∙ ap (λ (keys : List (List Value)). is_among key keys) (keys_filled key None ss) ∙ among_of_row d key old ss s stands

    filled_again : fill (primary_key d new) (Some new) (fill key None ss) ≡ fill key (Some new) ss
    filled_again = ap (λ (k : List Value). fill k (Some new) (fill key None ss)) (sym its_key) ∙ fill_fill key (Some new) None ss

    own_new : has_own_key d (record { key = key; row = Some new }) ≡ true
    own_new = subst (λ (k : List Value). same_values key k ≡ true) its_key (same_self key)

    sound_new : Sound d (fill key (Some new) ss)
    sound_new = subst (λ (xs : List Slot). Sound d xs) filled_again (sound_put d new (fill key None ss) bare among_bare fits free_bare)

    rows_new : rows_in (fill key (Some new) ss) ≡ with_row d new (rows_beside d key (rows_in ss))
    rows_new = ap rows_in (sym filled_again) ∙ rows_filled d new (fill key None ss) bare among_bare free_bare ∙ ap (with_row d new) (rows_emptied d key ss s)

  -- another row of the same keys, or none
  own_either : (p : Option (List Value)) → IfSome p (λ new. row_fits d.columns new ≡ true) → IfSome p (λ new. have_same_keys d old new ≡ true) → has_own_key d (record { key = key; row = p }) ≡ true
  own_either None fits same = refl
  own_either (Some new) fits same = own_new new fits same

  sound_either : (p : Option (List Value)) → IfSome p (λ new. row_fits d.columns new ≡ true) → IfSome p (λ new. have_same_keys d old new ≡ true) → Sound d (fill key p ss)
  sound_either None fits same = bare
  sound_either (Some new) fits same = sound_new new fits same

  rows_either : (p : Option (List Value)) → IfSome p (λ new. row_fits d.columns new ≡ true) → IfSome p (λ new. have_same_keys d old new ≡ true)
      → rows_in (fill key p ss) ≡ with_present d p (rows_beside d key (rows_in ss))
  rows_either None fits same = rows_emptied d key ss s
  rows_either (Some new) fits same = rows_new new fits same

-- ---- the page

module _ (d : TableDef) (c c' : Committed) (o o' : Overlay) (page : Page) (h : Holds d (committed_slots d c) (entry_slots d o) (room_of c) o.fresh) (view : page_of d c o ≡ page)
    (below : committed_slots d c' ≡ committed_slots d c) (space : room_of c ≤ room_of c')
    (old : List Value) (stands : is_standing page.definition old (rows_on page) ≡ true) (p : Option (List Value))
    (fits : IfSome p (λ new. row_fits page.definition.columns new ≡ true)) (same : IfSome p (λ new. have_same_keys page.definition old new ≡ true)) where
  definition_is : d ≡ page.definition
  definition_is = ap (λ (q : Page). q.definition) view

  own_fits : IfSome p (λ new. row_fits d.columns new ≡ true)
  own_fits = subst (λ (x : TableDef). IfSome p (λ new. row_fits x.columns new ≡ true)) (sym definition_is) fits

  own_same : IfSome p (λ new. have_same_keys d old new ≡ true)
  own_same = subst (λ (x : TableDef). IfSome p (λ new. have_same_keys x old new ≡ true)) (sym definition_is) same

  abbrev shown : List Slot
  shown = over (entry_slots d o) (committed_slots d c)

  sound_shown : Sound d (over (entry_slots d o) (committed_slots d c))
  sound_shown = sound d (over (entry_slots d o) (committed_slots d c)) h.sound

  old_there : row_of_key d (primary_key d old) (rows_in (over (entry_slots d o) (committed_slots d c))) ≡ Some old
  old_there = row_standing d old (rows_in (over (entry_slots d o) (committed_slots d c))) (ap (λ (q : Page). is_standing q.definition old (rows_on q)) view ∙ stands)

  own : has_own_key d (record { key = primary_key d old; row = p }) ≡ true
  own = own_either d (primary_key d old) old shown sound_shown old_there p own_fits own_same

  sound_then : Sound d (fill (primary_key d old) p shown)
  sound_then = sound_either d (primary_key d old) old shown sound_shown old_there p own_fits own_same

  rows_then : rows_in (fill (primary_key d old) p shown) ≡ with_present page.definition p (rows_beside page.definition (primary_key page.definition old) (rows_on page))
  rows_then =
      rows_either d (primary_key d old) old shown sound_shown old_there p own_fits own_same
      ∙ ap (λ (q : Page). with_present q.definition p (rows_beside q.definition (primary_key q.definition old) (rows_on q))) view

  -- its entry set
  module _ (spot : Spot) (found : IsFound (by_key (entry_slot d o.entries.items) (primary_key d old)) o.ranks.blocks (Ok spot))
      (entries : entry_slots d o' ≡ fill (primary_key d old) p (entry_slots d o)) where
    abbrev was : Option (List Value)
    was = (entry_slot d o.entries.items (slice_index (flat o.ranks.blocks) (place o.ranks.blocks spot))).row

    has : held (primary_key d old) (entry_slots d o) ≡ Some was
    has = found_at (entry_slot d o.entries.items) (primary_key d old) o.ranks.blocks spot h.rising found

    pub again_holds : o'.fresh ≡ o.fresh → Holds d (committed_slots d c') (entry_slots d o') (room_of c') o'.fresh
    again_holds fresh =
        moved d c c' o o' page h view below space (fill (primary_key d old) p (entry_slots d o)) o.fresh entries fresh
        (with_more d (committed_slots d c) (fill (primary_key d old) p (entry_slots d o)) (room_of c) o.fresh
        (holds_set d (committed_slots d c) (entry_slots d o) (room_of c) o.fresh h (primary_key d old) p own was has sound_then) (room_of c') space)

    pub again_rows : rows_on (page_of d c' o') ≡ with_present page.definition p (rows_beside page.definition (primary_key page.definition old) (rows_on page))
    again_rows =
        shown_as d c c' o o' page h view below space (fill (primary_key d old) p (entry_slots d o)) entries
        ∙ ap rows_in (shown_set (primary_key d old) p was (entry_slots d o) (committed_slots d c) h.rising has) ∙ rows_then

  -- an entry made over the committed row
  module _ (spot : Spot) (missing : IsFound (by_key (entry_slot d o.entries.items) (primary_key d old)) o.ranks.blocks (Err spot))
      (entries : entry_slots d o' ≡ over (one (primary_key d old) p) (entry_slots d o))
      (row : List Value) (has_row : held (primary_key d old) (committed_slots d c) ≡ Some (Some row)) where
    none : held (primary_key d old) (entry_slots d o) ≡ None
    none = missing_at (entry_slot d o.entries.items) (primary_key d old) o.ranks.blocks spot missing

    pub over_holds : o'.fresh ≡ o.fresh → Holds d (committed_slots d c') (entry_slots d o') (room_of c') o'.fresh
    over_holds fresh =
        moved d c c' o o' page h view below space (over (one (primary_key d old) p) (entry_slots d o)) o.fresh entries fresh
        (with_more d (committed_slots d c) (over (one (primary_key d old) p) (entry_slots d o)) (room_of c) o.fresh
        (holds_hidden d (committed_slots d c) (entry_slots d o) (room_of c) o.fresh h (primary_key d old) p own (Some row) none has_row sound_then) (room_of c') space)

    pub over_rows : rows_on (page_of d c' o') ≡ with_present page.definition p (rows_beside page.definition (primary_key page.definition old) (rows_on page))
    over_rows =
        shown_as d c c' o o' page h view below space (over (one (primary_key d old) p) (entry_slots d o)) entries
        ∙ ap rows_in (shown_hidden (primary_key d old) p (Some row) (entry_slots d o) (committed_slots d c) h.rising (sound d (committed_slots d c) h.whole).rising none has_row) ∙ rows_then

-- ---- whether it stands, as it was looked for

-- an entry that was found shows the row or not
pub shows_standing : (d : TableDef) (old : List Value) (c : Committed) (o : Overlay) (page : Page) (spot : Spot)
    → Holds d (committed_slots d c) (entry_slots d o) (room_of c) o.fresh → page_of d c o ≡ page
    → IsFound (by_key (entry_slot d o.entries.items) (primary_key d old)) o.ranks.blocks (Ok spot)
    → (shows : Bool) → shows ≡ option_map_or (λ s. same_values s old) (option_and_then (λ (entry : Entry). entry.present) (option_and_then (slice_get o.entries.items) (slice_get (flat o.ranks.blocks) (place o.ranks.blocks spot)))) false
    → shows ≡ is_standing page.definition old (rows_on page)
shows_standing d old c o page spot h view found shows is =
    is ∙ ap (λ (r : Option (List Value)). option_map_or (λ s. same_values s old) r false)
    (shown_of (option_and_then (slice_get o.entries.items) (slice_get (flat o.ranks.blocks) (place o.ranks.blocks spot)))
    ∙ page_entry_same d old c o page spot (option_and_then (slice_get o.entries.items) (slice_get (flat o.ranks.blocks) (place o.ranks.blocks spot))) h view found refl)

-- where there is neither an entry nor a committed row, it does not stand
pub nothing_standing : (d : TableDef) (old : List Value) (c : Committed) (o : Overlay) (page : Page) (spot : Spot)
    → Holds d (committed_slots d c) (entry_slots d o) (room_of c) o.fresh → page_of d c o ≡ page
    → IsFound (by_key (entry_slot d o.entries.items) (primary_key d old)) o.ranks.blocks (Err spot)
    → held (primary_key d old) (committed_slots d c) ≡ None → false ≡ is_standing page.definition old (rows_on page)
nothing_standing d old c o page spot h view missing none =
    ap (λ (r : Option (List Value)). option_map_or (λ s. same_values s old) r false) (page_row_same d old c o page spot None h view missing none)

-- where there is no entry, the committed row is it or not
pub compared_standing : (d : TableDef) (old : List Value) (c : Committed) (o : Overlay) (page : Page) (spot : Spot)
    → Holds d (committed_slots d c) (entry_slots d o) (room_of c) o.fresh → page_of d c o ≡ page
    → IsFound (by_key (entry_slot d o.entries.items) (primary_key d old)) o.ranks.blocks (Err spot)
    → (row : List Value) → held (primary_key d old) (committed_slots d c) ≡ Some (Some row)
    → (got : List Value) (order : Ordering) (same : Bool) → got ≡ row → order ≡ key_order got old → same ≡ is_eq order → same ≡ is_standing page.definition old (rows_on page)
compared_standing d old c o page spot h view missing row has got order same is ordered told =
    told ∙ ap is_eq (ordered ∙ ap (λ (r : List Value). key_order r old) is)
    ∙ ap (λ (r : Option (List Value)). option_map_or (λ s. same_values s old) r false) (page_row_same d old c o page spot (Some row) h view missing has)

-- what holds is so wherever a call failed
pub where_failed : {A E P : Type 0} (r : Result A E) → P → OnErr r P
where_failed (Ok a) p = tt
where_failed (Err e) p = p

-- ---- keys in the way

no_way : (o : Option ℕ) → is_some o ≡ false → o ≡ None
no_way None e = refl
no_way (Some n) e = cc

-- no row is in the way of one of the same keys
pub none_in_way : (d : TableDef) (old new : List Value) (ss : List Slot) → Sound d ss → is_standing d old (rows_in ss) ≡ true → row_fits d.columns new ≡ true → have_same_keys d old new ≡ true
    → key_in_way d new (rows_beside d (primary_key d old) (rows_in ss)) ≡ None
none_in_way d old new ss s stands fits same =
    no_way (key_in_way d new (rows_beside d (primary_key d old) (rows_in ss)))
    (keys_in_way d new (rows_beside d (primary_key d old) (rows_in ss))
    ∙ free_beside d (primary_key d old) old ss s (row_standing d old (rows_in ss) stands) new fits same)
