-- The page of a sheet after an entry was set or made.
use Rattle.std.proofs.Common.{◌≡◌, ℕ, ◌+◌, ◌≤◌, ◌^◌, List, length, Bool, true, false, ◌||◌, Option, Some, None, Ok, Err, refl, sym, ap, subst, ◌∙◌, arith}
use Rattle.std.specs.Prelude.{slice_index, Result, OnOk, OnErr}
use Rattle.std.specs.List.{list_any}
use Rattle.std.specs.Option.{option_map, option_and_then}
use Rattle.std.proofs.lemmas.List.{length-map}
use Rattle.val_types.specs.declared.value.Value.{Value}
use Rattle.val_types.specs.declared.definitions.TableDef.{TableDef}
use Rattle.val_types.specs.Fitting.{row_fits}
use Rattle.val_types.specs.Keys.{primary_key, same_values, collide}
use Rattle.table_rules.specs.Changes.{with_row}
use Rattle.table_rules.specs.Stored.{rows_beside}
use Rattle.table_rules.specs.Stores.{is_among}
use Rattle.table_rules.proofs.Taking.{same_self}
use Rattle.table_rules.proofs.Storing.{key_is}
use Rattle.row_index.specs.block_list.Layouts.{flat}
use Rattle.row_index.specs.block_list.Spots.{place, IsFound}
use Rattle.row_index.specs.block_list.declared.spot.Spot.{Spot}
use Rattle.row_index.specs.row_sheets.Slots.{Slot, held, fill, with_slot, keys_in, rows_in, is_sound}
use Rattle.row_index.specs.row_sheets.Over.{over}
use Rattle.row_index.specs.row_sheets.Orders.{by_key, slots_of}
use Rattle.row_index.proofs.of_row_sheets.Orders.{found_at, missing_at}
use Rattle.table_sheet.specs.declared.committed.Committed.{Committed}
use Rattle.table_sheet.specs.declared.overlay.Overlay.{Overlay}
use Rattle.table_sheet.specs.Numbered.{row_slot}
use Rattle.table_sheet.specs.Ranked.{entry_slot}
use Rattle.table_sheet.specs.Pages.{Page, Holds, Stays, has_entry, rows_on}
use Rattle.table_sheet.specs.Parts.{committed_slots, entry_slots, room_of, page_of}
use Rattle.table_sheet.proofs.Shown.{keys_filled, among_with, sound, row_of_slot, row_is_under}
use Rattle.table_sheet.proofs.Entering.{one, over_one, is_there, not_there}
use Rattle.table_sheet.proofs.Keeping.{with_more, out_set, out_set_rows, out_hidden, out_hidden_rows, in_set, in_set_rows, in_new, in_new_rows, none_below}

or_first : (a b : Bool) → a ≡ true → (a || b) ≡ true
or_first true b e = refl
or_first false b e = cc

or_second : (a b : Bool) → b ≡ true → (a || b) ≡ true
or_second true b e = refl
or_second false b e = e

-- rows and order that stay are the same slots
pub same_committed : (d : TableDef) (c c' : Committed) → c'.rows.rows ≡ c.rows.rows → c'.order.blocks ≡ c.order.blocks → committed_slots d c' ≡ committed_slots d c
same_committed d c c' rows order =
    ap (λ (rs : List (Option (List Value))). slots_of (row_slot d rs) (flat c'.order.blocks)) rows ∙ ap (λ (bs : List (List ℕ)). slots_of (row_slot d c.rows.rows) (flat bs)) order

module _ (d : TableDef) (c c' : Committed) (o o' : Overlay) (page : Page) (h : Holds d (committed_slots d c) (entry_slots d o) (room_of c) o.fresh) (view : page_of d c o ≡ page)
    (below : committed_slots d c' ≡ committed_slots d c) (space : room_of c ≤ room_of c') where
  pub moved : (es : List Slot) (fresh : ℕ) → entry_slots d o' ≡ es → o'.fresh ≡ fresh → Holds d (committed_slots d c) es (room_of c') fresh → Holds d (committed_slots d c') (entry_slots d o') (room_of c') o'.fresh
  moved es fresh entries same holds =
      subst (λ (cs : List Slot). Holds d cs (entry_slots d o') (room_of c') o'.fresh) (sym below)
      (subst (λ (xs : List Slot). Holds d (committed_slots d c) xs (room_of c') o'.fresh) (sym entries)
      (subst (λ (n : ℕ). Holds d (committed_slots d c) es (room_of c') n) (sym same) holds))

  pub shown_as : (es : List Slot) → entry_slots d o' ≡ es → rows_on (page_of d c' o') ≡ rows_in (over es (committed_slots d c))
  shown_as es entries =
      ap (λ (xs : List Slot). rows_in (over xs (committed_slots d c'))) entries ∙ ap (λ (cs : List Slot). rows_in (over es cs)) below

  stays_with : ((k : List Value) → is_among k (keys_in (entry_slots d o)) ≡ true → is_among k (keys_in (entry_slots d o')) ≡ true) → Stays page (page_of d c' o')
  stays_with keeps = record {
    definition = ap (λ (p : Page). p.definition) view;
    committed = below ∙ ap (λ (p : Page). p.committed) view;
    entries = λ k there. keeps k (ap (λ (p : Page). has_entry k p) view ∙ there);
    room = subst (λ (p : Page). p.room ≤ room_of c') view space;
  }

  -- ---- nothing set

  pub same_holds : entry_slots d o' ≡ entry_slots d o → o'.fresh ≡ o.fresh → Holds d (committed_slots d c') (entry_slots d o') (room_of c') o'.fresh
  same_holds entries same = moved (entry_slots d o) o.fresh entries same (with_more d (committed_slots d c) (entry_slots d o) (room_of c) o.fresh h (room_of c') space)

  pub same_stays : entry_slots d o' ≡ entry_slots d o → Stays page (page_of d c' o')
  same_stays entries = stays_with (λ k there. ap (λ (xs : List Slot). is_among k (keys_in xs)) entries ∙ there)

  pub same_rows : entry_slots d o' ≡ entry_slots d o → rows_on (page_of d c' o') ≡ rows_on page
  same_rows entries = shown_as (entry_slots d o) entries ∙ ap rows_on view

  -- ---- an entry set

  module _ (key : List Value) (spot : Spot) (found : IsFound (by_key (entry_slot d o.entries.items) key) o.ranks.blocks (Ok spot)) where
    abbrev was : Option (List Value)
    was = (entry_slot d o.entries.items (slice_index (flat o.ranks.blocks) (place o.ranks.blocks spot))).row

    has : held key (entry_slots d o) ≡ Some was
    has = found_at (entry_slot d o.entries.items) key o.ranks.blocks spot h.rising found

    pub set_stays : (p : Option (List Value)) → entry_slots d o' ≡ fill key p (entry_slots d o) → Stays page (page_of d c' o')
    set_stays p entries = stays_with (λ k there. ap (λ (xs : List Slot). is_among k (keys_in xs)) entries ∙ ap (is_among k) (keys_filled key p (entry_slots d o)) ∙ there)

    pub set_entry : (p : Option (List Value)) → entry_slots d o' ≡ fill key p (entry_slots d o) → has_entry key (page_of d c' o') ≡ true
    set_entry p entries =
        ap (λ (xs : List Slot). is_among key (keys_in xs)) entries ∙ ap (is_among key) (keys_filled key p (entry_slots d o)) ∙ is_there key was (entry_slots d o) has

    -- its row taken out
    module _ (entries : entry_slots d o' ≡ fill key None (entry_slots d o)) (same : o'.fresh ≡ o.fresh) where
      pub set_out_holds : Holds d (committed_slots d c') (entry_slots d o') (room_of c') o'.fresh
      set_out_holds =
          moved (fill key None (entry_slots d o)) o.fresh entries same
          (with_more d (committed_slots d c) (fill key None (entry_slots d o)) (room_of c) o.fresh (out_set d (committed_slots d c) (entry_slots d o) (room_of c) o.fresh h key was has) (room_of c') space)

      pub set_out_rows : rows_on (page_of d c' o') ≡ rows_beside page.definition key (rows_on page)
      set_out_rows =
          shown_as (fill key None (entry_slots d o)) entries ∙ out_set_rows d (committed_slots d c) (entry_slots d o) (room_of c) o.fresh h key was has
          ∙ ap (λ (p : Page). rows_beside p.definition key (rows_on p)) view

  -- ---- an entry made

  module _ (key : List Value) (p : Option (List Value)) (spot : Spot) (missing : IsFound (by_key (entry_slot d o.entries.items) key) o.ranks.blocks (Err spot))
      (entries : entry_slots d o' ≡ over (one key p) (entry_slots d o)) where
    pub no_entry : held key (entry_slots d o) ≡ None
    no_entry = missing_at (entry_slot d o.entries.items) key o.ranks.blocks spot missing

    keys_made : (k : List Value) → is_among k (keys_in (entry_slots d o')) ≡ (same_values k key || is_among k (keys_in (entry_slots d o)))
    keys_made k =
        ap (λ (xs : List Slot). is_among k (keys_in xs)) (entries ∙ over_one key p (entry_slots d o) h.rising no_entry)
        ∙ ap (is_among k) (keys_filled key p (with_slot key (entry_slots d o))) ∙ among_with k key (entry_slots d o)

    pub made_stays : Stays page (page_of d c' o')
    made_stays = stays_with (λ k there. keys_made k ∙ or_second (same_values k key) (is_among k (keys_in (entry_slots d o))) there)

    pub made_entry : has_entry key (page_of d c' o') ≡ true
    made_entry = keys_made key ∙ or_first (same_values key key) (is_among key (keys_in (entry_slots d o))) (same_self key)

  -- one that hides a committed row
  module _ (key row : List Value) (spot : Spot) (missing : IsFound (by_key (entry_slot d o.entries.items) key) o.ranks.blocks (Err spot))
      (entries : entry_slots d o' ≡ over (one key None) (entry_slots d o)) (same : o'.fresh ≡ o.fresh) (has_row : held key (committed_slots d c) ≡ Some (Some row)) where
    pub hidden_holds : Holds d (committed_slots d c') (entry_slots d o') (room_of c') o'.fresh
    hidden_holds =
        moved (over (one key None) (entry_slots d o)) o.fresh entries same
        (with_more d (committed_slots d c) (over (one key None) (entry_slots d o)) (room_of c) o.fresh
        (out_hidden d (committed_slots d c) (entry_slots d o) (room_of c) o.fresh h key (Some row) (missing_at (entry_slot d o.entries.items) key o.ranks.blocks spot missing) has_row) (room_of c') space)

    pub hidden_rows : rows_on (page_of d c' o') ≡ rows_beside page.definition key (rows_on page)
    hidden_rows =
        shown_as (over (one key None) (entry_slots d o)) entries
        ∙ out_hidden_rows d (committed_slots d c) (entry_slots d o) (room_of c) o.fresh h key (Some row) (missing_at (entry_slot d o.entries.items) key o.ranks.blocks spot missing) has_row
        ∙ ap (λ (p : Page). rows_beside p.definition key (rows_on p)) view

  -- ---- a row put

  module _ (row : List Value) (fits : row_fits page.definition.columns row ≡ true) (free : list_any (collide page.definition row) (rows_on page) ≡ false) where
    own_definition : d ≡ page.definition
    own_definition = ap (λ (p : Page). p.definition) view

    fits_own : row_fits d.columns row ≡ true
    fits_own = ap (λ (x : TableDef). row_fits x.columns row) own_definition ∙ fits

    free_own : list_any (collide d row) (rows_in (over (entry_slots d o) (committed_slots d c))) ≡ false
    free_own = ap (λ (p : Page). list_any (collide p.definition row) (rows_on p)) view ∙ free

    module _ (spot : Spot) (found : IsFound (by_key (entry_slot d o.entries.items) (primary_key d row)) o.ranks.blocks (Ok spot))
        (entries : entry_slots d o' ≡ fill (primary_key d row) (Some row) (entry_slots d o)) (same : o'.fresh ≡ o.fresh) where
      pub set_in_holds : Holds d (committed_slots d c') (entry_slots d o') (room_of c') o'.fresh
      set_in_holds =
          moved (fill (primary_key d row) (Some row) (entry_slots d o)) o.fresh entries same
          (with_more d (committed_slots d c) (fill (primary_key d row) (Some row) (entry_slots d o)) (room_of c) o.fresh
          (in_set d (committed_slots d c) (entry_slots d o) (room_of c) o.fresh h row fits_own free_own (was (primary_key d row) spot found) (has (primary_key d row) spot found)) (room_of c') space)

      pub set_in_rows : rows_on (page_of d c' o') ≡ with_row page.definition row (rows_on page)
      set_in_rows =
          shown_as (fill (primary_key d row) (Some row) (entry_slots d o)) entries
          ∙ in_set_rows d (committed_slots d c) (entry_slots d o) (room_of c) o.fresh h row fits_own free_own (was (primary_key d row) spot found) (has (primary_key d row) spot found)
          ∙ ap (λ (p : Page). with_row p.definition row (rows_on p)) view

    module _ (spot : Spot) (missing : IsFound (by_key (entry_slot d o.entries.items) (primary_key d row)) o.ranks.blocks (Err spot))
        (entries : entry_slots d o' ≡ over (one (primary_key d row) (Some row)) (entry_slots d o)) (one_more : o'.fresh ≡ o.fresh + 1)
        (kept : Option (List Value)) (has_row : held (primary_key d row) (committed_slots d c) ≡ option_map (λ r. Some r) kept)
        (enough : o.fresh + 1 ≤ room_of c') (few : length (flat c.order.blocks) + (o.fresh + 1) ≤ 2 ^ 32) where
      none_there : held (primary_key d row) (entry_slots d o) ≡ None
      none_there = missing_at (entry_slot d o.entries.items) (primary_key d row) o.ranks.blocks spot missing

      none_committed : held (primary_key d row) (committed_slots d c) ≡ None
      none_committed = none_below d (committed_slots d c) (entry_slots d o) (room_of c) o.fresh h row fits_own free_own none_there kept has_row

      pub made_in_holds : Holds d (committed_slots d c') (entry_slots d o') (room_of c') o'.fresh
      made_in_holds =
          moved (over (one (primary_key d row) (Some row)) (entry_slots d o)) (o.fresh + 1) entries one_more
          (in_new d (committed_slots d c) (entry_slots d o) (room_of c) o.fresh h row fits_own free_own (room_of c') none_there none_committed enough
          (omega (arith, few, length-map (flat c.order.blocks) (row_slot d c.rows.rows))))

      pub made_in_rows : rows_on (page_of d c' o') ≡ with_row page.definition row (rows_on page)
      made_in_rows =
          shown_as (over (one (primary_key d row) (Some row)) (entry_slots d o)) entries
          ∙ in_new_rows d (committed_slots d c) (entry_slots d o) (room_of c) o.fresh h row fits_own free_own none_there none_committed
          ∙ ap (λ (p : Page). with_row p.definition row (rows_on p)) view

-- ---- by what a call answers

pub either_way : {E A B C D G : Type 0} (r : Result (Unit {0}) E) → OnOk r A → OnOk r B → OnErr r C → OnErr r D → (A → B → G) → (C → D → G) → G
either_way (Ok done) a b c d f g = f a b
either_way (Err e) a b c d f g = g c d

-- the key of a committed row
pub key_of_row : (d : TableDef) (key row : List Value) (cs : List Slot) → is_sound d cs ≡ true → held key cs ≡ Some (Some row) → primary_key d row ≡ key
key_of_row d key row cs whole has =
    sym (key_is d key row (rows_in cs) (row_of_slot d key cs (sound d cs whole) ∙ row_is_under key cs ∙ ap (option_and_then (λ r. r)) has))

-- an entry that was made for a row of a key
pub made_for : (d : TableDef) (key bearer : List Value) (p : Option (List Value)) (o o' : Overlay) (spot : Spot) → primary_key d bearer ≡ key
    → (IsFound (by_key (entry_slot d o.entries.items) (primary_key d bearer)) o.ranks.blocks (Err spot) → entry_slots d o' ≡ over (one (primary_key d bearer) p) (entry_slots d o))
    → IsFound (by_key (entry_slot d o.entries.items) key) o.ranks.blocks (Err spot) → entry_slots d o' ≡ over (one key p) (entry_slots d o)
made_for d key bearer p o o' spot own made missing =
    subst (λ (k : List Value). IsFound (by_key (entry_slot d o.entries.items) k) o.ranks.blocks (Err spot) → entry_slots d o' ≡ over (one k p) (entry_slots d o)) own made missing

-- where a row's key was looked for by another holder of the row
pub found_same : (d : TableDef) (a b : List Value) (o : Overlay) (r : Result Spot Spot) → a ≡ b → IsFound (by_key (entry_slot d o.entries.items) (primary_key d a)) o.ranks.blocks r
    → IsFound (by_key (entry_slot d o.entries.items) (primary_key d b)) o.ranks.blocks r
found_same d a b o r same found = subst (λ (row : List Value). IsFound (by_key (entry_slot d o.entries.items) (primary_key d row)) o.ranks.blocks r) same found

-- a key that has an entry is found
pub entry_found : {G : Type 0} (d : TableDef) (row : List Value) (c : Committed) (o : Overlay) (page : Page) (spot : Spot) → page_of d c o ≡ page
    → IsFound (by_key (entry_slot d o.entries.items) (primary_key d row)) o.ranks.blocks (Err spot) → has_entry (primary_key page.definition row) page ≡ true → G
entry_found d row c o page spot view missing there =
    let none : is_among (primary_key d row) (keys_in (entry_slots d o)) ≡ false = not_there (primary_key d row) (entry_slots d o) (missing_at (entry_slot d o.entries.items) (primary_key d row) o.ranks.blocks spot missing) in
    let some : is_among (primary_key d row) (keys_in (entry_slots d o)) ≡ true = ap (λ (p : Page). has_entry (primary_key p.definition row) p) view ∙ there in
    let never : false ≡ true = sym none ∙ some in cc
