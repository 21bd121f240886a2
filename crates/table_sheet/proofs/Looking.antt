-- What stands where a key was found, and the row that is shown of it.
use Rattle.std.proofs.Common.{◌≡◌, ℕ, List, Option, Some, None, Ok, Err, refl, sym, ap, ◌∙◌, Bool, true, false, [], ◌∷◌, cond}
use Rattle.std.specs.Prelude.{slice_get, slice_index, is_some}
use Rattle.std.specs.Option.{option_map, option_or, option_and_then}
use Rattle.std.proofs.lemmas.Bool.{and_parts}
use Rattle.val_types.specs.declared.value.Value.{Value}
use Rattle.val_types.specs.declared.definitions.TableDef.{TableDef}
use Rattle.val_types.specs.Keys.{primary_key}
use Rattle.table_rules.specs.Stored.{row_of_key}
use Rattle.row_index.specs.block_list.Layouts.{flat}
use Rattle.row_index.specs.block_list.Spots.{place, IsFound}
use Rattle.row_index.specs.block_list.declared.spot.Spot.{Spot}
use Rattle.row_index.specs.row_sheets.Slots.{Slot, held, rows_in, is_slot_of}
use Rattle.row_index.specs.row_sheets.Claims.{row_under}
use Rattle.row_index.specs.row_sheets.Over.{over}
use Rattle.row_index.specs.row_sheets.Orders.{by_key, slots_of, NumbersRise}
use Rattle.row_index.proofs.of_row_sheets.Held.{held-over}
use Rattle.row_index.proofs.of_row_sheets.Orders.{found_at, missing_at}
use Rattle.table_sheet.specs.declared.committed.Committed.{Committed}
use Rattle.table_sheet.specs.declared.entry.Entry.{Entry}
use Rattle.table_sheet.specs.declared.overlay.Overlay.{Overlay}
use Rattle.table_sheet.specs.Numbered.{row_of, row_slot, are_numbered}
use Rattle.table_sheet.specs.Ranked.{entry_slot}
use Rattle.table_sheet.specs.Pages.{Page, Holds, rows_on}
use Rattle.table_sheet.specs.Parts.{committed_slots, entry_slots, page_of, room_of}
use Rattle.table_sheet.proofs.Shown.{sound, row_of_slot, row_is_under}
use Rattle.table_sheet.proofs.Slotted.{row_slot_is, entry_slot_is, number_here, all_at}

-- what an entry shows
abbrev pub present_of : Option Entry → Option (List Value)
present_of None = None
present_of (Some entry) = entry.present

entry_row : (d : TableDef) (entries : List Entry) (n : ℕ) (o : Option Entry) → o ≡ slice_get entries n → (entry_slot d entries n).row ≡ present_of o
entry_row d entries n None e = sym (ap (λ (s : Slot). s.row) (entry_slot_is d entries n None e))
entry_row d entries n (Some entry) e = sym (ap (λ (s : Slot). s.row) (entry_slot_is d entries n (Some entry) e))

-- the entry that was found shows what its slot holds
pub found_entry : (d : TableDef) (key : List Value) (entries : List Entry) (blocks : List (List ℕ)) (spot : Spot) (o : Option Entry)
    → NumbersRise (entry_slot d entries) (flat blocks) → IsFound (by_key (entry_slot d entries) key) blocks (Ok spot)
    → o ≡ option_and_then (slice_get entries) (slice_get (flat blocks) (place blocks spot))
    → held key (slots_of (entry_slot d entries) (flat blocks)) ≡ Some (present_of o)
found_entry d key entries blocks spot o rises found is =
    found_at (entry_slot d entries) key blocks spot rises found
    ∙ ap (λ (p : Option (List Value)). Some p)
    (entry_row d entries (slice_index (flat blocks) (place blocks spot)) o (is ∙ ap (option_and_then (slice_get entries)) (number_here blocks spot found.0)))

pub row_here : (d : TableDef) (rows : List (Option (List Value))) (n : ℕ) (o : Option (List Value)) → o ≡ row_of rows n → (row_slot d rows n).row ≡ o
row_here d rows n None e = sym (ap (λ (s : Slot). s.row) (row_slot_is d rows n None e))
row_here d rows n (Some row) e = sym (ap (λ (s : Slot). s.row) (row_slot_is d rows n (Some row) e))

found_in : (d : TableDef) (key : List Value) (rows : List (Option (List Value))) (blocks : List (List ℕ)) (spot : Spot) (o : Option (List Value))
    → NumbersRise (row_slot d rows) (flat blocks) → IsFound (by_key (row_slot d rows) key) blocks (Ok spot)
    → o ≡ option_and_then (row_of rows) (slice_get (flat blocks) (place blocks spot))
    → held key (slots_of (row_slot d rows) (flat blocks)) ≡ Some o
found_in d key rows blocks spot o rises found is =
    found_at (row_slot d rows) key blocks spot rises found
    ∙ ap (λ (p : Option (List Value)). Some p)
    (row_here d rows (slice_index (flat blocks) (place blocks spot)) o (is ∙ ap (option_and_then (row_of rows)) (number_here blocks spot found.0)))

some_is : (o : Option (List Value)) → is_some o ≡ true → Some o ≡ option_map (λ row. Some row) o
some_is None e = cc
some_is (Some row) e = refl

-- the committed row that was found is what its slot holds
pub found_row : (d : TableDef) (key : List Value) (rows : List (Option (List Value))) (blocks : List (List ℕ)) (spot : Spot) (o : Option (List Value))
    → NumbersRise (row_slot d rows) (flat blocks) → are_numbered rows (flat blocks) ≡ true → IsFound (by_key (row_slot d rows) key) blocks (Ok spot)
    → o ≡ option_and_then (row_of rows) (slice_get (flat blocks) (place blocks spot))
    → held key (slots_of (row_slot d rows) (flat blocks)) ≡ option_map (λ row. Some row) o
found_row d key rows blocks spot o rises numbered found is =
    let n = slice_index (flat blocks) (place blocks spot) in
    let row : o ≡ row_of rows n = is ∙ ap (option_and_then (row_of rows)) (number_here blocks spot found.0) in
    let some : is_some (row_of rows n) ≡ true = all_at (λ (m : ℕ). is_some (row_of rows m)) (flat blocks) (place blocks spot) n numbered (number_here blocks spot found.0) in
    found_in d key rows blocks spot o rises found is ∙ some_is o (ap (λ (p : Option (List Value)). is_some p) row ∙ some)

-- ---- the row that is shown of a key

shown_under : (d : TableDef) (key : List Value) (cs es : List Slot) (space fresh : ℕ) (o : Option (Option (List Value))) → Holds d cs es space fresh → held key (over es cs) ≡ o
    → row_of_key d key (rows_in (over es cs)) ≡ option_and_then (λ row. row) o
shown_under d key cs es space fresh o holds is =
    row_of_slot d key (over es cs) (sound d (over es cs) holds.sound) ∙ row_is_under key (over es cs) ∙ ap (option_and_then (λ row. row)) is

-- what its entry has
pub shown_by_entry : (d : TableDef) (key : List Value) (cs es : List Slot) (space fresh : ℕ) (p : Option (List Value)) → Holds d cs es space fresh → held key es ≡ Some p
    → p ≡ row_of_key d key (rows_in (over es cs))
shown_by_entry d key cs es space fresh p holds has =
    sym (shown_under d key cs es space fresh (Some p) holds (held-over key es cs holds.rising ∙ ap (λ (o : Option (Option (List Value))). option_or o (held key cs)) has))

-- where there is no entry, the committed row
pub shown_by_row : (d : TableDef) (key : List Value) (cs es : List Slot) (space fresh : ℕ) (p : Option (Option (List Value))) → Holds d cs es space fresh → held key es ≡ None → held key cs ≡ p
    → option_and_then (λ row. row) p ≡ row_of_key d key (rows_in (over es cs))
shown_by_row d key cs es space fresh p holds none has =
    sym (shown_under d key cs es space fresh p holds (held-over key es cs holds.rising ∙ ap (λ (o : Option (Option (List Value))). option_or o (held key cs)) none ∙ has))

-- ---- on the page

some_row : (o : Option (List Value)) → option_and_then (λ (row : Option (List Value)). row) (option_map (λ (row : List Value). Some row) o) ≡ o
some_row None = refl
some_row (Some row) = refl

-- the row that is shown of a key is that of its entry
pub page_entry : (d : TableDef) (key : List Value) (c : Committed) (o : Overlay) (page : Page) (spot : Spot) (e : Option Entry)
    → Holds d (committed_slots d c) (entry_slots d o) (room_of c) o.fresh → page_of d c o ≡ page
    → IsFound (by_key (entry_slot d o.entries.items) key) o.ranks.blocks (Ok spot)
    → e ≡ option_and_then (slice_get o.entries.items) (slice_get (flat o.ranks.blocks) (place o.ranks.blocks spot))
    → present_of e ≡ row_of_key page.definition key (rows_on page)
page_entry d key c o page spot e holds view found is =
    shown_by_entry d key (committed_slots d c) (entry_slots d o) (room_of c) o.fresh (present_of e) holds
    (found_entry d key o.entries.items o.ranks.blocks spot e holds.rising found is)
    ∙ ap (λ (p : Page). row_of_key p.definition key (rows_on p)) view

-- where it has no entry, it is the committed one
pub page_row : (d : TableDef) (key : List Value) (c : Committed) (o : Overlay) (page : Page) (spot : Spot) (row : Option (List Value))
    → Holds d (committed_slots d c) (entry_slots d o) (room_of c) o.fresh → page_of d c o ≡ page
    → IsFound (by_key (entry_slot d o.entries.items) key) o.ranks.blocks (Err spot)
    → held key (committed_slots d c) ≡ option_map (λ row. Some row) row
    → row ≡ row_of_key page.definition key (rows_on page)
page_row d key c o page spot row holds view missing has =
    sym (some_row row)
    ∙ shown_by_row d key (committed_slots d c) (entry_slots d o) (room_of c) o.fresh (option_map (λ row. Some row) row) holds
    (missing_at (entry_slot d o.entries.items) key o.ranks.blocks spot missing) has
    ∙ ap (λ (p : Page). row_of_key p.definition key (rows_on p)) view

-- the same for the key of a row
pub page_entry_same : (d : TableDef) (row : List Value) (c : Committed) (o : Overlay) (page : Page) (spot : Spot) (e : Option Entry)
    → Holds d (committed_slots d c) (entry_slots d o) (room_of c) o.fresh → page_of d c o ≡ page
    → IsFound (by_key (entry_slot d o.entries.items) (primary_key d row)) o.ranks.blocks (Ok spot)
    → e ≡ option_and_then (slice_get o.entries.items) (slice_get (flat o.ranks.blocks) (place o.ranks.blocks spot))
    → present_of e ≡ row_of_key page.definition (primary_key page.definition row) (rows_on page)
page_entry_same d row c o page spot e holds view found is =
    page_entry d (primary_key d row) c o page spot e holds view found is
    ∙ ap (λ (p : Page). row_of_key page.definition (primary_key p.definition row) (rows_on page)) view

pub page_row_same : (d : TableDef) (row : List Value) (c : Committed) (o : Overlay) (page : Page) (spot : Spot) (r : Option (List Value))
    → Holds d (committed_slots d c) (entry_slots d o) (room_of c) o.fresh → page_of d c o ≡ page
    → IsFound (by_key (entry_slot d o.entries.items) (primary_key d row)) o.ranks.blocks (Err spot)
    → held (primary_key d row) (committed_slots d c) ≡ option_map (λ row. Some row) r
    → r ≡ row_of_key page.definition (primary_key page.definition row) (rows_on page)
page_row_same d row c o page spot r holds view missing has =
    page_row d (primary_key d row) c o page spot r holds view missing has
    ∙ ap (λ (p : Page). row_of_key page.definition (primary_key p.definition row) (rows_on page)) view

-- what stands where an entry was found is the row that is shown
pub page_found : (d : TableDef) (key : List Value) (c : Committed) (o : Overlay) (page : Page) (spot : Spot)
    → Holds d (committed_slots d c) (entry_slots d o) (room_of c) o.fresh → page_of d c o ≡ page
    → IsFound (by_key (entry_slot d o.entries.items) key) o.ranks.blocks (Ok spot)
    → (entry_slot d o.entries.items (slice_index (flat o.ranks.blocks) (place o.ranks.blocks spot))).row ≡ row_of_key page.definition key (rows_on page)
page_found d key c o page spot holds view found =
    shown_by_entry d key (committed_slots d c) (entry_slots d o) (room_of c) o.fresh (entry_slot d o.entries.items (slice_index (flat o.ranks.blocks) (place o.ranks.blocks spot))).row holds
    (found_at (entry_slot d o.entries.items) key o.ranks.blocks spot holds.rising found)
    ∙ ap (λ (p : Page). row_of_key p.definition key (rows_on p)) view

full_step : (here : Bool) (o : Option (List Value)) (rest : Option (Option (List Value))) → is_some o ≡ true → rest ≡ option_map (λ row. Some row) (option_and_then (λ row. row) rest)
    → cond here (Some o) rest ≡ option_map (λ row. Some row) (option_and_then (λ row. row) (cond here (Some o) rest))
full_step true None rest some later = cc
full_step true (Some row) rest some later = refl
full_step false o rest some later = later

-- committed slots have rows
pub full_held : (d : TableDef) (rows : List (Option (List Value))) (ns : List ℕ) (key : List Value) → are_numbered rows ns ≡ true
    → held key (slots_of (row_slot d rows) ns) ≡ option_map (λ row. Some row) (row_under key (slots_of (row_slot d rows) ns))
full_held d rows [] key numbered = refl
full_held d rows (n ∷ ns) key numbered =
    let both = and_parts (is_some (row_of rows n)) (are_numbered rows ns) numbered in
    full_step (is_slot_of key (row_slot d rows n)) (row_slot d rows n).row (held key (slots_of (row_slot d rows) ns))
    (ap (λ (p : Option (List Value)). is_some p) (row_here d rows n (row_of rows n) refl) ∙ both.0) (full_held d rows ns key both.1)
