-- Rows that are apart on each unique key, as what holds of a sheet says, and its indexes behind a change.
use Rattle.std.proofs.Common.{◌≡◌, ℕ, ◌≤◌, List, [], length, Option, Ok, Err, refl, sym, ap, subst, ◌∙◌, arith}
use Rattle.std.specs.Prelude.{Result, OnOk, OnErr}
use Rattle.std.specs.Option.{option_or}
use Rattle.val_types.specs.declared.value.Value.{Value}
use Rattle.val_types.specs.declared.definitions.TableDef.{TableDef}
use Rattle.val_types.specs.Keys.{primary_key}
use Rattle.row_index.specs.block_list.Layouts.{flat}
use Rattle.row_index.specs.block_list.Spots.{IsFound}
use Rattle.row_index.specs.block_list.declared.spot.Spot.{Spot}
use Rattle.row_index.specs.row_sheets.Slots.{Slot, held, rows_in}
use Rattle.row_index.specs.row_sheets.Orders.{by_key, slots_of}
use Rattle.row_index.specs.row_sheets.Over.{over}
use Rattle.row_index.proofs.of_row_sheets.Held.{held-over}
use Rattle.row_index.proofs.of_row_sheets.Sheets.{sound_is_apart}
use Rattle.row_index.proofs.Changing.{apart_among}
use Rattle.table_sheet.specs.declared.committed.Committed.{Committed}
use Rattle.table_sheet.specs.declared.overlay.Overlay.{Overlay}
use Rattle.table_sheet.specs.Numbered.{row_of, row_slot}
use Rattle.table_sheet.specs.Ranked.{entry_slot}
use Rattle.table_sheet.specs.Pages.{Holds}
use Rattle.table_sheet.specs.Parts.{committed_slots, entry_slots, room_of}
use Rattle.table_sheet.specs.Indexed.{AreAllApart, AreKept, IsAbove, IsBelow, IsIndexed}
use Rattle.table_sheet.proofs.Turning.{same_committed}

module _ (d : TableDef) (cs es : List Slot) (space fresh : ℕ) (h : Holds d cs es space fresh) where
  pub apart_below : AreAllApart d.uniques cs
  apart_below = λ which u e. sound_is_apart d which u cs h.whole e

  pub apart_shown : AreAllApart d.uniques (over es cs)
  apart_shown = λ which u e. sound_is_apart d which u (over es cs) h.sound e

  -- the rows of entries are shown
  pub apart_above : AreAllApart d.uniques es
  apart_above = λ which u e.
      apart_among u es (over es cs) (λ key row has. held-over key es cs h.rising ∙ ap (λ (o : Option (Option (List Value))). option_or o (held key cs)) has) (apart_shown which u e)

-- the indexes once entries are changed, and committed rows are not
pub above_changed : (d : TableDef) (c : Committed) (o o' : Overlay) → IsIndexed d c o → Holds d (committed_slots d c) (entry_slots d o') (room_of c) o'.fresh → (AreAllApart d.uniques (entry_slots d o') → IsAbove d o') → IsIndexed d c o'
above_changed d c o o' was h made = record { below = was.below; above = made (apart_above d (committed_slots d c) (entry_slots d o') (room_of c) o'.fresh h) }

-- the same where an entry is made, or is not
pub above_added : {E M : Type 0} (d : TableDef) (c : Committed) (o o' : Overlay) → IsIndexed d c o → Holds d (committed_slots d c) (entry_slots d o') (room_of c) o'.fresh → (r : Result (Unit {0}) E)
    → OnOk r (M → AreAllApart d.uniques (entry_slots d o') → IsAbove d o') → OnErr r (IsAbove d o') → M → IsIndexed d c o'
above_added d c o o' was h (Ok done) made same missing = record { below = was.below; above = made missing (apart_above d (committed_slots d c) (entry_slots d o') (room_of c) o'.fresh h) }
above_added d c o o' was h (Err e) made same missing = record { below = was.below; above = same }

-- a key that was looked for as that of another row
pub found_as : (d : TableDef) (o : Overlay) (spot : Spot) (key bearer : List Value) → primary_key d bearer ≡ key → IsFound (by_key (entry_slot d o.entries.items) key) o.ranks.blocks (Err spot)
    → IsFound (by_key (entry_slot d o.entries.items) (primary_key d bearer)) o.ranks.blocks (Err spot)
found_as d o spot key bearer own found = subst (λ (k : List Value). IsFound (by_key (entry_slot d o.entries.items) k) o.ranks.blocks (Err spot)) (sym own) found

-- more room for committed rows
pub roomed : (d : TableDef) (c c' : Committed) (o : Overlay) → IsIndexed d c o → c'.rows.rows ≡ c.rows.rows → c'.order.blocks ≡ c.order.blocks
    → (AreKept d.uniques (row_of c.rows.rows) c.indexes.items (rows_in (committed_slots d c)) c.hold → AreKept d.uniques (row_of c'.rows.rows) c'.indexes.items (rows_in (committed_slots d c)) c'.hold) → c.hold ≤ c'.hold → IsIndexed d c' o
roomed d c c' o was rows order kept more = record {
  below = record {
    kept = subst (λ (ss : List Slot). AreKept d.uniques (row_of c'.rows.rows) c'.indexes.items (rows_in ss) c'.hold) (sym (same_committed d c c' rows order)) (kept was.below.kept);
    fits = omega (arith, was.below.fits, more, ap (λ (bs : List (List ℕ)). length (flat bs)) order);
  };
  above = was.above;
}

-- a sheet without rows
pub nothing_indexed : (d : TableDef) (c : Committed) (o : Overlay) → flat c.order.blocks ≡ [] → IsBelow d c [] → IsAbove d o → IsIndexed d c o
nothing_indexed d c o none below above = record {
  below = subst (λ (ns : List ℕ). IsBelow d c (rows_in (slots_of (row_slot d c.rows.rows) ns))) (sym none) below;
  above = above;
}

-- entries that are set aside, put back or dropped
pub above_instead : (d : TableDef) (c : Committed) (o o' : Overlay) → IsIndexed d c o → IsAbove d o' → IsIndexed d c o'
above_instead d c o o' was above = record { below = was.below; above = above }

-- what holds where no entry is left
pub bare_holds : (d : TableDef) (cs es : List Slot) (space fresh : ℕ) → Holds d cs es space fresh → (none : List Slot) → none ≡ [] → (n : ℕ) → n ≡ 0 → Holds d cs none space n
bare_holds d cs es space fresh h none empty n zero =
    subst (λ (xs : List Slot). Holds d cs xs space n) (sym empty)
    (subst (λ (m : ℕ). Holds d cs [] space m) (sym zero) (record { whole = h.whole; rising = refl; own = refl; sound = h.whole; counted = refl; enough = omega arith; few = omega (arith, h.few) }))

-- what holds without rows
pub nothing_holds : (d : TableDef) (cs es : List Slot) (space fresh : ℕ) → cs ≡ [] → es ≡ [] → fresh ≡ 0 → Holds d cs es space fresh
nothing_holds d cs es space fresh no_rows no_entries zero =
    subst (λ (ss : List Slot). Holds d ss es space fresh) (sym no_rows)
    (subst (λ (ss : List Slot). Holds d [] ss space fresh) (sym no_entries)
    (subst (λ (n : ℕ). Holds d [] [] space n) (sym zero) (record { whole = refl; rising = refl; own = refl; sound = refl; counted = refl; enough = omega arith; few = omega arith })))
