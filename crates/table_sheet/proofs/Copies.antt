-- A sheet once more: its slots, and the indexes beside them.
use Rattle.std.proofs.Common.{◌≡◌, ℕ, ◌<◌, ◌≤◌, List, length, Option, sym, ap, subst, ◌∙◌, arith}
use Rattle.val_types.specs.declared.value.Value.{Value}
use Rattle.val_types.specs.declared.definitions.TableDef.{TableDef}
use Rattle.row_index.specs.block_list.Layouts.{flat, holds}
use Rattle.row_index.specs.row_sheets.Slots.{Slot, rows_in}
use Rattle.row_index.specs.row_sheets.Orders.{slots_of}
use Rattle.row_index.specs.row_indexes.Indexes.{IsIndexOf}
use Rattle.row_index.specs.Numbers.{number_slots}
use Rattle.row_index.specs.Lists.{list_at, numbers_at}
use Rattle.table_sheet.specs.declared.committed.Committed.{Committed}
use Rattle.table_sheet.specs.declared.entry.Entry.{Entry}
use Rattle.table_sheet.specs.declared.overlay.Overlay.{Overlay}
use Rattle.table_sheet.specs.Numbered.{row_of, row_slot}
use Rattle.table_sheet.specs.Ranked.{entry_slot, shown_by}
use Rattle.table_sheet.specs.Pages.{Holds}
use Rattle.table_sheet.specs.Parts.{committed_slots, entry_slots}
use Rattle.table_sheet.specs.Indexed.{AreKept, IsAbove, IsIndexed}
use Rattle.table_sheet.proofs.Above.{all_hold}

-- the same slots, and room for all that is new
pub copied_holds : (d : TableDef) (cs cs' es es' : List Slot) (space space' fresh fresh' : ℕ) → Holds d cs es space fresh → cs' ≡ cs → es' ≡ es → fresh' ≡ fresh → fresh ≤ space' → Holds d cs' es' space' fresh'
copied_holds d cs cs' es es' space space' fresh fresh' h same also equal fits =
    subst (λ (x : List Slot). Holds d x es' space' fresh') (sym same)
    (subst (λ (x : List Slot). Holds d cs x space' fresh') (sym also)
    (subst (λ (n : ℕ). Holds d cs es space' n) (sym equal) (record { whole = h.whole; rising = h.rising; own = h.own; sound = h.sound; counted = h.counted; enough = fits; few = h.few })))

module _ (d : TableDef) (c c' : Committed) (rows : c'.rows.rows ≡ c.rows.rows) (order : flat c'.order.blocks ≡ flat c.order.blocks) where
  pub copied_slots : committed_slots d c' ≡ committed_slots d c
  copied_slots = ap (λ (rs : List (Option (List Value))). slots_of (row_slot d rs) (flat c'.order.blocks)) rows ∙ ap (slots_of (row_slot d c.rows.rows)) order

  -- the indexes beside committed rows, of which none holds anything yet
  pub copied_kept : AreKept d.uniques (row_of c.rows.rows) c.indexes.items (rows_in (committed_slots d c)) c.hold → ((which : ℕ) → numbers_at c'.indexes.items which ≡ numbers_at c.indexes.items which) → c'.hold ≡ 0
      → AreKept d.uniques (row_of c'.rows.rows) c'.indexes.items (rows_in (committed_slots d c)) c'.hold
  copied_kept kept numbers hold = record {
    indexes = λ which u e.
        subst (λ (ns : List ℕ). IsIndexOf u (number_slots u (row_of c'.rows.rows) ns) (rows_in (committed_slots d c))) (sym (numbers which))
        (subst (λ (rs : List (Option (List Value))). IsIndexOf u (number_slots u (row_of rs) (numbers_at c.indexes.items which)) (rows_in (committed_slots d c))) (sym rows) (kept.indexes which u e));
    hold = λ which u e. omega (arith, hold);
  }

module _ (d : TableDef) (o o' : Overlay) (entries : o'.entries.items ≡ o.entries.items) (ranks : flat o'.ranks.blocks ≡ flat o.ranks.blocks) where
  pub copied_entries : entry_slots d o' ≡ entry_slots d o
  copied_entries = ap (λ (es : List Entry). slots_of (entry_slot d es) (flat o'.ranks.blocks)) entries ∙ ap (slots_of (entry_slot d o.entries.items)) ranks

  -- those beside entries, which hold a number for each
  pub copied_above : (keys : ℕ) → IsAbove d o → ((which : ℕ) → numbers_at o'.indexes.items which ≡ numbers_at o.indexes.items which) → length d.uniques ≤ keys
      → ((which : ℕ) → which < keys → length (flat o.ranks.blocks) ≤ holds (list_at o'.indexes.items which)) → IsAbove d o'
  copied_above keys above numbers few hold = record {
    indexes = λ which u e.
        subst (λ (ss : List Slot). IsIndexOf u (number_slots u (shown_by o'.entries.items) (numbers_at o'.indexes.items which)) (rows_in ss)) (sym copied_entries)
        (subst (λ (ns : List ℕ). IsIndexOf u (number_slots u (shown_by o'.entries.items) ns) (rows_in (entry_slots d o))) (sym (numbers which))
        (subst (λ (es : List Entry). IsIndexOf u (number_slots u (shown_by es) (numbers_at o.indexes.items which)) (rows_in (entry_slots d o))) (sym entries) (above.indexes which u e)));
    hold = all_hold d.uniques o'.indexes.items keys (length (flat o'.ranks.blocks)) few (λ which h. subst (λ (ns : List ℕ). length ns ≤ holds (list_at o'.indexes.items which)) (sym ranks) (hold which h));
  }

-- all of it, with room made for the committed rows of the copy
pub copied_indexed : (d : TableDef) (c c'' : Committed) (o' : Overlay) → committed_slots d c'' ≡ committed_slots d c → IsAbove d o'
    → AreKept d.uniques (row_of c''.rows.rows) c''.indexes.items (rows_in (committed_slots d c)) c''.hold → length (flat c''.order.blocks) ≤ c''.hold → IsIndexed d c'' o'
copied_indexed d c c'' o' same above kept fits = record {
  below = record {
    kept = subst (λ (ss : List Slot). AreKept d.uniques (row_of c''.rows.rows) c''.indexes.items (rows_in ss) c''.hold) (sym same) kept;
    fits = fits;
  };
  above = above;
}
