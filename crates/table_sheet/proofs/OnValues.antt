-- The row that is shown with some values of a unique key, by the indexes beside entries and committed rows.
use Rattle.std.proofs.Common.{◌≡◌, ℕ, ◌≤◌, List, length, cond, Option, Some, None, refl, sym, ap, ◌∙◌, arith}
use Rattle.std.specs.Prelude.{slice_get, is_none}
use Rattle.std.specs.Option.{option_map, option_or, option_and_then}
use Rattle.std.proofs.lemmas.List.{length-map}
use Rattle.val_types.specs.declared.value.Value.{Value}
use Rattle.val_types.specs.declared.definitions.KeyDef.{KeyDef}
use Rattle.val_types.specs.declared.definitions.TableDef.{TableDef}
use Rattle.val_types.specs.Keys.{primary_key}
use Rattle.table_rules.specs.Stored.{row_of_values}
use Rattle.row_index.specs.row_sheets.Slots.{Slot, held, rows_in}
use Rattle.row_index.specs.row_indexes.Indexes.{unless_entered}
use Rattle.row_index.proofs.of_row_indexes.Indexing.{found_in_both}
use Rattle.row_index.specs.row_sheets.Orders.{NumbersRise}
use Rattle.row_index.specs.Numbers.{number_slot, number_slots}
use Rattle.row_index.specs.Lists.{numbers_at}
use Rattle.row_index.proofs.Members.{index_is_few}
use Rattle.row_index.proofs.Changing.{rows_few}
use Rattle.table_sheet.specs.declared.committed.Committed.{Committed}
use Rattle.table_sheet.specs.declared.overlay.Overlay.{Overlay}
use Rattle.table_sheet.specs.Numbered.{row_of}
use Rattle.table_sheet.specs.Ranked.{shown_by}
use Rattle.table_sheet.specs.Pages.{Page, Holds, rows_on}
use Rattle.table_sheet.specs.Parts.{committed_slots, entry_slots, page_of, room_of}
use Rattle.table_sheet.specs.Indexed.{IsIndexed}
use Rattle.table_sheet.proofs.Shown.{sound}
use Rattle.table_sheet.proofs.Apart.{apart_below, apart_shown}

module _ (d : TableDef) (c : Committed) (o : Overlay) (page : Page) (h : Holds d (committed_slots d c) (entry_slots d o) (room_of c) o.fresh) (view : page_of d c o ≡ page) (indexed : IsIndexed d c o)
    (which : ℕ) (u : KeyDef) (there : slice_get page.definition.uniques which ≡ Some u) (values : List Value) where
  abbrev es : List Slot
  es = entry_slots d o

  abbrev cs : List Slot
  cs = committed_slots d c

  abbrev among_entries : Option (List Value)
  among_entries = row_of_values u values (rows_in es)

  abbrev among_rows : Option (List Value)
  among_rows = row_of_values u values (rows_in cs)

  key_there : slice_get d.uniques which ≡ Some u
  key_there = ap (λ (p : Page). slice_get p.definition.uniques which) view ∙ there

  pub entries_rise : NumbersRise (number_slot u (shown_by o.entries.items)) (numbers_at o.indexes.items which)
  entries_rise = (indexed.above.indexes which u key_there).rising

  pub rows_rise : NumbersRise (number_slot u (row_of c.rows.rows)) (numbers_at c.indexes.items which)
  rows_rise = (indexed.below.kept.indexes which u key_there).rising

  -- each has at most as many numbers as there are rows
  pub entries_few : length (numbers_at o.indexes.items which) ≤ length es
  entries_few =
      omega (
        arith,
        index_is_few u (number_slots u (shown_by o.entries.items) (numbers_at o.indexes.items which)) (rows_in es) (indexed.above.indexes which u key_there),
        rows_few es,
        length-map (numbers_at o.indexes.items which) (number_slot u (shown_by o.entries.items)),
      )

  pub rows_fewer : length (numbers_at c.indexes.items which) ≤ length cs
  rows_fewer =
      omega (
        arith,
        index_is_few u (number_slots u (row_of c.rows.rows) (numbers_at c.indexes.items which)) (rows_in cs) (indexed.below.kept.indexes which u key_there),
        rows_few cs,
        length-map (numbers_at c.indexes.items which) (number_slot u (row_of c.rows.rows)),
      )

  -- what both find is shown
  shown : (p q : Option (List Value)) → among_entries ≡ p → among_rows ≡ q → option_or p (option_and_then (unless_entered d es) q) ≡ row_of_values u values (rows_on page)
  shown p q first second =
      sym (ap (λ (x : Option (List Value)). option_or x (option_and_then (unless_entered d es) among_rows)) first ∙ ap (λ (x : Option (List Value)). option_or p (option_and_then (unless_entered d es) x)) second)
      ∙ found_in_both d u values es cs h.rising (sound d cs h.whole).rising (sound d cs h.whole).own (apart_below d cs es (room_of c) o.fresh h which u key_there) (apart_shown d cs es (room_of c) o.fresh h which u key_there)
      ∙ ap (λ (p : Page). row_of_values u values (rows_on p)) view

  entries_told : held values (number_slots u (shown_by o.entries.items) (numbers_at o.indexes.items which)) ≡ option_map (λ r. Some r) among_entries
  entries_told = (indexed.above.indexes which u key_there).told values

  rows_told : held values (number_slots u (row_of c.rows.rows) (numbers_at c.indexes.items which)) ≡ option_map (λ r. Some r) among_rows
  rows_told = (indexed.below.kept.indexes which u key_there).told values

  -- an entry's row
  pub by_entry : (n : ℕ) → held values (number_slots u (shown_by o.entries.items) (numbers_at o.indexes.items which)) ≡ Some (shown_by o.entries.items n) → shown_by o.entries.items n ≡ row_of_values u values (rows_on page)
  by_entry n found = at among_entries refl
    where
      at : (p : Option (List Value)) → among_entries ≡ p → shown_by o.entries.items n ≡ row_of_values u values (rows_on page)
      at None is = let never : None ≡ Some (shown_by o.entries.items n) = sym (entries_told ∙ ap (option_map (λ r. Some r)) is) ∙ found in cc
      at (Some r) is =
          let both : Some (shown_by o.entries.items n) ≡ Some (Some r) = sym found ∙ entries_told ∙ ap (option_map (λ r. Some r)) is in
          let same : shown_by o.entries.items n ≡ Some r = cc in
          same ∙ shown (Some r) among_rows is refl

  none_entered : held values (number_slots u (shown_by o.entries.items) (numbers_at o.indexes.items which)) ≡ None → among_entries ≡ None
  none_entered missing = at among_entries refl
    where
      at : (p : Option (List Value)) → among_entries ≡ p → among_entries ≡ None
      at None is = is
      at (Some r) is = let never : None ≡ Some (Some r) = sym missing ∙ entries_told ∙ ap (option_map (λ r. Some r)) is in cc

  module _ (missing : held values (number_slots u (shown_by o.entries.items) (numbers_at o.indexes.items which)) ≡ None) where
    -- none at all
    pub by_none : held values (number_slots u (row_of c.rows.rows) (numbers_at c.indexes.items which)) ≡ None → None ≡ row_of_values u values (rows_on page)
    by_none none = at among_rows refl
      where
        at : (q : Option (List Value)) → among_rows ≡ q → None ≡ row_of_values u values (rows_on page)
        at None is = shown None None (none_entered missing) is
        at (Some r) is = let never : None ≡ Some (Some r) = sym none ∙ rows_told ∙ ap (option_map (λ r. Some r)) is in cc

    module _ (n : ℕ) (found : held values (number_slots u (row_of c.rows.rows) (numbers_at c.indexes.items which)) ≡ Some (row_of c.rows.rows n)) where
      among_is : (r : List Value) → Some r ≡ row_of c.rows.rows n → among_rows ≡ Some r
      among_is r is = at among_rows refl
        where
          at : (q : Option (List Value)) → among_rows ≡ q → among_rows ≡ Some r
          at None none = let never : None ≡ Some (row_of c.rows.rows n) = sym (rows_told ∙ ap (option_map (λ r. Some r)) none) ∙ found in cc
          at (Some other) e =
              let both : Some (Some other) ≡ Some (Some r) = sym (rows_told ∙ ap (option_map (λ r. Some r)) e) ∙ found ∙ ap (λ (x : Option (List Value)). Some x) (sym is) in
              let same : other ≡ r = cc in
              e ∙ ap (λ (x : List Value). Some x) same

      -- there is a row where a number is found
      pub never_missing : None ≡ row_of c.rows.rows n → None ≡ row_of_values u values (rows_on page)
      never_missing none = at among_rows refl
        where
          at : (q : Option (List Value)) → among_rows ≡ q → None ≡ row_of_values u values (rows_on page)
          at None e = let never : None ≡ Some (row_of c.rows.rows n) = sym (rows_told ∙ ap (option_map (λ r. Some r)) e) ∙ found in cc
          at (Some other) e =
              let both : Some (Some other) ≡ Some None = sym (rows_told ∙ ap (option_map (λ r. Some r)) e) ∙ found ∙ ap (λ (x : Option (List Value)). Some x) (sym none) in cc

      -- a committed row without an entry, and one with an entry
      pub by_row : (r : List Value) → Some r ≡ row_of c.rows.rows n → held (primary_key d r) es ≡ None → Some r ≡ row_of_values u values (rows_on page)
      by_row r is none = sym (ap (λ (x : Option (Option (List Value))). cond (is_none x) (Some r) None) none) ∙ shown None (Some r) (none_entered missing) (among_is r is)

      pub by_hidden : (r : List Value) (p : Option (List Value)) → Some r ≡ row_of c.rows.rows n → held (primary_key d r) es ≡ Some p → None ≡ row_of_values u values (rows_on page)
      by_hidden r p is has = sym (ap (λ (x : Option (Option (List Value))). cond (is_none x) (Some r) None) has) ∙ shown None (Some r) (none_entered missing) (among_is r is)
