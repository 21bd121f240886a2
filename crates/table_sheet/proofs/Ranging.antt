-- Where the rows of a range begin and end among entries and committed rows.
use Rattle.std.proofs.Common.{◌≡◌, ℕ, zero, suc, List, [], ◌∷◌, ◌++◌, append_assoc, take, drop, Bool, true, false, not, cond, Option, Some, None, Result, Ok, Err, Ordering, Less, Greater, refl, sym, ap, subst, ◌∙◌}
use Rattle.std.specs.Prelude.{slice_get, map, filter, is_some, option_to_list, IfNone, IfOk}
use Rattle.std.specs.Option.{option_and_then}
use Rattle.val_types.specs.declared.value.Value.{Value}
use Rattle.val_types.specs.declared.value.Value.TheVariants.{Null}
use Rattle.val_types.specs.declared.definitions.TableDef.{TableDef}
use Rattle.val_types.specs.Keys.{primary_key}
use Rattle.row_index.specs.block_list.Layouts.{flat}
use Rattle.row_index.specs.block_list.Spots.{place}
use Rattle.row_index.specs.row_sheets.Slots.{Slot, rows_in}
use Rattle.row_index.specs.row_sheets.Over.{over}
use Rattle.value_ranges.specs.Ranges.{Bound, Range, is_from, is_to}
use Rattle.value_ranges.specs.Keys.{first_of, row_is_in}
use Rattle.table_sheet.specs.Ranges.{AreBehind, AreOrdered, AreOutside, by_low}
use Rattle.table_sheet.proofs.Fronts.{fronts_left_out, nothing_left}
use Rattle.table_sheet.specs.declared.committed.Committed.{Committed}
use Rattle.table_sheet.specs.declared.overlay.Overlay.{Overlay}
use Rattle.table_sheet.specs.declared.entry.Entry.{Entry}
use Rattle.table_sheet.specs.declared.place.Place.{Place}
use Rattle.table_sheet.specs.Numbered.{row_of, row_slot}
use Rattle.table_sheet.specs.Ranked.{entry_slot}
use Rattle.table_sheet.specs.Pages.{Holds}
use Rattle.table_sheet.specs.Parts.{committed_slots, entry_slots, room_of}
use Rattle.table_sheet.specs.Walks.{left, AreNext}
use Rattle.table_sheet.proofs.Passing.{entry_next, entries_over}
use Rattle.table_sheet.proofs.Shown.{sound}
use Rattle.table_sheet.proofs.Slotted.{row_slot_is, entry_slot_is, all_at}

-- ---- how the key of a number stands to a lower end

pub entry_low : (x d : TableDef) (entries : List Entry) (n : ℕ) (low : Option Bound) (entry : Entry) (bearer : List Value) (inside : Bool) (order : Ordering) → x ≡ d → bearer ≡ entry.bearer
    → Some entry ≡ slice_get entries n → inside ≡ is_from low (first_of (primary_key x bearer)) → order ≡ cond inside Greater Less → order ≡ by_low (entry_slot d entries) low n
entry_low x d entries n low entry bearer inside order same own there is e =
    e ∙ ap (λ (b : Bool). cond b Greater Less)
    (is ∙ ap (λ (y : TableDef). is_from low (first_of (primary_key y bearer))) same ∙ ap (λ (b : List Value). is_from low (first_of (primary_key d b))) own
    ∙ ap (λ (s : Slot). is_from low (first_of s.key)) (entry_slot_is d entries n (Some entry) there))

pub no_entry_low : (d : TableDef) (entries : List Entry) (n : ℕ) (low : Option Bound) (inside : Bool) (order : Ordering) → None ≡ slice_get entries n → inside ≡ is_from low Null
    → order ≡ cond inside Greater Less → order ≡ by_low (entry_slot d entries) low n
no_entry_low d entries n low inside order there is e =
    e ∙ ap (λ (b : Bool). cond b Greater Less) (is ∙ ap (λ (s : Slot). is_from low (first_of s.key)) (entry_slot_is d entries n None there))

pub row_low : (x d : TableDef) (rows : List (Option (List Value))) (n : ℕ) (low : Option Bound) (row : List Value) (inside : Bool) (order : Ordering) → x ≡ d
    → Some row ≡ row_of rows n → inside ≡ is_from low (first_of (primary_key x row)) → order ≡ cond inside Greater Less → order ≡ by_low (row_slot d rows) low n
row_low x d rows n low row inside order same there is e =
    e ∙ ap (λ (b : Bool). cond b Greater Less)
    (is ∙ ap (λ (y : TableDef). is_from low (first_of (primary_key y row))) same ∙ ap (λ (s : Slot). is_from low (first_of s.key)) (row_slot_is d rows n (Some row) there))

pub no_row_low : (d : TableDef) (rows : List (Option (List Value))) (n : ℕ) (low : Option Bound) (inside : Bool) (order : Ordering) → None ≡ row_of rows n → inside ≡ is_from low Null
    → order ≡ cond inside Greater Less → order ≡ by_low (row_slot d rows) low n
no_row_low d rows n low inside order there is e =
    e ∙ ap (λ (b : Bool). cond b Greater Less) (is ∙ ap (λ (s : Slot). is_from low (first_of s.key)) (row_slot_is d rows n None there))

-- nothing stands before the first number
pub nothing_before : (range : Range) (slots : List Slot) (k : ℕ) → k ≡ 0 → AreOutside range (take k slots)
nothing_before range slots k e = subst (λ (n : ℕ). AreOutside range (take n slots)) (sym e) refl

-- ---- the first slots that are left

not_is : (a b : Bool) → a ≡ b → not a ≡ true → b ≡ false
not_is true b e f = cc
not_is false b e f = sym e

pub entry_behind : (x d : TableDef) (o : Overlay) (i : ℕ) (range : Range) (entry : Entry) (bearer : List Value) (inside : Bool) → x ≡ d → bearer ≡ entry.bearer
    → Some entry ≡ option_and_then (slice_get o.entries.items) (slice_get (flat o.ranks.blocks) i)
    → inside ≡ is_to range.high (first_of (primary_key x bearer)) → not inside ≡ true → AreBehind range (drop i (entry_slots d o))
entry_behind x d o i range entry bearer inside same own there is out =
    subst (AreBehind range) (sym (entry_next d o i entry there))
    (not_is inside (is_to range.high (first_of (primary_key d entry.bearer)))
    (is ∙ ap (λ (y : TableDef). is_to range.high (first_of (primary_key y bearer))) same ∙ ap (λ (b : List Value). is_to range.high (first_of (primary_key d b))) own) out)

pub no_entry_behind : (d : TableDef) (o : Overlay) (i : ℕ) (range : Range) → None ≡ option_and_then (slice_get o.entries.items) (slice_get (flat o.ranks.blocks) i)
    → AreBehind range (drop i (entry_slots d o))
no_entry_behind d o i range there = subst (AreBehind range) (sym (entries_over d o i there)) tt

slot_here : (f : ℕ → Slot) (ns : List ℕ) (i n : ℕ) → slice_get ns i ≡ Some n → drop i (map f ns) ≡ f n ∷ drop (suc i) (map f ns)
slot_here f [] i n e = cc
slot_here f (m ∷ ns) zero n e = let same : m ≡ n = cc in ap (λ (k : ℕ). f k ∷ map f ns) same
slot_here f (m ∷ ns) (suc i) n e = slot_here f ns i n e

slots_over : (f : ℕ → Slot) (ns : List ℕ) (i : ℕ) → slice_get ns i ≡ None → drop i (map f ns) ≡ []
slots_over f [] zero e = refl
slots_over f [] (suc i) e = refl
slots_over f (m ∷ ns) zero e = cc
slots_over f (m ∷ ns) (suc i) e = slots_over f ns i e

row_next : (d : TableDef) (c : Committed) (j : ℕ) (row : List Value) → Some row ≡ option_and_then (row_of c.rows.rows) (slice_get (flat c.order.blocks) j)
    → drop j (committed_slots d c) ≡ record { key = primary_key d row; row = Some row } ∷ drop (suc j) (committed_slots d c)
row_next d c j row is = step (slice_get (flat c.order.blocks) j) refl is
  where
    step : (n : Option ℕ) → slice_get (flat c.order.blocks) j ≡ n → Some row ≡ option_and_then (row_of c.rows.rows) n
        → drop j (committed_slots d c) ≡ record { key = primary_key d row; row = Some row } ∷ drop (suc j) (committed_slots d c)
    step None at_j there = cc
    step (Some n) at_j there =
        slot_here (row_slot d c.rows.rows) (flat c.order.blocks) j n at_j
        ∙ ap (λ (s : Slot). s ∷ drop (suc j) (committed_slots d c)) (sym (row_slot_is d c.rows.rows n (Some row) there))

rows_past : (d : TableDef) (c : Committed) (j : ℕ) → None ≡ option_and_then (row_of c.rows.rows) (slice_get (flat c.order.blocks) j) → drop j (committed_slots d c) ≡ []
rows_past d c j is = step (slice_get (flat c.order.blocks) j) refl is
  where
    step : (n : Option ℕ) → slice_get (flat c.order.blocks) j ≡ n → None ≡ option_and_then (row_of c.rows.rows) n → drop j (committed_slots d c) ≡ []
    step None at_j there = slots_over (row_slot d c.rows.rows) (flat c.order.blocks) j at_j
    step (Some n) at_j there =
        let some : is_some (row_of c.rows.rows n) ≡ true = all_at (λ (m : ℕ). is_some (row_of c.rows.rows m)) (flat c.order.blocks) j n c.numbered at_j in
        let never : false ≡ true = ap (λ (p : Option (List Value)). is_some p) there ∙ some in cc

pub row_behind : (x d : TableDef) (c : Committed) (j : ℕ) (range : Range) (row seen : List Value) (inside : Bool) → x ≡ d → seen ≡ row
    → Some row ≡ option_and_then (row_of c.rows.rows) (slice_get (flat c.order.blocks) j)
    → inside ≡ is_to range.high (first_of (primary_key x seen)) → not inside ≡ true → AreBehind range (drop j (committed_slots d c))
row_behind x d c j range row seen inside same own there is out =
    subst (AreBehind range) (sym (row_next d c j row there))
    (not_is inside (is_to range.high (first_of (primary_key d row)))
    (is ∙ ap (λ (y : TableDef). is_to range.high (first_of (primary_key y seen))) same ∙ ap (λ (b : List Value). is_to range.high (first_of (primary_key d b))) own) out)

pub no_row_behind : (d : TableDef) (c : Committed) (j : ℕ) (range : Range) → None ≡ option_and_then (row_of c.rows.rows) (slice_get (flat c.order.blocks) j)
    → AreBehind range (drop j (committed_slots d c))
no_row_behind d c j range there = subst (AreBehind range) (sym (rows_past d c j there)) tt

-- ---- rows on the walk

module _ (d : TableDef) (range : Range) where
  abbrev inside : List (List Value) → List (List Value)
  inside rows = filter (row_is_in d range) rows

  -- nothing is left where both are behind the range, and where no row is left
  pub none_left : (c : Committed) (o : Overlay) (at : Place) → AreOrdered d (entry_slots d o) → AreOrdered d (committed_slots d c)
      → AreBehind range (drop (place o.ranks.blocks at.entry) (entry_slots d o)) → AreBehind range (drop (place c.order.blocks at.row) (committed_slots d c))
      → inside (rows_in (left d c o at)) ≡ []
  unfolding left
  none_left c o at entries rows behind over_too =
      nothing_left d range (entry_slots d o) (committed_slots d c) (place o.ranks.blocks at.entry) (place c.order.blocks at.row) entries rows behind over_too

  pub none_shown : {X : Type 0} (r : Option X) (rows : List (List Value)) → IfNone r (rows ≡ []) → IfNone r (inside rows ≡ [])
  none_shown None rows e = ap inside e
  none_shown (Some x) rows e = tt

  -- all that is in the range is left where the slots before a place are outside
  pub all_left : (c : Committed) (o : Overlay) (at : Place) → AreOrdered d (entry_slots d o) → AreOrdered d (committed_slots d c)
      → AreOutside range (take (place o.ranks.blocks at.entry) (entry_slots d o)) → AreOutside range (take (place c.order.blocks at.row) (committed_slots d c))
      → inside (rows_in (left d c o at)) ≡ inside (rows_in (over (entry_slots d o) (committed_slots d c)))
  unfolding left
  all_left c o at entries rows out out_too =
      fronts_left_out d range (entry_slots d o) (committed_slots d c) (place o.ranks.blocks at.entry) (place c.order.blocks at.row) entries rows out out_too

  in_there : (row : List Value) (rest : List (List Value)) → row_is_in d range row ≡ true → inside (row ∷ rest) ≡ row ∷ inside rest
  in_there row rest e = rw e refl

  not_there : (row : List Value) (rest : List (List Value)) → row_is_in d range row ≡ false → inside (row ∷ rest) ≡ inside rest
  not_there row rest e = rw e refl

  test_is : (x : TableDef) (seen row : List Value) (b : Bool) → x ≡ d → seen ≡ row → b ≡ row_is_in x range seen → row_is_in d range row ≡ b
  test_is x seen row b same own is =
      sym (is ∙ ap (λ (y : TableDef). row_is_in y range seen) same ∙ ap (λ (r : List Value). row_is_in d range r) own)

  -- a row in the range comes behind those so far
  pub row_kept : (so_far begin : List (List Value)) (x : TableDef) (seen row : List Value) (o : Option (List Value)) (old new : List Slot) → so_far ++ inside (rows_in old) ≡ begin
      → x ≡ d → seen ≡ row → true ≡ row_is_in x range seen → o ≡ Some row → AreNext o old new → (so_far ++ row ∷ []) ++ inside (rows_in new) ≡ begin
  row_kept so_far begin x seen row o old new before same own is shown next =
      append_assoc so_far (row ∷ []) (inside (rows_in new))
      ∙ ap (λ (rs : List (List Value)). so_far ++ rs)
      (sym (in_there row (rows_in new) (test_is x seen row true same own is)) ∙ sym (ap inside (next.rows ∙ ap (λ (p : Option (List Value)). option_to_list p ++ rows_in new) shown))) ∙ before

  -- one that is not is passed over, and so is a slot without a row
  pub row_passed : (so_far begin : List (List Value)) (x : TableDef) (seen row : List Value) (o : Option (List Value)) (old new : List Slot) → so_far ++ inside (rows_in old) ≡ begin
      → x ≡ d → seen ≡ row → false ≡ row_is_in x range seen → o ≡ Some row → AreNext o old new → so_far ++ inside (rows_in new) ≡ begin
  row_passed so_far begin x seen row o old new before same own is shown next =
      ap (λ (rs : List (List Value)). so_far ++ rs)
      (sym (not_there row (rows_in new) (test_is x seen row false same own is)) ∙ sym (ap inside (next.rows ∙ ap (λ (p : Option (List Value)). option_to_list p ++ rows_in new) shown))) ∙ before

  pub slot_passed : (so_far begin : List (List Value)) (o : Option (List Value)) (old new : List Slot) → so_far ++ inside (rows_in old) ≡ begin → o ≡ None → AreNext o old new
      → so_far ++ inside (rows_in new) ≡ begin
  slot_passed so_far begin o old new before shown next =
      ap (λ (rs : List (List Value)). so_far ++ rs) (sym (ap inside (next.rows ∙ ap (λ (p : Option (List Value)). option_to_list p ++ rows_in new) shown))) ∙ before

-- ---- on the page

pub entries_ordered : (d : TableDef) (c : Committed) (o : Overlay) → Holds d (committed_slots d c) (entry_slots d o) (room_of c) o.fresh → AreOrdered d (entry_slots d o)
entries_ordered d c o holds = record { rising = holds.rising; own = holds.own }

pub rows_ordered : (d : TableDef) (c : Committed) (o : Overlay) → Holds d (committed_slots d c) (entry_slots d o) (room_of c) o.fresh → AreOrdered d (committed_slots d c)
rows_ordered d c o holds = let all = sound d (committed_slots d c) holds.whole in record { rising = all.rising; own = all.own }

-- rows that are others are these
pub told_on : {E : Type 0} (r : Result (List (List Value)) E) (xs ys : List (List Value)) → xs ≡ ys → IfOk r (λ rows. rows ≡ xs) → IfOk r (λ rows. rows ≡ ys)
told_on (Ok rows) xs ys e is = is ∙ e
told_on (Err error) xs ys e is = is
