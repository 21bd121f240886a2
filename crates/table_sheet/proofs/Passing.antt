-- A walk over entries and committed rows: what its next slot is.
use Rattle.std.proofs.Common.{◌≡◌, ℕ, zero, suc, ◌+◌, List, [], ◌∷◌, length, drop, Bool, true, false, ◌||◌, cond, ◌≤◌, ◌<◌, Ordering, Option, Some, None, Less, Equal, Greater, refl, sym, ap, ◌∙◌, arith}
use Rattle.std.specs.Prelude.{slice_get, map, is_some, find, IfNone, IfSome}
use Rattle.std.specs.List.{list_any}
use Rattle.std.specs.Option.{option_and_then}
use Rattle.std.proofs.lemmas.Option.{slice_get-get_or, slice_get_past, slice_get_within}
use Rattle.val_types.specs.declared.value.Value.{Value}
use Rattle.val_types.specs.declared.definitions.TableDef.{TableDef}
use Rattle.val_types.specs.declared.definitions.KeyDef.{KeyDef}
use Rattle.val_types.specs.Keys.{primary_key, agree_on}
use Rattle.val_types.specs.Order.{key_order}
use Rattle.row_index.specs.block_list.Layouts.{flat}
use Rattle.row_index.specs.block_list.Spots.{place}
use Rattle.row_index.specs.block_list.declared.spot.Spot.{Spot}
use Rattle.row_index.specs.row_sheets.Slots.{Slot, rows_in}
use Rattle.row_index.specs.row_sheets.Over.{by_order, over_step, over}
use Rattle.table_sheet.specs.declared.committed.Committed.{Committed}
use Rattle.table_sheet.specs.declared.overlay.Overlay.{Overlay}
use Rattle.table_sheet.specs.declared.entry.Entry.{Entry}
use Rattle.table_sheet.specs.declared.place.Place.{Place}
use Rattle.table_sheet.specs.Numbered.{row_of, row_slot}
use Rattle.table_sheet.specs.Ranked.{entry_slot}
use Rattle.table_sheet.specs.Parts.{committed_slots, entry_slots}
use Rattle.table_sheet.specs.Walks.{left, AreNext, IsFirst}
use Rattle.table_sheet.proofs.Slotted.{row_slot_is, entry_slot_is, all_at, ranked_here}

-- ---- slots from a place on

drop_here : (f : ℕ → Slot) (ns : List ℕ) (i n : ℕ) → slice_get ns i ≡ Some n → drop i (map f ns) ≡ f n ∷ drop (suc i) (map f ns)
drop_here f [] i n e = cc
drop_here f (m ∷ ns) zero n e = let same : m ≡ n = cc in ap (λ (k : ℕ). f k ∷ map f ns) same
drop_here f (m ∷ ns) (suc i) n e = drop_here f ns i n e

drop_past : (f : ℕ → Slot) (ns : List ℕ) (i : ℕ) → slice_get ns i ≡ None → drop i (map f ns) ≡ []
drop_past f [] zero e = refl
drop_past f [] (suc i) e = refl
drop_past f (m ∷ ns) zero e = cc
drop_past f (m ∷ ns) (suc i) e = drop_past f ns i e

next_of : (s : Slot) (old new : List Slot) → old ≡ s ∷ new → AreNext s.row old new
next_of s old new e = record { rows = ap rows_in e; fewer = omega (arith, ap length e) }

-- ---- what comes first of entries and rows

entry_last : (e : Slot) (rest es cs : List Slot) → es ≡ e ∷ rest → cs ≡ [] → over es cs ≡ e ∷ over rest cs
entry_last e rest es cs a b = ap (λ (xs : List Slot). over xs cs) a ∙ ap (over (e ∷ rest)) b ∙ ap (λ (ys : List Slot). e ∷ over rest ys) (sym b)

entry_less : (e r : Slot) (rest more es cs : List Slot) → es ≡ e ∷ rest → cs ≡ r ∷ more → key_order e.key r.key ≡ Less → over es cs ≡ e ∷ over rest cs
entry_less e r rest more es cs a b o =
    ap (λ (xs : List Slot). over xs cs) a ∙ ap (over (e ∷ rest)) b
    ∙ ap (λ p. by_order p (e ∷ over rest (r ∷ more)) (e ∷ over rest more) (r ∷ over_step e (over rest) more)) o
    ∙ ap (λ (ys : List Slot). e ∷ over rest ys) (sym b)

entry_same : (e r : Slot) (rest more es cs : List Slot) → es ≡ e ∷ rest → cs ≡ r ∷ more → key_order e.key r.key ≡ Equal → over es cs ≡ e ∷ over rest more
entry_same e r rest more es cs a b o =
    ap (λ (xs : List Slot). over xs cs) a ∙ ap (over (e ∷ rest)) b
    ∙ ap (λ p. by_order p (e ∷ over rest (r ∷ more)) (e ∷ over rest more) (r ∷ over_step e (over rest) more)) o

row_before : (e r : Slot) (rest more es cs : List Slot) → es ≡ e ∷ rest → cs ≡ r ∷ more → key_order e.key r.key ≡ Greater → over es cs ≡ r ∷ over es more
row_before e r rest more es cs a b o =
    ap (λ (xs : List Slot). over xs cs) a ∙ ap (over (e ∷ rest)) b
    ∙ ap (λ p. by_order p (e ∷ over rest (r ∷ more)) (e ∷ over rest more) (r ∷ over_step e (over rest) more)) o
    ∙ ap (λ (xs : List Slot). r ∷ over xs more) (sym a)

row_alone : (r : Slot) (more es cs : List Slot) → es ≡ [] → cs ≡ r ∷ more → over es cs ≡ r ∷ over es more
row_alone r more es cs a b = ap (λ (xs : List Slot). over xs cs) a ∙ b ∙ ap (λ (xs : List Slot). r ∷ over xs more) (sym a)

-- ---- in the parts of a sheet

module _ (d : TableDef) (c : Committed) (o : Overlay) (at : Place) where
  abbrev i : ℕ
  i = place o.ranks.blocks at.entry

  abbrev j : ℕ
  j = place c.order.blocks at.row

  abbrev entry_there : Entry → Slot
  entry_there e = record { key = primary_key d e.bearer; row = e.present }

  abbrev row_there : List Value → Slot
  row_there row = record { key = primary_key d row; row = Some row }

  entries_here : (e : Entry) → Some e ≡ option_and_then (slice_get o.entries.items) (slice_get (flat o.ranks.blocks) i)
      → drop i (entry_slots d o) ≡ entry_there e ∷ drop (suc i) (entry_slots d o)
  entries_here e is = step (slice_get (flat o.ranks.blocks) i) refl is
    where
      step : (n : Option ℕ) → slice_get (flat o.ranks.blocks) i ≡ n → Some e ≡ option_and_then (slice_get o.entries.items) n → drop i (entry_slots d o) ≡ entry_there e ∷ drop (suc i) (entry_slots d o)
      step None at_i there = cc
      step (Some n) at_i there =
          drop_here (entry_slot d o.entries.items) (flat o.ranks.blocks) i n at_i
          ∙ ap (λ (s : Slot). s ∷ drop (suc i) (entry_slots d o)) (sym (entry_slot_is d o.entries.items n (Some e) there))

  entries_past : None ≡ option_and_then (slice_get o.entries.items) (slice_get (flat o.ranks.blocks) i) → drop i (entry_slots d o) ≡ []
  entries_past is = step (slice_get (flat o.ranks.blocks) i) refl is
    where
      step : (n : Option ℕ) → slice_get (flat o.ranks.blocks) i ≡ n → None ≡ option_and_then (slice_get o.entries.items) n → drop i (entry_slots d o) ≡ []
      step None at_i there = drop_past (entry_slot d o.entries.items) (flat o.ranks.blocks) i at_i
      step (Some n) at_i there =
          let within = ranked_here o.entries.items (flat o.ranks.blocks) i n o.ranked at_i in
          let never : None ≡ Some _ = there ∙ slice_get-get_or o.entries.items n (record { bearer = []; present = None }) within in cc

  rows_here : (row : List Value) → Some row ≡ option_and_then (row_of c.rows.rows) (slice_get (flat c.order.blocks) j)
      → drop j (committed_slots d c) ≡ row_there row ∷ drop (suc j) (committed_slots d c)
  rows_here row is = step (slice_get (flat c.order.blocks) j) refl is
    where
      step : (n : Option ℕ) → slice_get (flat c.order.blocks) j ≡ n → Some row ≡ option_and_then (row_of c.rows.rows) n → drop j (committed_slots d c) ≡ row_there row ∷ drop (suc j) (committed_slots d c)
      step None at_j there = cc
      step (Some n) at_j there =
          drop_here (row_slot d c.rows.rows) (flat c.order.blocks) j n at_j
          ∙ ap (λ (s : Slot). s ∷ drop (suc j) (committed_slots d c)) (sym (row_slot_is d c.rows.rows n (Some row) there))

  rows_past : None ≡ option_and_then (row_of c.rows.rows) (slice_get (flat c.order.blocks) j) → drop j (committed_slots d c) ≡ []
  rows_past is = step (slice_get (flat c.order.blocks) j) refl is
    where
      step : (n : Option ℕ) → slice_get (flat c.order.blocks) j ≡ n → None ≡ option_and_then (row_of c.rows.rows) n → drop j (committed_slots d c) ≡ []
      step None at_j there = drop_past (row_slot d c.rows.rows) (flat c.order.blocks) j at_j
      step (Some n) at_j there =
          let some : is_some (row_of c.rows.rows n) ≡ true = all_at (λ (m : ℕ). is_some (row_of c.rows.rows m)) (flat c.order.blocks) j n c.numbered at_j in
          let never : false ≡ true = ap (λ (p : Option (List Value)). is_some p) there ∙ some in cc

  abbrev entries_seen : Option Entry → Type 0
  entries_seen e = e ≡ option_and_then (slice_get o.entries.items) (slice_get (flat o.ranks.blocks) i)

  abbrev rows_seen : Option (List Value) → Type 0
  rows_seen row = row ≡ option_and_then (row_of c.rows.rows) (slice_get (flat c.order.blocks) j)

  pub at_end : entries_seen None → rows_seen None → rows_in (left d c o at) ≡ []
  unfolding left
  at_end a b = ap rows_in (ap (λ (xs : List Slot). over xs (drop j (committed_slots d c))) (entries_past a) ∙ rows_past b)

  pub at_row : (row : List Value) (after : Spot) → entries_seen None → rows_seen (Some row) → place c.order.blocks after ≡ j + 1
      → AreNext (Some row) (left d c o at) (left d c o (record { entry = at.entry; row = after }))
  unfolding left
  at_row row after a b moved =
      next_of (row_there row) (over (drop i (entry_slots d o)) (drop j (committed_slots d c))) (over (drop i (entry_slots d o)) (drop (place c.order.blocks after) (committed_slots d c)))
      (row_alone (row_there row) (drop (suc j) (committed_slots d c)) (drop i (entry_slots d o)) (drop j (committed_slots d c)) (entries_past a) (rows_here row b)
      ∙ ap (λ (k : ℕ). row_there row ∷ over (drop i (entry_slots d o)) (drop k (committed_slots d c))) (let e : suc j ≡ place c.order.blocks after = omega (arith, moved) in e))

  pub at_entry : (e : Entry) (after : Spot) → entries_seen (Some e) → rows_seen None → place o.ranks.blocks after ≡ i + 1
      → AreNext e.present (left d c o at) (left d c o (record { entry = after; row = at.row }))
  unfolding left
  at_entry e after a b moved =
      next_of (entry_there e) (over (drop i (entry_slots d o)) (drop j (committed_slots d c))) (over (drop (place o.ranks.blocks after) (entry_slots d o)) (drop j (committed_slots d c)))
      (entry_last (entry_there e) (drop (suc i) (entry_slots d o)) (drop i (entry_slots d o)) (drop j (committed_slots d c)) (entries_here e a) (rows_past b)
      ∙ ap (λ (k : ℕ). entry_there e ∷ over (drop k (entry_slots d o)) (drop j (committed_slots d c))) (let e : suc i ≡ place o.ranks.blocks after = omega (arith, moved) in e))

  pub at_less : (e : Entry) (row : List Value) (after : Spot) → entries_seen (Some e) → rows_seen (Some row) → key_order (primary_key d e.bearer) (primary_key d row) ≡ Less → place o.ranks.blocks after ≡ i + 1
      → AreNext e.present (left d c o at) (left d c o (record { entry = after; row = at.row }))
  unfolding left
  at_less e row after a b less moved =
      next_of (entry_there e) (over (drop i (entry_slots d o)) (drop j (committed_slots d c))) (over (drop (place o.ranks.blocks after) (entry_slots d o)) (drop j (committed_slots d c)))
      (entry_less (entry_there e) (row_there row) (drop (suc i) (entry_slots d o)) (drop (suc j) (committed_slots d c)) (drop i (entry_slots d o)) (drop j (committed_slots d c)) (entries_here e a) (rows_here row b) less
      ∙ ap (λ (k : ℕ). entry_there e ∷ over (drop k (entry_slots d o)) (drop j (committed_slots d c))) (let e : suc i ≡ place o.ranks.blocks after = omega (arith, moved) in e))

  pub at_both : (e : Entry) (row : List Value) (after behind : Spot) → entries_seen (Some e) → rows_seen (Some row) → key_order (primary_key d e.bearer) (primary_key d row) ≡ Equal
      → place o.ranks.blocks after ≡ i + 1 → place c.order.blocks behind ≡ j + 1 → AreNext e.present (left d c o at) (left d c o (record { entry = after; row = behind }))
  unfolding left
  at_both e row after behind a b same moved too =
      next_of (entry_there e) (over (drop i (entry_slots d o)) (drop j (committed_slots d c))) (over (drop (place o.ranks.blocks after) (entry_slots d o)) (drop (place c.order.blocks behind) (committed_slots d c)))
      (entry_same (entry_there e) (row_there row) (drop (suc i) (entry_slots d o)) (drop (suc j) (committed_slots d c)) (drop i (entry_slots d o)) (drop j (committed_slots d c)) (entries_here e a) (rows_here row b) same
      ∙ ap (λ (k : ℕ). entry_there e ∷ over (drop k (entry_slots d o)) (drop (suc j) (committed_slots d c))) (let e : suc i ≡ place o.ranks.blocks after = omega (arith, moved) in e)
      ∙ ap (λ (k : ℕ). entry_there e ∷ over (drop (place o.ranks.blocks after) (entry_slots d o)) (drop k (committed_slots d c))) (let e : suc j ≡ place c.order.blocks behind = omega (arith, too) in e))

  pub at_greater : (e : Entry) (row : List Value) (after : Spot) → entries_seen (Some e) → rows_seen (Some row) → key_order (primary_key d e.bearer) (primary_key d row) ≡ Greater → place c.order.blocks after ≡ j + 1
      → AreNext (Some row) (left d c o at) (left d c o (record { entry = at.entry; row = after }))
  unfolding left
  at_greater e row after a b greater moved =
      next_of (row_there row) (over (drop i (entry_slots d o)) (drop j (committed_slots d c))) (over (drop i (entry_slots d o)) (drop (place c.order.blocks after) (committed_slots d c)))
      (row_before (entry_there e) (row_there row) (drop (suc i) (entry_slots d o)) (drop (suc j) (committed_slots d c)) (drop i (entry_slots d o)) (drop j (committed_slots d c)) (entries_here e a) (rows_here row b) greater
      ∙ ap (λ (k : ℕ). row_there row ∷ over (drop i (entry_slots d o)) (drop k (committed_slots d c))) (let e : suc j ≡ place c.order.blocks after = omega (arith, moved) in e))

-- ---- where walks begin

pub from_start : (d : TableDef) (c : Committed) (o : Overlay) (at : Place) → place o.ranks.blocks at.entry ≡ 0 → place c.order.blocks at.row ≡ 0 → left d c o at ≡ over (entry_slots d o) (committed_slots d c)
unfolding left
from_start d c o at a b =
    ap (λ (k : ℕ). over (drop k (entry_slots d o)) (drop (place c.order.blocks at.row) (committed_slots d c))) a ∙ ap (λ (k : ℕ). over (entry_slots d o) (drop k (committed_slots d c))) b

pub from_below : (d : TableDef) (c : Committed) (o : Overlay) (at : Place) → place o.ranks.blocks at.entry ≡ length (flat o.ranks.blocks) → place c.order.blocks at.row ≡ 0 → left d c o at ≡ committed_slots d c
unfolding left
from_below d c o at a b =
    let none : drop (place o.ranks.blocks at.entry) (entry_slots d o) ≡ [] =
    drop_past (entry_slot d o.entries.items) (flat o.ranks.blocks) (place o.ranks.blocks at.entry) (slice_get_past (flat o.ranks.blocks) (place o.ranks.blocks at.entry) (omega (arith, a))) in
    ap (λ (xs : List Slot). over xs (drop (place c.order.blocks at.row) (committed_slots d c))) none ∙ ap (λ (k : ℕ). drop k (committed_slots d c)) b

-- ---- rows on a walk

pub first_of : (row : List Value) (old new : List Slot) → AreNext (Some row) old new → IsFirst row old new
first_of row old new next = record { rows = next.rows; fewer = next.fewer }

pub first_later : (row : List Value) (begin old new : List Slot) → rows_in old ≡ rows_in begin → length old ≤ length begin → IsFirst row old new → IsFirst row begin new
first_later row begin old new same fewer first = record { rows = sym same ∙ first.rows; fewer = omega (arith, first.fewer, fewer) }

pub any_found : {X : Type 0} (test : X → Bool) (xs : List X) → list_any test xs ≡ is_some (find test xs)
any_found test [] = refl
any_found {X} test (x ∷ xs) = step (test x) (any_found test xs)
  where
    step : (b : Bool) → list_any test xs ≡ is_some (find test xs) → (b || list_any test xs) ≡ is_some (cond b (Some x) (find test xs))
    step true later = refl
    step false later = later

pub agrees : (key : KeyDef) (row : List Value) (rows : List (List Value)) (o : Option (List Value)) (b : Bool) → o ≡ find (λ other. agree_on row other key) rows → is_some o ≡ b → list_any (λ other. agree_on row other key) rows ≡ b
agrees key row rows o b e is = any_found (λ other. agree_on row other key) rows ∙ ap (λ (p : Option (List Value)). is_some p) (sym e) ∙ is

-- ---- what is read at a place

pub within_by : {X : Type 0} (f : ℕ → Option X) (ns : List ℕ) (p : ℕ) (x : X) → Some x ≡ option_and_then f (slice_get ns p) → p < length ns
within_by {X} f ns p x is = step (slice_get ns p) refl is
  where
    step : (o : Option ℕ) → slice_get ns p ≡ o → Some x ≡ option_and_then f o → p < length ns
    step None at e = cc
    step (Some n) at e = slice_get_within ns p n at

pub if_none : {X : Type 0} (P : Type 0) (r : Option X) → P → IfNone r P
if_none P None p = p
if_none P (Some x) p = tt

pub compared : (x d : TableDef) (b e r s : List Value) (found order : Ordering) → x ≡ d → b ≡ e → r ≡ s → found ≡ key_order (primary_key x b) (primary_key x r) → found ≡ order
    → key_order (primary_key d e) (primary_key d s) ≡ order
compared x d b e r s found order same one other is o =
    sym (is ∙ ap (λ (y : TableDef). key_order (primary_key y b) (primary_key y r)) same ∙ ap (λ (k : List Value). key_order (primary_key d k) (primary_key d r)) one
    ∙ ap (λ (k : List Value). key_order (primary_key d e) (primary_key d k)) other) ∙ o

-- the first row that is shown from a place on
pub first_row : (o : Option (List Value)) (old new : List Slot) → IfSome o (λ row. IsFirst row old new) → IfNone o (rows_in old ≡ []) → o ≡ slice_get (rows_in old) 0
first_row None old new some none = sym (ap (λ (rows : List (List Value)). slice_get rows 0) none)
first_row (Some row) old new some none = sym (ap (λ (rows : List (List Value)). slice_get rows 0) some.rows)

-- ---- the entries from a place on

pub entry_next : (d : TableDef) (o : Overlay) (i : ℕ) (e : Entry) → Some e ≡ option_and_then (slice_get o.entries.items) (slice_get (flat o.ranks.blocks) i)
    → drop i (entry_slots d o) ≡ record { key = primary_key d e.bearer; row = e.present } ∷ drop (suc i) (entry_slots d o)
entry_next d o i e is = step (slice_get (flat o.ranks.blocks) i) refl is
  where
    step : (n : Option ℕ) → slice_get (flat o.ranks.blocks) i ≡ n → Some e ≡ option_and_then (slice_get o.entries.items) n
        → drop i (entry_slots d o) ≡ record { key = primary_key d e.bearer; row = e.present } ∷ drop (suc i) (entry_slots d o)
    step None at_i there = cc
    step (Some n) at_i there =
        drop_here (entry_slot d o.entries.items) (flat o.ranks.blocks) i n at_i
        ∙ ap (λ (s : Slot). s ∷ drop (suc i) (entry_slots d o)) (sym (entry_slot_is d o.entries.items n (Some e) there))

pub entries_over : (d : TableDef) (o : Overlay) (i : ℕ) → None ≡ option_and_then (slice_get o.entries.items) (slice_get (flat o.ranks.blocks) i) → drop i (entry_slots d o) ≡ []
entries_over d o i is = step (slice_get (flat o.ranks.blocks) i) refl is
  where
    step : (n : Option ℕ) → slice_get (flat o.ranks.blocks) i ≡ n → None ≡ option_and_then (slice_get o.entries.items) n → drop i (entry_slots d o) ≡ []
    step None at_i there = drop_past (entry_slot d o.entries.items) (flat o.ranks.blocks) i at_i
    step (Some n) at_i there =
        let within = ranked_here o.entries.items (flat o.ranks.blocks) i n o.ranked at_i in
        let never : None ≡ Some _ = there ∙ slice_get-get_or o.entries.items n (record { bearer = []; present = None }) within in cc
