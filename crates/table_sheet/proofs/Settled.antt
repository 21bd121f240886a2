-- Numbers taken out, given another row and put in: what their slots are then.
use Rattle.std.proofs.Common.{◌≡◌, ◌≢◌, ℕ, zero, suc, ◌<◌, ◌≤◌, List, [], ◌∷◌, ◌++◌, length, take, drop, Bool, true, false, Option, Some, None, Ok, Err, refl, sym, ap, subst, ◌∙◌, arith}
use Rattle.std.specs.Prelude.{slice_get, slice_set, slice_index, insert, remove, nat_lt, is_some, map, if◌then◌else◌}
use Rattle.std.specs.List.{list_all}
use Rattle.std.specs.Option.{option_and_then}
use Rattle.std.specs.Ordering.{is_eq, is_lt}
use Rattle.std.proofs.lemmas.Bool.{and_parts, and_from}
use Rattle.std.proofs.lemmas.Bool.Decides.{nat_tests}
use Rattle.val_types.specs.declared.value.Value.{Value}
use Rattle.val_types.specs.declared.definitions.TableDef.{TableDef}
use Rattle.val_types.specs.Order.{key_order}
use Rattle.val_types.specs.Keys.{primary_key}
use Rattle.table_rules.proofs.Taking.{same_is, same_self}
use Rattle.row_index.specs.block_list.Layouts.{flat}
use Rattle.row_index.specs.block_list.Spots.{place, IsAt, IsFound, IsSpot}
use Rattle.row_index.specs.block_list.declared.spot.Spot.{Spot}
use Rattle.row_index.proofs.of_block_list.Found.{place_is_within}
use Rattle.row_index.specs.row_arena.Arenas.{IsFree, IsNotAmong, with_row_at}
use Rattle.row_index.proofs.of_row_arena.Free.{get_same}
use Rattle.row_index.specs.row_sheets.Slots.{Slot, all_above, fill, drop_slot, keys_in, keys_rise}
use Rattle.row_index.specs.row_sheets.Over.{over}
use Rattle.row_index.specs.row_sheets.Orders.{by_key, slots_of, NumbersRise}
use Rattle.std.proofs.lemmas.Bool.{true≢false}
use Rattle.val_types.specs.Keys.{same_values}
use Rattle.row_index.proofs.of_row_sheets.Over.{apart}
use Rattle.row_index.proofs.of_row_sheets.Orders.{put_at, replaced_at, taken_at}
use Rattle.table_sheet.specs.declared.entry.Entry.{Entry}
use Rattle.table_sheet.specs.declared.overlay.Overlay.{Overlay}
use Rattle.table_sheet.specs.Numbered.{row_of, row_slot, are_numbered}
use Rattle.table_sheet.specs.Ranked.{entry_slot}
use Rattle.table_sheet.specs.Parts.{entry_slots}
use Rattle.table_sheet.specs.Settling.{IsTakenFirst}
use Rattle.table_sheet.proofs.Slotted.{row_slot_is, entry_slot_is, number_here, all_at, set_there, set_beside, spot_within}

-- ---- a number stands once where keys rise

never_below : (k : List Value) → is_lt (key_order k k) ≡ true → ⊥
never_below k e = let never : true ≡ false = sym (same_self k) ∙ apart k k e in cc

module _ (slot_at : ℕ → Slot) where
  above_at : (low : List Value) (ns : List ℕ) (j : ℕ) → all_above low (keys_in (slots_of slot_at ns)) ≡ true → j < length ns → is_lt (key_order low (slot_at (slice_index ns j)).key) ≡ true
  above_at low [] j above lt = absurd (omega (arith, lt))
  above_at low (n ∷ ns) zero above lt = (and_parts (is_lt (key_order low (slot_at n).key)) (all_above low (keys_in (slots_of slot_at ns))) above).0
  above_at low (n ∷ ns) (suc j) above lt =
      above_at low ns j (and_parts (is_lt (key_order low (slot_at n).key)) (all_above low (keys_in (slots_of slot_at ns))) above).1 (omega (arith, lt))

  all_apart : (n : ℕ) (ns : List ℕ) → all_above (slot_at n).key (keys_in (slots_of slot_at ns)) ≡ true → IsNotAmong n ns
  all_apart n [] above = tt
  all_apart n (m ∷ ns) above =
      let both = and_parts (is_lt (key_order (slot_at n).key (slot_at m).key)) (all_above (slot_at n).key (keys_in (slots_of slot_at ns))) above in
      ((λ e. never_below (slot_at n).key (subst (λ (k : ℕ). is_lt (key_order (slot_at n).key (slot_at k).key) ≡ true) (sym e) both.0)), all_apart n ns both.1)

  pub stands_once : (ns : List ℕ) (p : ℕ) → NumbersRise slot_at ns → p < length ns → IsNotAmong (slice_index ns p) (take p ns ++ drop (suc p) ns)
  stands_once [] p rises lt = absurd (omega (arith, lt))
  stands_once (n ∷ ns) zero rises lt = all_apart n ns (and_parts (all_above (slot_at n).key (keys_in (slots_of slot_at ns))) (keys_rise (keys_in (slots_of slot_at ns))) rises).0
  stands_once (n ∷ ns) (suc p) rises lt =
      let both = and_parts (all_above (slot_at n).key (keys_in (slots_of slot_at ns))) (keys_rise (keys_in (slots_of slot_at ns))) rises in
      let up : is_lt (key_order (slot_at n).key (slot_at (slice_index ns p)).key) ≡ true = above_at (slot_at n).key ns p both.0 (omega (arith, lt)) in (
        (λ e. never_below (slot_at n).key (subst (λ (k : ℕ). is_lt (key_order (slot_at n).key (slot_at k).key) ≡ true) e up)),
        stands_once ns p both.1 (omega (arith, lt)),
      )

-- other numbers keep their slots
slots_apart : (slot_at slot_now : ℕ → Slot) (n : ℕ) (ns : List ℕ) → ((m : ℕ) → m ≢ n → slot_now m ≡ slot_at m) → IsNotAmong n ns → map slot_now ns ≡ map slot_at ns
slots_apart slot_at slot_now n [] beside other = refl
slots_apart slot_at slot_now n (m ∷ ns) beside other =
    ap (λ (s : Slot). s ∷ map slot_now ns) (beside m (λ e. other.0 (sym e))) ∙ ap (λ (rest : List Slot). slot_at m ∷ rest) (slots_apart slot_at slot_now n ns beside other.1)

apart_at : (n : ℕ) (ns : List ℕ) (i : ℕ) → IsNotAmong n ns → i < length ns → slice_index ns i ≢ n
apart_at n [] i other lt = absurd (omega (arith, lt))
apart_at n (m ∷ ns) zero other lt = λ e. other.0 (sym e)
apart_at n (m ∷ ns) (suc i) other lt = apart_at n ns i other.1 (omega (arith, lt))

-- ---- tests of all numbers

all_removed : (test : ℕ → Bool) (ns : List ℕ) (p : ℕ) → list_all test ns ≡ true → list_all test (take p ns ++ drop (suc p) ns) ≡ true
all_removed test [] zero all = refl
all_removed test [] (suc p) all = refl
all_removed test (n ∷ ns) zero all = (and_parts (test n) (list_all test ns) all).1
all_removed test (n ∷ ns) (suc p) all =
    let both = and_parts (test n) (list_all test ns) all in and_from (test n) (list_all test (take p ns ++ drop (suc p) ns)) both.0 (all_removed test ns p both.1)

all_put : (test : ℕ → Bool) (n : ℕ) (ns : List ℕ) (p : ℕ) → test n ≡ true → list_all test ns ≡ true → list_all test (take p ns ++ n ∷ drop p ns) ≡ true
all_put test n [] zero own all = and_from (test n) true own refl
all_put test n [] (suc p) own all = and_from (test n) true own refl
all_put test n (m ∷ ns) zero own all = and_from (test n) (list_all test (m ∷ ns)) own all
all_put test n (m ∷ ns) (suc p) own all =
    let both = and_parts (test m) (list_all test ns) all in and_from (test m) (list_all test (take p ns ++ n ∷ drop p ns)) both.0 (all_put test n ns p own both.1)

-- ---- rows by number

numbered_apart : (rows new : List (Option (List Value))) (n : ℕ) (ns : List ℕ) → ((m : ℕ) → m ≢ n → row_of new m ≡ row_of rows m) → IsNotAmong n ns → are_numbered rows ns ≡ true → are_numbered new ns ≡ true
numbered_apart rows new n [] beside other numbered = refl
numbered_apart rows new n (m ∷ ns) beside other numbered =
    let both = and_parts (is_some (row_of rows m)) (are_numbered rows ns) numbered in
    and_from (is_some (row_of new m)) (are_numbered new ns) (ap (λ (o : Option (List Value)). is_some o) (beside m (λ e. other.0 (sym e))) ∙ both.0) (numbered_apart rows new n ns beside other.1 both.1)

same_slot : (d : TableDef) (rows new : List (Option (List Value))) (m : ℕ) → row_of new m ≡ row_of rows m → row_slot d new m ≡ row_slot d rows m
same_slot d rows new m e = sym (row_slot_is d new m (row_of rows m) (sym e)) ∙ row_slot_is d rows m (row_of rows m) refl

beside_set : (rows : List (Option (List Value))) (n : ℕ) (x : Option (List Value)) (m : ℕ) → m ≢ n → row_of (slice_set rows n x) m ≡ row_of rows m
beside_set rows n x m other = ap (option_and_then (λ (row : Option (List Value)). row)) (set_beside rows n m x other)

-- the number at a spot has a row
pub has_row : (rows : List (Option (List Value))) (blocks : List (List ℕ)) (spot : Spot) (n : ℕ) → are_numbered rows (flat blocks) ≡ true → slice_get (flat blocks) (place blocks spot) ≡ Some n → is_some (row_of rows n) ≡ true
has_row rows blocks spot n numbered at = all_at (λ (m : ℕ). is_some (row_of rows m)) (flat blocks) (place blocks spot) n numbered at

number_is : (blocks : List (List ℕ)) (spot : Spot) (n : ℕ) → IsAt blocks spot → slice_get (flat blocks) (place blocks spot) ≡ Some n → slice_index (flat blocks) (place blocks spot) ≡ n
number_is blocks spot n here at = let both : Some (slice_index (flat blocks) (place blocks spot)) ≡ Some n = sym (number_here blocks spot here) ∙ at in cc

-- ---- a row in the place of another

get_set : (rows : List (Option (List Value))) (n : ℕ) (x y : Option (List Value)) → slice_get rows n ≡ Some y → row_of (slice_set rows n x) n ≡ x
get_set rows n x y e = ap (option_and_then (λ (row : Option (List Value)). row)) (set_there rows n x y e)

some_slot : (rows : List (Option (List Value))) (n : ℕ) (x : Option (List Value)) (o : Option (Option (List Value))) → slice_get rows n ≡ o → is_some (option_and_then (λ (row : Option (List Value)). row) o) ≡ true → row_of (slice_set rows n x) n ≡ x
some_slot rows n x None e some = cc
some_slot rows n x (Some y) e some = get_set rows n x y e

-- a number that has a row has the one that is set
pub set_is : (rows : List (Option (List Value))) (n : ℕ) (x : Option (List Value)) → is_some (row_of rows n) ≡ true → row_of (slice_set rows n x) n ≡ x
set_is rows n x some = some_slot rows n x (slice_get rows n) refl some

some_kept : (rows : List (Option (List Value))) (n m : ℕ) (row : List Value) → is_some (row_of rows m) ≡ true → is_some (row_of (slice_set rows n (Some row)) m) ≡ true
some_kept [] n m row some = some
some_kept (r ∷ rows) zero zero row some = refl
some_kept (r ∷ rows) zero (suc m) row some = some
some_kept (r ∷ rows) (suc n) zero row some = some
some_kept (r ∷ rows) (suc n) (suc m) row some = some_kept rows n m row some

pub numbered_set : (rows : List (Option (List Value))) (n : ℕ) (row : List Value) (ns : List ℕ) → are_numbered rows ns ≡ true → are_numbered (slice_set rows n (Some row)) ns ≡ true
numbered_set rows n row [] numbered = refl
numbered_set rows n row (m ∷ ns) numbered =
    let both = and_parts (is_some (row_of rows m)) (are_numbered rows ns) numbered in
    and_from (is_some (row_of (slice_set rows n (Some row)) m)) (are_numbered (slice_set rows n (Some row)) ns) (some_kept rows n m row both.0) (numbered_set rows n row ns both.1)

-- the slots then: that of the key has the other row
pub slots_replaced : (d : TableDef) (rows : List (Option (List Value))) (blocks : List (List ℕ)) (spot : Spot) (n : ℕ) (row : List Value)
    → are_numbered rows (flat blocks) ≡ true → slice_get (flat blocks) (place blocks spot) ≡ Some n → NumbersRise (row_slot d rows) (flat blocks)
    → IsFound (by_key (row_slot d rows) (primary_key d row)) blocks (Ok spot)
    → slots_of (row_slot d (slice_set rows n (Some row))) (flat blocks) ≡ fill (primary_key d row) (Some row) (slots_of (row_slot d rows) (flat blocks))
slots_replaced d rows blocks spot n row numbered at rises found =
    replaced_at (row_slot d rows) (row_slot d (slice_set rows n (Some row))) (primary_key d row) (Some row) blocks spot rises found
    (ap (row_slot d (slice_set rows n (Some row))) same ∙ now ∙ ap (λ (k : List Value). record { key = k; row = Some row }) (sym (same_is (row_slot d rows (slice_index (flat blocks) (place blocks spot))).key (primary_key d row) (ap is_eq found.1))))
    (λ m other. same_slot d rows (slice_set rows n (Some row)) m (beside_set rows n (Some row) m (λ e. other (e ∙ sym same))))
  where
    same : slice_index (flat blocks) (place blocks spot) ≡ n
    same = number_is blocks spot n found.0 at

    now : row_slot d (slice_set rows n (Some row)) n ≡ record { key = primary_key d row; row = Some row }
    now = sym (row_slot_is d (slice_set rows n (Some row)) n (Some row) (sym (set_is rows n (Some row) (has_row rows blocks spot n numbered at))))

-- ---- a row taken out

pub numbered_taken : (rows : List (Option (List Value))) (blocks : List (List ℕ)) (spot : Spot) (n : ℕ) (ns : List ℕ) → are_numbered rows (flat blocks) ≡ true
    → IsAt blocks spot → slice_get (flat blocks) (place blocks spot) ≡ Some n → ns ≡ remove (flat blocks) (place blocks spot)
    → IsNotAmong (slice_index (flat blocks) (place blocks spot)) (remove (flat blocks) (place blocks spot)) → are_numbered (slice_set rows n None) ns ≡ true
numbered_taken rows blocks spot n ns numbered here at is once =
    ap (are_numbered (slice_set rows n None)) is
    ∙ numbered_apart rows (slice_set rows n None) n (remove (flat blocks) (place blocks spot)) (beside_set rows n None)
    (subst (λ (k : ℕ). IsNotAmong k (remove (flat blocks) (place blocks spot))) (number_is blocks spot n here at) once)
    (all_removed (λ (m : ℕ). is_some (row_of rows m)) (flat blocks) (place blocks spot) numbered)

pub slots_taken : (d : TableDef) (key : List Value) (rows : List (Option (List Value))) (blocks : List (List ℕ)) (spot : Spot) (n : ℕ) (ns : List ℕ)
    → slice_get (flat blocks) (place blocks spot) ≡ Some n → ns ≡ remove (flat blocks) (place blocks spot)
    → IsNotAmong (slice_index (flat blocks) (place blocks spot)) (remove (flat blocks) (place blocks spot))
    → NumbersRise (row_slot d rows) (flat blocks) → IsFound (by_key (row_slot d rows) key) blocks (Ok spot)
    → slots_of (row_slot d (slice_set rows n None)) ns ≡ drop_slot key (slots_of (row_slot d rows) (flat blocks))
slots_taken d key rows blocks spot n ns at is once rises found =
    ap (slots_of (row_slot d (slice_set rows n None))) is
    ∙ slots_apart (row_slot d rows) (row_slot d (slice_set rows n None)) n (remove (flat blocks) (place blocks spot))
    (λ m other. same_slot d rows (slice_set rows n None) m (beside_set rows n None m other))
    (subst (λ (k : ℕ). IsNotAmong k (remove (flat blocks) (place blocks spot))) (number_is blocks spot n found.0 at) once)
    ∙ taken_at (row_slot d rows) key blocks spot rises found

-- the number that was found stands once
pub found_once : (slot_at : ℕ → Slot) (key : List Value) (blocks : List (List ℕ)) (spot : Spot) → NumbersRise slot_at (flat blocks) → IsFound (by_key slot_at key) blocks (Ok spot)
    → IsNotAmong (slice_index (flat blocks) (place blocks spot)) (remove (flat blocks) (place blocks spot))
found_once slot_at key blocks spot rises found = stands_once slot_at (flat blocks) (place blocks spot) rises (place_is_within blocks spot.block spot.at found.0)

-- ---- a row put under a free number

push_beside : (rows : List (Option (List Value))) (x : Option (List Value)) (m : ℕ) → m ≢ length rows → slice_get (rows ++ x ∷ []) m ≡ slice_get rows m
push_beside [] x zero other = absurd (other refl)
push_beside [] x (suc m) other = refl
push_beside (r ∷ rows) x zero other = refl
push_beside (r ∷ rows) x (suc m) other = push_beside rows x m (λ e. other (ap suc e))

push_there : (rows : List (Option (List Value))) (x : Option (List Value)) (n : ℕ) → n ≡ length rows → slice_get (rows ++ x ∷ []) n ≡ Some x
push_there [] x zero e = refl
push_there [] x (suc n) e = absurd (omega (arith, e))
push_there (r ∷ rows) x zero e = absurd (omega (arith, e))
push_there (r ∷ rows) x (suc n) e = push_there rows x n (omega (arith, e))

module _ (rows : List (Option (List Value))) (n : ℕ) (row : List Value) (within : n ≤ length rows) where
  with_there : slice_get (with_row_at rows n row) n ≡ Some (Some row)
  with_there = step (nat_lt n (length rows)) refl
    where
      step : (t : Bool) → nat_lt n (length rows) ≡ t → slice_get (if t then slice_set rows n (Some row) else rows ++ Some row ∷ []) n ≡ Some (Some row)
      step true is = let lt : n < length rows = grind (arith, nat_tests) in get_same rows n (Some row) lt
      step false is = let ge : length rows ≤ n = grind (arith, nat_tests) in push_there rows (Some row) n (omega (arith, ge, within))

  with_beside : (m : ℕ) → m ≢ n → row_of (with_row_at rows n row) m ≡ row_of rows m
  with_beside m other = ap (option_and_then (λ (r : Option (List Value)). r)) (step (nat_lt n (length rows)) refl)
    where
      step : (t : Bool) → nat_lt n (length rows) ≡ t → slice_get (if t then slice_set rows n (Some row) else rows ++ Some row ∷ []) m ≡ slice_get rows m
      step true is = set_beside rows n m (Some row) other
      step false is =
          let ge : length rows ≤ n = grind (arith, nat_tests) in
          let end : length rows ≡ n = omega (arith, ge, within) in push_beside rows (Some row) m (λ e. other (e ∙ end))

  row_there : row_of (with_row_at rows n row) n ≡ Some row
  row_there = ap (option_and_then (λ (r : Option (List Value)). r)) with_there

free_other : (rows : List (Option (List Value))) (n : ℕ) (o : Option (Option (List Value))) → IsFree rows n → slice_get rows n ≡ o → is_some (option_and_then (λ (r : Option (List Value)). r) o) ≡ true → ⊥
free_other rows n None free is some = cc
free_other rows n (Some None) free is some = cc
free_other rows n (Some (Some row)) free is some = free row is

-- a free number is none of those that have rows
free_apart : (rows : List (Option (List Value))) (n : ℕ) (ns : List ℕ) → IsFree rows n → are_numbered rows ns ≡ true → IsNotAmong n ns
free_apart rows n [] free numbered = tt
free_apart rows n (m ∷ ns) free numbered =
    let both = and_parts (is_some (row_of rows m)) (are_numbered rows ns) numbered in
    ((λ e. free_other rows n (slice_get rows n) free refl (ap (λ (k : ℕ). is_some (row_of rows k)) e ∙ both.0)), free_apart rows n ns free both.1)

pub numbered_more : (rows new : List (Option (List Value))) (n : ℕ) (row : List Value) (blocks : List (List ℕ)) (spot : Spot) (ns : List ℕ) → IsFree rows n → n ≤ length rows → new ≡ with_row_at rows n row
    → ns ≡ insert (flat blocks) (place blocks spot) n → are_numbered rows (flat blocks) ≡ true → are_numbered new ns ≡ true
numbered_more rows new n row blocks spot ns free within is put numbered =
    ap (λ (rs : List (Option (List Value))). are_numbered rs ns) is ∙ ap (are_numbered (with_row_at rows n row)) put
    ∙ all_put (λ (m : ℕ). is_some (row_of (with_row_at rows n row) m)) n (flat blocks) (place blocks spot)
    (ap (λ (o : Option (List Value)). is_some o) (row_there rows n row within))
    (numbered_apart rows (with_row_at rows n row) n (flat blocks) (with_beside rows n row within) (free_apart rows n (flat blocks) free numbered) numbered)

pub slots_more : (d : TableDef) (rows new : List (Option (List Value))) (n : ℕ) (row : List Value) (blocks : List (List ℕ)) (spot : Spot) (ns : List ℕ) → IsFree rows n → n ≤ length rows → new ≡ with_row_at rows n row
    → ns ≡ insert (flat blocks) (place blocks spot) n → are_numbered rows (flat blocks) ≡ true → IsSpot blocks spot
    → IsFound (by_key (row_slot d rows) (primary_key d row)) blocks (Err spot)
    → slots_of (row_slot d new) ns ≡ over (record { key = primary_key d row; row = Some row } ∷ []) (slots_of (row_slot d rows) (flat blocks))
slots_more d rows new n row blocks spot ns free within is put numbered here missing =
    ap (λ (rs : List (Option (List Value))). slots_of (row_slot d rs) ns) is ∙ ap (slots_of (row_slot d (with_row_at rows n row))) put
    ∙ put_at (row_slot d (with_row_at rows n row)) (primary_key d row) blocks spot n (ap (λ (s : Slot). s.key) slot_new) (
      (λ i lt. ap (λ (s : Slot). key_order s.key (primary_key d row)) (same_at i (omega (arith, lt, spot_within blocks spot.block spot.at here.1))) ∙ missing.0 i lt),
      (λ i le lt. ap (λ (s : Slot). key_order s.key (primary_key d row)) (same_at i lt) ∙ missing.1 i le lt),
    )
    ∙ ap (λ (s : Slot). over (s ∷ []) (slots_of (row_slot d (with_row_at rows n row)) (flat blocks))) slot_new
    ∙ ap (over (record { key = primary_key d row; row = Some row } ∷ []))
    (slots_apart (row_slot d rows) (row_slot d (with_row_at rows n row)) n (flat blocks) same other)
  where
    slot_new : row_slot d (with_row_at rows n row) n ≡ record { key = primary_key d row; row = Some row }
    slot_new = sym (row_slot_is d (with_row_at rows n row) n (Some row) (sym (row_there rows n row within)))

    other : IsNotAmong n (flat blocks)
    other = free_apart rows n (flat blocks) free numbered

    same : (m : ℕ) → m ≢ n → row_slot d (with_row_at rows n row) m ≡ row_slot d rows m
    same m apart_from = same_slot d rows (with_row_at rows n row) m (with_beside rows n row within m apart_from)

    same_at : (i : ℕ) → i < length (flat blocks) → row_slot d (with_row_at rows n row) (slice_index (flat blocks) i) ≡ row_slot d rows (slice_index (flat blocks) i)
    same_at i lt = same (slice_index (flat blocks) i) (apart_at n (flat blocks) i other lt)

-- ---- the first entry taken out

split_first : (ns : List ℕ) (n : ℕ) → slice_get ns 0 ≡ Some n → ns ≡ n ∷ drop 1 ns
split_first [] n e = cc
split_first (m ∷ ns) n e = let same : m ≡ n = cc in ap (λ (k : ℕ). k ∷ ns) same

module _ (d : TableDef) (entries : List Entry) (n : ℕ) (entry : Entry) (q : Option (List Value)) (there : slice_get entries n ≡ Some entry) where
  abbrev left : Entry
  left = record { bearer = entry.bearer; present = q }

  abbrev pub entries_taken : List Entry
  entries_taken = slice_set entries n (record { bearer = entry.bearer; present = q })

  taken_key : primary_key d entry.bearer ≡ (entry_slot d entries_taken n).key
  taken_key = ap (λ (s : Slot). s.key) (entry_slot_is d entries_taken n (Some left) (sym (set_there entries n left entry there)))

  taken_beside : (m : ℕ) → m ≢ n → entry_slot d entries_taken m ≡ entry_slot d entries m
  taken_beside m other = sym (entry_slot_is d entries_taken m (slice_get entries m) (sym (set_beside entries n m left other))) ∙ entry_slot_is d entries m (slice_get entries m) refl

  taken_head : (r : Option (List Value)) → r ≡ entry.present → entry_slot d entries n ≡ record { key = (entry_slot d entries_taken n).key; row = r }
  taken_head r own =
      sym (entry_slot_is d entries n (Some entry) (sym there))
      ∙ ap (λ (k : List Value). record { key = k; row = entry.present }) taken_key
      ∙ ap (λ (p : Option (List Value)). record { key = (entry_slot d entries_taken n).key; row = p }) (sym own)

  taken_once : (ns : List ℕ) → NumbersRise (entry_slot d entries) (n ∷ ns) → IsNotAmong n ns
  taken_once ns rises =
      all_apart (entry_slot d entries) n ns
      (and_parts (all_above (entry_slot d entries n).key (keys_in (slots_of (entry_slot d entries) ns))) (keys_rise (keys_in (slots_of (entry_slot d entries) ns))) rises).0

  split_slots : (r : Option (List Value)) → r ≡ entry.present → (ns : List ℕ) → NumbersRise (entry_slot d entries) (n ∷ ns)
      → slots_of (entry_slot d entries) (n ∷ ns) ≡ record { key = (entry_slot d entries_taken n).key; row = r } ∷ slots_of (entry_slot d entries_taken) ns
  split_slots r own ns rises =
      ap (λ (s : Slot). s ∷ map (entry_slot d entries) ns) (taken_head r own)
      ∙ ap (λ (more : List Slot). record { key = (entry_slot d entries_taken n).key; row = r } ∷ more) (sym (slots_apart (entry_slot d entries) (entry_slot d entries_taken) n ns taken_beside (taken_once ns rises)))

  pub first_slots : (r : Option (List Value)) (ns ms : List ℕ) (at : ℕ) → r ≡ entry.present → at ≡ 0 → slice_get ns at ≡ Some n → ms ≡ remove ns at → NumbersRise (entry_slot d entries) ns
      → slots_of (entry_slot d entries) ns ≡ record { key = (entry_slot d entries_taken n).key; row = r } ∷ slots_of (entry_slot d entries_taken) ms
  first_slots r ns ms at own zero_at first rest rises =
      let whole : ns ≡ n ∷ drop 1 ns = split_first ns n (ap (slice_get ns) (sym zero_at) ∙ first) in
      ap (slots_of (entry_slot d entries)) whole
      ∙ split_slots r own (drop 1 ns) (subst (λ (ks : List ℕ). NumbersRise (entry_slot d entries) ks) whole rises)
      ∙ ap (λ (more : List ℕ). record { key = (entry_slot d entries_taken n).key; row = r } ∷ slots_of (entry_slot d entries_taken) more) (sym (rest ∙ ap (remove ns) zero_at))

-- ---- an entry read by its number

pub entry_there : {G : Type 0} (entries : List Entry) (n : ℕ) → n < length entries → None ≡ slice_get entries n → G
entry_there [] n lt e = absurd (omega (arith, lt))
entry_there (x ∷ xs) zero lt e = cc
entry_there (x ∷ xs) (suc n) lt e = entry_there xs n (omega (arith, lt)) e

-- the slots, that of the entry first
pub first_of : (d : TableDef) (old new : Overlay) (n : ℕ) (p : Option (List Value)) (entry : Entry) (bearer : List Value) → IsTakenFirst old new n p
    → NumbersRise (entry_slot d old.entries.items) (flat old.ranks.blocks) → Some entry ≡ slice_get new.entries.items n → bearer ≡ entry.bearer
    → entry_slots d old ≡ record { key = primary_key d bearer; row = p } ∷ entry_slots d new
first_of d old new n p entry bearer first rises is own =
    first.slots d rises
    ∙ ap (λ (k : List Value). record { key = k; row = p } ∷ entry_slots d new) (sym (ap (λ (s : Slot). s.key) (entry_slot_is d new.entries.items n (Some entry) is)) ∙ ap (primary_key d) (sym own))

-- ---- rows of other numbers

pub set_others : (rows new : List (Option (List Value))) (blocks : List (List ℕ)) (spot : Spot) (n : ℕ) (x : Option (List Value)) → IsAt blocks spot → slice_get (flat blocks) (place blocks spot) ≡ Some n → new ≡ slice_set rows n x
    → (m : ℕ) → m ≢ slice_index (flat blocks) (place blocks spot) → row_of new m ≡ row_of rows m
set_others rows new blocks spot n x here at is m differs =
    ap (λ (rs : List (Option (List Value))). row_of rs m) is ∙ beside_set rows n x m (λ e. differs (e ∙ sym (number_is blocks spot n here at)))

free_has_none : (rows : List (Option (List Value))) (n : ℕ) (row : List Value) → IsFree rows n → row_of rows n ≡ Some row → ⊥
free_has_none rows n row free has = free_other rows n (slice_get rows n) free refl (ap (λ (o : Option (List Value)). is_some o) has)

pub put_others : (rows new : List (Option (List Value))) (n : ℕ) (row : List Value) → IsFree rows n → n ≤ length rows → new ≡ with_row_at rows n row → (m : ℕ) (other : List Value) → row_of rows m ≡ Some other → row_of new m ≡ Some other
put_others rows new n row free within is m other has =
    ap (λ (rs : List (Option (List Value))). row_of rs m) is
    ∙ with_beside rows n row within m (λ e. free_has_none rows n other free (ap (row_of rows) (sym e) ∙ has)) ∙ has

-- the number that was found has a row of the key
pub others_found : (d : TableDef) (key : List Value) (rows new : List (Option (List Value))) (blocks : List (List ℕ)) (spot : Spot) → IsFound (by_key (row_slot d rows) key) blocks (Ok spot)
    → ((m : ℕ) → m ≢ slice_index (flat blocks) (place blocks spot) → row_of new m ≡ row_of rows m) → (m : ℕ) (row : List Value) → row_of rows m ≡ Some row → same_values (primary_key d row) key ≡ false → row_of new m ≡ Some row
others_found d key rows new blocks spot found others m row has differs = others m never ∙ has
  where
    never : m ≡ slice_index (flat blocks) (place blocks spot) → ⊥
    never e =
        let slot : row_slot d rows (slice_index (flat blocks) (place blocks spot)) ≡ record { key = primary_key d row; row = Some row } =
        sym (row_slot_is d rows (slice_index (flat blocks) (place blocks spot)) (Some row) (sym has ∙ ap (row_of rows) e)) in
        let same : same_values (primary_key d row) key ≡ true = ap (λ (s : Slot). same_values s.key key) (sym slot) ∙ ap is_eq found.1 in
        true≢false (sym same ∙ differs)
