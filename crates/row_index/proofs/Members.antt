-- What the numbers of an index are of: rows that have values of their own, and no more of them than rows.
use Rattle.std.proofs.Common.{◌≡◌, ℕ, zero, suc, ◌≤◌, List, [], ◌∷◌, length, Bool, true, false, ◌||◌, cond, Option, Some, None, refl, sym, ap, ◌∙◌, arith}
use Rattle.std.specs.Prelude.{slice_get, map}
use Rattle.std.specs.List.{list_any, list_all}
use Rattle.std.specs.Option.{option_map}
use Rattle.std.specs.Ordering.{is_lt}
use Rattle.std.proofs.lemmas.Bool.{and_parts, and_from}
use Rattle.std.proofs.lemmas.List.{length-map}
use Rattle.val_types.specs.declared.value.Value.{Value}
use Rattle.val_types.specs.declared.definitions.KeyDef.{KeyDef}
use Rattle.val_types.specs.Keys.{values_at, same_values}
use Rattle.val_types.specs.Order.{key_order}
use Rattle.table_rules.specs.Stored.{row_of_values}
use Rattle.table_rules.proofs.Taking.{same_is, same_self}
use Rattle.row_sheets.specs.Slots.{Slot, held, keys_in, keys_rise, all_above}
use Rattle.row_sheets.specs.Claims.{has_values}
use Rattle.row_sheets.proofs.Over.{apart}
use Rattle.row_sheets.proofs.Held.{held_first, held_rest}
use Rattle.row_sheets.proofs.Claims.{values_are}
use Rattle.row_indexes.specs.Indexes.{slot_by_values, IsIndexOf}
use Rattle.row_index.specs.Numbers.{number_slot, number_slots}
use Rattle.row_index.proofs.Numbered.{number_slot_is, slot_has_row}

-- ---- slots that rise

above_at : (key : List Value) (ss : List Slot) (i : ℕ) (s : Slot) → all_above key (keys_in ss) ≡ true → slice_get ss i ≡ Some s → is_lt (key_order key s.key) ≡ true
above_at key [] i s above at = cc
above_at key (t ∷ ss) zero s above at =
    let same : t ≡ s = cc in ap (λ (x : Slot). is_lt (key_order key x.key)) (sym same) ∙ (and_parts (is_lt (key_order key t.key)) (all_above key (keys_in ss)) above).0
above_at key (t ∷ ss) (suc i) s above at = above_at key ss i s (and_parts (is_lt (key_order key t.key)) (all_above key (keys_in ss)) above).1 at

-- each slot is that of its key
pub slot_held : (ss : List Slot) (i : ℕ) (s : Slot) → keys_rise (keys_in ss) ≡ true → slice_get ss i ≡ Some s → held s.key ss ≡ Some s.row
slot_held [] i s rises at = cc
slot_held (t ∷ ss) zero s rises at = let same : t ≡ s = cc in ap (λ (x : Slot). held x.key (t ∷ ss)) (sym same) ∙ held_first t ss ∙ ap (λ (x : Slot). Some x.row) same
slot_held (t ∷ ss) (suc i) s rises at =
    let both = and_parts (all_above t.key (keys_in ss)) (keys_rise (keys_in ss)) rises in
    held_rest s.key t ss (apart t.key s.key (above_at t.key ss i s both.0 at)) ∙ slot_held ss i s both.1 at

pub mapped : {A B : Type 0} (f : A → B) (xs : List A) (i : ℕ) (x : A) → slice_get xs i ≡ Some x → slice_get (map f xs) i ≡ Some (f x)
mapped f [] i x e = cc
mapped f (y ∷ xs) zero x e = let same : y ≡ x = cc in ap (λ z. Some (f z)) same
mapped f (y ∷ xs) (suc i) x e = mapped f xs i x e

-- ---- a number of an index

-- it is that of a row which has its values among the rows
pub record IsOfRow (u : KeyDef) (row_at : ℕ → Option (List Value)) (rows : List (List Value)) (n : ℕ) : Type 0 where
  pub row : List Value
  pub there : row_at n ≡ Some row
  pub is : row_of_values u (values_at u.columns row) rows ≡ Some row

pub is_of_row : (u : KeyDef) (row_at : ℕ → Option (List Value)) (ns : List ℕ) (rows : List (List Value)) (i n : ℕ) → IsIndexOf u (number_slots u row_at ns) rows → slice_get ns i ≡ Some n → IsOfRow u row_at rows n
is_of_row u row_at ns rows i n index at = by (row_of_values u (number_slot u row_at n).key rows) refl
  where
    holds : option_map (λ r. Some r) (row_of_values u (number_slot u row_at n).key rows) ≡ Some (number_slot u row_at n).row
    holds = sym (index.told (number_slot u row_at n).key) ∙ slot_held (number_slots u row_at ns) i (number_slot u row_at n) index.rising (mapped (number_slot u row_at) ns i n at)

    by : (o : Option (List Value)) → row_of_values u (number_slot u row_at n).key rows ≡ o → IsOfRow u row_at rows n
    by None is = let never : None ≡ Some (number_slot u row_at n).row = sym (ap (option_map (λ r. Some r)) is) ∙ holds in cc
    by (Some r) is =
        let both : Some (Some r) ≡ Some (number_slot u row_at n).row = sym (ap (option_map (λ r. Some r)) is) ∙ holds in
        let has : Some r ≡ (number_slot u row_at n).row = cc in
        let there : row_at n ≡ Some r = sym (slot_has_row u row_at n) ∙ sym has in
        let slot : number_slot u row_at n ≡ record { key = values_at u.columns r; row = Some r } = sym (number_slot_is u row_at n (Some r) (sym there)) in
        record { row = r; there = there; is = ap (λ (s : Slot). row_of_values u s.key rows) (sym slot) ∙ is }

-- the slots of numbers that are still those of the same rows
pub slots_same : (u : KeyDef) (old new : ℕ → Option (List Value)) (ns : List ℕ) → ((i n : ℕ) → slice_get ns i ≡ Some n → new n ≡ old n) → number_slots u new ns ≡ number_slots u old ns
slots_same u old new [] same = refl
slots_same u old new (n ∷ ns) same =
    ap (λ (s : Slot). s ∷ number_slots u new ns) (sym (number_slot_is u new n (new n) refl) ∙ ap (slot_by_values u) (same 0 n refl) ∙ number_slot_is u old n (old n) refl)
    ∙ ap (λ (ss : List Slot). number_slot u old n ∷ ss) (slots_same u old new ns (λ i m at. same (suc i) m at))

-- ---- no more values than rows

without : List Value → List (List Value) → List (List Value)
without x [] = []
without x (y ∷ ys) = cond (same_values x y) ys (y ∷ without x ys)

length-without : (x : List Value) (ys : List (List Value)) → list_any (same_values x) ys ≡ true → length ys ≡ suc (length (without x ys))
unfolding without
length-without x [] e = cc
length-without x (y ∷ ys) e = step (same_values x y) e (length-without x ys)
  where
    step : (here : Bool) → (here || list_any (same_values x) ys) ≡ true → (list_any (same_values x) ys ≡ true → length ys ≡ suc (length (without x ys))) → suc (length ys) ≡ suc (length (cond here ys (y ∷ without x ys)))
    step true e later = refl
    step false e later = ap suc (later e)

any_without : (k x : List Value) (ys : List (List Value)) → same_values k x ≡ false → list_any (same_values k) ys ≡ true → list_any (same_values k) (without x ys) ≡ true
unfolding without
any_without k x [] differs e = e
any_without k x (y ∷ ys) differs e = step (same_values x y) refl (same_values k y) refl e (any_without k x ys differs)
  where
    step : (here : Bool) → same_values x y ≡ here → (mine : Bool) → same_values k y ≡ mine → (same_values k y || list_any (same_values k) ys) ≡ true
        → (list_any (same_values k) ys ≡ true → list_any (same_values k) (without x ys) ≡ true) → list_any (same_values k) (cond here ys (y ∷ without x ys)) ≡ true
    step true is true own e later = let never : true ≡ false = sym own ∙ ap (same_values k) (sym (same_is x y is)) ∙ differs in cc
    step true is false own e later = ap (λ (b : Bool). b || list_any (same_values k) ys) (sym own) ∙ e
    step false is true own e later = ap (λ (b : Bool). b || list_any (same_values k) (without x ys)) own
    step false is false own e later =
        ap (λ (b : Bool). b || list_any (same_values k) (without x ys)) own
        ∙ later (ap (λ (b : Bool). b || list_any (same_values k) ys) (sym own) ∙ e)

all_without : (x : List Value) (xs ys : List (List Value)) → all_above x xs ≡ true → list_all (λ k. list_any (same_values k) ys) xs ≡ true → list_all (λ k. list_any (same_values k) (without x ys)) xs ≡ true
all_without x [] ys above all = refl
all_without x (k ∷ xs) ys above all =
    let up = and_parts (is_lt (key_order x k)) (all_above x xs) above in
    let both = and_parts (list_any (same_values k) ys) (list_all (λ j. list_any (same_values j) ys) xs) all in
    and_from (list_any (same_values k) (without x ys)) (list_all (λ j. list_any (same_values j) (without x ys)) xs) (any_without k x ys (apart x k up.0) both.0) (all_without x xs ys up.1 both.1)

-- keys that rise and are all among others are no more than these
few_among : (xs ys : List (List Value)) → keys_rise xs ≡ true → list_all (λ k. list_any (same_values k) ys) xs ≡ true → length xs ≤ length ys
few_among [] ys rises all = omega arith
few_among (x ∷ xs) ys rises all =
    let up = and_parts (all_above x xs) (keys_rise xs) rises in
    let both = and_parts (list_any (same_values x) ys) (list_all (λ k. list_any (same_values k) ys) xs) all in
    let less : length xs ≤ length (without x ys) = few_among xs (without x ys) up.1 (all_without x xs ys up.0 both.1) in
    omega (arith, less, length-without x ys both.0)

values_among : (u : KeyDef) (values row : List Value) (rows : List (List Value)) → row_of_values u values rows ≡ Some row → list_any (same_values values) (map (values_at u.columns) rows) ≡ true
values_among u values row [] e = cc
values_among u values row (r ∷ rows) e = step (has_values u values r) refl e (values_among u values row rows)
  where
    step : (here : Bool) → has_values u values r ≡ here → cond here (Some r) (row_of_values u values rows) ≡ Some row
        → (row_of_values u values rows ≡ Some row → list_any (same_values values) (map (values_at u.columns) rows) ≡ true) → (same_values values (values_at u.columns r) || list_any (same_values values) (map (values_at u.columns) rows)) ≡ true
    step true has e later =
        let is : values ≡ values_at u.columns r = values_are u values r has in
        ap (λ (b : Bool). b || list_any (same_values values) (map (values_at u.columns) rows)) (ap (same_values values) (sym is) ∙ same_self values)
    step false has e later = either (same_values values (values_at u.columns r)) (later e)
      where
        either : (b : Bool) → list_any (same_values values) (map (values_at u.columns) rows) ≡ true → (b || list_any (same_values values) (map (values_at u.columns) rows)) ≡ true
        either true more = refl
        either false more = more

all_keys : (ss : List Slot) (ys : List (List Value)) → ((i : ℕ) (s : Slot) → slice_get ss i ≡ Some s → list_any (same_values s.key) ys ≡ true) → list_all (λ k. list_any (same_values k) ys) (keys_in ss) ≡ true
all_keys [] ys each = refl
all_keys (s ∷ ss) ys each =
    and_from (list_any (same_values s.key) ys) (list_all (λ k. list_any (same_values k) ys) (keys_in ss)) (each 0 s refl) (all_keys ss ys (λ i t at. each (suc i) t at))

-- an index has no more slots than there are rows
pub index_is_few : (u : KeyDef) (index : List Slot) (rows : List (List Value)) → IsIndexOf u index rows → length index ≤ length rows
index_is_few u index rows are =
    omega (arith, few_among (keys_in index) (map (values_at u.columns) rows) are.rising (all_keys index (map (values_at u.columns) rows) each), length-map index (λ (s : Slot). s.key), length-map rows (values_at u.columns))
  where
    each : (i : ℕ) (s : Slot) → slice_get index i ≡ Some s → list_any (same_values s.key) (map (values_at u.columns) rows) ≡ true
    each i s at = by (row_of_values u s.key rows) refl
      where
        by : (o : Option (List Value)) → row_of_values u s.key rows ≡ o → list_any (same_values s.key) (map (values_at u.columns) rows) ≡ true
        by None is = let never : None ≡ Some s.row = sym (ap (option_map (λ r. Some r)) is) ∙ sym (are.told s.key) ∙ slot_held index i s are.rising at in cc
        by (Some row) is = values_among u s.key row rows is
