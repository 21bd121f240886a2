-- Numbers as slots: how they compare, and what becomes of them where a row or an entry is written.
use Rattle.std.proofs.Common.{◌≡◌, ◌≢◌, ℕ, zero, suc, ◌+◌, ◌<◌, ◌≤◌, List, [], ◌∷◌, ◌++◌, length, get_or, take, drop, length-append, Bool, true, Option, Some, None, Ok, Err, Ordering, refl, sym, ap, subst, ◌∙◌, arith}
use Rattle.std.specs.Prelude.{slice_get, slice_set, slice_index, insert, nat_lt, map}
use Rattle.std.specs.List.{list_all}
use Rattle.std.specs.Option.{option_and_then}
use Rattle.std.proofs.lemmas.Bool.{and_parts, and_from}
use Rattle.std.proofs.lemmas.Bool.Decides.{nat_tests}
use Rattle.std.proofs.lemmas.Option.{slice_get-get_or}
use Rattle.val_types.specs.declared.value.Value.{Value}
use Rattle.val_types.specs.declared.definitions.TableDef.{TableDef}
use Rattle.val_types.specs.Keys.{primary_key}
use Rattle.val_types.specs.Order.{key_order}
use Rattle.row_index.specs.block_list.Layouts.{flat}
use Rattle.row_index.specs.block_list.Spots.{block_at, place, IsAt, IsFound, IsSpot}
use Rattle.row_index.specs.block_list.declared.spot.Spot.{Spot}
use Rattle.row_index.proofs.of_block_list.Found.{place_is_within}
use Rattle.row_index.specs.row_sheets.Slots.{Slot, fill}
use Rattle.row_index.specs.row_sheets.Over.{over}
use Rattle.row_index.specs.row_sheets.Orders.{by_key, slots_of, NumbersRise}
use Rattle.row_index.proofs.of_row_sheets.Orders.{replaced_at, put_at}
use Rattle.table_sheet.specs.declared.entry.Entry.{Entry}
use Rattle.table_sheet.specs.Numbered.{row_of, slot_of_row, row_slot}
use Rattle.table_sheet.specs.Ranked.{slot_of_entry, entry_slot, shown_by, are_ranked}

-- the slot of a number is that of its row
pub row_slot_is : (d : TableDef) (rows : List (Option (List Value))) (n : ℕ) (o : Option (List Value)) → o ≡ row_of rows n → slot_of_row d o ≡ row_slot d rows n
unfolding row_slot
row_slot_is d rows n o e = ap (slot_of_row d) e

-- and that of its entry
pub entry_slot_is : (d : TableDef) (entries : List Entry) (n : ℕ) (o : Option Entry) → o ≡ slice_get entries n → slot_of_entry d o ≡ entry_slot d entries n
unfolding entry_slot
entry_slot_is d entries n o e = ap (slot_of_entry d) e

-- ---- how a number's key stands to one that is looked for, which may be a row's

pub row_compared : (x d : TableDef) (rows : List (Option (List Value))) (n : ℕ) (key : TableDef → List Value) (row : List Value) (order : Ordering) → x ≡ d → Some row ≡ row_of rows n
    → order ≡ key_order (primary_key x row) (key x) → order ≡ by_key (row_slot d rows) (key d) n
row_compared x d rows n key row order same is e =
    e ∙ ap (λ (y : TableDef). key_order (primary_key y row) (key y)) same ∙ ap (λ (s : Slot). key_order s.key (key d)) (row_slot_is d rows n (Some row) is)

pub no_row_compared : (x d : TableDef) (rows : List (Option (List Value))) (n : ℕ) (key : TableDef → List Value) (order : Ordering) → x ≡ d → None ≡ row_of rows n
    → order ≡ key_order [] (key x) → order ≡ by_key (row_slot d rows) (key d) n
no_row_compared x d rows n key order same is e =
    e ∙ ap (λ (y : TableDef). key_order [] (key y)) same ∙ ap (λ (s : Slot). key_order s.key (key d)) (row_slot_is d rows n None is)

pub entry_compared : (x d : TableDef) (entries : List Entry) (n : ℕ) (key : TableDef → List Value) (entry : Entry) (bearer : List Value) (order : Ordering) → x ≡ d → bearer ≡ entry.bearer
    → Some entry ≡ slice_get entries n → order ≡ key_order (primary_key x bearer) (key x) → order ≡ by_key (entry_slot d entries) (key d) n
entry_compared x d entries n key entry bearer order same own is e =
    e ∙ ap (λ (y : TableDef). key_order (primary_key y bearer) (key y)) same
    ∙ ap (λ (b : List Value). key_order (primary_key d b) (key d)) own
    ∙ ap (λ (s : Slot). key_order s.key (key d)) (entry_slot_is d entries n (Some entry) is)

pub no_entry_compared : (x d : TableDef) (entries : List Entry) (n : ℕ) (key : TableDef → List Value) (order : Ordering) → x ≡ d → None ≡ slice_get entries n
    → order ≡ key_order [] (key x) → order ≡ by_key (entry_slot d entries) (key d) n
no_entry_compared x d entries n key order same is e =
    e ∙ ap (λ (y : TableDef). key_order [] (key y)) same ∙ ap (λ (s : Slot). key_order s.key (key d)) (entry_slot_is d entries n None is)

-- ---- lists of numbers and of what they are of

pub number_here : (blocks : List (List ℕ)) (spot : Spot) → IsAt blocks spot → slice_get (flat blocks) (place blocks spot) ≡ Some (slice_index (flat blocks) (place blocks spot))
number_here blocks spot at = slice_get-get_or (flat blocks) (place blocks spot) 0 (place_is_within blocks spot.block spot.at at)

pub all_at : {X : Type 0} (test : X → Bool) (xs : List X) (i : ℕ) (x : X) → list_all test xs ≡ true → slice_get xs i ≡ Some x → test x ≡ true
all_at test [] i x all e = cc
all_at test (y ∷ ys) zero x all e = let same : y ≡ x = cc in subst (λ z. test z ≡ true) same (and_parts (test y) (list_all test ys) all).0
all_at test (y ∷ ys) (suc i) x all e = all_at test ys i x (and_parts (test y) (list_all test ys) all).1 e

pub set_there : {X : Type 0} (xs : List X) (n : ℕ) (x y : X) → slice_get xs n ≡ Some y → slice_get (slice_set xs n x) n ≡ Some x
set_there [] n x y e = cc
set_there (z ∷ xs) zero x y e = refl
set_there (z ∷ xs) (suc n) x y e = set_there xs n x y e

pub set_beside : {X : Type 0} (xs : List X) (n m : ℕ) (x : X) → m ≢ n → slice_get (slice_set xs n x) m ≡ slice_get xs m
set_beside [] n m x other = refl
set_beside (y ∷ xs) zero zero x other = absurd (other refl)
set_beside (y ∷ xs) zero (suc m) x other = refl
set_beside (y ∷ xs) (suc n) zero x other = refl
set_beside (y ∷ xs) (suc n) (suc m) x other = set_beside xs n m x (λ e. other (ap suc e))

pub pushed_before : {X : Type 0} (xs more : List X) (n : ℕ) → n < length xs → slice_get (xs ++ more) n ≡ slice_get xs n
pushed_before [] more n lt = absurd (omega (arith, lt))
pushed_before (y ∷ xs) more zero lt = refl
pushed_before (y ∷ xs) more (suc n) lt = pushed_before xs more n (omega (arith, lt))

pub pushed_at_end : {X : Type 0} (xs : List X) (x : X) (n : ℕ) → n ≡ length xs → slice_get (xs ++ x ∷ []) n ≡ Some x
pushed_at_end [] x zero e = refl
pushed_at_end [] x (suc n) e = absurd (omega (arith, e))
pushed_at_end (y ∷ xs) x zero e = absurd (omega (arith, e))
pushed_at_end (y ∷ xs) x (suc n) e = pushed_at_end xs x n (omega (arith, e))

-- ---- an entry given another row

module _ (d : TableDef) (entries : List Entry) (n : ℕ) (entry : Entry) (p : Option (List Value)) (there : slice_get entries n ≡ Some entry) where
  abbrev pub entries_set : List Entry
  entries_set = slice_set entries n (record { bearer = entry.bearer; present = p })

  slot_set : entry_slot d entries_set n ≡ record { key = (entry_slot d entries n).key; row = p }
  slot_set =
      sym (entry_slot_is d entries_set n (Some (record { bearer = entry.bearer; present = p })) (sym (set_there entries n (record { bearer = entry.bearer; present = p }) entry there)))
      ∙ ap (λ (s : Slot). record { key = s.key; row = p }) (entry_slot_is d entries n (Some entry) (sym there))

  slots_beside : (m : ℕ) → m ≢ n → entry_slot d entries_set m ≡ entry_slot d entries m
  slots_beside m other = sym (entry_slot_is d entries_set m (slice_get entries m) (sym (set_beside entries n m (record { bearer = entry.bearer; present = p }) other))) ∙ entry_slot_is d entries m (slice_get entries m) refl

  pub slots_set : (key : List Value) (blocks : List (List ℕ)) (spot : Spot) → slice_get (flat blocks) (place blocks spot) ≡ Some n
      → NumbersRise (entry_slot d entries) (flat blocks) → IsFound (by_key (entry_slot d entries) key) blocks (Ok spot)
      → slots_of (entry_slot d entries_set) (flat blocks) ≡ fill key p (slots_of (entry_slot d entries) (flat blocks))
  slots_set key blocks spot at rises found =
      let both : Some (slice_index (flat blocks) (place blocks spot)) ≡ Some n = sym (number_here blocks spot found.0) ∙ at in
      let same : slice_index (flat blocks) (place blocks spot) ≡ n = cc in
      replaced_at (entry_slot d entries) (entry_slot d entries_set) key p blocks spot rises found
      (ap (entry_slot d entries_set) same ∙ slot_set ∙ ap (λ (m : ℕ). record { key = (entry_slot d entries m).key; row = p }) (sym same))
      (λ m other. slots_beside m (λ e. other (e ∙ sym same)))

-- ---- an entry more

module _ (d : TableDef) (entries : List Entry) (entry : Entry) where
  abbrev pub entries_more : List Entry
  entries_more = entries ++ entry ∷ []

  slot_more : (m : ℕ) → m < length entries → entry_slot d entries_more m ≡ entry_slot d entries m
  slot_more m lt = sym (entry_slot_is d entries_more m (slice_get entries m) (sym (pushed_before entries (entry ∷ []) m lt))) ∙ entry_slot_is d entries m (slice_get entries m) refl

  slot_new : entry_slot d entries_more (length entries) ≡ record { key = primary_key d entry.bearer; row = entry.present }
  slot_new = sym (entry_slot_is d entries_more (length entries) (Some entry) (sym (pushed_at_end entries entry (length entries) refl)))

  ranked_lt : (m : ℕ) → nat_lt m (length entries) ≡ true → m < length entries
  ranked_lt m e = grind (arith, nat_tests)

  slots_more : (ns : List ℕ) → are_ranked entries ns ≡ true → map (entry_slot d entries_more) ns ≡ map (entry_slot d entries) ns
  slots_more [] ranked = refl
  slots_more (m ∷ ns) ranked =
      let both = and_parts (nat_lt m (length entries)) (are_ranked entries ns) ranked in
      ap (λ (s : Slot). s ∷ map (entry_slot d entries_more) ns) (slot_more m (ranked_lt m both.0)) ∙ ap (λ (rest : List Slot). entry_slot d entries m ∷ rest) (slots_more ns both.1)

  same_at : (blocks : List (List ℕ)) (i : ℕ) → are_ranked entries (flat blocks) ≡ true → i < length (flat blocks)
      → entry_slot d entries_more (slice_index (flat blocks) i) ≡ entry_slot d entries (slice_index (flat blocks) i)
  same_at blocks i ranked lt =
      slot_more (slice_index (flat blocks) i)
      (ranked_lt (slice_index (flat blocks) i) (all_at (λ (m : ℕ). nat_lt m (length entries)) (flat blocks) i (slice_index (flat blocks) i) ranked (slice_get-get_or (flat blocks) i 0 lt)))

  -- a number is put where the key of its entry belongs
  pub slots_put : (key : List Value) (blocks : List (List ℕ)) (spot : Spot) → primary_key d entry.bearer ≡ key → are_ranked entries (flat blocks) ≡ true → place blocks spot < suc (length (flat blocks))
      → IsFound (by_key (entry_slot d entries) key) blocks (Err spot)
      → slots_of (entry_slot d entries_more) (insert (flat blocks) (place blocks spot) (length entries)) ≡ over (record { key = key; row = entry.present } ∷ []) (slots_of (entry_slot d entries) (flat blocks))
  slots_put key blocks spot own ranked within missing =
      put_at (entry_slot d entries_more) key blocks spot (length entries) (ap (λ (s : Slot). s.key) slot_new ∙ own) (
        (λ i lt. ap (λ (s : Slot). key_order s.key key) (same_at blocks i ranked (omega (arith, lt, within))) ∙ missing.0 i lt),
        (λ i le lt. ap (λ (s : Slot). key_order s.key key) (same_at blocks i ranked lt) ∙ missing.1 i le lt),
      )
      ∙ ap (λ (s : Slot). over (s ∷ []) (slots_of (entry_slot d entries_more) (flat blocks))) (slot_new ∙ ap (λ (k : List Value). record { key = k; row = entry.present }) own)
      ∙ ap (over (record { key = key; row = entry.present } ∷ [])) (slots_more (flat blocks) ranked)

-- ---- numbers that are those of entries

pub ranked_here : (entries : List Entry) (ns : List ℕ) (i n : ℕ) → are_ranked entries ns ≡ true → slice_get ns i ≡ Some n → n < length entries
ranked_here entries ns i n ranked at =
    let is : nat_lt n (length entries) ≡ true = all_at (λ (m : ℕ). nat_lt m (length entries)) ns i n ranked at in grind (arith, nat_tests)

pub ranked_same : (old new : List Entry) (ns : List ℕ) → length new ≡ length old → are_ranked old ns ≡ true → are_ranked new ns ≡ true
ranked_same old new ns same ranked = ap (λ (k : ℕ). list_all (λ (n : ℕ). nat_lt n k) ns) same ∙ ranked

pub ranked_put : (entries : List Entry) (entry : Entry) (ns : List ℕ) (p : ℕ) → are_ranked entries ns ≡ true → are_ranked (entries ++ entry ∷ []) (insert ns p (length entries)) ≡ true
ranked_put entries entry ns p ranked = at ns p ranked
  where
    more : length (entries ++ entry ∷ []) ≡ length entries + 1
    more = length-append entries (entry ∷ [])

    last : nat_lt (length entries) (length (entries ++ entry ∷ [])) ≡ true
    last = grind (arith, nat_tests, more)

    up : (m : ℕ) → nat_lt m (length entries) ≡ true → nat_lt m (length (entries ++ entry ∷ [])) ≡ true
    up m e = grind (arith, nat_tests, more)

    all_up : (ms : List ℕ) → are_ranked entries ms ≡ true → are_ranked (entries ++ entry ∷ []) ms ≡ true
    all_up [] r = refl
    all_up (m ∷ ms) r =
        let both = and_parts (nat_lt m (length entries)) (are_ranked entries ms) r in
        and_from (nat_lt m (length (entries ++ entry ∷ []))) (are_ranked (entries ++ entry ∷ []) ms) (up m both.0) (all_up ms both.1)

    at : (ms : List ℕ) (q : ℕ) → are_ranked entries ms ≡ true → are_ranked (entries ++ entry ∷ []) (take q ms ++ length entries ∷ drop q ms) ≡ true
    at [] zero r = and_from (nat_lt (length entries) (length (entries ++ entry ∷ []))) true last refl
    at [] (suc q) r = and_from (nat_lt (length entries) (length (entries ++ entry ∷ []))) true last refl
    at (m ∷ ms) zero r = and_from (nat_lt (length entries) (length (entries ++ entry ∷ []))) (are_ranked (entries ++ entry ∷ []) (m ∷ ms)) last (all_up (m ∷ ms) r)
    at (m ∷ ms) (suc q) r =
        let both = and_parts (nat_lt m (length entries)) (are_ranked entries ms) r in
        and_from (nat_lt m (length (entries ++ entry ∷ []))) (are_ranked (entries ++ entry ∷ []) (take q ms ++ length entries ∷ drop q ms)) (up m both.0) (at ms q both.1)

-- what is ranked after an entry was pushed and its number put
pub ranked_after : (entries new : List Entry) (entry : Entry) (blocks roomy : List (List ℕ)) (ms : List ℕ) (spot : Spot) (n : ℕ) → new ≡ entries ++ entry ∷ [] → roomy ≡ blocks
    → ms ≡ insert (flat roomy) (place roomy spot) n → n ≡ length entries → are_ranked entries (flat blocks) ≡ true → are_ranked new ms ≡ true
ranked_after entries new entry blocks roomy ms spot n pushed same put is ranked =
    ap (λ (es : List Entry). are_ranked es ms) pushed
    ∙ ap (are_ranked (entries ++ entry ∷ [])) (put ∙ ap (insert (flat roomy) (place roomy spot)) is ∙ ap (λ (bs : List (List ℕ)). insert (flat bs) (place bs spot) (length entries)) same)
    ∙ ranked_put entries entry (flat blocks) (place blocks spot) ranked

pub spot_within : (bs : List (List ℕ)) (b at : ℕ) → at ≤ length (block_at bs b) → length (flat (take b bs)) + at ≤ length (flat bs)
spot_within [] zero at le = omega (arith, le)
spot_within [] (suc b) at le = omega (arith, le)
spot_within (c ∷ bs) zero at le = omega (arith, le, length-append c (flat bs))
spot_within (c ∷ bs) (suc b) at le = omega (arith, spot_within bs b at le, length-append c (flat bs), length-append c (flat (take b bs)))

-- and which slots there are
pub slots_after : (d : TableDef) (entries new : List Entry) (entry : Entry) (blocks roomy : List (List ℕ)) (ms : List ℕ) (spot : Spot) (n : ℕ) → new ≡ entries ++ entry ∷ [] → roomy ≡ blocks
    → ms ≡ insert (flat roomy) (place roomy spot) n → n ≡ length entries → are_ranked entries (flat blocks) ≡ true → IsSpot blocks spot
    → IsFound (by_key (entry_slot d entries) (primary_key d entry.bearer)) blocks (Err spot)
    → slots_of (entry_slot d new) ms ≡ over (record { key = primary_key d entry.bearer; row = entry.present } ∷ []) (slots_of (entry_slot d entries) (flat blocks))
slots_after d entries new entry blocks roomy ms spot n pushed same put is ranked at missing =
    let within : place blocks spot < suc (length (flat blocks)) = omega (arith, spot_within blocks spot.block spot.at at.1) in
    ap (λ (es : List Entry). slots_of (entry_slot d es) ms) pushed
    ∙ ap (slots_of (entry_slot d (entries ++ entry ∷ []))) (put ∙ ap (insert (flat roomy) (place roomy spot)) is ∙ ap (λ (bs : List (List ℕ)). insert (flat bs) (place bs spot) (length entries)) same)
    ∙ slots_put d entries entry (primary_key d entry.bearer) blocks spot refl ranked within missing

-- what an entry shows is what its slot has
pub was_there : (d : TableDef) (entries : List Entry) (blocks : List (List ℕ)) (spot : Spot) (n : ℕ) (entry : Entry) → IsAt blocks spot → slice_get (flat blocks) (place blocks spot) ≡ Some n
    → slice_get entries n ≡ Some entry → entry.present ≡ (entry_slot d entries (slice_index (flat blocks) (place blocks spot))).row
was_there d entries blocks spot n entry here at there =
    let both : Some (slice_index (flat blocks) (place blocks spot)) ≡ Some n = sym (number_here blocks spot here) ∙ at in
    let same : slice_index (flat blocks) (place blocks spot) ≡ n = cc in
    ap (λ (s : Slot). s.row) (entry_slot_is d entries n (Some entry) (sym there)) ∙ ap (λ (m : ℕ). (entry_slot d entries m).row) (sym same)

-- an entry that is read
pub entry_read : (entries : List Entry) (n : ℕ) (entry : Entry) → n < length entries → entry ≡ get_or entries n entry → slice_get entries n ≡ Some entry
entry_read entries n entry lt e = slice_get-get_or entries n entry lt ∙ ap (λ (x : Entry). Some x) (sym e)

-- there is a number where one is found
pub never_none : {G : Type 0} (blocks : List (List ℕ)) (spot : Spot) → IsAt blocks spot → None ≡ slice_get (flat blocks) (place blocks spot) → G
never_none blocks spot at e = let never : None ≡ Some (slice_index (flat blocks) (place blocks spot)) = e ∙ number_here blocks spot at in cc

-- the number at a spot
pub number_at : (blocks : List (List ℕ)) (spot : Spot) (n : ℕ) → IsAt blocks spot → slice_get (flat blocks) (place blocks spot) ≡ Some n → slice_index (flat blocks) (place blocks spot) ≡ n
number_at blocks spot n here at = let both : Some (slice_index (flat blocks) (place blocks spot)) ≡ Some n = sym (number_here blocks spot here) ∙ at in cc

-- what entries show where one of them is set
pub shown_set : (entries : List Entry) (n : ℕ) (old new : Entry) → slice_get entries n ≡ Some old → shown_by (slice_set entries n new) n ≡ new.present
shown_set entries n old new there = ap (option_and_then (λ (entry : Entry). entry.present)) (set_there entries n new old there)

pub shown_beside : (entries : List Entry) (n m : ℕ) (new : Entry) → m ≢ n → shown_by (slice_set entries n new) m ≡ shown_by entries m
shown_beside entries n m new other = ap (option_and_then (λ (entry : Entry). entry.present)) (set_beside entries n m new other)
