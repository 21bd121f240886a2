-- Sheets: rows as slots, rows that are apart, and what the laws of slots and claims come to.
use Rattle.std.proofs.Common.{◌≡◌, ℕ, zero, suc, List, [], ◌∷◌, ◌++◌, map, Bool, true, false, ◌&&◌, ◌||◌, not, cond, Option, Some, None, refl, sym, ap, subst, ◌∙◌, arith}
use Rattle.std.specs.Prelude.{option_to_list, slice_get}
use Rattle.std.specs.List.{list_all, list_any}
use Rattle.std.specs.Ordering.{is_lt}
use Rattle.std.proofs.lemmas.Bool.{and_parts, and_from, true≢false}
use Rattle.val_types.specs.declared.value.Value.{Value}
use Rattle.val_types.specs.declared.definitions.TableDef.{TableDef}
use Rattle.val_types.specs.declared.definitions.KeyDef.{KeyDef}
use Rattle.val_types.specs.Order.{key_order}
use Rattle.val_types.specs.Fitting.{row_fits, is_null}
use Rattle.val_types.specs.Keys.{values_at, primary_key, same_values, agree_on, collide}
use Rattle.table_rules.specs.Tables.{is_below, rise, are_apart}
use Rattle.table_rules.specs.Stored.{row_of_values}
use Rattle.table_rules.proofs.Taking.{same_is, same_self}
use Rattle.row_sheets.specs.Slots.{Slot, held, keys_in, rows_in, row_slots, all_above, keys_rise, has_own_key, rows_are_kept, is_sound, is_slot_of}
use Rattle.row_sheets.specs.Over.{settled, AreJust}
use Rattle.row_sheets.specs.Claims.{Claim, has_values, has_under, AreClaimed, AreApart, found_by}
use Rattle.row_sheets.specs.Sheets.{Entry, entry_slots, shown_slots, shown, AreAllClaimed, IsSheet}
use Rattle.row_sheets.proofs.Claims.{under_of, under_is, values_are, nothing_claimed}
use Rattle.row_sheets.proofs.Finding.{found_by_value}
use Rattle.row_sheets.proofs.Settling.{all_stay}

-- ---- rows as slots

pub rows-row_slots : (d : TableDef) (rows : List (List Value)) → rows_in (row_slots d rows) ≡ rows
rows-row_slots d [] = refl
rows-row_slots d (row ∷ rows) = ap (λ (rest : List (List Value)). row ∷ rest) (rows-row_slots d rows)

above_rows : (d : TableDef) (row : List Value) (rows : List (List Value)) → list_all (is_below d row) rows ≡ true → all_above (primary_key d row) (keys_in (row_slots d rows)) ≡ true
above_rows d row [] above = refl
above_rows d row (next ∷ rows) above =
    let both = and_parts (is_below d row next) (list_all (is_below d row) rows) above in
    and_from (is_lt (key_order (primary_key d row) (primary_key d next))) (all_above (primary_key d row) (keys_in (row_slots d rows))) both.0 (above_rows d row rows both.1)

pub rises-row_slots : (d : TableDef) (rows : List (List Value)) → rise d rows ≡ true → keys_rise (keys_in (row_slots d rows)) ≡ true
rises-row_slots d [] rises = refl
rises-row_slots d (row ∷ rows) rises =
    let both = and_parts (list_all (is_below d row) rows) (rise d rows) rises in
    and_from (all_above (primary_key d row) (keys_in (row_slots d rows))) (keys_rise (keys_in (row_slots d rows))) (above_rows d row rows both.0) (rises-row_slots d rows both.1)

pub own-row_slots : (d : TableDef) (rows : List (List Value)) → list_all (has_own_key d) (row_slots d rows) ≡ true
own-row_slots d [] = refl
own-row_slots d (row ∷ rows) =
    and_from (same_values (primary_key d row) (primary_key d row)) (list_all (has_own_key d) (row_slots d rows)) (same_self (primary_key d row)) (own-row_slots d rows)

pub kept_rise : (d : TableDef) (rows : List (List Value)) → rows_are_kept d rows ≡ true → rise d rows ≡ true
kept_rise d rows kept =
    let first = and_parts (list_all (row_fits d.columns) rows && rise d rows) (are_apart d rows) kept in
    (and_parts (list_all (row_fits d.columns) rows) (rise d rows) first.0).1

pub kept_apart : (d : TableDef) (rows : List (List Value)) → rows_are_kept d rows ≡ true → are_apart d rows ≡ true
kept_apart d rows kept = (and_parts (list_all (row_fits d.columns) rows && rise d rows) (are_apart d rows) kept).1

pub sound_rows : (d : TableDef) (ss : List Slot) → is_sound d ss ≡ true → rows_are_kept d (rows_in ss) ≡ true
sound_rows d ss sound = (and_parts (keys_rise (keys_in ss) && list_all (has_own_key d) ss) (rows_are_kept d (rows_in ss)) sound).1

-- ---- rows that are apart

pub any_at : {A : Type 0} (test : A → Bool) (xs : List A) (i : ℕ) (x : A) → slice_get xs i ≡ Some x → test x ≡ true → list_any test xs ≡ true
any_at test [] i x has e = cc
any_at test (y ∷ ys) zero x has e = let same : y ≡ x = cc in first (test y) (list_any test ys) (ap test same ∙ e)
  where
    first : (a b : Bool) → a ≡ true → (a || b) ≡ true
    first true b h = refl
    first false b h = cc
any_at test (y ∷ ys) (suc i) x has e = later (test y) (any_at test ys i x has e)
  where
    later : (a : Bool) → list_any test ys ≡ true → (a || list_any test ys) ≡ true
    later true h = refl
    later false h = h

pub either : (a b : Bool) → b ≡ true → (a || b) ≡ true
either true b e = refl
either false b e = e

module _ (d : TableDef) (which : ℕ) (u : KeyDef) (is : slice_get d.uniques which ≡ Some u) (values : List Value) where
  -- two rows with the values collide
  both_collide : (p q : List Value) → has_values u values p ≡ true → has_values u values q ≡ true → collide d p q ≡ true
  both_collide p q has_p has_q =
      let vp : values ≡ values_at u.columns p = values_are u values p has_p in
      let vq : values ≡ values_at u.columns q = values_are u values q has_q in
      let no_null : not (list_any is_null (values_at u.columns p)) ≡ true =
      subst (λ (v : List Value). not (list_any is_null v) ≡ true) vp (and_parts (not (list_any is_null values)) (same_values values (values_at u.columns p)) has_p).0 in
      let same : same_values (values_at u.columns p) (values_at u.columns q) ≡ true =
      subst (λ (v : List Value). same_values v (values_at u.columns q) ≡ true) vp (and_parts (not (list_any is_null values)) (same_values values (values_at u.columns q)) has_q).1 in
      either (same_values (primary_key d p) (primary_key d q)) (list_any (agree_on p q) d.uniques)
      (any_at (agree_on p q) d.uniques which u is (and_from (not (list_any is_null (values_at u.columns p))) (same_values (values_at u.columns p) (values_at u.columns q)) no_null same))

  -- a row with the values is not behind another one that has them
  not_behind : (p : List Value) (key : List Value) (ss : List Slot) → has_values u values p ≡ true → list_all (λ later. not (collide d p later)) (rows_in ss) ≡ true → has_under u values key ss ≡ true → ⊥
  not_behind p key [] has_p apart there = true≢false (sym there)
  not_behind p key (s ∷ ss) has_p apart there = at s.row refl apart (is_slot_of key s) refl (λ more under. not_behind p key ss has_p more under)
    where
      behind : (o : Option (List Value)) → list_all (λ later. not (collide d p later)) (option_to_list o ++ rows_in ss) ≡ true → list_all (λ later. not (collide d p later)) (rows_in ss) ≡ true
      behind None e = e
      behind (Some q) e = (and_parts (not (collide d p q)) (list_all (λ later. not (collide d p later)) (rows_in ss)) e).1

      here_too : (o : Option (List Value)) → s.row ≡ o → list_all (λ later. not (collide d p later)) (option_to_list o ++ rows_in ss) ≡ true → under_of u values (Some o) ≡ true → ⊥
      here_too None row e has_q = true≢false (sym has_q)
      here_too (Some q) row e has_q =
          true≢false (sym (and_parts (not (collide d p q)) (list_all (λ later. not (collide d p later)) (rows_in ss)) e).0 ∙ ap not (both_collide p q has_p has_q))

      at : (o : Option (List Value)) → s.row ≡ o → list_all (λ later. not (collide d p later)) (option_to_list o ++ rows_in ss) ≡ true → (here : Bool) → is_slot_of key s ≡ here
          → (list_all (λ later. not (collide d p later)) (rows_in ss) ≡ true → has_under u values key ss ≡ true → ⊥) → ⊥
      at o row e true slot later =
          let holds : held key (s ∷ ss) ≡ Some o = ap (λ (t : Bool). cond t (Some s.row) (held key ss)) slot ∙ ap (λ (r : Option (List Value)). Some r) row in
          here_too o row e (under_is u values key (s ∷ ss) (Some o) holds there)
      at o row e false slot later =
          let holds : held key (s ∷ ss) ≡ held key ss = ap (λ (t : Bool). cond t (Some s.row) (held key ss)) slot in
          later (behind o e) (under_is u values key (s ∷ ss) (held key ss) holds there)

  apart_under : (ss : List Slot) (first second : List Value) → are_apart d (rows_in ss) ≡ true → has_under u values first ss ≡ true → has_under u values second ss ≡ true → first ≡ second
  apart_under [] first second apart has_f has_s = absurd (true≢false (sym has_f))
  apart_under (s ∷ ss) first second apart has_f has_s =
      at s.row refl apart (is_slot_of first s) refl (is_slot_of second s) refl (λ later f t. apart_under ss first second later f t)
    where
      rest : (o : Option (List Value)) → are_apart d (option_to_list o ++ rows_in ss) ≡ true → are_apart d (rows_in ss) ≡ true
      rest None e = e
      rest (Some q) e = (and_parts (list_all (λ later. not (collide d q later)) (rows_in ss)) (are_apart d (rows_in ss)) e).1

      at_slot : (key : List Value) (o : Option (List Value)) → s.row ≡ o → is_slot_of key s ≡ true → has_under u values key (s ∷ ss) ≡ true → under_of u values (Some o) ≡ true
      at_slot key o row slot e = under_is u values key (s ∷ ss) (Some o) (ap (λ (t : Bool). cond t (Some s.row) (held key ss)) slot ∙ ap (λ (r : Option (List Value)). Some r) row) e

      past_slot : (key : List Value) → is_slot_of key s ≡ false → has_under u values key (s ∷ ss) ≡ true → has_under u values key ss ≡ true
      past_slot key slot e = under_is u values key (s ∷ ss) (held key ss) (ap (λ (t : Bool). cond t (Some s.row) (held key ss)) slot) e

      one_behind : (key : List Value) (o : Option (List Value)) → are_apart d (option_to_list o ++ rows_in ss) ≡ true → under_of u values (Some o) ≡ true → has_under u values key ss ≡ true → ⊥
      one_behind key None e has_o there = true≢false (sym has_o)
      one_behind key (Some p) e has_o there = not_behind p key ss has_o (and_parts (list_all (λ later. not (collide d p later)) (rows_in ss)) (are_apart d (rows_in ss)) e).0 there

      at : (o : Option (List Value)) → s.row ≡ o → are_apart d (option_to_list o ++ rows_in ss) ≡ true → (f : Bool) → is_slot_of first s ≡ f → (t : Bool) → is_slot_of second s ≡ t
          → (are_apart d (rows_in ss) ≡ true → has_under u values first ss ≡ true → has_under u values second ss ≡ true → first ≡ second) → first ≡ second
      at o row e true slot_f true slot_s later = same_is first s.key slot_f ∙ sym (same_is second s.key slot_s)
      at o row e true slot_f false slot_s later = absurd (one_behind second o e (at_slot first o row slot_f has_f) (past_slot second slot_s has_s))
      at o row e false slot_f true slot_s later = absurd (one_behind first o e (at_slot second o row slot_s has_s) (past_slot first slot_f has_f))
      at o row e false slot_f false slot_s later = later (rest o e) (past_slot first slot_f has_f) (past_slot second slot_s has_s)

pub sound_is_apart : (d : TableDef) (which : ℕ) (u : KeyDef) (ss : List Slot) → is_sound d ss ≡ true → slice_get d.uniques which ≡ Some u → AreApart u ss
sound_is_apart d which u ss sound is values first second has_f has_s = apart_under d which u is values ss first second (kept_apart d (rows_in ss) (sound_rows d ss sound)) has_f has_s

-- ---- sheets

nothing_at_first : (d : TableDef) (uniques : List KeyDef) (rows : List (List Value)) → AreAllClaimed uniques [] (row_slots d rows) (map (λ unique. []) uniques)
nothing_at_first d [] rows = refl
nothing_at_first d (u ∷ uniques) rows = (nothing_claimed u (row_slots d rows), nothing_at_first d uniques rows)

-- committed rows are sound as slots
pub rows_are_sound : (d : TableDef) (rows : List (List Value)) → rows_are_kept d rows ≡ true → is_sound d (row_slots d rows) ≡ true
rows_are_sound d rows kept =
    and_from (keys_rise (keys_in (row_slots d rows)) && list_all (has_own_key d) (row_slots d rows)) (rows_are_kept d (rows_in (row_slots d rows)))
    (and_from (keys_rise (keys_in (row_slots d rows))) (list_all (has_own_key d) (row_slots d rows)) (rises-row_slots d rows (kept_rise d rows kept)) (own-row_slots d rows))
    (ap (rows_are_kept d) (rows-row_slots d rows) ∙ kept)

pub sheet_starts : (d : TableDef) (rows : List (List Value)) (room : ℕ) → rows_are_kept d rows ≡ true → IsSheet d rows [] (map (λ unique. []) d.uniques) room × (shown d rows [] ≡ rows)
sheet_starts d rows room kept =
    (record { committed = kept; rising = refl; sound = rows_are_sound d rows kept; known = tt; claimed = nothing_at_first d d.uniques rows; enough = omega arith }, rows-row_slots d rows)

claimed_at : (uniques : List KeyDef) (claims : List (List Claim)) (which : ℕ) (u : KeyDef) (own : List Claim) (es cs : List Slot)
    → AreAllClaimed uniques es cs claims → slice_get uniques which ≡ Some u → slice_get claims which ≡ Some own → AreClaimed u es cs own
claimed_at [] claims which u own es cs all is has = cc
claimed_at (v ∷ uniques) [] which u own es cs all is has = absurd all
claimed_at (v ∷ uniques) (c ∷ claims) zero u own es cs all is has =
    let same : v ≡ u = cc in
    let mine : c ≡ own = cc in
    subst (λ (x : KeyDef). AreClaimed x es cs own) same (subst (λ (x : List Claim). AreClaimed v es cs x) mine all.0)
claimed_at (v ∷ uniques) (c ∷ claims) (suc which) u own es cs all is has = claimed_at uniques claims which u own es cs all.1 is has

pub sheet_finds : (d : TableDef) (rows : List (List Value)) (entries : List Entry) (claims : List (List Claim)) (room which : ℕ) (u : KeyDef) (own : List Claim) (values : List Value)
    → IsSheet d rows entries claims room → slice_get d.uniques which ≡ Some u → slice_get claims which ≡ Some own
    → found_by d u values own (entry_slots d entries) (row_slots d rows) ≡ row_of_values u values (shown d rows entries)
sheet_finds d rows entries claims room which u own values sheet is has =
    found_by_value d u values own (entry_slots d entries) (row_slots d rows) sheet.rising (rises-row_slots d rows (kept_rise d rows sheet.committed)) (own-row_slots d rows)
    (sound_is_apart d which u (row_slots d rows) (rows_are_sound d rows sheet.committed) is) (sound_is_apart d which u (shown_slots d rows entries) sheet.sound is)
    (claimed_at d.uniques claims which u own (entry_slots d entries) (row_slots d rows) sheet.claimed is has)

pub sheet_settles : (d : TableDef) (rows : List (List Value)) (entries : List Entry) (claims : List (List Claim)) (room : ℕ) (order : List Slot) → IsSheet d rows entries claims room → AreJust order (entry_slots d entries)
    → (rows_in (settled order (row_slots d rows)) ≡ shown d rows entries) × (rows_are_kept d (shown d rows entries) ≡ true) × (shown d (shown d rows entries) [] ≡ shown d rows entries)
sheet_settles d rows entries claims room order sheet just = (
  all_stay order (entry_slots d entries) (row_slots d rows) sheet.rising (rises-row_slots d rows (kept_rise d rows sheet.committed)) just,
  sound_rows d (shown_slots d rows entries) sheet.sound,
  rows-row_slots d (shown d rows entries),
)
