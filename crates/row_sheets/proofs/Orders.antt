-- Numbers in the order of the keys of their slots.
use Rattle.std.proofs.Common.{◌≡◌, ◌≢◌, ℕ, zero, suc, ◌<◌, ◌≤◌, List, [], ◌∷◌, ◌++◌, length, map, take, drop, Bool, true, false, cond, Option, Some, None, Ok, Err, Ordering, Less, Equal, Greater, inl, inr, ◌⊎◌, refl, sym, ap, subst, ◌∙◌, arith}
use Rattle.std.specs.Prelude.{slice_index, insert, remove}
use Rattle.std.specs.Ordering.{is_eq, is_lt}
use Rattle.std.proofs.lemmas.Bool.{and_parts, cases_lt}
use Rattle.val_types.specs.declared.value.Value.{Value}
use Rattle.val_types.specs.Order.{key_order}
use Rattle.val_types.specs.Keys.{same_values}
use Rattle.table_rules.proofs.Taking.{same_is, same_self}
use Rattle.block_list.specs.Layouts.{flat}
use Rattle.block_list.specs.Spots.{place, IsFound}
use Rattle.block_list.specs.declared.spot.Spot.{Spot}
use Rattle.block_list.proofs.Found.{place_is_within}
use Rattle.row_sheets.specs.Slots.{Slot, keys_in, all_above, keys_rise, held, fill, is_slot_of, drop_slot}
use Rattle.row_sheets.specs.Over.{by_order, over_step, over}
use Rattle.row_sheets.specs.Orders.{slots_of, NumbersRise, by_key}
use Rattle.row_sheets.proofs.Over.{chain, apart, greater_from, greater_below, less_from}
use Rattle.row_sheets.proofs.Held.{held_rest}

equal_is : (o : Ordering) → is_eq o ≡ true → o ≡ Equal
equal_is Less e = cc
equal_is Equal e = refl
equal_is Greater e = cc

module _ (slot_at : ℕ → Slot) (key : List Value) where
  abbrev key_at : ℕ → List Value
  key_at n = (slot_at n).key

  -- a number's slot is that of the key just where it is found equal
  slot_equal : (n : ℕ) → by_key slot_at key n ≡ Equal → is_slot_of key (slot_at n) ≡ true
  slot_equal n e = subst (λ (k : List Value). same_values k (key_at n) ≡ true) (same_is (key_at n) key (ap is_eq e)) (same_self (key_at n))

  slot_other : (n : ℕ) → by_key slot_at key n ≢ Equal → is_slot_of key (slot_at n) ≡ false
  slot_other n not_equal = step (is_slot_of key (slot_at n)) refl
    where
      step : (t : Bool) → is_slot_of key (slot_at n) ≡ t → is_slot_of key (slot_at n) ≡ false
      step true is =
          let e : is_eq (key_order (key_at n) key) ≡ true = subst (λ (k : List Value). same_values (key_at n) k ≡ true) (sym (same_is key (key_at n) is)) (same_self (key_at n)) in
          absurd (not_equal (equal_is (key_order (key_at n) key) e))
      step false is = is

  -- ---- in order

  above_at : (low : List Value) (ns : List ℕ) (j : ℕ) → all_above low (keys_in (slots_of slot_at ns)) ≡ true → j < length ns → is_lt (key_order low (key_at (slice_index ns j))) ≡ true
  above_at low [] j above lt = absurd (omega (arith, lt))
  above_at low (n ∷ ns) zero above lt = (and_parts (is_lt (key_order low (key_at n))) (all_above low (keys_in (slots_of slot_at ns))) above).0
  above_at low (n ∷ ns) (suc j) above lt = above_at low ns j (and_parts (is_lt (key_order low (key_at n))) (all_above low (keys_in (slots_of slot_at ns))) above).1 (omega (arith, lt))

  rise_at : (ns : List ℕ) (i j : ℕ) → NumbersRise slot_at ns → i < j → j < length ns → is_lt (key_order (key_at (slice_index ns i)) (key_at (slice_index ns j))) ≡ true
  rise_at [] i j rises up lt = absurd (omega (arith, lt))
  rise_at (n ∷ ns) i zero rises up lt = absurd (omega (arith, up))
  rise_at (n ∷ ns) zero (suc j) rises up lt = above_at (key_at n) ns j (and_parts (all_above (key_at n) (keys_in (slots_of slot_at ns))) (keys_rise (keys_in (slots_of slot_at ns))) rises).0 (omega (arith, lt))
  rise_at (n ∷ ns) (suc i) (suc j) rises up lt = rise_at ns i j (and_parts (all_above (key_at n) (keys_in (slots_of slot_at ns))) (keys_rise (keys_in (slots_of slot_at ns))) rises).1 (omega (arith, up)) (omega (arith, lt))

  pub in_order : (ns : List ℕ) → NumbersRise slot_at ns → (i j : ℕ) → i < j → j < length ns → by_key slot_at key (slice_index ns i) ≢ Less → by_key slot_at key (slice_index ns j) ≡ Greater
  in_order ns rises i j up lt not_less = at (by_key slot_at key (slice_index ns i)) refl (rise_at ns i j rises up lt)
    where
      at : (o : Ordering) → by_key slot_at key (slice_index ns i) ≡ o → is_lt (key_order (key_at (slice_index ns i)) (key_at (slice_index ns j))) ≡ true → by_key slot_at key (slice_index ns j) ≡ Greater
      at Less is below = absurd (not_less is)
      at Equal is below =
          greater_from (key_at (slice_index ns j)) key (subst (λ (k : List Value). is_lt (key_order k (key_at (slice_index ns j))) ≡ true) (same_is (key_at (slice_index ns i)) key (ap is_eq is)) below)
      at Greater is below =
          greater_from (key_at (slice_index ns j)) key (chain key (key_at (slice_index ns i)) (key_at (slice_index ns j)) (greater_below (key_at (slice_index ns i)) key is) below)

  -- ---- found, and not found

  pub found_slot : (ns : List ℕ) (p : ℕ) → NumbersRise slot_at ns → p < length ns → by_key slot_at key (slice_index ns p) ≡ Equal → held key (slots_of slot_at ns) ≡ Some (slot_at (slice_index ns p)).row
  found_slot [] p rises lt e = absurd (omega (arith, lt))
  found_slot (n ∷ ns) zero rises lt e = ap (λ (t : Bool). cond t (Some (slot_at n).row) (held key (slots_of slot_at ns))) (slot_equal n e)
  found_slot (n ∷ ns) (suc p) rises lt e =
      let both = and_parts (all_above (key_at n) (keys_in (slots_of slot_at ns))) (keys_rise (keys_in (slots_of slot_at ns))) rises in
      let below : is_lt (key_order (key_at n) key) ≡ true =
      subst (λ (k : List Value). is_lt (key_order (key_at n) k) ≡ true) (same_is (key_at (slice_index ns p)) key (ap is_eq e)) (above_at (key_at n) ns p both.0 (omega (arith, lt))) in
      held_rest key (slot_at n) (slots_of slot_at ns) (apart (key_at n) key below) ∙ found_slot ns p both.1 (omega (arith, lt)) e

  pub missing_slot : (ns : List ℕ) → ((i : ℕ) → i < length ns → by_key slot_at key (slice_index ns i) ≢ Equal) → held key (slots_of slot_at ns) ≡ None
  missing_slot [] none = refl
  missing_slot (n ∷ ns) none =
      held_rest key (slot_at n) (slots_of slot_at ns) (slot_other n (none 0 (omega arith))) ∙ missing_slot ns (λ i lt. none (suc i) (omega (arith, lt)))

  -- ---- put, and taken out

  pub put_over : (ns : List ℕ) (p n : ℕ) → key_at n ≡ key → ((i : ℕ) → i < p → by_key slot_at key (slice_index ns i) ≡ Less) → ((i : ℕ) → p ≤ i → i < length ns → by_key slot_at key (slice_index ns i) ≡ Greater)
      → map slot_at (take p ns ++ n ∷ drop p ns) ≡ over_step (slot_at n) (over []) (slots_of slot_at ns)
  put_over [] zero n own less greater = refl
  put_over [] (suc p) n own less greater = refl
  put_over (m ∷ ns) zero n own less greater = at (key_order (key_at n) (key_at m)) refl
    where
      less_is : (o : Ordering) → is_lt o ≡ true → o ≡ Less
      less_is Less e = refl
      less_is Equal e = cc
      less_is Greater e = cc

      before : key_order (key_at n) (key_at m) ≡ Less
      before = less_is (key_order (key_at n) (key_at m)) (subst (λ (k : List Value). is_lt (key_order k (key_at m)) ≡ true) (sym own) (greater_below (key_at m) key (greater 0 (omega arith) (omega arith))))

      at : (o : Ordering) → key_order (key_at n) (key_at m) ≡ o
          → slot_at n ∷ (slot_at m ∷ map slot_at ns) ≡ by_order o (slot_at n ∷ (slot_at m ∷ map slot_at ns)) (slot_at n ∷ map slot_at ns) (slot_at m ∷ over_step (slot_at n) (over []) (map slot_at ns))
      at Less is = refl
      at Equal is = let e : Equal ≡ Less = sym is ∙ before in cc
      at Greater is = let e : Greater ≡ Less = sym is ∙ before in cc
  put_over (m ∷ ns) (suc p) n own less greater =
      at (key_order (key_at n) (key_at m)) refl (put_over ns p n own (λ i lt. less (suc i) (omega (arith, lt))) (λ i le lt. greater (suc i) (omega (arith, le)) (omega (arith, lt))))
    where
      behind : key_order (key_at n) (key_at m) ≡ Greater
      behind = greater_from (key_at n) (key_at m) (subst (λ (k : List Value). is_lt (key_order (key_at m) k) ≡ true) (sym own) (less_from (key_order (key_at m) key) (less 0 (omega arith))))

      at : (o : Ordering) → key_order (key_at n) (key_at m) ≡ o → map slot_at (take p ns ++ n ∷ drop p ns) ≡ over_step (slot_at n) (over []) (map slot_at ns)
          → slot_at m ∷ map slot_at (take p ns ++ n ∷ drop p ns) ≡ by_order o (slot_at n ∷ (slot_at m ∷ map slot_at ns)) (slot_at n ∷ map slot_at ns) (slot_at m ∷ over_step (slot_at n) (over []) (map slot_at ns))
      at Less is later = let e : Less ≡ Greater = sym is ∙ behind in cc
      at Equal is later = let e : Equal ≡ Greater = sym is ∙ behind in cc
      at Greater is later = ap (λ (rest : List Slot). slot_at m ∷ rest) later

  pub taken_drops : (ns : List ℕ) (p : ℕ) → NumbersRise slot_at ns → p < length ns → by_key slot_at key (slice_index ns p) ≡ Equal
      → map slot_at (take p ns ++ drop (suc p) ns) ≡ drop_slot key (slots_of slot_at ns)
  taken_drops [] p rises lt e = absurd (omega (arith, lt))
  taken_drops (n ∷ ns) zero rises lt e = sym (ap (λ (t : Bool). cond t (map slot_at ns) (slot_at n ∷ drop_slot key (map slot_at ns))) (slot_equal n e))
  taken_drops (n ∷ ns) (suc p) rises lt e =
      let both = and_parts (all_above (key_at n) (keys_in (slots_of slot_at ns))) (keys_rise (keys_in (slots_of slot_at ns))) rises in
      let below : is_lt (key_order (key_at n) key) ≡ true =
      subst (λ (k : List Value). is_lt (key_order (key_at n) k) ≡ true) (same_is (key_at (slice_index ns p)) key (ap is_eq e)) (above_at (key_at n) ns p both.0 (omega (arith, lt))) in
      ap (λ (rest : List Slot). slot_at n ∷ rest) (taken_drops ns p both.1 (omega (arith, lt)) e)
      ∙ sym (ap (λ (t : Bool). cond t (map slot_at ns) (slot_at n ∷ drop_slot key (map slot_at ns))) (apart (key_at n) key below))

  -- ---- by spots

  pub found_at : (blocks : List (List ℕ)) (spot : Spot) → NumbersRise slot_at (flat blocks) → IsFound (by_key slot_at key) blocks (Ok spot)
      → held key (slots_of slot_at (flat blocks)) ≡ Some (slot_at (slice_index (flat blocks) (place blocks spot))).row
  found_at blocks spot rises found = found_slot (flat blocks) (place blocks spot) rises (place_is_within blocks spot.block spot.at found.0) found.1

  pub missing_at : (blocks : List (List ℕ)) (spot : Spot) → IsFound (by_key slot_at key) blocks (Err spot) → held key (slots_of slot_at (flat blocks)) ≡ None
  missing_at blocks spot missing = missing_slot (flat blocks) (λ i lt. step i lt (cases_lt i (place blocks spot)))
    where
      step : (i : ℕ) → i < length (flat blocks) → (i < place blocks spot) ⊎ (place blocks spot ≤ i) → by_key slot_at key (slice_index (flat blocks) i) ≢ Equal
      step i lt (inl before) e = let never : Less ≡ Equal = sym (missing.0 i before) ∙ e in cc
      step i lt (inr behind) e = let never : Greater ≡ Equal = sym (missing.1 i behind lt) ∙ e in cc

  pub put_at : (blocks : List (List ℕ)) (spot : Spot) (number : ℕ) → (slot_at number).key ≡ key → IsFound (by_key slot_at key) blocks (Err spot)
      → slots_of slot_at (insert (flat blocks) (place blocks spot) number) ≡ over (slot_at number ∷ []) (slots_of slot_at (flat blocks))
  put_at blocks spot number own missing = put_over (flat blocks) (place blocks spot) number own missing.0 missing.1

  pub taken_at : (blocks : List (List ℕ)) (spot : Spot) → NumbersRise slot_at (flat blocks) → IsFound (by_key slot_at key) blocks (Ok spot)
      → slots_of slot_at (remove (flat blocks) (place blocks spot)) ≡ drop_slot key (slots_of slot_at (flat blocks))
  taken_at blocks spot rises found = taken_drops (flat blocks) (place blocks spot) rises (place_is_within blocks spot.block spot.at found.0) found.1

-- ---- another row under a number

never_below : (k : List Value) → is_lt (key_order k k) ≡ true → ⊥
never_below k e = step (key_order k k) (same_self k) e
  where
    step : (o : Ordering) → is_eq o ≡ true → is_lt o ≡ true → ⊥
    step Less e f = no e
      where
        no : false ≡ true → ⊥
        no h = cc
    step Equal e f = no f
      where
        no : false ≡ true → ⊥
        no h = cc
    step Greater e f = no e
      where
        no : false ≡ true → ⊥
        no h = cc

module _ (slot_at slot_now : ℕ → Slot) (key : List Value) (row : Option (List Value)) (at : ℕ) (beside : (m : ℕ) → m ≢ at → slot_now m ≡ slot_at m) where
  -- numbers whose keys are above that of the number
  above_same : (ns : List ℕ) → all_above (slot_at at).key (keys_in (slots_of slot_at ns)) ≡ true → map slot_now ns ≡ map slot_at ns
  above_same [] above = refl
  above_same (m ∷ ns) above =
      let both = and_parts (is_lt (key_order (slot_at at).key (slot_at m).key)) (all_above (slot_at at).key (keys_in (slots_of slot_at ns))) above in
      ap (λ (s : Slot). s ∷ map slot_now ns) (beside m (λ e. never_below (slot_at at).key (subst (λ (k : ℕ). is_lt (key_order (slot_at at).key (slot_at k).key) ≡ true) e both.0)))
      ∙ ap (λ (rest : List Slot). slot_at m ∷ rest) (above_same ns both.1)

  pub replaced_fills : (ns : List ℕ) (p : ℕ) → NumbersRise slot_at ns → p < length ns → by_key slot_at key (slice_index ns p) ≡ Equal → slice_index ns p ≡ at → slot_now at ≡ record { key = (slot_at at).key; row = row }
      → map slot_now ns ≡ fill key row (slots_of slot_at ns)
  replaced_fills [] p rises lt e is now = absurd (omega (arith, lt))
  replaced_fills (n ∷ ns) zero rises lt e is now =
      let both = and_parts (all_above (slot_at n).key (keys_in (slots_of slot_at ns))) (keys_rise (keys_in (slots_of slot_at ns))) rises in
      ap (λ (m : ℕ). slot_now m ∷ map slot_now ns) is ∙ ap (λ (s : Slot). s ∷ map slot_now ns) now
      ∙ ap (λ (rest : List Slot). record { key = (slot_at at).key; row = row } ∷ rest) (above_same ns (subst (λ (m : ℕ). all_above (slot_at m).key (keys_in (slots_of slot_at ns)) ≡ true) is both.0))
      ∙ ap (λ (m : ℕ). record { key = (slot_at m).key; row = row } ∷ map slot_at ns) (sym is)
      ∙ sym (ap (λ (t : Bool). cond t (record { key = (slot_at n).key; row = row } ∷ map slot_at ns) (slot_at n ∷ fill key row (map slot_at ns))) (slot_equal slot_at key n e))
  replaced_fills (n ∷ ns) (suc p) rises lt e is now =
      let both = and_parts (all_above (slot_at n).key (keys_in (slots_of slot_at ns))) (keys_rise (keys_in (slots_of slot_at ns))) rises in
      let up : is_lt (key_order (slot_at n).key (slot_at (slice_index ns p)).key) ≡ true = above_at slot_at key (slot_at n).key ns p both.0 (omega (arith, lt)) in
      let below : is_lt (key_order (slot_at n).key key) ≡ true = subst (λ (k : List Value). is_lt (key_order (slot_at n).key k) ≡ true) (same_is (slot_at (slice_index ns p)).key key (ap is_eq e)) up in
      let other : n ≢ at = λ same. never_below (slot_at n).key (subst (λ (m : ℕ). is_lt (key_order (slot_at n).key (slot_at m).key) ≡ true) (is ∙ sym same) up) in
      ap (λ (s : Slot). s ∷ map slot_now ns) (beside n other)
      ∙ ap (λ (rest : List Slot). slot_at n ∷ rest) (replaced_fills ns p both.1 (omega (arith, lt)) e is now)
      ∙ sym (ap (λ (t : Bool). cond t (record { key = (slot_at n).key; row = row } ∷ map slot_at ns) (slot_at n ∷ fill key row (map slot_at ns))) (apart (slot_at n).key key below))

pub replaced_at : (slot_at slot_now : ℕ → Slot) (key : List Value) (row : Option (List Value)) (blocks : List (List ℕ)) (spot : Spot) → NumbersRise slot_at (flat blocks) → IsFound (by_key slot_at key) blocks (Ok spot)
    → slot_now (slice_index (flat blocks) (place blocks spot)) ≡ record { key = (slot_at (slice_index (flat blocks) (place blocks spot))).key; row = row }
    → ((m : ℕ) → m ≢ slice_index (flat blocks) (place blocks spot) → slot_now m ≡ slot_at m)
    → slots_of slot_now (flat blocks) ≡ fill key row (slots_of slot_at (flat blocks))
replaced_at slot_at slot_now key row blocks spot rises found now beside =
    replaced_fills slot_at slot_now key row (slice_index (flat blocks) (place blocks spot)) beside (flat blocks) (place blocks spot) rises (place_is_within blocks spot.block spot.at found.0) found.1 refl now
