-- A walk back over entries and committed rows: what its last slot is.
use Rattle.std.proofs.Common.{◌≡◌, ℕ, zero, suc, ◌+◌, ◌-◌, List, [], ◌∷◌, ◌++◌, length, take, Bool, true, false, cond, Option, Some, None, Ordering, Less, Equal, Greater, refl, sym, ap, subst, ◌∙◌, add-one, append_assoc, append-nil, arith}
use Rattle.std.specs.Prelude.{slice_get, slice_index, is_some, map, option_to_list, IfNone, IfSome}
use Rattle.std.specs.List.{list_all}
use Rattle.std.specs.Option.{option_or, option_and_then}
use Rattle.std.specs.Ordering.{is_eq, is_lt}
use Rattle.std.proofs.lemmas.Bool.{and_parts, and_from}
use Rattle.std.proofs.lemmas.List.{length-map}
use Rattle.std.proofs.lemmas.Option.{slice_get-get_or}
use Rattle.val_types.specs.declared.value.Value.{Value}
use Rattle.val_types.specs.Order.{key_order}
use Rattle.val_types.specs.declared.definitions.TableDef.{TableDef}
use Rattle.val_types.specs.Keys.{primary_key, same_values}
use Rattle.table_rules.proofs.Taking.{same_is, same_self}
use Rattle.row_index.specs.block_list.Layouts.{flat}
use Rattle.row_index.specs.block_list.Spots.{place, IsAt}
use Rattle.row_index.specs.block_list.declared.spot.Spot.{Spot}
use Rattle.row_index.specs.row_sheets.Slots.{Slot, all_above, held, is_slot_of, keys_in, keys_rise, rows_in}
use Rattle.row_index.specs.row_sheets.Over.{by_order, over_step, over}
use Rattle.row_index.proofs.of_row_sheets.Over.{apart, chain, greater_below}
use Rattle.row_index.proofs.of_row_sheets.Held.{held-over, held_rest, rises-over, slots_told}
use Rattle.table_sheet.specs.declared.committed.Committed.{Committed}
use Rattle.table_sheet.specs.declared.entry.Entry.{Entry}
use Rattle.table_sheet.specs.declared.overlay.Overlay.{Overlay}
use Rattle.table_sheet.specs.declared.place.Place.{Place}
use Rattle.table_sheet.specs.Numbered.{row_of, row_slot}
use Rattle.table_sheet.specs.Ranked.{entry_slot}
use Rattle.table_sheet.specs.Parts.{committed_slots, entry_slots}
use Rattle.table_sheet.specs.Walks.{passed}
use Rattle.table_sheet.proofs.Slotted.{row_slot_is, entry_slot_is, number_here, all_at, ranked_here}

-- ---- slots below a key

-- whether all keys are below a key
abbrev all_below : List Value → List (List Value) → Bool
all_below key keys = list_all (λ k. is_lt (key_order k key)) keys

below_none : (key : List Value) (ss : List Slot) → all_below key (keys_in ss) ≡ true → held key ss ≡ None
below_none key [] below = refl
below_none key (s ∷ ss) below =
    let both = and_parts (is_lt (key_order s.key key)) (all_below key (keys_in ss)) below in
    held_rest key s ss (apart s.key key both.0) ∙ below_none key ss both.1

below_later : (low key : List Value) (ss : List Slot) → is_lt (key_order low key) ≡ true → all_below low (keys_in ss) ≡ true → all_below key (keys_in ss) ≡ true
below_later low key [] up below = refl
below_later low key (s ∷ ss) up below =
    let both = and_parts (is_lt (key_order s.key low)) (all_below low (keys_in ss)) below in
    and_from (is_lt (key_order s.key key)) (all_below key (keys_in ss)) (chain s.key low key both.0 up) (below_later low key ss up both.1)

below_step : (key : List Value) (e : Slot) (on : List Slot → List Slot) (cs : List Slot) → is_lt (key_order e.key key) ≡ true
    → ((ds : List Slot) → all_below key (keys_in ds) ≡ true → all_below key (keys_in (on ds)) ≡ true) → all_below key (keys_in cs) ≡ true → all_below key (keys_in (over_step e on cs)) ≡ true
below_step key e on [] low ih below = and_from (is_lt (key_order e.key key)) (all_below key (keys_in (on []))) low (ih [] refl)
below_step key e on (c ∷ cs) low ih below =
    at (key_order e.key c.key) (and_parts (is_lt (key_order c.key key)) (all_below key (keys_in cs)) below) (λ up. below_step key e on cs low ih up)
  where
    at : (o : Ordering) → (is_lt (key_order c.key key) ≡ true) × (all_below key (keys_in cs) ≡ true) → (all_below key (keys_in cs) ≡ true → all_below key (keys_in (over_step e on cs)) ≡ true)
        → all_below key (keys_in (by_order o (e ∷ on (c ∷ cs)) (e ∷ on cs) (c ∷ over_step e on cs))) ≡ true
    at Less both later = and_from (is_lt (key_order e.key key)) (all_below key (keys_in (on (c ∷ cs)))) low (ih (c ∷ cs) below)
    at Equal both later = and_from (is_lt (key_order e.key key)) (all_below key (keys_in (on cs))) low (ih cs both.1)
    at Greater both later = and_from (is_lt (key_order c.key key)) (all_below key (keys_in (over_step e on cs))) both.0 (later both.1)

below_over : (key : List Value) (es cs : List Slot) → all_below key (keys_in es) ≡ true → all_below key (keys_in cs) ≡ true → all_below key (keys_in (over es cs)) ≡ true
below_over key [] cs below_es below_cs = below_cs
below_over key (e ∷ es) cs below_es below_cs =
    let both = and_parts (is_lt (key_order e.key key)) (all_below key (keys_in es)) below_es in
    below_step key e (over es) cs both.0 (λ ds up. below_over key es ds both.1 up) below_cs

-- ---- one slot behind others

held_behind : (k : List Value) (ss : List Slot) (last : Slot) → held k (ss ++ last ∷ []) ≡ option_or (held k ss) (held k (last ∷ []))
held_behind k [] last = refl
held_behind k (s ∷ ss) last = step (is_slot_of k s) (held_behind k ss last)
  where
    step : (here : Bool) → held k (ss ++ last ∷ []) ≡ option_or (held k ss) (held k (last ∷ []))
        → cond here (Some s.row) (held k (ss ++ last ∷ [])) ≡ option_or (cond here (Some s.row) (held k ss)) (held k (last ∷ []))
    step true later = refl
    step false later = later

above_behind : (low : List Value) (ss : List Slot) (last : Slot) → all_above low (keys_in ss) ≡ true → is_lt (key_order low last.key) ≡ true → all_above low (keys_in (ss ++ last ∷ [])) ≡ true
above_behind low [] last above up = and_from (is_lt (key_order low last.key)) true up refl
above_behind low (s ∷ ss) last above up =
    let both = and_parts (is_lt (key_order low s.key)) (all_above low (keys_in ss)) above in
    and_from (is_lt (key_order low s.key)) (all_above low (keys_in (ss ++ last ∷ []))) both.0 (above_behind low ss last both.1 up)

rise_behind : (ss : List Slot) (last : Slot) → keys_rise (keys_in ss) ≡ true → all_below last.key (keys_in ss) ≡ true → keys_rise (keys_in (ss ++ last ∷ [])) ≡ true
rise_behind [] last rises below = refl
rise_behind (s ∷ ss) last rises below =
    let up = and_parts (all_above s.key (keys_in ss)) (keys_rise (keys_in ss)) rises in
    let low = and_parts (is_lt (key_order s.key last.key)) (all_below last.key (keys_in ss)) below in
    and_from (all_above s.key (keys_in (ss ++ last ∷ []))) (keys_rise (keys_in (ss ++ last ∷ []))) (above_behind s.key ss last up.0 low.0) (rise_behind ss last up.1 low.1)

above_front : (low : List Value) (ss : List Slot) (last : Slot) → all_above low (keys_in (ss ++ last ∷ [])) ≡ true → (all_above low (keys_in ss) ≡ true) × (is_lt (key_order low last.key) ≡ true)
above_front low [] last above = (refl, (and_parts (is_lt (key_order low last.key)) true above).0)
above_front low (s ∷ ss) last above =
    let both = and_parts (is_lt (key_order low s.key)) (all_above low (keys_in (ss ++ last ∷ []))) above in
    let later : (all_above low (keys_in ss) ≡ true) × (is_lt (key_order low last.key) ≡ true) = above_front low ss last both.1 in
    (and_from (is_lt (key_order low s.key)) (all_above low (keys_in ss)) both.0 later.0, later.1)

-- slots that rise are below the last one
front_rises : (ss : List Slot) (last : Slot) → keys_rise (keys_in (ss ++ last ∷ [])) ≡ true → (keys_rise (keys_in ss) ≡ true) × (all_below last.key (keys_in ss) ≡ true)
front_rises [] last rises = (refl, refl)
front_rises (s ∷ ss) last rises =
    let both = and_parts (all_above s.key (keys_in (ss ++ last ∷ []))) (keys_rise (keys_in (ss ++ last ∷ []))) rises in
    let up : (all_above s.key (keys_in ss) ≡ true) × (is_lt (key_order s.key last.key) ≡ true) = above_front s.key ss last both.0 in
    let later : (keys_rise (keys_in ss) ≡ true) × (all_below last.key (keys_in ss) ≡ true) = front_rises ss last both.1 in (
      and_from (all_above s.key (keys_in ss)) (keys_rise (keys_in ss)) up.0 later.0,
      and_from (is_lt (key_order s.key last.key)) (all_below last.key (keys_in ss)) up.1 later.1,
    )

below_behind : (key : List Value) (ss : List Slot) (last : Slot) → all_below key (keys_in ss) ≡ true → is_lt (key_order last.key key) ≡ true → all_below key (keys_in (ss ++ last ∷ [])) ≡ true
below_behind key [] last below up = and_from (is_lt (key_order last.key key)) true up refl
below_behind key (s ∷ ss) last below up =
    let both = and_parts (is_lt (key_order s.key key)) (all_below key (keys_in ss)) below in
    and_from (is_lt (key_order s.key key)) (all_below key (keys_in (ss ++ last ∷ []))) both.0 (below_behind key ss last both.1 up)

-- all slots are below a key above the last one
all_front : (key : List Value) (ss : List Slot) (last : Slot) → keys_rise (keys_in (ss ++ last ∷ [])) ≡ true → is_lt (key_order last.key key) ≡ true → all_below key (keys_in (ss ++ last ∷ [])) ≡ true
all_front key ss last rises up = below_behind key ss last (below_later last.key key ss up (front_rises ss last rises).1) up

-- ---- what comes last of entries and rows

or_turned : (a b c : Option (Option (List Value))) → option_or a (option_or b c) ≡ option_or (option_or a b) c
or_turned None b c = refl
or_turned (Some x) b c = refl

or_none : (a : Option (Option (List Value))) → option_or a None ≡ a
or_none None = refl
or_none (Some x) = refl

held_one : (k : List Value) (s : Slot) → same_values k s.key ≡ false → held k (s ∷ []) ≡ None
held_one k s other = held_rest k s [] other

module _ (es cs : List Slot) (e c : Slot) (rise_es : keys_rise (keys_in (es ++ e ∷ [])) ≡ true) (rise_cs : keys_rise (keys_in (cs ++ c ∷ [])) ≡ true) where
  rise_all : keys_rise (keys_in (over (es ++ e ∷ []) (cs ++ c ∷ []))) ≡ true
  rise_all = rises-over (es ++ e ∷ []) (cs ++ c ∷ []) rise_es rise_cs

  held_all : (k : List Value) → held k (over (es ++ e ∷ []) (cs ++ c ∷ [])) ≡ option_or (option_or (held k es) (held k (e ∷ []))) (option_or (held k cs) (held k (c ∷ [])))
  held_all k =
      held-over k (es ++ e ∷ []) (cs ++ c ∷ []) rise_es
      ∙ ap (λ o. option_or o (held k (cs ++ c ∷ []))) (held_behind k es e) ∙ ap (λ o. option_or (option_or (held k es) (held k (e ∷ []))) o) (held_behind k cs c)

  -- a row above the last entry
  last_is_row : key_order e.key c.key ≡ Less → over (es ++ e ∷ []) (cs ++ c ∷ []) ≡ over (es ++ e ∷ []) cs ++ c ∷ []
  last_is_row o =
      slots_told (over (es ++ e ∷ []) (cs ++ c ∷ [])) (over (es ++ e ∷ []) cs ++ c ∷ []) rise_all
      (rise_behind (over (es ++ e ∷ []) cs) c (rises-over (es ++ e ∷ []) cs rise_es front.0)
      (below_over c.key (es ++ e ∷ []) cs (all_front c.key es e rise_es (ap is_lt o)) front.1))
      (λ k. held_all k ∙ or_turned (option_or (held k es) (held k (e ∷ []))) (held k cs) (held k (c ∷ []))
      ∙ ap (λ x. option_or (option_or x (held k cs)) (held k (c ∷ []))) (sym (held_behind k es e))
      ∙ ap (λ x. option_or x (held k (c ∷ []))) (sym (held-over k (es ++ e ∷ []) cs rise_es))
      ∙ sym (held_behind k (over (es ++ e ∷ []) cs) c))
    where
      front : (keys_rise (keys_in cs) ≡ true) × (all_below c.key (keys_in cs) ≡ true)
      front = front_rises cs c rise_cs

  -- an entry above the last row
  last_is_entry : key_order e.key c.key ≡ Greater → over (es ++ e ∷ []) (cs ++ c ∷ []) ≡ over es (cs ++ c ∷ []) ++ e ∷ []
  last_is_entry o =
      slots_told (over (es ++ e ∷ []) (cs ++ c ∷ [])) (over es (cs ++ c ∷ []) ++ e ∷ []) rise_all
      (rise_behind (over es (cs ++ c ∷ [])) e (rises-over es (cs ++ c ∷ []) front.0 rise_cs) (below_over e.key es (cs ++ c ∷ []) front.1 under))
      (λ k. held-over k (es ++ e ∷ []) (cs ++ c ∷ []) rise_es ∙ ap (λ x. option_or x (held k (cs ++ c ∷ []))) (held_behind k es e) ∙ at k (same_values k e.key) refl
      ∙ ap (λ x. option_or x (held k (e ∷ []))) (sym (held-over k es (cs ++ c ∷ []) front.0)) ∙ sym (held_behind k (over es (cs ++ c ∷ [])) e))
    where
      front : (keys_rise (keys_in es) ≡ true) × (all_below e.key (keys_in es) ≡ true)
      front = front_rises es e rise_es

      under : all_below e.key (keys_in (cs ++ c ∷ [])) ≡ true
      under = all_front e.key cs c rise_cs (greater_below e.key c.key o)

      at : (k : List Value) (here : Bool) → same_values k e.key ≡ here
          → option_or (option_or (held k es) (held k (e ∷ []))) (held k (cs ++ c ∷ [])) ≡ option_or (option_or (held k es) (held k (cs ++ c ∷ []))) (held k (e ∷ []))
      at k true is =
          let none : held k (cs ++ c ∷ []) ≡ None = ap (λ (x : List Value). held x (cs ++ c ∷ [])) (same_is k e.key is) ∙ below_none e.key (cs ++ c ∷ []) under in
          ap (λ x. option_or (option_or (held k es) (held k (e ∷ []))) x) none ∙ or_none (option_or (held k es) (held k (e ∷ [])))
          ∙ ap (λ x. option_or x (held k (e ∷ []))) (sym (or_none (held k es)) ∙ ap (option_or (held k es)) (sym none))
      at k false is =
          let none : held k (e ∷ []) ≡ None = held_one k e is in
          ap (λ x. option_or (option_or (held k es) x) (held k (cs ++ c ∷ []))) none ∙ ap (λ x. option_or x (held k (cs ++ c ∷ []))) (or_none (held k es))
          ∙ sym (or_none (option_or (held k es) (held k (cs ++ c ∷ [])))) ∙ ap (option_or (option_or (held k es) (held k (cs ++ c ∷ [])))) (sym none)

  -- both of the same key
  last_is_both : key_order e.key c.key ≡ Equal → over (es ++ e ∷ []) (cs ++ c ∷ []) ≡ over es cs ++ e ∷ []
  last_is_both o =
      slots_told (over (es ++ e ∷ []) (cs ++ c ∷ [])) (over es cs ++ e ∷ []) rise_all
      (rise_behind (over es cs) e (rises-over es cs front.0 front_c.0) (below_over e.key es cs front.1 under))
      (λ k. held_all k ∙ at k (same_values k e.key) refl
      ∙ ap (λ x. option_or x (held k (e ∷ []))) (sym (held-over k es cs front.0)) ∙ sym (held_behind k (over es cs) e))
    where
      front : (keys_rise (keys_in es) ≡ true) × (all_below e.key (keys_in es) ≡ true)
      front = front_rises es e rise_es

      front_c : (keys_rise (keys_in cs) ≡ true) × (all_below c.key (keys_in cs) ≡ true)
      front_c = front_rises cs c rise_cs

      same : e.key ≡ c.key
      same = same_is e.key c.key (ap is_eq o)

      under : all_below e.key (keys_in cs) ≡ true
      under = ap (λ (x : List Value). all_below x (keys_in cs)) same ∙ front_c.1

      mine : held e.key (e ∷ []) ≡ Some e.row
      mine = ap (λ (t : Bool). cond t (Some e.row) None) (same_self e.key)

      here_or : (a : Option (Option (List Value))) (x : Option (List Value)) (b : Option (Option (List Value))) → option_or (option_or a (Some x)) b ≡ option_or (option_or a None) (Some x)
      here_or None x b = refl
      here_or (Some y) x b = refl

      at : (k : List Value) (here : Bool) → same_values k e.key ≡ here
          → option_or (option_or (held k es) (held k (e ∷ []))) (option_or (held k cs) (held k (c ∷ []))) ≡ option_or (option_or (held k es) (held k cs)) (held k (e ∷ []))
      at k true is =
          let own : held k (e ∷ []) ≡ Some e.row = ap (λ (x : List Value). held x (e ∷ [])) (same_is k e.key is) ∙ mine in
          let none : held k cs ≡ None = ap (λ (x : List Value). held x cs) (same_is k e.key is) ∙ below_none e.key cs under in
          ap (λ x. option_or (option_or (held k es) x) (option_or (held k cs) (held k (c ∷ [])))) own
          ∙ here_or (held k es) e.row (option_or (held k cs) (held k (c ∷ [])))
          ∙ ap (λ x. option_or (option_or (held k es) x) (Some e.row)) (sym none) ∙ ap (option_or (option_or (held k es) (held k cs))) (sym own)
      at k false is =
          let none : held k (e ∷ []) ≡ None = held_one k e is in
          let other : held k (c ∷ []) ≡ None = held_one k c (subst (λ (x : List Value). same_values k x ≡ false) same is) in
          ap (λ x. option_or (option_or (held k es) x) (option_or (held k cs) (held k (c ∷ [])))) none
          ∙ ap (λ x. option_or (option_or (held k es) None) (option_or (held k cs) x)) other
          ∙ ap (λ x. option_or x (option_or (held k cs) None)) (or_none (held k es)) ∙ ap (option_or (held k es)) (or_none (held k cs))
          ∙ sym (or_none (option_or (held k es) (held k cs))) ∙ ap (option_or (option_or (held k es) (held k cs))) (sym none)

-- ---- the rows of slots with one behind

rows_behind : (ss : List Slot) (last : Slot) → rows_in (ss ++ last ∷ []) ≡ rows_in ss ++ option_to_list last.row
rows_behind [] last = append-nil (option_to_list last.row)
rows_behind (s ∷ ss) last = ap (λ rows. option_to_list s.row ++ rows) (rows_behind ss last) ∙ sym (append_assoc (option_to_list s.row) (rows_in ss) (option_to_list last.row))

-- ---- slots up to a place

above_take : (low : List Value) (n : ℕ) (ss : List Slot) → all_above low (keys_in ss) ≡ true → all_above low (keys_in (take n ss)) ≡ true
above_take low zero [] above = refl
above_take low (suc n) [] above = refl
above_take low zero (s ∷ ss) above = refl
above_take low (suc n) (s ∷ ss) above =
    let both = and_parts (is_lt (key_order low s.key)) (all_above low (keys_in ss)) above in
    and_from (is_lt (key_order low s.key)) (all_above low (keys_in (take n ss))) both.0 (above_take low n ss both.1)

rise_take : (n : ℕ) (ss : List Slot) → keys_rise (keys_in ss) ≡ true → keys_rise (keys_in (take n ss)) ≡ true
rise_take zero [] rises = refl
rise_take (suc n) [] rises = refl
rise_take zero (s ∷ ss) rises = refl
rise_take (suc n) (s ∷ ss) rises =
    let both = and_parts (all_above s.key (keys_in ss)) (keys_rise (keys_in ss)) rises in
    and_from (all_above s.key (keys_in (take n ss))) (keys_rise (keys_in (take n ss))) (above_take s.key n ss both.0) (rise_take n ss both.1)

pub take_back : (f : ℕ → Slot) (ns : List ℕ) (i n : ℕ) → slice_get ns i ≡ Some n → take (suc i) (map f ns) ≡ take i (map f ns) ++ f n ∷ []
take_back f [] i n e = cc
take_back f (m ∷ ns) zero n e = let same : m ≡ n = cc in ap (λ (k : ℕ). f k ∷ []) same
take_back f (m ∷ ns) (suc i) n e = ap (λ (rest : List Slot). f m ∷ rest) (take_back f ns i n e)

over_nothing : (es : List Slot) → over es [] ≡ es
over_nothing [] = refl
over_nothing (e ∷ es) = ap (λ (rest : List Slot). e ∷ rest) (over_nothing es)

module _ (es cs : List Slot) (p q i j : ℕ) where
  -- before the first entry and the first row
  pub back_nothing : p ≡ 0 → q ≡ 0 → rows_in (over (take p es) (take q cs)) ≡ []
  back_nothing is_p is_q = ap (λ (n : ℕ). rows_in (over (take n es) (take q cs))) is_p ∙ ap (λ (n : ℕ). rows_in (take n cs)) is_q

  -- an entry, where there is no row
  pub back_entry_alone : (e : Slot) → take p es ≡ take i es ++ e ∷ [] → q ≡ 0 → rows_in (over (take p es) (take q cs)) ≡ rows_in (over (take i es) (take q cs)) ++ option_to_list e.row
  back_entry_alone e is_e is_q =
      ap (λ (n : ℕ). rows_in (over (take p es) (take n cs))) is_q ∙ ap rows_in (over_nothing (take p es) ∙ is_e) ∙ rows_behind (take i es) e
      ∙ ap (λ (ss : List Slot). rows_in ss ++ option_to_list e.row) (sym (over_nothing (take i es)))
      ∙ ap (λ (n : ℕ). rows_in (over (take i es) (take n cs)) ++ option_to_list e.row) (sym is_q)

  -- a row, where there is no entry
  pub back_row_alone : (c : Slot) → take q cs ≡ take j cs ++ c ∷ [] → p ≡ 0 → rows_in (over (take p es) (take q cs)) ≡ rows_in (over (take p es) (take j cs)) ++ option_to_list c.row
  back_row_alone c is_c is_p =
      ap (λ (n : ℕ). rows_in (over (take n es) (take q cs))) is_p ∙ ap rows_in is_c ∙ rows_behind (take j cs) c
      ∙ ap (λ (n : ℕ). rows_in (over (take n es) (take j cs)) ++ option_to_list c.row) (sym is_p)

  module _ (e c : Slot) (is_e : take p es ≡ take i es ++ e ∷ []) (is_c : take q cs ≡ take j cs ++ c ∷ []) (rise_es : keys_rise (keys_in es) ≡ true) (rise_cs : keys_rise (keys_in cs) ≡ true) where
    up_e : keys_rise (keys_in (take i es ++ e ∷ [])) ≡ true
    up_e = ap (λ (ss : List Slot). keys_rise (keys_in ss)) (sym is_e) ∙ rise_take p es rise_es

    up_c : keys_rise (keys_in (take j cs ++ c ∷ [])) ≡ true
    up_c = ap (λ (ss : List Slot). keys_rise (keys_in ss)) (sym is_c) ∙ rise_take q cs rise_cs

    opened : over (take p es) (take q cs) ≡ over (take i es ++ e ∷ []) (take j cs ++ c ∷ [])
    opened = ap (λ (ss : List Slot). over ss (take q cs)) is_e ∙ ap (over (take i es ++ e ∷ [])) is_c

    pub back_row : key_order e.key c.key ≡ Less → rows_in (over (take p es) (take q cs)) ≡ rows_in (over (take p es) (take j cs)) ++ option_to_list c.row
    back_row o =
        ap rows_in (opened ∙ last_is_row (take i es) (take j cs) e c up_e up_c o ∙ ap (λ (ss : List Slot). over ss (take j cs) ++ c ∷ []) (sym is_e))
        ∙ rows_behind (over (take p es) (take j cs)) c

    pub back_entry : key_order e.key c.key ≡ Greater → rows_in (over (take p es) (take q cs)) ≡ rows_in (over (take i es) (take q cs)) ++ option_to_list e.row
    back_entry o =
        ap rows_in (opened ∙ last_is_entry (take i es) (take j cs) e c up_e up_c o ∙ ap (λ (ss : List Slot). over (take i es) ss ++ e ∷ []) (sym is_c))
        ∙ rows_behind (over (take i es) (take q cs)) e

    pub back_both : key_order e.key c.key ≡ Equal → rows_in (over (take p es) (take q cs)) ≡ rows_in (over (take i es) (take j cs)) ++ option_to_list e.row
    back_both o = ap rows_in (opened ∙ last_is_both (take i es) (take j cs) e c up_e up_c o) ∙ rows_behind (over (take i es) (take j cs)) e

-- ---- the last of rows

last_of : (rows : List (List Value)) (row : List Value) → slice_get (rows ++ row ∷ []) (length rows) ≡ Some row
last_of [] row = refl
last_of (r ∷ rows) row = last_of rows row

length-behind : (rows : List (List Value)) (row : List Value) → length (rows ++ row ∷ []) ≡ length rows + 1
length-behind [] row = omega arith
length-behind (r ∷ rows) row = omega (arith, length-behind rows row)

pub last_row : (o : Option (List Value)) (old new : List (List Value)) → IfSome o (λ row. old ≡ new ++ row ∷ []) → IfNone o (old ≡ []) → o ≡ slice_get old (length old - 1)
last_row None old new some none = sym (ap (λ (rows : List (List Value)). slice_get rows (length rows - 1)) none)
last_row (Some row) old new some none =
    let at : length (new ++ row ∷ []) - 1 ≡ length new = omega (arith, length-behind new row) in
    sym (ap (λ (rows : List (List Value)). slice_get rows (length rows - 1)) some ∙ ap (slice_get (new ++ row ∷ [])) at ∙ last_of new row)

-- ---- in the parts of a sheet

take_all : (ss : List Slot) (n : ℕ) → n ≡ length ss → take n ss ≡ ss
take_all [] zero e = refl
take_all [] (suc n) e = absurd (omega (arith, e))
take_all (s ∷ ss) zero e = absurd (omega (arith, e))
take_all (s ∷ ss) (suc n) e = ap (λ (rest : List Slot). s ∷ rest) (take_all ss n (omega (arith, e)))

module _ (d : TableDef) (c : Committed) (o : Overlay) where
  entries_to : (p i : ℕ) (e : Entry) → Some e ≡ option_and_then (slice_get o.entries.items) (slice_get (flat o.ranks.blocks) i) → i + 1 ≡ p
      → take p (entry_slots d o) ≡ take i (entry_slots d o) ++ record { key = primary_key d e.bearer; row = e.present } ∷ []
  entries_to p i e is one_more = ap (λ (n : ℕ). take n (entry_slots d o)) (sym one_more ∙ add-one i) ∙ step (slice_get (flat o.ranks.blocks) i) refl is
    where
      step : (n : Option ℕ) → slice_get (flat o.ranks.blocks) i ≡ n → Some e ≡ option_and_then (slice_get o.entries.items) n
          → take (suc i) (entry_slots d o) ≡ take i (entry_slots d o) ++ record { key = primary_key d e.bearer; row = e.present } ∷ []
      step None at there = cc
      step (Some n) at there =
          take_back (entry_slot d o.entries.items) (flat o.ranks.blocks) i n at
          ∙ ap (λ (s : Slot). take i (entry_slots d o) ++ s ∷ []) (sym (entry_slot_is d o.entries.items n (Some e) there))

  rows_to : (q j : ℕ) (row : List Value) → Some row ≡ option_and_then (row_of c.rows.rows) (slice_get (flat c.order.blocks) j) → j + 1 ≡ q
      → take q (committed_slots d c) ≡ take j (committed_slots d c) ++ record { key = primary_key d row; row = Some row } ∷ []
  rows_to q j row is one_more = ap (λ (n : ℕ). take n (committed_slots d c)) (sym one_more ∙ add-one j) ∙ step (slice_get (flat c.order.blocks) j) refl is
    where
      step : (n : Option ℕ) → slice_get (flat c.order.blocks) j ≡ n → Some row ≡ option_and_then (row_of c.rows.rows) n
          → take (suc j) (committed_slots d c) ≡ take j (committed_slots d c) ++ record { key = primary_key d row; row = Some row } ∷ []
      step None at there = cc
      step (Some n) at there =
          take_back (row_slot d c.rows.rows) (flat c.order.blocks) j n at
          ∙ ap (λ (s : Slot). take j (committed_slots d c) ++ s ∷ []) (sym (row_slot_is d c.rows.rows n (Some row) there))

  pub passed_all : (at : Place) → place o.ranks.blocks at.entry ≡ length (flat o.ranks.blocks) → place c.order.blocks at.row ≡ length (flat c.order.blocks)
      → passed d c o at ≡ over (entry_slots d o) (committed_slots d c)
  unfolding passed
  passed_all at end_e end_c =
      ap (λ (ss : List Slot). over ss (take (place c.order.blocks at.row) (committed_slots d c)))
      (take_all (entry_slots d o) (place o.ranks.blocks at.entry) (end_e ∙ sym (length-map (flat o.ranks.blocks) (entry_slot d o.entries.items))))
      ∙ ap (over (entry_slots d o)) (take_all (committed_slots d c) (place c.order.blocks at.row) (end_c ∙ sym (length-map (flat c.order.blocks) (row_slot d c.rows.rows))))

  module _ (at : Place) (rise_es : keys_rise (keys_in (entry_slots d o)) ≡ true) (rise_cs : keys_rise (keys_in (committed_slots d c)) ≡ true) where
    pub passed_nothing : place o.ranks.blocks at.entry ≡ 0 → place c.order.blocks at.row ≡ 0 → rows_in (passed d c o at) ≡ []
    unfolding passed
    passed_nothing zero_e zero_c = back_nothing (entry_slots d o) (committed_slots d c) (place o.ranks.blocks at.entry) (place c.order.blocks at.row) 0 0 zero_e zero_c

    pub passed_row_alone : (row : List Value) (j : Spot) → Some row ≡ option_and_then (row_of c.rows.rows) (slice_get (flat c.order.blocks) (place c.order.blocks j)) → place c.order.blocks j + 1 ≡ place c.order.blocks at.row
        → place o.ranks.blocks at.entry ≡ 0 → rows_in (passed d c o at) ≡ rows_in (passed d c o (record { entry = at.entry; row = j })) ++ option_to_list (Some row)
    unfolding passed
    passed_row_alone row j is one_more zero_e =
        back_row_alone (entry_slots d o) (committed_slots d c) (place o.ranks.blocks at.entry) (place c.order.blocks at.row) 0 (place c.order.blocks j) (record { key = primary_key d row; row = Some row })
        (rows_to (place c.order.blocks at.row) (place c.order.blocks j) row is one_more) zero_e

    pub passed_entry_alone : (e : Entry) (i : Spot) → Some e ≡ option_and_then (slice_get o.entries.items) (slice_get (flat o.ranks.blocks) (place o.ranks.blocks i)) → place o.ranks.blocks i + 1 ≡ place o.ranks.blocks at.entry
        → place c.order.blocks at.row ≡ 0 → rows_in (passed d c o at) ≡ rows_in (passed d c o (record { entry = i; row = at.row })) ++ option_to_list e.present
    unfolding passed
    passed_entry_alone e i is one_more zero_c =
        back_entry_alone (entry_slots d o) (committed_slots d c) (place o.ranks.blocks at.entry) (place c.order.blocks at.row) (place o.ranks.blocks i) 0 (record { key = primary_key d e.bearer; row = e.present })
        (entries_to (place o.ranks.blocks at.entry) (place o.ranks.blocks i) e is one_more) zero_c

    module _ (e : Entry) (i : Spot) (is_e : Some e ≡ option_and_then (slice_get o.entries.items) (slice_get (flat o.ranks.blocks) (place o.ranks.blocks i))) (more_e : place o.ranks.blocks i + 1 ≡ place o.ranks.blocks at.entry)
        (row : List Value) (j : Spot) (is_c : Some row ≡ option_and_then (row_of c.rows.rows) (slice_get (flat c.order.blocks) (place c.order.blocks j))) (more_c : place c.order.blocks j + 1 ≡ place c.order.blocks at.row) where
      to_e : take (place o.ranks.blocks at.entry) (entry_slots d o) ≡ take (place o.ranks.blocks i) (entry_slots d o) ++ record { key = primary_key d e.bearer; row = e.present } ∷ []
      to_e = entries_to (place o.ranks.blocks at.entry) (place o.ranks.blocks i) e is_e more_e

      to_c : take (place c.order.blocks at.row) (committed_slots d c) ≡ take (place c.order.blocks j) (committed_slots d c) ++ record { key = primary_key d row; row = Some row } ∷ []
      to_c = rows_to (place c.order.blocks at.row) (place c.order.blocks j) row is_c more_c

      pub passed_row : key_order (primary_key d e.bearer) (primary_key d row) ≡ Less → rows_in (passed d c o at) ≡ rows_in (passed d c o (record { entry = at.entry; row = j })) ++ option_to_list (Some row)
      unfolding passed
      passed_row order =
          back_row (entry_slots d o) (committed_slots d c) (place o.ranks.blocks at.entry) (place c.order.blocks at.row) (place o.ranks.blocks i) (place c.order.blocks j) (record { key = primary_key d e.bearer; row = e.present })
          (record { key = primary_key d row; row = Some row }) to_e to_c rise_es rise_cs order

      pub passed_entry : key_order (primary_key d e.bearer) (primary_key d row) ≡ Greater → rows_in (passed d c o at) ≡ rows_in (passed d c o (record { entry = i; row = at.row })) ++ option_to_list e.present
      unfolding passed
      passed_entry order =
          back_entry (entry_slots d o) (committed_slots d c) (place o.ranks.blocks at.entry) (place c.order.blocks at.row) (place o.ranks.blocks i) (place c.order.blocks j) (record { key = primary_key d e.bearer; row = e.present })
          (record { key = primary_key d row; row = Some row }) to_e to_c rise_es rise_cs order

      pub passed_both : key_order (primary_key d e.bearer) (primary_key d row) ≡ Equal → rows_in (passed d c o at) ≡ rows_in (passed d c o (record { entry = i; row = j })) ++ option_to_list e.present
      unfolding passed
      passed_both order =
          back_both (entry_slots d o) (committed_slots d c) (place o.ranks.blocks at.entry) (place c.order.blocks at.row) (place o.ranks.blocks i) (place c.order.blocks j) (record { key = primary_key d e.bearer; row = e.present })
          (record { key = primary_key d row; row = Some row }) to_e to_c rise_es rise_cs order

-- ---- what stands at a spot is there

pub never_entry : {G : Type 0} (o : Overlay) (spot : Spot) → IsAt o.ranks.blocks spot → None ≡ option_and_then (slice_get o.entries.items) (slice_get (flat o.ranks.blocks) (place o.ranks.blocks spot)) → G
never_entry o spot at is =
    let here : slice_get (flat o.ranks.blocks) (place o.ranks.blocks spot) ≡ Some (slice_index (flat o.ranks.blocks) (place o.ranks.blocks spot)) = number_here o.ranks.blocks spot at in
    let within = ranked_here o.entries.items (flat o.ranks.blocks) (place o.ranks.blocks spot) (slice_index (flat o.ranks.blocks) (place o.ranks.blocks spot)) o.ranked here in
    let never : None ≡ Some _ =
    is ∙ ap (option_and_then (slice_get o.entries.items)) here ∙ slice_get-get_or o.entries.items (slice_index (flat o.ranks.blocks) (place o.ranks.blocks spot)) (record { bearer = []; present = None }) within in cc

pub never_row : {G : Type 0} (c : Committed) (spot : Spot) → IsAt c.order.blocks spot → None ≡ option_and_then (row_of c.rows.rows) (slice_get (flat c.order.blocks) (place c.order.blocks spot)) → G
never_row c spot at is =
    let here : slice_get (flat c.order.blocks) (place c.order.blocks spot) ≡ Some (slice_index (flat c.order.blocks) (place c.order.blocks spot)) = number_here c.order.blocks spot at in
    let some : is_some (row_of c.rows.rows (slice_index (flat c.order.blocks) (place c.order.blocks spot))) ≡ true =
    all_at (λ (m : ℕ). is_some (row_of c.rows.rows m)) (flat c.order.blocks) (place c.order.blocks spot) (slice_index (flat c.order.blocks) (place c.order.blocks spot)) c.numbered here in
    let never : false ≡ true = ap (λ (p : Option (List Value)). is_some p) (is ∙ ap (option_and_then (row_of c.rows.rows)) here) ∙ some in cc

-- a slot without a row behind others
pub nothing_behind : (old new : List (List Value)) → old ≡ new ++ option_to_list None → new ≡ old
nothing_behind old new e = sym (e ∙ append-nil new)
