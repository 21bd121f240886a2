-- What a transaction's entries make of the slots that are seen.
use Rattle.std.proofs.Common.{◌≡◌, List, [], ◌∷◌, Bool, true, false, ◌||◌, not, cond, Option, None, Ordering, Less, Equal, Greater, refl, sym, ap, subst, ◌∙◌}
use Rattle.std.specs.Ordering.{is_eq, is_lt, ordering_reverse}
use Rattle.std.proofs.lemmas.Bool.{and_parts, or_parts, true≢false}
use Rattle.val_types.specs.declared.value.Value.{Value}
use Rattle.val_types.specs.Order.{key_order}
use Rattle.val_types.specs.Keys.{same_values}
use Rattle.val_types.proofs.Values.{key_order_total}
use Rattle.table_rules.proofs.Taking.{same_is}
use Rattle.table_rules.specs.Stores.{is_among}
use Rattle.row_sheets.specs.Slots.{Slot, keys_in, is_slot_of, is_not_before, all_above, keys_rise, fill, with_slot}
use Rattle.row_sheets.specs.Over.{by_order, over_step, over}

-- ---- the order of keys

pub lt_is : (o : Ordering) → is_lt o ≡ true → o ≡ Less
lt_is Less e = refl
lt_is Equal e = cc
lt_is Greater e = cc

pub chain : (a b c : List Value) → is_lt (key_order a b) ≡ true → is_lt (key_order b c) ≡ true → is_lt (key_order a c) ≡ true
chain a b c e f = ap is_lt (key_order_total.trans a b c (lt_is _ e) (lt_is _ f))

neither : (o : Ordering) → is_lt o ≡ false → is_eq (ordering_reverse o) ≡ false → is_lt (ordering_reverse o) ≡ true
neither Less e f = cc
neither Equal e f = cc
neither Greater e f = refl

before_other : (a b : List Value) → is_lt (key_order b a) ≡ false → same_values a b ≡ false → is_lt (key_order a b) ≡ true
before_other a b e f =
    ap is_lt (key_order_total.antisymm a b) ∙ neither (key_order b a) e (ap is_eq (sym (key_order_total.antisymm a b)) ∙ f)

reversed_differs : (o : Ordering) → is_lt o ≡ true → is_eq (ordering_reverse o) ≡ false
reversed_differs Less e = refl
reversed_differs Equal e = cc
reversed_differs Greater e = cc

-- a key above another is not that one
pub apart : (low high : List Value) → is_lt (key_order low high) ≡ true → same_values high low ≡ false
apart low high e = ap is_eq (key_order_total.antisymm high low) ∙ reversed_differs (key_order low high) e

pub greater_below : (a b : List Value) → key_order a b ≡ Greater → is_lt (key_order b a) ≡ true
greater_below a b e = ap is_lt (key_order_total.antisymm b a ∙ ap ordering_reverse e)

pub greater_from : (a b : List Value) → is_lt (key_order b a) ≡ true → key_order a b ≡ Greater
greater_from a b e = key_order_total.antisymm a b ∙ less_turned (key_order b a) e
  where
    less_turned : (o : Ordering) → is_lt o ≡ true → ordering_reverse o ≡ Greater
    less_turned Less h = refl
    less_turned Equal h = cc
    less_turned Greater h = cc

-- a key among those above another is above it
above_key : (low key : List Value) (ss : List Slot) → all_above low (keys_in ss) ≡ true → is_among key (keys_in ss) ≡ true → is_lt (key_order low key) ≡ true
above_key low key [] all among = cc
above_key low key (s ∷ ss) all among =
    let both = and_parts (is_lt (key_order low s.key)) (all_above low (keys_in ss)) all in
    step (same_values key s.key) refl both.0 among (above_key low key ss both.1)
  where
    step : (here : Bool) → same_values key s.key ≡ here → is_lt (key_order low s.key) ≡ true → (here || is_among key (keys_in ss)) ≡ true
        → (is_among key (keys_in ss) ≡ true → is_lt (key_order low key) ≡ true) → is_lt (key_order low key) ≡ true
    step true is less among later = subst (λ (k : List Value). is_lt (key_order low k) ≡ true) (sym (same_is key s.key is)) less
    step false is less among later = later among

-- ---- an entry that is set again

module _ (key : List Value) (p : Option (List Value)) (e : Slot) where
  abbrev set : Slot
  set = record { key = e.key; row = p }

  own_at : (on : List Slot → List Slot) (c : Slot) (cs : List Slot) (o : Ordering) → key_order e.key c.key ≡ o → is_slot_of key e ≡ true
      → over_step set on cs ≡ fill key p (over_step e on cs)
      → by_order o (set ∷ on (c ∷ cs)) (set ∷ on cs) (c ∷ over_step set on cs) ≡ fill key p (by_order o (e ∷ on (c ∷ cs)) (e ∷ on cs) (c ∷ over_step e on cs))
  own_at on c cs Less is own later = rw own refl
  own_at on c cs Equal is own later = rw own refl
  own_at on c cs Greater is own later =
      let other : is_slot_of key c ≡ false = subst (λ (k : List Value). same_values k c.key ≡ false) (sym (same_is key e.key own)) (ap is_eq is) in
      rw other (ap (λ (rest : List Slot). c ∷ rest) later)

  own : (on : List Slot → List Slot) (cs : List Slot) → is_slot_of key e ≡ true → over_step set on cs ≡ fill key p (over_step e on cs)
  own on [] is = rw is refl
  own on (c ∷ cs) is = own_at on c cs (key_order e.key c.key) refl is (own on cs is)

  other_at : (es : List Slot) (c : Slot) (cs : List Slot) (o : Ordering) → key_order e.key c.key ≡ o → is_slot_of key e ≡ false → is_lt (key_order e.key key) ≡ true
      → ((ds : List Slot) → over (fill key p es) ds ≡ fill key p (over es ds)) → over_step e (over (fill key p es)) cs ≡ fill key p (over_step e (over es) cs)
      → by_order o (e ∷ over (fill key p es) (c ∷ cs)) (e ∷ over (fill key p es) cs) (c ∷ over_step e (over (fill key p es)) cs)
      ≡ fill key p (by_order o (e ∷ over es (c ∷ cs)) (e ∷ over es cs) (c ∷ over_step e (over es) cs))
  other_at es c cs Less is not_own low ih later = rw not_own (ap (λ (rest : List Slot). e ∷ rest) (ih (c ∷ cs)))
  other_at es c cs Equal is not_own low ih later = rw not_own (ap (λ (rest : List Slot). e ∷ rest) (ih cs))
  other_at es c cs Greater is not_own low ih later =
      let other : is_slot_of key c ≡ false = apart c.key key (chain c.key e.key key (greater_below e.key c.key is) low) in
      rw other (ap (λ (rest : List Slot). c ∷ rest) later)

  other : (es cs : List Slot) → is_slot_of key e ≡ false → is_lt (key_order e.key key) ≡ true
      → ((ds : List Slot) → over (fill key p es) ds ≡ fill key p (over es ds)) → over_step e (over (fill key p es)) cs ≡ fill key p (over_step e (over es) cs)
  other es [] is low ih = rw is (ap (λ (rest : List Slot). e ∷ rest) (ih []))
  other es (c ∷ cs) is low ih = other_at es c cs (key_order e.key c.key) refl is low ih (other es cs is low ih)

-- setting an entry fills its slot
pub reset : (key : List Value) (p : Option (List Value)) (es cs : List Slot) → keys_rise (keys_in es) ≡ true → is_among key (keys_in es) ≡ true
    → over (fill key p es) cs ≡ fill key p (over es cs)
reset key p [] cs rise among = cc
reset key p (e ∷ es) cs rise among =
    let both = and_parts (all_above e.key (keys_in es)) (keys_rise (keys_in es)) rise in
    step (is_slot_of key e) refl among both.0 (λ more ds. reset key p es ds both.1 more)
  where
    step : (here : Bool) → is_slot_of key e ≡ here → (here || is_among key (keys_in es)) ≡ true → all_above e.key (keys_in es) ≡ true
        → (is_among key (keys_in es) ≡ true → (ds : List Slot) → over (fill key p es) ds ≡ fill key p (over es ds))
        → over (cond here (record { key = e.key; row = p } ∷ es) (e ∷ fill key p es)) cs ≡ fill key p (over_step e (over es) cs)
    step true is among above ih = own key p e (over es) cs is
    step false is among above ih = other key p e es cs is (above_key e.key key es above among) (ih among)

-- ---- an entry of a key that never row has

abbrev bare : List Value → Slot
bare key = record { key = key; row = None }

before_is : (key : List Value) (s : Slot) → is_lt (key_order s.key key) ≡ true → is_not_before key s ≡ false
before_is key s e = ap not e

not_back : (a b : List Value) → is_lt (key_order a b) ≡ true → is_lt (key_order b a) ≡ false
not_back a b e = ap is_lt (key_order_total.antisymm b a) ∙ lt_back (key_order a b) e
  where
    lt_back : (o : Ordering) → is_lt o ≡ true → is_lt (ordering_reverse o) ≡ false
    lt_back Less h = refl
    lt_back Equal h = cc
    lt_back Greater h = cc

behind_is : (key : List Value) (s : Slot) → is_lt (key_order key s.key) ≡ true → is_not_before key s ≡ true
behind_is key s e = ap not (not_back key s.key e)

pub less_from : (o : Ordering) → o ≡ Less → is_lt o ≡ true
less_from o e = ap is_lt e

-- the new one before all that are behind it
at_front : (key : List Value) (e : Slot) (on : List Slot → List Slot) (c : Slot) (cs : List Slot) (o : Ordering) → is_lt (key_order key e.key) ≡ true → is_lt (key_order key c.key) ≡ true
    → bare key ∷ by_order o (e ∷ on (c ∷ cs)) (e ∷ on cs) (c ∷ over_step e on cs) ≡ with_slot key (by_order o (e ∷ on (c ∷ cs)) (e ∷ on cs) (c ∷ over_step e on cs))
at_front key e on c cs Less le lc = rw (behind_is key e le) refl
at_front key e on c cs Equal le lc = rw (behind_is key e le) refl
at_front key e on c cs Greater le lc = rw (behind_is key c lc) refl

first_at : (key : List Value) (e : Slot) (on : List Slot → List Slot) (c : Slot) (cs : List Slot) (o : Ordering) → key_order key c.key ≡ o → is_lt (key_order key e.key) ≡ true
    → same_values key c.key ≡ false → over_step (bare key) (over_step e on) cs ≡ with_slot key (over_step e on cs)
    → by_order o (bare key ∷ over_step e on (c ∷ cs)) (bare key ∷ over_step e on cs) (c ∷ over_step (bare key) (over_step e on) cs)
    ≡ with_slot key (by_order (key_order e.key c.key) (e ∷ on (c ∷ cs)) (e ∷ on cs) (c ∷ over_step e on cs))
first_at key e on c cs Less is le never later = at_front key e on c cs (key_order e.key c.key) le (less_from (key_order key c.key) is)
first_at key e on c cs Equal is le never later = let same : same_values key c.key ≡ true = ap is_eq is in cc
first_at key e on c cs Greater is le never later =
    let below : is_lt (key_order c.key key) ≡ true = greater_below key c.key is in
    let turn : key_order e.key c.key ≡ Greater = greater_from e.key c.key (chain c.key key e.key below le) in
    rw turn (rw (before_is key c below) (ap (λ (rest : List Slot). c ∷ rest) later))

first : (key : List Value) (e : Slot) (on : List Slot → List Slot) (cs : List Slot) → is_lt (key_order key e.key) ≡ true → is_among key (keys_in cs) ≡ false
    → over_step (bare key) (over_step e on) cs ≡ with_slot key (over_step e on cs)
first key e on [] le never = rw (behind_is key e le) refl
first key e on (c ∷ cs) le never =
    let both = or_parts (same_values key c.key) (is_among key (keys_in cs)) never in
    first_at key e on c cs (key_order key c.key) refl le both.0 (first key e on cs le both.1)

alone_at : (key : List Value) (c : Slot) (cs : List Slot) (o : Ordering) → key_order key c.key ≡ o → same_values key c.key ≡ false → over_step (bare key) (λ ds. ds) cs ≡ with_slot key cs
    → by_order o (bare key ∷ c ∷ cs) (bare key ∷ cs) (c ∷ over_step (bare key) (λ ds. ds) cs) ≡ with_slot key (c ∷ cs)
alone_at key c cs Less is never later = rw (behind_is key c (less_from (key_order key c.key) is)) refl
alone_at key c cs Equal is never later = let same : same_values key c.key ≡ true = ap is_eq is in cc
alone_at key c cs Greater is never later = rw (before_is key c (greater_below key c.key is)) (ap (λ (rest : List Slot). c ∷ rest) later)

alone : (key : List Value) (cs : List Slot) → is_among key (keys_in cs) ≡ false → over_step (bare key) (λ ds. ds) cs ≡ with_slot key cs
alone key [] never = refl
alone key (c ∷ cs) never =
    let both = or_parts (same_values key c.key) (is_among key (keys_in cs)) never in
    alone_at key c cs (key_order key c.key) refl both.0 (alone key cs both.1)

later_at : (key : List Value) (e : Slot) (es : List Slot) (c : Slot) (cs : List Slot) (o : Ordering) → key_order e.key c.key ≡ o → is_lt (key_order e.key key) ≡ true → is_among key (keys_in (c ∷ cs)) ≡ false
    → ((ds : List Slot) → is_among key (keys_in ds) ≡ false → over (with_slot key es) ds ≡ with_slot key (over es ds)) → over_step e (over (with_slot key es)) cs ≡ with_slot key (over_step e (over es) cs)
    → by_order o (e ∷ over (with_slot key es) (c ∷ cs)) (e ∷ over (with_slot key es) cs) (c ∷ over_step e (over (with_slot key es)) cs)
    ≡ with_slot key (by_order o (e ∷ over es (c ∷ cs)) (e ∷ over es cs) (c ∷ over_step e (over es) cs))
later_at key e es c cs Less is low never ih later = rw (before_is key e low) (ap (λ (rest : List Slot). e ∷ rest) (ih (c ∷ cs) never))
later_at key e es c cs Equal is low never ih later = rw (before_is key e low) (ap (λ (rest : List Slot). e ∷ rest) (ih cs (or_parts (same_values key c.key) (is_among key (keys_in cs)) never).1))
later_at key e es c cs Greater is low never ih later =
    rw (before_is key c (chain c.key e.key key (greater_below e.key c.key is) low)) (ap (λ (rest : List Slot). c ∷ rest) later)

later_one : (key : List Value) (e : Slot) (es cs : List Slot) → is_lt (key_order e.key key) ≡ true → is_among key (keys_in cs) ≡ false
    → ((ds : List Slot) → is_among key (keys_in ds) ≡ false → over (with_slot key es) ds ≡ with_slot key (over es ds)) → over_step e (over (with_slot key es)) cs ≡ with_slot key (over_step e (over es) cs)
later_one key e es [] low never ih = rw (before_is key e low) (ap (λ (rest : List Slot). e ∷ rest) (ih [] refl))
later_one key e es (c ∷ cs) low never ih =
    later_at key e es c cs (key_order e.key c.key) refl low never ih (later_one key e es cs low (or_parts (same_values key c.key) (is_among key (keys_in cs)) never).1 ih)

-- an entry of a new key is a new slot
pub new_slot : (key : List Value) (es cs : List Slot) → is_among key (keys_in es) ≡ false → is_among key (keys_in cs) ≡ false
    → over (with_slot key es) cs ≡ with_slot key (over es cs)
new_slot key [] cs none never = alone key cs never
new_slot key (e ∷ es) cs none never =
    let both = or_parts (same_values key e.key) (is_among key (keys_in es)) none in
    step (is_lt (key_order e.key key)) refl both.0 (λ ds h. new_slot key es ds both.1 h)
  where
    step : (before : Bool) → is_lt (key_order e.key key) ≡ before → same_values key e.key ≡ false
        → ((ds : List Slot) → is_among key (keys_in ds) ≡ false → over (with_slot key es) ds ≡ with_slot key (over es ds))
        → over (cond (not before) (bare key ∷ e ∷ es) (e ∷ with_slot key es)) cs ≡ with_slot key (over_step e (over es) cs)
    step true is other ih = later_one key e es cs is never ih
    step false is other ih = first key e (over es) cs (before_other key e.key is other) never

-- ---- an entry of a key that a row has

-- a key below the first of those that rise is not among them
below_none : (key : List Value) (s : Slot) (ss : List Slot) → all_above s.key (keys_in ss) ≡ true → is_lt (key_order key s.key) ≡ true → is_among key (keys_in (s ∷ ss)) ≡ true → ⊥
below_none key s ss above below among =
    let first : same_values key s.key ≡ false = lt_differs (key_order key s.key) below in
    let later : is_among key (keys_in ss) ≡ true = among_later (same_values key s.key) (is_among key (keys_in ss)) first among in
    let turn : is_lt (key_order s.key key) ≡ true = above_key s.key key ss above later in
    true≢false (sym turn ∙ not_back key s.key below)
  where
    lt_differs : (o : Ordering) → is_lt o ≡ true → is_eq o ≡ false
    lt_differs Less e = refl
    lt_differs Equal e = cc
    lt_differs Greater e = cc

    among_later : (a b : Bool) → a ≡ false → (a || b) ≡ true → b ≡ true
    among_later true b e f = cc
    among_later false b e f = f

later_among : (key : List Value) (s : Slot) (ss : List Slot) → same_values key s.key ≡ false → is_among key (keys_in (s ∷ ss)) ≡ true → is_among key (keys_in ss) ≡ true
later_among key s ss other among = second (same_values key s.key) (is_among key (keys_in ss)) other among
  where
    second : (a b : Bool) → a ≡ false → (a || b) ≡ true → b ≡ true
    second true b e f = cc
    second false b e f = f

bare_is : (key : List Value) (c : Slot) → same_values key c.key ≡ true → bare key ≡ record { key = c.key; row = None }
bare_is key c e = ap bare (same_is key c.key e)

over_alone : (key : List Value) (cs : List Slot) → keys_rise (keys_in cs) ≡ true → is_among key (keys_in cs) ≡ true → over_step (bare key) (λ ds. ds) cs ≡ fill key None cs
over_alone key [] rise among = cc
over_alone key (c ∷ cs) rise among =
    let both = and_parts (all_above c.key (keys_in cs)) (keys_rise (keys_in cs)) rise in
    at (key_order key c.key) refl both.0 (λ more. over_alone key cs both.1 more)
  where
    at : (o : Ordering) → key_order key c.key ≡ o → all_above c.key (keys_in cs) ≡ true → (is_among key (keys_in cs) ≡ true → over_step (bare key) (λ ds. ds) cs ≡ fill key None cs)
        → by_order o (bare key ∷ c ∷ cs) (bare key ∷ cs) (c ∷ over_step (bare key) (λ ds. ds) cs) ≡ fill key None (c ∷ cs)
    at Less is above ih = absurd (below_none key c cs above (less_from (key_order key c.key) is) among)
    at Equal is above ih = let same : is_slot_of key c ≡ true = ap is_eq is in rw same (ap (λ (s : Slot). s ∷ cs) (bare_is key c same))
    at Greater is above ih = let other : is_slot_of key c ≡ false = ap is_eq is in rw other (ap (λ (rest : List Slot). c ∷ rest) (ih (later_among key c cs other among)))

over_first : (key : List Value) (e : Slot) (on : List Slot → List Slot) (cs : List Slot) → is_lt (key_order key e.key) ≡ true → keys_rise (keys_in cs) ≡ true → is_among key (keys_in cs) ≡ true
    → over_step (bare key) (over_step e on) cs ≡ fill key None (over_step e on cs)
over_first key e on [] le rise among = cc
over_first key e on (c ∷ cs) le rise among =
    let both = and_parts (all_above c.key (keys_in cs)) (keys_rise (keys_in cs)) rise in
    at (key_order key c.key) refl both.0 (λ more. over_first key e on cs le both.1 more)
  where
    at : (o : Ordering) → key_order key c.key ≡ o → all_above c.key (keys_in cs) ≡ true → (is_among key (keys_in cs) ≡ true → over_step (bare key) (over_step e on) cs ≡ fill key None (over_step e on cs))
        → by_order o (bare key ∷ over_step e on (c ∷ cs)) (bare key ∷ over_step e on cs) (c ∷ over_step (bare key) (over_step e on) cs)
        ≡ fill key None (by_order (key_order e.key c.key) (e ∷ on (c ∷ cs)) (e ∷ on cs) (c ∷ over_step e on cs))
    at Less is above ih = absurd (below_none key c cs above (less_from (key_order key c.key) is) among)
    at Equal is above ih =
        let same : is_slot_of key c ≡ true = ap is_eq is in
        let turn : key_order e.key c.key ≡ Greater = greater_from e.key c.key (subst (λ (k : List Value). is_lt (key_order k e.key) ≡ true) (same_is key c.key same) le) in
        rw turn (rw same (ap (λ (s : Slot). s ∷ over_step e on cs) (bare_is key c same)))
    at Greater is above ih =
        let other : is_slot_of key c ≡ false = ap is_eq is in
        let turn : key_order e.key c.key ≡ Greater = greater_from e.key c.key (chain c.key key e.key (greater_below key c.key is) le) in
        rw turn (rw other (ap (λ (rest : List Slot). c ∷ rest) (ih (later_among key c cs other among))))

over_later : (key : List Value) (e : Slot) (es cs : List Slot) → is_lt (key_order e.key key) ≡ true → keys_rise (keys_in cs) ≡ true → is_among key (keys_in cs) ≡ true
    → ((ds : List Slot) → keys_rise (keys_in ds) ≡ true → is_among key (keys_in ds) ≡ true → over (with_slot key es) ds ≡ fill key None (over es ds))
    → over_step e (over (with_slot key es)) cs ≡ fill key None (over_step e (over es) cs)
over_later key e es [] low rise among ih = cc
over_later key e es (c ∷ cs) low rise among ih =
    let both = and_parts (all_above c.key (keys_in cs)) (keys_rise (keys_in cs)) rise in
    at (key_order e.key c.key) refl both.1 (λ more. over_later key e es cs low both.1 more ih)
  where
    own : is_slot_of key e ≡ false
    own = apart e.key key low

    at : (o : Ordering) → key_order e.key c.key ≡ o → keys_rise (keys_in cs) ≡ true → (is_among key (keys_in cs) ≡ true → over_step e (over (with_slot key es)) cs ≡ fill key None (over_step e (over es) cs))
        → by_order o (e ∷ over (with_slot key es) (c ∷ cs)) (e ∷ over (with_slot key es) cs) (c ∷ over_step e (over (with_slot key es)) cs)
        ≡ fill key None (by_order o (e ∷ over es (c ∷ cs)) (e ∷ over es cs) (c ∷ over_step e (over es) cs))
    at Less is up later = rw own (ap (λ (rest : List Slot). e ∷ rest) (ih (c ∷ cs) rise among))
    at Equal is up later =
        let other : same_values key c.key ≡ false = subst (λ (k : List Value). same_values key k ≡ false) (same_is e.key c.key (ap is_eq is)) own in
        rw own (ap (λ (rest : List Slot). e ∷ rest) (ih cs up (later_among key c cs other among)))
    at Greater is up later =
        let other : is_slot_of key c ≡ false = apart c.key key (chain c.key e.key key (greater_below e.key c.key is) low) in
        rw other (ap (λ (rest : List Slot). c ∷ rest) (later (later_among key c cs other among)))

-- an entry of the key of a row stands in its place
pub in_place : (key : List Value) (es cs : List Slot) → keys_rise (keys_in cs) ≡ true → is_among key (keys_in es) ≡ false → is_among key (keys_in cs) ≡ true
    → over (with_slot key es) cs ≡ fill key None (over es cs)
in_place key [] cs rise none among = over_alone key cs rise among
in_place key (e ∷ es) cs rise none among =
    let both = or_parts (same_values key e.key) (is_among key (keys_in es)) none in
    step (is_lt (key_order e.key key)) refl both.0 (λ ds up h. in_place key es ds up both.1 h)
  where
    step : (before : Bool) → is_lt (key_order e.key key) ≡ before → same_values key e.key ≡ false
        → ((ds : List Slot) → keys_rise (keys_in ds) ≡ true → is_among key (keys_in ds) ≡ true → over (with_slot key es) ds ≡ fill key None (over es ds))
        → over (cond (not before) (bare key ∷ e ∷ es) (e ∷ with_slot key es)) cs ≡ fill key None (over_step e (over es) cs)
    step true is other ih = over_later key e es cs is rise among ih
    step false is other ih = over_first key e (over es) cs (before_other key e.key is other) rise among
