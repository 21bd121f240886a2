-- Items whose keys rise: what finding, putting in and keeping make of them.
use Rattle.std.proofs.Common.{◌≡◌, ℕ, zero, suc, ◌<◌, ◌≤◌, List, [], ◌∷◌, ◌++◌, length, get_or, Bool, true, false, cond, Option, Some, None, Ordering, Less, Equal, Greater, refl, sym, ap, subst, ◌∙◌, arith}
use Rattle.std.specs.List.{insert, filter}
use Rattle.std.specs.List.Sorted.{IsPartitionedBy, IsPartitionPoint}
use Rattle.std.specs.Cmp.{IsTotalOrder}
use Rattle.std.specs.Ordering.{is_eq, is_lt, is_gt, ordering_reverse}
use Rattle.std.proofs.lemmas.Bool.{not-true, not-false}
use Rattle.catalog_objects.specs.Rising.{place, find_by, kept, has_key, is_before, is_not_before, Above, Rises, Apart, put, IsIndexed}

-- ---- places

module _ {X : Type 0} (test : X → Bool) where
  -- the first place that passes where none before it does
  pub place_at : (xs : List X) (i : ℕ) → i ≤ length xs → ((k : ℕ) (d : X) → k < i → test (get_or xs k d) ≡ false)
      → ((d : X) → i < length xs → test (get_or xs i d) ≡ true) → i ≡ place test xs
  place_at [] i h below here = omega arith
  place_at (x ∷ xs) zero h below here = let passes : test x ≡ true = here x (omega arith) in rw passes refl
  place_at (x ∷ xs) (suc i) h below here =
      let fails : test x ≡ false = below 0 x (omega arith) in
      let rest : i ≡ place test xs = place_at xs i (omega arith) (λ k d lt. below (suc k) d (omega arith)) (λ d lt. here d (omega arith)) in
      rw fails (ap (λ (k : ℕ). suc k) rest)

  le_step : (b : Bool) (k n : ℕ) → k ≤ n → cond b 0 (suc k) ≤ suc n
  le_step true k n h = omega arith
  le_step false k n h = omega arith

  pub place_at_most : (xs : List X) → place test xs ≤ length xs
  place_at_most [] = omega arith
  place_at_most (x ∷ xs) = le_step (test x) (place test xs) (length xs) (place_at_most xs)

  some_none : (b : Bool) (x : X) (r : Option X) → cond b (Some x) r ≡ None → (b ≡ false) × (r ≡ None)
  some_none true x r e = cc
  some_none false x r e = (refl, e)

  pub none_in : (x : X) (xs : List X) → find_by test (x ∷ xs) ≡ None → (test x ≡ false) × (find_by test xs ≡ None)
  none_in x xs e = some_none (test x) x (find_by test xs) e

lt_eq : (o : Ordering) → o ≡ Less → is_eq o ≡ false
lt_eq o e = ap is_eq e

is_less : (o : Ordering) → is_lt o ≡ true → o ≡ Less
is_less Less e = refl
is_less Equal e = cc
is_less Greater e = cc

is_tied : (o : Ordering) → is_eq o ≡ true → o ≡ Equal
is_tied Less e = cc
is_tied Equal e = refl
is_tied Greater e = cc

left_over : (o : Ordering) → is_lt o ≡ false → is_eq (ordering_reverse o) ≡ false → ordering_reverse o ≡ Less
left_over Less e f = cc
left_over Equal e f = cc
left_over Greater e f = refl

turned_eq : (o : Ordering) → is_eq o ≡ is_eq (ordering_reverse o)
turned_eq Less = refl
turned_eq Equal = refl
turned_eq Greater = refl

turned_lt : (o : Ordering) → is_lt o ≡ true → is_eq (ordering_reverse o) ≡ false
turned_lt Less e = refl
turned_lt Equal e = cc
turned_lt Greater e = cc

gt_lt : (o : Ordering) → is_gt o ≡ is_lt (ordering_reverse o)
gt_lt Less = refl
gt_lt Equal = refl
gt_lt Greater = refl

module _ {X K : Type 0} {R : K → K → Ordering} (key : X → K) (total : IsTotalOrder R) (exact : (a b : K) → R a b ≡ Equal → a ≡ b) where
  -- ---- by halves

  above_at : (low : K) (xs : List X) (j : ℕ) (d : X) → Above R key low xs → j < length xs → R low (key (get_or xs j d)) ≡ Less
  above_at low [] j d up h = absurd (omega arith)
  above_at low (x ∷ xs) zero d up h = up.0
  above_at low (x ∷ xs) (suc j) d up h = above_at low xs j d up.1 (omega arith)

  pub parted : (k : K) (xs : List X) → Rises R key xs → IsPartitionedBy (is_before R key k) xs
  parted k [] up i j d le lt before = absurd (omega arith)
  parted k (x ∷ xs) up zero zero d le lt before = before
  parted k (x ∷ xs) up zero (suc j) d le lt before =
      ap is_lt (total.trans (key x) (key (get_or xs j d)) k (above_at (key x) xs j d up.0 (omega arith)) (is_less _ before))
  parted k (x ∷ xs) up (suc i) zero d le lt before = absurd (omega arith)
  parted k (x ∷ xs) up (suc i) (suc j) d le lt before = parted k xs up.1 i j d (omega arith) (omega arith) before

  -- where the items part is the place of a key
  pub parts_at : (k : K) (xs : List X) (i : ℕ) → i ≤ length xs → IsPartitionPoint (λ x. is_before R key k x ≡ true) (λ x. is_before R key k x ≡ false) xs i
      → i ≡ place (is_not_before R key k) xs
  parts_at k xs i h point =
      place_at (is_not_before R key k) xs i h (λ j d lt. rw (point.0 j d (omega arith) lt) refl) (λ d lt. rw (point.1 i d (omega arith) lt) refl)

  -- the test that looks from the other side
  pub is_before_gt : (k : K) (x : X) → is_gt (R k (key x)) ≡ is_before R key k x
  is_before_gt k x = gt_lt (R k (key x)) ∙ ap is_lt (sym (total.antisymm (key x) k))

  before_differs : (k : K) (x : X) → is_not_before R key k x ≡ false → has_key R key k x ≡ false
  before_differs k x e = ap is_eq (total.antisymm k (key x)) ∙ turned_lt (R (key x) k) (not-false _ e)

  after_less : (k : K) (x : X) → is_not_before R key k x ≡ true → has_key R key k x ≡ false → R k (key x) ≡ Less
  after_less k x e f =
      total.antisymm k (key x) ∙ left_over (R (key x) k) (not-true _ e) (ap is_eq (sym (total.antisymm k (key x))) ∙ f)

  none_above : (k : K) (xs : List X) → Above R key k xs → find_by (has_key R key k) xs ≡ None
  none_above k [] up = refl
  none_above k (x ∷ xs) up = rw (lt_eq _ up.0) (none_above k xs up.1)

  above_chain : (a b : K) → R a b ≡ Less → (xs : List X) → Above R key b xs → Above R key a xs
  above_chain a b h [] up = tt
  above_chain a b h (x ∷ xs) up = (total.trans a b (key x) h up.0, above_chain a b h xs up.1)

  found_step : (b : Bool) (k : K) (x d : X) (xs : List X) → is_not_before R key k x ≡ b
      → (place (is_not_before R key k) xs < length xs → has_key R key k (get_or xs (place (is_not_before R key k) xs) d) ≡ true → find_by (has_key R key k) xs ≡ Some (get_or xs (place (is_not_before R key k) xs) d))
      → cond b 0 (suc (place (is_not_before R key k) xs)) < suc (length xs)
      → has_key R key k (get_or (x ∷ xs) (cond b 0 (suc (place (is_not_before R key k) xs))) d) ≡ true
      → find_by (has_key R key k) (x ∷ xs) ≡ Some (get_or (x ∷ xs) (cond b 0 (suc (place (is_not_before R key k) xs))) d)
  found_step true k x d xs e later h is = rw is refl
  found_step false k x d xs e later h is = rw (before_differs k x e) (later (omega arith) is)

  found : (k : K) (xs : List X) (d : X) → place (is_not_before R key k) xs < length xs → has_key R key k (get_or xs (place (is_not_before R key k) xs) d) ≡ true
      → find_by (has_key R key k) xs ≡ Some (get_or xs (place (is_not_before R key k) xs) d)
  found k [] d h is = absurd (omega arith)
  found k (x ∷ xs) d h is = found_step (is_not_before R key k x) k x d xs refl (found k xs d) h is

  missed_step : (b : Bool) (k : K) (x d : X) (xs : List X) → is_not_before R key k x ≡ b → Above R key (key x) xs
      → ((place (is_not_before R key k) xs < length xs → has_key R key k (get_or xs (place (is_not_before R key k) xs) d) ≡ false) → find_by (has_key R key k) xs ≡ None)
      → (cond b 0 (suc (place (is_not_before R key k) xs)) < suc (length xs) → has_key R key k (get_or (x ∷ xs) (cond b 0 (suc (place (is_not_before R key k) xs))) d) ≡ false)
      → find_by (has_key R key k) (x ∷ xs) ≡ None
  missed_step true k x d xs e up later misses =
      let other : has_key R key k x ≡ false = misses (omega arith) in
      rw other (none_above k xs (above_chain k (key x) (after_less k x e other) xs up))
  missed_step false k x d xs e up later misses = rw (before_differs k x e) (later (λ h. misses (omega arith)))

  missed : (k : K) (xs : List X) (d : X) → Rises R key xs
      → (place (is_not_before R key k) xs < length xs → has_key R key k (get_or xs (place (is_not_before R key k) xs) d) ≡ false) → find_by (has_key R key k) xs ≡ None
  missed k [] d up misses = refl
  missed k (x ∷ xs) d up misses = missed_step (is_not_before R key k x) k x d xs refl up.0 (missed k xs d up.1) misses

  pub found_at : (k : K) (xs : List X) (at : ℕ) (x : X) → at ≡ place (is_not_before R key k) xs → at < length xs → x ≡ get_or xs at x → has_key R key k x ≡ true
      → Some x ≡ find_by (has_key R key k) xs
  found_at k xs at x e h is same =
      let there : x ≡ get_or xs (place (is_not_before R key k) xs) x = is ∙ ap (λ (j : ℕ). get_or xs j x) e in
      ap (λ (y : X). Some y) there
      ∙ sym (found k xs x (omega arith) (ap (has_key R key k) (sym there) ∙ same))

  pub missed_at : (k : K) (xs : List X) (at : ℕ) (x : X) → Rises R key xs → at ≡ place (is_not_before R key k) xs → x ≡ get_or xs at x → has_key R key k x ≡ false
      → None ≡ find_by (has_key R key k) xs
  missed_at k xs at x up e is other =
      let there : x ≡ get_or xs (place (is_not_before R key k) xs) x = is ∙ ap (λ (j : ℕ). get_or xs j x) e in
      sym (missed k xs x up (λ h. ap (has_key R key k) (sym there) ∙ other))

  pub past_all : (k : K) (xs : List X) (at : ℕ) → Rises R key xs → at ≡ place (is_not_before R key k) xs → length xs ≤ at → None ≡ find_by (has_key R key k) xs
  past_all k [] at up e h = refl
  past_all k (x ∷ xs) at up e h = sym (missed k (x ∷ xs) x up (λ lt. absurd (omega arith)))

  -- ---- an item put in

  inserted_step : (b : Bool) (n : ℕ) (x y : X) (ys more : List X) → insert ys n x ≡ more → insert (y ∷ ys) (cond b 0 (suc n)) x ≡ cond b (x ∷ y ∷ ys) (y ∷ more)
  inserted_step true n x y ys more later = refl
  inserted_step false n x y ys more later = ap (λ (rest : List X). y ∷ rest) later

  pub inserted : (x : X) (xs : List X) → insert xs (place (is_not_before R key (key x)) xs) x ≡ put R key x xs
  inserted x [] = refl
  inserted x (y ∷ ys) = inserted_step (is_not_before R key (key x) y) (place (is_not_before R key (key x)) ys) x y ys (put R key x ys) (inserted x ys)

  above_put_step : (b : Bool) (low : K) (x y : X) (ys more : List X) → R low (key x) ≡ Less → Above R key low (y ∷ ys) → Above R key low more → Above R key low (cond b (x ∷ y ∷ ys) (y ∷ more))
  above_put_step true low x y ys more h up later = (h, up)
  above_put_step false low x y ys more h up later = (up.0, later)

  above_put : (low : K) (x : X) (xs : List X) → R low (key x) ≡ Less → Above R key low xs → Above R key low (put R key x xs)
  above_put low x [] h up = (h, tt)
  above_put low x (y ∷ ys) h up = above_put_step (is_not_before R key (key x) y) low x y ys (put R key x ys) h up (above_put low x ys h up.1)

  rises_put_step : (b : Bool) (x y : X) (ys : List X) → is_not_before R key (key x) y ≡ b → has_key R key (key x) y ≡ false → Rises R key (y ∷ ys) → Rises R key (put R key x ys)
      → Rises R key (cond b (x ∷ y ∷ ys) (y ∷ put R key x ys))
  rises_put_step true x y ys e other up later =
      let less : R (key x) (key y) ≡ Less = after_less (key x) y e other in
      ((less, above_chain (key x) (key y) less ys up.0), up)
  rises_put_step false x y ys e other up later = (above_put (key y) x ys (is_less _ (not-false _ e)) up.0, later)

  pub rises_put : (x : X) (xs : List X) → find_by (has_key R key (key x)) xs ≡ None → Rises R key xs → Rises R key (put R key x xs)
  rises_put x [] none up = (tt, tt)
  rises_put x (y ∷ ys) none up =
      let parts = none_in (has_key R key (key x)) y ys none in
      rises_put_step (is_not_before R key (key x) y) x y ys refl parts.0 up (rises_put x ys parts.1 up.1)

  both : (k : K) (x y : X) → has_key R key k x ≡ true → has_key R key k y ≡ true → has_key R key (key x) y ≡ true
  both k x y e f = subst (λ (j : K). has_key R key j y ≡ true) (exact k (key x) (is_tied _ e)) f

  swap : (p q : Bool) (k : K) (x y : X) (r : Option X) → has_key R key k x ≡ p → has_key R key k y ≡ q → has_key R key (key x) y ≡ false
      → cond q (Some y) (cond p (Some x) r) ≡ cond p (Some x) (cond q (Some y) r)
  swap true true k x y r e f other = let same : has_key R key (key x) y ≡ true = both k x y e f in cc
  swap true false k x y r e f other = refl
  swap false true k x y r e f other = refl
  swap false false k x y r e f other = refl

  put_step : (b : Bool) (k : K) (x y : X) (ys more : List X) → has_key R key (key x) y ≡ false
      → find_by (has_key R key k) more ≡ cond (has_key R key k x) (Some x) (find_by (has_key R key k) ys)
      → find_by (has_key R key k) (cond b (x ∷ y ∷ ys) (y ∷ more)) ≡ cond (has_key R key k x) (Some x) (find_by (has_key R key k) (y ∷ ys))
  put_step true k x y ys more other later = refl
  put_step false k x y ys more other later =
      ap (λ (o : Option X). cond (has_key R key k y) (Some y) o) later
      ∙ swap (has_key R key k x) (has_key R key k y) k x y (find_by (has_key R key k) ys) refl refl other

  pub find_put : (k : K) (x : X) (xs : List X) → find_by (has_key R key (key x)) xs ≡ None
      → find_by (has_key R key k) (put R key x xs) ≡ cond (has_key R key k x) (Some x) (find_by (has_key R key k) xs)
  find_put k x [] none = refl
  find_put k x (y ∷ ys) none =
      let parts = none_in (has_key R key (key x)) y ys none in
      put_step (is_not_before R key (key x) y) k x y ys (put R key x ys) parts.0 (find_put k x ys parts.1)

  pub find_behind : (k : K) (x : X) (xs : List X) → find_by (has_key R key (key x)) xs ≡ None
      → find_by (has_key R key k) (xs ++ x ∷ []) ≡ cond (has_key R key k x) (Some x) (find_by (has_key R key k) xs)
  find_behind k x [] none = refl
  find_behind k x (y ∷ ys) none =
      let parts = none_in (has_key R key (key x)) y ys none in
      put_step false k x y ys (ys ++ x ∷ []) parts.0 (find_behind k x ys parts.1)

  turned : (x y : X) → has_key R key (key x) y ≡ false → has_key R key (key y) x ≡ false
  turned x y e = ap is_eq (total.antisymm (key y) (key x)) ∙ sym (turned_eq (R (key x) (key y))) ∙ e

  pub apart_behind : (x : X) (xs : List X) → find_by (has_key R key (key x)) xs ≡ None → Apart R key xs → Apart R key (xs ++ x ∷ [])
  apart_behind x [] none a = (refl, tt)
  apart_behind x (y ∷ ys) none a =
      let parts = none_in (has_key R key (key x)) y ys none in
      (find_behind (key y) x ys parts.1 ∙ rw (turned x y parts.0) a.0, apart_behind x ys parts.1 a.1)

  -- ---- items kept

  pub apart_rises : (xs : List X) → Rises R key xs → Apart R key xs
  apart_rises [] up = tt
  apart_rises (x ∷ xs) up = (none_above (key x) xs up.0, apart_rises xs up.1)

  above_kept_step : (b : Bool) (low : K) (x : X) (xs more : List X) → Above R key low (x ∷ xs) → Above R key low more → Above R key low (cond b (x ∷ more) more)
  above_kept_step true low x xs more up later = (up.0, later)
  above_kept_step false low x xs more up later = later

  above_kept : (low : K) (test : X → Bool) (xs : List X) → Above R key low xs → Above R key low (filter test xs)
  above_kept low test [] up = tt
  above_kept low test (x ∷ xs) up = above_kept_step (test x) low x xs (filter test xs) up (above_kept low test xs up.1)

  rises_kept_step : (b : Bool) (x : X) (more : List X) → Above R key (key x) more → Rises R key more → Rises R key (cond b (x ∷ more) more)
  rises_kept_step true x more above later = (above, later)
  rises_kept_step false x more above later = later

  pub rises_kept : (test : X → Bool) (xs : List X) → Rises R key xs → Rises R key (filter test xs)
  rises_kept test [] up = tt
  rises_kept test (x ∷ xs) up = rises_kept_step (test x) x (filter test xs) (above_kept (key x) test xs up.0) (rises_kept test xs up.1)

  none_kept_step : (b : Bool) (test : X → Bool) (x : X) (more : List X) → test x ≡ false → find_by test more ≡ None → find_by test (cond b (x ∷ more) more) ≡ None
  none_kept_step true test x more other later = rw other later
  none_kept_step false test x more other later = later

  none_kept : (test keep : X → Bool) (xs : List X) → find_by test xs ≡ None → find_by test (filter keep xs) ≡ None
  none_kept test keep [] none = refl
  none_kept test keep (x ∷ xs) none =
      let parts = none_in test x xs none in none_kept_step (keep x) test x (filter keep xs) parts.0 (none_kept test keep xs parts.1)

  apart_kept_step : (b : Bool) (x : X) (more : List X) → find_by (has_key R key (key x)) more ≡ None → Apart R key more → Apart R key (cond b (x ∷ more) more)
  apart_kept_step true x more none later = (none, later)
  apart_kept_step false x more none later = later

  pub apart_kept : (test : X → Bool) (xs : List X) → Apart R key xs → Apart R key (filter test xs)
  apart_kept test [] a = tt
  apart_kept test (x ∷ xs) a =
      apart_kept_step (test x) x (filter test xs) (none_kept (has_key R key (key x)) test xs a.0) (apart_kept test xs a.1)

  find_kept_step : (b c : Bool) (k : K) (keep : X → Bool) (x : X) (xs : List X) → keep x ≡ b → has_key R key k x ≡ c → find_by (has_key R key (key x)) xs ≡ None
      → find_by (has_key R key k) (filter keep xs) ≡ kept keep (find_by (has_key R key k) xs)
      → find_by (has_key R key k) (cond b (x ∷ filter keep xs) (filter keep xs)) ≡ kept keep (cond c (Some x) (find_by (has_key R key k) xs))
  find_kept_step true true k keep x xs e f none later = rw (e, f) refl
  find_kept_step true false k keep x xs e f none later = rw f later
  find_kept_step false true k keep x xs e f none later =
      let same : k ≡ key x = exact k (key x) (is_tied _ f) in
      let gone : find_by (has_key R key k) xs ≡ None = ap (λ (j : K). find_by (has_key R key j) xs) same ∙ none in
      rw e (later ∙ ap (kept keep) gone)
  find_kept_step false false k keep x xs e f none later = later

  -- what is found among items that are kept: what was found, where it is kept
  pub find_kept : (k : K) (keep : X → Bool) (xs : List X) → Apart R key xs → find_by (has_key R key k) (filter keep xs) ≡ kept keep (find_by (has_key R key k) xs)
  find_kept k keep [] a = refl
  find_kept k keep (x ∷ xs) a = find_kept_step (keep x) (has_key R key k x) k keep x xs refl refl a.0 (find_kept k keep xs a.1)

  -- ---- the index

  -- one more item, of a key that none has
  pub indexed_more : (x : X) (items sorted : List X) → find_by (has_key R key (key x)) items ≡ None → IsIndexed R key items sorted
      → IsIndexed R key (items ++ x ∷ []) (put R key x sorted)
  indexed_more x items sorted none was =
      let also : find_by (has_key R key (key x)) sorted ≡ None = was.same (key x) ∙ none in
      record {
        apart = apart_behind x items none was.apart;
        rising = rises_put x sorted also was.rising;
        same = λ k.
            find_put k x sorted also
            ∙ ap (λ (o : Option X). cond (has_key R key k x) (Some x) o) (was.same k)
            ∙ sym (find_behind k x items none);
      }

  -- the items that pass a test
  pub indexed_kept : (keep : X → Bool) (items sorted : List X) → IsIndexed R key items sorted → IsIndexed R key (filter keep items) (filter keep sorted)
  indexed_kept keep items sorted was = record {
    apart = apart_kept keep items was.apart;
    rising = rises_kept keep sorted was.rising;
    same = λ k.
        find_kept k keep sorted (apart_rises sorted was.rising) ∙ ap (kept keep) (was.same k) ∙ sym (find_kept k keep items was.apart);
  }

  pub indexed_none : IsIndexed R key [] []
  indexed_none = record { apart = tt; rising = tt; same = λ k. refl }
