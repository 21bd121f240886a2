-- Names that rise: the place of one by halves, and what putting one makes of them.
use Rattle.std.proofs.Common.{◌≡◌, ℕ, zero, suc, ◌<◌, ◌≤◌, Bool, true, false, nat_eq, cond, List, [], ◌∷◌, length, get_or, slice_get, Ordering, Less, Equal, Greater, refl, sym, ap, ◌∙◌, arith}
use Rattle.std.specs.List.{insert}
use Rattle.std.specs.List.Sorted.{IsPartitionedBy, IsPartitionPoint}
use Rattle.std.specs.Cmp.{IsTotalOrder}
use Rattle.std.specs.Cmp.Lexicographic.{pointwise}
use Rattle.std.specs.Ordering.{nat_cmp, is_eq, is_lt, ordering_reverse}
use Rattle.std.proofs.lemmas.Cmp.{nat_list_cmp_total, same_from_slice_cmp}
use Rattle.std.proofs.lemmas.Bool.Decides.{nat_tests}
use Rattle.sql_reach.specs.catalog_rules.Names.{same_name}
use Rattle.sql_reach.specs.Carrying.{put_by_order, put_name}
use Rattle.statement_names.specs.Rising.{by_bytes, Above, Rises, is_before, is_name_at, place}

pub total : IsTotalOrder by_bytes
total = nat_list_cmp_total

is_less : (o : Ordering) → is_lt o ≡ true → o ≡ Less
is_less Less e = refl
is_less Equal e = cc
is_less Greater e = cc

-- ---- by halves

above_at : (low : List ℕ) (names : List (List ℕ)) (j : ℕ) (d : List ℕ) → Above low names → j < length names → by_bytes low (get_or names j d) ≡ Less
above_at low [] j d up h = absurd (omega arith)
above_at low (n ∷ ns) zero d up h = up.0
above_at low (n ∷ ns) (suc j) d up h = above_at low ns j d up.1 (omega arith)

pub parted : (name : List ℕ) (names : List (List ℕ)) → Rises names → IsPartitionedBy (is_before name) names
parted name [] up i j d le lt before = absurd (omega arith)
parted name (n ∷ ns) up zero zero d le lt before = before
parted name (n ∷ ns) up zero (suc j) d le lt before =
    ap is_lt (total.trans n (get_or ns j d) name (above_at n ns j d up.0 (omega arith)) (is_less _ before))
parted name (n ∷ ns) up (suc i) zero d le lt before = absurd (omega arith)
parted name (n ∷ ns) up (suc i) (suc j) d le lt before = parted name ns up.1 i j d (omega arith) (omega arith) before

-- the first place behind which none stands before a name
place_at : (name : List ℕ) (names : List (List ℕ)) (i : ℕ) → i ≤ length names → ((k : ℕ) (d : List ℕ) → k < i → is_before name (get_or names k d) ≡ true)
    → ((d : List ℕ) → i < length names → is_before name (get_or names i d) ≡ false) → i ≡ place name names
place_at name [] i h below here = omega arith
place_at name (n ∷ ns) zero h below here = let not_before : is_before name n ≡ false = here n (omega arith) in rw not_before refl
place_at name (n ∷ ns) (suc i) h below here =
    let before : is_before name n ≡ true = below 0 n (omega arith) in
    let rest : i ≡ place name ns = place_at name ns i (omega arith) (λ k d lt. below (suc k) d (omega arith)) (λ d lt. here d (omega arith)) in
    rw before (ap (λ (k : ℕ). suc k) rest)

pub parts_at : (name : List ℕ) (names : List (List ℕ)) (i : ℕ) → i ≤ length names → IsPartitionPoint (λ m. is_before name m ≡ true) (λ m. is_before name m ≡ false) names i
    → i ≡ place name names
parts_at name names i h point = place_at name names i h (λ j d lt. point.0 j d (omega arith) lt) (λ d lt. point.1 i d (omega arith) lt)

at_most_step : (b : Bool) (k n : ℕ) → k ≤ n → cond b (suc k) 0 ≤ suc n
at_most_step true k n h = omega arith
at_most_step false k n h = omega arith

pub at_most : (name : List ℕ) (names : List (List ℕ)) → place name names ≤ length names
at_most name [] = omega arith
at_most name (n ∷ ns) = at_most_step (is_before name n) (place name ns) (length ns) (at_most name ns)

-- ---- a name put among others

tied : (a b : List ℕ) (o : Ordering) → o ≡ by_bytes a b → is_eq o ≡ same_name a b
tied = same_from_slice_cmp nat_cmp is_eq (pointwise nat_eq) refl (λ _ _. refl) (λ _ _. refl) (λ x y xs ys o h. grind (arith, nat_tests))

turned : (a b : List ℕ) (o : Ordering) → by_bytes a b ≡ o → by_bytes b a ≡ ordering_reverse o
turned a b o e = total.antisymm b a ∙ ap ordering_reverse e

there_step : (o : Ordering) (name first : List ℕ) (rest : List (List ℕ)) → by_bytes name first ≡ o
    → (is_name_at (slice_get rest (place name rest)) name ≡ true → put_name name rest ≡ rest)
    → is_name_at (slice_get (first ∷ rest) (place name (first ∷ rest))) name ≡ true → put_name name (first ∷ rest) ≡ first ∷ rest
there_step Less name first rest e later is =
    let back : by_bytes first name ≡ Greater = turned name first Less e in
    let other : same_name first name ≡ false = sym (tied first name (by_bytes first name) refl) ∙ ap is_eq back in
    let whole : is_name_at (slice_get (first ∷ rest) (place name (first ∷ rest))) name ≡ false = rw back other in
    cc
there_step Equal name first rest e later is = rw e refl
there_step Greater name first rest e later is =
    let back : by_bytes first name ≡ Less = turned name first Greater e in
    let behind : is_name_at (slice_get (first ∷ rest) (place name (first ∷ rest))) name ≡ is_name_at (slice_get rest (place name rest)) name = rw back refl in
    rw e (ap (λ (names : List (List ℕ)). first ∷ names) (later (sym behind ∙ is)))

pub put_there : (name : List ℕ) (names : List (List ℕ)) → is_name_at (slice_get names (place name names)) name ≡ true → put_name name names ≡ names
put_there name [] is = cc
put_there name (first ∷ rest) is = there_step (by_bytes name first) name first rest refl (put_there name rest) is

new_step : (o : Ordering) (name first : List ℕ) (rest : List (List ℕ)) → by_bytes name first ≡ o
    → (is_name_at (slice_get rest (place name rest)) name ≡ false → insert rest (place name rest) name ≡ put_name name rest)
    → is_name_at (slice_get (first ∷ rest) (place name (first ∷ rest))) name ≡ false → insert (first ∷ rest) (place name (first ∷ rest)) name ≡ put_name name (first ∷ rest)
new_step Less name first rest e later is =
    let back : by_bytes first name ≡ Greater = turned name first Less e in
    rw e (rw back refl)
new_step Equal name first rest e later is =
    let back : by_bytes first name ≡ Equal = turned name first Equal e in
    let same : same_name first name ≡ true = sym (tied first name (by_bytes first name) refl) ∙ ap is_eq back in
    let whole : is_name_at (slice_get (first ∷ rest) (place name (first ∷ rest))) name ≡ true = rw back same in
    cc
new_step Greater name first rest e later is =
    let back : by_bytes first name ≡ Less = turned name first Greater e in
    let behind : is_name_at (slice_get (first ∷ rest) (place name (first ∷ rest))) name ≡ is_name_at (slice_get rest (place name rest)) name = rw back refl in
    rw e (rw back (ap (λ (names : List (List ℕ)). first ∷ names) (later (sym behind ∙ is))))

pub put_new : (name : List ℕ) (names : List (List ℕ)) → is_name_at (slice_get names (place name names)) name ≡ false → insert names (place name names) name ≡ put_name name names
put_new name [] is = refl
put_new name (first ∷ rest) is = new_step (by_bytes name first) name first rest refl (put_new name rest) is

-- ---- names still rise

above_chain : (a b : List ℕ) → by_bytes a b ≡ Less → (names : List (List ℕ)) → Above b names → Above a names
above_chain a b h [] up = tt
above_chain a b h (n ∷ ns) up = (total.trans a b n h up.0, above_chain a b h ns up.1)

above_step : (o : Ordering) (low name n : List ℕ) (ns : List (List ℕ)) → by_bytes low name ≡ Less → Above low (n ∷ ns) → Above low (put_name name ns) → Above low (put_by_order o name n ns (put_name name ns))
above_step Less low name n ns h up later = (h, up)
above_step Equal low name n ns h up later = up
above_step Greater low name n ns h up later = (up.0, later)

above_put : (low name : List ℕ) (names : List (List ℕ)) → by_bytes low name ≡ Less → Above low names → Above low (put_name name names)
above_put low name [] h up = (h, tt)
above_put low name (n ∷ ns) h up = above_step (by_bytes name n) low name n ns h up (above_put low name ns h up.1)

rises_step : (o : Ordering) (name n : List ℕ) (ns : List (List ℕ)) → by_bytes name n ≡ o → Rises (n ∷ ns) → Rises (put_name name ns) → Rises (put_by_order o name n ns (put_name name ns))
rises_step Less name n ns e up later = ((e, above_chain name n e ns up.0), up)
rises_step Equal name n ns e up later = up
rises_step Greater name n ns e up later = (above_put n name ns (turned name n Greater e) up.0, later)

pub rises_put : (name : List ℕ) (names : List (List ℕ)) → Rises names → Rises (put_name name names)
rises_put name [] up = (tt, tt)
rises_put name (n ∷ ns) up = rises_step (by_bytes name n) name n ns refl up (rises_put name ns up.1)
