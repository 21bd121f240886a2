-- A number put into a list, by halves of the list; and blocks joined with those around them.
use Rattle.std.proofs.Common.{◌≡◌, ℕ, ◌+◌, ◌-◌, ◌<◌, ◌≤◌, List, [], ◌∷◌, ◌++◌, length, take, drop, sym, ap, ◌∙◌, arith, length-append, length-drop}
use Rattle.std.specs.Prelude.{insert}
use Rattle.std.proofs.lemmas.List.{take_at, drop_at, take-take, take-append-drop, length-take-le}
use Rattle.std.proofs.lemmas.List.Edits.{insert-append_left, insert-append_right, length-insert}
use Rattle.block_list.specs.Joining.{joined}
use Rattle.block_list.proofs.Joined.{joined-append}
use Rattle.block_list.proofs.Meeting.{joined_at}

-- a number put into the first so many
pub put_before : (xs : List ℕ) (k at number : ℕ) → at ≤ k → k ≤ length xs
    → (insert (take k xs) at number ≡ take (k + 1) (insert xs at number)) × (drop k xs ≡ drop (k + 1) (insert xs at number))
put_before xs k at number le within =
    let n : length (take k xs) ≡ k = length-take-le k xs within in
    let m : length (insert (take k xs) at number) ≡ k + 1 = omega (arith, length-insert (take k xs) at number (omega (arith, n, le)), n) in
    let e : insert xs at number ≡ insert (take k xs) at number ++ drop k xs =
    ap (λ (all : List ℕ). insert all at number) (sym (take-append-drop k xs)) ∙ insert-append_left (take k xs) (drop k xs) at number (omega (arith, n, le)) in (
      sym (ap (λ (all : List ℕ). take (k + 1) all) e ∙ take_at (insert (take k xs) at number) (drop k xs) (k + 1) m),
      sym (ap (λ (all : List ℕ). drop (k + 1) all) e ∙ drop_at (insert (take k xs) at number) (drop k xs) (k + 1) m),
    )

-- a number put behind the first so many
pub put_behind : (xs : List ℕ) (k at number : ℕ) → k ≤ at → at ≤ length xs
    → (take k xs ≡ take k (insert xs at number)) × (insert (drop k xs) (at - k) number ≡ drop k (insert xs at number))
put_behind xs k at number le within =
    let n : length (take k xs) ≡ k = length-take-le k xs (omega (arith, le, within)) in
    let e : insert xs at number ≡ take k xs ++ insert (drop k xs) (at - k) number =
    ap (λ (all : List ℕ). insert all at number) (sym (take-append-drop k xs)) ∙ insert-append_right (take k xs) (drop k xs) k at number n le in (
      sym (ap (λ (all : List ℕ). take k all) e ∙ take_at (take k xs) (insert (drop k xs) (at - k) number) k n),
      sym (ap (λ (all : List ℕ). drop k all) e ∙ drop_at (take k xs) (insert (drop k xs) (at - k) number) k n),
    )

-- ---- joined on both sides

-- the blocks up to a place keep those before another
front_stays : (run behind : List (List ℕ)) (front : List (List ℕ)) → 1 ≤ length run → joined (front ++ run) behind ≡ front ++ joined run behind
front_stays [] behind front some = absurd (omega (arith, some))
front_stays (b ∷ bs) behind front some = joined-append front b bs behind

pub around_is : (bs : List (List ℕ)) (first last : ℕ) → first ≤ last → last < length bs
    → joined_at bs last ≡ take first bs ++ joined (drop first (take (last + 1) bs)) (drop (last + 1) bs)
around_is bs first last order there =
    let n : length (take (last + 1) bs) ≡ last + 1 = length-take-le (last + 1) bs (omega (arith, there)) in
    let some : 1 ≤ length (drop first (take (last + 1) bs)) = omega (arith, length-drop first (take (last + 1) bs), n, order) in
    ap (λ (run : List (List ℕ)). joined run (drop (last + 1) bs)) (sym (take-append-drop first (take (last + 1) bs)))
    ∙ front_stays (drop first (take (last + 1) bs)) (drop (last + 1) bs) (take first (take (last + 1) bs)) some
    ∙ ap (λ (front : List (List ℕ)). front ++ joined (drop first (take (last + 1) bs)) (drop (last + 1) bs)) (take-take first (last + 1) bs (omega (arith, order)))

pub around_has : (bs now : List (List ℕ)) (first last : ℕ) → first ≤ last → last < length bs → now ≡ joined_at bs last → first ≤ length now
around_has bs now first last order there e =
    let n : length (take first bs) ≡ first = length-take-le first bs (omega (arith, order, there)) in
    let whole : length now ≡ length (take first bs) + length (joined (drop first (take (last + 1) bs)) (drop (last + 1) bs)) =
    ap length (e ∙ around_is bs first last order there) ∙ length-append (take first bs) (joined (drop first (take (last + 1) bs)) (drop (last + 1) bs)) in
    omega arith

pub around : (bs now : List (List ℕ)) (first last : ℕ) → 0 < first → first ≤ last → last < length bs → now ≡ joined_at bs last
    → joined_at now (first - 1) ≡ joined (take first bs) (joined (drop first (take (last + 1) bs)) (drop (last + 1) bs))
around bs now first last some order there e =
    let n : length (take first bs) ≡ first = length-take-le first bs (omega (arith, order, there)) in
    let before : first - 1 + 1 ≡ first = omega arith in
    ap (λ (i : ℕ). joined (take i now) (drop i now)) before
    ∙ ap (λ (all : List (List ℕ)). joined (take first all) (drop first all)) (e ∙ around_is bs first last order there)
    ∙ ap (λ (front : List (List ℕ)). joined front (drop first (take first bs ++ joined (drop first (take (last + 1) bs)) (drop (last + 1) bs)))) (take_at (take first bs) (joined (drop first (take (last + 1) bs)) (drop (last + 1) bs)) first n)
    ∙ ap (λ (behind : List (List ℕ)). joined (take first bs) behind) (drop_at (take first bs) (joined (drop first (take (last + 1) bs)) (drop (last + 1) bs)) first n)
