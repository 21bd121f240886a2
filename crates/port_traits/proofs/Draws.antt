-- The draws that an environment hands out, one after the other.
use Rattle.std.proofs.Common.{◌≡◌, ℕ, ◌+◌, ◌-◌, ◌<◌, min, zero, suc, List, [], ◌∷◌, ◌++◌, length, take, refl, sym, ap, ◌∙◌, append_assoc, append-nil, add-one, arith, length-append, Some}
use Rattle.std.specs.Prelude.{slice_get}
use Rattle.port_traits.specs.declared.identity.Draw.{Draw}
use Rattle.port_traits.specs.Draws.{draws_after, draws_left, handed_out}

-- it is the same to take one off before or after the others
left_later : (n : ℕ) (ds : List Draw) → draws_left n (draws_after ds) ≡ draws_after (draws_left n ds)
left_later zero ds = refl
left_later (suc n) ds = ap draws_after (left_later n ds)

one_more_draw : (n : ℕ) (ds : List Draw) → handed_out (suc n) ds ≡ handed_out n ds ++ take 1 (draws_left n ds)
one_more_draw zero ds = append-nil (take 1 ds)
one_more_draw (suc n) ds =
    let rest : handed_out (suc n) (draws_after ds) ≡ handed_out n (draws_after ds) ++ take 1 (draws_after (draws_left n ds)) =
    one_more_draw n (draws_after ds) ∙ ap (λ left. handed_out n (draws_after ds) ++ take 1 left) (left_later n ds) in
    ap (λ out. take 1 ds ++ out) rest ∙ sym (append_assoc (take 1 ds) (handed_out n (draws_after ds)) (take 1 (draws_after (draws_left n ds))))

-- one draw more is the first of those that are left
pub handed_out-next : (n : ℕ) (ds : List Draw) → handed_out (n + 1) ds ≡ handed_out n ds ++ take 1 (draws_left n ds)
handed_out-next n ds = ap (λ m. handed_out m ds) (add-one n) ∙ one_more_draw n ds

-- and it is taken off
pub draws_left-next : (n : ℕ) (ds : List Draw) → draws_after (draws_left n ds) ≡ draws_left (n + 1) ds
draws_left-next n ds = ap (λ m. draws_left m ds) (sym (add-one n))

take_first : (ds : List Draw) (d : Draw) → slice_get ds 0 ≡ Some d → take 1 ds ≡ d ∷ []
take_first [] d e = cc
take_first (x ∷ ds) d e = cc

-- the same, where the first draw is known
pub handed_out-first : (n : ℕ) (ds : List Draw) (d : Draw) → slice_get (draws_left n ds) 0 ≡ Some d → handed_out (n + 1) ds ≡ handed_out n ds ++ d ∷ []
handed_out-first n ds d e = handed_out-next n ds ∙ ap (λ out. handed_out n ds ++ out) (take_first (draws_left n ds) d e)

after_some : (ds : List Draw) → 0 < length ds → 0 < length (draws_after ds)
after_some [] h = h
after_some (d ∷ []) h = h
after_some (d ∷ e ∷ ds) h = omega arith

-- where there is a draw, there is always one left
pub draws_left-some : (n : ℕ) (ds : List Draw) → 0 < length ds → 0 < length (draws_left n ds)
draws_left-some zero ds h = h
draws_left-some (suc n) ds h = after_some (draws_left n ds) (draws_left-some n ds h)

take_one : (ds : List Draw) → 0 < length ds → length (take 1 ds) ≡ 1
take_one [] h = omega arith
take_one (d ∷ ds) h = refl

pub length-handed_out : (n : ℕ) (ds : List Draw) → 0 < length ds → length (handed_out n ds) ≡ n
length-handed_out zero ds h = refl
length-handed_out (suc n) ds h =
    let rest = length-handed_out n (draws_after ds) (after_some ds h) in
    let one = take_one ds h in
    omega (arith, length-append (take 1 ds) (handed_out n (draws_after ds)))

none_handed_out : (n : ℕ) → handed_out n [] ≡ []
none_handed_out zero = refl
none_handed_out (suc n) = none_handed_out n

-- the draw at a place is the one at that place in the list, past its end the last one
pub slice_get-handed_out : (n k : ℕ) (ds : List Draw) → k < n → slice_get (handed_out n ds) k ≡ slice_get ds (min k (length ds - 1))
slice_get-handed_out zero k ds h = absurd (omega arith)
slice_get-handed_out (suc n) k [] h = ap (λ out. slice_get out k) (none_handed_out n)
slice_get-handed_out (suc n) zero (d ∷ ds) h =
    let none : min 0 (suc (length ds) - 1) ≡ 0 = omega arith in ap (slice_get (d ∷ ds)) (sym none)
slice_get-handed_out (suc n) (suc k) (d ∷ []) h =
    let none : min k 0 ≡ 0 = omega arith in
    let still : min (suc k) 0 ≡ 0 = omega arith in
    slice_get-handed_out n k (d ∷ []) (omega arith) ∙ ap (slice_get (d ∷ [])) (none ∙ sym still)
slice_get-handed_out (suc n) (suc k) (d ∷ e ∷ ds) h =
    let further : suc (min k (suc (length ds) - 1)) ≡ min (suc k) (suc (suc (length ds)) - 1) = omega arith in
    slice_get-handed_out n k (e ∷ ds) (omega arith) ∙ ap (slice_get (d ∷ e ∷ ds)) further
