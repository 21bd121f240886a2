-- The room of blocks, by a weight: what they have above half of what one holds, and 128 for each.
use Rattle.std.proofs.Common.{◌≡◌, ℕ, ◌+◌, ◌*◌, ◌/◌, ◌%◌, ◌<◌, ◌≤◌, ◌⊎◌, inl, inr, min, List, [], ◌∷◌, ◌++◌, length, Bool, true, false, ap, arith, length-append}
use Rattle.std.proofs.lemmas.Bool.{cases_lt}
use Rattle.std.proofs.lemmas.Grind.{div_ceil_times}
use Rattle.std.specs.Prelude.{nat_le, if◌then◌else◌}
use Rattle.block_list.specs.Layouts.{flat, AreShaped, excess, room}
use Rattle.block_list.specs.Joining.{joined_to, joined, weight}

-- blocks and spare ones are as many as before: the room falls by no more than the weight rises
pub room_by_weight : (xs ys : List (List ℕ)) (s t k : ℕ) → weight ys ≤ weight xs + k → length ys + t ≡ length xs + s → s ≤ t + k
    → room (record { blocks = xs; spares = s }) ≤ room (record { blocks = ys; spares = t }) + k
unfolding room
room_by_weight xs ys s t k w e h = omega (arith, w, e, h)

weight_choice : (t : Bool) (b c : List ℕ) (cs : List (List ℕ)) → weight (if t then (b ++ c) ∷ cs else b ∷ (c ∷ cs)) ≤ weight (b ∷ (c ∷ cs))
weight_choice true b c [] = omega (arith, length-append b c)
weight_choice true b c (d ∷ cs) = omega (arith, length-append b c)
weight_choice false b c cs = omega arith

weight_before : (b : List ℕ) (xs ys : List (List ℕ)) (k : ℕ) → 1 ≤ length xs → 1 ≤ length ys → weight ys ≤ weight xs + k → weight (b ∷ ys) ≤ weight (b ∷ xs) + k
weight_before b [] ys k p q h = absurd (omega (arith, p))
weight_before b (x ∷ xs) [] k p q h = absurd (omega (arith, q))
weight_before b (x ∷ xs) (y ∷ ys) k p q h = omega (arith, h)

-- what stands before stays
pub weight_behind : (front xs ys : List (List ℕ)) (k : ℕ) → 1 ≤ length xs → 1 ≤ length ys → weight ys ≤ weight xs + k → weight (front ++ ys) ≤ weight (front ++ xs) + k
weight_behind [] xs ys k p q h = h
weight_behind (f ∷ fs) xs ys k p q h =
    weight_before f (fs ++ xs) (fs ++ ys) k (omega (arith, length-append fs xs, p)) (omega (arith, length-append fs ys, q)) (weight_behind fs xs ys k p q h)

weight-joined_to : (b : List ℕ) (cs : List (List ℕ)) → weight (joined_to b cs) ≤ weight (b ∷ cs)
weight-joined_to b [] = omega arith
weight-joined_to b (c ∷ cs) = weight_choice (nat_le (length b + length c) 255) b c cs

some_choice : (t : Bool) (b c : List ℕ) (cs : List (List ℕ)) → 1 ≤ length (if t then (b ++ c) ∷ cs else b ∷ (c ∷ cs))
some_choice true b c cs = omega arith
some_choice false b c cs = omega arith

pub some_joined : (b : List ℕ) (bs cs : List (List ℕ)) → 1 ≤ length (joined (b ∷ bs) cs)
some_joined b [] [] = omega arith
some_joined b [] (c ∷ cs) = some_choice (nat_le (length b + length c) 255) b c cs
some_joined b (d ∷ bs) cs = omega arith

pub weight-joined : (bs cs : List (List ℕ)) → weight (joined bs cs) ≤ weight (bs ++ cs)
weight-joined [] cs = omega arith
weight-joined (b ∷ []) cs = weight-joined_to b cs
weight-joined (b ∷ (d ∷ bs)) cs =
    let rest : weight (joined (d ∷ bs) cs) ≤ weight ((d ∷ bs) ++ cs) + 0 = omega (arith, weight-joined (d ∷ bs) cs) in
    omega (arith, weight_before b ((d ∷ bs) ++ cs) (joined (d ∷ bs) cs) 0 (omega arith) (some_joined d bs cs) rest)

-- a block that has one more
pub weight_put : (b m : List ℕ) (behind : List (List ℕ)) → length m ≡ length b + 1 → weight (m ∷ behind) ≤ weight (b ∷ behind) + 1
weight_put b m [] e = omega (arith, e)
weight_put b m (c ∷ cs) e = omega (arith, e)

-- one that has no more
pub weight_taken : (b m : List ℕ) (behind : List (List ℕ)) → length m ≤ length b → weight (m ∷ behind) ≤ weight (b ∷ behind)
weight_taken b m [] e = omega (arith, e)
weight_taken b m (c ∷ cs) e = omega (arith, e)

-- a full one split into two halves
pub weight_split : (b l r : List ℕ) (behind : List (List ℕ)) → length b ≡ 255 → length l ≡ 128 → length r ≡ 128 → weight (l ∷ (r ∷ behind)) ≤ weight (b ∷ behind) + 1
weight_split b l r [] e f g = omega (arith, e, f, g)
weight_split b l r (c ∷ cs) e f g = omega (arith, e, f, g)

-- a new one behind a full last one
pub weight_next : (b r : List ℕ) → length b ≡ 255 → length r ≡ 1 → weight (b ∷ (r ∷ [])) ≤ weight (b ∷ []) + 1
weight_next b r e f = omega (arith, e, f)

pub weight_least : (bs : List (List ℕ)) → 128 ≤ weight bs
weight_least [] = omega arith
weight_least (b ∷ bs) = omega arith

-- ---- where a block is full and there is room, there is a spare block

some_excess : (b : List ℕ) (bs : List (List ℕ)) → AreShaped (b ∷ bs) → 1 ≤ excess (b ∷ bs)
some_excess b [] s = s.0
some_excess b (c ∷ bs) s = omega (arith, some_excess c bs s.3)

full_first : (b : List ℕ) (bs : List (List ℕ)) → AreShaped (b ∷ bs) → length b ≡ 255 → 128 ≤ excess (b ∷ bs)
full_first b [] s e = omega (arith, e)
full_first b (c ∷ bs) s e = omega (arith, e, some_excess c bs s.3)

full_excess : (front : List (List ℕ)) (b : List ℕ) (behind : List (List ℕ)) → AreShaped (front ++ b ∷ behind) → length b ≡ 255 → 128 ≤ excess (front ++ b ∷ behind)
full_excess [] b behind s e = full_first b behind s e
full_excess (f ∷ []) b behind s e = omega (arith, full_first b behind s.3 e)
full_excess (f ∷ (g ∷ fs)) b behind s e = omega (arith, full_excess (g ∷ fs) b behind s.3 e)

pub spare_where_full : (front : List (List ℕ)) (b : List ℕ) (behind : List (List ℕ)) (s : ℕ) → AreShaped (front ++ b ∷ behind) → length b ≡ 255
    → 0 < room (record { blocks = front ++ b ∷ behind; spares = s }) → 0 < s
unfolding room
spare_where_full front b behind s shaped e some = omega (arith, full_excess front b behind shaped e, some)

pub spare_where_none : (s : ℕ) → 0 < room (record { blocks = []; spares = s }) → 0 < s
unfolding room
spare_where_none s some = omega (arith, some)

-- ---- half of what there is, at the beginning

half_of : (bs : List (List ℕ)) → AreShaped bs → 2 * excess bs ≤ length (flat bs) + 256
half_of [] s = omega arith
half_of (b ∷ []) s = omega (arith, length-append b [], s.1)
half_of (b ∷ (c ∷ bs)) s = omega (arith, length-append b (flat (c ∷ bs)), half_of (c ∷ bs) s.3, s.1)

pub room_of_spares : (bs : List (List ℕ)) (s more : ℕ) → more ≤ s → more ≤ room (record { blocks = bs; spares = s })
unfolding room
room_of_spares bs s more h = omega (arith, h)

pub room_of_halves : (bs : List (List ℕ)) (s more : ℕ) → AreShaped bs → length (flat bs) + 2 * more ≤ 256 * s → more ≤ room (record { blocks = bs; spares = s })
unfolding room
room_of_halves bs s more shaped h = omega (arith, half_of bs shaped, h)

-- so many spare blocks, or half of them where there are many
pub room_of_needed : (bs : List (List ℕ)) (s count more : ℕ) → AreShaped bs → count ≡ length (flat bs) → min more ((count + 2 * more) / 256 + min 1 ((count + 2 * more) % 256)) ≤ s
    → more ≤ room (record { blocks = bs; spares = s })
room_of_needed bs s count more shaped e h = step (cases_lt s more)
  where
    step : (s < more) ⊎ (more ≤ s) → more ≤ room (record { blocks = bs; spares = s })
    step (inr le) = room_of_spares bs s more le
    step (inl lt) =
        let times : (count + 2 * more ≤ ((count + 2 * more) / 256 + min 1 ((count + 2 * more) % 256)) * 256) × (((count + 2 * more) / 256 + min 1 ((count + 2 * more) % 256)) * 256 < count + 2 * more + 256) = div_ceil_times (count + 2 * more) 256 (omega arith) in
        let few : (count + 2 * more) / 256 + min 1 ((count + 2 * more) % 256) ≤ s = omega (arith, h, lt) in
        room_of_halves bs s more shaped (omega (arith, times.0, few, e))

-- more spare blocks
pub room_of_more : (bs cs : List (List ℕ)) (s t : ℕ) → cs ≡ bs → s ≤ t → room (record { blocks = bs; spares = s }) ≤ room (record { blocks = cs; spares = t })
unfolding room
room_of_more bs cs s t e le = omega (arith, le, ap excess e)

-- all blocks made spare ones
pub room_of_all : (bs cs : List (List ℕ)) (s t : ℕ) → cs ≡ [] → t ≡ s + length bs → room (record { blocks = bs; spares = s }) ≤ room (record { blocks = cs; spares = t })
room_of_all bs cs s t none all =
    omega (arith, room_by_weight bs cs s t 0 (omega (arith, ap weight none, weight_least bs)) (omega (arith, all, ap length none)) (omega (arith, all)))
