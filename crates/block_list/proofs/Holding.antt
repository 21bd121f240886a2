-- How many numbers all blocks hold, and the room that is left.
use Rattle.std.proofs.Common.{◌≡◌, ℕ, zero, suc, ◌+◌, ◌-◌, ◌*◌, ◌/◌, ◌%◌, ◌<◌, ◌≤◌, min, List, length, ap, arith}
use Rattle.std.proofs.lemmas.Grind.{div_ceil_times}
use Rattle.block_list.specs.Layouts.{Layout, flat, holds, room, AreShaped}
use Rattle.block_list.proofs.Digits.{few, many}

-- where all blocks are in use, they have as many numbers as they hold
full : (bs : List (List ℕ)) → AreShaped bs → 128 * (length bs - 1) ≤ length (flat bs)
full bs shaped = omega (arith, few bs, many bs shaped)

pub room_left : (bs : List (List ℕ)) (s : ℕ) → AreShaped bs → length (flat bs) < holds (record { blocks = bs; spares = s }) → 0 < room (record { blocks = bs; spares = s })
unfolding room
room_left bs zero shaped less = absurd (omega (arith, full bs shaped, less))
room_left bs (suc s) shaped less = omega arith

-- so many blocks are enough
pub hold_made : (count blocks : ℕ) → count / 128 + min 1 (count % 128) + min count 1 ≤ blocks → count ≤ 128 * (blocks - 1)
hold_made zero blocks enough = omega arith
hold_made (suc n) blocks enough = omega (arith, (div_ceil_times (suc n) 128 (omega arith)).0, enough)

pub holds_by : (l m : Layout) → length l.blocks + l.spares ≡ length m.blocks + m.spares → holds l ≡ holds m
holds_by l m same = ap (λ (n : ℕ). 128 * (n - 1)) same

-- more spare blocks hold no less
pub holds_more : (bs cs : List (List ℕ)) (s t : ℕ) → cs ≡ bs → s ≤ t → holds (record { blocks = bs; spares = s }) ≤ holds (record { blocks = cs; spares = t })
holds_more bs cs s t same more = omega (arith, ap length same, more)
