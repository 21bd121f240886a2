-- Blocks of a list in parts, and joined again: their numbers and their shape.
use Rattle.std.proofs.Common.{◌≡◌, ℕ, ◌+◌, ◌-◌, ◌<◌, ◌≤◌, List, [], ◌∷◌, ◌++◌, length, take, drop, Bool, true, false, refl, sym, ap, ◌∙◌, arith, length-append, append_assoc, append-nil}
use Rattle.std.specs.Prelude.{nat_le, if◌then◌else◌, insert, remove}
use Rattle.std.proofs.lemmas.Bool.Decides.{nat_tests}
use Rattle.std.proofs.lemmas.List.{drop_more, take-append-drop}
use Rattle.std.proofs.lemmas.List.Edits.{insert-append_left, insert-append_right, remove-append_left, remove-append_right}
use Rattle.block_list.specs.Layouts.{flat, AreShaped}
use Rattle.block_list.specs.Joining.{joined_to, joined}
use Rattle.block_list.specs.Spots.{block_at}

-- ---- the blocks before one, that one, and those behind it

pub parts : (bs : List (List ℕ)) (i : ℕ) → i < length bs → bs ≡ take i bs ++ block_at bs i ∷ drop (i + 1) bs
parts bs i lt = sym (take-append-drop i bs) ∙ ap (λ (rest : List (List ℕ)). take i bs ++ rest) (drop_more bs i [] lt)

pub flat-append : (xs ys : List (List ℕ)) → flat (xs ++ ys) ≡ flat xs ++ flat ys
flat-append [] ys = refl
flat-append (x ∷ xs) ys = ap (λ (rest : List ℕ). x ++ rest) (flat-append xs ys) ∙ sym (append_assoc x (flat xs) (flat ys))

-- a number put into a block is put among all
pub flat_put : (front : List (List ℕ)) (b : List ℕ) (behind : List (List ℕ)) (at number : ℕ) → at ≤ length b
    → flat (front ++ insert b at number ∷ behind) ≡ insert (flat (front ++ b ∷ behind)) (length (flat front) + at) number
flat_put front b behind at number le =
    let here : length (flat front) + at - length (flat front) ≡ at = omega arith in
    flat-append front (insert b at number ∷ behind)
    ∙ ap (λ (rest : List ℕ). flat front ++ rest) (sym (insert-append_left b (flat behind) at number le))
    ∙ ap (λ (i : ℕ). flat front ++ insert (b ++ flat behind) i number) (sym here)
    ∙ sym (insert-append_right (flat front) (b ++ flat behind) (length (flat front)) (length (flat front) + at) number refl (omega arith))
    ∙ ap (λ (all : List ℕ). insert all (length (flat front) + at) number) (sym (flat-append front (b ∷ behind)))

-- a number taken out of a block is taken out of all
pub flat_taken : (front : List (List ℕ)) (b : List ℕ) (behind : List (List ℕ)) (at : ℕ) → at < length b
    → flat (front ++ remove b at ∷ behind) ≡ remove (flat (front ++ b ∷ behind)) (length (flat front) + at)
flat_taken front b behind at lt =
    let here : length (flat front) + at - length (flat front) ≡ at = omega arith in
    flat-append front (remove b at ∷ behind)
    ∙ ap (λ (rest : List ℕ). flat front ++ rest) (sym (remove-append_left b (flat behind) at lt))
    ∙ ap (λ (i : ℕ). flat front ++ remove (b ++ flat behind) i) (sym here)
    ∙ sym (remove-append_right (flat front) (b ++ flat behind) (length (flat front)) (length (flat front) + at) refl (omega arith))
    ∙ ap (λ (all : List ℕ). remove all (length (flat front) + at)) (sym (flat-append front (b ∷ behind)))

-- ---- joined, the numbers are the same

flat_choice : (t : Bool) (b c : List ℕ) (cs : List (List ℕ)) → flat (if t then (b ++ c) ∷ cs else b ∷ (c ∷ cs)) ≡ b ++ (c ++ flat cs)
flat_choice true b c cs = append_assoc b c (flat cs)
flat_choice false b c cs = refl

flat-joined_to : (b : List ℕ) (cs : List (List ℕ)) → flat (joined_to b cs) ≡ b ++ flat cs
flat-joined_to b [] = refl
flat-joined_to b (c ∷ cs) = flat_choice (nat_le (length b + length c) 255) b c cs

pub flat-joined : (bs cs : List (List ℕ)) → flat (joined bs cs) ≡ flat bs ++ flat cs
flat-joined [] cs = refl
flat-joined (b ∷ []) cs = flat-joined_to b cs ∙ ap (λ (front : List ℕ). front ++ flat cs) (sym (append-nil b))
flat-joined (b ∷ (d ∷ bs)) cs = ap (λ (rest : List ℕ). b ++ rest) (flat-joined (d ∷ bs) cs) ∙ sym (append_assoc b (flat (d ∷ bs)) (flat cs))

-- what stands before the blocks that are joined stays
pub joined-append : (front : List (List ℕ)) (b : List ℕ) (bs cs : List (List ℕ)) → joined (front ++ b ∷ bs) cs ≡ front ++ joined (b ∷ bs) cs
joined-append [] b bs cs = refl
joined-append (f ∷ []) b bs cs = refl
joined-append (f ∷ (g ∷ fs)) b bs cs = ap (λ (rest : List (List ℕ)). f ∷ rest) (joined-append (g ∷ fs) b bs cs)

-- ---- the shape of parts, and of what is joined

pub shaped_front : (xs ys : List (List ℕ)) → AreShaped (xs ++ ys) → AreShaped xs
shaped_front [] ys s = tt
shaped_front (x ∷ []) [] s = s
shaped_front (x ∷ []) (y ∷ ys) s = (s.0, s.1)
shaped_front (x ∷ (w ∷ xs)) ys s = (s.0, s.1, s.2, shaped_front (w ∷ xs) ys s.3)

pub shaped_behind : (xs ys : List (List ℕ)) → AreShaped (xs ++ ys) → AreShaped ys
shaped_behind [] ys s = s
shaped_behind (x ∷ []) [] s = tt
shaped_behind (x ∷ []) (y ∷ ys) s = s.3
shaped_behind (x ∷ (w ∷ xs)) ys s = shaped_behind (w ∷ xs) ys s.3

-- the first block has at least so many
abbrev BeginsWith : ℕ → List (List ℕ) → Type 0
BeginsWith n [] = Unit {0}
BeginsWith n (b ∷ bs) = n ≤ length b

shaped_before : (b d : List ℕ) (rest : List (List ℕ)) → 1 ≤ length b → length b ≤ 255 → 256 ≤ length b + length d → BeginsWith (length d) rest → AreShaped rest → AreShaped (b ∷ rest)
shaped_before b d [] some few both least s = (some, few)
shaped_before b d (r ∷ rs) some few both least s = (some, few, omega (arith, both, least), s)

shaped_longer : (m c : List ℕ) (cs : List (List ℕ)) → length c ≤ length m → length m ≤ 255 → AreShaped (c ∷ cs) → AreShaped (m ∷ cs)
shaped_longer m c [] more few s = (omega (arith, s.0, more), few)
shaped_longer m c (d ∷ cs) more few s = (omega (arith, s.0, more), few, omega (arith, s.2, more), s.3)

shaped_choice : (t : Bool) (b c : List ℕ) (cs : List (List ℕ)) → nat_le (length b + length c) 255 ≡ t → 1 ≤ length b → length b ≤ 255 → AreShaped (c ∷ cs)
    → AreShaped (if t then (b ++ c) ∷ cs else b ∷ (c ∷ cs))
shaped_choice true b c cs is some few s =
    let e : length (b ++ c) ≡ length b + length c = length-append b c in
    let le : length b + length c ≤ 255 = grind (arith, nat_tests) in
    shaped_longer (b ++ c) c cs (omega arith) (omega arith) s
shaped_choice false b c cs is some few s =
    let lt : 255 < length b + length c = grind (arith, nat_tests) in
    (some, few, omega arith, s)

shaped_joined_to : (b : List ℕ) (cs : List (List ℕ)) → 1 ≤ length b → length b ≤ 255 → AreShaped cs → AreShaped (joined_to b cs)
shaped_joined_to b [] some few s = (some, few)
shaped_joined_to b (c ∷ cs) some few s = shaped_choice (nat_le (length b + length c) 255) b c cs refl some few s

begins_choice : (t : Bool) (b c : List ℕ) (cs : List (List ℕ)) → BeginsWith (length b) (if t then (b ++ c) ∷ cs else b ∷ (c ∷ cs))
begins_choice true b c cs = omega (arith, length-append b c)
begins_choice false b c cs = omega arith

begins_joined : (b : List ℕ) (bs cs : List (List ℕ)) → BeginsWith (length b) (joined (b ∷ bs) cs)
begins_joined b [] [] = omega arith
begins_joined b [] (c ∷ cs) = begins_choice (nat_le (length b + length c) 255) b c cs
begins_joined b (d ∷ bs) cs = omega arith

pub shaped_joined : (bs cs : List (List ℕ)) → AreShaped bs → AreShaped cs → AreShaped (joined bs cs)
shaped_joined [] cs s t = t
shaped_joined (b ∷ []) cs s t = shaped_joined_to b cs s.0 s.1 t
shaped_joined (b ∷ (d ∷ bs)) cs s t = shaped_before b d (joined (d ∷ bs) cs) s.0 s.1 s.2 (begins_joined d bs cs) (shaped_joined (d ∷ bs) cs s.3 t)

-- a block that has one more
pub shaped_put : (front : List (List ℕ)) (b m : List ℕ) (behind : List (List ℕ)) → length m ≡ length b + 1 → length m ≤ 255 → AreShaped (front ++ b ∷ behind) → AreShaped (front ++ m ∷ behind)
shaped_put [] b m behind e few s = shaped_longer m b behind (omega (arith, e)) few s
shaped_put (f ∷ []) b m behind e few s = (s.0, s.1, omega (arith, s.2, e), shaped_put [] b m behind e few s.3)
shaped_put (f ∷ (g ∷ fs)) b m behind e few s = (s.0, s.1, s.2, shaped_put (g ∷ fs) b m behind e few s.3)

-- a new block behind a full last one
pub shaped_next : (front : List (List ℕ)) (b : List ℕ) (number : ℕ) → length b ≡ 255 → AreShaped (front ++ b ∷ []) → AreShaped (front ++ b ∷ ((number ∷ []) ∷ []))
shaped_next [] b number e s = (s.0, s.1, omega (arith, e), (omega arith, omega arith))
shaped_next (f ∷ []) b number e s = (s.0, s.1, s.2, shaped_next [] b number e s.3)
shaped_next (f ∷ (g ∷ fs)) b number e s = (s.0, s.1, s.2, shaped_next (g ∷ fs) b number e s.3)
