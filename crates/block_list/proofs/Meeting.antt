-- Where two neighbours fit one block and where they do not, by places in a list of blocks.
use Rattle.std.proofs.Common.{◌≡◌, ℕ, zero, suc, ◌+◌, ◌<◌, ◌≤◌, List, [], ◌∷◌, ◌++◌, length, take, drop, set, get_or, Bool, true, false, refl, sym, ap, ◌∙◌, arith, add-one}
use Rattle.std.specs.Prelude.{nat_le, if◌then◌else◌, remove}
use Rattle.std.proofs.lemmas.Bool.Decides.{nat_tests}
use Rattle.std.proofs.lemmas.List.{take_all, drop_all, get_or_read}
use Rattle.std.proofs.lemmas.List.Edits.{length-remove, get_or-remove_below}
use Rattle.block_list.specs.Spots.{block_at}
use Rattle.block_list.specs.Joining.{joined}

-- the blocks up to a place and those behind it, joined
abbrev pub joined_at : List (List ℕ) → ℕ → List (List ℕ)
joined_at bs i = joined (take (i + 1) bs) (drop (i + 1) bs)

by_next : (bs : List (List ℕ)) (i : ℕ) → joined_at bs i ≡ joined (take (suc i) bs) (drop (suc i) bs)
by_next bs i = ap (λ (n : ℕ). joined (take n bs) (drop n bs)) (add-one i)

joined-nil : (bs : List (List ℕ)) → joined bs [] ≡ bs
joined-nil [] = refl
joined-nil (b ∷ []) = refl
joined-nil (b ∷ (c ∷ bs)) = ap (λ (rest : List (List ℕ)). b ∷ rest) (joined-nil (c ∷ bs))

-- the last block has none behind it
pub alone : (bs : List (List ℕ)) (i : ℕ) → i + 1 ≡ length bs → bs ≡ joined_at bs i
alone bs i e =
    sym (ap (λ (front : List (List ℕ)). joined front (drop (i + 1) bs)) (take_all (i + 1) bs (omega (arith, e)))
    ∙ ap (λ (behind : List (List ℕ)). joined bs behind) (drop_all (i + 1) bs (omega (arith, e)))
    ∙ joined-nil bs)

apart_choice : (t : Bool) (b c : List ℕ) (cs : List (List ℕ)) → nat_le (length b + length c) 255 ≡ t → 255 < length b + length c → (if t then (b ++ c) ∷ cs else b ∷ (c ∷ cs)) ≡ b ∷ (c ∷ cs)
apart_choice true b c cs is more = let le : length b + length c ≤ 255 = grind (arith, nat_tests) in absurd (omega arith)
apart_choice false b c cs is more = refl

apart_next : (bs : List (List ℕ)) (i : ℕ) → suc i < length bs → 255 < length (block_at bs i) + length (block_at bs (suc i)) → joined (take (suc i) bs) (drop (suc i) bs) ≡ bs
apart_next [] i lt more = absurd (omega (arith, lt))
apart_next (b ∷ []) i lt more = absurd (omega (arith, lt))
apart_next (b ∷ (c ∷ cs)) zero lt more = apart_choice (nat_le (length b + length c) 255) b c cs refl more
apart_next (b ∷ (c ∷ cs)) (suc i) lt more = ap (λ (rest : List (List ℕ)). b ∷ rest) (apart_next (c ∷ cs) i (omega (arith, lt)) more)

-- two that do not fit one block stay apart
pub apart : (bs : List (List ℕ)) (i : ℕ) → i + 1 < length bs → 255 < length (block_at bs i) + length (block_at bs (i + 1)) → bs ≡ joined_at bs i
apart bs i lt more =
    let e : i + 1 ≡ suc i = add-one i in
    sym (by_next bs i ∙ apart_next bs i (omega (arith, lt)) (rw e at more))

one_choice : (t : Bool) (b c : List ℕ) (cs : List (List ℕ)) → nat_le (length b + length c) 255 ≡ t → length b + length c ≤ 255 → (if t then (b ++ c) ∷ cs else b ∷ (c ∷ cs)) ≡ (b ++ c) ∷ cs
one_choice true b c cs is few = refl
one_choice false b c cs is few = let lt : 255 < length b + length c = grind (arith, nat_tests) in absurd (omega arith)

one_next : (bs : List (List ℕ)) (i : ℕ) → suc i < length bs → length (block_at bs i) + length (block_at bs (suc i)) ≤ 255
    → joined (take (suc i) bs) (drop (suc i) bs) ≡ set (remove bs (suc i)) i (block_at bs i ++ block_at bs (suc i))
one_next [] i lt few = absurd (omega (arith, lt))
one_next (b ∷ []) i lt few = absurd (omega (arith, lt))
one_next (b ∷ (c ∷ cs)) zero lt few = one_choice (nat_le (length b + length c) 255) b c cs refl few
one_next (b ∷ (c ∷ cs)) (suc i) lt few = ap (λ (rest : List (List ℕ)). b ∷ rest) (one_next (c ∷ cs) i (omega (arith, lt)) few)

-- two that fit become one
pub one : (bs : List (List ℕ)) (i : ℕ) → i + 1 < length bs → length (block_at bs i) + length (block_at bs (i + 1)) ≤ 255
    → set (remove bs (i + 1)) i (block_at bs i ++ block_at bs (i + 1)) ≡ joined_at bs i
one bs i lt few =
    let e : i + 1 ≡ suc i = add-one i in
    sym (by_next bs i ∙ one_next bs i (omega (arith, lt)) (rw e at few) ∙ sym (ap (λ (n : ℕ). set (remove bs n) i (block_at bs i ++ block_at bs n)) e))

-- the same, of blocks that were read
pub apart_read : (bs : List (List ℕ)) (i : ℕ) (b c : List ℕ) → i + 1 < length bs → b ≡ get_or bs i b → c ≡ get_or bs (i + 1) c → 255 < length b + length c → bs ≡ joined_at bs i
apart_read bs i b c lt at_b at_c more =
    let e : b ≡ block_at bs i = get_or_read bs i b (omega (arith, lt)) at_b [] in
    let f : c ≡ block_at bs (i + 1) = get_or_read bs (i + 1) c lt at_c [] in
    apart bs i lt (rw (← e, ← f) more)

pub one_read : (bs : List (List ℕ)) (i : ℕ) (b k c d : List ℕ) (rest : List (List ℕ)) → i + 1 < length bs → b ≡ get_or bs i b → k ≡ get_or bs (i + 1) k → length b + length k ≤ 255
    → c ≡ get_or bs (i + 1) c → rest ≡ remove bs (i + 1) → d ≡ get_or rest i d → set rest i (d ++ c) ≡ joined_at bs i
one_read bs i b k c d rest lt at_b at_k few at_c removed at_d =
    let e : b ≡ block_at bs i = get_or_read bs i b (omega (arith, lt)) at_b [] in
    let h : k ≡ block_at bs (i + 1) = get_or_read bs (i + 1) k lt at_k [] in
    let f : c ≡ block_at bs (i + 1) = get_or_read bs (i + 1) c lt at_c [] in
    let there : i < length rest = omega (arith, ap length removed, length-remove bs (i + 1) lt, lt) in
    let g : d ≡ block_at bs i = get_or_read rest i d there at_d [] ∙ ap (λ (xs : List (List ℕ)). get_or xs i []) removed ∙ get_or-remove_below bs (i + 1) [] i (omega arith) lt in
    ap (λ (xs : List (List ℕ)). set xs i (d ++ c)) removed
    ∙ ap (λ (x : List ℕ). set (remove bs (i + 1)) i (x ++ c)) g
    ∙ ap (λ (x : List ℕ). set (remove bs (i + 1)) i (block_at bs i ++ x)) f
    ∙ one bs i lt (rw (← e, ← h) few)
