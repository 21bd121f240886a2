-- Two ways to part the same list.
use Rattle.std.proofs.Common.{◌≡◌, ◌≤◌, List, [], ◌∷◌, ◌++◌, length, refl, ap, ◌∙◌, arith}

-- the longer front begins with the shorter one
pub parted : {X : Type 0} → (a b c d : List X) → a ++ b ≡ c ++ d → length c ≤ length a → (more : List X) × ((a ≡ c ++ more) × (more ++ b ≡ d))
parted a b [] d same le = (a, (refl, same))
parted [] b (y ∷ c) d same le = absurd (omega arith)
parted {X} (x ∷ a) b (y ∷ c) d same le =
    let head : x ≡ y = cc in
    let tail : a ++ b ≡ c ++ d = cc in
    let r = parted a b c d tail (omega arith) in
    (r.0, (ap (λ (z : X). z ∷ a) head ∙ ap (λ (zs : List X). y ∷ zs) r.1.0, r.1.1))
