-- Lines put together piece by piece.
use Rattle.std.proofs.Common.{◌≡◌, ℕ, List, ◌++◌, append_assoc, refl}

pub differs_joined : (text t1 t2 a place b code c name d key e : List ℕ) → t1 ≡ text ++ a ++ place → t2 ≡ t1 ++ b ++ code
    → t2 ++ c ++ name ++ d ++ key ++ e ≡ text ++ (a ++ place ++ b ++ code ++ c ++ name ++ d ++ key ++ e)
differs_joined text t1 t2 a place b code c name d key e one two = rw (two, one) (simp append_assoc refl)

pub applied_joined : (number s word count log o pos stop end t1 t2 t3 t4 t5 : List ℕ) → t1 ≡ number ++ s ++ word ++ count → t2 ≡ t1 ++ s ++ log → t3 ≡ t2 ++ o ++ pos → t4 ≡ t3 ++ stop
    → t5 ≡ t4 ++ end → t5 ≡ number ++ s ++ (word ++ count ++ s ++ log ++ o ++ pos ++ stop) ++ end
applied_joined number s word count log o pos stop end t1 t2 t3 t4 t5 one two three four five = rw (five, four, three, two, one) (simp append_assoc refl)
