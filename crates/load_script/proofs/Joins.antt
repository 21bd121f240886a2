-- Bytes put one after the other are put as one.
use Rattle.std.proofs.Common.{◌≡◌, ℕ, List, ◌++◌, append_assoc}

pub three : (o a b c : List ℕ) → ((o ++ a) ++ b) ++ c ≡ o ++ ((a ++ b) ++ c)
three o a b c = simp append_assoc

pub five : (o a b c d e : List ℕ) → ((((o ++ a) ++ b) ++ c) ++ d) ++ e ≡ o ++ ((((a ++ b) ++ c) ++ d) ++ e)
five o a b c d e = simp append_assoc

pub seven : (o a b c d e f g : List ℕ) → ((((((o ++ a) ++ b) ++ c) ++ d) ++ e) ++ f) ++ g ≡ o ++ ((((((a ++ b) ++ c) ++ d) ++ e) ++ f) ++ g)
seven o a b c d e f g = simp append_assoc
