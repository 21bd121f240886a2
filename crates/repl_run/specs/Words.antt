-- The word that asks for the source's log.
use Rattle.std.specs.Prelude.{ℕ, Bool, false, List, [], ◌∷◌, codes}
use Rattle.std.specs.Str.{bytes_eq}

-- the one word `log`
abbrev pub asks_log : List (List ℕ) → Bool
asks_log [] = false
asks_log (word ∷ []) = bytes_eq word (codes "log")
asks_log (a ∷ b ∷ words) = false
