-- Sets of kinds of tokens, as lists of numbers, and the kinds of the tokens that come next.
use Rattle.std.specs.Prelude.{ℕ, Bool, true, false, not, ◌&&◌, ◌||◌, ◌==◌, List, [], ◌∷◌}

-- a kind is in a set
abbrev pub member : ℕ → List ℕ → Bool
member k [] = false
member k (n ∷ set) = k == n || member k set

-- each kind of one set is in another
abbrev pub within : List ℕ → List ℕ → Bool
within [] other = true
within (k ∷ set) other = member k other && within set other

-- no kind of one set is in another
abbrev pub apart : List ℕ → List ℕ → Bool
apart [] other = true
apart (k ∷ set) other = not (member k other) && apart set other

-- the next token is of a kind in the set
abbrev pub next_in : {T : Type 0} → (T → ℕ) → List ℕ → List T → Bool
next_in kind set [] = false
next_in kind set (t ∷ ts) = member (kind t) set

-- the next token is of a kind in one set, and the one behind it of a kind in another
abbrev pub next_two_in : {T : Type 0} → (T → ℕ) → List ℕ → List ℕ → List T → Bool
next_two_in kind set other [] = false
next_two_in kind set other (t ∷ ts) = member (kind t) set && next_in kind other ts
