-- The draws that an environment hands out: in order, and the last one again and again.
use Rattle.std.specs.Prelude.{ℕ, List, [], ◌∷◌, ◌++◌, take, zero, suc}
use Rattle.port_traits.specs.declared.identity.Draw.{Draw}

-- the draws left when the first was handed out: it is taken off, unless it is the last
abbrev pub draws_after : List Draw → List Draw
draws_after [] = []
draws_after (d ∷ []) = d ∷ []
draws_after (d ∷ e ∷ ds) = e ∷ ds

-- the draws left when n were handed out
abbrev pub draws_left : ℕ → List Draw → List Draw
draws_left zero ds = ds
draws_left (suc n) ds = draws_after (draws_left n ds)

-- the first n draws that are handed out
abbrev pub handed_out : ℕ → List Draw → List Draw
handed_out zero ds = []
handed_out (suc n) ds = take 1 ds ++ handed_out n (draws_after ds)
