-- What the code reads at the front of some bytes, as plain data.
use Rattle.std.specs.Prelude.{ℕ, List, Option}
use Rattle.std.specs.Option.{option_map}
use denote.Ref.{Bor}
use Rattle.store_model.specs.log_model.Images.{Read}

-- something, and the bytes behind it
abbrev pub seen : {X : Type 0} → Option (X × Bor (List ℕ)) → Read X
seen = option_map (λ x. (x.0, x.1.now))

-- a piece of the bytes, and those behind it
abbrev pub piece_seen : Option (Bor (List ℕ) × Bor (List ℕ)) → Read (List ℕ)
piece_seen = option_map (λ x. (x.0.now, x.1.now))
