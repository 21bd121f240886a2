-- The ends of a source's logs, as the code has them.
use Rattle.std.specs.Prelude.{ℕ, List, map, Option}
use Rattle.std.specs.Option.{option_map}
use denote.Ref.{Bor}
use Rattle.store_model.specs.log_model.Images.{Read}
use Rattle.store_model.specs.Held.{LogEnd}

-- a log ends at a place
abbrev pub end_at : ℕ → LogEnd
end_at pos = record { pos = pos }

-- logs end at places, from the first log on
abbrev pub ends_at : List ℕ → List LogEnd
ends_at places = map end_at places

-- these ends, and the bytes behind them, as plain data
abbrev pub ends_seen : Option (List ℕ × Bor (List ℕ)) → Read (List LogEnd)
ends_seen = option_map (λ x. (ends_at x.0, x.1.now))
