-- How many bytes events have, at most the greatest number of 64 bits.
use Rattle.std.specs.Prelude.{ℕ, ◌-◌, ◌^◌, min, List}
use Rattle.event_codec.specs.Event.{Body}
use Rattle.log_model.specs.Items.{at_time}
use Rattle.log_model.specs.Written.{total}

-- a number, or the greatest of 64 bits
abbrev pub bounded : ℕ → ℕ
bounded n = min n (2 ^ 64 - 1)

-- how many bytes events have, at whatever time
abbrev pub sizes : List Body → ℕ
sizes bs = total (at_time 0 bs)
