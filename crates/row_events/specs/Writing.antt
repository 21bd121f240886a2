-- Events that are written one after the other, each behind those before it.
use Rattle.std.specs.Prelude.{◌≡◌, ◌≤◌, ℕ, ◌+◌, List, ◌∷◌, [], ◌++◌, length}
use Rattle.byte_fields.specs.Field.{BeginsWith}
use Rattle.event_codec.specs.declared.event.Event.{Event}
use Rattle.event_codec.specs.declared.event.Header.{Header}
use Rattle.event_codec.specs.Event.{Body, body_of}
use Rattle.log_model.specs.Written.{Stamped, bytes_of, total, CanWriteAll}

-- an event alone, at a time
abbrev pub one : (stamp : ℕ) → Event → List Stamped
one stamp e = record { stamp = stamp; body = body_of e } ∷ []

-- events stand behind what was there, and a header moved behind them
pub record Wrote (es : List Stamped) (from to : Header) (old new : List ℕ) : Type 0 where
  pub bytes : new ≡ old ++ bytes_of from.server_id from.pos es
  pub stamp : to.stamp ≡ from.stamp
  pub server : to.server_id ≡ from.server_id
  pub pos : to.pos ≡ from.pos + total es

-- what is left does, from here, what all did from the start
pub record GoesOn (all left : List Stamped) (from here : Header) (start out : List ℕ) : Type 0 where
  pub bytes : out ++ bytes_of here.server_id here.pos left ≡ start ++ bytes_of from.server_id from.pos all
  pub stamp : here.stamp ≡ from.stamp
  pub server : here.server_id ≡ from.server_id
  pub pos : here.pos + total left ≡ from.pos + total all
  pub can : CanWriteAll here.pos left
  pub front : BeginsWith out start
  pub long : length start ≤ length out
