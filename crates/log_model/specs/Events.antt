-- The events at the front of some bytes of a log, one after the other, and why no other follows.
use Rattle.std.specs.Prelude.{◌≡◌, ℕ, ◌+◌, List, [], ◌∷◌, length, drop, Option, Some, None}
use Rattle.byte_fields.specs.Unroll.{all_from}
use Rattle.event_codec.specs.Event.{Seen}
use Rattle.event_codec.specs.Reading.{Reading, event, none, Stop, short, reading}

-- some bytes of a log, from a place on
pub record Place : Type 0 where
  pub bytes : List ℕ
  pub pos : ℕ

-- an event and its place
pub record Placed : Type 0 where
  pub pos : ℕ
  pub event : Seen

-- behind an event
abbrev pub past : Seen → Place → Place
past e p = record { bytes = drop e.size p.bytes; pos = p.pos + e.size }

-- an event that is read, with its place, and what is behind it
abbrev pub stepped : Place → Reading → Option (Placed × Place)
stepped p (event e) = Some (record { pos = p.pos; event = e }, past e p)
stepped p (none stop) = None

abbrev pub next_event : Place → Option (Placed × Place)
next_event p = stepped p (reading p.bytes p.pos)

-- how many bytes are left
abbrev pub left : Place → ℕ
left p = length p.bytes

unfoldable pub walk : Place → List Placed × Place
walk p = all_from next_event left p

-- the whole events at the front
abbrev pub events_from : Place → List Placed
events_from p = (walk p).0

abbrev pub stop_of : Reading → Stop
stop_of (event e) = short 0
stop_of (none stop) = stop

-- why no event follows them
abbrev pub stop_from : Place → Stop
stop_from p = stop_of (reading (walk p).1.bytes (walk p).1.pos)

-- where an event stands, it is the first, and the others stand behind it
abbrev pub EventsGoOn : Type 0
EventsGoOn = (p : Place) (e : Seen) → reading p.bytes p.pos ≡ event e
    → (events_from p ≡ record { pos = p.pos; event = e } ∷ events_from (past e p)) × (stop_from p ≡ stop_from (past e p))

-- where none stands, there are no others
abbrev pub EventsEnd : Type 0
EventsEnd = (p : Place) (stop : Stop) → reading p.bytes p.pos ≡ none stop → (events_from p ≡ []) × (stop_from p ≡ stop)
