-- Events, one after the other.
use Rattle.std.proofs.Common.{◌≡◌, ◌<◌, List, [], ◌∷◌, Option, Some, None, ap, ◌∙◌, arith, length-drop}
use Rattle.byte_fields.specs.Unroll.{Shrinks}
use Rattle.byte_fields.proofs.Unrolling.{all_some, all_none}
use Rattle.event_codec.specs.Event.{Seen}
use Rattle.event_codec.specs.Reading.{Reading, event, none, Stop, reading, Within}
use Rattle.event_codec.proofs.Lying.{lies_within}
use Rattle.log_model.specs.Events.{Place, Placed, past, stepped, next_event, left, walk, events_from, stop_of, stop_from}

shrinks_by : (p : Place) (r : Reading) → Within p.bytes p.pos r → (x : Placed × Place) → stepped p r ≡ Some x → left x.1 < left p
shrinks_by p (event e) within x is =
    let behind : past e p ≡ x.1 = ap behind_of is in
    rw (← behind) (omega (arith, length-drop e.size p.bytes, within.0, within.1))
  where
    behind_of : Option (Placed × Place) → Place
    behind_of None = p
    behind_of (Some y) = y.1
shrinks_by p (none stop) within x is = cc

events_shrink : Shrinks next_event left
events_shrink p x is = shrinks_by p (reading p.bytes p.pos) (lies_within p.bytes p.pos) x is

-- where an event stands, it is the first, and the others stand behind it
pub events_some : (p : Place) (e : Seen) → reading p.bytes p.pos ≡ event e → events_from p ≡ record { pos = p.pos; event = e } ∷ events_from (past e p)
unfolding walk
events_some p e is =
    let here : next_event p ≡ Some (record { pos = p.pos; event = e }, past e p) = ap (stepped p) is in
    ap (λ (r : List Placed × Place). r.0) (all_some next_event left events_shrink p (record { pos = p.pos; event = e }, past e p) here)

pub stop_some : (p : Place) (e : Seen) → reading p.bytes p.pos ≡ event e → stop_from p ≡ stop_from (past e p)
unfolding walk
stop_some p e is =
    let here : next_event p ≡ Some (record { pos = p.pos; event = e }, past e p) = ap (stepped p) is in
    ap (λ (r : List Placed × Place). stop_of (reading r.1.bytes r.1.pos)) (all_some next_event left events_shrink p (record { pos = p.pos; event = e }, past e p) here)

-- where none stands, there are no others
pub events_none : (p : Place) (stop : Stop) → reading p.bytes p.pos ≡ none stop → events_from p ≡ []
unfolding walk
events_none p stop is = ap (λ (r : List Placed × Place). r.0) (all_none next_event left events_shrink p (ap (stepped p) is))

pub stop_none : (p : Place) (stop : Stop) → reading p.bytes p.pos ≡ none stop → stop_from p ≡ stop
unfolding walk
stop_none p stop is =
    ap (λ (r : List Placed × Place). stop_of (reading r.1.bytes r.1.pos)) (all_none next_event left events_shrink p (ap (stepped p) is))
    ∙ ap stop_of is
