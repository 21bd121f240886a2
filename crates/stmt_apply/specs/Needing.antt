-- What stands in the log before a text for it.
use Rattle.std.specs.Prelude.{◌≤◌, [], Option, None, IfSome}
use Rattle.event_codec.specs.declared.event.Step.{Step}
use Rattle.event_codec.specs.Event.{Body, query, rotate, int_var, rand, user_var, format_description, xid, table_map, rows}
use Rattle.log_groups.specs.log_entries.declared.carried.Carried.{Carried}
use Rattle.apply_model.specs.Texts.{Needs}

-- nothing stands there
abbrev pub no_text : Carried
no_text = record { stamp = 0; connection = 0; inc = 1; off = 1; last_id = None; first = None; seeds = None; vars = [] }

-- the variables of a text among what it carries
abbrev pub needs_of : Carried → Needs
needs_of c = record { last_id = c.last_id; first = c.first; seeds = c.seeds; vars = c.vars }

-- increment and offset count from 1 on
abbrev pub Counts : Option Step → Type 0
Counts step = IfSome step (λ s. (1 ≤ s.increment) × (1 ≤ s.offset))

-- the numbers of an event are such as a context may have: LAST_INSERT_ID and INSERT_ID are BIGINTs
abbrev pub MayStand : Body → Type 0
MayStand (query q) = Counts q.step
MayStand (rotate next) = Unit {0}
MayStand (int_var kind number) = number ≤ 9223372036854775807
MayStand (rand first second) = Unit {0}
MayStand (user_var name content) = Unit {0}
MayStand (format_description version) = Unit {0}
MayStand (xid number) = Unit {0}
MayStand (table_map m) = Unit {0}
MayStand (rows r) = Unit {0}
