-- What a caller is told of a statement, and what is left to its command.
use Rattle.std.specs.Prelude.{◌≡◌, ◌≤◌, None}
use Rattle.sql_reach.specs.sql_meaning.Changing.{Did}
use Rattle.sql_reach.specs.sql_meaning.Running.{most_nested, most_turns}
use Rattle.prog_work.specs.declared.meter.Meter.{Meter}
use Rattle.prog_work.specs.declared.meter.Outcome.{Outcome}

-- what a caller is told of what a statement came to
abbrev pub outcome_of : Did → Outcome
outcome_of did = record { affected = did.affected; rows = did.shown; first = did.first }

abbrev pub outcome_of_none : Outcome
outcome_of_none = record { affected = 0; rows = None; first = None }

-- what is left to a command at its beginning
abbrev pub full_meter : Meter
full_meter = record { depth = most_nested; turns = most_turns; uuids = 0 }

-- as many programs may run one inside the other as before, and no turn came back
pub record Spends (before after : Meter) : Type 0 where
  pub depth : after.depth ≡ before.depth
  pub turns : after.turns ≤ before.turns
