-- What a replica makes of what it has fetched: group after group, each whole or not at all.
use Rattle.std.specs.Prelude.{ℕ, zero, suc, ◌+◌, ◌-◌, ◌^◌, min, nat_le, if◌then◌else◌, length, drop, Option, Some, None, Result, Ok, Err}
use Rattle.port_traits.specs.declared.identity.Identity.{Identity}
use Rattle.port_traits.specs.declared.identity.Draw.{Draw}
use Rattle.session_model.specs.log_model.Groups.{Form, start, next_log, ddl, txn, Group, Next, group, not_whole, damaged_at, foreign_at, group_at}
use Rattle.apply_model.specs.Stops.{Differs}
use Rattle.apply_model.specs.Groups.{Applied, group_carried}
use Rattle.replica_model.specs.Replica.{Replica, behind_group, size_of}

-- Where it stops: at an item that has no effect, at bytes that are damaged, or at an event that is not known, each with its place.
pub data Stop : Type 0 where
  differs : Differs → Stop
  damaged : (pos : ℕ) → Stop
  foreign : (pos kind : ℕ) → Stop

-- An APPLY on its way: the replica, how many bytes behind its place the beginnings of logs have that were passed over, how many
-- groups were carried out, and where it stopped, if it did.
pub record Going : Type 0 where
  pub replica : Replica
  pub passed : ℕ
  pub count : ℕ
  pub stop : Option Stop

abbrev pub going_from : Replica → Going
going_from r = record { replica = r; passed = 0; count = 0; stop = None }

-- the bytes that are looked at next, and their position
abbrev pub next_at : Going → Next
next_at a = group_at (record { bytes = drop a.passed a.replica.relay; pos = a.replica.place.pos + a.passed })

-- one more, within 64 bits
abbrev pub one_more : ℕ → ℕ
one_more n = min (n + 1) (2 ^ 64 - 1)

-- the replica behind a group, with what is left of the relay
abbrev pub moved_behind : Group → Going → Replica
moved_behind g a =
    record (a.replica) { place = behind_group a.replica.place g; relay = drop (a.passed + size_of g) a.replica.relay }

-- a group that was carried out
abbrev pub carried_out : Group → Applied → Going → Going
carried_out g applied a = record {
  replica = record (moved_behind g a) { base = applied.base; counters = applied.counters; number = one_more a.replica.number };
  passed = 0;
  count = a.count + 1;
  stop = None;
}

abbrev pub carry : (Going → Going) → Group → Going → Result Applied Differs → Going
carry more g a (Ok applied) = more (carried_out g applied a)
carry more g a (Err stop) = record a { stop = Some (differs stop) }

-- the beginning of a log leaves the place and is passed over; its end leads to the next log; a definition or a transaction is carried
-- out, or stops
abbrev pub by_form : (Going → Going) → Identity → Draw → Group → Going → Form → Going
by_form more identity draw g a start = more (record a { passed = a.passed + size_of g })
by_form more identity draw g a (next_log next) = more (record a { replica = moved_behind g a; passed = 0 })
by_form more identity draw g a (ddl s) = carry more g a (group_carried identity draw a.replica.base a.replica.counters g)
by_form more identity draw g a (txn opening items number) = carry more g a (group_carried identity draw a.replica.base a.replica.counters g)

abbrev pub by_next : (Going → Going) → Identity → Draw → Going → Next → Going
by_next more identity draw a (group g) = by_form more identity draw g a g.form
by_next more identity draw a not_whole = a
by_next more identity draw a (damaged_at p) = record a { stop = Some (damaged p) }
by_next more identity draw a (foreign_at p kind) = record a { stop = Some (foreign p kind) }

-- up to so many groups carried out, of at most so many that are there
abbrev pub go_on : (most : ℕ) → (wanted : ℕ) → Identity → Draw → Going → Going
go_on zero wanted identity draw a = a
go_on (suc most) wanted identity draw a =
    if nat_le wanted a.count then a else by_next (go_on most wanted identity draw) identity draw a (next_at a)

-- APPLY: each group has a byte, so that there are no more groups than bytes
unfoldable pub apply : (wanted : ℕ) → Identity → Draw → Replica → Going
apply wanted identity draw r = go_on (length r.relay) wanted identity draw (going_from r)
