-- What a replica keeps: its base and counters, how many transactions it has carried out, its place in the source's log, and what it
-- has fetched from there on.
use Rattle.std.specs.Prelude.{ℕ, zero, suc, ◌-◌, List, [], ◌++◌, length, drop}
use Rattle.auto_inc.specs.declared.counters.Counter.{Counter}
use Rattle.log_file_model.specs.catalog_rules.Bases.{Base, empty_base}
use Rattle.apply_model.specs.sql_reach.Defining.{counters_begun}
use Rattle.session_model.specs.log_model.Groups.{Form, start, next_log, ddl, txn, Group, Next, group, not_whole, damaged_at, foreign_at, group_at}
use Rattle.session_model.specs.log_model.Log.{LogPlace, moved}

-- The applied place is behind the last transaction, definition or end of a log that was passed; the relay has the bytes of the log
-- behind it.
pub record Replica : Type 0 where
  pub base : Base
  pub counters : List Counter
  pub number : ℕ
  pub place : LogPlace
  pub relay : List ℕ

-- where a log begins, behind its magic
abbrev pub log_begin : ℕ → LogPlace
log_begin n = record { log = n; pos = 4 }

-- nothing was fetched and nothing carried out
abbrev pub first_replica : Replica
first_replica = record { base = empty_base; counters = []; number = 0; place = log_begin 1; relay = [] }

-- ---- opening

-- A replica that opens where its store stands: base, number and place are there, its counters begin behind the rows, and nothing is
-- fetched.
abbrev pub replica_from : Base → (number : ℕ) → LogPlace → Replica
replica_from base number place = record { base = base; counters = counters_begun base; number = number; place = place; relay = [] }

-- RESTART: it opens on what it has carried out
abbrev pub reopened : Replica → Replica
reopened r = replica_from r.base r.number r.place

-- ---- what was fetched

-- behind a group: the end of a log leads to the next one
abbrev pub behind_form : LogPlace → (end : ℕ) → Form → LogPlace
behind_form place end start = record { log = place.log; pos = end }
behind_form place end (next_log next) = log_begin next
behind_form place end (ddl s) = record { log = place.log; pos = end }
behind_form place end (txn opening items number) = record { log = place.log; pos = end }

abbrev pub behind_group : LogPlace → Group → LogPlace
behind_group place g = behind_form place g.end g.form

-- how many bytes a group has
abbrev pub size_of : Group → ℕ
size_of g = g.end - g.begin

-- where some bytes of logs end that stand from a place on: whole groups, then bytes of one more; each group has a byte, so that
-- there are no more of them than bytes
abbrev pub past_next : (LogPlace → List ℕ → LogPlace) → LogPlace → List ℕ → Next → LogPlace
past_next more place bytes (group g) = more (behind_group place g) (drop (size_of g) bytes)
past_next more place bytes not_whole = moved place (length bytes)
past_next more place bytes (damaged_at p) = moved place (length bytes)
past_next more place bytes (foreign_at p kind) = moved place (length bytes)

abbrev pub past_groups : (most : ℕ) → LogPlace → List ℕ → LogPlace
past_groups zero place bytes = moved place (length bytes)
past_groups (suc most) place bytes = past_next (past_groups most) place bytes (group_at (record { bytes = bytes; pos = place.pos }))

-- the place from which a replica fetches
unfoldable pub want : Replica → LogPlace
want r = past_groups (length r.relay) r.place r.relay

-- a piece of the log put behind what was fetched before
abbrev pub fetched : List ℕ → Replica → Replica
fetched piece r = record r { relay = r.relay ++ piece }
