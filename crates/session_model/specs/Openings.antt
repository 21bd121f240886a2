-- A source that opens, at the start of a run or by RESTART: it stands where its store does, has no session, and begins its first log
-- where there is none.
use Rattle.std.specs.Prelude.{◌≡◌, ℕ, ◌==◌, if◌then◌else◌, List, [], ◌∷◌, ◌++◌, map}
use Rattle.port_traits.specs.declared.identity.Identity.{Identity}
use Rattle.port_traits.specs.declared.identity.Draw.{Draw}
use Rattle.binlog_sizes.specs.log_entries.declared.entries.Entry.{Entry}
use Rattle.binlog_sizes.specs.log_entries.declared.entries.Entry.TheVariants.{LogStart}
use Rattle.binlog_sizes.specs.log_model.Log.{LogPlace, counted_all, written_to}
use Rattle.proc_model.specs.sql_reach.Defining.{counters_begun}
use Rattle.session_model.specs.Machine.{Whole, kept_entry, Machine, first_state, opened}
use Rattle.session_model.specs.Holding.{Beginning, Holds, with_nothing}

-- ---- opening

-- what opening puts out, at its draw: the head of the first log, where there is no log
abbrev pub opening_entries : Identity → Draw → LogPlace → List (Entry Whole)
opening_entries identity draw place = if place.log == 0 then LogStart draw.now identity.server_id ∷ [] else []

-- a source without a session that has put out some entries
abbrev pub begun_by : Beginning → List (Entry Whole) → Machine
begun_by from es = record {
  state = first_state from.base (counters_begun from.base) (counted_all (map kept_entry es) from.committed) (written_to (map kept_entry es) from.committed from.place);
  history = es;
}

-- a source that opens on what its store has, with counters behind the rows
abbrev pub opened_from : Identity → Draw → Beginning → Machine
opened_from identity draw from = begun_by from (opening_entries identity draw from.place)

-- ---- RESTART

-- what a source has committed, as its store has it
abbrev pub committed_in : Machine → Beginning
committed_in m = record { base = m.state.shared.base; committed = m.state.shared.committed; place = m.state.shared.place }

-- RESTART: sessions and open transactions are gone, and the source opens on what it has committed
abbrev pub restarted : Identity → Draw → Machine → Machine
restarted identity draw m =
    let again : Machine = opened_from identity draw (committed_in m) in
    record { state = again.state; history = m.history ++ again.history }

-- ---- laws

-- opening on nothing is the opening of a source without a store
abbrev pub OpensWithNothing : Type 0
OpensWithNothing = (identity : Identity) (draw : Draw) → opened_from identity draw with_nothing ≡ opened identity draw

-- what holds of every run holds where a source opens
abbrev pub OpeningsHold : Type 0
OpeningsHold = (identity : Identity) (draw : Draw) (from : Beginning) → Holds from (opened_from identity draw from)

-- and goes on holding behind a RESTART
abbrev pub RestartsHold : Type 0
RestartsHold = (identity : Identity) (draw : Draw) (from : Beginning) (m : Machine) → Holds from m → Holds from (restarted identity draw m)
