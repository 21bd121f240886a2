-- What holds of every run: committed statements, run one transaction after the other, give just the changes of the entries, and their
-- texts are read as these statements.
use Rattle.std.specs.Prelude.{ℕ, ◌≤◌, ◌<◌, List, [], length, None, slice_index_or}
use Rattle.hex.specs.Hex.{IsBytes}
use Rattle.auto_inc.specs.declared.counters.Counter.{Counter}
use Rattle.port_traits.specs.declared.identity.Identity.{Identity}
use Rattle.port_traits.specs.declared.identity.Draw.{Draw}
use Rattle.session_model.specs.binlog_sizes.Sizes.{most_text}
use Rattle.session_model.specs.Running.{items_of}
use Rattle.session_model.specs.Machine.{whole, Machine, machine_after, first_state, opened, step}
use Rattle.session_model.specs.Holding.{Beginning, with_nothing, Holds, transaction_of}
use Rattle.session_model.specs.Openings.{opened_from, restarted}
use Rattle.session_replays.specs.Again.{AllGive, EntriesGive}
use Rattle.session_replays.specs.Bodies.{BodiesAreWell, AreWellDefined}
use Rattle.session_replays.specs.Sizes.{ProceduresHaveSizes}
use Rattle.session_replays.specs.Texts.{AllSay, EntriesSay}

-- A run that began so, with procedures whose types have sizes that there are, and with bodies that the parser can give: its entries can
-- be made (`Holds`), their transactions give their changes, and so do the items of each open transaction on the committed base; its
-- definitions are statements that the parser can give, and its items, those of open transactions too, say themselves.
pub record Replays (from : Beginning) (m : Machine) : Type 0 where
  pub holds : Holds from m
  pub sizes : ProceduresHaveSizes from.base.catalog
  pub bodies : BodiesAreWell from.base.catalog
  pub history : EntriesGive from.base m.history
  pub open_ones : (n : ℕ) → AllGive m.state.shared.base [] (items_of (transaction_of (slice_index_or m.state.sessions n None)))
  pub well : AreWellDefined m.history
  pub says : EntriesSay m.history
  pub open_say : (n : ℕ) → AllSay (items_of (transaction_of (slice_index_or m.state.sessions n None)))

abbrev pub ReplaysBegin : Type 0
ReplaysBegin =
    (from : Beginning) (counters : List Counter) → ProceduresHaveSizes from.base.catalog → BodiesAreWell from.base.catalog
    → Replays from (record { state = first_state from.base counters from.committed from.place; history = [] })

-- a source that begins without a store
abbrev pub ReplaysOpen : Type 0
ReplaysOpen = (identity : Identity) (draw : Draw) → Replays with_nothing (opened identity draw)

-- each step keeps it, whatever the command, where its text is of bytes
abbrev pub ReplaysGoOn : Type 0
ReplaysGoOn =
    (from : Beginning) (m : Machine) (identity : Identity) (n : ℕ) (text : List ℕ) (draw : Draw) → Replays from m → n < length m.state.sessions
    → length text ≤ most_text → IsBytes text → Replays from (machine_after m (step whole identity m.state n text draw))

-- a source that opens on what its store has
abbrev pub OpeningsReplay : Type 0
OpeningsReplay =
    (identity : Identity) (draw : Draw) (from : Beginning) → ProceduresHaveSizes from.base.catalog → BodiesAreWell from.base.catalog
    → Replays from (opened_from identity draw from)

-- and behind a RESTART
abbrev pub RestartsReplay : Type 0
RestartsReplay = (identity : Identity) (draw : Draw) (from : Beginning) (m : Machine) → Replays from m → Replays from (restarted identity draw m)
