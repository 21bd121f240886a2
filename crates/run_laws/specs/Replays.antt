-- A source's whole log: it is the groups of its entries, and a replica that has nothing makes the source's base of it.
use Rattle.std.specs.Prelude.{◌≡◌, ℕ, List, ◌∷◌, map, None}
use Rattle.port_traits.specs.declared.identity.Identity.{Identity}
use Rattle.port_traits.specs.declared.identity.Draw.{Draw}
use Rattle.apply_laws.specs.log_entries.declared.entries.Entry.{Entry}
use Rattle.apply_laws.specs.log_entries.declared.entries.Entry.TheVariants.{LogStart}
use Rattle.apply_laws.specs.log_model.Groups.{Group}
use Rattle.apply_laws.specs.log_entry_laws.Entries.{CanLogAll, start_group}
use Rattle.run_model.specs.log_file_model.Walk.{ended, grouped, Piece}
use Rattle.apply_laws.specs.session_model.Machine.{Machine, Whole, first_place, kept_entry, log_of, nowhere}
use Rattle.apply_laws.specs.session_model.Holding.{with_nothing}
use Rattle.apply_laws.specs.session_replays.Followed.{EntriesFollow}
use Rattle.apply_laws.specs.session_replays.Replaying.{Replays}
use Rattle.run_model.specs.replica_model.Replaying.{replayed}
use Rattle.run_model.specs.Following.{AreCommitted, groups_of}

-- A source that began its log and has put out these transactions and definitions, of which each can be read again from the log.
pub record HasLogged (m : Machine) (stamp server : ℕ) (committed : List (Entry Whole)) : Type 0 where
  pub history : m.history ≡ LogStart stamp server ∷ committed
  pub are : AreCommitted committed
  pub can : CanLogAll (map kept_entry m.history) 0 nowhere

-- ---- a log is its entries

abbrev pub groups_in : List Piece → List Group
groups_in ps = map (λ (p : Piece). p.group) ps

-- The log of such a source, read from its bytes alone, is the start of a log and then just the groups of its entries, each once and in
-- their order; and there it ends.
abbrev pub LogIsItsEntries : Type 0
LogIsItsEntries =
    (m : Machine) (stamp server : ℕ) (committed : List (Entry Whole)) → HasLogged m stamp server committed
    → (groups_in (grouped (log_of m)).pieces ≡ start_group ∷ groups_of (map kept_entry committed) 0 first_place)
    × ((grouped (log_of m)).ending ≡ ended)

-- ---- its replay

-- Where each item of it does the same at every replica, a replica that has nothing, whoever it is and whatever its draw, carries out
-- the log to its end, and then has the source's committed base: the same objects in the same order, with equal rows.
abbrev pub ReplayIsEqual : Type 0
ReplayIsEqual =
    (identity : Identity) (draw : Draw) (m : Machine) (stamp server : ℕ) (committed : List (Entry Whole)) → HasLogged m stamp server committed
    → Replays with_nothing m → EntriesFollow m.history
    → ((replayed identity draw (log_of m)).stop ≡ None) × ((replayed identity draw (log_of m)).base ≡ m.state.shared.base)
