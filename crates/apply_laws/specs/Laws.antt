-- What a source commits, its replica carries out: the group that an entry is read as gives just the base behind the entry.
use Rattle.std.specs.Prelude.{◌≡◌, ℕ, List, Some, Ok}
use Rattle.auto_inc.specs.declared.counters.Counter.{Counter}
use Rattle.port_traits.specs.declared.identity.Identity.{Identity}
use Rattle.port_traits.specs.declared.identity.Draw.{Draw}
use Rattle.statement_names.specs.catalog_rules.Bases.{Base, empty_base}
use Rattle.log_entry_laws.specs.log_entries.declared.entries.Entry.{Entry}
use Rattle.log_entry_laws.specs.log_entries.Entries.{entry_applied}
use Rattle.log_entry_laws.specs.log_model.Log.{LogPlace}
use Rattle.log_entry_laws.specs.Entries.{group_of_entry}
use Rattle.session_replays.specs.session_model.Machine.{Whole, kept_entry}
use Rattle.session_replays.specs.session_model.Holding.{changes_of, define}
use Rattle.apply_model.specs.Groups.{group_carried}
use Rattle.apply_laws.specs.Following.{BaseHolds, CanFollow}

-- What has to hold of bases holds with nothing, and behind each entry.
abbrev pub BasesHold : Type 0
BasesHold =
    BaseHolds empty_base
    × ((e : Entry Whole) (base next : Base) → BaseHolds base → entry_applied changes_of define e base ≡ Some next → BaseHolds next)

-- an entry that can follow, carried out on the base before it, leaves just the base behind it, whoever carries it out, whatever its
-- draw, and whatever counters it has
abbrev pub EntryIsCarried : Type 0
EntryIsCarried =
    (identity : Identity) (draw : Draw) (base next : Base) (counters : List Counter) (e : Entry Whole) (number : ℕ) (p : LogPlace)
    → CanFollow base e number p → entry_applied changes_of define e base ≡ Some next
    → (counters' : List Counter)
    × (group_carried identity draw base counters (group_of_entry (kept_entry e) number p) ≡ Ok (record { base = next; counters = counters' }))
