-- A run begins with a replica's store behind its source's, and ends so.
use Rattle.std.specs.Prelude.{◌≡◌, ◌<◌, ◌^◌, List, []}
use Rattle.port_traits.specs.declared.identity.Draw.{Draw}
use Rattle.store_model.specs.Held.{Held, nothing_held}
use Rattle.durable_runs.specs.Behind.{nothing_stored}
use Rattle.durable_runs.specs.Sources.{Stored}
use Rattle.run_laws.specs.log_entries.declared.entries.Entry.{Entry}
use Rattle.run_laws.specs.session_model.Machine.{Whole}
use Rattle.run_laws.specs.session_replays.Followed.{EntriesFollow}
use Rattle.run_laws.specs.run_model.Run.{Names, Both, Starts}
use Rattle.run_laws.specs.run_model.Following.{Follows}
use Rattle.run_laws.specs.Laws.{IsSound, behind_head}
use Rattle.run_laws.specs.Openings.{Begins, Opens}
use Rattle.run_stores.specs.Standing.{HasOneLog, CanBegin, StandAt, StandFor}

-- ---- where a run begins

-- Where two stores stand and what is owed between them, as a run begins; the head of a log that was not read is among it.
pub record StartsAt (source : Stored) (replica : Held) (owed : List (Entry Whole)) : Type 0 where
  pub from : Starts
  pub begins : Begins from
  pub stand : StandAt source replica from
  pub owes : behind_head from.owed ≡ owed

-- stores that have nothing let a run begin
abbrev pub NothingBegins : Type 0
NothingBegins = CanBegin nothing_stored nothing_held []

-- stores that let a run begin stand where one may begin
abbrev pub StoresBegin : Type 0
StoresBegin = (source : Stored) (replica : Held) (owed : List (Entry Whole)) → CanBegin source replica owed → StartsAt source replica owed

-- and there both open: the replica follows, of which nothing is carried out yet, and its source is sound
abbrev pub StoresOpen : Type 0
StoresOpen =
    (names : Names) (src : Draw) (source : Stored) (replica : Held) (owed : List (Entry Whole)) → src.now < 2 ^ 32 → CanBegin source replica owed
    → (s : StartsAt source replica owed) × Opens names src s.from

-- ---- where it ends

-- stores that stand where a run may begin let it
abbrev pub StoresLetBegin : Type 0
StoresLetBegin = (source : Stored) (replica : Held) (from : Starts) → Begins from → StandAt source replica from → HasOneLog source → CanBegin source replica (behind_head from.owed)

-- A run that began so ends so: what stands in both stores then lets the next one begin, and the replica owes what it has not carried out.
-- Each item that it has carried out does the same at every replica, and the source counts within 64 bits.
abbrev pub RunsEndBehind : Type 0
RunsEndBehind =
    (names : Names) (b : Both) (f : Follows names b) (source : Stored) (replica : Held) → Begins b.from → IsSound b.from b.machine
    → b.machine.state.shared.committed < 2 ^ 64 → EntriesFollow f.carried → StandFor source replica b → HasOneLog source → CanBegin source replica f.more
