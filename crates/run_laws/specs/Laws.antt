-- What holds of every run: the replica follows its source, and no APPLY stops as long as each item that it comes to does the same at
-- every replica.
--
-- What equals what. Both nodes began with nothing, or with what each had, where the replica owed some entries. It has carried out the
-- first of these and of those that the source has committed since, each just once and in their order, and its place is behind the last
-- of them. Its base and counters are what the definition of an applier makes of their groups. Where each item of these does the same at
-- every replica, its base is also what they make of the one that it began with: the same objects in the same order, with equal rows. So
-- once it has carried out all that was committed, its base is the source's committed one.
--
-- An item does the same at every replica where it is logged by its rows, or where it is not warned, or warned because of RAND() alone
-- (`UnwarnedFollow` of session_replays). Under MIXED and ROW no item is warned.
use Rattle.std.specs.Prelude.{◌≡◌, ◌≤◌, ◌^◌, ℕ, suc, ◌+◌, ◌-◌, Bool, true, false, List, [], ◌∷◌, ◌++◌, map, take, drop, Option, Some, None}
use Rattle.port_traits.specs.declared.identity.Draw.{Draw}
use Rattle.apply_laws.specs.log_entry_laws.Entries.{CanLogAll}
use Rattle.apply_laws.specs.log_entries.declared.entries.Entry.{Entry}
use Rattle.apply_laws.specs.log_entries.declared.entries.Entry.TheVariants.{Transaction, Definition, LogStart}
use Rattle.apply_laws.specs.log_entries.Entries.{after}
use Rattle.apply_laws.specs.Following.{BaseHolds}
use Rattle.apply_laws.specs.session_model.Formats.{warns}
use Rattle.apply_laws.specs.session_model.declared.format.Format.{Format}
use Rattle.apply_laws.specs.session_model.declared.format.Format.TheVariants.{Statement, Mixed, Row}
use Rattle.apply_laws.specs.session_model.Machine.{Machine, Whole, whole, step, kept_entry}
use Rattle.apply_laws.specs.session_model.Holding.{AreIn, EntriesIn, EntriesMade, changes_of, define, format_of, is_warned, reasons_of, session_at}
use Rattle.apply_laws.specs.session_replays.Again.{EntriesGive}
use Rattle.apply_laws.specs.session_replays.Texts.{EntriesSay}
use Rattle.apply_laws.specs.session_replays.Followed.{EntriesFollow}
use Rattle.apply_laws.specs.session_replays.Replaying.{Replays}
use Rattle.run_model.specs.replica_model.Applying.{Going, Stop, differs, damaged, foreign, apply, go_on, going_from}
use Rattle.run_model.specs.Asked.{Asked, say, select, take_bytes, take_groups, checkpoint_source, checkpoint_replica, restart_source, restart_replica}
use Rattle.run_model.specs.Run.{Names, Both, Starts, carried_in, from_nothing, number_before, place_before, source_from, log_with, Told, answered, got, went, applied, first_both, next, end_of}
use Rattle.run_model.specs.Following.{AreCommitted, Follows, head_entries, reader_from}

-- ---- one command

-- What is owed is as the history of a run is: its entries were made, give their changes and say what they are, and lead from the
-- replica's base to the source's; and the replica stands where its reading has come to.
pub record IsBehind (from : Starts) : Type 0 where
  pub holds : BaseHolds from.replica.base
  pub made : EntriesMade from.owed
  pub give : EntriesGive from.replica.base from.owed
  pub say : EntriesSay from.owed
  pub makes : after changes_of define from.owed from.replica.base ≡ Some from.base
  pub place : from.replica.place ≡ reader_from from.read
  pub number : from.replica.number ≤ 2 ^ 64 - 1

-- A source whose committed statements give what it committed, and can be read again from its log, before which a replica may owe some.
pub record IsSound (from : Starts) (m : Machine) : Type 0 where
  pub behind : IsBehind from
  pub replays : Replays (source_from from) m
  pub logs : CanLogAll (map kept_entry (from.owed ++ m.history)) (number_before from.read) (place_before from.read)

-- where neither has anything nothing is owed
abbrev pub NothingIsOwed : Type 0
NothingIsOwed = IsBehind from_nothing

-- a replica that has carried out nothing since both began follows its source, if what it has fetched is what the log has there
abbrev pub FollowsBegins : Type 0
FollowsBegins =
    (names : Names) (b : Both) (stamp server : ℕ) (es : List (Entry Whole)) (rest : List ℕ) → IsBehind b.from → b.replica ≡ b.from.replica → b.steps ≡ []
    → b.from.owed ++ b.machine.history ≡ head_entries b.from.read stamp server ++ es → AreCommitted es
    → b.replica.relay ++ rest ≡ drop b.replica.place.pos (log_with b.from b.machine) → Follows names b

-- so does one that has nothing where its source has just begun its log
abbrev pub FollowsOpened : Type 0
FollowsOpened = (names : Names) (src : Draw) → Follows names (first_both names src)

-- it follows behind each command, however FETCH cuts the log, wherever one of both opens again, and whatever its draws are
abbrev pub FollowsGoOn : Type 0
FollowsGoOn = (names : Names) (b : Both) (c : Asked) (draw : Draw) → Follows names b → IsSound b.from b.machine → Follows names (next names b c draw).both

-- so it does behind each step of an APPLY, with what the steps until then carried out
abbrev pub FollowsOnTheWay : Type 0
FollowsOnTheWay =
    (names : Names) (b : Both) (draw : Draw) (steps wanted : ℕ) → Follows names b → IsSound b.from b.machine
    → Follows names (applied b draw (go_on steps wanted names.replica draw (going_from b.replica))).both

-- entries behind the head of a log
abbrev pub behind_head : List (Entry Whole) → List (Entry Whole)
behind_head [] = []
behind_head (LogStart stamp server ∷ es) = es
behind_head (Transaction stamp server items ∷ es) = Transaction stamp server items ∷ es
behind_head (Definition stamp server item ∷ es) = Definition stamp server item ∷ es

-- the entries that an APPLY comes to: those that were carried out before it, those that it carries out, and the next one
abbrev pub come_to : Both → Going → List (Entry Whole)
come_to b a = take (suc (carried_in b.steps + a.count)) (behind_head (b.from.owed ++ b.machine.history))

-- it does not stop where each item of these does the same at every replica
abbrev pub NoApplyStops : Type 0
NoApplyStops =
    (names : Names) (draw : Draw) (wanted : ℕ) (b : Both) → Follows names b → IsSound b.from b.machine
    → EntriesFollow (come_to b (apply wanted names.replica draw b.replica)) → (apply wanted names.replica draw b.replica).stop ≡ None

-- whatever was logged, one stops at nothing but an item that has no effect at the replica
abbrev pub IsDiffering : Option Stop → Type 0
IsDiffering None = Unit {0}
IsDiffering (Some (differs d)) = Unit {0}
IsDiffering (Some (damaged pos)) = ⊥
IsDiffering (Some (foreign pos kind)) = ⊥

abbrev pub NothingIsDamaged : Type 0
NothingIsDamaged =
    (names : Names) (draw : Draw) (wanted : ℕ) (b : Both) → Follows names b → IsSound b.from b.machine → IsDiffering (apply wanted names.replica draw b.replica).stop

-- where it has carried out all that was committed, and each item of it does the same at every replica, its base is the source's
abbrev pub AllCarriedIsEqual : Type 0
AllCarriedIsEqual =
    (names : Names) (b : Both) → (f : Follows names b) → IsBehind b.from → Replays (source_from b.from) b.machine → f.more ≡ [] → EntriesFollow f.carried
    → b.replica.base ≡ b.machine.state.shared.base

-- ---- what holds of each command of a run

abbrev pub OfEach : (Both → Asked → Draw → Type 0) → Names → Both → List Asked → List Draw → Type 0
OfEach P names b [] ds = Unit {0}
OfEach P names b (c ∷ cs) [] = Unit {0}
OfEach P names b (c ∷ cs) (d ∷ ds) = P b c d × OfEach P names (next names b c d).both cs ds

-- what was told is no APPLY that stopped, or one that came to an item that may do something else at a replica, and has no effect there
abbrev pub IsThrough : Both → Told → Type 0
IsThrough b (answered a) = Unit {0}
IsThrough b (got count) = Unit {0}
IsThrough b (went a) = (EntriesFollow (come_to b a) → a.stop ≡ None) × IsDiffering a.stop

abbrev pub GoesThrough : Names → Both → Asked → Draw → Type 0
GoesThrough names b c draw = IsThrough b (next names b c draw).told

-- so for all commands: no APPLY stopped before an item that may do something else at a replica
abbrev pub NoneStops : Names → Both → List Asked → List Draw → Type 0
NoneStops names b cs ds = OfEach (GoesThrough names) names b cs ds

-- ---- how a run is logged

-- the transactions that a session's text puts out are logged in the format that the session had before it: each item by its text under
-- STATEMENT, by its rows under ROW, and under MIXED by its text exactly where it has no reason
abbrev pub IsLoggedAsSet : Names → Both → Asked → Draw → Type 0
IsLoggedAsSet names b (say n text) draw = EntriesIn (format_of (session_at n b.machine)) (step whole names.source b.machine.state n text draw).committed
IsLoggedAsSet names b (select text) draw = Unit {0}
IsLoggedAsSet names b (take_bytes n) draw = Unit {0}
IsLoggedAsSet names b (take_groups n) draw = Unit {0}
IsLoggedAsSet names b checkpoint_source draw = Unit {0}
IsLoggedAsSet names b checkpoint_replica draw = Unit {0}
IsLoggedAsSet names b restart_source draw = Unit {0}
IsLoggedAsSet names b restart_replica draw = Unit {0}

abbrev pub AllLoggedAsSet : Names → Both → List Asked → List Draw → Type 0
AllLoggedAsSet names b cs ds = OfEach (IsLoggedAsSet names) names b cs ds

-- an item in a format is warned exactly where a statement of a session in that format shows the warning
abbrev pub WarnedAsShown : Type 0
WarnedAsShown = (format : Format) (i : Whole) → AreIn format (i ∷ []) → is_warned i ≡ warns format (reasons_of i)

-- whether a format may log by its text what is unsafe
abbrev pub may_warn : Format → Bool
may_warn Statement = true
may_warn Mixed = false
may_warn Row = false

-- the text of a session that is not under STATEMENT
abbrev pub IsUnderOther : Both → Asked → Draw → Type 0
IsUnderOther b (say n text) draw = may_warn (format_of (session_at n b.machine)) ≡ false
IsUnderOther b (select text) draw = Unit {0}
IsUnderOther b (take_bytes n) draw = Unit {0}
IsUnderOther b (take_groups n) draw = Unit {0}
IsUnderOther b checkpoint_source draw = Unit {0}
IsUnderOther b checkpoint_replica draw = Unit {0}
IsUnderOther b restart_source draw = Unit {0}
IsUnderOther b restart_replica draw = Unit {0}

-- where no session is under STATEMENT as it says something, all that is committed does the same at every replica, whatever is said
abbrev pub OthersFollow : Type 0
OthersFollow =
    (names : Names) (b : Both) (cs : List Asked) (ds : List Draw) → EntriesFollow b.machine.history → AllLoggedAsSet names b cs ds
    → OfEach IsUnderOther names b cs ds → EntriesFollow (end_of names b cs ds).machine.history
