-- What holds of every run: the committed base is what its entries make of the first one, and the log ends where they end; the open
-- changes are those of the writer's items, and a savepoint stands where it says; items and entries are what statements made.
use Rattle.std.specs.Prelude.{◌≡◌, ℕ, ◌≤◌, ◌<◌, ◌==◌, ◌&&◌, Bool, true, false, not, List, [], ◌∷◌, ◌++◌, length, map, flat_map, take, Option, Some, None, is_some, slice_index_or, Result, Ok, Err}
use Rattle.std.specs.Option.{option_map_or, option_and_then}
use Rattle.val_types.specs.declared.change.Change.{Change}
use Rattle.auto_inc.specs.declared.counters.Counter.{Counter}
use Rattle.port_traits.specs.declared.identity.Identity.{Identity}
use Rattle.port_traits.specs.declared.identity.Draw.{Draw}
use Rattle.table_rules.specs.Stored.{all_applied}
use Rattle.session_ctx.specs.catalog_rules.Bases.{Base, defined, empty_base}
use Rattle.binlog_sizes.specs.log_entries.declared.entries.Entry.{Entry}
use Rattle.binlog_sizes.specs.log_entries.declared.entries.Entry.TheVariants.{Transaction, Definition, LogStart}
use Rattle.binlog_sizes.specs.log_entries.Entries.{after}
use Rattle.binlog_sizes.specs.log_model.Log.{LogPlace, counted_all, written_to}
use Rattle.binlog_sizes.specs.Sizes.{are_too_large, most_text}
use Rattle.proc_model.specs.Talk.{Left, Talk, brought}
use Rattle.proc_model.specs.Procedures.{Came}
use Rattle.session_ctx.specs.declared.session.SessionVars.{SessionVars}
use Rattle.proc_model.specs.sql_reach.Reasons.{Reason, reasons}
use Rattle.session_model.specs.Formats.{first_format, is_unsafe, logs_rows}
use Rattle.session_model.specs.Sessions.{Save, Open, Session, Shared}
use Rattle.session_model.specs.declared.format.Format.{Format}
use Rattle.answer_text.specs.declared.answer.End.{End}
use Rattle.answer_text.specs.declared.answer.End.TheVariants as ends
use Rattle.session_ctx.specs.sql_meaning.Frames.{Context}
use Rattle.proc_model.specs.sql_reach.Reach.{is_definition}
use Rattle.sql_locals.specs.declared.locals.Local.{Local}
use Rattle.sql_tree.specs.Statement.{Statement, call_procedure}
use Rattle.sql_tree.specs.Tree.{Trees}
use Rattle.text_answers.specs.Answers.{a_statement, text_answer}
use Rattle.session_model.specs.Running.{Call, Turn, commit_open, definitions_changed, items_of, is_other, scene_for}
use Rattle.session_model.specs.Calling.{Reached, arguments_run, run_step, evaluate_step, steps_of}
use Rattle.session_model.specs.Machine.{Whole, whole, kept_of, kept_entry, Machine, machine_after, first_state, nowhere, opened, step, statement_turn}

-- ---- entries of whole items

abbrev pub changes_of : Whole → List Change
changes_of i = i.kept.changes

-- what a definition makes of a base
abbrev pub define : Whole → Base → Option Base
define i base = defined i.began.tree base

abbrev pub changes_in : List Whole → List Change
changes_in items = flat_map changes_of items

-- ---- what statements made

-- An item of a statement: it has the definitions of the tables that it changed, and it changed something.
pub record IsMade (i : Whole) : Type 0 where
  pub defs : i.kept.defs ≡ definitions_changed i.began.catalog i.kept.changes
  pub some : 1 ≤ length i.kept.changes

abbrev pub AreMade : List Whole → Type 0
AreMade [] = Unit {0}
AreMade (i ∷ is) = IsMade i × AreMade is

-- the reasons for which an item is unsafe to log by its text
abbrev pub reasons_of : Whole → List Reason
reasons_of i = reasons i.began.catalog i.began.tree

-- an item is warned where it is logged by its text, though that is unsafe
abbrev pub is_warned : Whole → Bool
is_warned i = not i.kept.rows && is_unsafe (reasons_of i)

-- items that are logged in a format, each by its rows exactly where the format says so of its reasons
abbrev pub AreIn : Format → List Whole → Type 0
AreIn format [] = Unit {0}
AreIn format (i ∷ is) = (i.kept.rows ≡ logs_rows format (reasons_of i)) × AreIn format is

-- entries whose transactions are logged in a format
abbrev pub EntriesIn : Format → List (Entry Whole) → Type 0
EntriesIn format [] = Unit {0}
EntriesIn format (Transaction stamp server items ∷ es) = AreIn format items × EntriesIn format es
EntriesIn format (Definition stamp server i ∷ es) = EntriesIn format es
EntriesIn format (LogStart stamp server ∷ es) = EntriesIn format es

-- items of one transaction, which have no more bytes than one may have
pub record AreOne (items : List Whole) : Type 0 where
  pub made : AreMade items
  pub small : are_too_large (map kept_of items) ≡ false

-- A definition: its text, which a command may have, is the statement that was carried out.
pub record IsDefined (i : Whole) : Type 0 where
  pub text : text_answer i.kept.text ≡ a_statement i.began.tree
  pub short : length i.kept.text ≤ most_text
  pub is : is_definition i.began.tree ≡ true

abbrev pub EntryMade : Entry Whole → Type 0
EntryMade (Transaction stamp server items) = (1 ≤ length items) × AreOne items
EntryMade (Definition stamp server i) = IsDefined i
EntryMade (LogStart stamp server) = Unit {0}

abbrev pub EntriesMade : List (Entry Whole) → Type 0
EntriesMade [] = Unit {0}
EntriesMade (e ∷ es) = EntryMade e × EntriesMade es

-- ---- one session

abbrev pub holds_lock : ℕ → Option ℕ → Bool
holds_lock n writer = option_map_or (λ w. w == n) writer false

abbrev pub saves_of : Option (Open Whole) → List Save
saves_of None = []
saves_of (Some open') = open'.saves

-- savepoints from one on, each with at least so many items: its changes are those of its items, and later ones have no fewer
abbrev pub SavesFrom : List Whole → ℕ → List Save → Type 0
SavesFrom items least [] = least ≤ length items
SavesFrom items least (s ∷ ss) = (least ≤ s.items) × (s.changes ≡ length (changes_in (take s.items items))) × SavesFrom items s.items ss

-- the session that has the lock has made the open changes, by its items, in its format; another has no item
pub record Owns (n : ℕ) (shared : Shared) (format : Format) (t : Option (Open Whole)) : Type 0 where
  pub own : holds_lock n shared.writer ≡ true → shared.changes ≡ changes_in (items_of t)
  pub none : holds_lock n shared.writer ≡ false → items_of t ≡ []
  pub saves : SavesFrom (items_of t) 0 (saves_of t)
  pub one : AreOne (items_of t)
  pub formats : AreIn format (items_of t)

-- ---- what all share

-- without a writer nothing is open, and open changes can be made to the committed tables
pub record SharedHolds (shared : Shared) : Type 0 where
  pub free : shared.writer ≡ None → shared.changes ≡ []
  pub makes : is_some (all_applied shared.changes shared.base.tables) ≡ true

abbrev pub transaction_of : Option (Session Whole) → Option (Open Whole)
transaction_of session = option_and_then (λ (s : Session Whole). s.transaction) session

abbrev pub format_of : Option (Session Whole) → Format
format_of session = option_map_or (λ (s : Session Whole). s.format) session first_format

-- the session with a number
abbrev pub session_at : ℕ → Machine → Option (Session Whole)
session_at n m = slice_index_or m.state.sessions n None

-- Where a run began: with a base, so many transactions committed, and a log that ends at a place.
pub record Beginning : Type 0 where
  pub base : Base
  pub committed : ℕ
  pub place : LogPlace

-- with nothing, before the first log
abbrev pub with_nothing : Beginning
with_nothing = record { base = empty_base; committed = 0; place = nowhere }

-- a run that began so
pub record Holds (from : Beginning) (m : Machine) : Type 0 where
  pub entries : after changes_of define m.history from.base ≡ Some m.state.shared.base
  pub count : counted_all (map kept_entry m.history) from.committed ≡ m.state.shared.committed
  pub place : written_to (map kept_entry m.history) from.committed from.place ≡ m.state.shared.place
  pub made : EntriesMade m.history
  pub shared : SharedHolds m.state.shared
  pub each : (n : ℕ) → Owns n m.state.shared (format_of (session_at n m)) (transaction_of (session_at n m))

-- ---- laws

abbrev pub RunsBegin : Type 0
RunsBegin =
    (from : Beginning) (counters : List Counter) → Holds from (record { state = first_state from.base counters from.committed from.place; history = [] })

-- a source that begins without a store has put out the head of its first log
abbrev pub RunsOpen : Type 0
RunsOpen = (identity : Identity) (draw : Draw) → Holds with_nothing (opened identity draw)

-- each step keeps it, whatever the command
abbrev pub RunsGoOn : Type 0
RunsGoOn =
    (from : Beginning) (m : Machine) (identity : Identity) (n : ℕ) (text : List ℕ) (draw : Draw) → Holds from m → n < length m.state.sessions
    → length text ≤ most_text → Holds from (machine_after m (step whole identity m.state n text draw))

-- the transactions that a step puts out are logged in the format that its session had before it: each item by its text under
-- STATEMENT, by its rows under ROW, and under MIXED by its text exactly where it has no reason
abbrev pub FormatsDecide : Type 0
FormatsDecide =
    (from : Beginning) (m : Machine) (identity : Identity) (n : ℕ) (text : List ℕ) (draw : Draw) → Holds from m → n < length m.state.sessions
    → EntriesIn (format_of (session_at n m)) (step whole identity m.state n text draw).committed

-- ---- errors and readers

abbrev pub is_refused : End → Bool
is_refused (ends.Ok affected warned) = false
is_refused (ends.Rows warned) = false
is_refused (ends.Refused code place holder) = true

-- where a command begins
abbrev pub begun : {I : Type 0} → Shared → Session I → Reached I
begun shared session = record { shared = shared; session = session; committed = []; given = false }

-- the variables of a session with the seeds and the forced INSERT_ID of another context
abbrev pub with_used : Context → SessionVars → SessionVars
with_used context vars = record vars { context = record (vars.context) { seeds = context.seeds; forced = context.forced } }

-- all is as it was, but for what is used: counters, seeds and a forced INSERT_ID
pub record IsLeft {I A B : Type 0} (old : Turn I A) (new : Turn I B) : Type 0 where
  pub base : new.shared.base ≡ old.shared.base
  pub changes : new.shared.changes ≡ old.shared.changes
  pub writer : new.shared.writer ≡ old.shared.writer
  pub count : new.shared.committed ≡ old.shared.committed
  pub place : new.shared.place ≡ old.shared.place
  pub transaction : new.session.transaction ≡ old.session.transaction
  pub format : new.session.format ≡ old.session.format
  pub vars : new.session.vars ≡ with_used new.session.vars.context old.session.vars
  pub entries : new.committed ≡ old.committed

-- every statement but a definition and CALL
abbrev pub leaves_on_error : Statement → Bool
leaves_on_error (call_procedure name ts) = false
leaves_on_error s = not (is_definition s)

-- where it is refused, it leaves all tables, the transaction and what was committed, and assigns no variable
abbrev pub ErrorsLeaveAll : Type 0
ErrorsLeaveAll =
    (call : Call Whole) (text : List ℕ) (s : Statement) (shared : Shared) (session : Session Whole) → leaves_on_error s ≡ true
    → is_refused (statement_turn call text s shared session).given.end ≡ true → IsLeft (begun shared session) (statement_turn call text s shared session)

-- a definition that is refused changes no table: all is as the commit of the open transaction leaves it
abbrev pub DefinitionsLeaveAll : Type 0
DefinitionsLeaveAll =
    (call : Call Whole) (text : List ℕ) (s : Statement) (shared : Shared) (session : Session Whole) → is_definition s ≡ true
    → is_refused (statement_turn call text s shared session).given.end ≡ true
    → IsLeft (commit_open call shared session) (statement_turn call text s shared session)

abbrev pub is_error : {A E : Type 0} → Result A E → Bool
is_error (Ok a) = false
is_error (Err e) = true

-- in a CALL each statement, and each evaluation, also that of its arguments, that is refused leaves all where it stands
pub record StepsLeaveAll : Type 0 where
  pub arguments : (call : Call Whole) (text : List ℕ) (ts : Trees) (shared : Shared) (session : Session Whole)
      → is_error (arguments_run call text ts shared session).given.result ≡ true → IsLeft (begun shared session) (arguments_run call text ts shared session)
  pub statements : (call : Call Whole) (left : Left) (s : Statement) (at : Reached Whole) → is_error (run_step call left s at).0.result ≡ true
      → IsLeft at (run_step call left s at).1
  pub evaluations : (call : Call Whole) (left : Left) (locals : List Local) (ts : Trees) (at : Reached Whole)
      → is_error (evaluate_step call left locals ts at).0.result ≡ true → IsLeft at (evaluate_step call left locals ts at).1

-- the entries that were put out and the items of the open transaction stay, and more come behind them
pub record Stays {I A B : Type 0} (old : Turn I A) (new : Turn I B) : Type 0 where
  pub more_entries : List (Entry I)
  pub entries : new.committed ≡ old.committed ++ more_entries
  pub more_items : List I
  pub items : items_of new.session.transaction ≡ items_of old.session.transaction ++ more_items

-- what the steps of a CALL so far have done stays, whatever its procedure still does, and wherever an error ends it
abbrev pub CallsKeepSteps : Type 0
CallsKeepSteps = (call : Call Whole) (talk : Talk Came) (at : Reached Whole) → Stays at (brought (steps_of call) talk at).1

-- a session beside another one's open changes reads the committed rows; the one that has the lock, or any where none has, its own
abbrev pub ReadersSeeCommitted : Type 0
ReadersSeeCommitted =
    (n : ℕ) (left : Left) (context : Context) (shared : Shared) → is_other n shared.writer ≡ true → (scene_for n left context shared).tables ≡ shared.base.tables
