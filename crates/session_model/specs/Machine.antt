-- The machine of sessions: what a command makes of a source, what it is answered, and which entries it puts out.
use Rattle.std.specs.Prelude.{◌≡◌, ℕ, if◌then◌else◌, List, [], ◌∷◌, ◌++◌, map, replicate, take, drop, ◌==◌, Option, Some, None, slice_index_or, slice_set}
use Rattle.std.specs.Option.{option_map}
use Rattle.port_traits.specs.declared.identity.Identity.{Identity}
use Rattle.port_traits.specs.declared.identity.Draw.{Draw}
use Rattle.sql_tree.specs.Statement.{Statement, set_all, call_procedure, begin, commit, rollback, savepoint, rollback_to, release_savepoint}
use Rattle.binlog_sizes.specs.log_entries.declared.entries.Item.{Item}
use Rattle.binlog_sizes.specs.log_entries.declared.entries.Entry.{Entry}
use Rattle.binlog_sizes.specs.log_entries.declared.entries.Entry.TheVariants.{LogStart}
use Rattle.binlog_sizes.specs.log_model.Log.{LogPlace, log}
use Rattle.answer_text.specs.declared.answer.Answer.{Answer}
use Rattle.session_ctx.specs.catalog_rules.Bases.{Base, empty_base}
use Rattle.auto_inc.specs.declared.counters.Counter.{Counter}
use Rattle.session_ctx.specs.Contexts.{new_context, at_command}
use Rattle.session_ctx.specs.declared.session.SessionVars.{SessionVars}
use Rattle.proc_model.specs.sql_reach.Reach.{is_definition}
use Rattle.text_answers.specs.Answers.{TextAnswer, a_statement, a_syntax_error, too_deep, text_answer}
use Rattle.session_model.specs.Answers.{refused, refused_at}
use Rattle.session_model.specs.Formats.{first_format}
use Rattle.session_model.specs.Sessions.{Open, Session, Shared, State}
use Rattle.session_model.specs.Running.{Began, Call, Known, Turn, entry_by}
use Rattle.session_model.specs.Commands.{answered, begin_turn, commit_turn, rollback_turn, save_turn, back_turn, release_in, definition_turn, set_turn, plain_turn}
use Rattle.session_model.specs.Counting.{counted}
use Rattle.session_model.specs.Calling.{call_turn}

-- ---- one command

-- a statement of a session
abbrev pub statement_turn : {I : Type 0} → Call I → List ℕ → Statement → Shared → Session I → Turn I Answer
statement_turn call text begin shared session = begin_turn call shared session
statement_turn call text commit shared session = commit_turn call shared session
statement_turn call text rollback shared session = rollback_turn call shared session
statement_turn call text (savepoint name) shared session = save_turn call name shared session
statement_turn call text (rollback_to name) shared session = back_turn call name shared session
statement_turn call text (release_savepoint name) shared session = release_in name session.transaction shared session
statement_turn call text (set_all as') shared session = set_turn call as' shared session
statement_turn call text (call_procedure name ts) shared session = call_turn call name ts shared session
statement_turn call text s shared session =
    if is_definition s then definition_turn call text s shared session else plain_turn call text s shared session

-- what a text is, is done, or refused
abbrev pub text_turn : {I : Type 0} → Call I → List ℕ → TextAnswer → Shared → Session I → Turn I Answer
text_turn call text (a_statement s) shared session = statement_turn call text s shared session
text_turn call text (a_syntax_error place) shared session = answered (refused_at place) shared session
text_turn call text too_deep shared session = answered (refused 30007) shared session

-- the variables of a command: those of a new session, or with the moments of this command
abbrev pub vars_at_work : {I : Type 0} → Call I → SessionVars → SessionVars
vars_at_work call vars = record vars { context = at_command vars.timestamp call.draw vars.context }

abbrev pub at_work : {I : Type 0} → Call I → Option (Session I) → Session I
at_work call None = record {
  vars = record { context = new_context call.identity call.number call.draw; timestamp = None };
  format = first_format;
  transaction = None;
}
at_work call (Some session) = record session { vars = vars_at_work call session.vars }

-- ROW_COUNT() behind the command
abbrev pub with_count : {I : Type 0} → Turn I Answer → Turn I Answer
with_count t = record t { session = counted t.given t.session }

-- a command of a session: its text, whatever it is
abbrev pub command : {I : Type 0} → Call I → List ℕ → Shared → Option (Session I) → Turn I Answer
command call text shared session = with_count (text_turn call text (text_answer text) shared (at_work call session))

-- ---- the machine

-- sessions have the numbers 1 to 99
abbrev pub session_slots : ℕ
session_slots = 100

-- a source that starts from a base with its counters, so many transactions committed, and a log that ends at a place
abbrev pub first_state : {I : Type 0} → Base → List Counter → ℕ → LogPlace → State I
first_state base counters committed place = record {
  shared = record { base = base; counters = counters; changes = []; writer = None; committed = committed; place = place };
  sessions = replicate session_slots None;
}

-- A step: the state after it, the answer, and the entries that it put out.
pub record Step (I : Type 0) : Type 0 where
  pub state : State I
  pub answer : Answer
  pub committed : List (Entry I)

abbrev pub stepped : {I : Type 0} → ℕ → State I → Turn I Answer → Step I
stepped n state t = record {
  state = record { shared = t.shared; sessions = slice_set state.sessions n (Some t.session) };
  answer = t.given;
  committed = t.committed;
}

-- the command of a session on a text, with its draw
unfoldable pub step : {I : Type 0} → Known I → Identity → State I → ℕ → List ℕ → Draw → Step I
step known identity state n text draw =
    stepped n state (command (record { identity = identity; draw = draw; number = n; known = known }) text state.shared (slice_index_or state.sessions n None))

-- ---- the same with something else known of items

module _ {I J : Type 0} (f : I → J) where
  abbrev pub open_by : Open I → Open J
  open_by open' = record { items = map f open'.items; saves = open'.saves; changed = open'.changed }

  abbrev pub session_by : Session I → Session J
  session_by session = record { vars = session.vars; format = session.format; transaction = option_map open_by session.transaction }

  abbrev pub state_by : State I → State J
  state_by state = record { shared = state.shared; sessions = map (option_map session_by) state.sessions }

  abbrev pub step_by : Step I → Step J
  step_by s = record { state = state_by s.state; answer = s.answer; committed = map (entry_by f) s.committed }

-- ---- whole items, and what a node keeps of them

-- A whole item: what the log has of it, and all that it began with.
pub record Whole : Type 0 where
  pub kept : Item
  pub began : Began

abbrev pub kept_of : Whole → Item
kept_of i = i.kept

-- a whole run knows all of an item, a node what the log has of it
abbrev pub whole : Known Whole
whole = record { note = λ item began. record { kept = item; began = began }; logged = kept_of }

abbrev pub kept : Known Item
kept = record { note = λ item began. item; logged = λ item. item }

abbrev pub kept_state : State Whole → State Item
kept_state state = state_by kept_of state

abbrev pub kept_entry : Entry Whole → Entry Item
kept_entry e = entry_by kept_of e

abbrev pub kept_step : Step Whole → Step Item
kept_step s = step_by kept_of s

-- what a node keeps of a step is its step on what it keeps
abbrev pub StepsAreKept : Type 0
StepsAreKept =
    (identity : Identity) (state : State Whole) (n : ℕ) (text : List ℕ) (draw : Draw)
    → step kept identity (kept_state state) n text draw ≡ kept_step (step whole identity state n text draw)

-- A run so far: the state, and all entries that were committed.
pub record Machine : Type 0 where
  pub state : State Whole
  pub history : List (Entry Whole)

abbrev pub machine_after : Machine → Step Whole → Machine
machine_after m s = record { state = s.state; history = m.history ++ s.committed }

-- ---- a source that begins without a store

-- before the first log
abbrev pub nowhere : LogPlace
nowhere = record { log = 0; pos = 0 }

-- behind the head of the first log
abbrev pub first_place : LogPlace
first_place = record { log = 1; pos = 123 }

-- nothing is there but the head of the first log, which opening writes at its draw
abbrev pub opened : Identity → Draw → Machine
opened identity draw = record { state = first_state empty_base [] 0 first_place; history = LogStart draw.now identity.server_id ∷ [] }

-- the bytes of the first log, from its magic on: those of all entries
abbrev pub log_of : Machine → List ℕ
log_of m = log (map kept_entry m.history) 0 nowhere

-- what the log with a number has from a position on, of so many bytes at the most; a source has just the first log
abbrev pub log_bytes : List ℕ → LogPlace → ℕ → List ℕ
log_bytes bytes place most = if place.log == 1 then take most (drop place.pos bytes) else []
