-- A statement of a log, run with what its item carries and nothing else.
use Rattle.std.specs.Prelude.{ℕ, nat_lt, Bool, true, false, if◌then◌else◌, List, [], length, Option, Some, None, Result, Ok, Err, ℤ}
use Rattle.val_types.specs.declared.change.Change.{Change}
use Rattle.val_types.specs.declared.value.Value.{Value}
use Rattle.port_traits.specs.declared.identity.Identity.{Identity}
use Rattle.port_traits.specs.declared.identity.Draw.{Draw}
use Rattle.event_codec.specs.declared.event.Step.{Step}
use Rattle.event_codec.specs.Event.{Query}
use Rattle.sql_tree.specs.Statement.{Statement, insert_into, replace_into, update_rows, delete_rows, select, evaluate}
use Rattle.session_ctx.specs.catalog_rules.Objects.{Object}
use Rattle.session_ctx.specs.catalog_rules.Checks.{session_scope, statement_refusal}
use Rattle.binlog_sizes.specs.log_entries.declared.carried.Carried.{Carried}
use Rattle.binlog_sizes.specs.Sizes.{most_text}
use Rattle.session_ctx.specs.Carrying.{context_carried}
use Rattle.session_ctx.specs.sql_meaning.Changing.{Did}
use Rattle.session_ctx.specs.sql_meaning.Frames.{Context}
use Rattle.session_ctx.specs.sql_meaning.Running.{most_nested, most_turns, effect}
use Rattle.session_ctx.specs.sql_meaning.Scenes.{Scene, Ending, done, failed}
use Rattle.sql_reach.specs.Defining.{number_of_bytes}
use Rattle.text_answers.specs.Answers.{TextAnswer, a_statement, a_syntax_error, too_deep, text_answer}
use Rattle.apply_model.specs.Rows.{Store}
use Rattle.apply_model.specs.Stops.{Differs, stop_at}

-- ---- what an item carries

-- The variables that stand before a text.
pub record Needs : Type 0 where
  pub last_id : Option ℤ
  pub first : Option ℤ
  pub seeds : Option (ℕ × ℕ)
  pub vars : List (List ℕ × Value)

abbrev pub no_needs : Needs
no_needs = record { last_id = None; first = None; seeds = None; vars = [] }

abbrev pub increment_of : Option Step → ℕ
increment_of None = 1
increment_of (Some step) = step.increment

abbrev pub offset_of : Option Step → ℕ
offset_of None = 1
offset_of (Some step) = step.offset

-- with the moment of its QUERY
abbrev pub carried_of : (stamp : ℕ) → Query → Needs → Carried
carried_of stamp q needs = record {
  stamp = stamp;
  connection = q.thread;
  inc = increment_of q.step;
  off = offset_of q.step;
  last_id = needs.last_id;
  first = needs.first;
  seeds = needs.seeds;
  vars = needs.vars;
}

-- ---- who applies

-- Who the replica is, the draw of its APPLY, and the catalog before the group.
pub record Applier : Type 0 where
  pub identity : Identity
  pub draw : Draw
  pub catalog : List Object

-- ---- which texts are run

-- what may stand in a transaction; all else is 30005
abbrev pub may_stand : Statement → Bool
may_stand (insert_into ignore t names supply sets) = true
may_stand (replace_into t names supply) = true
may_stand (update_rows t sets condition os limit) = true
may_stand (delete_rows t condition os limit) = true
may_stand (select q) = true
may_stand (evaluate ts) = true
may_stand s = false

-- the statement that a text is, 1153 where it is too long, and why it is none
abbrev pub statement_by : TextAnswer → Result Statement ℕ
statement_by (a_statement s) = Ok s
statement_by (a_syntax_error place) = Err 1064
statement_by too_deep = Err 30007

abbrev pub statement_in : List ℕ → Result Statement ℕ
statement_in text = if nat_lt most_text (length text) then Err 1153 else statement_by (text_answer text)

-- ---- the run

-- what a transaction has come to: the tables with its changes and the counters, and the changes
pub record Progress : Type 0 where
  pub store : Store
  pub changes : List Change

abbrev pub scene_of : Context → Progress → Scene
scene_of context p = record {
  tables = p.store.tables;
  changes = p.changes;
  counters = p.store.counters;
  seeds = context.seeds;
  turns = most_turns;
  uuids = 0;
}

abbrev pub progress_of : Scene → Progress
progress_of scene = record { store = record { tables = scene.tables; counters = scene.counters }; changes = scene.changes }

abbrev pub ended_as : Ending Did → Result Progress ℕ
ended_as (done did scene) = Ok (progress_of scene)
ended_as (failed code scene) = Err code

abbrev pub run_in : Applier → Context → Statement → Progress → Result Progress ℕ
run_in a context s p =
    ended_as (effect (record { catalog = a.catalog; context = context; uuid = number_of_bytes 0 a.draw.uuid }) most_nested [] s (scene_of context p))

abbrev pub checked : Applier → Context → Statement → Progress → Option ℕ → Result Progress ℕ
checked a context s p (Some code) = Err code
checked a context s p None = run_in a context s p

-- 30005 for what may not stand here, then the catalog's checks, then the run
abbrev pub allowed : Applier → Context → Progress → Result Statement ℕ → Result Progress ℕ
allowed a context p (Err code) = Err code
allowed a context p (Ok s) =
    if may_stand s then checked a context s p (statement_refusal a.catalog session_scope s) else Err 30005

-- a text of a transaction, by what it carries
abbrev pub carry_text : Applier → List ℕ → Carried → Progress → Result Progress ℕ
carry_text a text c p = allowed a (context_carried c a.identity a.draw) p (statement_in text)

-- an error stops at a place
abbrev pub stops_at : {A : Type 0} → ℕ → Result A ℕ → Result A Differs
stops_at place (Ok x) = Ok x
stops_at place (Err code) = Err (stop_at place code)
