-- What one statement of a session does to what is shared and to its session, and which entries it puts out.
use Rattle.std.specs.Prelude.{ℕ, ◌+◌, ◌^◌, ◌-◌, ◌==◌, ◌||◌, Bool, true, false, not, nat_le, if◌then◌else◌, List, [], ◌∷◌, ◌++◌, length, drop, filter, map, Option, Some, None, Result, Ok, Err, ℤ}
use Rattle.std.specs.Option.{option_map, option_map_or}
use Rattle.val_types.specs.declared.change.Change.{Change}
use Rattle.val_types.specs.declared.definitions.TableDef.{TableDef}
use Rattle.val_types.specs.declared.value.Value.{Value}
use Rattle.val_types.specs.Changes.{table_of}
use Rattle.auto_inc.specs.declared.counters.Counter.{Counter}
use Rattle.port_traits.specs.declared.identity.Identity.{Identity}
use Rattle.port_traits.specs.declared.identity.Draw.{Draw}
use Rattle.sql_tree.specs.Statement.{Statement, evaluate}
use Rattle.sql_tree.specs.Tree.{Trees}
use Rattle.session_ctx.specs.catalog_rules.Names.{is_among}
use Rattle.session_ctx.specs.catalog_rules.Objects.{Object}
use Rattle.session_ctx.specs.catalog_rules.Bases.{definitions_in}
use Rattle.binlog_sizes.specs.log_entries.declared.entries.Item.{Item}
use Rattle.binlog_sizes.specs.log_entries.declared.entries.Entry.{Entry}
use Rattle.binlog_sizes.specs.log_entries.declared.entries.Entry.TheVariants.{Transaction, Definition, LogStart}
use Rattle.binlog_sizes.specs.log_model.Log.{LogPlace, behind}
use Rattle.binlog_sizes.specs.Sizes.{are_too_large}
use Rattle.answer_text.specs.declared.answer.Answer.{Answer}
use Rattle.proc_model.specs.Talk.{Left, Refusal}
use Rattle.proc_model.specs.Procedures.{plain_refusal}
use Rattle.sql_locals.specs.declared.locals.Local.{Local}
use Rattle.session_ctx.specs.sql_meaning.Scenes.{Scene, Ending, done, failed}
use Rattle.session_ctx.specs.sql_meaning.Frames.{Context, Setting}
use Rattle.session_ctx.specs.sql_meaning.Changing.{Did}
use Rattle.session_ctx.specs.sql_meaning.Running.{most_nested, most_turns, effect, evaluation, context_after}
use Rattle.proc_model.specs.sql_reach.Carrying.{carried}
use Rattle.proc_model.specs.sql_reach.Reach.{writes}
use Rattle.proc_model.specs.sql_reach.Defining.{number_of_bytes}
use Rattle.session_model.specs.Answers.{ok_warned, showing, refused, refused_as}
use Rattle.proc_model.specs.sql_reach.Reasons.{reasons}
use Rattle.session_model.specs.Formats.{logs_rows, warns}
use Rattle.session_model.specs.declared.format.Format.{Format}
use Rattle.session_model.specs.Sessions.{Open, Session, Shared, tables_with}

-- ---- what an item began with

-- All that an item began with: its tree, the counters, the catalog and the context before it, the draw, and what was left of
-- nesting and turns, with the count of UUIDs.
pub record Began : Type 0 where
  pub tree : Statement
  pub counters : List Counter
  pub catalog : List Object
  pub context : Context
  pub draw : Draw
  pub nesting : ℕ
  pub turns : ℕ
  pub uuids : ℕ

-- What is known of items: by what the log has of one and what it began with; and what the log has of one by what is known of it.
pub record Known (I : Type 0) : Type 0 where
  pub note : Item → Began → I
  pub logged : I → Item

-- What a command has round it: who the node is, the command's draw, the number of its session, and what is known of items.
pub record Call (I : Type 0) : Type 0 where
  pub identity : Identity
  pub draw : Draw
  pub number : ℕ
  pub known : Known I

-- the same entry with something else known of its items
abbrev pub entry_by : {I J : Type 0} → (I → J) → Entry I → Entry J
entry_by f (Transaction stamp server items) = Transaction stamp server (map f items)
entry_by f (Definition stamp server item) = Definition stamp server (f item)
entry_by f (LogStart stamp server) = LogStart stamp server

-- what is left to a command at its beginning
abbrev pub full : Left
full = record { nesting = most_nested; turns = most_turns; uuids = 0 }

-- What is left to it behind a statement: turns of WHILE, and how many UUIDs it made.
pub record Fuel : Type 0 where
  pub turns : ℕ
  pub uuids : ℕ

-- What a command does: what is shared after it, its session after it, and the entries that it puts out, with a result.
pub record Turn (I : Type 0) (A : Type 0) : Type 0 where
  pub shared : Shared
  pub session : Session I
  pub committed : List (Entry I)
  pub given : A

-- ---- the lock

-- whether another session has the writer's lock
abbrev pub is_other : ℕ → Option ℕ → Bool
is_other n writer = option_map_or (λ w. not (w == n)) writer false

-- the lock given back by the session that has it
abbrev pub released : ℕ → Shared → Shared
released n shared = if is_other n shared.writer then shared else record shared { writer = None }

-- so many transactions may be committed
abbrev pub most_committed : ℕ
most_committed = 2 ^ 32 - 1

-- a log that ends here takes no transaction more: there is no log behind the last one, or it is too long
abbrev pub is_full : LogPlace → Bool
is_full place = place.log == 60000 || nat_le (2 ^ 30) place.pos

-- what refuses a statement that writes: 30008 too many transactions or too long a log, 1205 another session writes
abbrev pub held_by : ℕ → Option ℕ → Option Refusal
held_by n None = None
held_by n (Some w) = if w == n then None else Some (record { code = 1205; holder = Some w })

abbrev pub writing_check : ℕ → Shared → Option Refusal
writing_check n shared =
    if nat_le most_committed shared.committed || is_full shared.place then Some (plain_refusal 30008) else held_by n shared.writer

abbrev pub lock_check : ℕ → Shared → Statement → Option Refusal
lock_check n shared s = if writes shared.base.catalog s then writing_check n shared else None

-- as it is answered
abbrev pub writing_refusal : ℕ → Shared → Option Answer
writing_refusal n shared = option_map refused_as (writing_check n shared)

abbrev pub lock_refusal : ℕ → Shared → Statement → Option Answer
lock_refusal n shared s = option_map refused_as (lock_check n shared s)

-- ---- transactions

abbrev pub items_of : {I : Type 0} → Option (Open I) → List I
items_of None = []
items_of (Some open') = open'.items

-- one transaction more, whose entry goes behind the log's end
abbrev pub counted_in : Entry Item → Shared → Shared
counted_in entry shared = record shared { committed = shared.committed + 1; place = behind entry shared.committed shared.place }

-- the open changes made to the committed base, as the transaction of an entry
abbrev pub all_committed : Entry Item → Shared → Shared
all_committed entry shared =
    counted_in entry (record shared { base = record (shared.base) { tables = tables_with shared.changes shared.base.tables }; changes = [] })

abbrev pub closed : {I : Type 0} → Session I → Session I
closed session = record session { transaction = None }

-- the entry of a transaction that is committed at the moment of a context
abbrev pub transaction_of : {I : Type 0} → Call I → Context → List I → Entry I
transaction_of call context items = Transaction context.stamp call.identity.server_id items

-- as the log has it
abbrev pub logged_by : {I : Type 0} → Call I → Entry I → Entry Item
logged_by call entry = entry_by call.known.logged entry

-- one without items commits nothing and puts out no entry
abbrev pub commit_shared : {I : Type 0} → Call I → Context → List I → Shared → Shared
commit_shared call context [] shared = shared
commit_shared call context (i ∷ is) shared = all_committed (logged_by call (transaction_of call context (i ∷ is))) shared

abbrev pub commit_entries : {I : Type 0} → Call I → Context → List I → List (Entry I)
commit_entries call context [] = []
commit_entries call context (i ∷ is) = transaction_of call context (i ∷ is) ∷ []

-- the end of a transaction, with its changes
abbrev pub commit_open : {I : Type 0} → Call I → Shared → Session I → Turn I (Unit {0})
commit_open call shared session = record {
  shared = released call.number (commit_shared call session.vars.context (items_of session.transaction) shared);
  session = closed session;
  committed = commit_entries call session.vars.context (items_of session.transaction);
  given = tt;
}

-- ---- a statement's changes kept

-- the definitions of the tables that some changes change
abbrev pub definitions_changed : List Object → List Change → List TableDef
definitions_changed catalog changes = filter (λ (d : TableDef). is_among (map table_of changes) d.name) (definitions_in catalog)

-- a statement's item, as the format of its session has it
abbrev pub item_of : {I : Type 0} → Call I → Format → Left → List ℕ → Statement → Context → Shared → Option ℤ → List Change → I
item_of call format left text tree context shared first changes =
    call.known.note
    (record {
      text = text;
      carried = carried shared.base.catalog tree context first;
      rows = logs_rows format (reasons shared.base.catalog tree);
      defs = definitions_changed shared.base.catalog changes;
      changes = changes;
    })
    (record {
      tree = tree;
      counters = shared.counters;
      catalog = shared.base.catalog;
      context = context;
      draw = call.draw;
      nesting = left.nesting;
      turns = left.turns;
      uuids = left.uuids;
    })

-- outside a transaction an item is one by itself; in an open one it goes last, and the session keeps the lock
abbrev pub kept_shared : {I : Type 0} → Call I → Context → I → Option (Open I) → Scene → Shared → Shared
kept_shared call context item None scene shared =
    all_committed (logged_by call (transaction_of call context (item ∷ []))) (record shared { changes = scene.changes })
kept_shared call context item (Some open') scene shared = record shared { changes = scene.changes; writer = Some call.number }

abbrev pub kept_open : {I : Type 0} → I → Option (Open I) → Option (Open I)
kept_open item None = None
kept_open item (Some open') = Some (record open' { items = open'.items ++ item ∷ []; changed = true })

abbrev pub kept_entries : {I : Type 0} → Call I → Context → I → Option (Open I) → List (Entry I)
kept_entries call context item None = transaction_of call context (item ∷ []) ∷ []
kept_entries call context item (Some open') = []

abbrev pub keep : {I : Type 0} {A : Type 0} → Call I → I → Scene → Shared → Session I → A → Turn I A
keep call item scene shared session a = record {
  shared = kept_shared call session.vars.context item session.transaction scene shared;
  session = record session { transaction = kept_open item session.transaction };
  committed = kept_entries call session.vars.context item session.transaction;
  given = a;
}

-- ---- one statement run

abbrev pub setting_of : List Object → Context → ℕ → Setting
setting_of catalog context uuid = record { catalog = catalog; context = context; uuid = uuid }

-- the rows that a session's statement reads: the holder of the lock its own changes, too, every other one the committed rows
abbrev pub scene_for : ℕ → Left → Context → Shared → Scene
scene_for n left context shared = record {
  tables = if is_other n shared.writer then shared.base.tables else tables_with shared.changes shared.base.tables;
  changes = if is_other n shared.writer then [] else shared.changes;
  counters = shared.counters;
  seeds = context.seeds;
  turns = left.turns;
  uuids = left.uuids;
}

-- the changes that a statement made behind those before it; one that reads beside another session's open changes makes none
abbrev pub made_behind : Bool → Scene → Scene → List Change
made_behind true before after = []
made_behind false before after = drop (length before.changes) after.changes

-- what is used stays used, whatever the end: counters; seeds, a forced INSERT_ID, LAST_INSERT_ID
abbrev pub with_counters : Scene → Shared → Shared
with_counters scene shared = record shared { counters = scene.counters }

abbrev pub with_context : {I : Type 0} → Context → Session I → Session I
with_context context session = record session { vars = record (session.vars) { context = context } }

-- What a statement gives: a result, or an error, with what is left to the command, and whether its item is warned.
pub record Given (A : Type 0) : Type 0 where
  pub result : Result A ℕ
  pub fuel : Fuel
  pub warned : Bool

abbrev pub fuel_of : Scene → Fuel
fuel_of scene = record { turns = scene.turns; uuids = scene.uuids }

-- an error: what the statement changed is taken back, and what it used stays used
abbrev pub undone : {I : Type 0} {A : Type 0} → ℕ → Statement → Shared → Session I → Scene → Turn I (Given A)
undone code tree shared session scene = record {
  shared = with_counters scene shared;
  session = with_context (context_after session.vars.context tree scene.seeds None) session;
  committed = [];
  given = record { result = Err code; fuel = fuel_of scene; warned = false };
}

-- 1197: with one item more the transaction has too many bytes
abbrev pub takes_too_much : {I : Type 0} → Call I → Option (Open I) → I → Bool
takes_too_much call transaction item = are_too_large (map call.known.logged (items_of transaction ++ item ∷ []))

-- the changes of a statement kept as its item; one that changed nothing leaves no item
abbrev pub settle : {I : Type 0} {A : Type 0} → Call I → (List Change → I) → List Change → Scene → Shared → Session I → Given A → (refusal : Turn I (Given A)) → Turn I (Given A)
settle call item [] scene shared session given refusal = record { shared = shared; session = session; committed = []; given = given }
settle call item (c ∷ cs) scene shared session given refusal =
    if takes_too_much call session.transaction (item (c ∷ cs)) then refusal else keep call (item (c ∷ cs)) scene shared session given

-- a statement is warned where it changed something and its item is logged by its text, though that is unsafe
abbrev pub is_warned : Format → List Object → Statement → List Change → Bool
is_warned format catalog tree [] = false
is_warned format catalog tree (c ∷ cs) = warns format (reasons catalog tree)

-- what a statement that ended without an error gives
abbrev pub given_by : {A : Type 0} → A → Scene → (warned : Bool) → Given A
given_by a scene warned = record { result = Ok a; fuel = fuel_of scene; warned = warned }

-- how a statement that began on a scene ended: its text and its tree make the item
abbrev pub ended : {I : Type 0} {A : Type 0} → Call I → Left → List ℕ → Statement → Shared → Session I → (A → Option ℤ) → (A → Option ℤ) → Scene → Ending A → Turn I (Given A)
ended call left text tree shared session first last_id before (done a scene) =
    let made = made_behind (is_other call.number shared.writer) before scene in
    settle call (item_of call session.format left text tree session.vars.context shared (first a)) made scene (with_counters scene shared)
    (with_context (context_after session.vars.context tree scene.seeds (last_id a)) session)
    (given_by a scene (is_warned session.format shared.base.catalog tree made)) (undone 1197 tree shared session scene)
ended call left text tree shared session first last_id before (failed code scene) = undone code tree shared session scene

-- a change, a SELECT or a DO
abbrev pub statement_run : {I : Type 0} → Call I → Left → List ℕ → Statement → Shared → Session I → Turn I (Given Did)
statement_run call left text s shared session =
    let before = scene_for call.number left session.vars.context shared in
    ended call left text s shared session (λ (did : Did). did.first) (λ (did : Did). did.last_id) before
    (effect (setting_of shared.base.catalog session.vars.context (number_of_bytes 0 call.draw.uuid)) left.nesting [] s before)

-- the values of expressions where locals are in scope; its text and its tree make the item
abbrev pub values_run : {I : Type 0} → Call I → Left → List ℕ → Statement → List Local → Trees → Shared → Session I → Turn I (Given (List Value))
values_run call left text tree locals ts shared session =
    let before = scene_for call.number left session.vars.context shared in
    ended call left text tree shared session (λ _. None) (λ _. None) before
    (evaluation (setting_of shared.base.catalog session.vars.context (number_of_bytes 0 call.draw.uuid)) left.nesting locals ts before)

-- the values of expressions that a session evaluates, as the DO over them
abbrev pub expressions_run : {I : Type 0} → Call I → Left → List ℕ → Trees → Shared → Session I → Turn I (Given (List Value))
expressions_run call left text ts shared session = values_run call left text (evaluate ts) [] ts shared session

-- a value that is refused behind its evaluation is an error of the evaluation
abbrev pub unless_misfit : {A : Type 0} → Option ℕ → A → Scene → Ending A
unless_misfit None a scene = done a scene
unless_misfit (Some code) a scene = failed code scene

abbrev pub fitted : {A : Type 0} → (misfit : A → Option ℕ) → Ending A → Ending A
fitted misfit (done a scene) = unless_misfit (misfit a) a scene
fitted misfit (failed code scene) = failed code scene

-- the same where the values may be refused: then what their evaluation changed is taken back
abbrev pub fitted_run : {I : Type 0} → Call I → Left → List ℕ → Trees → (misfit : List Value → Option ℕ) → Shared → Session I → Turn I (Given (List Value))
fitted_run call left text ts misfit shared session =
    let before = scene_for call.number left session.vars.context shared in
    ended call left text (evaluate ts) shared session (λ _. None) (λ _. None) before
    (fitted misfit (evaluation (setting_of shared.base.catalog session.vars.context (number_of_bytes 0 call.draw.uuid)) left.nesting [] ts before))

-- the answer of a statement, which shows whether it is warned; an error shows no warning
abbrev pub did_answer : (warned : Bool) → Did → Answer
did_answer warned did = option_map_or (showing warned) did.shown (ok_warned warned did.affected)

abbrev pub given_answer : Given Did → Answer
given_answer given = elim (given.result) [ Ok did ↦ did_answer given.warned did | Err code ↦ refused code ]
