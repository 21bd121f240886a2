-- What each command of a session does: one definition a command.
use Rattle.std.specs.Prelude.{ℕ, Bool, false, not, nat_lt, if◌then◌else◌, List, [], ◌∷◌, ◌++◌, length, filter, find, map, take, Option, Some, None, Result, Ok, Err, is_some}
use Rattle.std.specs.Option.{option_map}
use Rattle.val_types.specs.declared.value.Value.{Value}
use Rattle.sql_print.specs.StatementSpelling.{spelling}
use Rattle.sql_tree.specs.Statement.{Statement, set_all, evaluate}
use Rattle.sql_tree.specs.Tree.{Tree, Trees, no_tree, tree}
use Rattle.sql_tree.specs.declared.statements.Target.{Target}
use Rattle.session_ctx.specs.catalog_rules.Names.{same_name, first_made}
use Rattle.session_ctx.specs.catalog_rules.Bases.{Base, defined}
use Rattle.session_ctx.specs.catalog_rules.Bodies.{format_name}
use Rattle.session_ctx.specs.catalog_rules.Checks.{session_scope, statement_refusal}
use Rattle.session_ctx.specs.catalog_rules.Creating.{ddl_refusal}
use Rattle.binlog_sizes.specs.log_entries.declared.carried.Carried.{Carried}
use Rattle.binlog_sizes.specs.log_entries.declared.entries.Entry.{Entry}
use Rattle.binlog_sizes.specs.log_entries.declared.entries.Entry.TheVariants.{Definition}
use Rattle.answer_text.specs.declared.answer.Answer.{Answer}
use Rattle.session_ctx.specs.sql_meaning.Frames.{Context}
use Rattle.session_ctx.specs.sql_meaning.Changing.{Did}
use Rattle.session_ctx.specs.sql_meaning.Running.{most_nested}
use Rattle.proc_model.specs.sql_reach.Defining.{counters_after}
use Rattle.proc_model.specs.Procedures.{assignments_of}
use Rattle.session_model.specs.Answers.{ok, ok_warned, refused}
use Rattle.session_model.specs.Formats.{format_for, format_refusal}
use Rattle.session_model.specs.declared.format.Format.{Format}
use Rattle.session_model.specs.Sessions.{Save, Open, just_opened, Session, Shared}
use Rattle.session_model.specs.Running.{Call, full, Turn, Given, is_other, writing_refusal, lock_refusal, closed, commit_open, counted_in, logged_by, statement_run, fitted_run, given_answer}
use Rattle.session_ctx.specs.Variables.{setting, fitting, assigned}
use Rattle.session_ctx.specs.declared.session.SessionVars.{SessionVars}
use Rattle.binlog_sizes.specs.log_entries.Variables.{variable_set}
use Rattle.binlog_sizes.specs.Sizes.{most_text}

-- a command that changes nothing of what is shared
abbrev pub answered : {I : Type 0} → Answer → Shared → Session I → Turn I Answer
answered answer shared session = record { shared = shared; session = session; committed = []; given = answer }

abbrev pub with_answer : {I : Type 0} {A : Type 0} → Answer → Turn I A → Turn I Answer
with_answer answer t = record { shared = t.shared; session = t.session; committed = t.committed; given = answer }

-- ---- transactions

abbrev pub opened : {I : Type 0} → Session I → Session I
opened session = record session { transaction = Some just_opened }

-- BEGIN commits the open transaction, and opens one
abbrev pub begin_turn : {I : Type 0} → Call I → Shared → Session I → Turn I Answer
begin_turn call shared session =
    let t = commit_open call shared session in
    record { shared = t.shared; session = opened t.session; committed = t.committed; given = ok 0 }

abbrev pub commit_turn : {I : Type 0} → Call I → Shared → Session I → Turn I Answer
commit_turn call shared session = with_answer (ok 0) (commit_open call shared session)

-- the open changes of a session dropped, with its lock; those of another stay
abbrev pub dropped : ℕ → Shared → Shared
dropped n shared = if is_other n shared.writer then shared else record shared { changes = []; writer = None }

abbrev pub rollback_turn : {I : Type 0} → Call I → Shared → Session I → Turn I Answer
rollback_turn call shared session = answered (ok 0) (dropped call.number shared) (closed session)

-- ---- savepoints

abbrev pub is_save_of : List ℕ → Save → Bool
is_save_of name save = same_name name save.name

abbrev pub saves_but : List ℕ → List Save → List Save
saves_but name saves = filter (λ (s : Save). not (is_save_of name s)) saves

-- how many changes a session's transaction has
abbrev pub changes_of_own : ℕ → Shared → ℕ
changes_of_own n shared = if is_other n shared.writer then 0 else length shared.changes

-- SAVEPOINT: one of the name in use moves; outside a transaction it does nothing
abbrev pub saved : {I : Type 0} → List ℕ → ℕ → Open I → Open I
saved name changes open' =
    record open' { saves = saves_but name open'.saves ++ record { name = name; items = length open'.items; changes = changes } ∷ [] }

abbrev pub save_turn : {I : Type 0} → Call I → List ℕ → Shared → Session I → Turn I Answer
save_turn call name shared session =
    answered (ok 0) shared (record session { transaction = option_map (saved name (changes_of_own call.number shared)) session.transaction })

-- the savepoints up to the one of a name, which stays
abbrev pub saves_up_to : List ℕ → List Save → List Save
saves_up_to name [] = []
saves_up_to name (s ∷ ss) = if is_save_of name s then s ∷ [] else s ∷ saves_up_to name ss

-- what stands at a savepoint: the first so many items
abbrev pub cut_back : {I : Type 0} → List ℕ → Save → Open I → Open I
cut_back name save open' = record open' { items = take save.items open'.items; saves = saves_up_to name open'.saves }

abbrev pub changes_cut : ℕ → Save → Shared → Shared
changes_cut n save shared = if is_other n shared.writer then shared else record shared { changes = take save.changes shared.changes }

-- ROLLBACK TO: 1305 outside a transaction, and where there is no savepoint of the name
abbrev pub back_to_save : {I : Type 0} → Call I → List ℕ → Open I → Option Save → Shared → Session I → Turn I Answer
back_to_save call name open' None shared session = answered (refused 1305) shared session
back_to_save call name open' (Some save) shared session =
    answered (ok 0) (changes_cut call.number save shared) (record session { transaction = Some (cut_back name save open') })

abbrev pub back_in : {I : Type 0} → Call I → List ℕ → Option (Open I) → Shared → Session I → Turn I Answer
back_in call name None shared session = answered (refused 1305) shared session
back_in call name (Some open') shared session = back_to_save call name open' (find (is_save_of name) open'.saves) shared session

abbrev pub back_turn : {I : Type 0} → Call I → List ℕ → Shared → Session I → Turn I Answer
back_turn call name shared session = back_in call name session.transaction shared session

-- RELEASE drops the savepoint of the name alone
abbrev pub release_in : {I : Type 0} → List ℕ → Option (Open I) → Shared → Session I → Turn I Answer
release_in name None shared session = answered (refused 1305) shared session
release_in name (Some open') shared session =
    if is_some (find (is_save_of name) open'.saves)
    then answered (ok 0) shared (record session { transaction = Some (record open' { saves = saves_but name open'.saves }) })
    else answered (refused 1305) shared session

-- ---- CREATE, DROP and TRUNCATE

-- a definition carries its moment, its session and the two AUTO_INCREMENT variables
abbrev pub definition_carried : Context → Carried
definition_carried context = record {
  stamp = context.stamp;
  connection = context.connection;
  inc = context.increment;
  off = context.offset;
  last_id = None;
  first = None;
  seeds = None;
  vars = [];
}

abbrev pub definition_item : {I : Type 0} → Call I → List ℕ → Statement → Context → Shared → I
definition_item call text s context shared =
    call.known.note
    (record { text = text; carried = definition_carried context; rows = false; defs = []; changes = [] })
    (record {
      tree = s;
      counters = shared.counters;
      catalog = shared.base.catalog;
      context = context;
      draw = call.draw;
      nesting = most_nested;
      turns = full.turns;
      uuids = full.uuids;
    })

abbrev pub definition_entry : {I : Type 0} → Call I → List ℕ → Statement → Context → Shared → Entry I
definition_entry call text s context shared =
    Definition context.stamp call.identity.server_id (definition_item call text s context shared)

-- a definition made is a transaction by itself
abbrev pub defined_turn : {I : Type 0} → Call I → List ℕ → Statement → Base → Turn I (Unit {0}) → Turn I Answer
defined_turn call text s base t = record {
  shared = counted_in (logged_by call (definition_entry call text s t.session.vars.context t.shared))
      (record (t.shared) { base = base; counters = counters_after s t.shared.counters });
  session = t.session;
  committed = t.committed ++ definition_entry call text s t.session.vars.context t.shared ∷ [];
  given = ok 0;
}

abbrev pub made_turn : {I : Type 0} → Call I → List ℕ → Statement → Option Base → Turn I (Unit {0}) → Turn I Answer
made_turn call text s None t = with_answer (refused 30005) t
made_turn call text s (Some base) t = defined_turn call text s base t

-- an answer that refuses, or what comes where nothing does
abbrev pub unless_answered : {I : Type 0} {A : Type 0} → Option Answer → Turn I A → Turn I Answer → Turn I Answer
unless_answered None t next = next
unless_answered (Some answer) t next = with_answer answer t

-- the catalog's checks, then those of every statement that writes
abbrev pub define_turn : {I : Type 0} → Call I → List ℕ → Statement → Turn I (Unit {0}) → Turn I Answer
define_turn call text s t =
    unless_answered (option_map refused (ddl_refusal t.shared.base.catalog s)) t
    (unless_answered (writing_refusal call.number t.shared) t (made_turn call text s (defined s t.shared.base) t))

-- the open transaction is committed first, whatever comes of the definition
abbrev pub definition_turn : {I : Type 0} → Call I → List ℕ → Statement → Shared → Session I → Turn I Answer
definition_turn call text s shared session =
    define_turn call text s (commit_open call shared session)

-- ---- SET

abbrev pub trees_of : List Tree → Trees
trees_of [] = no_tree
trees_of (t ∷ ts) = tree t (trees_of ts)

-- a text of more bytes than a command may have
abbrev pub is_too_long : List ℕ → Bool
is_too_long text = nat_lt most_text (length text)

-- what refuses an assignment: a user variable takes every value, a session variable those of its own
abbrev pub refusal_of : Result (Unit {0}) ℕ → Option ℕ
refusal_of (Ok done) = None
refusal_of (Err code) = Some code

-- to a session variable, where a transaction is open or not
abbrev pub variable_refusal : (is_open : Bool) → List ℕ → Value → Option ℕ
variable_refusal is_open n v =
    if same_name n format_name then format_refusal is_open (format_for v) else refusal_of (fitting (setting n v))

abbrev pub assignment_refusal : (is_open : Bool) → Target × Value → Option ℕ
assignment_refusal is_open (Target.User n, v) = None
assignment_refusal is_open (Target.Plain n, v) = variable_refusal is_open n v
assignment_refusal is_open (Target.System n, v) = variable_refusal is_open n v
assignment_refusal is_open (Target.New c, v) = Some 1193

-- the refusal of the first assignment that is refused
abbrev pub first_refused : (is_open : Bool) → List (Target × Value) → Option ℕ
first_refused is_open as' = first_made (assignment_refusal is_open) as'

abbrev pub with_variable : List ℕ → Value → SessionVars → SessionVars
with_variable n v vars = record vars { context = record (vars.context) { variables = variable_set vars.context.variables n v } }

abbrev pub with_vars : {I : Type 0} → SessionVars → Session I → Session I
with_vars vars session = record session { vars = vars }

abbrev pub with_format : {I : Type 0} → Result Format ℕ → Session I → Session I
with_format (Ok format) session = record session { format = format }
with_format (Err code) session = session

-- a session variable set, the log's format among them
abbrev pub with_setting : {I : Type 0} → List ℕ → Value → Session I → Session I
with_setting n v session =
    if same_name n format_name then with_format (format_for v) session else with_vars (assigned (setting n v) session.vars) session

-- an assignment that nothing refuses
abbrev pub assign : {I : Type 0} → Session I → Target × Value → Session I
assign session (Target.User n, v) = with_vars (with_variable n v session.vars) session
assign session (Target.Plain n, v) = with_setting n v session
assign session (Target.System n, v) = with_setting n v session
assign session (Target.New c, v) = session

-- assignments from left to right
abbrev pub all_assigned : {I : Type 0} → Session I → List (Target × Value) → Session I
all_assigned session [] = session
all_assigned session (a ∷ as') = all_assigned (assign session a) as'

-- what refuses the values of SET's expressions: the first assignment that is refused
abbrev pub set_misfit : (is_open : Bool) → List (Target × Tree) → List Value → Option ℕ
set_misfit is_open as' vs = first_refused is_open (assignments_of as' vs)

abbrev pub is_open : {I : Type 0} → Session I → Bool
is_open session = is_some session.transaction

-- all values assigned, or the error of their evaluation
abbrev pub set_by : {I : Type 0} → List (Target × Tree) → Result (List Value) ℕ → Turn I (Given (List Value)) → Turn I Answer
set_by as' (Err code) t = with_answer (refused code) t
set_by as' (Ok vs) t =
    record { shared = t.shared; session = all_assigned t.session (assignments_of as' vs); committed = t.committed; given = ok_warned t.given.warned 0 }

abbrev pub set_given : {I : Type 0} → List (Target × Tree) → Turn I (Given (List Value)) → Turn I Answer
set_given as' t = set_by as' t.given.result t

abbrev pub set_expressions : List (Target × Tree) → Trees
set_expressions as' = trees_of (map (λ (a : Target × Tree). a.1) as')

-- an answer that refuses, or what comes where nothing does
abbrev pub unless_refused : {I : Type 0} → Option Answer → Shared → Session I → Turn I Answer → Turn I Answer
unless_refused None shared session t = t
unless_refused (Some answer) shared session t = answered answer shared session

abbrev pub code_answer : Option ℕ → Option Answer
code_answer code = option_map refused code

-- SET: 1153 for the printed DO of its expressions, the catalog's checks, the lock, the values of all its expressions, then
-- all assignments; where one of these is refused, the evaluation is taken back and none is made
abbrev pub set_turn : {I : Type 0} → Call I → List (Target × Tree) → Shared → Session I → Turn I Answer
set_turn call as' shared session =
    let ts = set_expressions as' in
    let text = spelling (evaluate ts) in
    if is_too_long text then answered (refused 1153) shared session
    else
    unless_refused (code_answer (statement_refusal shared.base.catalog session_scope (set_all as'))) shared session
    (unless_refused (lock_refusal call.number shared (evaluate ts)) shared session
    (set_given as' (fitted_run call full text ts (set_misfit (is_open session) as') shared session)))

-- ---- changes, SELECT and DO

abbrev pub given_turn : {I : Type 0} → Turn I (Given Did) → Turn I Answer
given_turn t = with_answer (given_answer t.given) t

-- the catalog's checks, the lock, then the run
abbrev pub plain_turn : {I : Type 0} → Call I → List ℕ → Statement → Shared → Session I → Turn I Answer
plain_turn call text s shared session =
    unless_refused (code_answer (statement_refusal shared.base.catalog session_scope s)) shared session
    (unless_refused (lock_refusal call.number shared s) shared session (given_turn (statement_run call full text s shared session)))
