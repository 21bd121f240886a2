-- A definition, as the machine makes it.
use Rattle.std.proofs.Common.{◌≡◌, ℕ, ◌+◌, ◌<◌, ◌||◌, nat_le, List, [], ◌∷◌, ◌++◌, Bool, true, false, if◌then◌else◌, Option, Some, None, unwrap_or, Result, Ok, Err, IfOk, refl, sym, ap, ◌∙◌, subst, append-nil}
use Rattle.std.specs.Option.{option_map}
use Rattle.std.proofs.lemmas.Bool.{leb-false}
use Rattle.port_traits.specs.declared.identity.Draw.{Draw}
use Rattle.port_traits.specs.declared.identity.Identity.{Identity}
use Rattle.val_types.specs.declared.change.Change.{Change}
use Rattle.auto_inc.specs.declared.counters.Counter.{Counter}
use Rattle.answer_text.specs.declared.answer.Answer.{Answer}
use Rattle.table_rules.specs.Tables.{Table}
use Rattle.table_rules.proofs.Equations.{applied_none}
use Rattle.session_transaction.specs.catalog_rules.Bases.{Base, defined}
use Rattle.session_transaction.specs.catalog_rules.Creating.{ddl_refusal, first_refusal, table_checks}
use Rattle.session_transaction.specs.catalog_objects.Keys.{objects_of}
use Rattle.sql_tree.specs.Statement.{Statement, create_table}
use Rattle.sql_tree.specs.declared.statements.CreateTable.{CreateTable}
use Rattle.session_transaction.specs.catalog_rules.Objects.{Object}
use Rattle.session_transaction.specs.sql_meaning.Frames.{Context}
use Rattle.session_transaction.specs.sql_reach.Defining.{counters_after}
use Rattle.session_transaction.specs.log_entries.declared.entries.Item.{Item}
use Rattle.session_transaction.specs.log_entries.declared.entries.Entry.{Entry}
use Rattle.session_transaction.specs.log_entries.declared.entries.Entry.TheVariants.{Definition}
use Rattle.session_transaction.specs.log_model.Log.{LogPlace, behind}
use Rattle.session_transaction.specs.binlog_items.Items.{item_by_text}
use Rattle.session_transaction.specs.session_shared.waiting_entries.declared.making.Made.{Made}
use Rattle.session_transaction.specs.session_shared.waiting_entries.declared.waiting.Waiting.{Waiting}
use Rattle.session_transaction.specs.session_shared.waiting_entries.Waiting.{Leaves}
use Rattle.session_transaction.specs.session_shared.waiting_entries.Making.{has_place}
use Rattle.session_transaction.specs.session_shared.waiting_entries.store_model.declared.record.Head.{Head}
use Rattle.session_transaction.specs.prog_work.declared.meter.Outcome.{Outcome}
use Rattle.session_transaction.specs.prog_work.Contents.{Contents, base_of, committed_tables, without_changes}
use Rattle.session_transaction.specs.prog_work.Defining.{Makes}
use Rattle.session_transaction.specs.proc_model.Procedures.{plain_refusal}
use Rattle.session_transaction.specs.proc_model.Talk.{Refusal}
use Rattle.session_model.specs.Answers.{ok, refused, refused_as}
use Rattle.session_model.specs.Sessions.{Session, Shared}
use Rattle.session_model.specs.Running.{Turn, commit_entries, commit_open, commit_shared, counted_in, held_by, is_full, is_other, items_of, transaction_of, writing_refusal}
use Rattle.session_model.specs.Commands.{define_turn, definition_turn, made_turn, unless_answered, with_answer}
use Rattle.session_transaction.specs.session_shared.declared.desk.Desk.{Desk}
use Rattle.session_transaction.specs.session_shared.declared.logged.Logged.{Logged}
use Rattle.session_transaction.specs.session_statement.Calls.{call_of}
use Rattle.session_transaction.specs.session_shared.Desk.{has_any, place_of, shared_by, shared_of}
use Rattle.session_transaction.specs.session_shared.Logging.{Logs}
use Rattle.session_transaction.specs.session_statement.Turned.{IsTurn, Moves, behind_turn, not_begun}
use Rattle.session_transaction.proofs.of_session_shared.Logging.{entry_place, log_on, logs_from, one_logged, same_entry, with_made}
use Rattle.session_transaction.proofs.of_session_statement.Turns.{turn_is}

pub none_if : (cs : List Change) → has_any cs ≡ false → cs ≡ []
none_if [] e = refl
none_if (c ∷ cs) e = cc

-- where no change is open, the rows as they stand are those that were last committed
pub none_open : (c : Contents) → c.changes ≡ [] → committed_tables c ≡ c.tables
none_open c none = ap (λ cs. without_changes cs c.tables) none ∙ ap (λ o. unwrap_or o c.tables) (applied_none c.tables)

made_shared : (s : Statement) (told : Outcome) (old new : Contents) (writer : Option ℕ) (count : ℕ) (place later : LogPlace) → old.changes ≡ [] → Makes s told old new
    → shared_by new writer (count + 1) later ≡ record (shared_by old writer count place) { base = base_of new; counters = counters_after s old.counters; committed = count + 1; place = later }
made_shared s told old new writer count place later none makes =
    ap (λ (ts : List Table). record { base = record { catalog = objects_of new.objects; tables = ts }; counters = new.counters; changes = new.changes; writer = writer; committed = count + 1; place = later }) (none_open new (makes.changes ∙ none))
    ∙ ap (λ (cs : List Change). record { base = base_of new; counters = new.counters; changes = cs; writer = writer; committed = count + 1; place = later }) makes.changes
    ∙ ap (λ (ks : List Counter). record { base = base_of new; counters = ks; changes = old.changes; writer = writer; committed = count + 1; place = later }) makes.counters

made_base : (s : Statement) (told : Outcome) (old new : Contents) (writer : Option ℕ) (count : ℕ) (place : LogPlace) → old.changes ≡ [] → Makes s told old new
    → defined s (shared_by old writer count place).base ≡ Some (base_of new)
made_base s told old new writer count place none makes =
    ap (λ (ts : List Table). defined s (record { catalog = objects_of old.objects; tables = ts })) (none_open old none) ∙ makes.base

-- ---- a turn

module _ (identity : Identity) (draw : Draw) (n : ℕ) (text : List ℕ) (s : Statement) where
  -- the entry of a definition
  abbrev entry_in : Context → Entry Item
  entry_in context = Definition context.stamp identity.server_id (item_by_text text context)

  pub made_now : (told : Outcome) (old new : Desk) (work : Contents) (session after : Session Item) (made : Made) (answer : Answer) → old.work.changes ≡ [] → new.committed ≡ old.committed + 1 → new.lock ≡ old.lock → new.work ≡ work
      → Makes s told old.work work → new.log ≡ with_made old.log made → Leaves (entry_in session.vars.context) old.committed (place_of old.log) made → after ≡ session → answer ≡ ok 0
      → IsTurn old new after answer (made_turn (call_of identity draw n) text s (defined s (shared_of old).base) (not_begun (shared_of old) session))
  made_now told old new work session after made answer none more lock is makes put leaves same said =
      let place : place_of new.log ≡ behind (entry_in session.vars.context) old.committed (place_of old.log) =
      entry_place (entry_in session.vars.context) old.log new.log made old.committed put leaves in
      let shared : shared_of new ≡ counted_in (entry_in session.vars.context) (record (shared_of old) { base = base_of work; counters = counters_after s old.work.counters }) =
      ap (λ (c : Contents). shared_by c new.lock new.committed (place_of new.log)) is
      ∙ ap (λ (w : Option ℕ). shared_by work w new.committed (place_of new.log)) lock
      ∙ ap (λ (k : ℕ). shared_by work old.lock k (place_of new.log)) more
      ∙ ap (λ (p : LogPlace). shared_by work old.lock (old.committed + 1) p) place
      ∙ made_shared s told old.work work old.lock old.committed (place_of old.log) (behind (entry_in session.vars.context) old.committed (place_of old.log)) none makes in
      subst (λ (o : Option Base). IsTurn old new after answer (made_turn (call_of identity draw n) text s o (not_begun (shared_of old) session)))
      (sym (made_base s told old.work work old.lock old.committed (place_of old.log) none makes))
      ((shared, same, one_logged (entry_in session.vars.context) old new made put leaves), said)

  -- ---- behind the implicit commit

  made_behind : (made : Option Base) (t : Turn Item (Unit {0})) → made_turn (call_of identity draw n) text s made t ≡ behind_turn t (made_turn (call_of identity draw n) text s made (not_begun t.shared t.session))
  made_behind None t = ap (λ (es : List (Entry Item)). record { shared = t.shared; session = t.session; committed = es; given = refused 30005 }) (sym (append-nil t.committed))
  made_behind (Some base) t = refl

  answered_behind : (o : Option Answer) (t : Turn Item (Unit {0})) (u v : Turn Item Answer) → u ≡ behind_turn t v
      → unless_answered o t u ≡ behind_turn t (unless_answered o (not_begun t.shared t.session) v)
  answered_behind None t u v e = e
  answered_behind (Some answer) t u v e = ap (λ (es : List (Entry Item)). record { shared = t.shared; session = t.session; committed = es; given = answer }) (sym (append-nil t.committed))

  defined_behind : (t : Turn Item (Unit {0})) → define_turn (call_of identity draw n) text s t ≡ behind_turn t (define_turn (call_of identity draw n) text s (not_begun t.shared t.session))
  defined_behind t =
      answered_behind (option_map refused (ddl_refusal t.shared.base.catalog s)) t (unless_answered (writing_refusal n t.shared) t (made_turn (call_of identity draw n) text s (defined s t.shared.base) t))
      (unless_answered (writing_refusal n t.shared) (not_begun t.shared t.session) (made_turn (call_of identity draw n) text s (defined s t.shared.base) (not_begun t.shared t.session)))
      (answered_behind (writing_refusal n t.shared) t (made_turn (call_of identity draw n) text s (defined s t.shared.base) t) (made_turn (call_of identity draw n) text s (defined s t.shared.base) (not_begun t.shared t.session))
      (made_behind (defined s t.shared.base) t))

  -- the same place, and the same that waits, are the same log
  log_is : (a b : Logged) → place_of a ≡ place_of b → a.waiting ≡ b.waiting → a ≡ b
  log_is a b place waiting =
      ap (λ (p : LogPlace). record { log = p.log; pos = p.pos; waiting = a.waiting }) place
      ∙ ap (λ (ws : List Waiting). record { log = b.log; pos = b.pos; waiting = ws }) waiting

  -- what the implicit commit logs, with what is logged behind it
  commit_logs : (context : Context) (items : List Item) (es : List (Entry Item)) (old ran new : Desk) → ran.committed ≡ (commit_shared (call_of identity draw n) context items (shared_of old)).committed
      → place_of ran.log ≡ (commit_shared (call_of identity draw n) context items (shared_of old)).place
      → Logs (commit_entries (call_of identity draw n) context items) old ran → Logs es ran new → Logs (commit_entries (call_of identity draw n) context items ++ es) old new
  commit_logs context [] es old ran new count place first second = logs_from es old ran new (log_is ran.log old.log place first.0) count second
  commit_logs context (i ∷ is) es old ran new count place first second =
      let e : Entry Item = transaction_of (call_of identity draw n) context (i ∷ is) in
      log_on e es old ran new count (place ∙ ap (λ (x : Entry Item). behind x old.committed (place_of old.log)) (same_entry e)) first second

  released_count : (shared : Shared) (b : Bool) → (if b then shared else record shared { writer = None }).committed ≡ shared.committed
  released_count shared true = refl
  released_count shared false = refl

  released_place : (shared : Shared) (b : Bool) → (if b then shared else record shared { writer = None }).place ≡ shared.place
  released_place shared true = refl
  released_place shared false = refl

  pub defined_left : (old ran new : Desk) (session after later : Session Item) (answer : Answer)
      → Moves old ran after (commit_open (call_of identity draw n) (shared_of old) session)
      → IsTurn ran new later answer (define_turn (call_of identity draw n) text s (not_begun (shared_of ran) after))
      → IsTurn old new later answer (definition_turn (call_of identity draw n) text s (shared_of old) session)
  defined_left old ran new session after later answer moves turn =
      let t : Turn Item (Unit {0}) = commit_open (call_of identity draw n) (shared_of old) session in
      let u : Turn Item Answer = define_turn (call_of identity draw n) text s (not_begun t.shared t.session) in
      let committed : Shared = commit_shared (call_of identity draw n) session.vars.context (items_of session.transaction) (shared_of old) in
      let there : IsTurn ran new later answer u =
      subst (λ (one : Session Item). IsTurn ran new later answer (define_turn (call_of identity draw n) text s (not_begun t.shared one))) moves.1
      (subst (λ (shared : Shared). IsTurn ran new later answer (define_turn (call_of identity draw n) text s (not_begun shared after))) moves.0 turn) in
      let count : ran.committed ≡ committed.committed = ap (λ (shared : Shared). shared.committed) moves.0 ∙ released_count committed (is_other n committed.writer) in
      let place : place_of ran.log ≡ committed.place = ap (λ (shared : Shared). shared.place) moves.0 ∙ released_place committed (is_other n committed.writer) in
      let both : IsTurn old new later answer (behind_turn t u) =
      ((there.0.0, there.0.1, commit_logs session.vars.context (items_of session.transaction) u.committed old ran new count place moves.2 there.0.2), there.1) in
      turn_is old new later answer (behind_turn t u) (definition_turn (call_of identity draw n) text s (shared_of old) session)
      (sym (defined_behind t)) both

  pub defined_if : {E : Type 0} (r : Result Answer E) (old ran new : Desk) (session after later : Session Item)
      → Moves old ran after (commit_open (call_of identity draw n) (shared_of old) session)
      → IfOk r (λ answer. IsTurn ran new later answer (define_turn (call_of identity draw n) text s (not_begun (shared_of ran) after)))
      → IfOk r (λ answer. IsTurn old new later answer (definition_turn (call_of identity draw n) text s (shared_of old) session))
  defined_if (Ok answer) old ran new session after later moves turn = defined_left old ran new session after later answer moves turn
  defined_if (Err e) old ran new session after later moves turn = tt

-- ---- where nothing refuses what writes, one transaction more can be counted

full_if : (full : Bool) (held : Option Refusal) (b : Bool) → option_map refused_as (if b || full then Some (plain_refusal 30008) else held) ≡ None → b ≡ false
full_if full held true none = cc
full_if full held false none = refl

pub writing_few : (n : ℕ) (shared : Shared) → writing_refusal n shared ≡ None → shared.committed < 4294967295
writing_few n shared none = leb-false 4294967295 shared.committed (full_if (is_full shared.place) (held_by n shared.writer) (nat_le 4294967295 shared.committed) none)

-- ---- the checks of CREATE TABLE

pub creation_checks : (catalog : List Object) (t : CreateTable) → first_refusal (table_checks catalog t) ≡ ddl_refusal catalog (create_table t)
unfolding ddl_refusal
creation_checks catalog t = refl

-- what was made for the place that a head speaks of was made for that place
pub leaves_at : (e : Entry Item) (h : Head) (committed : ℕ) (l : Logged) (made : Made) → h ≡ record { number = committed; log = l.log; pos = l.pos }
    → Leaves e h.number (has_place h) made → Leaves e committed (place_of l) made
leaves_at e h committed l made is leaves = subst (λ (x : Head). Leaves e x.number (has_place x) made) is leaves
