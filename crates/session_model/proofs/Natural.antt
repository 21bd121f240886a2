-- A node does on what it keeps of items what a whole run does on all that is known of them: one lemma a command.
use Rattle.std.proofs.Common.{◌≡◌, ℕ, ◌||◌, Bool, true, false, List, [], ◌∷◌, ◌++◌, map, find, Option, Some, None, Result, Ok, Err, ℤ, refl, sym, ◌∙◌, ap, cond}
use Rattle.std.proofs.lemmas.List.{map-append, length-map}
use Rattle.std.proofs.lemmas.List.{map-set}
use Rattle.std.proofs.Math.ListN.{get_or-map}
use Rattle.std.specs.List.{take-map}
use Rattle.std.specs.Prelude.{is_some, slice_index_or}
use Rattle.std.specs.Option.{option_map}
use Rattle.val_types.specs.declared.value.Value.{Value}
use Rattle.val_types.specs.declared.change.Change.{Change}
use Rattle.sql_tree.specs.Statement.{Statement, create_table, create_function, create_procedure, create_trigger, drop_table, drop_function, drop_procedure, drop_trigger, truncate, insert_into, replace_into, update_rows, delete_rows, select, evaluate, set_all, call_procedure, begin, commit, rollback, savepoint, rollback_to, release_savepoint, block, if_steps, while_steps, return_value}
use Rattle.sql_tree.specs.Tree.{Tree, Trees, no_tree, tree}
use Rattle.sql_locals.specs.declared.locals.Local.{Local}
use Rattle.sql_tree.specs.declared.statements.Target.{Target}
use Rattle.session_ctx.specs.catalog_rules.Bases.{Base, defined}
use Rattle.session_ctx.specs.catalog_rules.Checks.{session_scope, statement_refusal}
use Rattle.session_ctx.specs.catalog_rules.Creating.{ddl_refusal}
use Rattle.sql_print.specs.StatementSpelling.{spelling}
use Rattle.binlog_sizes.specs.log_entries.declared.entries.Item.{Item}
use Rattle.binlog_sizes.specs.log_entries.declared.entries.Entry.{Entry}
use Rattle.binlog_sizes.specs.log_entries.declared.entries.Entry.TheVariants.{Transaction}
use Rattle.binlog_sizes.specs.Sizes.{are_too_large}
use Rattle.answer_text.specs.declared.answer.Answer.{Answer}
use Rattle.port_traits.specs.declared.identity.Identity.{Identity}
use Rattle.port_traits.specs.declared.identity.Draw.{Draw}
use Rattle.session_ctx.specs.declared.session.SessionVars.{SessionVars}
use Rattle.session_ctx.specs.sql_meaning.Scenes.{Scene, Ending, done, failed}
use Rattle.session_ctx.specs.sql_meaning.Frames.{Context}
use Rattle.session_ctx.specs.sql_meaning.Changing.{Did}
use Rattle.session_ctx.specs.sql_meaning.Running.{context_after, effect, evaluation}
use Rattle.proc_model.specs.sql_reach.Defining.{counters_after, number_of_bytes}
use Rattle.proc_model.specs.sql_reach.Closing.{closed}
use Rattle.proc_model.specs.Talk.{Left, Refusal, Told}
use Rattle.proc_model.specs.Procedures.{Came, assignments_of, scope_of, called}
use Rattle.proc_model.proofs.Leading.{talk_seen}
use Rattle.text_answers.specs.Answers.{TextAnswer, a_statement, a_syntax_error, too_deep, text_answer}
use Rattle.session_model.specs.Answers.{ok, ok_warned, refused}
use Rattle.session_model.specs.Sessions.{Save, Open, Session, Shared, State}
use Rattle.session_model.specs.Running.{Call, full, Turn, Given, is_other, released, all_committed, counted_in, commit_shared, commit_open, keep, takes_too_much, undone, settle, ended, given_by, is_warned, statement_run, values_run, expressions_run, fitted, fitted_run, writing_refusal, lock_refusal, item_of, made_behind, with_counters, with_context, scene_for, setting_of}
use Rattle.session_model.specs.Commands.{answered, with_answer, definition_entry, begin_turn, commit_turn, save_turn, is_save_of, saves_but, changes_of_own, saves_up_to, changes_cut, back_to_save, back_in, release_in, defined_turn, made_turn, unless_answered, define_turn, definition_turn, is_open, set_by, set_given, set_expressions, set_misfit, code_answer, is_too_long, given_turn, unless_refused, set_turn, plain_turn}
use Rattle.session_model.specs.Calling.{Reached, reached_by, step_check, told_of, unless_checked, counted_by, with_counted, effect_of, same, run_step, evaluate_step, assign_step, steps_of, left_with, arguments_run, came_to, called_by, called_with, call_turn}
use Rattle.session_model.specs.declared.format.Format.{Format}
use Rattle.session_model.proofs.Assigning.{open_same, all_assigned_by}
use Rattle.session_model.specs.Machine.{statement_turn, text_turn, at_work, with_count, command, stepped, step, open_by, session_by, step_by, Whole, kept_of, whole, kept, kept_state, kept_entry, StepsAreKept}

-- what a node keeps of items is what the log has of them
logged_same : (is : List Whole) → map kept.logged (map kept_of is) ≡ map kept_of is
logged_same [] = refl
logged_same (i ∷ is) = ap (λ (items : List Item). kept_of i ∷ items) (logged_same is)

abbrev item_turn : {A : Type 0} → Turn Whole A → Turn Item A
item_turn t = record { shared = t.shared; session = session_by kept_of t.session; committed = map kept_entry t.committed; given = t.given }

stepped_by : (n : ℕ) (state : State Whole) (t : Turn Whole Answer) → stepped n (kept_state state) (item_turn t) ≡ step_by kept_of (stepped n state t)
stepped_by n state t =
    ap (λ (sessions : List (Option (Session Item))). record {
      state = record { shared = t.shared; sessions = sessions };
      answer = t.given;
      committed = map kept_entry t.committed;
    }) (sym (map-set (option_map (session_by kept_of)) state.sessions n (Some t.session)))

module _ (identity : Identity) (draw : Draw) (number : ℕ) where
  abbrev whole_call : Call Whole
  whole_call = record { identity = identity; draw = draw; number = number; known = whole }

  abbrev item_call : Call Item
  item_call = record { identity = identity; draw = draw; number = number; known = kept }

  -- ---- the end of a transaction
  shared_same : (context : Context) (is : List Whole) (shared : Shared) → commit_shared item_call context (map kept_of is) shared ≡ commit_shared whole_call context is shared
  shared_same context [] shared = refl
  shared_same context (i ∷ is) shared = ap (λ (items : List Item). all_committed (Transaction context.stamp identity.server_id items) shared) (logged_same (i ∷ is))

  -- a session with a format and a transaction, as another knows it
  abbrev session_of : {K : Type 0} → SessionVars → Format → Option (Open K) → Session K
  session_of vars format t = record { vars = vars; format = format; transaction = t }

  opened_by : (shared : Shared) (vars : SessionVars) (format : Format) (is : List Whole) (saves : List Save) (changed : Bool)
      → commit_open item_call shared (session_by kept_of (session_of vars format (Some (record { items = is; saves = saves; changed = changed }))))
      ≡ item_turn (commit_open whole_call shared (session_of vars format (Some (record { items = is; saves = saves; changed = changed }))))
  opened_by shared vars format [] saves changed = refl
  opened_by shared vars format (i ∷ is) saves changed =
      ap (λ (new : Shared). record {
        shared = released number new;
        session = session_of {K = Item} vars format None;
        committed = Transaction vars.context.stamp identity.server_id (map kept_of (i ∷ is)) ∷ [];
        given = tt;
      }) (shared_same vars.context (i ∷ is) shared)

  commit_by : (shared : Shared) (vars : SessionVars) (format : Format) (t : Option (Open Whole))
      → commit_open item_call shared (session_by kept_of (session_of vars format t)) ≡ item_turn (commit_open whole_call shared (session_of vars format t))
  commit_by shared vars format None = refl
  commit_by shared vars format (Some open') = opened_by shared vars format open'.items open'.saves open'.changed

  commit_natural : (shared : Shared) (session : Session Whole) → commit_open item_call shared (session_by kept_of session) ≡ item_turn (commit_open whole_call shared session)
  commit_natural shared session = commit_by shared session.vars session.format session.transaction

  -- ---- answers
  unless_natural : (o : Option Answer) (shared : Shared) (session : Session Whole) (t : Turn Item Answer) (u : Turn Whole Answer) → t ≡ item_turn u
      → unless_refused o shared (session_by kept_of session) t ≡ item_turn (unless_refused o shared session u)
  unless_natural None shared session t u e = e
  unless_natural (Some answer) shared session t u e = refl

  -- ---- transactions and savepoints
  begin_natural : (shared : Shared) (session : Session Whole) → begin_turn item_call shared (session_by kept_of session) ≡ item_turn (begin_turn whole_call shared session)
  begin_natural shared session =
      ap (λ (t : Turn Item (Unit {0})). record { shared = t.shared; session = record (t.session) { transaction = Some (record { items = []; saves = []; changed = false }) }; committed = t.committed; given = ok 0 })
      (commit_natural shared session)

  commit_turn_natural : (shared : Shared) (session : Session Whole) → commit_turn item_call shared (session_by kept_of session) ≡ item_turn (commit_turn whole_call shared session)
  commit_turn_natural shared session = ap (λ (t : Turn Item (Unit {0})). with_answer (ok 0) t) (commit_natural shared session)

  save_by : (name : List ℕ) (shared : Shared) (vars : SessionVars) (format : Format) (t : Option (Open Whole))
      → save_turn item_call name shared (session_by kept_of (session_of vars format t)) ≡ item_turn (save_turn whole_call name shared (session_of vars format t))
  save_by name shared vars format None = refl
  save_by name shared vars format (Some open') =
      ap (λ (n : ℕ). answered (ok 0) shared (session_of vars format (Some (record {
        items = map kept_of open'.items;
        saves = saves_but name open'.saves ++ record { name = name; items = n; changes = changes_of_own number shared } ∷ [];
        changed = open'.changed;
      })))) (length-map open'.items kept_of)

  cut_by : (name : List ℕ) (open' : Open Whole) (o : Option Save) (shared : Shared) (session : Session Whole)
      → back_to_save item_call name (open_by kept_of open') o shared (session_by kept_of session) ≡ item_turn (back_to_save whole_call name open' o shared session)
  cut_by name open' None shared session = refl
  cut_by name open' (Some save) shared session =
      ap (λ (is : List Item). answered (ok 0) (changes_cut number save shared) (session_of session.vars session.format (Some (record {
        items = is;
        saves = saves_up_to name open'.saves;
        changed = open'.changed;
      })))) (take-map kept_of save.items open'.items)

  back_by : (name : List ℕ) (t : Option (Open Whole)) (shared : Shared) (session : Session Whole)
      → back_in item_call name (option_map (open_by kept_of) t) shared (session_by kept_of session) ≡ item_turn (back_in whole_call name t shared session)
  back_by name None shared session = refl
  back_by name (Some open') shared session = cut_by name open' (find (is_save_of name) open'.saves) shared session

  released_by : (name : List ℕ) (open' : Open Whole) (b : Bool) (shared : Shared) (session : Session Whole)
      → cond b (answered (ok 0) shared (session_of {K = Item} session.vars session.format (Some (record { items = map kept_of open'.items; saves = saves_but name open'.saves; changed = open'.changed })))) (answered (refused 1305) shared (session_by kept_of session))
      ≡ item_turn (cond b (answered (ok 0) shared (session_of {K = Whole} session.vars session.format (Some (record { items = open'.items; saves = saves_but name open'.saves; changed = open'.changed })))) (answered (refused 1305) shared session))
  released_by name open' true shared session = refl
  released_by name open' false shared session = refl

  release_by : (name : List ℕ) (t : Option (Open Whole)) (shared : Shared) (session : Session Whole)
      → release_in name (option_map (open_by kept_of) t) shared (session_by kept_of session) ≡ item_turn (release_in name t shared session)
  release_by name None shared session = refl
  release_by name (Some open') shared session = released_by name open' (is_some (find (is_save_of name) open'.saves)) shared session

  -- ---- a statement's run
  keep_by : {A : Type 0} (item : Whole) (scene : Scene) (shared : Shared) (vars : SessionVars) (format : Format) (t : Option (Open Whole)) (a : A)
      → keep item_call (kept_of item) scene shared (session_by kept_of (session_of vars format t)) a ≡ item_turn (keep whole_call item scene shared (session_of vars format t) a)
  keep_by item scene shared vars format None a = refl
  keep_by {A = A} item scene shared vars format (Some open') a =
      ap (λ (is : List Item). record {
        shared = record shared { changes = scene.changes; writer = Some number };
        session = session_of vars format (Some (record { items = is; saves = open'.saves; changed = true }));
        committed = [];
        given = a;
      }) (sym (map-append kept_of open'.items (item ∷ [])))

  too_much_same : (t : Option (Open Whole)) (item : Whole) → takes_too_much item_call (option_map (open_by kept_of) t) (kept_of item) ≡ takes_too_much whole_call t item
  too_much_same None item = refl
  too_much_same (Some open') item =
      ap are_too_large (ap (map kept.logged) (sym (map-append kept_of open'.items (item ∷ []))) ∙ logged_same (open'.items ++ item ∷ []))

  refused_or : {A : Type 0} (b : Bool) (refusal t : Turn Whole A) (u : Turn Item A) → u ≡ item_turn t → cond b (item_turn refusal) u ≡ item_turn (cond b refusal t)
  refused_or true refusal t u e = refl
  refused_or false refusal t u e = e

  settle_by : {A : Type 0} (item : List Change → Whole) (cs : List Change) (scene : Scene) (shared : Shared) (session : Session Whole) (given : Given A) (refusal : Turn Whole (Given A))
      → settle item_call (λ changes. kept_of (item changes)) cs scene shared (session_by kept_of session) given (item_turn refusal) ≡ item_turn (settle whole_call item cs scene shared session given refusal)
  settle_by item [] scene shared session given refusal = refl
  settle_by {A = A} item (c ∷ cs) scene shared session given refusal =
      let kept_by : Turn Item (Given A) = keep item_call (kept_of (item (c ∷ cs))) scene shared (session_by kept_of session) given in
      ap (λ (b : Bool). cond b (item_turn refusal) kept_by) (too_much_same session.transaction (item (c ∷ cs)))
      ∙ refused_or (takes_too_much whole_call session.transaction (item (c ∷ cs))) refusal (keep whole_call (item (c ∷ cs)) scene shared session given) kept_by
      (keep_by (item (c ∷ cs)) scene shared session.vars session.format session.transaction given)

  ended_by : {A : Type 0} (left : Left) (text : List ℕ) (made_of : Statement) (shared : Shared) (session : Session Whole) (first last_id : A → Option ℤ) (before : Scene) (e : Ending A)
      → ended item_call left text made_of shared (session_by kept_of session) first last_id before e ≡ item_turn (ended whole_call left text made_of shared session first last_id before e)
  ended_by left text made_of shared session first last_id before (done a scene) =
      let made = made_behind (is_other number shared.writer) before scene in
      settle_by (item_of whole_call session.format left text made_of session.vars.context shared (first a)) made scene (with_counters scene shared)
      (with_context (context_after session.vars.context made_of scene.seeds (last_id a)) session) (given_by a scene (is_warned session.format shared.base.catalog made_of made)) (undone 1197 made_of shared session scene)
  ended_by left text made_of shared session first last_id before (failed code scene) = refl

  statement_by : (left : Left) (text : List ℕ) (s : Statement) (shared : Shared) (session : Session Whole)
      → statement_run item_call left text s shared (session_by kept_of session) ≡ item_turn (statement_run whole_call left text s shared session)
  statement_by left text s shared session =
      let before = scene_for number left session.vars.context shared in
      ended_by left text s shared session (λ (did : Did). did.first) (λ (did : Did). did.last_id) before
      (effect (setting_of shared.base.catalog session.vars.context (number_of_bytes 0 draw.uuid)) left.nesting [] s before)

  values_by : (left : Left) (text : List ℕ) (made_of : Statement) (locals : List Local) (ts : Trees) (shared : Shared) (session : Session Whole)
      → values_run item_call left text made_of locals ts shared (session_by kept_of session) ≡ item_turn (values_run whole_call left text made_of locals ts shared session)
  values_by left text made_of locals ts shared session =
      let before = scene_for number left session.vars.context shared in
      ended_by left text made_of shared session (λ _. None) (λ _. None) before
      (evaluation (setting_of shared.base.catalog session.vars.context (number_of_bytes 0 draw.uuid)) left.nesting locals ts before)

  expressions_by : (left : Left) (text : List ℕ) (ts : Trees) (shared : Shared) (session : Session Whole)
      → expressions_run item_call left text ts shared (session_by kept_of session) ≡ item_turn (expressions_run whole_call left text ts shared session)
  expressions_by left text ts shared session = values_by left text (evaluate ts) [] ts shared session

  -- ---- definitions
  defined_by : (text : List ℕ) (s : Statement) (base : Base) (t : Turn Whole (Unit {0}))
      → defined_turn item_call text s base (item_turn t) ≡ item_turn (defined_turn whole_call text s base t)
  defined_by text s base t =
      let entry : Entry Whole = definition_entry whole_call text s t.session.vars.context t.shared in
      ap (λ (es : List (Entry Item)). record {
        shared = counted_in (kept_entry entry) (record (t.shared) { base = base; counters = counters_after s t.shared.counters });
        session = session_by kept_of t.session;
        committed = es;
        given = ok 0;
      }) (sym (map-append kept_entry t.committed (entry ∷ [])))

  made_by : (text : List ℕ) (s : Statement) (o : Option Base) (t : Turn Whole (Unit {0}))
      → made_turn item_call text s o (item_turn t) ≡ item_turn (made_turn whole_call text s o t)
  made_by text s None t = refl
  made_by text s (Some base) t = defined_by text s base t

  answered_by : {A : Type 0} (o : Option Answer) (t : Turn Whole A) (u : Turn Item Answer) (v : Turn Whole Answer) → u ≡ item_turn v
      → unless_answered o (item_turn t) u ≡ item_turn (unless_answered o t v)
  answered_by None t u v e = e
  answered_by (Some answer) t u v e = refl

  define_by : (text : List ℕ) (s : Statement) (t : Turn Whole (Unit {0})) → define_turn item_call text s (item_turn t) ≡ item_turn (define_turn whole_call text s t)
  define_by text s t =
      answered_by (option_map refused (ddl_refusal t.shared.base.catalog s)) t
      (unless_answered (writing_refusal number t.shared) (item_turn t) (made_turn item_call text s (defined s t.shared.base) (item_turn t)))
      (unless_answered (writing_refusal number t.shared) t (made_turn whole_call text s (defined s t.shared.base) t))
      (answered_by (writing_refusal number t.shared) t (made_turn item_call text s (defined s t.shared.base) (item_turn t)) (made_turn whole_call text s (defined s t.shared.base) t)
      (made_by text s (defined s t.shared.base) t))

  definition_by : (text : List ℕ) (s : Statement) (shared : Shared) (session : Session Whole)
      → definition_turn item_call text s shared (session_by kept_of session) ≡ item_turn (definition_turn whole_call text s shared session)
  definition_by text s shared session =
      ap (λ (t : Turn Item (Unit {0})). define_turn item_call text s t) (commit_natural shared session) ∙ define_by text s (commit_open whole_call shared session)

  -- ---- SET, and statements that are run
  fitted_by : (left : Left) (text : List ℕ) (ts : Trees) (misfit : List Value → Option ℕ) (shared : Shared) (session : Session Whole)
      → fitted_run item_call left text ts misfit shared (session_by kept_of session) ≡ item_turn (fitted_run whole_call left text ts misfit shared session)
  fitted_by left text ts misfit shared session =
      let before = scene_for number left session.vars.context shared in
      ended_by {A = List Value} left text (evaluate ts) shared session (λ _. None) (λ _. None) before
      (fitted misfit (evaluation (setting_of shared.base.catalog session.vars.context (number_of_bytes 0 draw.uuid)) left.nesting [] ts before))

  set_given_by : (as' : List (Target × Tree)) (r : Result (List Value) ℕ) (t : Turn Whole (Given (List Value))) → set_by as' r (item_turn t) ≡ item_turn (set_by as' r t)
  set_given_by as' (Err code) t = refl
  set_given_by as' (Ok vs) t =
      ap (λ (session : Session Item). record { shared = t.shared; session = session; committed = map kept_entry t.committed; given = ok_warned t.given.warned 0 }) (all_assigned_by (assignments_of as' vs) t.session)

  long_by : (b : Bool) (answer : Answer) (shared : Shared) (session : Session Whole) (t : Turn Item Answer) (u : Turn Whole Answer) → t ≡ item_turn u
      → cond b (answered answer shared (session_by kept_of session)) t ≡ item_turn (cond b (answered answer shared session) u)
  long_by true answer shared session t u e = refl
  long_by false answer shared session t u e = e

  set_natural : (as' : List (Target × Tree)) (shared : Shared) (session : Session Whole)
      → set_turn item_call as' shared (session_by kept_of session) ≡ item_turn (set_turn whole_call as' shared session)
  set_natural as' shared session =
      let ts = set_expressions as' in
      let text = spelling (evaluate ts) in
      let misfit = set_misfit (is_open session) as' in
      let t = fitted_run whole_call full text ts misfit shared session in
      let run : set_given as' (fitted_run item_call full text ts (set_misfit (is_open (session_by kept_of session)) as') shared (session_by kept_of session)) ≡ item_turn (set_given as' t) =
      ap (λ (b : Bool). set_given as' (fitted_run item_call full text ts (set_misfit b as') shared (session_by kept_of session))) (open_same session.transaction)
      ∙ ap (λ (u : Turn Item (Given (List Value))). set_given as' u) (fitted_by full text ts misfit shared session)
      ∙ set_given_by as' t.given.result t in
      long_by (is_too_long text) (refused 1153) shared session _ _
      (unless_natural (code_answer (statement_refusal shared.base.catalog session_scope (set_all as'))) shared session _ _
      (unless_natural (lock_refusal number shared (evaluate ts)) shared session _ _ run))

  plain_by : (text : List ℕ) (s : Statement) (shared : Shared) (session : Session Whole)
      → plain_turn item_call text s shared (session_by kept_of session) ≡ item_turn (plain_turn whole_call text s shared session)
  plain_by text s shared session =
      unless_natural (code_answer (statement_refusal shared.base.catalog session_scope s)) shared session _ _
      (unless_natural (lock_refusal number shared s) shared session _ _
      (ap (λ (t : Turn Item (Given Did)). given_turn t) (statement_by full text s shared session)))

  -- ---- CALL

  reached_natural : {A : Type 0} (at : Reached Whole) (t : Turn Whole (Given A)) → reached_by (item_turn at) (item_turn t) ≡ item_turn (reached_by at t)
  reached_natural at t =
      ap (λ (es : List (Entry Item)). record { shared = t.shared; session = session_by kept_of t.session; committed = es; given = at.given || t.given.warned }) (sym (map-append kept_entry at.committed t.committed))

  -- what is told, and where the CALL stands then
  abbrev seen : {B : Type 0} → Told B × Reached Whole → Told B × Reached Item
  seen b = (b.0, item_turn b.1)

  checked_by : {A B : Type 0} (view : A → B) (refusal : Option Refusal) (left : Left) (at : Reached Whole) (t : Turn Item (Given A)) (u : Turn Whole (Given A)) → t ≡ item_turn u
      → unless_checked refusal left (item_turn at) (told_of view t.given, reached_by (item_turn at) t) ≡ seen (unless_checked refusal left at (told_of view u.given, reached_by at u))
  checked_by {A = A} {B = B} view None left at t u e =
      ap (λ (turn : Turn Item (Given A)). (told_of view turn.given, reached_by (item_turn at) turn)) e ∙ ap (λ (next : Reached Item). (told_of view u.given, next)) (reached_natural at u)
  checked_by view (Some refusal) left at t u e = refl

  session_counted : (r : Result Did ℕ) (session : Session Whole) → counted_by r (session_by kept_of session) ≡ session_by kept_of (counted_by r session)
  session_counted (Ok did) session = refl
  session_counted (Err code) session = refl

  counted_natural : (t : Turn Whole (Given Did)) → with_counted (item_turn t) ≡ item_turn (with_counted t)
  counted_natural t =
      ap (λ (session : Session Item). record { shared = t.shared; session = session; committed = map kept_entry t.committed; given = t.given }) (session_counted t.given.result t.session)

  run_natural : (left : Left) (s : Statement) (at : Reached Whole) → run_step item_call left s (item_turn at) ≡ seen (run_step whole_call left s at)
  run_natural left s at =
      checked_by effect_of (step_check number session_scope s at.shared) left at (with_counted (statement_run item_call left (spelling s) s at.shared (session_by kept_of at.session)))
      (with_counted (statement_run whole_call left (spelling s) s at.shared at.session))
      (ap (λ (t : Turn Item (Given Did)). with_counted t) (statement_by left (spelling s) s at.shared at.session) ∙ counted_natural (statement_run whole_call left (spelling s) s at.shared at.session))

  evaluate_natural : (left : Left) (locals : List Local) (ts : Trees) (at : Reached Whole) → evaluate_step item_call left locals ts (item_turn at) ≡ seen (evaluate_step whole_call left locals ts at)
  evaluate_natural left locals ts at =
      let item : Statement = closed (evaluate ts) locals in
      checked_by {A = List Value} {B = List Value} same (step_check number (scope_of locals) (evaluate ts) at.shared) left at (values_run item_call left (spelling item) item locals ts at.shared (session_by kept_of at.session))
      (values_run whole_call left (spelling item) item locals ts at.shared at.session) (values_by left (spelling item) item locals ts at.shared at.session)

  assign_natural : (n : List ℕ) (v : Value) (at : Reached Whole) → assign_step n v (item_turn at) ≡ item_turn (assign_step n v at)
  assign_natural n v at = refl

  called_natural : (name : List ℕ) (r : Result (List Value) ℕ) (t : Turn Whole (Given (List Value))) → called_by item_call name r (item_turn t) ≡ item_turn (called_by whole_call name r t)
  called_natural name (Err code) t = refl
  called_natural name (Ok vs) t =
      ap (λ (b : Came × Reached Item). came_to b)
      (talk_seen (steps_of whole_call) (steps_of item_call) (λ (at : Reached Whole). item_turn at) run_natural evaluate_natural assign_natural (called t.shared.base.catalog (left_with t.given.fuel) name vs)
      (record { shared = t.shared; session = t.session; committed = t.committed; given = t.given.warned }))

  arguments_natural : (text : List ℕ) (ts : Trees) (shared : Shared) (session : Session Whole)
      → arguments_run item_call text ts shared (session_by kept_of session) ≡ item_turn (arguments_run whole_call text ts shared session)
  arguments_natural text no_tree shared session = refl
  arguments_natural text (tree t ts) shared session = expressions_by full text (tree t ts) shared session

  call_natural : (name : List ℕ) (ts : Trees) (shared : Shared) (session : Session Whole)
      → call_turn item_call name ts shared (session_by kept_of session) ≡ item_turn (call_turn whole_call name ts shared session)
  call_natural name ts shared session =
      let text = spelling (evaluate ts) in
      let run : called_with item_call name (arguments_run item_call text ts shared (session_by kept_of session)) ≡ item_turn (called_with whole_call name (arguments_run whole_call text ts shared session)) =
      ap (λ (t : Turn Item (Given (List Value))). called_with item_call name t) (arguments_natural text ts shared session)
      ∙ called_natural name (arguments_run whole_call text ts shared session).given.result (arguments_run whole_call text ts shared session) in
      long_by (is_too_long text) (refused 1153) shared session _ _
      (unless_natural (code_answer (statement_refusal shared.base.catalog session_scope (call_procedure name ts))) shared session _ _
      (unless_natural (lock_refusal number shared (evaluate ts)) shared session _ _ run))

  -- ---- one command
  statement_natural : (text : List ℕ) (s : Statement) (shared : Shared) (session : Session Whole)
      → statement_turn item_call text s shared (session_by kept_of session) ≡ item_turn (statement_turn whole_call text s shared session)
  statement_natural text begin shared session = begin_natural shared session
  statement_natural text commit shared session = commit_turn_natural shared session
  statement_natural text rollback shared session = refl
  statement_natural text (savepoint name) shared session = save_by name shared session.vars session.format session.transaction
  statement_natural text (rollback_to name) shared session = back_by name session.transaction shared session
  statement_natural text (release_savepoint name) shared session = release_by name session.transaction shared session
  statement_natural text (set_all as') shared session = set_natural as' shared session
  statement_natural text (call_procedure name ts) shared session = call_natural name ts shared session
  statement_natural text (create_table t) shared session = definition_by text (create_table t) shared session
  statement_natural text (create_function p) shared session = definition_by text (create_function p) shared session
  statement_natural text (create_procedure p) shared session = definition_by text (create_procedure p) shared session
  statement_natural text (create_trigger t) shared session = definition_by text (create_trigger t) shared session
  statement_natural text (drop_table n) shared session = definition_by text (drop_table n) shared session
  statement_natural text (drop_function n) shared session = definition_by text (drop_function n) shared session
  statement_natural text (drop_procedure n) shared session = definition_by text (drop_procedure n) shared session
  statement_natural text (drop_trigger n) shared session = definition_by text (drop_trigger n) shared session
  statement_natural text (truncate n) shared session = definition_by text (truncate n) shared session
  statement_natural text (insert_into ignore t names supply sets) shared session = plain_by text (insert_into ignore t names supply sets) shared session
  statement_natural text (replace_into t names supply) shared session = plain_by text (replace_into t names supply) shared session
  statement_natural text (update_rows t sets condition os limit) shared session = plain_by text (update_rows t sets condition os limit) shared session
  statement_natural text (delete_rows t condition os limit) shared session = plain_by text (delete_rows t condition os limit) shared session
  statement_natural text (select q) shared session = plain_by text (select q) shared session
  statement_natural text (evaluate ts) shared session = plain_by text (evaluate ts) shared session
  statement_natural text (block ds ss) shared session = plain_by text (block ds ss) shared session
  statement_natural text (if_steps bs o) shared session = plain_by text (if_steps bs o) shared session
  statement_natural text (while_steps c ss) shared session = plain_by text (while_steps c ss) shared session
  statement_natural text (return_value e) shared session = plain_by text (return_value e) shared session

  text_natural : (text : List ℕ) (a : TextAnswer) (shared : Shared) (session : Session Whole)
      → text_turn item_call text a shared (session_by kept_of session) ≡ item_turn (text_turn whole_call text a shared session)
  text_natural text (a_statement s) shared session = statement_natural text s shared session
  text_natural text (a_syntax_error place) shared session = refl
  text_natural text too_deep shared session = refl

  work_by : (o : Option (Session Whole)) → at_work item_call (option_map (session_by kept_of) o) ≡ session_by kept_of (at_work whole_call o)
  work_by None = refl
  work_by (Some session) = refl

  command_natural : (text : List ℕ) (shared : Shared) (o : Option (Session Whole))
      → command item_call text shared (option_map (session_by kept_of) o) ≡ item_turn (command whole_call text shared o)
  command_natural text shared o =
      ap (λ (session : Session Item). with_count (text_turn item_call text (text_answer text) shared session)) (work_by o)
      ∙ ap (λ (t : Turn Item Answer). with_count t) (text_natural text (text_answer text) shared (at_work whole_call o))

pub steps_kept : StepsAreKept
unfolding step
steps_kept identity state n text draw =
    ap (λ (o : Option (Session Item)). stepped n (kept_state state) (command (item_call identity draw n) text state.shared o)) (get_or-map (option_map (session_by kept_of)) state.sessions n None)
    ∙ (ap (λ (t : Turn Item Answer). stepped n (kept_state state) t) (command_natural identity draw n text state.shared (slice_index_or state.sessions n None))
    ∙ stepped_by n state (command (whole_call identity draw n) text state.shared (slice_index_or state.sessions n None)))
