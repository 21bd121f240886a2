-- The bodies of stored programs stay well: definitions put no other in, and commands put out no other definitions.
use Rattle.std.proofs.Common.{◌≡◌, ◌≤◌, ℕ, suc, Bool, true, false, List, [], ◌∷◌, ◌++◌, find, Option, Some, None, Result, Ok, Err, ℤ, refl, subst, cond, arith}
use Rattle.std.specs.Prelude.{nat_le, is_some, not, flat_map}
use Rattle.std.specs.List.{list_all}
use Rattle.std.specs.Option.{option_map, option_and_then}
use Rattle.std.proofs.lemmas.Bool.{and_parts, leb-true, le-leb}
use Rattle.hex.specs.Hex.{IsBytes}
use Rattle.val_types.specs.declared.change.Change.{Change}
use Rattle.val_types.specs.declared.value.Value.{Value}
use Rattle.port_traits.specs.declared.identity.Identity.{Identity}
use Rattle.port_traits.specs.declared.identity.Draw.{Draw}
use Rattle.table_rules.specs.Tables.{Table}
use Rattle.table_rules.specs.Stored.{all_applied}
use Rattle.sql_tree.specs.Tree.{Tree, Trees, no_tree, tree}
use Rattle.sql_tree.specs.Statement.{Statement, program, trigger, create_table, create_function, create_procedure, create_trigger, drop_table, drop_function, drop_procedure, drop_trigger, truncate, insert_into, replace_into, update_rows, delete_rows, select, evaluate, set_all, call_procedure, begin, commit, rollback, savepoint, rollback_to, release_savepoint, block, if_steps, while_steps, return_value}
use Rattle.sql_tree.specs.Depth.{depth_of}
use Rattle.sql_tree.specs.Well.{IsWell, is_whole, is_well_step, has_result}
use Rattle.sql_tree.specs.declared.statements.Target.{Target}
use Rattle.sql_locals.specs.declared.locals.Local.{Local}
use Rattle.sql_print.specs.StatementSpelling.{spelling}
use Rattle.name_const_laws.specs.catalog_rules.Bases.{Base, tables_after, defined}
use Rattle.name_const_laws.specs.catalog_rules.Checks.{session_scope, statement_refusal}
use Rattle.name_const_laws.specs.catalog_rules.Creating.{ddl_refusal, catalog_after, goes_with_table, is_function_named, is_procedure_named, is_trigger_named}
use Rattle.name_const_laws.specs.catalog_rules.Objects.{Object, function, procedure, reaction}
use Rattle.name_const_laws.specs.log_entries.declared.entries.Entry.{Entry}
use Rattle.name_const_laws.specs.log_entries.declared.entries.Entry.TheVariants.{Transaction, Definition, LogStart}
use Rattle.name_const_laws.specs.log_entries.Entries.{after, with_tables}
use Rattle.answer_text.specs.declared.answer.Answer.{Answer}
use Rattle.session_model.specs.text_answers.Answers.{TextAnswer, a_statement, a_syntax_error, too_deep, text_answer, AnswersAreWell}
use Rattle.name_const_laws.specs.sql_meaning.Scenes.{Scene, Ending, done, failed}
use Rattle.name_const_laws.specs.sql_meaning.Frames.{Context}
use Rattle.name_const_laws.specs.sql_meaning.Changing.{Did}
use Rattle.name_const_laws.specs.sql_meaning.Running.{context_after}
use Rattle.name_const_laws.specs.sql_reach.Closing.{closed}
use Rattle.session_model.specs.proc_model.Talk.{Left, Refusal, Told}
use Rattle.session_model.specs.proc_model.Procedures.{scope_of, called}
use Rattle.session_model.proofs.of_proc_model.Leading.{talk_keeps}
use Rattle.session_model.specs.Answers.{refused}
use Rattle.session_model.specs.Sessions.{Save, Open, Session, Shared}
use Rattle.session_model.specs.Running.{Call, Turn, Given, full, is_other, keep, kept_entries, takes_too_much, made_behind, with_counters, with_context, undone, item_of, settle, ended, given_by, is_warned, scene_for, statement_run, values_run, fitted_run, commit_entries, commit_open, lock_refusal, writing_refusal}
use Rattle.session_model.specs.Commands.{answered, unless_refused, back_in, back_to_save, is_save_of, saves_but, release_in, made_turn, unless_answered, definition_turn, set_by, set_expressions, set_misfit, set_turn, is_open, code_answer, is_too_long, plain_turn}
use Rattle.session_model.specs.Calling.{Reached, step_check, unless_checked, run_step, evaluate_step, steps_of, left_with, arguments_run, called_by, call_turn}
use Rattle.session_model.specs.Machine.{Whole, whole, at_work, statement_turn, text_turn, step}
use Rattle.session_model.specs.Holding.{changes_of, define}
use Rattle.std.specs.Prelude.{slice_index_or}
use Rattle.session_replays.specs.Bodies.{is_well_body, has_well_body, AreWellDefined, StepsDefineWell, HistoriesStayWell, CatalogsStayWell, RunsStayWell}
use Rattle.session_replays.proofs.Sizing.{and_join, join_all, filter_all}

abbrev AllWell : List Object → Type 0
AllWell catalog = list_all has_well_body catalog ≡ true

-- ---- one object more

within : (d : ℕ) → nat_le (suc d) 200 ≡ true → nat_le d 200 ≡ true
within d e = le-leb d 200 (less (leb-true (suc d) 200 e))
  where
    less : suc d ≤ 200 → d ≤ 200
    less l = omega (arith, l)

body_well : (body : Statement) → is_well_step body ≡ true → nat_le (suc (depth_of body)) 200 ≡ true → is_well_body body ≡ true
body_well body e l = and_join (is_well_step body) (nat_le (depth_of body) 200) e (within (depth_of body) l)

one_more : (o : Object) (catalog : List Object) → has_well_body o ≡ true → AllWell catalog → AllWell (catalog ++ o ∷ [])
one_more o catalog e h = join_all has_well_body catalog (o ∷ []) h (and_join (has_well_body o) true e refl)

-- what a statement that the parser can give makes of a catalog
catalog_well : (s : Statement) (catalog : List Object) → IsWell s → AllWell catalog → AllWell (catalog_after s catalog)
catalog_well (create_table t) catalog w h = one_more _ catalog refl h
catalog_well (create_function (program n ps k body)) catalog w h =
    let s : Statement = create_function (program n ps k body) in
    let both = and_parts (is_whole s) (nat_le (depth_of s) 200) w in
    let v : is_well_step s ≡ true = both.0 in
    one_more (function (program n ps k body)) catalog (body_well body (and_parts _ (is_well_step body) (and_parts (has_result (program n ps k body)) _ v).1).1 both.1) h
catalog_well (create_procedure (program n ps k body)) catalog w h =
    let s : Statement = create_procedure (program n ps k body) in
    let both = and_parts (is_whole s) (nat_le (depth_of s) 200) w in
    let v : is_well_step s ≡ true = both.0 in
    one_more (procedure (program n ps k body)) catalog (body_well body (and_parts _ (is_well_step body) (and_parts (not (has_result (program n ps k body))) _ v).1).1 both.1) h
catalog_well (create_trigger (trigger n time event t body)) catalog w h =
    let s : Statement = create_trigger (trigger n time event t body) in
    let both = and_parts (is_whole s) (nat_le (depth_of s) 200) w in
    let v : is_well_step s ≡ true = both.0 in
    one_more (reaction (trigger n time event t body)) catalog (body_well body (and_parts _ (is_well_step body) v).1 both.1) h
catalog_well (drop_table name) catalog w h = filter_all has_well_body (goes_with_table name) catalog h
catalog_well (drop_function name) catalog w h = filter_all has_well_body (is_function_named name) catalog h
catalog_well (drop_procedure name) catalog w h = filter_all has_well_body (is_procedure_named name) catalog h
catalog_well (drop_trigger name) catalog w h = filter_all has_well_body (is_trigger_named name) catalog h
catalog_well (truncate n) catalog w h = h
catalog_well (insert_into ignore t names supply sets) catalog w h = h
catalog_well (replace_into t names supply) catalog w h = h
catalog_well (update_rows t sets condition os limit) catalog w h = h
catalog_well (delete_rows t condition os limit) catalog w h = h
catalog_well (select q) catalog w h = h
catalog_well (evaluate ts) catalog w h = h
catalog_well (set_all as') catalog w h = h
catalog_well (call_procedure name ts) catalog w h = h
catalog_well begin catalog w h = h
catalog_well commit catalog w h = h
catalog_well rollback catalog w h = h
catalog_well (savepoint name) catalog w h = h
catalog_well (rollback_to name) catalog w h = h
catalog_well (release_savepoint name) catalog w h = h
catalog_well (block ds ss) catalog w h = h
catalog_well (if_steps bs o) catalog w h = h
catalog_well (while_steps c ss) catalog w h = h
catalog_well (return_value v) catalog w h = h

-- ---- what entries make of a base

defined_well : (s : Statement) (base next : Base) (refusal : Option ℕ) → elim refusal as (λ _. Option Base) [
  | None ↦ Some (record { catalog = catalog_after s base.catalog; tables = tables_after s base.tables })
  | Some code ↦ None
] ≡ Some next → IsWell s → AllWell base.catalog → AllWell next.catalog
defined_well s base next None e w h =
    let same : record { catalog = catalog_after s base.catalog; tables = tables_after s base.tables } ≡ next = cc in
    subst (λ (b : Base). AllWell b.catalog) same (catalog_well s base.catalog w h)
defined_well s base next (Some code) e w h = cc

tables_well : (base next : Base) (o : Option (List Table)) → option_map (with_tables base) o ≡ Some next → AllWell base.catalog → AllWell next.catalog
tables_well base next None e h = cc
tables_well base next (Some tables) e h =
    let same : with_tables base tables ≡ next = cc in
    subst (λ (b : Base). AllWell b.catalog) same h

rest_well : (es : List (Entry Whole)) (last : Base) (made : Option Base) → ((next : Base) → made ≡ Some next → AllWell next.catalog)
    → ((next : Base) → after changes_of define es next ≡ Some last → AllWell next.catalog → AllWell last.catalog) → option_and_then (after changes_of define es) made ≡ Some last → AllWell last.catalog
rest_well es last None first rest e = cc
rest_well es last (Some next) first rest e = rest next e (first next refl)

pub catalogs_stay_well : CatalogsStayWell
catalogs_stay_well [] base last d e h =
    let same : base ≡ last = cc in
    subst (λ (b : Base). AllWell b.catalog) same h
catalogs_stay_well (Transaction stamp server items ∷ es) base last d e h =
    let made : Option (List Table) = all_applied (flat_map changes_of items) base.tables in
    rest_well es last (option_map (with_tables base) made) (λ next q. tables_well base next made q h) (λ next q. catalogs_stay_well es next last d.1 q) e
catalogs_stay_well (Definition stamp server item ∷ es) base last d e h =
    rest_well es last (define item base) (λ next q. defined_well item.began.tree base next (ddl_refusal base.catalog item.began.tree) q d.0 h) (λ next q. catalogs_stay_well es next last d.1 q) e
catalogs_stay_well (LogStart stamp server ∷ es) base last d e h = catalogs_stay_well es base last d.1 e h

pub runs_stay_well : RunsStayWell
runs_stay_well from m holds d h = catalogs_stay_well m.history from.base m.state.shared.base d holds.entries h

-- ---- entries that a command puts out

pub well_behind : (front back : List (Entry Whole)) → AreWellDefined front → AreWellDefined back → AreWellDefined (front ++ back)
well_behind [] back f b = b
well_behind (e ∷ es) back f b = (f.0, well_behind es back f.1 b)

abbrev TurnWell : {A : Type 0} → Turn Whole A → Type 0
TurnWell t = AreWellDefined t.committed

module _ (identity : Identity) (draw : Draw) (number : ℕ) where
  abbrev call : Call Whole
  call = record { identity = identity; draw = draw; number = number; known = whole }

  -- ---- one statement

  kept_well : (context : Context) (item : Whole) (t : Option (Open Whole)) → AreWellDefined (kept_entries call context item t)
  kept_well context item None = (tt, tt)
  kept_well context item (Some open') = tt

  settle_well : {A : Type 0} (item : List Change → Whole) (made : List Change) (scene : Scene) (shared : Shared) (session : Session Whole) (given : Given A) (refusal : Turn Whole (Given A)) → TurnWell refusal
      → TurnWell (settle call item made scene shared session given refusal)
  settle_well item [] scene shared session given refusal r = tt
  settle_well {A = A} item (c ∷ cs) scene shared session given refusal r = by (takes_too_much call session.transaction (item (c ∷ cs)))
    where
      by : (b : Bool) → TurnWell {A = Given A} (cond b refusal (keep call (item (c ∷ cs)) scene shared session given))
      by true = r
      by false = kept_well session.vars.context (item (c ∷ cs)) session.transaction

  ended_well : {A : Type 0} (left : Left) (text : List ℕ) (item : Statement) (shared : Shared) (session : Session Whole) (first last_id : A → Option ℤ) (before : Scene) (e : Ending A)
      → TurnWell (ended call left text item shared session first last_id before e)
  ended_well left text item shared session first last_id before (done a scene) =
      let made = made_behind (is_other number shared.writer) before scene in
      settle_well (item_of call session.format left text item session.vars.context shared (first a)) made scene (with_counters scene shared)
      (with_context (context_after session.vars.context item scene.seeds (last_id a)) session) (given_by a scene (is_warned session.format shared.base.catalog item made)) (undone 1197 item shared session scene) tt
  ended_well left text item shared session first last_id before (failed code scene) = tt

  statement_well : (left : Left) (text : List ℕ) (s : Statement) (shared : Shared) (session : Session Whole) → TurnWell (statement_run call left text s shared session)
  statement_well left text s shared session =
      ended_well left text s shared session (λ (did : Did). did.first) (λ (did : Did). did.last_id) (scene_for number left session.vars.context shared) _

  values_well : (left : Left) (text : List ℕ) (item : Statement) (locals : List Local) (ts : Trees) (shared : Shared) (session : Session Whole) → TurnWell (values_run call left text item locals ts shared session)
  values_well left text item locals ts shared session =
      ended_well {A = List Value} left text item shared session (λ vs. None) (λ vs. None) (scene_for number left session.vars.context shared) _

  fitted_well : (left : Left) (text : List ℕ) (ts : Trees) (misfit : List Value → Option ℕ) (shared : Shared) (session : Session Whole) → TurnWell (fitted_run call left text ts misfit shared session)
  fitted_well left text ts misfit shared session =
      ended_well {A = List Value} left text (evaluate ts) shared session (λ vs. None) (λ vs. None) (scene_for number left session.vars.context shared) _

  -- ---- CALL

  checked_well : {A : Type 0} (refusal : Option Refusal) (left : Left) (at : Reached Whole) (next : Told A × Reached Whole) → TurnWell at → TurnWell next.1 → TurnWell (unless_checked refusal left at next).1
  checked_well None left at next h k = k
  checked_well (Some refusal) left at next h k = h

  run_well : (left : Left) (s : Statement) (at : Reached Whole) → TurnWell at → TurnWell (run_step call left s at).1
  run_well left s at h =
      let t : Turn Whole (Given Did) = statement_run call left (spelling s) s at.shared at.session in
      checked_well (step_check number session_scope s at.shared) left at _ h (well_behind at.committed t.committed h (statement_well left (spelling s) s at.shared at.session))

  evaluate_well : (left : Left) (locals : List Local) (ts : Trees) (at : Reached Whole) → TurnWell at → TurnWell (evaluate_step call left locals ts at).1
  evaluate_well left locals ts at h =
      let item : Statement = closed (evaluate ts) locals in
      let t : Turn Whole (Given (List Value)) = values_run call left (spelling item) item locals ts at.shared at.session in
      checked_well (step_check number (scope_of locals) (evaluate ts) at.shared) left at _ h (well_behind at.committed t.committed h (values_well left (spelling item) item locals ts at.shared at.session))

  called_well : (name : List ℕ) (r : Result (List Value) ℕ) (t : Turn Whole (Given (List Value))) → TurnWell t → TurnWell (called_by call name r t)
  called_well name (Err code) t k = k
  called_well name (Ok vs) t k =
      talk_keeps (steps_of call) (λ (at : Reached Whole). TurnWell at) run_well evaluate_well (λ n v at h. h) (called t.shared.base.catalog (left_with t.given.fuel) name vs)
      (record { shared = t.shared; session = t.session; committed = t.committed; given = t.given.warned }) k

  arguments_well : (text : List ℕ) (ts : Trees) (shared : Shared) (session : Session Whole) → TurnWell (arguments_run call text ts shared session)
  arguments_well text no_tree shared session = tt
  arguments_well text (tree t ts) shared session = values_well full text (evaluate (tree t ts)) [] (tree t ts) shared session

  -- ---- commands

  module _ (shared : Shared) (session : Session Whole) where
    unless_well : (refusal : Option Answer) (t : Turn Whole Answer) → TurnWell t → TurnWell (unless_refused refusal shared session t)
    unless_well None t k = k
    unless_well (Some answer) t k = tt

    long_well : (b : Bool) (answer : Answer) (t : Turn Whole Answer) → TurnWell t → TurnWell (cond b (answered answer shared session) t)
    long_well true answer t k = tt
    long_well false answer t k = k

    commit_well : (context : Context) (is : List Whole) → AreWellDefined (commit_entries call context is)
    commit_well context [] = tt
    commit_well context (i ∷ is) = (tt, tt)

    found_well : (name : List ℕ) (open' : Open Whole) (found : Option Save) → TurnWell (back_to_save call name open' found shared session)
    found_well name open' None = tt
    found_well name open' (Some save) = tt

    back_well : (name : List ℕ) (t : Option (Open Whole)) → TurnWell (back_in call name t shared session)
    back_well name None = tt
    back_well name (Some open') = found_well name open' (find (is_save_of name) open'.saves)

    let_go : (name : List ℕ) (open' : Open Whole) (b : Bool) (one other : Answer)
        → TurnWell (cond b (answered one shared (record session { transaction = Some (record open' { saves = saves_but name open'.saves }) })) (answered other shared session))
    let_go name open' true one other = tt
    let_go name open' false one other = tt

    release_well : (name : List ℕ) (t : Option (Open Whole)) → TurnWell (release_in name t shared session)
    release_well name None = tt
    release_well name (Some open') = let_go name open' (is_some (find (is_save_of name) open'.saves)) _ _

    -- a definition, whose tree the parser can give
    made_well : (text : List ℕ) (s : Statement) (made : Option Base) (t : Turn Whole (Unit {0})) → IsWell s → TurnWell t → TurnWell (made_turn call text s made t)
    made_well text s None t w k = k
    made_well text s (Some base) t w k = well_behind t.committed _ k (w, tt)

    answered_well : (refusal : Option Answer) (t : Turn Whole (Unit {0})) (next : Turn Whole Answer) → TurnWell t → TurnWell next → TurnWell (unless_answered refusal t next)
    answered_well None t next k more = more
    answered_well (Some answer) t next k more = k

    definition_well : (text : List ℕ) (s : Statement) → IsWell s → TurnWell (definition_turn call text s shared session)
    definition_well text s w =
        let t : Turn Whole (Unit {0}) = commit_open call shared session in
        let k : TurnWell t = commit_well session.vars.context _ in
        answered_well (option_map refused (ddl_refusal t.shared.base.catalog s)) t _ k
        (answered_well (writing_refusal number t.shared) t _ k (made_well text s (defined s t.shared.base) t w k))

    set_by_well : (as' : List (Target × Tree)) (r : Result (List Value) ℕ) (t : Turn Whole (Given (List Value))) → TurnWell t → TurnWell (set_by as' r t)
    set_by_well as' (Err code) t k = k
    set_by_well as' (Ok vs) t k = k

    set_well : (as' : List (Target × Tree)) → TurnWell (set_turn call as' shared session)
    set_well as' =
        let ts = set_expressions as' in
        let text = spelling (evaluate ts) in
        let misfit = set_misfit (is_open session) as' in
        let run = fitted_run call full text ts misfit shared session in
        long_well (is_too_long text) (refused 1153) _
        (unless_well (code_answer (statement_refusal shared.base.catalog session_scope (set_all as'))) _
        (unless_well (lock_refusal number shared (evaluate ts)) _ (set_by_well as' run.given.result run (fitted_well full text ts misfit shared session))))

    call_well : (name : List ℕ) (ts : Trees) → TurnWell (call_turn call name ts shared session)
    call_well name ts =
        let text = spelling (evaluate ts) in
        let run = arguments_run call text ts shared session in
        long_well (is_too_long text) (refused 1153) _
        (unless_well (code_answer (statement_refusal shared.base.catalog session_scope (call_procedure name ts))) _
        (unless_well (lock_refusal number shared (evaluate ts)) _ (called_well name run.given.result run (arguments_well text ts shared session))))

    plain_well : (text : List ℕ) (s : Statement) → TurnWell (plain_turn call text s shared session)
    plain_well text s =
        unless_well (code_answer (statement_refusal shared.base.catalog session_scope s)) _
        (unless_well (lock_refusal number shared s) _ (statement_well full text s shared session))

    any_well : (text : List ℕ) (s : Statement) → IsWell s → TurnWell (statement_turn call text s shared session)
    any_well text begin w = commit_well session.vars.context _
    any_well text commit w = commit_well session.vars.context _
    any_well text rollback w = tt
    any_well text (savepoint name) w = tt
    any_well text (rollback_to name) w = back_well name session.transaction
    any_well text (release_savepoint name) w = release_well name session.transaction
    any_well text (set_all as') w = set_well as'
    any_well text (call_procedure name ts) w = call_well name ts
    any_well text (create_table t) w = definition_well text (create_table t) w
    any_well text (create_function p) w = definition_well text (create_function p) w
    any_well text (create_procedure p) w = definition_well text (create_procedure p) w
    any_well text (create_trigger t) w = definition_well text (create_trigger t) w
    any_well text (drop_table n) w = definition_well text (drop_table n) w
    any_well text (drop_function n) w = definition_well text (drop_function n) w
    any_well text (drop_procedure n) w = definition_well text (drop_procedure n) w
    any_well text (drop_trigger n) w = definition_well text (drop_trigger n) w
    any_well text (truncate n) w = definition_well text (truncate n) w
    any_well text (insert_into ignore t names supply sets) w = plain_well text (insert_into ignore t names supply sets)
    any_well text (replace_into t names supply) w = plain_well text (replace_into t names supply)
    any_well text (update_rows t sets condition os limit) w = plain_well text (update_rows t sets condition os limit)
    any_well text (delete_rows t condition os limit) w = plain_well text (delete_rows t condition os limit)
    any_well text (select q) w = plain_well text (select q)
    any_well text (evaluate ts) w = plain_well text (evaluate ts)
    any_well text (block ds ss) w = plain_well text (block ds ss)
    any_well text (if_steps bs o) w = plain_well text (if_steps bs o)
    any_well text (while_steps c ss) w = plain_well text (while_steps c ss)
    any_well text (return_value e) w = plain_well text (return_value e)

    text_well : AnswersAreWell → (text : List ℕ) → IsBytes text → (a : TextAnswer) → text_answer text ≡ a → TurnWell (text_turn call text a shared session)
    text_well law text bytes (a_statement s) e = any_well text s (law text s bytes e)
    text_well law text bytes (a_syntax_error place) e = tt
    text_well law text bytes too_deep e = tt

pub steps_define_well : AnswersAreWell → StepsDefineWell
unfolding step
steps_define_well law identity state n text draw bytes =
    text_well identity draw n state.shared (at_work (call identity draw n) (slice_index_or state.sessions n None)) law text bytes (text_answer text) refl

pub histories_stay_well : AnswersAreWell → HistoriesStayWell
histories_stay_well law m identity n text draw bytes h =
    well_behind m.history (step whole identity m.state n text draw).committed h (steps_define_well law identity m.state n text draw bytes)
