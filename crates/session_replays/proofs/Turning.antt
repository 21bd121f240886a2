-- What each command of a session leaves: one lemma a command.
use Rattle.std.proofs.Common.{◌≡◌, ℕ, inl, inr, Bool, true, false, List, [], ◌∷◌, find, Option, Some, None, Result, Ok, Err, refl, sym, subst, cond}
use Rattle.std.specs.Prelude.{is_some}
use Rattle.std.specs.List.{list_all}
use Rattle.std.specs.Option.{option_map}
use Rattle.val_types.specs.declared.value.Value.{Value}
use Rattle.name_const_laws.specs.catalog_rules.Bases.{Base, defined}
use Rattle.name_const_laws.specs.catalog_rules.Creating.{ddl_refusal}
use Rattle.name_const_laws.specs.catalog_rules.Checks.{session_scope, statement_refusal}
use Rattle.name_const_laws.specs.catalog_rules.Objects.{Object}
use Rattle.sql_print.specs.StatementSpelling.{spelling}
use Rattle.sql_tree.specs.Statement.{Statement, create_table, create_function, create_procedure, create_trigger, drop_table, drop_function, drop_procedure, drop_trigger, truncate, insert_into, replace_into, update_rows, delete_rows, select, evaluate, set_all, call_procedure, begin, commit, rollback, savepoint, rollback_to, release_savepoint, block, if_steps, while_steps, return_value}
use Rattle.sql_tree.specs.Tree.{Tree, Trees}
use Rattle.sql_tree.specs.declared.statements.Target.{Target}
use Rattle.answer_text.specs.declared.answer.Answer.{Answer}
use Rattle.session_model.specs.text_answers.Answers.{TextAnswer, a_statement, a_syntax_error, too_deep, text_answer}
use Rattle.name_const_laws.specs.sql_meaning.Frames.{Context}
use Rattle.name_const_laws.specs.sql_meaning.Leading.{StatementsEndWell, EvaluationsEndWell}
use Rattle.session_model.specs.proc_model.Procedures.{assignments_of}
use Rattle.session_model.specs.Answers.{ok, refused, refused_at}
use Rattle.session_model.specs.Sessions.{Save, Open, Session, Shared}
use Rattle.name_const_laws.specs.Laws.{ClosedDoesTheSame}
use Rattle.port_traits.specs.declared.identity.Identity.{Identity}
use Rattle.port_traits.specs.declared.identity.Draw.{Draw}
use Rattle.session_model.specs.Running.{Call, Turn, Given, is_other, released, items_of, commit_shared, commit_entries, commit_open, full, fitted_run, lock_refusal, writing_refusal}
use Rattle.session_model.specs.Commands.{answered, unless_refused, begin_turn, dropped, rollback_turn, is_save_of, saves_but, changes_of_own, saved, save_turn, cut_back, changes_cut, back_to_save, back_in, release_in, definition_item, made_turn, unless_answered, define_turn, definition_turn, is_open, set_by, set_expressions, set_misfit, set_turn, code_answer, is_too_long, plain_turn}
use Rattle.session_model.specs.Calling.{arguments_run, call_turn}
use Rattle.session_model.specs.Machine.{Whole, whole, statement_turn, text_turn, with_count}
use Rattle.session_model.specs.Holding.{Owns, SharedHolds}
use Rattle.session_model.proofs.Assigning.{all_keep}
use Rattle.session_model.proofs.Owning.{held_not_other, must_own, free_to_write}
use Rattle.session_model.proofs.Calling.{arguments_left, arguments_format}
use Rattle.session_replays.specs.Again.{AllGive}
use Rattle.session_replays.specs.Bodies.{has_well_body}
use Rattle.session_replays.specs.Sizes.{has_sizes}
use Rattle.session_replays.proofs.Calling.{statement_kept, fitted_kept, arguments_kept, called_kept}
use Rattle.session_replays.proofs.Closing.{ClosingLaws}
use Rattle.session_replays.proofs.Giving.{all_front, define_behind}
use Rattle.session_replays.proofs.Locking.{released_base, commit_other, dropped_base, cut_base}
use Rattle.session_replays.proofs.Spending.{full_within, Spend, arguments_turns}
use Rattle.session_replays.proofs.Keeping.{Kept, TurnKept, nothing_kept}
use Rattle.session_replays.proofs.Staying.{arguments_catalog}

module _ (identity : Identity) (draw : Draw) (number : ℕ) (shared : Shared) (session : Session Whole) (h : SharedHolds shared) (o : Owns number shared session.format session.transaction)
    (g : AllGive shared.base [] (items_of session.transaction)) where
  abbrev call : Call Whole
  call = record { identity = identity; draw = draw; number = number; known = whole }

  same_kept : (answer : Answer) → TurnKept call.number shared (answered answer shared session)
  same_kept answer = nothing_kept call.number shared session.transaction g

  unless_kept : (refusal : Option Answer) (t : Turn Whole Answer) → TurnKept call.number shared t → TurnKept call.number shared (unless_refused refusal shared session t)
  unless_kept None t k = k
  unless_kept (Some answer) t k = same_kept answer

  long_kept : (b : Bool) (answer : Answer) (t : Turn Whole Answer) → TurnKept call.number shared t → TurnKept call.number shared (cond b (answered answer shared session) t)
  long_kept true answer t k = same_kept answer
  long_kept false answer t k = k

  -- items that stay, on a base that stays
  stays : (new : Shared) (t : Option (Open Whole)) → new.base ≡ shared.base → AllGive shared.base [] (items_of t) → Kept call.number shared new t []
  stays new t e k = record { entries = tt; items = subst (λ (b : Base). AllGive b [] (items_of t)) (sym e) k; frame = inl e }

  -- ---- the end of a transaction
  commit_by : (context : Context) (is : List Whole) → items_of session.transaction ≡ is → Kept call.number shared (released call.number (commit_shared call context is shared)) None (commit_entries call context is)
  commit_by context [] e = record { entries = tt; items = tt; frame = inl (released_base call.number shared) }
  commit_by context (i ∷ is) e = record {
    entries = (subst (λ (items : List Whole). AllGive shared.base [] items) e g, λ next made. tt);
    items = tt;
    frame = inr (held_not_other call.number shared.writer (must_own call.number shared session.format i is session.transaction o e));
  }

  commit_kept : Kept call.number shared (commit_open call shared session).shared None (commit_open call shared session).committed
  commit_kept = commit_by session.vars.context (items_of session.transaction) refl

  begin_kept : TurnKept call.number shared (begin_turn call shared session)
  begin_kept = record { entries = commit_kept.entries; items = tt; frame = commit_kept.frame }

  rollback_kept : TurnKept call.number shared (rollback_turn call shared session)
  rollback_kept = stays (dropped call.number shared) None (dropped_base call.number shared) tt

  -- ---- savepoints
  save_by : (name : List ℕ) (t : Option (Open Whole)) → AllGive shared.base [] (items_of t) → AllGive shared.base [] (items_of (option_map (saved name (changes_of_own call.number shared)) t))
  save_by name None k = tt
  save_by name (Some open') k = k

  save_kept : (name : List ℕ) → TurnKept call.number shared (save_turn call name shared session)
  save_kept name =
      nothing_kept call.number shared (option_map (saved name (changes_of_own call.number shared)) session.transaction) (save_by name session.transaction g)

  found_by : (name : List ℕ) (open' : Open Whole) (found : Option Save) → AllGive shared.base [] open'.items → TurnKept call.number shared (back_to_save call name open' found shared session)
  found_by name open' None k = same_kept (refused 1305)
  found_by name open' (Some save) k =
      stays (changes_cut call.number save shared) (Some (cut_back name save open')) (cut_base call.number save shared) (all_front save.items shared.base [] open'.items k)

  back_by : (name : List ℕ) (t : Option (Open Whole)) → AllGive shared.base [] (items_of t) → TurnKept call.number shared (back_in call name t shared session)
  back_by name None k = same_kept (refused 1305)
  back_by name (Some open') k = found_by name open' (find (is_save_of name) open'.saves) k

  released_by : (name : List ℕ) (open' : Open Whole) (b : Bool) → AllGive shared.base [] open'.items
      → TurnKept call.number shared (cond b (answered (ok 0) shared (record session { transaction = Some (record open' { saves = saves_but name open'.saves }) })) (answered (refused 1305) shared session))
  released_by name open' true k = nothing_kept call.number shared (Some (record open' { saves = saves_but name open'.saves })) k
  released_by name open' false k = same_kept (refused 1305)

  release_by : (name : List ℕ) (t : Option (Open Whole)) → AllGive shared.base [] (items_of t) → TurnKept call.number shared (release_in name t shared session)
  release_by name None k = same_kept (refused 1305)
  release_by name (Some open') k = released_by name open' (is_some (find (is_save_of name) open'.saves)) k

  -- ---- definitions

  -- a turn that ended the open transaction
  abbrev Ended : Turn Whole (Unit {0}) → Type 0
  Ended t = (t.session.transaction ≡ None) × Kept call.number shared t.shared None t.committed × (is_other call.number t.shared.writer ≡ false → is_other call.number shared.writer ≡ false)

  ended_same : (t : Turn Whole (Unit {0})) → Ended t → TurnKept call.number shared t
  ended_same t k = subst (λ (u : Option (Open Whole)). Kept call.number shared t.shared u t.committed) (sym k.0) k.1

  made_kept : (text : List ℕ) (s : Statement) (made : Option Base) (t : Turn Whole (Unit {0})) → Ended t → is_other call.number t.shared.writer ≡ false
      → TurnKept call.number shared (made_turn call text s made t)
  made_kept text s None t k q = ended_same t k
  made_kept text s (Some base) t k q = record {
    entries = define_behind shared.base t.committed t.session.vars.context.stamp call.identity.server_id (definition_item call text s t.session.vars.context t.shared) k.1.entries;
    items = subst (λ (u : Option (Open Whole)). AllGive base [] (items_of u)) (sym k.0) tt;
    frame = inr (k.2 q);
  }

  answered_kept : (refusal : Option Answer) (t : Turn Whole (Unit {0})) (next : Turn Whole Answer) → TurnKept call.number shared t → (refusal ≡ None → TurnKept call.number shared next)
      → TurnKept call.number shared (unless_answered refusal t next)
  answered_kept None t next k more = more refl
  answered_kept (Some answer) t next k more = k

  define_kept : (text : List ℕ) (s : Statement) (t : Turn Whole (Unit {0})) → Ended t → TurnKept call.number shared (define_turn call text s t)
  define_kept text s t k =
      answered_kept (option_map refused (ddl_refusal t.shared.base.catalog s)) t _ (ended_same t k) (λ _.
      answered_kept (writing_refusal call.number t.shared) t _ (ended_same t k) (λ free.
      made_kept text s (defined s t.shared.base) t k (free_to_write call.number t.shared free)))

  definition_kept : (text : List ℕ) (s : Statement) → TurnKept call.number shared (definition_turn call text s shared session)
  definition_kept text s = define_kept text s (commit_open call shared session) (refl, commit_kept, commit_other call session.vars.context shared (items_of session.transaction))

  -- ---- statements that are run
  module _ (statements : StatementsEndWell) (evaluations : EvaluationsEndWell) (closes : ClosedDoesTheSame) (laws : ClosingLaws) (spend : Spend) (sized : list_all has_sizes shared.base.catalog ≡ true)
      (bodies : list_all has_well_body shared.base.catalog ≡ true) where
    set_by_kept : (as' : List (Target × Tree)) (r : Result (List Value) ℕ) (t : Turn Whole (Given (List Value))) → TurnKept call.number shared t → TurnKept call.number shared (set_by as' r t)
    set_by_kept as' (Err code) t k = k
    set_by_kept as' (Ok vs) t k = record {
      entries = k.entries;
      items = subst (λ (u : Option (Open Whole)). AllGive t.shared.base [] (items_of u)) (sym (all_keep (assignments_of as' vs) t.session)) k.items;
      frame = k.frame;
    }

    -- a SET as the DO over its expressions
    set_kept : (as' : List (Target × Tree)) → TurnKept call.number shared (set_turn call as' shared session)
    set_kept as' =
        let ts = set_expressions as' in
        let text = spelling (evaluate ts) in
        let misfit = set_misfit (is_open session) as' in
        let run = fitted_run call full text ts misfit shared session in
        long_kept (is_too_long text) (refused 1153) _
        (unless_kept (code_answer (statement_refusal shared.base.catalog session_scope (set_all as'))) _
        (unless_kept (lock_refusal call.number shared (evaluate ts)) _
        (set_by_kept as' run.given.result run (fitted_kept identity draw number shared session h o g evaluations full full_within text ts misfit))))

    call_kept : (name : List ℕ) (ts : Trees) → TurnKept call.number shared (call_turn call name ts shared session)
    call_kept name ts =
        let text = spelling (evaluate ts) in
        let run = arguments_run call text ts shared session in
        let there = sym (arguments_catalog call text ts shared session) in
        long_kept (is_too_long text) (refused 1153) _
        (unless_kept (code_answer (statement_refusal shared.base.catalog session_scope (call_procedure name ts))) _
        (unless_kept (lock_refusal call.number shared (evaluate ts)) _
        (called_kept identity draw number shared session.format statements evaluations closes laws spend name run.given.result run
        (subst (λ (os : List Object). list_all has_sizes os ≡ true) there sized) (subst (λ (os : List Object). list_all has_well_body os ≡ true) there bodies)
        (arguments_format (Unit {0}) identity draw number shared session h o evaluations text ts) (arguments_turns spend call text ts shared session) (arguments_left (Unit {0}) identity draw number shared session h o evaluations text ts)
        (arguments_kept identity draw number shared session h o g evaluations text ts))))

    plain_kept : (text : List ℕ) (s : Statement) → TurnKept call.number shared (plain_turn call text s shared session)
    plain_kept text s =
        unless_kept (code_answer (statement_refusal shared.base.catalog session_scope s)) _
        (unless_kept (lock_refusal call.number shared s) _ (statement_kept identity draw number shared session h o g statements full full_within text s))

    -- ---- one command
    any_kept : (text : List ℕ) (s : Statement) → TurnKept call.number shared (statement_turn call text s shared session)
    any_kept text begin = begin_kept
    any_kept text commit = commit_kept
    any_kept text rollback = rollback_kept
    any_kept text (savepoint name) = save_kept name
    any_kept text (rollback_to name) = back_by name session.transaction g
    any_kept text (release_savepoint name) = release_by name session.transaction g
    any_kept text (set_all as') = set_kept as'
    any_kept text (call_procedure name ts) = call_kept name ts
    any_kept text (create_table t) = definition_kept text (create_table t)
    any_kept text (create_function p) = definition_kept text (create_function p)
    any_kept text (create_procedure p) = definition_kept text (create_procedure p)
    any_kept text (create_trigger t) = definition_kept text (create_trigger t)
    any_kept text (drop_table n) = definition_kept text (drop_table n)
    any_kept text (drop_function n) = definition_kept text (drop_function n)
    any_kept text (drop_procedure n) = definition_kept text (drop_procedure n)
    any_kept text (drop_trigger n) = definition_kept text (drop_trigger n)
    any_kept text (truncate n) = definition_kept text (truncate n)
    any_kept text (insert_into ignore t names supply sets) = plain_kept text (insert_into ignore t names supply sets)
    any_kept text (replace_into t names supply) = plain_kept text (replace_into t names supply)
    any_kept text (update_rows t sets condition os limit) = plain_kept text (update_rows t sets condition os limit)
    any_kept text (delete_rows t condition os limit) = plain_kept text (delete_rows t condition os limit)
    any_kept text (select q) = plain_kept text (select q)
    any_kept text (evaluate ts) = plain_kept text (evaluate ts)
    any_kept text (block ds ss) = plain_kept text (block ds ss)
    any_kept text (if_steps bs o') = plain_kept text (if_steps bs o')
    any_kept text (while_steps c ss) = plain_kept text (while_steps c ss)
    any_kept text (return_value e) = plain_kept text (return_value e)

    text_kept : (text : List ℕ) (a : TextAnswer) → TurnKept call.number shared (text_turn call text a shared session)
    text_kept text (a_statement s) = any_kept text s
    text_kept text (a_syntax_error place) = same_kept (refused_at place)
    text_kept text too_deep = same_kept (refused 30007)

    pub command_kept : (text : List ℕ) → TurnKept call.number shared (with_count (text_turn call text (text_answer text) shared session))
    command_kept text = text_kept text (text_answer text)
