-- What holds of every run stays so: one lemma a command.
use Rattle.std.proofs.Common.{◌≡◌, ◌≢◌, ◌<◌, ℕ, zero, suc, inl, inr, Bool, true, false, ◌==◌, List, [], ◌∷◌, ◌++◌, length, take, find, Option, Some, None, Result, Ok, Err, refl, sym, ◌∙◌, ap, subst, arith, cond, ◌≤◌, ◌^◌}
use Rattle.std.proofs.lemmas.List.{get_or-set_same, get_or-set_other}
use Rattle.std.proofs.lemmas.Bool.{eqb-true, eqb-false}
use Rattle.std.specs.Prelude.{is_some, slice_index_or, slice_set, replicate}
use Rattle.std.specs.Option.{option_map, option_and_then}
use Rattle.val_types.specs.declared.change.Change.{Change}
use Rattle.val_types.specs.declared.value.Value.{Value}
use Rattle.table_rules.specs.Stored.{all_applied}
use Rattle.session_ctx.specs.catalog_rules.Bases.{Base, defined}
use Rattle.binlog_sizes.specs.log_entries.declared.entries.Entry.{Entry}
use Rattle.binlog_sizes.specs.log_entries.Entries.{after}
use Rattle.binlog_sizes.proofs.of_log_entries.Following.{go_on}
use Rattle.sql_print.specs.StatementSpelling.{spelling}
use Rattle.sql_tree.specs.Statement.{Statement, create_table, create_function, create_procedure, create_trigger, drop_table, drop_function, drop_procedure, drop_trigger, truncate, insert_into, replace_into, update_rows, delete_rows, select, evaluate, set_all, call_procedure, begin, commit, rollback, savepoint, rollback_to, release_savepoint, block, if_steps, while_steps, return_value}
use Rattle.sql_tree.specs.Tree.{Tree, Trees}
use Rattle.sql_tree.specs.declared.statements.Target.{Target}
use Rattle.session_ctx.specs.catalog_rules.Creating.{ddl_refusal}
use Rattle.session_ctx.specs.catalog_rules.Checks.{session_scope, statement_refusal}
use Rattle.answer_text.specs.declared.answer.Answer.{Answer}
use Rattle.text_answers.specs.Answers.{TextAnswer, a_statement, a_syntax_error, too_deep, text_answer}
use Rattle.session_ctx.specs.sql_meaning.Frames.{Context}
use Rattle.session_ctx.specs.sql_meaning.Running.{evaluation}
use Rattle.session_ctx.specs.sql_meaning.Leading.{StatementsEndWell, EvaluationsEndWell}
use Rattle.proc_model.specs.sql_reach.Defining.{number_of_bytes}
use Rattle.proc_model.specs.sql_reach.Reach.{is_definition}
use Rattle.proc_model.specs.Procedures.{assignments_of}
use Rattle.session_model.specs.Answers.{ok, refused, refused_at}
use Rattle.session_model.specs.Sessions.{Save, Open, just_opened, Session, Shared}
use Rattle.session_model.specs.Running.{Call, Turn, Given, is_other, released, items_of, commit_shared, commit_entries, commit_open, full, fitted_run, scene_for, setting_of, lock_refusal, writing_refusal}
use Rattle.session_model.specs.Commands.{answered, unless_refused, begin_turn, commit_turn, rollback_turn, is_save_of, saves_but, changes_of_own, saved, save_turn, cut_back, back_to_save, back_in, back_turn, release_in, defined_turn, made_turn, unless_answered, define_turn, definition_turn, is_open, set_by, set_expressions, set_misfit, set_turn, code_answer, is_too_long, plain_turn, definition_entry}
use Rattle.session_model.specs.Calling.{arguments_run, call_turn}
use Rattle.session_model.specs.Formats.{first_format}
use Rattle.session_model.specs.declared.format.Format.{Format}
use Rattle.session_model.specs.Machine.{Whole, whole, Machine, statement_turn, text_turn, at_work, with_count, session_slots, step}
use Rattle.session_model.specs.Holding.{changes_of, define, changes_in, holds_lock, SavesFrom, Owns, SharedHolds, format_of, transaction_of, session_at, Beginning, Holds, RunsBegin, RunsGoOn, FormatsDecide, AreIn, AreOne, EntriesIn, RunsOpen}
use Rattle.session_model.proofs.Saving.{none_made, front_made, cut_changes, saves_set, saves_without, saves_cut, found_holds}
use Rattle.session_model.proofs.Assigning.{all_owned}
use Rattle.session_model.proofs.Logging.{Logged, logged_on, no_entry, none_one, front_one, in_behind, front_in}
use Rattle.session_model.proofs.Owning.{held_not_other, other_not_held, not_both, none_taken, Frame, StillHolds, nothing_done, no_changes, own_changes, closed_owns, entry_made, released_left, must_own, free_to_write}
use Rattle.session_model.proofs.Keeping.{TurnLeft, fitted_fits, fitted_left, statement_left}
use Rattle.session_model.proofs.Calling.{called_left, arguments_left, arguments_format}
use Rattle.port_traits.specs.declared.identity.Identity.{Identity}
use Rattle.port_traits.specs.declared.identity.Draw.{Draw}

-- ---- the commands of a session

module _ (P : Type 0) (identity : Identity) (draw : Draw) (number : ℕ) where
  abbrev call : Call Whole
  call = record { identity = identity; draw = draw; number = number; known = whole }

  -- the transaction of some items is committed
  committed_left : (context : Context) (shared : Shared) (format : Format) (t : Option (Open Whole)) (i : Whole) (is : List Whole) → SharedHolds shared → Owns number shared format t → items_of t ≡ i ∷ is
      → StillHolds P number shared (released number (commit_shared call context (i ∷ is) shared)) format format None (commit_entries call context (i ∷ is))
  committed_left context shared format t i is h o e =
      let l = must_own number shared format i is t o e in
      let q = held_not_other number shared.writer l in
      let new : Shared = commit_shared call context (i ∷ is) shared in
      subst (λ (b : Bool). StillHolds P number shared (cond b new (record new { writer = None })) format format None (commit_entries call context (i ∷ is))) (sym q)
      (record {
        holds = record { free = λ _. refl; makes = none_made _ };
        own = closed_owns number (record new { writer = None }) format refl;
        entries = entry_made context.stamp identity.server_id (i ∷ is) shared.base shared.changes (o.own l ∙ ap changes_in e) h.makes;
        log = record { count = refl; place = refl; made = λ _. ((omega arith, subst AreOne e o.one), tt) };
        formats = (subst (AreIn format) e o.formats, tt);
        frame = inr (q, refl);
      })

  commit_in : (context : Context) (shared : Shared) (format : Format) (t : Option (Open Whole)) (is : List Whole) → SharedHolds shared → Owns number shared format t → items_of t ≡ is
      → StillHolds P number shared (released number (commit_shared call context is shared)) format format None (commit_entries call context is)
  commit_in context shared format t [] h o e = released_left P number shared format t h o e (is_other number shared.writer) refl
  commit_in context shared format t (i ∷ is) h o e = committed_left context shared format t i is h o e

  commit_left : (shared : Shared) (session : Session Whole) → SharedHolds shared → Owns number shared session.format session.transaction
      → StillHolds P number shared (commit_open call shared session).shared session.format session.format None (commit_open call shared session).committed
  commit_left shared session h o = commit_in session.vars.context shared session.format session.transaction (items_of session.transaction) h o refl

  -- ---- one command

  module _ (shared : Shared) (session : Session Whole) (h : SharedHolds shared) (o : Owns number shared session.format session.transaction) where
    same_left : (answer : Answer) → TurnLeft P number shared session.format (answered answer shared session)
    same_left answer = nothing_done P number shared session.format session.format session.transaction h o

    unless_left : (refusal : Option Answer) (t : Turn Whole Answer) → TurnLeft P number shared session.format t → TurnLeft P number shared session.format (unless_refused refusal shared session t)
    unless_left None t l = l
    unless_left (Some answer) t l = same_left answer

    long_left : (b : Bool) (answer : Answer) (t : Turn Whole Answer) → TurnLeft P number shared session.format t → TurnLeft P number shared session.format (cond b (answered answer shared session) t)
    long_left true answer t l = same_left answer
    long_left false answer t l = l

    -- a transaction that is opened has no item
    opened_left : (new : Shared) (format : Format) (es : List (Entry Whole)) → StillHolds P number shared new format format None es → StillHolds P number shared new format format (Some just_opened) es
    opened_left new format es l =
        record { holds = l.holds; own = record { own = l.own.own; none = l.own.none; saves = omega arith; one = none_one; formats = tt }; entries = l.entries; log = l.log; formats = l.formats; frame = l.frame }

    begin_left : TurnLeft P number shared session.format (begin_turn call shared session)
    begin_left = opened_left _ _ _ (commit_left shared session h o)

    commit_turn_left : TurnLeft P number shared session.format (commit_turn call shared session)
    commit_turn_left = commit_left shared session h o

    dropped_by : (b : Bool) → is_other number shared.writer ≡ b → StillHolds P number shared (cond b shared (record shared { changes = []; writer = None })) session.format session.format None []
    dropped_by true q = record {
      holds = h;
      own = record { own = λ l. absurd (differ (other_not_held number shared.writer q) l); none = λ _. refl; saves = omega arith; one = none_one; formats = tt };
      entries = refl;
      log = no_entry shared.committed shared.place;
      formats = tt;
      frame = inl (refl, refl);
    }
      where
        differ : {b : Bool} → b ≡ false → b ≡ true → ⊥
        differ p r = cc
    dropped_by false q = record {
      holds = record { free = λ _. refl; makes = none_made _ };
      own = closed_owns number (record shared { changes = []; writer = None }) session.format refl;
      entries = refl;
      log = no_entry shared.committed shared.place;
      formats = tt;
      frame = inr (q, refl);
    }

    rollback_left : TurnLeft P number shared session.format (rollback_turn call shared session)
    rollback_left = dropped_by (is_other number shared.writer) refl

    -- ---- savepoints
    own_count : (b : Bool) → is_other number shared.writer ≡ b → cond b 0 (length shared.changes) ≡ length (changes_in (items_of session.transaction))
    own_count true q = ap (λ (is : List Whole). length (changes_in is)) (sym (o.none (other_not_held number shared.writer q)))
    own_count false q = ap length (own_changes number shared session.format session.transaction h o q)

    with_saves : (open' : Open Whole) (ss : List Save) → Owns number shared session.format (Some open') → SavesFrom open'.items 0 ss → Owns number shared session.format (Some (record open' { saves = ss }))
    with_saves open' ss p q = record { own = p.own; none = p.none; saves = q; one = p.one; formats = p.formats }

    save_by : (name : List ℕ) (t : Option (Open Whole)) → Owns number shared session.format t → changes_of_own number shared ≡ length (changes_in (items_of t))
        → Owns number shared session.format (option_map (saved name (changes_of_own number shared)) t)
    save_by name None p e = p
    save_by name (Some open') p e =
        with_saves open' (saves_but name open'.saves ++ record { name = name; items = length open'.items; changes = changes_of_own number shared } ∷ []) p
        (saves_set open'.items 0 (saves_but name open'.saves) name (changes_of_own number shared) e (saves_without open'.items 0 open'.saves name p.saves))

    save_left : (name : List ℕ) → TurnLeft P number shared session.format (save_turn call name shared session)
    save_left name =
        nothing_done P number shared session.format session.format (option_map (saved name (changes_of_own number shared)) session.transaction) h
        (save_by name session.transaction o (own_count (is_other number shared.writer) refl))

    cut_by : (name : List ℕ) (open' : Open Whole) (save : Save) → Owns number shared session.format (Some open') → find (is_save_of name) open'.saves ≡ Some save → (b : Bool) → is_other number shared.writer ≡ b
        → StillHolds P number shared (cond b shared (record shared { changes = take save.changes shared.changes })) session.format session.format (Some (cut_back name save open')) []
    cut_by name open' save p e true q =
        let empty = p.none (other_not_held number shared.writer q) in
        nothing_done P number shared session.format session.format (Some (cut_back name save open')) h
        (record {
          own = λ l. absurd (differ (other_not_held number shared.writer q) l);
          none = λ _. none_taken save.items open'.items empty;
          saves = saves_cut open'.items 0 open'.saves name save p.saves e;
          one = front_one save.items open'.items p.one;
          formats = front_in session.format save.items open'.items p.formats;
        })
      where
        differ : {b : Bool} → b ≡ false → b ≡ true → ⊥
        differ p r = cc
    cut_by name open' save p e false q =
        let own = own_changes number shared session.format (Some open') h p q in
        let counts = (found_holds open'.items 0 open'.saves name save p.saves e).1 in
        let cut : take save.changes shared.changes ≡ changes_in (take save.items open'.items) =
        ap (λ (k : ℕ). take k shared.changes) counts ∙ (ap (take (length (changes_in (take save.items open'.items)))) own ∙ cut_changes save.items open'.items) in
        record {
          holds = record { free = λ none. none_taken save.changes shared.changes (h.free none); makes = front_made save.changes shared.changes shared.base.tables h.makes };
          own = record {
            own = λ _. cut;
            none = λ l. none_taken save.items open'.items (p.none l);
            saves = saves_cut open'.items 0 open'.saves name save p.saves e;
            one = front_one save.items open'.items p.one;
            formats = front_in session.format save.items open'.items p.formats;
          };
          entries = refl;
          log = no_entry shared.committed shared.place;
          formats = tt;
          frame = inr (q, q);
        }

    found_by : (name : List ℕ) (open' : Open Whole) (found : Option Save) → Owns number shared session.format (Some open') → session.transaction ≡ Some open' → find (is_save_of name) open'.saves ≡ found
        → TurnLeft P number shared session.format (back_to_save call name open' found shared session)
    found_by name open' None p e q = same_left (refused 1305)
    found_by name open' (Some save) p e q = cut_by name open' save p q (is_other number shared.writer) refl

    back_by : (name : List ℕ) (t : Option (Open Whole)) → Owns number shared session.format t → session.transaction ≡ t → TurnLeft P number shared session.format (back_in call name t shared session)
    back_by name None p e = same_left (refused 1305)
    back_by name (Some open') p e = found_by name open' (find (is_save_of name) open'.saves) p e refl

    back_left : (name : List ℕ) → TurnLeft P number shared session.format (back_turn call name shared session)
    back_left name = back_by name session.transaction o refl

    released_by : (name : List ℕ) (open' : Open Whole) (b : Bool) → Owns number shared session.format (Some open')
        → TurnLeft P number shared session.format (cond b (answered (ok 0) shared (record session { transaction = Some (record open' { saves = saves_but name open'.saves }) })) (answered (refused 1305) shared session))
    released_by name open' true p =
        nothing_done P number shared session.format session.format (Some (record open' { saves = saves_but name open'.saves })) h (with_saves open' (saves_but name open'.saves) p (saves_without open'.items 0 open'.saves name p.saves))
    released_by name open' false p = same_left (refused 1305)

    release_left : (name : List ℕ) (t : Option (Open Whole)) → Owns number shared session.format t → TurnLeft P number shared session.format (release_in name t shared session)
    release_left name None p = same_left (refused 1305)
    release_left name (Some open') p = released_by name open' (is_some (find (is_save_of name) open'.saves)) p

    -- ---- definitions

    -- where the open transaction is closed and what that left is there
    abbrev EndLeft : Turn Whole (Unit {0}) → Type 0
    EndLeft t = (t.session.transaction ≡ None) × StillHolds P number shared t.shared session.format t.session.format None t.committed

    end_left : (t : Turn Whole (Unit {0})) → EndLeft t → TurnLeft P number shared session.format t
    end_left t l = subst (λ (u : Option (Open Whole)). StillHolds P number shared t.shared session.format t.session.format u t.committed) (sym l.0) l.1

    answered_left : (refusal : Option Answer) (t : Turn Whole (Unit {0})) (next : Turn Whole Answer) → TurnLeft P number shared session.format t → (refusal ≡ None → TurnLeft P number shared session.format next)
        → TurnLeft P number shared session.format (unless_answered refusal t next)
    answered_left None t next l more = more refl
    answered_left (Some answer) t next l more = l

    -- a definition that a text is
    module _ (text : List ℕ) (s : Statement) (is : text_answer text ≡ a_statement s) (short : P → length text ≤ 2 ^ 20) (defines : is_definition s ≡ true) where
      -- its entry makes of a base what the definition does
      define_entry : (context : Context) (new : Shared) (base : Base) → after changes_of define (definition_entry call text s context new ∷ []) base ≡ defined s base
      define_entry context new base = unit (defined s base)
        where
          unit : (made : Option Base) → option_and_then (after changes_of define []) made ≡ made
          unit None = refl
          unit (Some b) = refl

      -- a base that it made, behind the end of the open transaction
      defined_left : (base : Base) (t : Turn Whole (Unit {0})) → EndLeft t → is_other number t.shared.writer ≡ false → defined s t.shared.base ≡ Some base
          → TurnLeft P number shared session.format (defined_turn call text s base t)
      defined_left base t l q e =
          let none = no_changes number t.shared t.session.format None l.1.holds l.1.own q refl in
          let turn : Turn Whole Answer = defined_turn call text s base t in
          let entry : Entry Whole = definition_entry call text s t.session.vars.context t.shared in
          record {
            holds = record { free = l.1.holds.free; makes = ap (λ (cs : List Change). is_some (all_applied cs base.tables)) none ∙ none_made base.tables };
            own = subst (λ (u : Option (Open Whole)). Owns number turn.shared t.session.format u) (sym l.0) (closed_owns number turn.shared t.session.format none);
            entries = go_on changes_of define t.committed (entry ∷ []) shared.base
                ∙ (ap (λ (made : Option Base). option_and_then (after changes_of define (entry ∷ [])) made) l.1.entries ∙ (define_entry t.session.vars.context t.shared t.shared.base ∙ e));
            log = logged_on t.committed (entry ∷ []) shared.committed t.shared.committed turn.shared.committed shared.place t.shared.place turn.shared.place l.1.log
                (record { count = refl; place = refl; made = λ holds. (record { text = is; short = short holds; is = defines }, tt) });
            formats = in_behind session.format t.committed (entry ∷ []) l.1.formats tt;
            frame = l.1.frame;
          }

      made_left : (made : Option Base) (t : Turn Whole (Unit {0})) → EndLeft t → is_other number t.shared.writer ≡ false → defined s t.shared.base ≡ made
          → TurnLeft P number shared session.format (made_turn call text s made t)
      made_left None t l q e = end_left t l
      made_left (Some base) t l q e = defined_left base t l q e

      define_left : (t : Turn Whole (Unit {0})) → EndLeft t → TurnLeft P number shared session.format (define_turn call text s t)
      define_left t l =
          answered_left (option_map refused (ddl_refusal t.shared.base.catalog s)) t _ (end_left t l) (λ _.
          answered_left (writing_refusal number t.shared) t _ (end_left t l) (λ free. made_left (defined s t.shared.base) t l (free_to_write number t.shared free) refl))

      definition_left : TurnLeft P number shared session.format (definition_turn call text s shared session)
      definition_left = define_left (commit_open call shared session) (refl, commit_left shared session h o)

    -- ---- statements that are run
    module _ (statements : StatementsEndWell) (evaluations : EvaluationsEndWell) where
      -- values that are not refused are assigned
      set_by_left : (as' : List (Target × Tree)) (r : Result (List Value) ℕ) (t : Turn Whole (Given (List Value)))
          → ((vs : List Value) → r ≡ Ok vs → (set_misfit (is_open session) as' vs ≡ None) × (is_open t.session ≡ is_open session)) → TurnLeft P number shared session.format t
          → TurnLeft P number shared session.format (set_by as' r t)
      set_by_left as' (Err code) t fits l = l
      set_by_left as' (Ok vs) t fits l =
          let fit = fits vs refl in
          let none : set_misfit (is_open t.session) as' vs ≡ None = ap (λ (b : Bool). set_misfit b as' vs) fit.1 ∙ fit.0 in
          record { holds = l.holds; own = all_owned number t.shared (assignments_of as' vs) t.session none l.own; entries = l.entries; log = l.log; formats = l.formats; frame = l.frame }

      set_left : (as' : List (Target × Tree)) → TurnLeft P number shared session.format (set_turn call as' shared session)
      set_left as' =
          let ts = set_expressions as' in
          let text = spelling (evaluate ts) in
          let misfit = set_misfit (is_open session) as' in
          let before = scene_for number full session.vars.context shared in
          let run = fitted_run call full text ts misfit shared session in
          long_left (is_too_long text) (refused 1153) _
          (unless_left (code_answer (statement_refusal shared.base.catalog session_scope (set_all as'))) _
          (unless_left (lock_refusal number shared (evaluate ts)) _
          (set_by_left as' run.given.result run
          (fitted_fits {A = List Value} call full text (evaluate ts) shared session (λ _. None) (λ _. None) before misfit
          (evaluation (setting_of shared.base.catalog session.vars.context (number_of_bytes 0 draw.uuid)) full.nesting [] ts before))
          (fitted_left P identity draw number shared session h o evaluations full text ts misfit))))

      call_left : (name : List ℕ) (ts : Trees) → TurnLeft P number shared session.format (call_turn call name ts shared session)
      call_left name ts =
          let text = spelling (evaluate ts) in
          let run = arguments_run call text ts shared session in
          long_left (is_too_long text) (refused 1153) _
          (unless_left (code_answer (statement_refusal shared.base.catalog session_scope (call_procedure name ts))) _
          (unless_left (lock_refusal number shared (evaluate ts)) _
          (called_left P identity draw number shared session.format statements evaluations name run.given.result run
          (arguments_format P identity draw number shared session h o evaluations text ts) (arguments_left P identity draw number shared session h o evaluations text ts))))

      plain_left : (text : List ℕ) (s : Statement) → TurnLeft P number shared session.format (plain_turn call text s shared session)
      plain_left text s =
          unless_left (code_answer (statement_refusal shared.base.catalog session_scope s)) _ (unless_left (lock_refusal number shared s) _ (statement_left P identity draw number shared session h o statements full text s))

      -- ---- one command
      any_left : (text : List ℕ) (s : Statement) → text_answer text ≡ a_statement s → (P → length text ≤ 2 ^ 20) → TurnLeft P number shared session.format (statement_turn call text s shared session)
      any_left text begin is short = begin_left
      any_left text commit is short = commit_turn_left
      any_left text rollback is short = rollback_left
      any_left text (savepoint name) is short = save_left name
      any_left text (rollback_to name) is short = back_left name
      any_left text (release_savepoint name) is short = release_left name session.transaction o
      any_left text (set_all as') is short = set_left as'
      any_left text (call_procedure name ts) is short = call_left name ts
      any_left text (create_table t) is short = definition_left text (create_table t) is short refl
      any_left text (create_function p) is short = definition_left text (create_function p) is short refl
      any_left text (create_procedure p) is short = definition_left text (create_procedure p) is short refl
      any_left text (create_trigger t) is short = definition_left text (create_trigger t) is short refl
      any_left text (drop_table n) is short = definition_left text (drop_table n) is short refl
      any_left text (drop_function n) is short = definition_left text (drop_function n) is short refl
      any_left text (drop_procedure n) is short = definition_left text (drop_procedure n) is short refl
      any_left text (drop_trigger n) is short = definition_left text (drop_trigger n) is short refl
      any_left text (truncate n) is short = definition_left text (truncate n) is short refl
      any_left text (insert_into ignore t names supply sets) is short = plain_left text (insert_into ignore t names supply sets)
      any_left text (replace_into t names supply) is short = plain_left text (replace_into t names supply)
      any_left text (update_rows t sets condition os limit) is short = plain_left text (update_rows t sets condition os limit)
      any_left text (delete_rows t condition os limit) is short = plain_left text (delete_rows t condition os limit)
      any_left text (select q) is short = plain_left text (select q)
      any_left text (evaluate ts) is short = plain_left text (evaluate ts)
      any_left text (block ds ss) is short = plain_left text (block ds ss)
      any_left text (if_steps bs o') is short = plain_left text (if_steps bs o')
      any_left text (while_steps c ss) is short = plain_left text (while_steps c ss)
      any_left text (return_value e) is short = plain_left text (return_value e)

      text_left : (text : List ℕ) (a : TextAnswer) → text_answer text ≡ a → (P → length text ≤ 2 ^ 20) → TurnLeft P number shared session.format (text_turn call text a shared session)
      text_left text (a_statement s) is short = any_left text s is short
      text_left text (a_syntax_error place) is short = same_left (refused_at place)
      text_left text too_deep is short = same_left (refused 30007)

      command_left : (text : List ℕ) → (P → length text ≤ 2 ^ 20) → TurnLeft P number shared session.format (with_count (text_turn call text (text_answer text) shared session))
      command_left text short = text_left text (text_answer text) refl short

-- ---- a step

pub work_same : (any : Call Whole) (session : Option (Session Whole)) → (at_work any session).transaction ≡ transaction_of session
work_same any None = refl
work_same any (Some session) = refl

work_format : (any : Call Whole) (session : Option (Session Whole)) → (at_work any session).format ≡ format_of session
work_format any None = refl
work_format any (Some session) = refl

-- a session at work has the format and the transaction that it had
pub work_owns : (any : Call Whole) (n : ℕ) (shared : Shared) (session : Option (Session Whole)) → Owns n shared (format_of session) (transaction_of session)
    → Owns n shared (at_work any session).format (at_work any session).transaction
work_owns any n shared None o = o
work_owns any n shared (Some session) o = o

-- for a session of another number
other_owns : (n k : ℕ) (old new : Shared) (format : Format) (t : Option (Open Whole)) → k ≢ n → Frame n old new → Owns k old format t → Owns k new format t
other_owns n k old new format t differ (inl (w, c)) o = record {
  own = λ l. c ∙ o.own (ap (holds_lock k) (sym w) ∙ l);
  none = λ l. o.none (ap (holds_lock k) (sym w) ∙ l);
  saves = o.saves;
  one = o.one;
  formats = o.formats;
}
other_owns n k old new format t differ (inr (p, q)) o = record {
  own = λ l. absurd (apart (not_both n k new.writer differ q) l);
  none = λ _. o.none (not_both n k old.writer differ p);
  saves = o.saves;
  one = o.one;
  formats = o.formats;
}
  where
    apart : {b : Bool} → b ≡ false → b ≡ true → ⊥
    apart x y = cc

-- a session owns what is its own by its format and its transaction
abbrev SessionOwns : ℕ → Shared → Option (Session Whole) → Type 0
SessionOwns n shared session = Owns n shared (format_of session) (transaction_of session)

each_owns : (n k : ℕ) (old new : Shared) (sessions : List (Option (Session Whole))) (session : Session Whole) → n < length sessions → Owns n new session.format session.transaction → Frame n old new
    → ((j : ℕ) → SessionOwns j old (slice_index_or sessions j None)) → SessionOwns k new (slice_index_or (slice_set sessions n (Some session)) k None)
each_owns n k old new sessions session within own frame each = by (k == n) refl
  where
    by : (b : Bool) → (k == n) ≡ b → SessionOwns k new (slice_index_or (slice_set sessions n (Some session)) k None)
    by true e =
        let same : k ≡ n = eqb-true k n e in
        subst (λ (j : ℕ). SessionOwns j new (slice_index_or (slice_set sessions n (Some session)) j None)) (sym same)
        (subst (λ (s : Option (Session Whole)). SessionOwns n new s) (sym (get_or-set_same sessions n (Some session) None within)) own)
    by false e =
        let differ : k ≢ n = eqb-false k n e in
        subst (λ (s : Option (Session Whole)). SessionOwns k new s) (sym (get_or-set_other sessions n k (Some session) None differ)) (other_owns n k old new _ _ differ frame (each k))

module _ (statements : StatementsEndWell) (evaluations : EvaluationsEndWell) (from : Beginning) (m : Machine) (identity : Identity) (n : ℕ) (text : List ℕ) (draw : Draw) (holds : Holds from m) where
  abbrev at_call : Call Whole
  at_call = record { identity = identity; draw = draw; number = n; known = whole }

  abbrev session_now : Session Whole
  session_now = at_work at_call (session_at n m)

  abbrev turn_now : Turn Whole Answer
  turn_now = with_count (text_turn at_call text (text_answer text) m.state.shared session_now)

  -- what the step leaves, where its text is no longer than a command's
  step_left : StillHolds (length text ≤ 2 ^ 20) n m.state.shared turn_now.shared session_now.format turn_now.session.format turn_now.session.transaction turn_now.committed
  step_left =
      command_left (length text ≤ 2 ^ 20) identity draw n m.state.shared session_now holds.shared (work_owns at_call n m.state.shared (session_at n m) (holds.each n)) statements evaluations text (λ short. short)

pub runs_go_on : StatementsEndWell → EvaluationsEndWell → RunsGoOn
unfolding step
runs_go_on statements evaluations from m identity n text draw holds within short =
    let turn = turn_now statements evaluations from m identity n text draw holds in
    let left = step_left statements evaluations from m identity n text draw holds in
    let so_far : Logged (length text ≤ 2 ^ 20) m.history from.committed from.place m.state.shared.committed m.state.shared.place = record { count = holds.count; place = holds.place; made = λ _. holds.made } in
    let log = logged_on m.history turn.committed from.committed m.state.shared.committed turn.shared.committed from.place m.state.shared.place turn.shared.place so_far left.log in
    record {
      entries = go_on changes_of define m.history turn.committed from.base ∙ (ap (λ (b : Option Base). option_and_then (after changes_of define turn.committed) b) holds.entries ∙ left.entries);
      count = log.count;
      place = log.place;
      made = log.made short;
      shared = left.holds;
      each = λ k. each_owns n k m.state.shared turn.shared m.state.sessions turn.session within left.own left.frame holds.each;
    }

pub formats_decide : StatementsEndWell → EvaluationsEndWell → FormatsDecide
unfolding step
formats_decide statements evaluations from m identity n text draw holds within =
    let turn = turn_now statements evaluations from m identity n text draw holds in
    subst (λ (format : Format). EntriesIn format turn.committed) (work_format (at_call statements evaluations from m identity n text draw holds) (session_at n m))
    (step_left statements evaluations from m identity n text draw holds).formats

-- ---- the beginning

pub none_there : (count n : ℕ) → slice_index_or {A = Option (Session Whole)} (replicate count None) n None ≡ None
none_there zero n = refl
none_there (suc count) zero = refl
none_there (suc count) (suc n) = none_there count n

pub none_owned : (shared : Shared) → shared.changes ≡ [] → (n : ℕ) → SessionOwns n shared (slice_index_or {A = Option (Session Whole)} (replicate session_slots None) n None)
none_owned shared e n = subst (λ (s : Option (Session Whole)). SessionOwns n shared s) (sym (none_there session_slots n)) (closed_owns n shared first_format e)

pub runs_begin : RunsBegin
runs_begin from counters = record {
  entries = refl;
  count = refl;
  place = refl;
  made = tt;
  shared = record { free = λ _. refl; makes = none_made _ };
  each = none_owned _ refl;
}

pub runs_open : RunsOpen
runs_open identity draw = record {
  entries = refl;
  count = refl;
  place = refl;
  made = (tt, tt);
  shared = record { free = λ _. refl; makes = none_made _ };
  each = none_owned _ refl;
}
