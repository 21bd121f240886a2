-- What each command of a session leaves says itself: one lemma a command.
use Rattle.std.proofs.Common.{◌≡◌, ◌≤◌, ◌^◌, ℕ, Bool, true, false, List, [], ◌∷◌, find, length, Option, Some, None, refl, sym, subst, cond}
use Rattle.std.specs.Prelude.{is_some}
use Rattle.std.specs.List.{list_all}
use Rattle.std.specs.Option.{option_map}
use Rattle.hex.specs.Hex.{IsBytes}
use Rattle.val_types.specs.declared.value.Value.{Value}
use Rattle.port_traits.specs.declared.identity.Identity.{Identity}
use Rattle.port_traits.specs.declared.identity.Draw.{Draw}
use Rattle.sql_tree.specs.Statement.{Statement, create_table, create_function, create_procedure, create_trigger, drop_table, drop_function, drop_procedure, drop_trigger, truncate, insert_into, replace_into, update_rows, delete_rows, select, evaluate, set_all, call_procedure, begin, commit, rollback, savepoint, rollback_to, release_savepoint, block, if_steps, while_steps, return_value}
use Rattle.sql_tree.specs.Tree.{Trees, no_tree, tree}
use Rattle.sql_tree.specs.Well.{IsWell}
use Rattle.sql_print.specs.StatementSpelling.{spelling}
use Rattle.name_const_laws.specs.catalog_rules.Bases.{Base, defined}
use Rattle.name_const_laws.specs.catalog_rules.Checks.{session_scope, statement_refusal}
use Rattle.name_const_laws.specs.catalog_rules.Creating.{ddl_refusal}
use Rattle.name_const_laws.specs.catalog_rules.Objects.{Object}
use Rattle.answer_text.specs.declared.answer.Answer.{Answer}
use Rattle.session_model.specs.text_answers.Answers.{TextAnswer, a_statement, a_syntax_error, too_deep, text_answer}
use Rattle.name_const_laws.specs.sql_meaning.Frames.{Context}
use Rattle.session_model.specs.Answers.{refused}
use Rattle.session_model.specs.Sessions.{Save, Open, Session, Shared}
use Rattle.session_model.specs.Running.{Call, Turn, Given, full, items_of, commit_entries, commit_open, lock_refusal, writing_refusal}
use Rattle.session_model.specs.Commands.{answered, is_save_of, saves_but, changes_of_own, saved, back_to_save, back_in, release_in, made_turn, unless_answered, definition_turn}
use Rattle.session_model.specs.Calling.{arguments_run, call_turn}
use Rattle.session_model.specs.Machine.{Whole, whole, statement_turn, text_turn}
use Rattle.session_replays.specs.Bodies.{has_well_body}
use Rattle.session_replays.specs.Sizes.{has_sizes}
use Rattle.session_replays.specs.Texts.{AllSay, EntriesSay}
use Rattle.session_replays.proofs.Closing.{ClosingLaws, dos_well}
use Rattle.session_replays.proofs.Saying.{Leaves, say_front, say_behind, ended_leaves, unless_leaves, checked_leaves, short_leaves, plain_leaves, arguments_allowed, whole_sound, TextLaws, spelling_read, set_leaves}
use Rattle.session_replays.proofs.SayingCalls.{called_leaves}
use Rattle.session_replays.proofs.Spending.{Spend, arguments_turns}
use Rattle.session_replays.proofs.Staying.{arguments_catalog}

module _ (identity : Identity) (draw : Draw) (number : ℕ) (shared : Shared) (session : Session Whole) (k : AllSay (items_of session.transaction)) where
  abbrev call : Call Whole
  call = record { identity = identity; draw = draw; number = number; known = whole }

  -- ---- transactions and savepoints

  commit_leaves : (context : Context) (is : List Whole) → AllSay is → EntriesSay (commit_entries call context is)
  commit_leaves context [] a = tt
  commit_leaves context (i ∷ is) a = (a, tt)

  committed : EntriesSay (commit_open call shared session).committed
  committed = commit_leaves session.vars.context (items_of session.transaction) k

  save_leaves : (name : List ℕ) (t : Option (Open Whole)) → AllSay (items_of t) → AllSay (items_of (option_map (saved name (changes_of_own number shared)) t))
  save_leaves name None a = a
  save_leaves name (Some open') a = a

  found_leaves : (name : List ℕ) (open' : Open Whole) (found : Option Save) → AllSay open'.items → Leaves (back_to_save call name open' found shared session)
  found_leaves name open' None a = (tt, k)
  found_leaves name open' (Some save) a = (tt, say_front save.items open'.items a)

  back_leaves : (name : List ℕ) (t : Option (Open Whole)) → AllSay (items_of t) → Leaves (back_in call name t shared session)
  back_leaves name None a = (tt, k)
  back_leaves name (Some open') a = found_leaves name open' (find (is_save_of name) open'.saves) a

  let_go : (name : List ℕ) (open' : Open Whole) (b : Bool) (one other : Answer) → AllSay open'.items
      → Leaves (cond b (answered one shared (record session { transaction = Some (record open' { saves = saves_but name open'.saves }) })) (answered other shared session))
  let_go name open' true one other a = (tt, a)
  let_go name open' false one other a = (tt, k)

  release_leaves : (name : List ℕ) (t : Option (Open Whole)) → AllSay (items_of t) → Leaves (release_in name t shared session)
  release_leaves name None a = (tt, k)
  release_leaves name (Some open') a = let_go name open' (is_some (find (is_save_of name) open'.saves)) _ _ a

  -- ---- definitions, which are no items

  made_leaves : (text : List ℕ) (s : Statement) (made : Option Base) (t : Turn Whole (Unit {0})) → Leaves t → Leaves (made_turn call text s made t)
  made_leaves text s None t l = l
  made_leaves text s (Some base) t l = (say_behind t.committed _ l.0 tt, l.1)

  answered_leaves : (refusal : Option Answer) (t : Turn Whole (Unit {0})) (next : Turn Whole Answer) → Leaves t → Leaves next → Leaves (unless_answered refusal t next)
  answered_leaves None t next l more = more
  answered_leaves (Some answer) t next l more = l

  definition_leaves : (text : List ℕ) (s : Statement) → Leaves (definition_turn call text s shared session)
  definition_leaves text s =
      let t : Turn Whole (Unit {0}) = commit_open call shared session in
      let l : Leaves t = (committed, tt) in
      answered_leaves (option_map refused (ddl_refusal t.shared.base.catalog s)) t _ l
      (answered_leaves (writing_refusal number t.shared) t _ l (made_leaves text s (defined s t.shared.base) t l))

  -- ---- CALL

  module _ (texts : TextLaws) (laws : ClosingLaws) (spend : Spend) (sized : list_all has_sizes shared.base.catalog ≡ true) (bodies : list_all has_well_body shared.base.catalog ≡ true) where
    arguments_leave : (name : List ℕ) (ts : Trees) → IsWell (call_procedure name ts) → length (spelling (evaluate ts)) ≤ 2 ^ 20 → statement_refusal shared.base.catalog session_scope (call_procedure name ts) ≡ None
        → Leaves (arguments_run call (spelling (evaluate ts)) ts shared session)
    arguments_leave name no_tree w short allowed = (tt, k)
    arguments_leave name (tree t ts) w short allowed =
        let one : Statement = evaluate (tree t ts) in
        let s : Statement = call_procedure name (tree t ts) in
        ended_leaves (spelling one) one shared (spelling_read texts one (dos_well laws.parts s (whole_sound s refl w)).0) short refl (arguments_allowed shared.base.catalog name (tree t ts) allowed) call refl full session
        (λ (vs : List Value). None) (λ (vs : List Value). None) _ k

    call_leaves : (name : List ℕ) (ts : Trees) → IsWell (call_procedure name ts) → Leaves (call_turn call name ts shared session)
    call_leaves name ts w =
        let text : List ℕ = spelling (evaluate ts) in
        let run : Turn Whole (Given (List Value)) = arguments_run call text ts shared session in
        let there = sym (arguments_catalog call text ts shared session) in
        short_leaves text (refused 1153) shared session _ k (λ short.
        checked_leaves (statement_refusal shared.base.catalog session_scope (call_procedure name ts)) shared session _ k (λ allowed.
        unless_leaves (lock_refusal number shared (evaluate ts)) shared session _ k
        (called_leaves identity draw number laws spend name run.given.result run
        (subst (λ (os : List Object). list_all has_sizes os ≡ true) there sized) (subst (λ (os : List Object). list_all has_well_body os ≡ true) there bodies)
        (arguments_turns spend call text ts shared session) (arguments_leave name ts w short allowed))))

    -- ---- one command

    module _ (text : List ℕ) (short : length text ≤ 2 ^ 20) where
      any_leaves : (s : Statement) → IsWell s → text_answer text ≡ a_statement s → Leaves (statement_turn call text s shared session)
      any_leaves begin w e = (committed, tt)
      any_leaves commit w e = (committed, tt)
      any_leaves rollback w e = (tt, tt)
      any_leaves (savepoint name) w e = (tt, save_leaves name session.transaction k)
      any_leaves (rollback_to name) w e = back_leaves name session.transaction k
      any_leaves (release_savepoint name) w e = release_leaves name session.transaction k
      any_leaves (set_all as') w e = set_leaves texts laws.parts call refl as' shared session w k
      any_leaves (call_procedure name ts) w e = call_leaves name ts w
      any_leaves (create_table t) w e = definition_leaves text (create_table t)
      any_leaves (create_function p) w e = definition_leaves text (create_function p)
      any_leaves (create_procedure p) w e = definition_leaves text (create_procedure p)
      any_leaves (create_trigger t) w e = definition_leaves text (create_trigger t)
      any_leaves (drop_table n) w e = definition_leaves text (drop_table n)
      any_leaves (drop_function n) w e = definition_leaves text (drop_function n)
      any_leaves (drop_procedure n) w e = definition_leaves text (drop_procedure n)
      any_leaves (drop_trigger n) w e = definition_leaves text (drop_trigger n)
      any_leaves (truncate n) w e = definition_leaves text (truncate n)
      any_leaves (insert_into ignore t names supply sets) w e = plain_leaves call refl text (insert_into ignore t names supply sets) shared session e short refl k
      any_leaves (replace_into t names supply) w e = plain_leaves call refl text (replace_into t names supply) shared session e short refl k
      any_leaves (update_rows t sets condition os limit) w e = plain_leaves call refl text (update_rows t sets condition os limit) shared session e short refl k
      any_leaves (delete_rows t condition os limit) w e = plain_leaves call refl text (delete_rows t condition os limit) shared session e short refl k
      any_leaves (select q) w e = plain_leaves call refl text (select q) shared session e short refl k
      any_leaves (evaluate ts) w e = plain_leaves call refl text (evaluate ts) shared session e short refl k
      any_leaves (block ds ss) w e = cc
      any_leaves (if_steps bs o) w e = cc
      any_leaves (while_steps c ss) w e = cc
      any_leaves (return_value v) w e = cc

      text_leaves : IsBytes text → (a : TextAnswer) → text_answer text ≡ a → Leaves (text_turn call text a shared session)
      text_leaves bytes (a_statement s) e = any_leaves s (texts.well text s bytes e) e
      text_leaves bytes (a_syntax_error place) e = (tt, k)
      text_leaves bytes too_deep e = (tt, k)

      pub command_leaves : IsBytes text → Leaves (text_turn call text (text_answer text) shared session)
      command_leaves bytes = text_leaves bytes (text_answer text) refl
