-- Statements that begin with all that a command has, as its commands answer for them.
use Rattle.std.proofs.Common.{◌≡◌, ℕ, Bool, false, List, [], ◌∷◌, Option, Some, None, Result, Ok, Err, IfOk, refl, sym, ap, ◌∙◌, subst}
use Rattle.std.specs.Option.{option_map_or}
use Rattle.val_types.specs.declared.value.Value.{Value}
use Rattle.val_types.specs.declared.refusal.SqlRefusal.{SqlRefusal}
use Rattle.val_types.specs.declared.refusal.SqlRefusal.TheVariants.{Sql}
use Rattle.port_traits.specs.declared.identity.Draw.{Draw}
use Rattle.port_traits.specs.declared.identity.Identity.{Identity}
use Rattle.answer_text.specs.declared.answer.Answer.{Answer}
use Rattle.session_transaction.specs.log_entries.declared.entries.Item.{Item}
use Rattle.sql_tree.specs.Statement.{Statement, evaluate}
use Rattle.sql_tree.specs.Tree.{Trees, no_tree, tree}
use Rattle.sql_tree.specs.View.{view_trees}
use Rattle.sql_tree.specs.declared.expressions.Expr.{Expr}
use Rattle.session_transaction.specs.sql_meaning.Changing.{Did}
use Rattle.session_transaction.specs.sql_meaning.Running.{most_nested}
use Rattle.session_transaction.specs.prog_work.declared.meter.Meter.{Meter}
use Rattle.session_transaction.specs.prog_work.declared.meter.Outcome.{Outcome}
use Rattle.session_transaction.specs.prog_work.Outcomes.{Spends, outcome_of}
use Rattle.session_transaction.specs.answer_making.Telling.{told_answer}
use Rattle.session_transaction.specs.proc_model.Talk.{brought}
use Rattle.session_transaction.specs.proc_model.Procedures as procedures
use Rattle.session_transaction.specs.proc_parts.Calls.{left_of}
use Rattle.session_model.specs.Answers.{ok, ok_warned, refused, showing, with_warning}
use Rattle.session_model.specs.Sessions.{Session, Shared}
use Rattle.session_model.specs.Running.{Call, Fuel, Given, Turn, did_answer, expressions_run, full, given_answer, statement_run}
use Rattle.session_model.specs.Commands.{given_turn}
use Rattle.session_model.specs.Calling.{Reached, arguments_run, called_by, called_with, came_to, steps_of}
use Rattle.session_transaction.specs.session_statement.Calls.{call_of}
use Rattle.session_transaction.specs.session_shared.Desk.{shared_of}
use Rattle.session_transaction.specs.prog_work.Outcomes.{full_meter}
use Rattle.session_transaction.specs.session_statement.Ran.{fuel_at, told_given, told_of}
use Rattle.session_call.specs.Stepping.{Stood}
use Rattle.session_transaction.specs.session_statement.Turned.{EndsWith, IsTurn, Moves, giving}
use Rattle.session_transaction.specs.session_statement.declared.keeping.Kept.{Kept}
use Rattle.session_transaction.specs.session_shared.declared.desk.Desk.{Desk}
use Rattle.session_call.proofs.Counting.{Counts, values_count}

-- ---- a change, a SELECT or a DO

-- what is told of a statement, with its warning, is its answer
did_told : (warned : Bool) (did : Did) → with_warning warned (told_answer (outcome_of did)) ≡ did_answer warned did
did_told warned did = by did.shown
  where
    by : (shown : Option (List (List Value))) → with_warning warned (option_map_or (showing false) shown (ok did.affected)) ≡ option_map_or (showing warned) shown (ok_warned warned did.affected)
    by None = refl
    by (Some rows) = refl

told_is : (told : Outcome) (fuel : Fuel) (warned : Bool) (given : Given Did) → told_given given ≡ record { result = Ok told; fuel = fuel; warned = warned } → with_warning warned (told_answer told) ≡ given_answer given
told_is told fuel warned given e =
    ap (λ (b : Bool). with_warning b (told_answer told)) (sym (ap (λ (g : Given Outcome). g.warned) e)) ∙ by_result given.result (ap (λ (g : Given Outcome). g.result) e)
  where
    by_result : (r : Result Did ℕ) → told_of r ≡ Ok told → with_warning given.warned (told_answer told) ≡ elim r [ Ok did ↦ did_answer given.warned did | Err code ↦ refused code ]
    by_result (Ok did) e = let same : outcome_of did ≡ told = cc in ap (λ (o : Outcome). with_warning given.warned (told_answer o)) (sym same) ∙ did_told given.warned did
    by_result (Err code) e = cc

refused_is : (code : ℕ) (fuel : Fuel) (given : Given Did) → told_given given ≡ record { result = Err code; fuel = fuel; warned = false } → refused code ≡ given_answer given
refused_is code fuel given e = by_result given.result (ap (λ (g : Given Outcome). g.result) e)
  where
    by_result : (r : Result Did ℕ) → told_of r ≡ Err code → refused code ≡ elim r [ Ok did ↦ did_answer given.warned did | Err other ↦ refused other ]
    by_result (Ok did) e = cc
    by_result (Err other) e = let same : other ≡ code = cc in ap refused (sym same)

module _ (call : Call Item) (old new : Desk) (session after : Session Item) (start : Meter) (fuel : Fuel) (begins : start ≡ full_meter) where
  pub plain_told : (text : List ℕ) (s : Statement) (kept : Kept Outcome) (answer : Answer) → EndsWith (Ok kept) fuel old new after (giving told_given (statement_run call (left_of start) text s (shared_of old) session))
      → answer ≡ with_warning kept.warned (told_answer kept.value) → IsTurn old new after answer (given_turn (statement_run call full text s (shared_of old) session))
  plain_told text s kept answer ends said =
      subst (λ (m : Meter). IsTurn old new after answer (given_turn (statement_run call (left_of m) text s (shared_of old) session))) begins
      (ends.0, said ∙ told_is kept.value fuel kept.warned (statement_run call (left_of start) text s (shared_of old) session).given ends.1)

  pub plain_refused : (text : List ℕ) (s : Statement) (code : ℕ) (answer : Answer) → EndsWith {A = Outcome} (Err (Sql code)) fuel old new after (giving told_given (statement_run call (left_of start) text s (shared_of old) session))
      → answer ≡ refused code → IsTurn old new after answer (given_turn (statement_run call full text s (shared_of old) session))
  plain_refused text s code answer ends said =
      subst (λ (m : Meter). IsTurn old new after answer (given_turn (statement_run call (left_of m) text s (shared_of old) session))) begins
      (ends.0, said ∙ refused_is code fuel (statement_run call (left_of start) text s (shared_of old) session).given ends.1)

-- ---- the arguments of a CALL

pub no_argument : (call : Call Item) (text : List ℕ) (es : List Expr) (desk : Desk) (session : Session Item) (m : Meter) → es ≡ [] → m ≡ full_meter
    → EndsWith (Ok (record { value = []; warned = false })) (fuel_at m) desk desk session (arguments_run call text (view_trees es) (shared_of desk) session)
no_argument call text es desk session m none full =
    subst (λ (xs : List Expr). EndsWith (Ok (record { value = []; warned = false })) (fuel_at m) desk desk session (arguments_run call text (view_trees xs) (shared_of desk) session)) (sym none)
    (subst (λ (k : Meter). EndsWith (Ok (record { value = []; warned = false })) (fuel_at k) desk desk session (arguments_run call text no_tree (shared_of desk) session)) (sym full) ((refl, refl, (refl, tt)), refl))

pub some_argument : (call : Call Item) (text said : List ℕ) (es : List Expr) (r : Result (Kept (List Value)) SqlRefusal) (fuel : Fuel) (old new : Desk) (session after : Session Item) (m : Meter) → (es ≡ [] → ⊥) → said ≡ text → m ≡ full_meter
    → EndsWith r fuel old new after (expressions_run call (left_of m) said (view_trees es) (shared_of old) session)
    → EndsWith r fuel old new after (arguments_run call text (view_trees es) (shared_of old) session)
some_argument call text said [] r fuel old new session after m some same begins ends = absurd (some refl)
some_argument call text said (e ∷ es) r fuel old new session after m some same begins ends =
    subst (λ (x : List ℕ). EndsWith r fuel old new after (expressions_run call full x (view_trees (e ∷ es)) (shared_of old) session)) same
    (subst (λ (k : Meter). EndsWith r fuel old new after (expressions_run call (left_of k) said (view_trees (e ∷ es)) (shared_of old) session)) begins ends)

-- ---- CALL

module _ (identity : Identity) (draw : Draw) (n : ℕ) where
  arguments_count : (text : List ℕ) (ts : Trees) (shared : Shared) (session : Session Item) → Counts shared (arguments_run (call_of identity draw n) text ts shared session)
  arguments_count text no_tree shared session = record { count = refl; place = refl }
  arguments_count text (tree t ts) shared session = values_count identity draw n full text (evaluate (tree t ts)) [] (tree t ts) shared session

  pub call_comes : {E : Type 0} (r : Result Answer E) (name text : List ℕ) (ts : Trees) (kept : Kept (List Value)) (old mid new : Desk) (session ran after : Session Item) (start m : Meter) → start ≡ full_meter → Spends start m
      → EndsWith (Ok kept) (fuel_at m) old mid ran (arguments_run (call_of identity draw n) text ts (shared_of old) session)
      → ((o : Desk) (at : Reached Item) → Stood o mid ran kept.warned at → IfOk r (λ answer. IsTurn o new after answer (came_to (brought (steps_of (call_of identity draw n)) (procedures.called at.shared.base.catalog (left_of m) name kept.value) at))))
      → IfOk r (λ answer. IsTurn old new after answer (called_with (call_of identity draw n) name (arguments_run (call_of identity draw n) text ts (shared_of old) session)))
  call_comes r name text ts kept old mid new session ran after start m begins spends ends law =
      let t : Turn Item (Given (List Value)) = arguments_run (call_of identity draw n) text ts (shared_of old) session in
      let at : Reached Item = record { shared = t.shared; session = t.session; committed = t.committed; given = kept.warned } in
      let counts : Counts (shared_of old) t = arguments_count text ts (shared_of old) session in
      let stood : Stood old mid ran kept.warned at = record {
        turn = (ends.0, refl);
        count = ap (λ (s : Shared). s.committed) ends.0.0 ∙ counts.count;
        place = ap (λ (s : Shared). s.place) ends.0.0 ∙ counts.place;
      } in
      let deep : m.depth ≡ most_nested = spends.depth ∙ ap (λ (k : Meter). k.depth) begins in
      subst (λ (g : Given (List Value)). IfOk r (λ answer. IsTurn old new after answer (called_by (call_of identity draw n) name g.result (record { shared = t.shared; session = t.session; committed = t.committed; given = g })))) (sym ends.1)
      (subst (λ (k : ℕ). IfOk r (λ answer. IsTurn old new after answer (came_to (brought (steps_of (call_of identity draw n)) (procedures.called t.shared.base.catalog (record { nesting = k; turns = m.turns; uuids = m.uuids }) name kept.value) at)))) deep
      (law old at stood))

  pub call_refused : (name text : List ℕ) (ts : Trees) (code : ℕ) (fuel : Fuel) (old new : Desk) (session after : Session Item) (answer : Answer)
      → EndsWith {A = List Value} (Err (Sql code)) fuel old new after (arguments_run (call_of identity draw n) text ts (shared_of old) session) → answer ≡ refused code
      → IsTurn old new after answer (called_with (call_of identity draw n) name (arguments_run (call_of identity draw n) text ts (shared_of old) session))
  call_refused name text ts code fuel old new session after answer ends said =
      let t : Turn Item (Given (List Value)) = arguments_run (call_of identity draw n) text ts (shared_of old) session in
      subst (λ (g : Given (List Value)). IsTurn old new after answer (called_by (call_of identity draw n) name g.result (record { shared = t.shared; session = t.session; committed = t.committed; given = g }))) (sym ends.1)
      (ends.0, said)

pub ruleset telling = (plain_told, plain_refused)

pub ruleset arguing = (no_argument, some_argument)
