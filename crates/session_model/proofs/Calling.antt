-- What a CALL leaves: each thing that a procedure asks keeps what must hold, and its entries go behind those before it.
use Rattle.std.proofs.Common.{◌≡◌, ℕ, List, [], Option, Some, None, Result, Ok, Err, refl, ◌∙◌}
use Rattle.val_types.specs.declared.value.Value.{Value}
use Rattle.port_traits.specs.declared.identity.Identity.{Identity}
use Rattle.port_traits.specs.declared.identity.Draw.{Draw}
use Rattle.sql_tree.specs.Statement.{Statement, evaluate}
use Rattle.sql_tree.specs.Tree.{Trees, no_tree, tree}
use Rattle.sql_locals.specs.declared.locals.Local.{Local}
use Rattle.sql_print.specs.StatementSpelling.{spelling}
use Rattle.session_ctx.specs.catalog_rules.Checks.{session_scope}
use Rattle.session_ctx.specs.sql_meaning.Changing.{Did}
use Rattle.session_ctx.specs.sql_meaning.Leading.{StatementsEndWell, EvaluationsEndWell}
use Rattle.proc_model.specs.sql_reach.Closing.{closed}
use Rattle.proc_model.specs.Talk.{Left, Refusal, Told}
use Rattle.proc_model.specs.Procedures.{scope_of, called}
use Rattle.proc_model.proofs.Leading.{talk_keeps}
use Rattle.session_model.specs.Sessions.{Session, Shared}
use Rattle.session_model.specs.Running.{Call, full, Turn, Given, statement_run, values_run}
use Rattle.session_model.specs.Calling.{Reached, reached_by, step_check, unless_checked, counted_by, with_counted, run_step, evaluate_step, assign_step, steps_of, left_with, arguments_run, called_by}
use Rattle.session_model.specs.declared.format.Format.{Format}
use Rattle.session_model.specs.Machine.{Whole, whole}
use Rattle.session_model.specs.Holding.{Owns, SharedHolds}
use Rattle.session_model.proofs.Owning.{StillHolds, nothing_done, holds_on}
use Rattle.session_model.proofs.Keeping.{TurnLeft, ended_format, statement_left, values_left}

-- What holds where a CALL stands: what is left so far, in the format of its beginning.
pub record CallHolds (P : Type 0) (n : ℕ) (shared : Shared) (format : Format) (at : Reached Whole) : Type 0 where
  pub same : at.session.format ≡ format
  pub left : TurnLeft P n shared format at

counted_format : (r : Result Did ℕ) (session : Session Whole) → (counted_by r session).format ≡ session.format
counted_format (Ok did) session = refl
counted_format (Err code) session = refl

module _ (P : Type 0) (identity : Identity) (draw : Draw) (number : ℕ) (shared : Shared) (format : Format) where
  abbrev call : Call Whole
  call = record { identity = identity; draw = draw; number = number; known = whole }

  -- a step behind those before it
  reached : {A : Type 0} (at : Reached Whole) (t : Turn Whole (Given A)) → CallHolds P number shared format at → t.session.format ≡ at.session.format → TurnLeft P number at.shared at.session.format t
      → CallHolds P number shared format (reached_by at t)
  reached at t h same l = record {
    same = same ∙ h.same;
    left = holds_on P number shared at.shared t.shared format at.session.format t.session.format at.session.transaction t.session.transaction at.committed t.committed h.same h.left l;
  }

  checked : {A : Type 0} (refusal : Option Refusal) (left : Left) (at : Reached Whole) (next : Told A × Reached Whole) → CallHolds P number shared format at → CallHolds P number shared format next.1
      → CallHolds P number shared format (unless_checked refusal left at next).1
  checked None left at next h k = k
  checked (Some refusal) left at next h k = h

  counted_left : (r : Result Did ℕ) (old : Shared) (first : Format) (t : Turn Whole (Given Did)) → TurnLeft P number old first t
      → StillHolds P number old t.shared first (counted_by r t.session).format (counted_by r t.session).transaction t.committed
  counted_left (Ok did) old first t l = l
  counted_left (Err code) old first t l = l

  module _ (statements : StatementsEndWell) (evaluations : EvaluationsEndWell) where
    -- a statement that is run
    pub ran_holds : (left : Left) (s : Statement) (at : Reached Whole) → CallHolds P number shared format at
        → CallHolds P number shared format (reached_by at (with_counted (statement_run call left (spelling s) s at.shared at.session)))
    ran_holds left s at h =
        let t : Turn Whole (Given Did) = statement_run call left (spelling s) s at.shared at.session in
        let stays : t.session.format ≡ at.session.format = ended_format call left (spelling s) s at.shared at.session (λ (did : Did). did.first) (λ (did : Did). did.last_id) _ _ in
        let l : TurnLeft P number at.shared at.session.format t = statement_left P identity draw number at.shared at.session h.left.holds h.left.own statements left (spelling s) s in
        reached at (with_counted t) h (counted_format t.given.result t.session ∙ stays) (counted_left t.given.result at.shared at.session.format t l)

    run_holds : (left : Left) (s : Statement) (at : Reached Whole) → CallHolds P number shared format at → CallHolds P number shared format (run_step call left s at).1
    run_holds left s at h = checked (step_check number session_scope s at.shared) left at _ h (ran_holds left s at h)

    -- expressions that are evaluated
    pub gave_holds : (left : Left) (text : List ℕ) (item : Statement) (locals : List Local) (ts : Trees) (at : Reached Whole) → CallHolds P number shared format at
        → CallHolds P number shared format (reached_by at (values_run call left text item locals ts at.shared at.session))
    gave_holds left text item locals ts at h =
        let t : Turn Whole (Given (List Value)) = values_run call left text item locals ts at.shared at.session in
        let stays : t.session.format ≡ at.session.format = ended_format {A = List Value} call left text item at.shared at.session (λ _. None) (λ _. None) _ _ in
        reached at t h stays (values_left P identity draw number at.shared at.session h.left.holds h.left.own evaluations left text item locals ts)

    evaluate_holds : (left : Left) (locals : List Local) (ts : Trees) (at : Reached Whole) → CallHolds P number shared format at → CallHolds P number shared format (evaluate_step call left locals ts at).1
    evaluate_holds left locals ts at h =
        let item : Statement = closed (evaluate ts) locals in
        checked (step_check number (scope_of locals) (evaluate ts) at.shared) left at _ h (gave_holds left (spelling item) item locals ts at h)

    pub assign_holds : (n : List ℕ) (v : Value) (at : Reached Whole) → CallHolds P number shared format at → CallHolds P number shared format (assign_step n v at)
    assign_holds n v at h = record { same = h.same; left = h.left }

    -- the procedure, behind its arguments
    pub called_left : (name : List ℕ) (r : Result (List Value) ℕ) (t : Turn Whole (Given (List Value))) → t.session.format ≡ format → TurnLeft P number shared format t
        → TurnLeft P number shared format (called_by call name r t)
    called_left name (Err code) t same l = l
    called_left name (Ok vs) t same l =
        (talk_keeps (steps_of call) (λ at. CallHolds P number shared format at) run_holds evaluate_holds assign_holds (called t.shared.base.catalog (left_with t.given.fuel) name vs)
        (record { shared = t.shared; session = t.session; committed = t.committed; given = t.given.warned }) (record { same = same; left = l })).left

module _ (P : Type 0) (identity : Identity) (draw : Draw) (number : ℕ) (shared : Shared) (session : Session Whole) (h : SharedHolds shared) (o : Owns number shared session.format session.transaction) (evaluations : EvaluationsEndWell) where
  -- the values of its arguments
  pub arguments_left : (text : List ℕ) (ts : Trees) → TurnLeft P number shared session.format (arguments_run (call P identity draw number shared session.format) text ts shared session)
  arguments_left text no_tree = nothing_done P number shared session.format session.format session.transaction h o
  arguments_left text (tree t ts) = values_left P identity draw number shared session h o evaluations full text (evaluate (tree t ts)) [] (tree t ts)

  pub arguments_format : (text : List ℕ) (ts : Trees) → (arguments_run (call P identity draw number shared session.format) text ts shared session).session.format ≡ session.format
  arguments_format text no_tree = refl
  arguments_format text (tree t ts) =
      ended_format {A = List Value} (call P identity draw number shared session.format) full text (evaluate (tree t ts)) shared session (λ _. None) (λ _. None) _ _
