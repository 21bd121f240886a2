-- What a CALL leaves: each thing that its procedure asks gives its changes where it runs again, behind those before it.
use Rattle.std.proofs.Common.{◌≡◌, ◌≤◌, ℕ, true, List, [], Option, Some, None, Result, Ok, Err, refl, ◌∙◌, ap}
use Rattle.std.specs.List.{list_all}
use Rattle.val_types.specs.declared.value.Value.{Value}
use Rattle.port_traits.specs.declared.identity.Identity.{Identity}
use Rattle.port_traits.specs.declared.identity.Draw.{Draw}
use Rattle.sql_tree.specs.Statement.{Statement, evaluate}
use Rattle.sql_tree.specs.Tree.{Trees, no_tree, tree}
use Rattle.sql_locals.specs.declared.locals.Local.{Local}
use Rattle.sql_print.specs.StatementSpelling.{spelling}
use Rattle.name_const_laws.specs.catalog_rules.Checks.{session_scope}
use Rattle.name_const_laws.specs.sql_meaning.Scenes.{Scene, Ending, done, failed}
use Rattle.name_const_laws.specs.sql_meaning.Frames.{Setting}
use Rattle.name_const_laws.specs.sql_meaning.Changing.{Did, affected_rows}
use Rattle.name_const_laws.specs.sql_meaning.Running.{most_turns, effect, evaluation}
use Rattle.name_const_laws.specs.sql_meaning.Leading.{StatementsEndWell, EvaluationsEndWell}
use Rattle.name_const_laws.specs.sql_reach.Closing.{closed}
use Rattle.name_const_laws.specs.sql_reach.Defining.{number_of_bytes}
use Rattle.name_const_laws.specs.Laws.{ClosedDoesTheSame}
use Rattle.session_model.specs.proc_model.Talk.{Left, Refusal, Told}
use Rattle.session_model.specs.proc_model.Procedures.{scope_of, called}
use Rattle.session_model.specs.Sessions.{Session, Shared}
use Rattle.session_model.specs.Running.{Call, full, Turn, Given, items_of, scene_for, setting_of, statement_run, values_run, unless_misfit, fitted, fitted_run}
use Rattle.session_model.specs.Calling.{Reached, reached_by, step_check, unless_checked, counted_by, with_counted, run_step, evaluate_step, assign_step, steps_of, left_with, arguments_run, called_by}
use Rattle.session_model.specs.declared.format.Format.{Format}
use Rattle.session_model.specs.Machine.{Whole, whole}
use Rattle.session_model.specs.Holding.{Owns, SharedHolds}
use Rattle.session_model.proofs.Keeping.{TurnLeft, done_well, fitted_well}
use Rattle.session_model.proofs.Calling.{CallHolds, ran_holds, gave_holds, assign_holds}
use Rattle.session_replays.specs.Again.{AllGive, without_values}
use Rattle.session_replays.specs.Bodies.{has_well_body}
use Rattle.session_replays.specs.Sizes.{has_sizes}
use Rattle.session_replays.proofs.Closing.{ClosingLaws}
use Rattle.session_replays.proofs.Evaluating.{sets_run_as_dos}
use Rattle.session_replays.proofs.Keeping.{Kept, TurnKept, nothing_kept, kept_on, ended_kept}
use Rattle.session_replays.proofs.Locals.{all_short, Any, such, talk_keeps_where, called_only}
use Rattle.session_replays.proofs.Spending.{IsWithin, full_within, left_within, Spend, statement_turns, values_turns, told_turns}

-- What holds where a CALL stands.
record CallKept (n : ℕ) (shared : Shared) (format : Format) (at : Reached Whole) : Type 0 where
  stands : CallHolds (Unit {0}) n shared format at
  kept : TurnKept n shared at

-- values that were not refused came of the evaluation
fitted_done : {A : Type 0} (misfit : A → Option ℕ) (e : Ending A) (a : A) (scene : Scene) → fitted misfit e ≡ done a scene → e ≡ done a scene
fitted_done misfit (failed code after) a scene q = q
fitted_done misfit (done b after) a scene q = by (misfit b) q
  where
    by : (o : Option ℕ) → unless_misfit o b after ≡ done a scene → done b after ≡ done a scene
    by None r = r
    by (Some code) r = cc

module _ (identity : Identity) (draw : Draw) (number : ℕ) where
  abbrev call : Call Whole
  call = record { identity = identity; draw = draw; number = number; known = whole }

  -- ---- a statement, and expressions

  module _ (shared : Shared) (session : Session Whole) (h : SharedHolds shared) (o : Owns number shared session.format session.transaction) (g : AllGive shared.base [] (items_of session.transaction)) where
    pub statement_kept : StatementsEndWell → (left : Left) → IsWithin left → (text : List ℕ) (s : Statement) → TurnKept number shared (statement_run call left text s shared session)
    statement_kept statements left low text s =
        let before = scene_for number left session.vars.context shared in
        let setting = setting_of shared.base.catalog session.vars.context (number_of_bytes 0 draw.uuid) in
        ended_kept call left low text s shared session (λ (did : Did). did.first) (λ (did : Did). did.last_id) (effect setting left.nesting [] s before) refl h o g (done_well before _ (statements setting left.nesting [] s before))
        (λ did scene e. record { did = did; first = refl; ends = e })

    -- expressions, where their item does without locals what the DO over them does
    pub values_kept : EvaluationsEndWell → (left : Left) → IsWithin left → (text : List ℕ) (item : Statement) (locals : List Local) (ts : Trees)
        → ((setting : Setting) (nesting : ℕ) (scene : Scene) → effect setting nesting [] item scene ≡ effect setting nesting locals (evaluate ts) scene) → TurnKept number shared (values_run call left text item locals ts shared session)
    values_kept evaluations left low text item locals ts same =
        let before = scene_for number left session.vars.context shared in
        let setting = setting_of shared.base.catalog session.vars.context (number_of_bytes 0 draw.uuid) in
        ended_kept call left low text item shared session (λ (vs : List Value). None) (λ (vs : List Value). None) (evaluation setting left.nesting locals ts before) refl h o g
        (done_well before _ (evaluations setting left.nesting locals ts before))
        (λ vs scene e. record { did = affected_rows 0; first = refl; ends = same setting left.nesting before ∙ (sets_run_as_dos setting left.nesting locals ts before ∙ ap without_values e) })

    -- expressions of a SET, whose values may be refused
    pub fitted_kept : EvaluationsEndWell → (left : Left) → IsWithin left → (text : List ℕ) (ts : Trees) (misfit : List Value → Option ℕ) → TurnKept number shared (fitted_run call left text ts misfit shared session)
    fitted_kept evaluations left low text ts misfit =
        let before = scene_for number left session.vars.context shared in
        let setting = setting_of shared.base.catalog session.vars.context (number_of_bytes 0 draw.uuid) in
        ended_kept call left low text (evaluate ts) shared session (λ (vs : List Value). None) (λ (vs : List Value). None) (fitted misfit (evaluation setting left.nesting [] ts before)) refl h o g
        (fitted_well misfit before _ (evaluations setting left.nesting [] ts before))
        (λ vs scene e. record { did = affected_rows 0; first = refl; ends = sets_run_as_dos setting left.nesting [] ts before ∙ ap without_values (fitted_done misfit (evaluation setting left.nesting [] ts before) vs scene e) })

    pub arguments_kept : EvaluationsEndWell → (text : List ℕ) (ts : Trees) → TurnKept number shared (arguments_run call text ts shared session)
    arguments_kept evaluations text no_tree = nothing_kept number shared session.transaction g
    arguments_kept evaluations text (tree t ts) = values_kept evaluations full full_within text (evaluate (tree t ts)) [] (tree t ts) (λ setting nesting scene. refl)

  -- ---- a procedure

  module _ (shared : Shared) (format : Format) where
    reached : {A : Type 0} (at : Reached Whole) (t : Turn Whole (Given A)) → CallKept number shared format at → CallHolds (Unit {0}) number shared format (reached_by at t) → TurnKept number at.shared t
        → CallKept number shared format (reached_by at t)
    reached at t h s k = record {
      stands = s;
      kept = kept_on (Unit {0}) number shared at.shared t.shared format at.session.format at.session.transaction t.session.transaction at.committed t.committed h.stands.left h.kept k;
    }

    checked : {A : Type 0} (refusal : Option Refusal) (left : Left) (at : Reached Whole) (next : Told A × Reached Whole) → CallKept number shared format at → CallKept number shared format next.1
        → CallKept number shared format (unless_checked refusal left at next).1
    checked None left at next h k = k
    checked (Some refusal) left at next h k = h

    counted_kept : (r : Result Did ℕ) (old : Shared) (t : Turn Whole (Given Did)) → TurnKept number old t → Kept number old t.shared (counted_by r t.session).transaction t.committed
    counted_kept (Ok did) old t k = k
    counted_kept (Err code) old t k = k

    module _ (statements : StatementsEndWell) (evaluations : EvaluationsEndWell) (closes : ClosedDoesTheSame) (laws : ClosingLaws) (spend : Spend) where
      run_kept : (left : Left) (s : Statement) (at : Reached Whole) → such.run left s → CallKept number shared format at
          → CallKept number shared format (run_step call left s at).1 × ((run_step call left s at).0.turns ≤ left.turns)
      run_kept left s at low h =
          let t : Turn Whole (Given Did) = statement_run call left (spelling s) s at.shared at.session in (
            checked (step_check number session_scope s at.shared) left at _ h
                (reached at (with_counted t) h (ran_holds (Unit {0}) identity draw number shared format statements evaluations left s at h.stands)
                (counted_kept t.given.result at.shared t (statement_kept at.shared at.session h.stands.left.holds h.stands.left.own h.kept.items statements left low.0 (spelling s) s))),
            told_turns (step_check number session_scope s at.shared) left at _ (statement_turns spend call left (spelling s) s at.shared at.session),
          )

      evaluate_kept : (left : Left) (locals : List Local) (ts : Trees) (at : Reached Whole) → such.give left locals ts → CallKept number shared format at
          → CallKept number shared format (evaluate_step call left locals ts at).1 × ((evaluate_step call left locals ts at).0.turns ≤ left.turns)
      evaluate_kept left locals ts at f h =
          let item : Statement = closed (evaluate ts) locals in
          let t : Turn Whole (Given (List Value)) = values_run call left (spelling item) item locals ts at.shared at.session in (
            checked (step_check number (scope_of locals) (evaluate ts) at.shared) left at _ h
                (reached at t h (gave_holds (Unit {0}) identity draw number shared format statements evaluations left (spelling item) item locals ts at h.stands)
                (values_kept at.shared at.session h.stands.left.holds h.stands.left.own h.kept.items evaluations left f.0 (spelling item) item locals ts
                (λ setting nesting scene. closes setting nesting locals (evaluate ts) scene (all_short locals f.1)))),
            told_turns (step_check number (scope_of locals) (evaluate ts) at.shared) left at _ (values_turns spend call left (spelling item) item locals ts at.shared at.session),
          )

      assign_kept : (n : List ℕ) (v : Value) (at : Reached Whole) → CallKept number shared format at → CallKept number shared format (assign_step n v at)
      assign_kept n v at h = record { stands = assign_holds (Unit {0}) identity draw number shared format statements evaluations n v at h.stands; kept = h.kept }

      pub called_kept : (name : List ℕ) (r : Result (List Value) ℕ) (t : Turn Whole (Given (List Value))) → list_all has_sizes t.shared.base.catalog ≡ true → list_all has_well_body t.shared.base.catalog ≡ true
          → t.session.format ≡ format
          → t.given.fuel.turns ≤ most_turns → TurnLeft (Unit {0}) number shared format t → TurnKept number shared t → TurnKept number shared (called_by call name r t)
      called_kept name (Err code) t sized bodies same low l k = k
      called_kept name (Ok vs) t sized bodies same low l k =
          (talk_keeps_where (steps_of call) (λ (at : Reached Whole). CallKept number shared format at) such Any run_kept evaluate_kept assign_kept
          (called t.shared.base.catalog (left_with t.given.fuel) name vs) (record { shared = t.shared; session = t.session; committed = t.committed; given = t.given.warned })
          (called_only laws t.shared.base.catalog sized bodies (left_with t.given.fuel) (left_within t.given.fuel low) name vs)
          (record { stands = record { same = same; left = l }; kept = k })).kept
