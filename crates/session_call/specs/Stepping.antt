-- A CALL as steps of its session, by what the code has of desk, session and log.
use Rattle.std.specs.Prelude.{◌≡◌, ℕ, Bool, List, []}
use Rattle.val_types.specs.declared.value.Value.{Value}
use Rattle.sql_locals.specs.declared.locals.Local.{Local}
use Rattle.sql_tree.specs.Statement.{Statement}
use Rattle.sql_tree.specs.Tree.{Trees}
use Rattle.proc_run.specs.log_entries.declared.entries.Item.{Item}
use Rattle.answer_making.specs.log_model.Log.{LogPlace, counted_all, written_to}
use Rattle.proc_run.specs.proc_model.Talk.{Effect, Left, Rules, Told}
use Rattle.answer_making.specs.session_model.Sessions.{Session}
use Rattle.answer_making.specs.session_model.Running as running
use Rattle.answer_making.specs.session_model.Calling.{Reached, assign_step, evaluate_step, run_step}
use Rattle.session_statement.specs.Calls.{call_of}
use Rattle.session_statement.specs.session_shared.Desk.{place_of, shared_of}
use Rattle.session_statement.specs.Turned.{IsTurn}
use Rattle.session_statement.specs.session_shared.declared.desk.Desk.{Desk}
use Rattle.session_call.specs.declared.steps.CallSteps.{CallSteps}

-- ---- one step

-- where a step begins: nothing was put out yet, and something may have been warned before
abbrev pub reached : Desk → Session Item → (warned : Bool) → Reached Item
reached desk session warned = record { shared = shared_of desk; session = session; committed = []; given = warned }

-- a step told this, and left desk and session so, and whether something is warned
abbrev pub Stepped : {A : Type 0} → Told A × Reached Item → Told A → Desk → Desk → Session Item → (warned : Bool) → Type 0
Stepped step told old new after warned = (told ≡ step.0) × IsTurn old new after warned step.1

-- ---- who carries them out

-- what a CALL has round it
abbrev pub call_by : CallSteps → running.Call Item
call_by s = call_of s.identity s.draw s.number

abbrev pub start_of : CallSteps → Reached Item
start_of s = reached s.desk s.session s.warned

abbrev pub RanStep : CallSteps → Left → Statement → Told Effect → CallSteps → Type 0
RanStep before left s told after =
    (call_by after ≡ call_by before) × Stepped (run_step (call_by before) left s (start_of before)) told before.desk after.desk after.session after.warned

abbrev pub GaveStep : CallSteps → Left → List Local → Trees → Told (List Value) → CallSteps → Type 0
GaveStep before left locals ts told after =
    (call_by after ≡ call_by before) × Stepped (evaluate_step (call_by before) left locals ts (start_of before)) told before.desk after.desk after.session after.warned

abbrev pub AssignedStep : CallSteps → List ℕ → Value → CallSteps → Type 0
AssignedStep before n v after = (call_by after ≡ call_by before) × IsTurn before.desk after.desk after.session after.warned (assign_step n v (start_of before))

-- each thing that a procedure asks is one step of its session
abbrev pub step_rules : Rules CallSteps
step_rules = record { ran = RanStep; gave = GaveStep; assigned = AssignedStep }

-- ---- steps behind others

-- Desk and session stand as a turn so far left them, with its warning, and its entries lead to the count of transactions and to
-- the log's end.
pub record Stood (old now : Desk) (session : Session Item) (warned : Bool) (at : Reached Item) : Type 0 where
  pub turn : IsTurn old now session warned at
  pub count : now.committed ≡ counted_all at.committed old.committed
  pub place : place_of now.log ≡ written_to at.committed old.committed (place_of old.log)
