-- What a procedure does: its statements one after the other, each run or evaluated by its runner.
use Rattle.std.specs.Prelude.{ℕ, zero, suc, ◌+◌, ◌-◌, ◌^◌, ◌==◌, min, Bool, true, false, not, if◌then◌else◌, List, [], ◌∷◌, ◌++◌, length, map, take, zip, Option, Some, None, Result, Ok, Err}
use Rattle.val_types.specs.declared.value.Value.{Value}
use Rattle.val_types.specs.declared.value.Value.TheVariants.{Null}
use Rattle.val_types.specs.Fitting.{fitting}
use Rattle.value_rules.specs.Operators.{truth_of, with_value}
use Rattle.value_rules.specs.Functions.{is_known_true}
use Rattle.sql_tree.specs.Tree.{Tree, Trees, no_tree, tree, Part, no_part, part}
use Rattle.sql_tree.specs.Statement.{Declared, Program}
use Rattle.sql_tree.specs.Statement.{Statement, insert_into, replace_into, update_rows, delete_rows, select, evaluate, set_all, call_procedure, block, if_steps, while_steps}
use Rattle.sql_tree.specs.Statement.{Statements, no_statement, statement, Branches, no_branch, branch, Otherwise, no_else, else_steps}
use Rattle.sql_tree.specs.declared.statements.SqlType.{SqlType}
use Rattle.sql_tree.specs.declared.statements.Parameter.{Parameter}
use Rattle.sql_tree.specs.declared.statements.Target.{Target}
use Rattle.sql_locals.specs.Locals.{find_local, set_local}
use Rattle.sql_locals.specs.Types.{column_type}
use Rattle.sql_locals.specs.declared.locals.Local.{Local}
use Rattle.sql_reach.specs.catalog_rules.Checks.{Scope, statement_refusal}
use Rattle.sql_reach.specs.catalog_rules.Names.{is_among, first_made}
use Rattle.sql_reach.specs.catalog_rules.Objects.{Object, procedure_in, parameters_of, body_of}
use Rattle.sql_reach.specs.sql_meaning.Within.{values_assigned}
use Rattle.sql_reach.specs.Closing.{closed}
use Rattle.answer_text.specs.declared.answer.Answer.{Answer}
use Rattle.answer_text.specs.declared.answer.End.TheVariants as ends_with
use Rattle.proc_model.specs.Closing.{closing_refusal}
use Rattle.proc_model.specs.Talk.{Left, Refusal, Effect, Told, Talk, ends, runs, evaluates, assigns, and_then, Rules, Led}

-- ---- actions

-- What a CALL has so far: the turns left and the UUIDs made, the sets of rows shown, and how many rows were affected.
pub record Held : Type 0 where
  pub turns : ℕ
  pub uuids : ℕ
  pub sets : List (List (List Value))
  pub affected : ℕ

-- how an action ends: with a value, or refused
pub data Ending (A : Type 0) : Type 0 where
  done : A → Held → Ending A
  failed : Refusal → Held → Ending A

abbrev pub Action : Type 0 → Type 0
Action A = Held → Talk (Ending A)

-- what comes behind an action, unless that was refused
abbrev pub unless_failed : {A B : Type 0} → (A → Action B) → Ending A → Talk (Ending B)
unless_failed next (done a held) = next a held
unless_failed next (failed refusal held) = ends (failed refusal held)

infixl 10 ◌>>=◌
abbrev pub ◌>>=◌ : {A B : Type 0} → Action A → (A → Action B) → Action B
(m >>= next) held = and_then (m held) (unless_failed next)

abbrev pub pure : {A : Type 0} → A → Action A
pure a held = ends (done a held)

-- an error of the procedure's own
abbrev pub plain_refusal : ℕ → Refusal
plain_refusal code = record { code = code; holder = None }

abbrev pub fail : {A : Type 0} → ℕ → Action A
fail code held = ends (failed (plain_refusal code) held)

-- a value that a rule gives, or its error
abbrev pub answered : {A : Type 0} → Result A ℕ → Action A
answered (Ok a) = pure a
answered (Err code) = fail code

-- what a check found, if anything
abbrev pub let_through : Option ℕ → Action (Unit {0})
let_through None = pure tt
let_through (Some code) = fail code

-- an action on each item that hands a state on
abbrev pub carried_on : {S A : Type 0} → (S → A → Action S) → S → List A → Action S
carried_on do_one state [] = pure state
carried_on do_one state (a ∷ as') = do_one state a >>= λ next. carried_on do_one next as'

-- what a rule gives behind another
abbrev pub then_try : {A B : Type 0} → Result A ℕ → (A → Result B ℕ) → Result B ℕ
then_try (Ok a) next = next a
then_try (Err code) next = Err code

-- a rule on each item that hands a state on
abbrev pub all_tried : {S A : Type 0} → (S → A → Result S ℕ) → S → List A → Result S ℕ
all_tried do_one state [] = Ok state
all_tried do_one state (a ∷ as') = then_try (do_one state a) (λ next. all_tried do_one next as')

-- a turn of WHILE; 30004 where none is left
abbrev pub turn_spent : ℕ → Action (Unit {0})
turn_spent zero = fail 30004
turn_spent (suc n) = λ held. ends (done tt (record held { turns = n }))

abbrev pub spend_turn : Action (Unit {0})
spend_turn held = turn_spent held.turns held

-- ---- what the runner is asked

abbrev pub left_at : ℕ → Held → Left
left_at nesting held = record { nesting = nesting; turns = held.turns; uuids = held.uuids }

-- the turns and UUIDs that are told
abbrev pub heard_with : {A : Type 0} → Told A → Held → Held
heard_with told held = record held { turns = told.turns; uuids = told.uuids }

abbrev pub heard_as : {A : Type 0} → Result A Refusal → Held → Ending A
heard_as (Ok a) held = done a held
heard_as (Err refusal) held = failed refusal held

abbrev pub heard : {A : Type 0} → Held → Told A → Talk (Ending A)
heard held told = ends (heard_as told.result (heard_with told held))

-- a statement that has no locals is run
abbrev pub run_closed : ℕ → Statement → Action Effect
run_closed nesting s held = runs (left_at nesting held) s (heard held)

-- expressions are evaluated where locals are in scope
abbrev pub evaluate_with : ℕ → List Local → Trees → Action (List Value)
evaluate_with nesting locals ts held = evaluates (left_at nesting held) locals ts (heard held)

abbrev pub assign_user : List ℕ → Value → Action (Unit {0})
assign_user n v held = assigns n v (ends (done tt held))

-- ---- what is round a statement

-- The catalog, the levels of nesting left to a statement, and what a CALL with the values of its arguments does there.
pub record World : Type 0 where
  pub catalog : List Object
  pub nesting : ℕ
  pub call : List ℕ → List Value → Action (Unit {0})

-- the values of expressions, behind what refuses the DO over them where its locals are closed in
abbrev pub checked_values : World → List Local → Trees → Action (List Value)
checked_values world locals ts =
    let_through (closing_refusal (evaluate ts) locals) >>= λ _. evaluate_with world.nesting locals ts

-- the first value; there is one where one expression was evaluated
abbrev pub first_value : List Value → Value
first_value [] = Null
first_value (v ∷ vs) = v

abbrev pub value_of : World → List Local → Tree → Action Value
value_of world locals t = checked_values world locals (tree t no_tree) >>= λ vs. pure (first_value vs)

-- a condition holds where its value is a number that is not 0; 30002 for a text
abbrev pub holds_here : World → List Local → Tree → Action Bool
holds_here world locals t = value_of world locals t >>= λ v. answered (with_value is_known_true (truth_of v))

-- ---- locals

abbrev pub local_of : List ℕ → SqlType → Value → Local
local_of n kind v = record { name = n; kind = column_type kind; value = v }

-- one more local, which hides those of its name: 30002, 1264 or 1406 where the value does not fit its type
abbrev pub add_local : SqlType → Value → List Local → List ℕ → Result (List Local) ℕ
add_local kind v locals n = with_value (λ _. locals ++ local_of n kind v ∷ []) (fitting (column_type kind) v)

-- the DEFAULT of a DECLARE, NULL without one
abbrev pub preset_value : World → List Local → Part → Action Value
preset_value world locals no_part = pure Null
preset_value world locals (part t) = value_of world locals t

-- DECLARE: the DEFAULT is evaluated once, also for several names
abbrev pub declare : World → List Local → Declared → Action (List Local)
declare world locals d = preset_value world locals d.preset >>= λ v. answered (all_tried (add_local d.kind v) locals d.names)

-- a parameter with the value of its argument
abbrev pub add_parameter : List Local → Parameter × Value → Result (List Local) ℕ
add_parameter locals p = add_local (p.0.kind) p.1 locals (p.0.name)

-- ---- SET

-- what refuses a value for a local: 1193 there is none of that name, or it does not fit
abbrev pub misfit : Result (Unit {0}) ℕ → Option ℕ
misfit (Ok fits) = None
misfit (Err code) = Some code

abbrev pub local_refusal : Option Local → Value → Option ℕ
local_refusal None v = Some 1193
local_refusal (Some l) v = misfit (fitting l.kind v)

-- what refuses an assignment; a user variable takes every value
abbrev pub assignment_refusal : List Local → Target × Value → Option ℕ
assignment_refusal locals (Target.Plain n, v) = local_refusal (find_local locals n) v
assignment_refusal locals (Target.User n, v) = None
assignment_refusal locals (Target.New c, v) = Some 1193
assignment_refusal locals (Target.System n, v) = Some 30005

-- an assignment that nothing refuses
abbrev pub assign_one : List Local → Target × Value → Action (List Local)
assign_one locals (Target.Plain n, v) = pure (set_local n v locals)
assign_one locals (Target.User n, v) = assign_user n v >>= λ _. pure locals
assign_one locals (Target.New c, v) = pure locals
assign_one locals (Target.System n, v) = pure locals

-- the targets with the values
abbrev pub assignments_of : List (Target × Tree) → List Value → List (Target × Value)
assignments_of as' vs = zip (map (λ (a : Target × Tree). a.0) as') vs

-- the first assignment that is refused, else all from left to right
abbrev pub assign_all : List Local → List (Target × Value) → Action (List Local)
assign_all locals as' = let_through (first_made (assignment_refusal locals) as') >>= λ _. carried_on assign_one locals as'

-- all values by one evaluation, then the assignments
abbrev pub set_step : World → List Local → List (Target × Tree) → Action (List Local)
set_step world locals as' =
    checked_values world locals (values_assigned as') >>= λ vs. assign_all locals (assignments_of as' vs)

-- ---- changes, SELECT and DO

-- a change, a SELECT or a DO
abbrev pub is_plain : Statement → Bool
is_plain (insert_into ignore t names supply sets) = true
is_plain (replace_into t names supply) = true
is_plain (update_rows t sets condition os limit) = true
is_plain (delete_rows t condition os limit) = true
is_plain (select q) = true
is_plain (evaluate ts) = true
is_plain s = false

-- the greatest count of rows in an answer
abbrev pub most_affected : ℕ
most_affected = 2 ^ 63 - 1

abbrev pub with_shown : Option (List (List Value)) → List (List (List Value)) → List (List (List Value))
with_shown None sets = sets
with_shown (Some rows) sets = sets ++ rows ∷ []

-- what a statement did goes to what the CALL answers
abbrev pub noted : Effect → Held → Held
noted effect held = record held {
  sets = with_shown effect.shown held.sets;
  affected = min (held.affected + effect.affected) most_affected;
}

abbrev pub note : Effect → Action (Unit {0})
note effect held = ends (done tt (noted effect held))

-- closed over the locals, then run
abbrev pub plain_step : World → List Local → Statement → Action (List Local)
plain_step world locals s =
    let_through (closing_refusal s locals) >>= λ _. run_closed world.nesting (closed s locals) >>= note >>= λ _. pure locals

-- another statement; a procedure was made of none but changes, SELECT and DO
abbrev pub other_step : World → List Local → Statement → Action (List Local)
other_step world locals s = if is_plain s then plain_step world locals s else fail 30005

-- ---- CALL in a procedure

-- where no argument is, nothing is evaluated
abbrev pub argument_values : World → List Local → Trees → Action (List Value)
argument_values world locals no_tree = pure []
argument_values world locals (tree t ts) = evaluate_with world.nesting locals (tree t ts)

abbrev pub scope_of : List Local → Scope
scope_of locals = record { locals = map (λ (l : Local). l.name) locals; new_row = None; old_row = None }

-- what refuses the DO over the arguments, the catalog's checks of the CALL, the arguments, then the procedure
abbrev pub call_step : World → List Local → List ℕ → Trees → Action (List Local)
call_step world locals n ts =
    let_through (closing_refusal (evaluate ts) locals) >>= λ _.
    let_through (statement_refusal world.catalog (scope_of locals) (call_procedure n ts)) >>= λ _.
    argument_values world locals ts >>= λ vs. world.call n vs >>= λ _. pure locals

-- ---- steps

-- turns of a loop, of which there are at most so many; a turn is spent where the condition holds
abbrev pub turns : ℕ → (List Local → Action Bool) → (List Local → Action (List Local)) → List Local → Action (List Local)
turns zero test body locals = test locals >>= λ goes. (if goes then fail 30004 else pure locals)
turns (suc n) test body locals =
    test locals >>= λ goes.
    (if goes then (spend_turn >>= λ _. body locals >>= λ after. turns n test body after) else pure locals)

-- as many turns as are left
abbrev pub turns_left : (List Local → Action Bool) → (List Local → Action (List Local)) → List Local → Action (List Local)
turns_left test body locals held = turns held.turns test body locals held

abbrev mutual
  -- a statement of a procedure: the locals behind it
  pub step : World → List Local → Statement → Action (List Local)
  step world locals (block ds ss) =
      carried_on (declare world) locals ds >>= λ inner. steps world inner ss >>= λ after. pure (take (length locals) after)
  step world locals (if_steps bs o) = step_of_branches world locals bs (steps_otherwise world locals o)
  step world locals (while_steps c ss) = turns_left (λ now. holds_here world now c) (λ now. steps world now ss) locals
  step world locals (set_all as') = set_step world locals as'
  step world locals (call_procedure n ts) = call_step world locals n ts
  step world locals s = other_step world locals s

  pub steps : World → List Local → Statements → Action (List Local)
  steps world locals no_statement = pure locals
  steps world locals (statement s ss) = step world locals s >>= λ after. steps world after ss

  -- the steps behind the first condition that holds, or else what stands behind
  pub step_of_branches : World → List Local → Branches → Action (List Local) → Action (List Local)
  step_of_branches world locals no_branch otherwise = otherwise
  step_of_branches world locals (branch c ss bs) otherwise =
      holds_here world locals c >>= λ is_true.
      (if is_true then steps world locals ss else step_of_branches world locals bs otherwise)

  pub steps_otherwise : World → List Local → Otherwise → Action (List Local)
  steps_otherwise world locals no_else = pure locals
  steps_otherwise world locals (else_steps ss) = steps world locals ss

-- ---- procedures

-- its parameters fitted, then its body
abbrev pub procedure_body : World → Program → List Value → Action (Unit {0})
procedure_body world p vs =
    answered (all_tried add_parameter [] (zip (parameters_of p) vs)) >>= λ locals. step world locals (body_of p) >>= λ _. pure tt

-- the procedure that a CALL starts: 1318 it has another number of parameters, 1456 it is running already
abbrev pub free_procedure : List (List ℕ) → List ℕ → List Value → Program → Result Program ℕ
free_procedure running n vs p =
    if not (length (parameters_of p) == length vs) then Err 1318 else if is_among running n then Err 1456 else Ok p

-- or 1305 where there is none of that name
abbrev pub started : List Object → List (List ℕ) → List ℕ → List Value → Result Program ℕ
started catalog running n vs = elim (procedure_in catalog n) [ None ↦ Err 1305 | Some p ↦ free_procedure running n vs p ]

-- what a CALL does where so many levels of nesting are left; 30003 where none is
unfoldable pub call_at : List Object → ℕ → List (List ℕ) → List ℕ → List Value → Action (Unit {0})
call_at catalog zero running n vs = answered (started catalog running n vs) >>= λ p. fail 30003
call_at catalog (suc below) running n vs =
    answered (started catalog running n vs) >>= λ p.
    procedure_body (record { catalog = catalog; nesting = below; call = call_at catalog below (n ∷ running) }) p vs

-- ---- what a session's CALL answers

abbrev pub begins : Left → Held
begins left = record { turns = left.turns; uuids = left.uuids; sets = []; affected = 0 }

-- the answer of a CALL, and the turns left and the UUIDs made behind it
pub record Came : Type 0 where
  pub answer : Answer
  pub turns : ℕ
  pub uuids : ℕ

-- sets that were shown before an error stay in the answer
abbrev pub came : Ending (Unit {0}) → Came
came (done x held) = record { answer = record { sets = held.sets; end = ends_with.Ok held.affected false }; turns = held.turns; uuids = held.uuids }
came (failed refusal held) =
    record { answer = record { sets = held.sets; end = ends_with.Refused refusal.code None refusal.holder }; turns = held.turns; uuids = held.uuids }

-- a CALL of a session, with the values of its arguments
unfoldable pub called : List Object → Left → List ℕ → List Value → Talk Came
called catalog left n vs = and_then (call_at catalog left.nesting [] n vs (begins left)) (λ e. ends (came e))

-- a CALL came to this answer, and led its runner from one state to the other
abbrev pub IsCall : {S : Type 0} → Rules S → List Object → Left → List ℕ → List Value → S → Came → S → Type 0
IsCall rules catalog left n vs before answer after = Led rules (called catalog left n vs) before answer after
