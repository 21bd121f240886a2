-- The parts of procedures that hold statements.
use Rattle.std.specs.Prelude.{ℕ, Bool, true, false, List}
use Rattle.val_types.specs.declared.value.Value.{Value}
use Rattle.sql_tree.specs.Statement.{block, if_steps, while_steps, set_all, call_procedure}
use Rattle.sql_tree.specs.Statement.{Statement, Statements, Branches, Otherwise, Program}
use Rattle.sql_locals.specs.declared.locals.Local.{Local}
use Rattle.proc_parts.specs.proc_model.Procedures.{is_plain, Action, steps, step_of_branches, steps_otherwise, turns, procedure_body}
use Rattle.proc_parts.specs.declared.world.World.{World}
use Rattle.proc_parts.specs.Calls.{world_of}
use Rattle.proc_parts.specs.Parts.{holds_at}

unfoldable pub steps_at : World → List Local → Statements → Action (List Local)
steps_at w locals ss = steps (world_of w) locals ss

unfoldable pub otherwise_at : World → List Local → Otherwise → Action (List Local)
otherwise_at w locals o = steps_otherwise (world_of w) locals o

unfoldable pub branches_at : World → List Local → Branches → Otherwise → Action (List Local)
branches_at w locals bs o = step_of_branches (world_of w) locals bs (steps_otherwise (world_of w) locals o)

unfoldable pub body_at : World → Program → List Value → Action (Unit {0})
body_at w p vs = procedure_body (world_of w) p vs

-- turns of a loop whose condition a DO asks, of which there are at most so many
unfoldable pub turns_at : ℕ → World → Statement → Statements → List Local → Action (List Local)
turns_at n w q ss locals = turns n (λ now. holds_at w now q) (λ now. steps_at w now ss) locals

-- whether a statement holds no others
abbrev pub is_leaf : Statement → Bool
is_leaf (block ds ss) = false
is_leaf (if_steps bs o) = false
is_leaf (while_steps c ss) = false
is_leaf s = true

-- whether it is an IF
abbrev pub is_if : Statement → Bool
is_if (if_steps bs o) = true
is_if s = false

-- whether a procedure may hold a statement
abbrev pub has_form : Statement → Bool
has_form (block ds ss) = true
has_form (if_steps bs o) = true
has_form (while_steps c ss) = true
has_form (set_all as') = true
has_form (call_procedure n ts) = true
has_form s = is_plain s
