use Rattle.std.proofs.Common.{◌≡◌, ◌+◌, ◌*◌, ◌++◌, drop, cond}
use Rattle.sql_tree.specs.declared.statements.Stmt.{Block, While}
use Rattle.sql_tree.proofs.statements.Stmt.TheLaws.{the_size}
use Rattle.sql_tree.specs.StatementView.{view_statements, view_branches}
use Rattle.sql_print.specs.StatementSpelling.{steps_text, branches_text, more_branches_text}
use Rattle.sql_print.proofs.printing.+write.Given as goal

-- Each measure is ten times the depth of the statement's code, and a number that falls where a
-- function hands on what it was given.

abbrev pub decreases-write_routine : goal.decreases-write_routine
decreases-write_routine l = 10 * goal.size-write_routine l + 5

abbrev pub decreases-write_trigger : goal.decreases-write_trigger
decreases-write_trigger l = 10 * goal.size-write_trigger l + 5

abbrev pub decreases-write_branches : goal.decreases-write_branches
decreases-write_branches l = 10 * goal.size-write_branches l + 5

abbrev pub decreases-write_otherwise : goal.decreases-write_otherwise
decreases-write_otherwise l = 10 * goal.size-write_otherwise l + 5

abbrev pub decreases-write_steps : goal.decreases-write_steps
decreases-write_steps l = 10 * goal.size-write_steps l + 4

abbrev pub decreases-write_statement : goal.decreases-write_statement
decreases-write_statement l = 10 * goal.size-write_statement l + 1

abbrev pub decreases-write_block : goal.decreases-write_block
decreases-write_block l = 10 * the_size (Block l.declarations.now l.body.now)

abbrev pub decreases-write_while : goal.decreases-write_while
decreases-write_while l = 10 * the_size (While l.condition.now l.steps.now)

abbrev pub invariant-write_steps-loop-step : goal.invariant-write_steps-loop-step
invariant-write_steps-loop-step l =
    l.out ++ steps_text (view_statements (drop l.step-index l.step-items)) ≡ l.fn.out ++ steps_text (view_statements l.steps)

abbrev pub invariant-write_branches-loop-branch : goal.invariant-write_branches-loop-branch
invariant-write_branches-loop-branch l =
    let rest = view_branches (drop l.branch-index l.branch-items) in
    l.out ++ cond l.first (branches_text rest) (more_branches_text rest) ≡ l.fn.out ++ branches_text (view_branches l.branches)
