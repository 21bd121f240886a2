use Rattle.std.proofs.Common.{rules}
use Rattle.sql_grammar.specs.Rule.{with_tokens, paired}
use Rattle.sql_syntax.specs.Expressions.{expression}
use Rattle.sql_parse_tokens.specs.Gives.{Fails}
use Rattle.sql_syntax.specs.Sessions.{assignment, is_format}
use Rattle.sql_parse_changes.proofs.AssignmentNodes.{assign_ok, assign_fail, assignment_kept}
use Rattle.sql_parse_changes.proofs.assignments.assignment.Goals as goal

pub returns-in_err-value : goal.returns-in_err-value
returns-in_err-value c =
    let to = c.in_ok-target.target in
    let m = (with_tokens paired (expression c.args.depth)).read c.in_ok-rest.rest in
    let f = rw c.is_format.ensures at c.in_err-value.ensures in
    let e : Fails c.in_err-value.field-0.0 ((assignment c.args.depth).read c.args.rest) = rw (c.in_ok-target.ensures, c.in_ok-rest.ensures) (assign_fail (is_format to) c.in_err-value.field-0.0 m to f) in
    search (rules, e)

pub returns : goal.returns
returns c =
    let to = c.in_ok-target.target in
    let m = (with_tokens paired (expression c.args.depth)).read c.in_ok-rest.rest in
    let v = rw c.is_format.ensures at c.in_ok-value.ensures in
    ((to, v.0), rw (c.in_ok-target.ensures, c.in_ok-rest.ensures) (assign_ok (is_format to) m to v.0 c.in_ok-value.rest v.1), rw c.assignment_of.ensures (assignment_kept to v.0 c.in_ok-value.value v.2))
