use Rattle.std.proofs.Common.{sym}
use Rattle.sql_tree.specs.StatementView.{view}
use Rattle.row_apply.specs.catalog_objects.Keys.{objects_of}
use Rattle.log_groups.specs.catalog_rules.Checks.{session_scope, statement_refusal}
use Rattle.apply_model.specs.Texts.{may_stand}
use Rattle.row_apply.specs.Ends.{progress_in}
use Rattle.stmt_apply.specs.Applying.{applier_in}
use Rattle.stmt_apply.proofs.Ran.{runs_on}
use Rattle.stmt_apply.proofs.text.run_allowed.Goals as goal

pub returns-clause-ends : goal.returns-clause-ends
returns-clause-ends c = λ who.
    let s = view c.args.statement.now in
    runs_on (applier_in who c.args.draw.now c.args.work.now) c.args.context.now s (progress_in c.args.work.now) (statement_refusal (objects_of c.args.work.now.objects) session_scope s) (may_stand s)
    c.run.result (progress_in c.run.new.work) (sym c.if-not-may_stand.ensures) c.in_default.ensures (c.run.ensures.ends who)
