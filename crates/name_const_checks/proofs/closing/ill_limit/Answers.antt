use Rattle.std.proofs.Common.{◌∙◌, sym}
use Rattle.sql_tree.specs.StatementView.{view}
use Rattle.name_const_checks.proofs.Limits.{no_refusal}
use Rattle.name_const_checks.proofs.closing.ill_limit.Goals as goal

pub returns-then-not-has_ill_limit : goal.returns-then-not-has_ill_limit
returns-then-not-has_ill_limit c = sym (no_refusal (view c.args.s.now) c.args.locals.now (sym c.has_ill_limit.ensures ∙ c.if-not-has_ill_limit.true))
