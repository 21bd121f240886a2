use Rattle.std.proofs.Common.{ap, ◌∙◌, sym}
use Rattle.std.specs.Option.{option_copied}
use Rattle.sql_tree.specs.StatementView.{view}
use Rattle.catalog_objects.specs.Keys.{objects_of}
use Rattle.catalog_objects.specs.catalog_rules.Ranks.{code_of}
use Rattle.catalog_objects.proofs.of_catalog_rules.Refusing.{refusal_law}
use Rattle.catalog_checks.specs.Asking.{scope_with}
use Rattle.catalog_checks.proofs.refusing.statement_refusal.Goals as goal

pub returns : goal.returns
returns c =
    c.code_of.ensures ∙ ap code_of c.statement.ensures
    ∙ sym (refusal_law (objects_of c.args.objects.now) (scope_with c.args.locals.now (option_copied c.args.new_row) (option_copied c.args.old_row)) (view c.args.s.now))
