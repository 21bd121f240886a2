use Rattle.std.proofs.Common.{◌≡◌, ap, ◌∙◌, sym, rules}
use Rattle.std.specs.Option.{option_copied}
use Rattle.sql_tree.specs.View.{view_tree}
use Rattle.catalog_objects.specs.Keys.{objects_of}
use Rattle.catalog_objects.specs.catalog_rules.Ranks.{code_of, tree_rank}
use Rattle.catalog_objects.proofs.of_catalog_rules.Refusing.{asking, expression_law}
use Rattle.catalog_objects.specs.catalog_rules.Nodes.{no_sight}
use Rattle.catalog_checks.specs.declared.sight.Sight.{the_lemmas}
use Rattle.catalog_checks.specs.Asking.{scope_with}
use Rattle.catalog_checks.proofs.refusing.expression_refusal.Goals as goal

pub returns : goal.returns
returns c =
    let scope = scope_with c.args.locals.now (option_copied c.args.new_row) (option_copied c.args.old_row) in
    let is : c.expr.result ≡ tree_rank (asking (objects_of c.args.objects.now) scope) (view_tree c.args.e.now) no_sight = search (rules, the_lemmas) in
    c.code_of.ensures ∙ ap code_of is ∙ sym (expression_law (objects_of c.args.objects.now) scope (view_tree c.args.e.now))
