use Rattle.std.proofs.Common.{ap, ◌∙◌, List}
use Rattle.std.specs.Prelude.{filter}
use Rattle.sql_tree.specs.StatementView.{view}
use Rattle.catalog_objects.specs.declared.object.Object.{Object}
use Rattle.catalog_objects.specs.Keys.{objects_of}
use Rattle.catalog_objects.specs.Lookups.{stays_with}
use Rattle.catalog_objects.proofs.Kept.{dropped, found_kept}
use Rattle.catalog_objects.proofs.objects.Objects.remove.Goals as goal

pub invariant_of-self : goal.invariant_of-self
invariant_of-self c =
    rw (c.keep_objects.ensures, c.keep_objects-2.ensures, c.keep_triggers.ensures)
    (found_kept (view c.args.s.now) c.self.inside.made.items c.self.inside.named.items c.self.inside.waiting.items c.self.invariant)

pub returns : goal.returns
returns c =
    ap objects_of (c.keep_objects.ensures ∙ ap (λ (os : List Object). filter (stays_with (view c.args.s.now)) os) c.self.view_is)
    ∙ dropped (view c.args.s.now) c.args.self.now c.requires
