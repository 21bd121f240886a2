use Rattle.std.proofs.Common.{◌≡◌, List, Some, sym, ◌∙◌, ap, subst}
use Rattle.val_types.specs.declared.change.Change.{Change}
use Rattle.table_rules.specs.Stored.{all_applied, all_inverse}
use Rattle.sql_reach.specs.catalog_rules.Bases.{definitions_in}
use Rattle.catalog.specs.catalog_objects.Keys.{objects_of}
use Rattle.prog_work.specs.Contents.{Contents, committed_tables}
use Rattle.prog_work.proofs.Holding.{committed_is, stands_committed}
use Rattle.prog_work.proofs.work.Work.stored.Goals as goal

pub returns-clause-committed : goal.returns-clause-committed
returns-clause-committed c = sym (committed_is _ _ _ _ c.self.invariant) ∙ ap committed_tables c.self.view_is

pub returns-clause-none : goal.returns-clause-none
returns-clause-none c none =
    let store = c.self.inside.stage.tables in
    stands_committed store
    (subst (λ (cs : List Change). all_applied (all_inverse cs) store.tables ≡ Some store.committed) (ap (λ (v : Contents). v.changes) c.self.view_is ∙ none) c.self.invariant.apart)
    ∙ ap (λ (v : Contents). v.tables) c.self.view_is

pub returns-clause-theirs : goal.returns-clause-theirs
returns-clause-theirs c = c.self.invariant.theirs ∙ ap (λ (v : Contents). definitions_in (objects_of v.objects)) c.self.view_is
