use Rattle.std.proofs.Common.{List, sym, subst}
use Rattle.val_types.specs.declared.change.Change.{Change}
use Rattle.prog_work.specs.Together.{AreTogether}
use Rattle.prog_work.proofs.Holding.{together_committed}
use Rattle.prog_work.proofs.work.Work.commit.Goals as goal

pub invariant_of-self : goal.invariant_of-self
invariant_of-self c =
    subst (λ (changes : List Change). AreTogether c.self.inside.catalog c.tidy.new.self changes c.self.inside.stage.counters) (sym c.clear.ensures)
    (together_committed c.self.inside.catalog c.self.inside.stage.tables c.tidy.new.self c.self.inside.stage.undo c.self.inside.stage.counters c.self.invariant c.tidy.ensures.tables c.tidy.ensures.committed)
