use Rattle.prog_work.proofs.Carried.{together_led}
use Rattle.prog_work.proofs.work.Work.delete_row.Goals as goal

pub invariant_of-self : goal.invariant_of-self
invariant_of-self c =
    together_led c.self.inside.catalog c.self.inside.stage.tables c.delete_row.new.tables c.self.inside.stage.undo c.delete_row.new.undo c.self.inside.stage.counters c.self.invariant c.delete_row.ensures.leads
