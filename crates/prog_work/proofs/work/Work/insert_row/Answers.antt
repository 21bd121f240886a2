use Rattle.prog_work.proofs.Carried.{together_led}
use Rattle.prog_work.proofs.work.Work.insert_row.Goals as goal

pub invariant_of-self : goal.invariant_of-self
invariant_of-self c =
    together_led c.self.inside.catalog c.self.inside.stage.tables c.insert_row.new.tables c.self.inside.stage.undo c.insert_row.new.undo c.self.inside.stage.counters c.self.invariant c.insert_row.ensures.leads
