use Rattle.std.proofs.Common.{rules, ◌≡◌}
use Rattle.auto_inc.specs.Counting.{tables_of}
use Rattle.prog_work.proofs.Carried.{together_given_up}
use Rattle.prog_work.proofs.work.Work.give_up.Goals as goal

pub invariant_of-self : goal.invariant_of-self
invariant_of-self c =
    let same : tables_of c.args.counters ≡ tables_of c.self.inside.stage.counters = search rules in
    together_given_up _ c.self.inside.stage.tables c.take_back_to.new.tables c.self.inside.stage.undo c.take_back_to.new.undo c.self.inside.stage.counters c.args.counters
    c.self.invariant c.take_back_to.ensures.tables c.take_back_to.ensures.undo c.take_back_to.ensures.still same
