use Rattle.std.proofs.Common.{ap}
use Rattle.gate_journal.specs.declared.journal.Journal.{Journal}
use Rattle.commit_store.proofs.Standing.{keeps_prepared, rests_too}
use Rattle.commit_store.proofs.Taking.{taken_ready}
use Rattle.commit_store.proofs.store.Store.take.Goals as goal

pub returns-clause-ready : goal.returns-clause-ready
returns-clause-ready c r made form fits = taken_ready c.args.self.now c.args.p c.take_prepared.new.self r c.take_prepared.ensures made form fits

pub returns-clause-rests : goal.returns-clause-rests
returns-clause-rests c t rests =
    rests_too t c.args.self.now.journal c.take_prepared.new.self (ap (λ (j : Journal). j.file) c.take_prepared.ensures) (ap (λ (j : Journal). j.gate) c.take_prepared.ensures) rests

pub returns-clause-keeps : goal.returns-clause-keeps
returns-clause-keeps c t held keeps =
    keeps_prepared t c.args.self.now held c.take_prepared.new.self c.args.p.next (ap (λ (j : Journal). j.file) c.take_prepared.ensures) (ap (λ (j : Journal). j.gate) c.take_prepared.ensures) keeps
