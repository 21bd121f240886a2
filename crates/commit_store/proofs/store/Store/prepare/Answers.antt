use Rattle.std.proofs.Common.{sym, subst, ap}
use Rattle.gate_journal.specs.declared.journal.Journal.{Journal}
use Rattle.gate_journal.specs.Journal.{Rests}
use Rattle.commit_store.specs.declared.store.Store.{Store}
use Rattle.commit_store.proofs.Taking.{taken_rest}
use Rattle.commit_store.proofs.store.Store.prepare.Goals as goal

pub returns-clause-rest : goal.returns-clause-rest
returns-clause-rest c = taken_rest c.args.self.now c.make_room.new.self c.take.new.self c.in_ok-prepared.prepared c.make_room.ensures.rest c.take.ensures.rest

pub returns-clause-keeps : goal.returns-clause-keeps
returns-clause-keeps c t held keeps = c.take.ensures.keeps t held (c.make_room.ensures.keeps t held keeps)

pub returns-clause-rests : goal.returns-clause-rests
returns-clause-rests c t rests =
    c.take.ensures.rests t (subst (λ (j : Journal). Rests t j) (sym (ap (λ (s : Store). s.journal) c.make_room.ensures.rest)) rests)
