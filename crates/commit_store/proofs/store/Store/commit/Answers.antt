use Rattle.std.proofs.Common.{sym, subst}
use Rattle.commit_store.specs.declared.store.Store.{Store}
use Rattle.commit_store.specs.Keeping.{Keeps}
use Rattle.gate_journal.specs.declared.journal.Journal.{Journal}
use Rattle.gate_journal.specs.Journal.{Rests}
use Rattle.commit_store.proofs.Committing.{commit_images, commit_keeps, passed_journal}
use Rattle.commit_store.proofs.store.Store.commit.Goals as goal

pub returns-in_err-open_gate-clause-images : goal.returns-in_err-open_gate-clause-images
returns-in_err-open_gate-clause-images g c r held now leads = commit_images _ c.args.self.now r held now leads _ (c.open_gate.ensures.steps _ leads.staged)

pub returns-clause-keeps : goal.returns-clause-keeps
returns-clause-keeps g c r held now leads = subst (λ (s : Store). Keeps (g.D.Disk.told c.open_gate.new.d) s now) (sym c.pass.ensures)
    (commit_keeps _ c.args.self.now r held now leads _ (c.open_gate.ensures.steps _ leads.staged) c.open_gate.new.self c.open_gate.ensures.file c.in_ok-open_gate.ensures.rests
    (c.in_ok-open_gate.ensures.records _ leads.staged))

pub returns-clause-images : goal.returns-clause-images
returns-clause-images g c r held now leads = commit_images _ c.args.self.now r held now leads _ (c.open_gate.ensures.steps _ leads.staged)

pub returns-clause-rests : goal.returns-clause-rests
returns-clause-rests g c = subst (λ (s : Store). Rests (g.D.Disk.told c.open_gate.new.d) s.journal) (sym c.pass.ensures)
    (subst (λ (j : Journal). Rests (g.D.Disk.told c.open_gate.new.d) j) (sym (passed_journal _ _)) c.in_ok-open_gate.ensures.rests)
