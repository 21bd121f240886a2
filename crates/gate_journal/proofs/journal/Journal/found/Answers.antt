use Rattle.std.proofs.Common.{ap, refl, arith}
use Rattle.gate_journal.specs.declared.journal.Journal.{Journal}
use Rattle.gate_journal.proofs.Journals.{found_at}
use Rattle.gate_journal.proofs.journal.Journal.found.Goals as goal

pub returns-clause-found : goal.returns-clause-found
returns-clause-found c t read = found_at t c.args.file c.args.bytes.now c.requires.0 c.args.gate _ c.new.result read c.requires.1 c.requires.2 refl (omega arith)
    (ap (λ (j : Journal). j.file) c.new.ensures) (ap (λ (j : Journal). j.gate) c.new.ensures) (ap (λ (j : Journal). j.fresh) c.new.ensures)
