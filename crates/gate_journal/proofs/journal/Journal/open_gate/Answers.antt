use Rattle.std.proofs.Common.{ap, ◌+◌, refl}
use Rattle.gate_journal.proofs.Journals.{open_steps, open_rests, open_records}
use Rattle.gate_journal.proofs.journal.Journal.open_gate.Goals as goal

pub returns-in_err-put-clause-steps : goal.returns-in_err-put-clause-steps
returns-in_err-put-clause-steps g c body staged = open_steps _ _ c.args.self.now body staged c.put.ensures.puts

pub returns-clause-rests : goal.returns-clause-rests
returns-clause-rests g c = open_rests _ _ c.args.self.now _ c.requires.staged.1 _ c.put.ensures.puts.on c.in_ok-put.ensures.durable c.in_ok-put.ensures.reads refl (ap (λ n. c.args.self.now.gate + n) c.len.ensures)

pub returns-clause-records : goal.returns-clause-records
returns-clause-records g c body staged = open_records _ _ c.args.self.now body staged c.in_ok-put.ensures.reads

pub returns-clause-steps : goal.returns-clause-steps
returns-clause-steps g c body staged = open_steps _ _ c.args.self.now body staged c.put.ensures.puts
