use Rattle.std.proofs.Common.{refl}
use Rattle.gate_journal.proofs.Journals.{start_steps, start_rests, start_records, no_start}
use Rattle.gate_journal.proofs.journal.Journal.start.Goals as goal

pub returns-in_err-put-clause-steps : goal.returns-in_err-put-clause-steps
returns-in_err-put-clause-steps g c = start_steps _ _ c.args.self.now c.if-self.true c.requires.found c.put.ensures.puts

pub returns-in_ok-put-clause-rests : goal.returns-in_ok-put-clause-rests
returns-in_ok-put-clause-rests g c = start_rests _ _ c.args.self.now c.if-self.true c.requires.found _ c.put.ensures.puts.on c.in_ok-put.ensures.durable c.in_ok-put.ensures.reads refl refl

pub returns-in_ok-put-clause-records : goal.returns-in_ok-put-clause-records
returns-in_ok-put-clause-records g c = start_records _ _ c.args.self.now c.if-self.true c.requires.found c.in_ok-put.ensures.reads

pub returns-in_ok-put-clause-steps : goal.returns-in_ok-put-clause-steps
returns-in_ok-put-clause-steps g c = start_steps _ _ c.args.self.now c.if-self.true c.requires.found c.put.ensures.puts

pub returns-else-self-clause-steps : goal.returns-else-self-clause-steps
returns-else-self-clause-steps g c = no_start _ c.args.self.now c.requires.durable
