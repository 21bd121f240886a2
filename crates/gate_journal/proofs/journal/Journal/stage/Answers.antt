use Rattle.gate_journal.proofs.Journals.{stage_steps, stage_records, stage_stages}
use Rattle.gate_journal.proofs.journal.Journal.stage.Goals as goal

pub returns-clause-staged : goal.returns-clause-staged
returns-clause-staged g c body prepared = stage_stages _ _ c.args.self.now _ c.as_slice.ensures c.requires.rests c.put.result body prepared c.put.ensures.puts.on c.put.ensures.durable c.put.ensures.reads c.put.ensures.room

pub returns-clause-records : goal.returns-clause-records
returns-clause-records g c = stage_records _ _ c.args.self.now _ c.as_slice.ensures c.requires.rests c.put.result c.put.ensures.reads

pub returns-clause-steps : goal.returns-clause-steps
returns-clause-steps g c = stage_steps _ _ c.args.self.now _ c.as_slice.ensures c.requires.rests c.put.ensures.puts
