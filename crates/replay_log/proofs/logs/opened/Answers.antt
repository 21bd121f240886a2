use Rattle.replay_log.proofs.Opening.{nothing_called}
use Rattle.replay_log.proofs.logs.opened.Goals as goal

pub returns-in_default-clause-refused : goal.returns-in_default-clause-refused
returns-in_default-clause-refused g c = record {
  why = tt;
  now = c.requires.empty.stands;
  marks = c.requires.empty.marks;
  survives = nothing_called (g.R.Disk.told c.args.rep.now) c.requires.settled;
}
