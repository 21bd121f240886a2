use Rattle.replay_log.proofs.Endings.{ends}
use Rattle.replay_log.proofs.logs.replay.Goals as goal

pub returns-in-Ok-clause-run : goal.returns-in-Ok-clause-run
returns-in-Ok-clause-run g c =
    ends (g.S.Source.left c.args.input.now) (g.S.Source.left c.carried_out.new.input) (g.R.Disk.told c.args.rep.now) (g.R.Disk.told c.carried_out.new.rep) c.carried_out.new.report c.in-Ok.replaying
    (g.K.Sink.written c.args.out.now) (g.K.Sink.written c.tell.new.out) c.in-Ok.came c.tell.result c.in-Ok.ensures.came c.tell.ensures.tells
