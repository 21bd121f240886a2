use Rattle.answer_text.specs.declared.status.Status.TheVariants as status
use Rattle.repl_run.proofs.Unread.{not_replayed}
use Rattle.repl_run.proofs.Whole.{print_is_whole, replay_is_whole, run_is_whole}
use Rattle.repl_run.proofs.program.top.Goals as goal

pub returns-in-Err-clause-replay_follows : goal.returns-in-Err-clause-replay_follows
returns-in-Err-clause-replay_follows g c is =
    c.replays_follow.ensures status.NoMemory _ _ _ _ _ _ _ (not_replayed (g.S.Source.left c.args.input.now) (g.R.Disk.told c.args.rep.now) c.args.report.now (g.K.Sink.written c.args.out.now) c.requires.empty c.requires.rep_settled)

pub returns-in-Ok-Some-Replay-clause-replay_follows : goal.returns-in-Ok-Some-Replay-clause-replay_follows
returns-in-Ok-Some-Replay-clause-replay_follows g c is = c.replays_follow.ensures _ _ _ _ _ _ _ _ c.replay.ensures.run

pub returns-in-Ok-Some-Run-clause-whole_run : goal.returns-in-Ok-Some-Run-clause-whole_run
returns-in-Ok-Some-Run-clause-whole_run g c is =
    run_is_whole _ _ _ _ _ _ _ _ _ _ _ _ _ _ _ c.run_script.result c.run_script.ensures.run c.run_script.ensures.read_fault c.run_script.ensures.write_fault c.run_script.ensures.disk_fault c.run_script.ensures.rep_disk_fault

pub returns-in-Ok-Some-Print-clause-whole_print : goal.returns-in-Ok-Some-Print-clause-whole_print
returns-in-Ok-Some-Print-clause-whole_print g c is = print_is_whole _ _ _ _ _ _ _ _ c.print.result c.print.ensures.run c.print.ensures.read_fault c.print.ensures.write_fault

pub returns-in-Ok-Some-Replay-clause-whole_replay : goal.returns-in-Ok-Some-Replay-clause-whole_replay
returns-in-Ok-Some-Replay-clause-whole_replay g c is =
    replay_is_whole _ _ _ _ _ _ _ _ _ _ _ _ _ c.replay.result c.replay.ensures.run (c.replays_follow.ensures _ _ _ _ _ _ _ _ c.replay.ensures.run) c.replay.ensures.read_fault c.replay.ensures.write_fault c.replay.ensures.disk_fault
