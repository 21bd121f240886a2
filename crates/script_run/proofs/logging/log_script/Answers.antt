use Rattle.std.proofs.Common.{map}
use Rattle.script_run.specs.Asking.{asked_seen}
use Rattle.script_run.proofs.Scripts.{ends_log, is_script}
use Rattle.script_run.proofs.logging.log_script.Goals as goal

pub returns-clause-run : goal.returns-clause-run
returns-clause-run g c =
    ends_log c.write_line.result (map asked_seen c.in_ok-asked.asked) _ _ _ _ _ _ _ c.in_ok-log.log
    (is_script (map asked_seen c.in_ok-asked.asked) c.in_ok-script.script _ _ (rw c.as_slice.ensures at c.in_ok-asked.ensures.gives) c.in_ok-script.ensures.read c.read_script.ensures.limit)
    c.in_ok-log.ensures.stood c.in_ok-log.ensures.logged (rw c.as_slice-2.ensures at c.write_line.ensures.ok) c.write_line.ensures.fault (rw c.as_slice-2.ensures at c.write_line.ensures.err)
