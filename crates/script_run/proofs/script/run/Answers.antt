use Rattle.std.proofs.Common.{map}
use Rattle.std.proofs.lemmas.Result.{err_from_is_err_and}
use Rattle.script_run.specs.Asking.{asked_seen}
use Rattle.script_run.proofs.Scripts.{asked_ends, ends_script, is_script, read_ends}
use Rattle.script_run.proofs.script.run.Goals as goal

pub returns-clause-run : goal.returns-clause-run
returns-clause-run g c =
    ends_script c.run_commands.result (map asked_seen c.in_ok-asked.asked) _ _ _ _ _ _ _
    (is_script (map asked_seen c.in_ok-asked.asked) c.in_ok-script.script _ _ (rw c.as_slice.ensures at c.in_ok-asked.ensures.gives) c.in_ok-script.ensures.read c.read_script.ensures.limit)
    c.run_commands.ensures.stood c.run_commands.ensures.ran c.run_commands.ensures.ends

pub returns-in_err-script-clause-run : goal.returns-in_err-script-clause-run
returns-in_err-script-clause-run g c =
    let p = err_from_is_err_and c.from_residual.result c.from_residual.ensures.1 in
    rw (p.1, p.2) (read_ends c.sources_last.ensures _ c.requires.settled c.requires.rep_settled c.in_err-script.field-0.0 _ _ _ _ _ _ c.requires.report c.in_err-script.ensures.stop)

pub returns-in_err-asked-clause-run : goal.returns-in_err-asked-clause-run
returns-in_err-asked-clause-run g c =
    let p = err_from_is_err_and c.from_residual-in_err-asked.result c.from_residual-in_err-asked.ensures.1 in
    rw (p.1, p.2) (asked_ends c.sources_last.ensures _ c.requires.settled c.requires.rep_settled c.in_err-asked.field-0.0 c.in_ok-script.script _ _ _ _ c.requires.report (rw c.as_slice.ensures at c.in_err-asked.ensures.gives) c.in_ok-script.ensures.read)
