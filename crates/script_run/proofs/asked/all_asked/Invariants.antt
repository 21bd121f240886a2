use Rattle.std.proofs.Common.{◌≡◌, ◌≤◌, length, map, drop, IsTrue}
use Rattle.std.specs.List.{list_all}
use Rattle.script_read.specs.Commands.{command_seen}
use Rattle.run_laws.specs.run_model.Asked.{all_asked}
use Rattle.script_run.specs.Asking.{asked_seen, is_fit}
use Rattle.script_run.proofs.Asking.{with_all}
use Rattle.script_run.proofs.asked.all_asked.Given as goal

abbrev pub invariant-loop-command : goal.invariant-loop-command
invariant-loop-command l =
    (with_all (map asked_seen l.all) (all_asked (map command_seen (drop l.command-index l.commands))) ≡ all_asked (map command_seen l.commands))
    × (length l.all ≤ l.command-index) × IsTrue (list_all is_fit l.all)
