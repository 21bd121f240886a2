use Rattle.std.proofs.Common.{ℕ, ◌+◌, ◌*◌, ◌≤◌, length, map, IsTrue}
use Rattle.std.specs.List.{list_all}
use Rattle.script_read.specs.Commands.{command_seen}
use Rattle.script_read.specs.Split.{is_numbered, is_short}
use Rattle.script_read.proofs.Splitting.{Left}
use Rattle.script_read.proofs.script.split.Given as goal

-- the commands so far, and what is left in a number of turns that is enough, make the whole
abbrev pub invariant-loop-rest : goal.invariant-loop-rest
invariant-loop-rest l = (5 * length l.commands + length l.rest ≤ length l.script) × ((turns : ℕ) × Left l.script (map command_seen l.commands) l.rest turns) × IsTrue (list_all is_short l.commands)
    × IsTrue (list_all is_numbered l.commands)

abbrev pub decreases-loop-rest : goal.decreases-loop-rest
decreases-loop-rest l = length l.rest
