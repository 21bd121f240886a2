-- A command of a session, as the machine has it that keeps of an item what the log has of it.
use Rattle.std.specs.Prelude.{ℕ}
use Rattle.port_traits.specs.declared.identity.Identity.{Identity}
use Rattle.port_traits.specs.declared.identity.Draw.{Draw}
use Rattle.proc_parts.specs.log_entries.declared.entries.Item.{Item}
use Rattle.session_shared.specs.session_model.Running as running
use Rattle.session_shared.specs.session_model.Machine.{kept}
use Rattle.session_shared.specs.declared.command.Command.{Command}

abbrev pub call_of : Identity → Draw → ℕ → running.Call Item
call_of identity draw number = record { identity = identity; draw = draw; number = number; known = kept }

-- of a command, as the code has it
abbrev pub called : Command → running.Call Item
called c = call_of c.identity.now c.draw.now c.number
