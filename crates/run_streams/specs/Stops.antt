-- Why reading, splitting or writing stopped, as a status. A status that cannot come is ⊥.
use Rattle.std.specs.Prelude.{◌≡◌, ℕ, Bool, true, false, List, map, Result, Ok, Err}
use Rattle.fault_counts.specs.Causes.{Rose}
use Rattle.answer_text.specs.declared.status.Status.{Status}
use Rattle.answer_text.specs.declared.status.Status.TheVariants.{Done, BadWords, BadScript, ReadFault, WriteFault, NoMemory}
use Rattle.script_read.specs.declared.command.Command as code_command_type
use Rattle.script_read.specs.Commands.{Command, command_seen}

-- the status of what ended or stopped
abbrev pub status_of : {A : Type 0} → Result A Status → Status
status_of (Ok done) = Done
status_of (Err status) = status

-- what a call gave, with its one error, want of memory, as a status
abbrev pub with_status : {A E : Type 0} → Result A E → Result A Status
with_status (Ok value) = Ok value
with_status (Err e) = Err NoMemory

-- reading stopped at a fault, for which the stream's count rose, or for want of memory
abbrev pub StopsReading : Status → ℕ → ℕ → Type 0
StopsReading ReadFault before now = Rose before now
StopsReading NoMemory before now = Unit {0}
StopsReading _ before now = ⊥

-- a script that was read and split stopped at a fault of the input, for which its count rose, at a
-- place where no command begins, or for want of memory
abbrev pub StopsSplitting : Status → ℕ → ℕ → Type 0
StopsSplitting (BadScript at) before now = Unit {0}
StopsSplitting ReadFault before now = Rose before now
StopsSplitting NoMemory before now = Unit {0}
StopsSplitting _ before now = ⊥

-- writing stopped at a fault, for which the stream's count rose, or for want of memory
abbrev pub StopsWriting : Status → ℕ → ℕ → Type 0
StopsWriting WriteFault before now = Rose before now
StopsWriting NoMemory before now = Unit {0}
StopsWriting _ before now = ⊥

-- the commands are those that the definition gives, or the status says why there are none
abbrev pub GivesCommands : Result (List code_command_type.Command) Status → Result (List Command) ℕ → Type 0
GivesCommands (Ok commands) split = split ≡ Ok (map command_seen commands)
GivesCommands (Err (BadScript at)) split = split ≡ Err at
GivesCommands (Err NoMemory) split = Unit {0}
GivesCommands (Err _) split = ⊥

-- ---- what a status says of the calls on the streams

-- a status that comes before anything is opened or written
abbrev pub is_early : Status → Bool
is_early BadWords = true
is_early (BadScript at) = true
is_early ReadFault = true
is_early _ = false

-- how many writes there were from the first one on that failed: a fault is the last call on the output
abbrev pub failed_writes : Status → ℕ
failed_writes WriteFault = 1
failed_writes _ = 0
