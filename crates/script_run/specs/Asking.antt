-- What the code that reads a script gives, as plain data.
use Rattle.std.specs.Prelude.{◌≡◌, ℕ, Bool, true, ◌&&◌, nat_lt, nat_le, List, length, map, Result, Ok, Err}
use Rattle.answer_text.specs.declared.status.Status.{Status}
use Rattle.answer_text.specs.declared.status.Status.TheVariants.{BadScript, NoMemory}
use Rattle.script_read.specs.Script.{command_limit}
use Rattle.run_laws.specs.run_model.Asked.{Asked, say, select, take_bytes, take_groups, checkpoint_source, checkpoint_replica, restart_source, restart_replica}
use Rattle.script_run.specs.declared.asked.Asked as code_asked_type
use Rattle.script_run.specs.declared.asked.Asked.TheVariants as code_asked

abbrev pub asked_seen : code_asked_type.Asked → Asked
asked_seen (code_asked.Say n text) = say n text.now
asked_seen (code_asked.Select text) = select text.now
asked_seen (code_asked.Fetch count) = take_bytes count
asked_seen (code_asked.Apply count) = take_groups count
asked_seen code_asked.CheckpointSource = checkpoint_source
asked_seen code_asked.CheckpointReplica = checkpoint_replica
asked_seen code_asked.RestartSource = restart_source
asked_seen code_asked.RestartReplica = restart_replica

-- the greatest number of commands of a script, which have five bytes at the least
abbrev pub most_commands : ℕ
most_commands = 13421772

-- whether a text is no longer than a command, and its session, if it has one, has a place among those of a source
abbrev pub is_fit : code_asked_type.Asked → Bool
is_fit (code_asked.Say n text) = nat_lt n 100 && nat_le (length text.now) command_limit
is_fit (code_asked.Select text) = nat_le (length text.now) command_limit
is_fit (code_asked.Fetch count) = true
is_fit (code_asked.Apply count) = true
is_fit code_asked.CheckpointSource = true
is_fit code_asked.CheckpointReplica = true
is_fit code_asked.RestartSource = true
is_fit code_asked.RestartReplica = true

-- what is asked is what the definition gives, or the status says why nothing is
abbrev pub GivesAsked : Result (List code_asked_type.Asked) Status → Result (List Asked) ℕ → Type 0
GivesAsked (Ok asked) all = all ≡ Ok (map asked_seen asked)
GivesAsked (Err (BadScript at)) all = all ≡ Err at
GivesAsked (Err NoMemory) all = Unit {0}
GivesAsked (Err _) all = ⊥
