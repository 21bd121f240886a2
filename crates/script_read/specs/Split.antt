-- What the code that splits a script answers.
use Rattle.std.specs.Prelude.{◌≡◌, ℕ, Bool, nat_le, List, [], length, map, Result, Ok, Err}
use Rattle.script_read.specs.declared.command.Command as code_command_type
use Rattle.script_read.specs.declared.script.SplitRefusal.{SplitRefusal}
use Rattle.script_read.specs.declared.script.SplitRefusal.TheVariants.{At, NoMemory}
use Rattle.script_read.specs.Commands.{What, of_session, source_checkpoint, source_flush, source_restart, fetch, apply, replica_checkpoint, replica_restart, replica_select, Command, is_what_numbered, what_seen, command_seen}

-- the answer is the one that the definition gives, or want of memory
abbrev pub GivesSplit : Result (List code_command_type.Command) SplitRefusal → Result (List Command) ℕ → Type 0
GivesSplit (Ok commands) split = split ≡ Ok (map command_seen commands)
GivesSplit (Err (At at)) split = split ≡ Err at
GivesSplit (Err NoMemory) split = Unit {0}

-- the statement text of a command, none where it has no statement
abbrev pub statement_of : What → List ℕ
statement_of (of_session n text) = text
statement_of source_checkpoint = []
statement_of source_flush = []
statement_of source_restart = []
statement_of (fetch n) = []
statement_of (apply n) = []
statement_of replica_checkpoint = []
statement_of replica_restart = []
statement_of (replica_select text) = text

-- whether the text of a command leaves room in 1 MiB for an actor, a colon and the slashes
abbrev pub is_short : code_command_type.Command → Bool
is_short c = nat_le (length (statement_of (what_seen c.what))) 1048571

-- whether a command of a session has the number of one
abbrev pub is_numbered : code_command_type.Command → Bool
is_numbered c = is_what_numbered (what_seen c.what)
