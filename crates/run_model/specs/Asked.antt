-- What the commands of a script ask of the nodes.
use Rattle.std.specs.Prelude.{ℕ, List, [], ◌∷◌, Option, Some, None, Result, Ok, Err}
use Rattle.script_read.specs.Commands.{What, of_session, source_checkpoint, source_flush, source_restart, fetch, apply, replica_checkpoint, replica_restart, replica_select, Command}
use Rattle.script_read.specs.Script.{split_of}

-- A text of the session with this number; of the replica a SELECT, so many bytes to be fetched, so many groups to be carried out; that
-- a node writes what its store holds as a snapshot; that the source opens again on what it has committed, or the replica on what it has
-- carried out.
pub data Asked : Type 0 where
  say : ℕ → List ℕ → Asked
  select : List ℕ → Asked
  take_bytes : ℕ → Asked
  take_groups : ℕ → Asked
  checkpoint_source : Asked
  checkpoint_replica : Asked
  restart_source : Asked
  restart_replica : Asked

-- what a command asks, None for what no node does yet
abbrev pub asked_by : What → Option Asked
asked_by (of_session n text) = Some (say n text)
asked_by (replica_select text) = Some (select text)
asked_by source_checkpoint = Some checkpoint_source
asked_by source_flush = None
asked_by source_restart = Some restart_source
asked_by (fetch n) = Some (take_bytes n)
asked_by (apply n) = Some (take_groups n)
asked_by replica_checkpoint = Some checkpoint_replica
asked_by replica_restart = Some restart_replica

-- one more in front, or the place of the first that is refused
abbrev pub with_asked : ℕ → Option Asked → Result (List Asked) ℕ → Result (List Asked) ℕ
with_asked at None rest = Err at
with_asked at (Some asked) (Ok more) = Ok (asked ∷ more)
with_asked at (Some asked) (Err place) = Err place

-- what commands ask, or the first byte of the first one that no node carries out
abbrev pub all_asked : List Command → Result (List Asked) ℕ
all_asked [] = Ok []
all_asked (c ∷ cs) = with_asked c.at (asked_by c.what) (all_asked cs)

abbrev pub asked_if : Result (List Command) ℕ → Result (List Asked) ℕ
asked_if (Ok commands) = all_asked commands
asked_if (Err at) = Err at

-- what a script asks, or its first bad byte: where no command begins, or else where the first one does that no node carries out
abbrev pub asked_of : List ℕ → Result (List Asked) ℕ
asked_of script = asked_if (split_of script)
