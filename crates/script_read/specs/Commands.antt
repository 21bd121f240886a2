-- What a command says: its actor, and what its text asks of it.
use Rattle.std.specs.Prelude.{ℕ, Bool, true, ◌&&◌, nat_le, ◌==◌, codes, if◌then◌else◌, List, [], ◌∷◌, Option, Some, None}
use Rattle.std.specs.Option.{option_map}
use Rattle.std.specs.Char.{to_ascii_lowercase}
use Rattle.script_read.specs.declared.command.Actor.{Actor}
use Rattle.script_read.specs.declared.command.Actor.TheVariants as actors
use Rattle.script_read.specs.declared.command.What as code_what_type
use Rattle.script_read.specs.declared.command.What.TheVariants as code_what
use Rattle.script_read.specs.declared.command.Command as code_command_type
use Rattle.script_read.specs.Bytes.{is_word, first_word, behind_word, trim_front, number_to}

-- What is asked: a statement of a session, with its number and its text; of the source, to keep a checkpoint, to begin a new
-- log, to be opened again; of the replica, to fetch so many bytes, to apply so many groups, the same two, a SELECT.
pub data What : Type 0 where
  of_session : ℕ → List ℕ → What
  source_checkpoint : What
  source_flush : What
  source_restart : What
  fetch : ℕ → What
  apply : ℕ → What
  replica_checkpoint : What
  replica_restart : What
  replica_select : List ℕ → What

-- What is asked, and the place of the command's first byte.
pub record Command : Type 0 where
  pub at : ℕ
  pub what : What

-- ---- actors

-- the session that `s1` to `s99` name
abbrev pub session_of : List ℕ → Option Actor
session_of [] = None
session_of (b ∷ digits) = if to_ascii_lowercase b == 0x73 then option_map actors.Session (number_to 99 digits) else None

-- the actor that a head names
abbrev pub actor_of : List ℕ → Option Actor
actor_of head =
    if is_word (codes "source") head then Some actors.Source
    else if is_word (codes "replica") head then Some actors.Replica
    else session_of head

-- sessions are numbered from 1 to 99
abbrev pub is_session : ℕ → Bool
is_session n = nat_le 1 n && nat_le n 99

-- whether an actor that is a session has the number of one
abbrev pub is_actor_numbered : Actor → Bool
is_actor_numbered (actors.Session n) = is_session n
is_actor_numbered actors.Source = true
is_actor_numbered actors.Replica = true

-- ---- texts

-- what a text asks of the source
abbrev pub source_text : List ℕ → Option What
source_text text =
    if is_word (codes "checkpoint") text then Some source_checkpoint
    else if is_word (codes "flush") text then Some source_flush
    else if is_word (codes "restart") text then Some source_restart
    else None

-- the greatest numbers of FETCH and APPLY
abbrev pub fetch_limit : ℕ
fetch_limit = 1073741824

abbrev pub apply_limit : ℕ
apply_limit = 4294967295

-- what a text that is no single word asks of the replica, by its first word and what stands behind it
abbrev pub worded_text : List ℕ → List ℕ → List ℕ → Option What
worded_text text word rest =
    if is_word (codes "select") word then Some (replica_select text)
    else if is_word (codes "fetch") word then option_map fetch (number_to fetch_limit (trim_front rest))
    else if is_word (codes "apply") word then option_map apply (number_to apply_limit (trim_front rest))
    else None

-- what a text asks of the replica
abbrev pub replica_text : List ℕ → Option What
replica_text text =
    if is_word (codes "checkpoint") text then Some replica_checkpoint
    else if is_word (codes "restart") text then Some replica_restart
    else worded_text text (first_word text) (behind_word text)

-- what a text asks of its actor
abbrev pub what_of : Actor → List ℕ → Option What
what_of (actors.Session n) text = Some (of_session n text)
what_of actors.Source text = source_text text
what_of actors.Replica text = replica_text text

-- whether what is asked of a session has the number of one
abbrev pub is_what_numbered : What → Bool
is_what_numbered (of_session n text) = is_session n
is_what_numbered source_checkpoint = true
is_what_numbered source_flush = true
is_what_numbered source_restart = true
is_what_numbered (fetch n) = true
is_what_numbered (apply n) = true
is_what_numbered replica_checkpoint = true
is_what_numbered replica_restart = true
is_what_numbered (replica_select text) = true

-- ---- the code's commands as plain data

abbrev pub what_seen : code_what_type.What → What
what_seen (code_what.Session n text) = of_session n text.now
what_seen code_what.SourceCheckpoint = source_checkpoint
what_seen code_what.SourceFlush = source_flush
what_seen code_what.SourceRestart = source_restart
what_seen (code_what.Fetch n) = fetch n
what_seen (code_what.Apply n) = apply n
what_seen code_what.ReplicaCheckpoint = replica_checkpoint
what_seen code_what.ReplicaRestart = replica_restart
what_seen (code_what.ReplicaSelect text) = replica_select text.now

abbrev pub command_seen : code_command_type.Command → Command
command_seen c = record { at = c.at; what = what_seen c.what }
