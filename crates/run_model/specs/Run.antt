-- A run of commands over a source and a replica: what they are told, the lines that show it, and whose draw each took.
--
-- A node that opens again by a RESTART loses what it keeps in memory alone. A source has no session and no open transaction, its
-- counters begin behind its rows, and what it has committed stays. A replica has nothing of what it had fetched, its counters begin
-- behind its rows, and its base, its number and its place stay, from which it fetches again.
use Rattle.std.specs.Prelude.{ℕ, suc, ◌+◌, Bool, true, false, List, [], ◌∷◌, ◌++◌, length, map, replicate, Option, Some, None}
use Rattle.port_traits.specs.declared.identity.Identity.{Identity}
use Rattle.port_traits.specs.declared.identity.Draw.{Draw}
use Rattle.log_entry_laws.specs.log_entries.declared.entries.Entry.{Entry}
use Rattle.log_entry_laws.specs.log_model.Log.{LogPlace, counted_all, log, written_to}
use Rattle.log_entry_laws.specs.catalog_rules.Bases.{Base, empty_base}
use Rattle.answer_text.specs.declared.answer.Answer.{Answer}
use Rattle.answer_text.specs.declared.report.Mark.{Mark}
use Rattle.answer_text.specs.Shown.{shown}
use Rattle.session_replays.specs.session_model.Answers.{ok}
use Rattle.session_replays.specs.session_model.Machine.{Whole, whole, kept_entry, nowhere, Step, step, Machine, machine_after, opened, log_bytes}
use Rattle.session_replays.specs.session_model.Holding.{Beginning}
use Rattle.session_replays.specs.session_model.Openings.{opened_from, restarted}
use Rattle.replica_model.specs.Replica.{Replica, first_replica, fetched, reopened, want}
use Rattle.replica_model.specs.Applying.{Going, apply}
use Rattle.replica_model.specs.Selecting.{select_answer}
use Rattle.replica_model.specs.Lines.{fetched_line, going_line}
use Rattle.run_model.specs.Asked.{Asked, say, select, take_bytes, take_groups, checkpoint_source, checkpoint_replica, restart_source, restart_replica}

-- ---- where both nodes began

-- How much of its source's first log a replica had read: nothing, or these bytes of it, with so many transactions and definitions.
pub data Read : Type 0 where
  nothing : Read
  bytes_to : List ℕ → ℕ → Read

abbrev pub bytes_before : Read → List ℕ
bytes_before nothing = []
bytes_before (bytes_to bytes number) = bytes

abbrev pub number_before : Read → ℕ
number_before nothing = 0
number_before (bytes_to bytes number) = number

-- where a writer stands behind that; before the first log where nothing was read
abbrev pub place_before : Read → LogPlace
place_before nothing = nowhere
place_before (bytes_to bytes number) = record { log = 1; pos = length bytes }

-- Where both nodes began: what the replica had read, the entries that it owed, the base of the source behind these, and the replica.
pub record Starts : Type 0 where
  pub read : Read
  pub owed : List (Entry Whole)
  pub base : Base
  pub replica : Replica

-- the source behind the entries that are owed
abbrev pub source_from : Starts → Beginning
source_from from = record {
  base = from.base;
  committed = counted_all (map kept_entry from.owed) (number_before from.read);
  place = written_to (map kept_entry from.owed) (number_before from.read) (place_before from.read);
}

-- the source's first log: what was read of it, the entries that were owed, and those that were put out since
abbrev pub log_with : Starts → Machine → List ℕ
log_with from m = bytes_before from.read ++ log (map kept_entry (from.owed ++ m.history)) (number_before from.read) (place_before from.read)

-- neither has anything
abbrev pub from_nothing : Starts
from_nothing = record { read = nothing; owed = []; base = empty_base; replica = first_replica }

-- ---- both nodes

-- Who the nodes are.
pub record Names : Type 0 where
  pub source : Identity
  pub replica : Identity

-- What a replica did to its base and counters: it carried out a group, at the draw of the APPLY that did, or it opened again.
pub data ReplicaStep : Type 0 where
  carried_at : Draw → ReplicaStep
  opened_again : ReplicaStep

-- how many groups it carried out
abbrev pub carried_in : List ReplicaStep → ℕ
carried_in [] = 0
carried_in (carried_at draw ∷ ss) = suc (carried_in ss)
carried_in (opened_again ∷ ss) = carried_in ss

-- A source with all that it committed since both began, and a replica with its steps since then.
pub record Both : Type 0 where
  pub from : Starts
  pub machine : Machine
  pub replica : Replica
  pub steps : List ReplicaStep

-- both opened where their stores stand, the source at the draw of its opening
abbrev pub both_from : Names → Draw → Starts → Both
both_from names src from = record { from = from; machine = opened_from names.source src (source_from from); replica = from.replica; steps = [] }

-- a source without tables, which has begun its log at the draw of its opening, and a replica that has nothing of it
abbrev pub first_both : Names → Draw → Both
first_both names src = record { from = from_nothing; machine = opened names.source src; replica = first_replica; steps = [] }

-- ---- one command

-- What a command is told: an answer, how many bytes were fetched, or how far groups were carried out.
pub data Told : Type 0 where
  answered : Answer → Told
  got : ℕ → Told
  went : Going → Told

-- What a command leads to.
pub record Next : Type 0 where
  pub both : Both
  pub told : Told

abbrev pub said : Both → Step Whole → Next
said b s = record { both = record b { machine = machine_after b.machine s }; told = answered s.answer }

-- a piece of the source's log goes to the replica
abbrev pub handed : Both → List ℕ → Next
handed b piece = record { both = record b { replica = fetched piece b.replica }; told = got (length piece) }

-- each group that was carried out took the draw of the APPLY
abbrev pub applied : Both → Draw → Going → Next
applied b draw a = record { both = record b { replica = a.replica; steps = b.steps ++ replicate a.count (carried_at draw) }; told = went a }

-- a node did what was asked, which is ok
abbrev pub done_on : Both → Next
done_on b = record { both = b; told = answered (ok 0) }

-- a session's text is a step of the source; FETCH takes the next bytes of its log; APPLY carries out groups of those that were fetched;
-- the replica's SELECT reads its rows; a CHECKPOINT leaves both nodes as they are; a RESTART opens its node again, the source's at its draw
abbrev pub next : Names → Both → Asked → Draw → Next
next names b (say n text) draw = said b (step whole names.source b.machine.state n text draw)
next names b (select text) draw = record { both = b; told = answered (select_answer names.replica draw b.replica.counters b.replica.base text) }
next names b (take_bytes n) draw = handed b (log_bytes (log_with b.from b.machine) (want b.replica) n)
next names b (take_groups n) draw = applied b draw (apply n names.replica draw b.replica)
next names b checkpoint_source draw = done_on b
next names b checkpoint_replica draw = done_on b
next names b restart_source draw = done_on (record b { machine = restarted names.source draw b.machine })
next names b restart_replica draw = done_on (record b { replica = reopened b.replica; steps = b.steps ++ opened_again ∷ [] })

-- the lines that show it
abbrev pub told_lines : ℕ → Told → List ℕ
told_lines k (answered a) = shown k a
told_lines k (got count) = fetched_line k count
told_lines k (went a) = going_line k a

-- ---- commands, each at its draw; FETCH and CHECKPOINT take none, and whichever stands there is not looked at

-- both nodes after commands, as many as there are draws
abbrev pub end_of : Names → Both → List Asked → List Draw → Both
end_of names b [] ds = b
end_of names b (c ∷ cs) [] = b
end_of names b (c ∷ cs) (d ∷ ds) = end_of names (next names b c d).both cs ds

-- the lines that show what they are told, from a number on
abbrev pub lines_shown : Names → Both → ℕ → List Asked → List Draw → List ℕ
lines_shown names b k [] ds = []
lines_shown names b k (c ∷ cs) [] = []
lines_shown names b k (c ∷ cs) (d ∷ ds) = told_lines k (next names b c d).told ++ lines_shown names (next names b c d).both (k + 1) cs ds

-- ---- whose draws

-- A node, whose environment hands out draws.
pub data Node : Type 0 where
  the_source : Node
  the_replica : Node

-- the node that a command takes its draw from: a session's text from the source, SELECT and APPLY from the replica, each RESTART from
-- its own; FETCH and CHECKPOINT take none
abbrev pub drawn_by : Asked → Option Node
drawn_by (say n text) = Some the_source
drawn_by (select text) = Some the_replica
drawn_by (take_bytes n) = None
drawn_by (take_groups n) = Some the_replica
drawn_by checkpoint_source = None
drawn_by checkpoint_replica = None
drawn_by restart_source = Some the_source
drawn_by restart_replica = Some the_replica

abbrev pub is_source : Option Node → Bool
is_source None = false
is_source (Some the_source) = true
is_source (Some the_replica) = false

abbrev pub is_replica : Option Node → Bool
is_replica None = false
is_replica (Some the_source) = false
is_replica (Some the_replica) = true

-- whether a command takes a draw of the source, or of the replica
abbrev pub draws_source : Asked → Bool
draws_source c = is_source (drawn_by c)

abbrev pub draws_replica : Asked → Bool
draws_replica c = is_replica (drawn_by c)

-- the node that a command has write a snapshot
abbrev pub checkpointed_by : Asked → Option Node
checkpointed_by (say n text) = None
checkpointed_by (select text) = None
checkpointed_by (take_bytes n) = None
checkpointed_by (take_groups n) = None
checkpointed_by checkpoint_source = Some the_source
checkpointed_by checkpoint_replica = Some the_replica
checkpointed_by restart_source = None
checkpointed_by restart_replica = None

-- whether a command is a checkpoint of the source, or of the replica
abbrev pub checkpoints_source : Asked → Bool
checkpoints_source c = is_source (checkpointed_by c)

abbrev pub checkpoints_replica : Asked → Bool
checkpoints_replica c = is_replica (checkpointed_by c)

abbrev pub one_if : Bool → ℕ
one_if true = 1
one_if false = 0

-- how many commands pass a test, of those that have a draw
abbrev pub count_of : (Asked → Bool) → List Asked → List Draw → ℕ
count_of p [] ds = 0
count_of p (c ∷ cs) [] = 0
count_of p (c ∷ cs) (d ∷ ds) = one_if (p c) + count_of p cs ds

abbrev pub kept_if : Bool → Draw → List Draw → List Draw
kept_if true d ds = d ∷ ds
kept_if false d ds = ds

-- the draws of the commands that pass a test
abbrev pub draws_of : (Asked → Bool) → List Asked → List Draw → List Draw
draws_of p [] ds = []
draws_of p (c ∷ cs) [] = []
draws_of p (c ∷ cs) (d ∷ ds) = kept_if (p c) d (draws_of p cs ds)

abbrev pub of_source : List Asked → List Draw → List Draw
of_source cs ds = draws_of draws_source cs ds

abbrev pub of_replica : List Asked → List Draw → List Draw
of_replica cs ds = draws_of draws_replica cs ds

-- ---- where a run stands

-- before a command: its number, and how many transactions were committed and how many applied; calls of disks are not counted here
abbrev pub mark_at : ℕ → Both → Mark
mark_at k b = record { command = k; committed = b.machine.state.shared.committed; src_calls = 0; applied = b.replica.number; rep_calls = 0 }

-- where the last of some commands began, `before` where there is none
abbrev pub last_mark : Names → Both → ℕ → List Asked → List Draw → Mark → Mark
last_mark names b k [] ds before = before
last_mark names b k (c ∷ cs) [] before = before
last_mark names b k (c ∷ cs) (d ∷ ds) before = last_mark names (next names b c d).both (k + 1) cs ds (mark_at k b)
