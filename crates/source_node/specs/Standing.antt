-- What a node keeps, and the runs of the machine for which it stands.
use Rattle.std.specs.Prelude.{◌≡◌, ℕ, List, [], map, Option, None}
use Rattle.port_traits.specs.declared.identity.Identity.{Identity}
use Rattle.answer_text.specs.declared.answer.Answer.{Answer}
use Rattle.session_transaction.specs.log_entries.declared.entries.Item.{Item}
use Rattle.session_model.specs.Sessions.{Session, State}
use Rattle.session_model.specs.Machine.{Machine, Step, Whole, kept_entry, kept_state}
use Rattle.session_transaction.specs.session_shared.waiting_entries.Waiting.{CanWaitAll, all_waiting}
use Rattle.session_transaction.specs.session_shared.declared.desk.Desk.{Desk}
use Rattle.session_transaction.specs.session_shared.Desk.{shared_of}

-- who the node is, what its sessions share, with what waits to be written, and each session by its number
pub record Kept : Type 0 where
  pub identity : Identity
  pub desk : Desk
  pub sessions : List (Option (Session Item))

-- as a state of the machine that keeps of an item what the log has of it
abbrev pub state_of : Kept → State Item
state_of k = record { shared = shared_of k.desk; sessions = k.sessions }

-- A node stands for each run whose state is the node's where just that is kept of items; between commands nothing waits to be written.
pub record Stands (k : Kept) (m : Machine) : Type 0 where
  pub state : state_of k ≡ kept_state m.state
  pub none : k.desk.log.waiting ≡ []

-- What a node is behind a step of the machine, from the state before it, where it gave an answer: the answer and the state are the step's,
-- and just what the step's entries leave waits to be written, each of which can wait where it comes.
pub record IsStepped (before : State Whole) (s : Step Whole) (k : Kept) (given : Answer) : Type 0 where
  pub answer : given ≡ s.answer
  pub state : state_of k ≡ kept_state s.state
  pub waiting : k.desk.log.waiting ≡ all_waiting (map kept_entry s.committed) before.shared.committed before.shared.place
  pub can : CanWaitAll (map kept_entry s.committed) before.shared.committed before.shared.place

-- a node from which what waited was taken
abbrev pub without_waiting : Kept → Kept
without_waiting k = record k { desk = record k.desk { log = record k.desk.log { waiting = [] } } }

-- a session that has had no command
abbrev pub no_session : Option (Session Item)
no_session = None
