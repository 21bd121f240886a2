-- Statements on transactions, SET and CALL, and those that are none of them.
use Rattle.std.specs.Prelude.{ℕ, Bool, true, false, if◌then◌else◌, List}
use Rattle.session_transaction.specs.log_entries.declared.entries.Item.{Item}
use Rattle.answer_text.specs.declared.answer.Answer.{Answer}
use Rattle.sql_tree.specs.Statement.{Statement, begin, commit, rollback, savepoint, rollback_to, release_savepoint, set_all, call_procedure}
use Rattle.session_transaction.specs.sql_reach.Reach.{is_definition}
use Rattle.session_model.specs.Sessions.{Session, Shared}
use Rattle.session_model.specs.Running.{Call, Turn}
use Rattle.session_model.specs.Commands.{definition_turn, plain_turn}

abbrev pub other_turn : Call Item → List ℕ → Statement → Shared → Session Item → Turn Item Answer
other_turn call text s shared session = if is_definition s then definition_turn call text s shared session else plain_turn call text s shared session

abbrev pub is_of_transaction : Statement → Bool
is_of_transaction begin = true
is_of_transaction commit = true
is_of_transaction rollback = true
is_of_transaction (savepoint name) = true
is_of_transaction (rollback_to name) = true
is_of_transaction (release_savepoint name) = true
is_of_transaction s = false

abbrev pub is_set : Statement → Bool
is_set (set_all as') = true
is_set s = false

abbrev pub is_call : Statement → Bool
is_call (call_procedure name ts) = true
is_call s = false
