-- The same turn, and a turn behind what logged nothing.
use Rattle.std.proofs.Common.{◌≡◌, Result, IfOk, subst}
use Rattle.proc_parts.specs.log_entries.declared.entries.Item.{Item}
use Rattle.session_shared.specs.session_model.Sessions.{Session}
use Rattle.session_shared.specs.session_model.Running.{Turn}
use Rattle.session_shared.specs.declared.desk.Desk.{Desk}
use Rattle.session_shared.proofs.Logging.{logs_from}
use Rattle.session_statement.specs.Turned.{IsTurn, Moves}

pub turn_is : {A : Type 0} (old new : Desk) (after : Session Item) (a : A) (t u : Turn Item A) → t ≡ u → IsTurn old new after a t → IsTurn old new after a u
turn_is old new after a t u same is = subst (λ v. IsTurn old new after a v) same is

pub turn_if : {A E : Type 0} (r : Result A E) (old new : Desk) (after : Session Item) (t u : Turn Item A) → t ≡ u → IfOk r (λ a. IsTurn old new after a t) → IfOk r (λ a. IsTurn old new after a u)
turn_if r old new after t u same is = subst (λ v. IfOk r (λ a. IsTurn old new after a v)) same is

pub moves_from : {A : Type 0} (old ran new : Desk) (after : Session Item) (t : Turn Item A) → ran.log ≡ old.log → ran.committed ≡ old.committed → Moves ran new after t → Moves old new after t
moves_from old ran new after t bytes count moves = (moves.0, moves.1, logs_from t.committed old ran new bytes count moves.2)
