-- What a replica is while commands are carried out, and behind them: as it may be found at any moment of a run.
use Rattle.std.specs.Prelude.{◌≡◌, ◌⊎◌, ℕ, List, [], ◌∷◌}
use Rattle.port_traits.specs.declared.identity.Draw.{Draw}
use Rattle.replica_model.specs.Replica.{Replica}
use Rattle.replica_model.specs.Applying.{go_on, going_from}
use Rattle.run_model.specs.Asked.{Asked, say, select, take_bytes, take_groups, checkpoint_source, checkpoint_replica, restart_source, restart_replica}
use Rattle.run_model.specs.Run.{Names, Both, next}

-- What a replica is while a command is carried out at a draw: behind some steps of an APPLY, of which none is one; and as before it in any other
-- command.
abbrev pub IsOnTheWay : Names → Both → Asked → Draw → Replica → Type 0
IsOnTheWay names b (say n text) draw r = r ≡ b.replica
IsOnTheWay names b (select text) draw r = r ≡ b.replica
IsOnTheWay names b (take_bytes n) draw r = r ≡ b.replica
IsOnTheWay names b (take_groups n) draw r = (steps : ℕ) × (r ≡ (go_on steps n names.replica draw (going_from b.replica)).replica)
IsOnTheWay names b checkpoint_source draw r = r ≡ b.replica
IsOnTheWay names b checkpoint_replica draw r = r ≡ b.replica
IsOnTheWay names b restart_source draw r = r ≡ b.replica
IsOnTheWay names b restart_replica draw r = r ≡ b.replica

-- what it is at some moment of commands, each at its draw: on the way of one of them, or as it is behind the last
abbrev pub IsStateOf : Names → Both → List Asked → List Draw → Replica → Type 0
IsStateOf names b [] ds r = r ≡ b.replica
IsStateOf names b (c ∷ cs) [] r = r ≡ b.replica
IsStateOf names b (c ∷ cs) (d ∷ ds) r = IsOnTheWay names b c d r ⊎ IsStateOf names (next names b c d).both cs ds r
