-- What leaves a store as it is.
use Rattle.std.specs.Prelude.{◌≡◌, ◌≤◌, ℕ, List, Option, IfSome}
use Rattle.disk_model.specs.Story.{Story, count, overwritten, seen}
use Rattle.disk_model.specs.Moments.{Always, Only}
use Rattle.disk_model.specs.Claims.{Puts, WorksOn}
use Rattle.store_model.specs.declared.record.Kind.TheVariants.{Replica}
use Rattle.store_model.specs.Held.{Held}
use Rattle.store_model.specs.Stores.{first_log}
use Rattle.commit_store.specs.declared.store.Store.{Store}
use Rattle.commit_store.specs.Keeping.{Keeps, StandsFor}

-- a piece put into a file of logs leaves each image standing for what is held, and the store that keeps it once the piece is durable
abbrev pub LogsMayGrow : Type 0
LogsMayGrow =
    (t u : Option Story) (store : Store) (held : Held) (f at : ℕ) (piece : List ℕ) → Keeps t store held → first_log ≤ f → Puts t u f at piece
    → Always (count t) u (StandsFor store held)
    × (Only u f (seen u f) → IfSome t (λ _. seen u f ≡ overwritten at piece (seen t f)) → Keeps u store held)

-- so does any work on a file that a replica has fetched
abbrev pub FetchedMayChange : Type 0
FetchedMayChange =
    (t u : Option Story) (store : Store) (held : Held) (f : ℕ) → Keeps t store held → store.node ≡ Replica → first_log ≤ f → WorksOn t u f
    → Always (count t) u (StandsFor store held) × Keeps u store held
