-- A store that is opened and ready to be written to.
use Rattle.std.specs.Prelude.{◌≡◌, [], Option, IfSome, Ok}
use Rattle.disk_model.specs.Story.{Story, seen}
use Rattle.prog_work.specs.Contents.{base_of}
use Rattle.store_model.specs.sql_reach.Defining.{counters_begun}
use Rattle.store_model.specs.declared.record.Kind.TheVariants.{Replica}
use Rattle.store_model.specs.Held.{Held}
use Rattle.store_model.specs.Stores.{first_log, held_by}
use Rattle.store_open.specs.declared.opening.Opened.{Opened}
use Rattle.store_open.specs.Opened.{IsActive, held_with}
use Rattle.store_replica.specs.Writing.{IsOn, OpensOn}

-- A store was opened on a disk, whose calls since changed nothing that it holds: it is ready to be written to, and the file of what is fetched
-- is empty.
pub record IsReady (t u : Option Story) (o : Opened) : Type 0 where
  pub on : IsOn u o.store (held_with o.work o.store)
  pub counters : o.work.counters ≡ counters_begun (base_of o.work)
  pub none : o.work.changes ≡ []
  pub told : IfSome t (λ _. held_by Replica (seen t) ≡ Ok (held_with o.work o.store))
  pub active : IsActive t Replica o.store.generation
  pub is : (held : Held) → OpensOn t held → IfSome t (λ _. held_with o.work o.store ≡ held)
  pub relay : IfSome u (λ _. seen u first_log ≡ [])
