-- A store that is opened and ready to be written to.
use Rattle.std.specs.Prelude.{◌≡◌, ◌≤◌, [], Option, IfSome, Ok}
use Rattle.disk_model.specs.Story.{Story, seen}
use Rattle.prog_work.specs.Contents.{base_of}
use Rattle.store_model.specs.sql_reach.Defining.{counters_begun}
use Rattle.store_model.specs.declared.record.Kind.TheVariants.{Source}
use Rattle.store_model.specs.Held.{most_committed}
use Rattle.store_model.specs.Stores.{held_by}
use Rattle.store_checkpoints.specs.store_source.durable_runs.Sources.{Stored, stored_in}
use Rattle.store_open.specs.declared.opening.Opened.{Opened}
use Rattle.store_open.specs.Opened.{held_with}
use Rattle.store_checkpoints.specs.store_source.Writing.{IsOn}
use Rattle.durable_source.specs.Standing.{OpensOn}

-- what a store was opened on: what is held, with the logs as they are read
abbrev pub found_on : Option Story → Opened → Stored
found_on t o = stored_in (held_with o.work o.store) (seen t)

-- A store was opened on a disk, whose calls since changed nothing that it holds: it is ready to be written to.
pub record IsReady (t u : Option Story) (o : Opened) : Type 0 where
  pub on : IsOn u o.store (found_on t o)
  pub few : o.store.number ≤ most_committed
  pub counters : o.work.counters ≡ counters_begun (base_of o.work)
  pub none : o.work.changes ≡ []
  pub told : IfSome t (λ _. held_by Source (seen t) ≡ Ok (held_with o.work o.store))
  pub is : (from : Stored) → OpensOn t from → IfSome t (λ _. (held_with o.work o.store ≡ from.held) × IsOn u o.store from)
