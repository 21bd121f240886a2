-- A source on its disk: for which run it stands, and what it opens on.
use Rattle.std.specs.Prelude.{◌≡◌, length, Option, Some, IfSome}
use Rattle.disk_model.specs.Story.{Story, seen}
use Rattle.session_model.specs.Machine.{Machine, session_slots}
use Rattle.session_model.specs.Holding.{Beginning}
use Rattle.store_model.specs.Entries.{writer_at}
use Rattle.store_checkpoints.specs.store_source.durable_runs.Laws.{HasFirstLog}
use Rattle.store_checkpoints.specs.store_source.durable_runs.Runs.{behind_steps}
use Rattle.store_checkpoints.specs.store_source.durable_runs.Sources.{Stored, SourceStands, source_side}
use Rattle.store_checkpoints.specs.store_source.Writing.{IsOn}
use Rattle.source_node.specs.Standing.{Stands as StandsInMemory}
use Rattle.durable_source.specs.declared.source.DurableSource.{DurableSource}

-- what a run begins with, where a store has this
abbrev pub beginning_of : Stored → Beginning
beginning_of s = record { base = s.held.base; committed = s.held.number; place = writer_at s.held }

-- what is read of a disk that tells stands for this
abbrev pub OpensOn : Option Story → Stored → Type 0
OpensOn t from = IfSome t (λ _. SourceStands from (seen t))

-- A source on its disk stands for a run that began with what its store had: in memory it stands for the run, with a place for each session,
-- and its disk has what the run's entries make of that store. The first of them begins a log or finds one begun.
pub record Stands (t : Option Story) (k : DurableSource) (from : Stored) (m : Machine) : Type 0 where
  pub node : StandsInMemory k.node m
  pub slots : length m.state.sessions ≡ session_slots
  pub first : HasFirstLog m.history from.held
  pub now : Stored
  pub reached : behind_steps source_side m.history from ≡ Some now
  pub on : IsOn t k.store now
