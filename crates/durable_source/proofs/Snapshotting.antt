-- A source whose store is written as a snapshot.
use Rattle.std.proofs.Common.{◌≡◌, List, [], Option, Result, Ok, Err, sym, ◌∙◌, ap, subst}
use Rattle.std.specs.Prelude.{OnOk}
use Rattle.answer_text.specs.declared.report.Mark.{Mark}
use Rattle.disk_model.specs.Story.{Story}
use Rattle.table_rules.specs.Stores.{IsWhole, Store as Rows, definitions_of}
use Rattle.session_model.specs.catalog_rules.Bases.{Base, definitions_in}
use Rattle.session_model.specs.log_entries.declared.entries.Item.{Item}
use Rattle.session_model.specs.Sessions.{State}
use Rattle.session_model.specs.Machine.{Machine}
use Rattle.session_model.specs.Holding.{Holds}
use Rattle.commit_store.specs.declared.store.Store.{Store}
use Rattle.store_checkpoints.specs.store_source.durable_runs.Sources.{SourceRuns, Stored}
use Rattle.store_checkpoints.specs.store_source.Writing.{IsOn, StaysOn}
use Rattle.store_checkpoints.specs.Asking.{SourceCan}
use Rattle.store_checkpoints.specs.snapshot_bodies.Kept.{base_kept}
use Rattle.store_checkpoints.specs.snapshot_laws.Laws.{AreTablesOf}
use Rattle.store_checkpoints.proofs.Tables.{base_is_kept, tables_are_theirs}
use Rattle.source_node.specs.prog_work.catalog_objects.Keys.{objects_of}
use Rattle.source_node.specs.prog_work.catalog_objects.declared.object.Object.{Object}
use Rattle.source_node.specs.Standing.{Kept, state_of, Stands as StandsInMemory}
use Rattle.durable_source.specs.declared.source.DurableSource.{DurableSource}
use Rattle.durable_source.specs.Standing.{Stands, beginning_of}
use Rattle.durable_source.proofs.Standings.{base_is}
use Rattle.durable_source.proofs.Starting.{stays_runs}

-- the base of the last commit, as a node has it
abbrev pub base_in : Kept → Base
base_in k = (state_of k).shared.base

module _ (t : Option Story) (k : DurableSource) (from : Stored) (m : Machine) (stands : Stands t k from m) (holds : Holds (beginning_of from) m) where
  -- it is what its store holds
  stored_base : base_in k.node ≡ stands.now.held.base
  stored_base = ap (λ (s : State Item). s.shared.base) stands.node.state ∙ sym (base_is from m holds stands.first stands.now stands.reached)

  pub can_checkpoint : (rows : Rows) (objects : List Object) → rows.committed ≡ (base_in k.node).tables → definitions_of rows.tables ≡ definitions_in (base_in k.node).catalog
      → IsWhole rows → objects_of objects ≡ (base_in k.node).catalog → SourceCan t k.store rows objects stands.now
  can_checkpoint rows objects committed theirs whole catalog = record {
    on = stands.on;
    base = sym stored_base ∙ base_is_kept rows objects (base_in k.node) catalog committed;
    tables = subst (λ (b : Base). AreTablesOf b.catalog b.tables) stored_base (tables_are_theirs rows objects (base_in k.node) catalog committed theirs whole);
  }

  -- behind it the source stands for the same run
  pub stands_still : {A E : Type 0} (r : Result A E) (u : Option Story) (new : DurableSource) → new.node ≡ k.node → OnOk r (IsOn u new.store stands.now) → OnOk r (Stands u new from m)
  stands_still (Err e) u new same on = tt
  stands_still (Ok x) u new same on = record {
    node = subst (λ (n : Kept). StandsInMemory n m) (sym same) stands.node;
    slots = stands.slots;
    first = stands.first;
    now = stands.now;
    reached = stands.reached;
    on = on;
  }

  pub still_runs : (u : Option Story) (marks : List Mark) → StaysOn t u stands.now → SourceRuns t u stands.now [] marks marks
  still_runs u marks stays = stays_runs t u stands.now marks stays

-- where it ended well there is a run for which the source stands
pub some_still : {A E : Type 0} (r : Result A E) (u : Option Story) (new : DurableSource) (from : Stored) (m : Machine) → Holds (beginning_of from) m → OnOk r (Stands u new from m)
    → OnOk r ((start : Stored) × ((n : Machine) × (Stands u new start n × Holds (beginning_of start) n)))
some_still (Ok x) u new from m holds stands = (from, (m, (stands, holds)))
some_still (Err e) u new from m holds stands = tt
