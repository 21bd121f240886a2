-- For which run a source stands, and what its disk has then.
use Rattle.std.proofs.Common.{◌≡◌, ℕ, ◌<◌, ◌≤◌, List, [], ◌∷◌, ◌++◌, length, map, Option, Some, sym, ◌∙◌, ap, subst, arith}
use Rattle.std.proofs.lemmas.List.{append-nil, length-set}
use Rattle.port_traits.specs.declared.identity.Identity.{Identity}
use Rattle.port_traits.specs.declared.identity.Draw.{Draw}
use Rattle.answer_text.specs.declared.answer.Answer.{Answer}
use Rattle.answer_text.specs.declared.report.Mark.{Mark}
use Rattle.disk_model.specs.Story.{Story}
use Rattle.session_model.specs.binlog_sizes.Sizes.{most_text}
use Rattle.session_model.specs.log_entries.declared.entries.Entry.{Entry}
use Rattle.session_model.specs.log_model.Log.{LogPlace}
use Rattle.session_model.specs.catalog_rules.Bases.{Base}
use Rattle.session_model.specs.Sessions.{State}
use Rattle.session_model.specs.Machine.{Machine, Step, Whole, kept_entry, machine_after, step, whole}
use Rattle.session_model.specs.Holding.{Beginning, Holds, RunsGoOn}
use Rattle.session_model.specs.Openings.{committed_in}
use Rattle.store_model.specs.Held.{Held}
use Rattle.store_model.specs.Entries.{writer_at}
use Rattle.store_checkpoints.specs.store_source.durable_runs.Laws.{HasFirstLog, StoredBehind}
use Rattle.store_checkpoints.specs.store_source.durable_runs.Marks.{source_mark}
use Rattle.store_checkpoints.specs.store_source.durable_runs.Runs.{behind_steps}
use Rattle.store_checkpoints.specs.store_source.durable_runs.Sources.{SourceRuns, Stored, held_after, source_side}
use Rattle.store_checkpoints.proofs.of_store_source.of_durable_runs.Storing.{stored_is, stored_rises, stored_some}
use Rattle.store_checkpoints.proofs.of_store_source.of_durable_runs.Joining.{runs_more, runs_none}
use Rattle.store_checkpoints.proofs.of_store_source.of_durable_runs.Steps.{some_same, steps_behind}
use Rattle.store_checkpoints.specs.store_source.Pushed.{ArePushed}
use Rattle.store_checkpoints.specs.store_source.Writing.{CanWrite, IsOn}
use Rattle.store_checkpoints.proofs.of_store_source.Images.{each_stands}
use Rattle.source_node.specs.session_shared.waiting_entries.declared.waiting.Waiting.{Waiting}
use Rattle.source_node.specs.session_shared.waiting_entries.Waiting.{CanWaitAll, all_waiting}
use Rattle.source_node.specs.Standing.{IsStepped, Kept, state_of, without_waiting}
use Rattle.durable_source.specs.declared.source.DurableSource.{DurableSource}
use Rattle.durable_source.specs.Standing.{Stands, beginning_of}
use Rattle.durable_source.proofs.Entering.{are_within, first_fits, have_bodies, later_base, later_made, leads_on}

-- ---- what the store has behind a run is what the run has committed

module _ (from : Stored) (m : Machine) (holds : Holds (beginning_of from) m) (first : HasFirstLog m.history from.held) (now : Stored)
    (reached : behind_steps source_side m.history from ≡ Some now) where
  stored : StoredBehind m.history from now
  stored = stored_is m.history from now first reached

  pub base_is : now.held.base ≡ m.state.shared.base
  base_is = some_same now.held.base m.state.shared.base (sym stored.base ∙ holds.entries)

  pub number_is : now.held.number ≡ m.state.shared.committed
  number_is = stored.number ∙ holds.count

  pub writer_is : writer_at now.held ≡ m.state.shared.place
  writer_is = stored.writer ∙ holds.place

  pub beginning_is : beginning_of now ≡ committed_in m
  beginning_is =
      let at : Base → ℕ → LogPlace → Beginning = λ base number place. record { base = base; committed = number; place = place } in
      ap (λ (b : Base). at b now.held.number (writer_at now.held)) base_is ∙ ap (λ (n : ℕ). at m.state.shared.base n (writer_at now.held)) number_is
      ∙ ap (at m.state.shared.base m.state.shared.committed) writer_is

-- the first of all entries finds a log, or begins one
pub first_goes_on : (front back : List (Entry Whole)) (from now : Stored) → HasFirstLog front from.held → behind_steps source_side front from ≡ Some now → HasFirstLog back now.held
    → HasFirstLog (front ++ back) from.held
first_goes_on [] back from now first reached later =
    subst (λ (s : Stored). HasFirstLog back s.held) (sym (some_same from now reached)) later
first_goes_on (e ∷ es) back from now first reached later = first

-- ---- behind a step

slots_stay : (identity : Identity) (state : State Whole) (n : ℕ) (text : List ℕ) (draw : Draw)
    → length (step whole identity state n text draw).state.sessions ≡ length state.sessions
unfolding step
slots_stay identity state n text draw = length-set state.sessions n _

module _ (t : Option Story) (old : DurableSource) (from : Stored) (m : Machine) (stands : Stands t old from m) (holds : Holds (beginning_of from) m) (go_on : RunsGoOn)
    (n : ℕ) (few : n < 100) (text : List ℕ) (short : length text ≤ most_text) (draw : Draw) where
  abbrev s : Step Whole
  s = step whole old.node.identity m.state n text draw

  -- what holds of each run holds behind it
  pub holds_on : Holds (beginning_of from) (machine_after m s)
  holds_on = go_on (beginning_of from) m old.node.identity n text draw holds (subst (λ (count : ℕ). n < count) (sym stands.slots) few) short

  module _ (k : Kept) (answer : Answer) (is : IsStepped m.state s k answer) where
    number : m.state.shared.committed ≡ stands.now.held.number
    number = sym (number_is from m holds stands.first stands.now stands.reached)

    writer : m.state.shared.place ≡ writer_at stands.now.held
    writer = sym (writer_is from m holds stands.first stands.now stands.reached)

    can_wait : CanWaitAll (map kept_entry s.committed) stands.now.held.number (writer_at stands.now.held)
    can_wait =
        subst (λ (p : LogPlace). CanWaitAll (map kept_entry s.committed) stands.now.held.number p) writer
        (subst (λ (c : ℕ). CanWaitAll (map kept_entry s.committed) c m.state.shared.place) number is.can)

    leads : (now : Held) × (held_after s.committed stands.now.held ≡ Some now)
    leads = leads_on s.committed stands.now.held s.state.shared.base
        (later_base m.history s.committed from.held.base stands.now.held.base s.state.shared.base holds_on.entries
        (holds.entries ∙ ap (λ (b : Base). Some b) (sym (base_is from m holds stands.first stands.now stands.reached))))

    -- what waits can be written
    pub can_write : (queue : List Waiting) → queue ≡ k.desk.log.waiting → CanWrite t old.store stands.now s.committed queue
    can_write queue taken = record {
      on = stands.on;
      made = later_made m.history s.committed holds_on.made;
      within = are_within s.committed stands.now.held can_wait;
      leads = leads;
      queue = taken ∙ is.waiting ∙ ap (λ (c : ℕ). all_waiting (map kept_entry s.committed) c m.state.shared.place) number
          ∙ ap (all_waiting (map kept_entry s.committed) stands.now.held.number) writer;
      bodies = have_bodies (map kept_entry s.committed) stands.now.held.number (writer_at stands.now.held) can_wait;
    }

    behind : (after : Stored) × ((behind_steps source_side s.committed stands.now ≡ Some after) × (after.held ≡ leads.0))
    behind = stored_some s.committed stands.now leads.0 leads.1

    -- and once it is, the source stands for the run behind the step
    pub stands_on : (u : Option Story) (new : DurableSource) → new.node ≡ without_waiting k
        → ((after : Stored) → behind_steps source_side s.committed stands.now ≡ Some after → IsOn u new.store after) → Stands u new from (machine_after m s)
    stands_on u new left written = record {
      node = record {
        state = ap state_of left ∙ is.state;
        none = ap (λ (x : Kept). x.desk.log.waiting) left;
      };
      slots = slots_stay old.node.identity m.state n text draw ∙ stands.slots;
      first = first_goes_on m.history s.committed from stands.now stands.first stands.reached (first_fits s.committed stands.now.held can_wait);
      now = behind.0;
      reached = steps_behind source_side m.history s.committed from stands.now stands.reached ∙ behind.1.0;
      on = written behind.0 behind.1.0;
    }

-- ---- where nothing was called

pub idle_runs : (t : Option Story) (k : DurableSource) (from : Stored) (m : Machine) (stands : Stands t k from m) (es : List (Entry Whole)) (marks : List Mark)
    → SourceRuns t t stands.now es marks marks
idle_runs t k from m stands es marks =
    runs_more source_side t t stands.now [] es (map source_mark marks) (map source_mark marks)
    (runs_none source_side t stands.now (map source_mark marks) (each_stands t k.store stands.now stands.on)) (λ mid last made is. stored_rises es mid last is)

pub none_pushed : (now : Mark) (number : ℕ) (marks : List Mark) → ArePushed now number number marks marks
none_pushed now number marks = record { more = []; marks = sym (append-nil marks); named = tt; number = omega arith }

pub pushed_from : (t : Option Story) (k : DurableSource) (from : Stored) (m : Machine) (stands : Stands t k from m) (now : Mark) (after : ℕ) (old new : List Mark)
    → ArePushed now stands.now.held.number after old new → ArePushed now k.store.number after old new
pushed_from t k from m stands now after old new pushed =
    subst (λ (n : ℕ). ArePushed now n after old new) (sym stands.on.keeps.holds.shows.number) pushed
