-- Both nodes opened.
use Rattle.std.proofs.Common.{◌≡◌, inl, inr, ℕ, ◌==◌, Bool, true, false, if◌then◌else◌, List, [], ◌∷◌, ◌++◌, length, map, Option, Some, None, is_some, Ok, Err, IfSome, refl, sym, ap, ◌∙◌, subst, append-nil}
use Rattle.port_traits.specs.declared.identity.Identity.{Identity}
use Rattle.port_traits.specs.declared.identity.Draw.{Draw}
use Rattle.answer_text.specs.declared.report.Report.{Report}
use Rattle.disk_model.specs.Story.{Story, seen}
use Rattle.disk_model.specs.Moments.{GoesOn, IsSettled}
use Rattle.run_laws.specs.log_model.Log.{LogPlace, written_to}
use Rattle.run_laws.specs.session_model.Machine.{Whole, first_place, kept_entry}
use Rattle.run_laws.specs.session_model.Holding.{Beginning}
use Rattle.run_laws.specs.session_model.Openings.{OpeningsHold, opened_from, opening_entries}
use Rattle.answer_text.specs.declared.report.Mark.{Mark}
use Rattle.store_model.specs.declared.record.Kind.TheVariants.{Source, Replica}
use Rattle.store_model.specs.Entries.{writer_at}
use Rattle.store_model.specs.Held.{Held, LogEnd}
use Rattle.store_model.specs.Stores.{held_by}
use Rattle.run_stores.specs.durable_runs.Laws.{HasFirstLog, RunsLast, SourcesLast}
use Rattle.durable_source.specs.Standing.{OpensOn, Stands, beginning_of}
use Rattle.durable_replica.specs.replica_node.replica_model.Replica.{replica_from}
use Rattle.durable_replica.specs.replica_node.Kept.{held_of, replica_of}
use Rattle.durable_replica.proofs.of_store_replica.of_durable_runs.States.{carries_begins, carries_none}
use Rattle.durable_replica.proofs.of_store_replica.Ends.{no_ends}
use Rattle.run_stores.specs.durable_runs.Replicas.{CarriesTo, ReplicaRuns}
use Rattle.run_stores.specs.durable_runs.Sources.{SourceRuns, Stored, source_side, stored_in}
use Rattle.run_laws.specs.log_entries.declared.entries.Entry.{Entry}
use Rattle.run_laws.specs.log_entries.declared.entries.Entry.TheVariants.{Transaction, Definition, LogStart}
use Rattle.run_stores.specs.Standing.{StandAt}
use Rattle.run_laws.specs.run_model.Run.{Names, Read, nothing, bytes_to, number_before, place_before, Starts, source_from, both_from}
use Rattle.run_laws.specs.run_model.Following.{AreCommitted, head_entries}
use Rattle.run_laws.specs.Openings.{AreOwed, BothOpen}
use Rattle.run_streams.specs.Reports.{first_mark}
use Rattle.script_run.specs.declared.nodes.Nodes.{Nodes}
use Rattle.run_stores.specs.durable_runs.Behind.{nothing_stored}
use Rattle.durable_source.specs.declared.source.DurableSource.{DurableSource}
use Rattle.durable_replica.specs.declared.replica.DurableReplica.{DurableReplica}
use Rattle.disk_model.specs.declared.refusals.OpenRefusal.{OpenRefusal}
use Rattle.disk_model.specs.declared.refusals.OpenRefusal.TheVariants as opening
use Rattle.fault_counts.specs.Causes.{Rose}
use Rattle.script_run.specs.Beginning.{FromEach, ReplicaStoodFor, RunStands, SourceStoodFor}
use Rattle.script_run.specs.Disks.{AreTold, BothGoOn, Disks, Stores, disks, faults, stores_in}
use Rattle.script_run.specs.Faults.{RefusesOpening, by_replica, by_source}
use Rattle.script_run.specs.Opening.{ReplicaOpened, SourceOpened}
use Rattle.script_run.specs.Ran.{NotBegun}
use Rattle.script_run.specs.Survives.{IsHeldOf, Lasted, ReplicaOpens, SourceOpens}
use Rattle.script_run.proofs.Disks.{both_told, if_told, where_told}
use Rattle.script_run.proofs.Surviving.{rep_survives_by, survives_by}
use Rattle.script_run.specs.Together.{IsOneLog, Opened}
use Rattle.script_run.proofs.Beginning.{beginning_is}
use Rattle.script_run.proofs.Generations.{kept_at}
use Rattle.script_run.proofs.Serving.{stays_at}
use Rattle.script_run.proofs.Spoken.{failed_by}

-- ---- the log

-- a head, if nothing was read, and behind it transactions and definitions
record Line (read : Read) (owed history : List (Entry Whole)) : Type 0 where
  stamp : ℕ
  server : ℕ
  entries : List (Entry Whole)
  are : owed ++ history ≡ head_entries read stamp server ++ entries
  committed : AreCommitted entries

-- where a log has begun, opening puts out nothing
none_put : (identity : Identity) (draw : Draw) (p : LogPlace) → p.log ≡ 1 → opening_entries identity draw p ≡ []
none_put identity draw p first = ap (λ (n : ℕ). if n == 0 then LogStart draw.now identity.server_id ∷ [] else []) first

line_of : (identity : Identity) (draw : Draw) (read : Read) (owed history : List (Entry Whole)) → AreOwed read owed
    → history ≡ opening_entries identity draw (written_to (map kept_entry owed) (number_before read) (place_before read)) → Line read owed history
line_of identity draw nothing [] history are is = record { stamp = draw.now; server = identity.server_id; entries = []; are = is; committed = tt }
line_of identity draw nothing (LogStart s v ∷ os) history are is = record {
  stamp = s;
  server = v;
  entries = os;
  are = ap (λ (hs : List (Entry Whole)). LogStart s v ∷ (os ++ hs)) (is ∙ none_put identity draw (written_to (map kept_entry os) 0 first_place) (stays_at os 0 first_place are)) ∙ ap (λ (hs : List (Entry Whole)). LogStart s v ∷ hs) (append-nil os);
  committed = are;
}
line_of identity draw nothing (Transaction s v items ∷ os) history are is = absurd are
line_of identity draw nothing (Definition s v item ∷ os) history are is = absurd are
line_of identity draw (bytes_to bytes n) owed history are is =
    let p : LogPlace = record { log = 1; pos = length bytes } in
    record {
      stamp = 0;
      server = 0;
      entries = owed;
      are = ap (λ (hs : List (Entry Whole)). owed ++ hs) (is ∙ none_put identity draw (written_to (map kept_entry owed) n p) (stays_at owed n p are)) ∙ append-nil owed;
      committed = are;
    }

opened_line : (identity : Identity) (draw : Draw) (from : Starts) → AreOwed from.read from.owed → IsOneLog from (opened_from identity draw (source_from from))
opened_line identity draw from are =
    let l : Line from.read from.owed (opened_from identity draw (source_from from)).history = line_of identity draw from.read from.owed (opened_from identity draw (source_from from)).history are refl in
    record { stamp = l.stamp; server = l.server; entries = l.entries; are = l.are; committed = l.committed }

-- ---- the source

opens_on : (t : Option Story) (held : Held) → IfSome t (λ _. held_by Source (seen t) ≡ Ok held) → OpensOn t (stored_in held (seen t))
opens_on None held holds = tt
opens_on (Some s) held holds = record { held = holds; logs = λ n. refl }

-- what opening puts out begins the first log, or nothing
opened_first : (identity : Identity) (draw : Draw) (p : LogPlace) (held : Held) → HasFirstLog (opening_entries identity draw p) held
opened_first identity draw p held = by (p.log == 0)
  where
    by : (b : Bool) → HasFirstLog (if b then LogStart draw.now identity.server_id ∷ [] else []) held
    by true = tt
    by false = tt

-- a run that has opened has lasted
lasted_open : RunsLast source_side → SourcesLast → (t u : Option Story) (identity : Identity) (draw : Draw) (held : Held) → IsSettled t → IfSome t (λ _. held_by Source (seen t) ≡ Ok held)
    → SourceRuns t u (stored_in held (seen t)) (opening_entries identity draw (writer_at held)) [] [] → Lasted t u (stored_in held (seen t)) (opening_entries identity draw (writer_at held)) []
lasted_open law last t u identity draw held settled holds runs fits =
    let start : Stored = stored_in held (seen t) in
    law.goes_on t t u start start [] (opening_entries identity draw (writer_at held)) [] [] (last.begins t held settled holds) refl runs

-- what may stand on the disk where the source opened, or did not
pub opening_survives : RunsLast source_side → SourcesLast → (t u : Option Story) (identity : Identity) (draw : Draw) → IsSettled t
    → ((start : Stored) (marks : List Mark) → OpensOn t start → SourceRuns t u start (opening_entries identity draw (writer_at start.held)) marks marks) → SourceOpens t u
opening_survives law last None u identity draw settled runs = tt
opening_survives law last (Some s) u identity draw settled runs = λ held holds.
    let start : Stored = stored_in held (seen (Some s)) in
    let put : List (Entry Whole) = opening_entries identity draw (writer_at held) in
    record {
      put = put;
      survives = survives_by last (Some s) u held put [] holds (opened_first identity draw (writer_at held) held)
          (lasted_open law last (Some s) u identity draw held settled holds (runs start [] (opens_on (Some s) held holds)));
      may = inr (identity, (draw, refl));
    }

-- where no disk was called
pub idle_survives : SourcesLast → (t : Option Story) → IsSettled t → SourceOpens t t
idle_survives last None settled = tt
idle_survives last (Some s) settled = λ held holds. record {
  put = [];
  survives = survives_by last (Some s) (Some s) held [] [] holds tt (λ fits. last.begins (Some s) held settled holds);
  may = inl refl;
}

-- a disk goes on where it stood for something, whoever says so
pub goes_there : (t u : Option Story) → SourceStoodFor t → ((start : Stored) → OpensOn t start → GoesOn t u) → GoesOn t u
goes_there None u stood goes = goes nothing_stored tt
goes_there (Some s) u stood goes = goes (stored_in stood.0 (seen (Some s))) (record { held = stood.1; logs = λ n. refl })

-- a disk tells where its damage is
abbrev pub SourceTells : Option Story → OpenRefusal → Type 0
SourceTells t opening.Disk = Unit {0}
SourceTells t (opening.Damaged file at) = IfSome t (λ _. held_by Source (seen t) ≡ Err (record { file = file; at = at }))
SourceTells t opening.NoMemory = Unit {0}

abbrev pub ReplicaTells : Option Story → OpenRefusal → Type 0
ReplicaTells t opening.Disk = Unit {0}
ReplicaTells t (opening.Damaged file at) = IfSome t (λ _. held_by Replica (seen t) ≡ Err (record { file = file; at = at }))
ReplicaTells t opening.NoMemory = Unit {0}

-- why it did not open
pub source_refused : (A : Type 0) (why : OpenRefusal) (t rep : Option Story) (disk later n : ℕ) → SourceTells t why → (failed_by A OpenRefusal why ≡ failed_by A OpenRefusal opening.Disk → Rose disk later) → RefusesOpening (by_source why) (disks t rep) (faults disk n) (faults later n)
source_refused A opening.Disk t rep disk later n damaged rose = rose refl
source_refused A (opening.Damaged file at) t rep disk later n damaged rose = damaged
source_refused A opening.NoMemory t rep disk later n damaged rose = tt

-- ---- the replica

-- whatever its disk had stays there
pub replica_survives : (t u : Option Story) → IsSettled t → ((held : Held) (marks : List Mark) → IfSome t (λ _. held_by Replica (seen t) ≡ Ok held) → ReplicaRuns t u held [] marks marks) → ReplicaOpens t u
replica_survives None u settled runs = tt
replica_survives (Some s) u settled runs = λ held holds. rep_survives_by (λ now. now ≡ held) (Some s) u held [] holds (λ fits.
    (carries_none (λ now. now ≡ held) (Some s) u held [] [] refl (runs held [] holds)).carries)

pub replica_idle : (t : Option Story) → IsSettled t → ReplicaOpens t t
replica_idle None settled = tt
replica_idle (Some s) settled = λ held holds. rep_survives_by (λ now. now ≡ held) (Some s) (Some s) held [] holds (λ fits.
    (carries_begins (λ now. now ≡ held) (Some s) held settled holds refl).carries)

pub replica_refused : (A : Type 0) (why : OpenRefusal) (src t : Option Story) (disk later n : ℕ) → ReplicaTells t why → (failed_by A OpenRefusal why ≡ failed_by A OpenRefusal opening.Disk → Rose disk later) → RefusesOpening (by_replica why) (disks src t) (faults n disk) (faults n later)
replica_refused A opening.Disk src t disk later n damaged rose = rose refl
replica_refused A (opening.Damaged file at) src t disk later n damaged rose = damaged
replica_refused A opening.NoMemory src t disk later n damaged rose = tt

-- it stood for something where it was opened
pub replica_stood : (t : Option Story) (replica : DurableReplica) → IfSome t (λ _. held_by Replica (seen t) ≡ Ok (held_of (replica_of replica.node))) → ReplicaStoodFor t
replica_stood None replica holds = tt
replica_stood (Some s) replica holds = (held_of (replica_of replica.node), holds)

-- it is what its store holds
pub replica_is : (t : Option Story) (replica : DurableReplica)
    → ((held : Held) → IfSome t (λ _. held_by Replica (seen t) ≡ Ok held)
    → IfSome t (λ _. (replica_of replica.node ≡ replica_from held.base held.number held.place) × (held_of (replica_of replica.node) ≡ held)))
    → (held : Held) → IfSome t (λ _. held_by Replica (seen t) ≡ Ok held) → IfSome t (λ _. replica_of replica.node ≡ replica_from held.base held.number held.place)
replica_is None replica opens held stands = tt
replica_is (Some s) replica opens held stands = (opens held stands).0

-- ---- both nodes

-- what a replica's store held is what the run's replica has
held_is : (from : Starts) (held : Held) (stands : from.replica ≡ replica_from held.base held.number held.place) → held.ends ≡ [] → held ≡ held_of from.replica
held_is from held stands none =
    ap (λ (ends : List LogEnd). record held { ends = ends }) none ∙ ap held_of (sym stands)

pub opened_each : OpeningsHold → BothOpen → RunsLast source_side → SourcesLast → (t u : Disks) (nodes : Nodes) (report : Report) (s : SourceOpened t.source u.source nodes.source report) (r : ReplicaOpened t.replica u.replica nodes.replica report)
    → BothGoOn t u → report.now ≡ first_mark → report.marks ≡ [] → FromEach t (λ from. Opened from t u nodes report)
opened_each holds opens law last t u nodes report s r goes stays marks = by t.source t.replica refl refl
  where
    made : (from : Starts) (stands : RunStands t from) → OpensOn t.source (stored_in stands.held (seen t.source)) → IfSome t.source (λ _. held_by Source (seen t.source) ≡ Ok stands.held) → (told : AreTold t)
        → Stands u.source nodes.source (stored_in stands.held (seen t.source)) (opened_from s.identity s.draw (beginning_of (stored_in stands.held (seen t.source))))
        → replica_of nodes.replica.node ≡ from.replica → IfSome t.replica (λ _. held_by Replica (seen t.replica) ≡ Ok stands.rep_held) → Opened from t u nodes report
    made from stands on there told stand is rep_there =
        let names : Names = record { source = s.identity; replica = r.identity } in
        let start : Stores = stores_in t stands.held (held_of from.replica) in
        let same : stands.rep_held ≡ held_of from.replica = held_is from stands.rep_held stands.stand.opens (no_ends (seen t.replica) stands.rep_held stands.rep_holds) in
        let at : StandAt start.source start.replica from = subst (λ (h : Held). StandAt (stored_in stands.held (seen t.source)) h from) same stands.stand in
        let rep_holds : held_by Replica (seen t.replica) ≡ Ok (held_of from.replica) = subst (λ (h : Held). held_by Replica (seen t.replica) ≡ Ok h) same stands.rep_holds in
        let lasted : Lasted t.source u.source start.source (both_from names s.draw from).machine.history [] =
        subst (λ (p : LogPlace). Lasted t.source u.source start.source (opening_entries s.identity s.draw p) []) stands.stand.place
        (lasted_open law last t.source u.source s.identity s.draw stands.held stands.settled there (s.runs (stored_in stands.held (seen t.source)) [] on)) in
        record {
          names = names;
          src = s.draw;
          rep = r.draw;
          source = s.told;
          replica = r.told;
          src_draws = s.drawn;
          rep_draws = r.drawn;
          stays = stays;
          marks = marks;
          on = goes;
          held = stands.held;
          holds = stands.holds;
          rep_holds = rep_holds;
          src_first = nodes.source.store.generation;
          rep_first = nodes.replica.store.generation;
          began = s.active;
          rep_began = r.active;
          at = record {
            source = kept_at Source u.source nodes.source.store stand.now.held stand.on.node stand.on.keeps;
            replica = kept_at Replica u.replica nodes.replica.store (held_of (replica_of nodes.replica.node)) r.on.on.node r.on.on.keeps;
          };
          lasts = subst (λ (ms : List Mark). Lasted t.source u.source start.source (both_from names s.draw from).machine.history ms) (sym marks) lasted;
          carries = λ fits. subst (λ (ms : List Mark). CarriesTo (IsHeldOf names (both_from names s.draw from) [] []) t.replica u.replica (held_of from.replica) (held_of from.replica) [] ms) (sym marks)
              (carries_none (IsHeldOf names (both_from names s.draw from) [] []) t.replica u.replica (held_of from.replica) [] [] (from.replica, (refl, refl))
              (r.runs (held_of from.replica) [] (subst (λ (h : Held). IfSome t.replica (λ _. held_by Replica (seen t.replica) ≡ Ok h)) same rep_there)));
          together = record {
            source_name = s.named;
            replica_name = r.named;
            told = both_told t u told goes;
            stands = subst (λ (b : Beginning). Stands u.source nodes.source start.source (opened_from s.identity s.draw b)) (beginning_is start.source start.replica from at) stand;
            replica = is;
            replica_on = r.on;
            began = at;
            one = stands.one;
            holds = holds s.identity s.draw (source_from from);
            line = opened_line s.identity s.draw from stands.owed;
            sound = λ begins. (opens names s.draw from s.fits begins).sound;
            follows = λ begins. (opens names s.draw from s.fits begins).follows;
          };
        }

    by : (a b : Option Story) → t.source ≡ a → t.replica ≡ b → FromEach t (λ from. Opened from t u nodes report)
    by None b source replica = subst (λ (x : Option Story). IfSome x (λ _. IfSome t.replica (λ _. (from : Starts) → RunStands t from → Opened from t u nodes report))) (sym source) tt
    by (Some a) None source replica = subst (λ (x : Option Story). IfSome x (λ _. IfSome t.replica (λ _. (from : Starts) → RunStands t from → Opened from t u nodes report))) (sym source)
        (subst (λ (x : Option Story). IfSome x (λ _. (from : Starts) → RunStands t from → Opened from t u nodes report)) (sym replica) tt)
    by (Some a) (Some b) source replica = if_told t.source (IfSome t.replica (λ _. (from : Starts) → RunStands t from → Opened from t u nodes report))
        (if_told t.replica ((from : Starts) → RunStands t from → Opened from t u nodes report) (λ from stands.
        let told : AreTold t = record { source = ap is_some source; replica = ap is_some replica } in
        let there : IfSome t.source (λ _. held_by Source (seen t.source) ≡ Ok stands.held) = if_told t.source (held_by Source (seen t.source) ≡ Ok stands.held) stands.holds in
        let rep_there : IfSome t.replica (λ _. held_by Replica (seen t.replica) ≡ Ok stands.rep_held) = if_told t.replica (held_by Replica (seen t.replica) ≡ Ok stands.rep_held) stands.rep_holds in
        let start : Stored = stored_in stands.held (seen t.source) in
        let on : OpensOn t.source start = opens_on t.source stands.held there in
        made from stands on there told
        (where_told t.source (Stands u.source nodes.source start (opened_from s.identity s.draw (beginning_of start))) told.source (s.stands start on))
        (where_told t.replica (replica_of nodes.replica.node ≡ replica_from stands.rep_held.base stands.rep_held.number stands.rep_held.place) told.replica (r.is stands.rep_held rep_there) ∙ sym stands.stand.opens)
        rep_there))

-- the source as it was opened, where the report goes on with the replica
pub source_still : (t u : Option Story) (source : DurableSource) (mid new : Report) → SourceOpened t u source mid → new ≡ record mid { rep_identity = new.rep_identity; rep_draws = new.rep_draws } → SourceOpened t u source new
source_still t u source mid new s is = record {
  identity = s.identity;
  draw = s.draw;
  fits = s.fits;
  named = s.named;
  told = ap (λ (r : Report). r.src_identity) is ∙ s.told;
  drawn = ap (λ (r : Report). r.src_draws) is ∙ s.drawn;
  stands = s.stands;
  active = s.active;
  runs = s.runs;
}

-- nodes that were not opened
pub none_begun : (t u : Disks) (report : Report) (before : Option (List ℕ)) → report.marks ≡ [] → report.now ≡ first_mark → SourceOpens t.source u.source → ReplicaOpens t.replica u.replica → NotBegun t u report before before
none_begun t u report before marks now survives rep_survives = record { written = refl; marks = marks; now = now; survives = survives; rep_survives = rep_survives }
