-- The log behind commands.
use Rattle.std.proofs.Common.{◌≡◌, ◌≤◌, ℕ, List, [], ◌∷◌, length, map, Option, Some, None, Result, Ok, Err, IfOk, IfSome, refl, sym, ap, ◌∙◌, subst, arith}
use Rattle.std.proofs.lemmas.List.{length-map, take_all}
use Rattle.fault_counts.specs.Causes.{Rose}
use Rattle.port_traits.specs.declared.identity.Draw.{Draw}
use Rattle.port_traits.specs.Streams.{ended_after, is_end}
use Rattle.answer_text.specs.declared.report.Report.{Report}
use Rattle.answer_text.specs.declared.status.Status.{Status}
use Rattle.answer_text.specs.declared.status.Status.TheVariants.{Done, BadWords, BadScript, ReadFault, WriteFault, SourceDisk, ReplicaDisk, SourceDamaged, ReplicaDamaged, LogDamaged, LogForeign, Differs, NoMemory}
use Rattle.disk_model.specs.Story.{Story, seen as seen_on}
use Rattle.store_model.specs.declared.record.Kind.TheVariants.{Source, Replica}
use Rattle.store_model.specs.Stores.{held_by}
use Rattle.disk_model.specs.Moments.{GoesOn}
use Rattle.disk_model.proofs.Moments.{on_refl}
use Rattle.durable_replica.specs.replica_node.Kept.{held_of}
use Rattle.script_run.specs.declared.stops.Refusal.{Refusal}
use Rattle.script_run.specs.declared.stops.Refusal.TheVariants as refusals
use Rattle.script_run.specs.Disks.{BothGoOn, Disks, Faults, NoFewer, Stores, disks, faults, stores_in}
use Rattle.run_laws.specs.session_model.Machine.{Machine}
use Rattle.durable_source.specs.Standing.{Stands}
use Rattle.run_laws.specs.run_model.Asked.{Asked}
use Rattle.run_laws.specs.run_model.Run.{Names, Both, Starts, both_from, end_of, log_with}
use Rattle.run_laws.specs.Laws.{IsSound}
use Rattle.run_stores.specs.durable_runs.Sources.{Stored, end_of as log_end}
use Rattle.run_streams.specs.Reports.{DrewUntil, StaysHandedOut}
use Rattle.script_run.specs.declared.nodes.Nodes.{Nodes}
use Rattle.script_run.specs.Beginning.{FromEach}
use Rattle.script_run.specs.Faults.{RefusesOpening, StopsLogging, StopsOpening, StopsRunning, StopsServing, status_by}
use Rattle.script_run.specs.Together.{Opened, Together}
use Rattle.script_run.specs.Running.{Going}
use Rattle.script_run.specs.Logged.{Logged}
use Rattle.script_run.proofs.Beginning.{each_from}
use Rattle.script_run.proofs.Marks.{called_through}
use Rattle.script_run.proofs.Running.{end_from, from_there}
use Rattle.script_run.proofs.Serving.{Known, log_piece, log_short, logs_are}
use Rattle.script_run.proofs.Disks.{where_told}

-- ---- a stream that drops its bytes

-- a write that takes all is no end
pub all_dropped : (E : Type 0) (piece : List ℕ) → 0 ≡ ended_after 0 (is_end {E = E} (Ok (length piece)) piece)
all_dropped E [] = refl
all_dropped E (byte ∷ piece) = refl

-- where the output has no faults, commands stop for the disk or for want of memory alone
pub stops_logging : (status : Status) (t : Disks) (disk later : Faults) → StopsRunning status t 0 0 disk later → StopsLogging status t disk later
stops_logging Done t disk later stops = stops
stops_logging BadWords t disk later stops = stops
stops_logging (BadScript at) t disk later stops = stops
stops_logging ReadFault t disk later stops = stops
stops_logging WriteFault t disk later stops = absurd (omega (arith, stops))
stops_logging SourceDisk t disk later stops = stops
stops_logging ReplicaDisk t disk later stops = stops
stops_logging (SourceDamaged file at) t disk later stops = stops
stops_logging (ReplicaDamaged file at) t disk later stops = stops
stops_logging (LogDamaged pos) t disk later stops = stops
stops_logging (LogForeign pos kind) t disk later stops = stops
stops_logging (Differs pos code table key) t disk later stops = stops
stops_logging NoMemory t disk later stops = stops

-- ---- what was drawn

-- whatever stopped, the draws that are told were handed out
pub handed_until : (status : Status) (before after : Option (List Draw)) (old new : List Draw) → DrewUntil status before old after new → StaysHandedOut before old new
handed_until Done before after old new drew = λ start drawn. (drew start drawn).handed
handed_until BadWords before after old new drew = λ start drawn. (drew start drawn).handed
handed_until (BadScript at) before after old new drew = λ start drawn. (drew start drawn).handed
handed_until ReadFault before after old new drew = λ start drawn. (drew start drawn).handed
handed_until WriteFault before after old new drew = λ start drawn. (drew start drawn).handed
handed_until SourceDisk before after old new drew = λ start drawn. (drew start drawn).handed
handed_until ReplicaDisk before after old new drew = λ start drawn. (drew start drawn).handed
handed_until (SourceDamaged file at) before after old new drew = λ start drawn. (drew start drawn).handed
handed_until (ReplicaDamaged file at) before after old new drew = λ start drawn. (drew start drawn).handed
handed_until (LogDamaged pos) before after old new drew = λ start drawn. (drew start drawn).handed
handed_until (LogForeign pos kind) before after old new drew = λ start drawn. (drew start drawn).handed
handed_until (Differs pos code table key) before after old new drew = λ start drawn. (drew start drawn).handed
handed_until NoMemory before after old new drew = drew

-- ---- the log

-- all of it was served
log_whole : Known → (names : Names) (t : Disks) (start : Stores) (nodes : Nodes) (b : Both) (r : Together names t start nodes b) (bytes : List ℕ) → IfSome t.source (λ _. bytes ≡ log_piece r.stands.now 1 0 4294967295)
    → IfSome t.source (λ _. length (r.stands.now.logs 1) ≤ 4294967295) → bytes ≡ log_with b.from b.machine
log_whole known names t start nodes b r bytes is long =
    where_told t.source (bytes ≡ log_piece r.stands.now 1 0 4294967295) r.told.source is
    ∙ take_all 4294967295 (r.stands.now.logs 1) (where_told t.source (length (r.stands.now.logs 1) ≤ 4294967295) r.told.source long)
    ∙ logs_are known names t start nodes b r

pub whole_given : {E : Type 0} (r : Result (List ℕ) E) → Known → (t : Option Story) (nodes : Nodes)
    → ((from : Stored) (m : Machine) (stands : Stands t nodes.source from m) → IfOk r (λ bytes. IfSome t (λ _. bytes ≡ log_piece stands.now 1 0 4294967295)))
    → ((from : Stored) (m : Machine) (stands : Stands t nodes.source from m) → log_end 1 stands.now.held.ends ≤ 4294967295)
    → (names : Names) (rep : Option Story) (start : Stores) (b : Both) → Together names (disks t rep) start nodes b → IfOk r (λ log. log ≡ log_with b.from b.machine)
whole_given (Err e) known t nodes is end names rep start b r = tt
whole_given (Ok bytes) known t nodes is end names rep start b r =
    log_whole known names (disks t rep) start nodes b r bytes (is start.source b.machine r.stands) (log_short 1 names (disks t rep) start nodes b r (end start.source b.machine r.stands))

logged_by : {A : Type 0} (seen : A → Asked) (xs : List A) (from : Starts) (t u v : Disks) (report : Report) (before after : Option (List ℕ)) (nodes : Nodes) (log : List ℕ) → BothGoOn u v → Going from t u (map seen xs) (length xs) report before after nodes
    → ((names : Names) (start : Stores) (b : Both) → Together names u start nodes b → log ≡ log_with b.from b.machine) → Logged from t v (map seen xs) report log
logged_by seen xs from t u v report before after nodes log on going is =
    let count : length xs ≡ length (map seen xs) = sym (simp length-map) in
    let cs : List Asked = map seen xs in
    let b : Both = end_of going.names (both_from going.names going.src from) cs going.draws in
    let begun : b.from ≡ from = end_from going.names (both_from going.names going.src from) cs going.draws in
    record {
      names = going.names;
      src = going.src;
      rep = going.rep;
      draws = going.draws;
      count = going.count_is ∙ count;
      told = record {
        source = going.told.source;
        replica = going.told.replica;
        src_draws = going.told.src_draws;
        rep_draws = going.told.rep_draws;
        now = going.told.now;
        calls = called_through t.source u.source v.source going.draws report.now.src_calls going.on.source on.source going.told.calls;
        rep_calls = called_through t.replica u.replica v.replica going.draws report.now.rep_calls going.on.replica on.replica going.told.rep_calls;
        marks = going.told.marks;
      };
      formats = going.formats;
      sound = λ begins. subst (λ (x : Starts). IsSound x b.machine) begun (going.together.sound (from_there going.names going.src from cs going.draws begins));
      log_is = is going.names (stores_in t going.held (held_of from.replica)) b going.together ∙ ap (λ (x : Starts). log_with x b.machine) begun;
    }

pub logged_if : {A : Type 0} (r : Result (List ℕ) Status) (seen : A → Asked) (xs : List A) (from : Starts) (t u v : Disks) (report : Report) (before after : Option (List ℕ)) (nodes : Nodes) → BothGoOn u v → Going from t u (map seen xs) (length xs) report before after nodes
    → ((names : Names) (start : Stores) (b : Both) → Together names u start nodes b → IfOk r (λ log. log ≡ log_with b.from b.machine)) → IfOk r (λ log. Logged from t v (map seen xs) report log)
logged_if (Err status) seen xs from t u v report before after nodes on going is = tt
logged_if (Ok log) seen xs from t u v report before after nodes on going is = logged_by seen xs from t u v report before after nodes log on going is

pub logged_each : (r : Result (List ℕ) Status) (cs : List Asked) (t u v : Disks) (nodes : Nodes) (old new : Report) → FromEach t (λ from. Opened from t u nodes old)
    → ((from : Starts) (t : Disks) → Opened from t u nodes old → IfOk r (λ log. Logged from t v cs new log)) → IfOk r (λ log. FromEach t (λ from. Logged from t v cs new log))
logged_each (Err status) cs t u v nodes old new opened logged = tt
logged_each (Ok log) cs t u v nodes old new opened logged = each_from t (λ from. Opened from t u nodes old) (λ from. Logged from t v cs new log) (λ from o. logged from t o) opened

-- of the source's disk, which alone is served from
pub logged_served : {A : Type 0} (r : Result (List ℕ) Status) (seen : A → Asked) (xs : List A) (from : Starts) (t : Disks) (s u rep : Option Story) (report : Report) (before after : Option (List ℕ)) (nodes : Nodes) → GoesOn s u
    → Going from t (disks s rep) (map seen xs) (length xs) report before after nodes
    → ((names : Names) (rep : Option Story) (start : Stores) (b : Both) → Together names (disks s rep) start nodes b → IfOk r (λ log. log ≡ log_with b.from b.machine)) → IfOk r (λ log. Logged from t (disks u rep) (map seen xs) report log)
logged_served r seen xs from t s u rep report before after nodes on going is =
    logged_if r seen xs from t (disks s rep) (disks u rep) report before after nodes (record { source = on; replica = on_refl rep }) going (λ names start b together. is names rep start b together)

-- ---- why it stopped

-- a later rise is one since before
rose_since : (before mid now : ℕ) → before ≤ mid → Rose mid now → Rose before now
rose_since before mid now later rose = omega (arith, later, rose)

pub serving_stops : (status : Status) (t : Disks) (disk mid later : ℕ) (n m : ℕ) → disk ≤ mid → StopsServing status mid later → StopsLogging status t (faults disk n) (faults later m)
serving_stops Done t disk mid later n m before stops = stops
serving_stops BadWords t disk mid later n m before stops = stops
serving_stops (BadScript at) t disk mid later n m before stops = stops
serving_stops ReadFault t disk mid later n m before stops = stops
serving_stops WriteFault t disk mid later n m before stops = stops
serving_stops SourceDisk t disk mid later n m before stops = rose_since disk mid later before stops
serving_stops ReplicaDisk t disk mid later n m before stops = absurd stops
serving_stops (SourceDamaged file at) t disk mid later n m before stops = absurd stops
serving_stops (ReplicaDamaged file at) t disk mid later n m before stops = absurd stops
serving_stops (LogDamaged pos) t disk mid later n m before stops = stops
serving_stops (LogForeign pos kind) t disk mid later n m before stops = stops
serving_stops (Differs pos code table key) t disk mid later n m before stops = stops
serving_stops NoMemory t disk mid later n m before stops = stops

-- what never comes where a disk tells
never_so : (t u : Option Story) (P : Type 0) → GoesOn t u → IfSome u (λ _. ⊥) → IfSome t (λ _. P)
never_so None u P on never = tt
never_so (Some s) None P on never = absurd on
never_so (Some s) (Some r) P on never = absurd never

-- commands behind an opening
pub opened_stops : (status : Status) (t u : Disks) (disk mid later : Faults) → BothGoOn t u → NoFewer disk mid → StopsLogging status u mid later → StopsOpening status t disk later
opened_stops Done t u disk mid later on before stops = stops
opened_stops BadWords t u disk mid later on before stops = stops
opened_stops (BadScript at) t u disk mid later on before stops = stops
opened_stops ReadFault t u disk mid later on before stops = stops
opened_stops WriteFault t u disk mid later on before stops = stops
opened_stops SourceDisk t u disk mid later on before stops = rose_since disk.source mid.source later.source before.source stops
opened_stops ReplicaDisk t u disk mid later on before stops = rose_since disk.replica mid.replica later.replica before.replica stops
opened_stops (SourceDamaged file at) t u disk mid later on before stops = never_so t.source u.source (held_by Source (seen_on t.source) ≡ Err (record { file = file; at = at })) on.source stops
opened_stops (ReplicaDamaged file at) t u disk mid later on before stops = never_so t.replica u.replica (held_by Replica (seen_on t.replica) ≡ Err (record { file = file; at = at })) on.replica stops
opened_stops (LogDamaged pos) t u disk mid later on before stops = stops
opened_stops (LogForeign pos kind) t u disk mid later on before stops = stops
opened_stops (Differs pos code table key) t u disk mid later on before stops = stops
opened_stops NoMemory t u disk mid later on before stops = stops

pub opening_refused : (refusal : Refusal) (t : Disks) (disk later : Faults) → RefusesOpening refusal t disk later → StopsOpening (status_by refusal) t disk later
opening_refused refusals.SourceDisk t disk later refuses = refuses
opening_refused refusals.ReplicaDisk t disk later refuses = refuses
opening_refused (refusals.SourceDamaged file at) t disk later refuses = refuses
opening_refused (refusals.ReplicaDamaged file at) t disk later refuses = refuses
opening_refused refusals.NoMemory t disk later refuses = refuses
