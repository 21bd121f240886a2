-- What the input says, where it is read and split.
use Rattle.std.proofs.Common.{◌≡◌, inl, inr, ℕ, List, [], drop, Option, Some, None, Result, Ok, Err, IfOk, IfErr, IfSome, OnOk, OnErr, option_map, refl, sym, ap, ◌∙◌, subst}
use Rattle.script_read.specs.Commands.{Command}
use Rattle.script_read.specs.Script.{split_of}
use Rattle.run_laws.specs.run_model.Asked.{Asked, asked_if, asked_of}
use Rattle.run_streams.specs.Read.{IsRead, TakesUpToLimit}
use Rattle.answer_text.specs.declared.report.Report.{Report}
use Rattle.answer_text.specs.declared.status.Status.{Status}
use Rattle.answer_text.specs.declared.status.Status.TheVariants.{Done, BadWords, BadScript, ReadFault, WriteFault, SourceDisk, ReplicaDisk, SourceDamaged, ReplicaDamaged, LogDamaged, LogForeign, Differs, NoMemory}
use Rattle.disk_model.specs.Moments.{IsSettled}
use Rattle.run_streams.specs.Reports.{IsEmpty}
use Rattle.run_streams.specs.Stops.{StopsReading, status_of}
use Rattle.run_stores.specs.durable_runs.Laws.{SourcesLast}
use Rattle.script_run.specs.Asking.{GivesAsked}
use Rattle.script_run.proofs.Opened.{idle_survives, none_begun, replica_idle}
use Rattle.run_streams.specs.Wrote.{Wrote, WroteFront}
use Rattle.script_run.specs.Beginning.{FromEach, StoodFor}
use Rattle.script_run.specs.Disks.{Disks}
use Rattle.script_run.specs.Logged.{LogEndsBy, Logged}
use Rattle.script_run.specs.Ran.{EndsBy, IsScript, Ran}
use Rattle.script_run.specs.Running.{EndsRunning}

-- what asks something splits
asks_splits : (split : Result (List Command) ℕ) (cs : List Asked) (P : Type 0) → asked_if split ≡ Ok cs → IfOk split (λ commands. P) → P
asks_splits (Ok commands) cs P asks p = p
asks_splits (Err at) cs P asks p = cc

none_left : (start now : Option (List ℕ)) → TakesUpToLimit start now → start ≡ None → IfSome now (λ rest. rest ≡ [])
none_left start now taken none = subst (λ (left : Option (List ℕ)). IfSome left (λ rest. rest ≡ [])) (sym (taken.rest ∙ ap (option_map (drop taken.count)) none)) tt

nothing_left : (now : Option (List ℕ)) → now ≡ Some [] → IfSome now (λ rest. rest ≡ [])
nothing_left now is = subst (λ (left : Option (List ℕ)). IfSome left (λ rest. rest ≡ [])) (sym is) refl

-- the commands that were read are those of the whole input, of which nothing is left
pub is_script : (cs : List Asked) (script : List ℕ) (start now : Option (List ℕ)) → asked_of script ≡ Ok cs → IfSome start (λ all. IsRead script all now) → TakesUpToLimit start now → IsScript cs start now
is_script cs script None now asks read taken = record { asks = tt; read = none_left None now taken refl }
is_script cs script (Some all) now asks read taken =
    let whole : asked_of all ≡ Ok cs = sym (ap asked_if read.same) ∙ asks in
    record { asks = whole; read = nothing_left now (asks_splits (split_of all) cs (now ≡ Some []) whole read.end) }

-- a bad byte of what was read is one of the whole input
pub bad_script : (at : ℕ) (script : List ℕ) (start now : Option (List ℕ)) → asked_of script ≡ Err at → IfSome start (λ all. IsRead script all now) → IfSome start (λ all. asked_of all ≡ Err at)
bad_script at script None now bad read = tt
bad_script at script (Some all) now bad read = sym (ap asked_if read.same) ∙ bad

-- and what is left behind it
pub bad_rest : (script : List ℕ) (start now : Option (List ℕ)) → IfSome start (λ all. IsRead script all now) → IfSome start (λ all. now ≡ Some (drop 67108865 all))
bad_rest script None now read = tt
bad_rest script (Some all) now read = read.rest

-- ---- how it ends

-- commands that were carried out or stopped, as the end of a script
ends_by_status : (status : Status) (cs : List Asked) (start now : Option (List ℕ)) (t u : Disks) (report : Report) (before after : Option (List ℕ)) → IsScript cs start now → EndsRunning status t u cs report before after
    → EndsBy status start now t u report before after
ends_by_status Done cs start now t u report before after reads ends = absurd ends
ends_by_status BadWords cs start now t u report before after reads ends = ends
ends_by_status (BadScript at) cs start now t u report before after reads ends = absurd ends
ends_by_status ReadFault cs start now t u report before after reads ends = absurd ends
ends_by_status WriteFault cs start now t u report before after reads ends = record { commands = cs; reads = reads; stood = ends.0; came = ends.1 }
ends_by_status SourceDisk cs start now t u report before after reads (inl none) = inl none
ends_by_status SourceDisk cs start now t u report before after reads (inr came) = inr (record { commands = cs; reads = reads; stood = came.0; came = came.1 })
ends_by_status ReplicaDisk cs start now t u report before after reads (inl none) = inl none
ends_by_status ReplicaDisk cs start now t u report before after reads (inr came) = inr (record { commands = cs; reads = reads; stood = came.0; came = came.1 })
ends_by_status (SourceDamaged file at) cs start now t u report before after reads ends = ends
ends_by_status (ReplicaDamaged file at) cs start now t u report before after reads ends = ends
ends_by_status (LogDamaged pos) cs start now t u report before after reads ends = ends
ends_by_status (LogForeign pos kind) cs start now t u report before after reads ends = ends
ends_by_status (Differs pos code table key) cs start now t u report before after reads ends = ends
ends_by_status NoMemory cs start now t u report before after reads (inl none) = inl none
ends_by_status NoMemory cs start now t u report before after reads (inr came) = inr (record { commands = cs; reads = reads; stood = came.0; came = came.1 })

pub ends_script : (r : Result (Unit {0}) Status) (cs : List Asked) (start now : Option (List ℕ)) (t u : Disks) (report : Report) (before after : Option (List ℕ)) → IsScript cs start now → OnOk r (StoodFor t)
    → OnOk r (FromEach t (λ from. Ran from t u cs report before after)) → IfErr r (λ status. EndsRunning status t u cs report before after) → EndsBy (status_of r) start now t u report before after
ends_script (Ok done) cs start now t u report before after reads stood ran ends = record { commands = cs; reads = reads; stood = stood; came = ran }
ends_script (Err status) cs start now t u report before after reads stood ran ends = ends_by_status status cs start now t u report before after reads ends

-- its log, written whole or in front
pub ends_log : (r : Result (Unit {0}) Status) (cs : List Asked) (start now : Option (List ℕ)) (t u : Disks) (report : Report) (before after : Option (List ℕ)) (log : List ℕ) → IsScript cs start now → StoodFor t
    → FromEach t (λ from. Logged from t u cs report log) → OnOk r (Wrote before after log) → IfErr r (λ status. status ≡ WriteFault) → OnErr r (WroteFront before after log) → LogEndsBy (status_of r) start now t u report before after
ends_log (Ok done) cs start now t u report before after log reads stood logged wrote fault front = record { commands = cs; reads = reads; stood = stood; log = log; logged = logged; wrote = wrote }
ends_log (Err status) cs start now t u report before after log reads stood logged wrote fault front =
    subst (λ (s : Status). LogEndsBy s start now t u report before after) (sym fault) (record { commands = cs; reads = reads; stood = stood; log = log; logged = logged; front = front })

-- ---- nothing was begun

-- reading that stopped
pub read_ends : SourcesLast → (t : Disks) → IsSettled t.source → IsSettled t.replica → (status : Status) (start now : Option (List ℕ)) (report : Report) (written : Option (List ℕ)) (faults later : ℕ) → IsEmpty report → StopsReading status faults later → EndsBy status start now t t report written written
read_ends law t settled rep_settled Done start now report written faults later empty stops = absurd stops
read_ends law t settled rep_settled BadWords start now report written faults later empty stops = stops
read_ends law t settled rep_settled (BadScript at) start now report written faults later empty stops = absurd stops
read_ends law t settled rep_settled ReadFault start now report written faults later empty stops = refl
read_ends law t settled rep_settled WriteFault start now report written faults later empty stops = absurd stops
read_ends law t settled rep_settled SourceDisk start now report written faults later empty stops = absurd stops
read_ends law t settled rep_settled ReplicaDisk start now report written faults later empty stops = absurd stops
read_ends law t settled rep_settled (SourceDamaged file at) start now report written faults later empty stops = absurd stops
read_ends law t settled rep_settled (ReplicaDamaged file at) start now report written faults later empty stops = absurd stops
read_ends law t settled rep_settled (LogDamaged pos) start now report written faults later empty stops = stops
read_ends law t settled rep_settled (LogForeign pos kind) start now report written faults later empty stops = stops
read_ends law t settled rep_settled (Differs pos code table key) start now report written faults later empty stops = stops
read_ends law t settled rep_settled NoMemory start now report written faults later empty stops = inl (none_begun t t report written empty.marks empty.stands (idle_survives law t.source settled) (replica_idle t.replica rep_settled))

-- a script that asks nothing
pub asked_ends : SourcesLast → (t : Disks) → IsSettled t.source → IsSettled t.replica → (status : Status) (script : List ℕ) (start now : Option (List ℕ)) (report : Report) (written : Option (List ℕ)) → IsEmpty report → GivesAsked (Err status) (asked_of script)
    → IfSome start (λ all. IsRead script all now) → EndsBy status start now t t report written written
asked_ends law t settled rep_settled Done script start now report written empty gives read = absurd gives
asked_ends law t settled rep_settled BadWords script start now report written empty gives read = gives
asked_ends law t settled rep_settled (BadScript at) script start now report written empty gives read = (bad_script at script start now gives read, refl)
asked_ends law t settled rep_settled ReadFault script start now report written empty gives read = absurd gives
asked_ends law t settled rep_settled WriteFault script start now report written empty gives read = absurd gives
asked_ends law t settled rep_settled SourceDisk script start now report written empty gives read = absurd gives
asked_ends law t settled rep_settled ReplicaDisk script start now report written empty gives read = absurd gives
asked_ends law t settled rep_settled (SourceDamaged file at) script start now report written empty gives read = absurd gives
asked_ends law t settled rep_settled (ReplicaDamaged file at) script start now report written empty gives read = absurd gives
asked_ends law t settled rep_settled (LogDamaged pos) script start now report written empty gives read = gives
asked_ends law t settled rep_settled (LogForeign pos kind) script start now report written empty gives read = gives
asked_ends law t settled rep_settled (Differs pos code table key) script start now report written empty gives read = gives
asked_ends law t settled rep_settled NoMemory script start now report written empty gives read = inl (none_begun t t report written empty.marks empty.stands (idle_survives law t.source settled) (replica_idle t.replica rep_settled))
