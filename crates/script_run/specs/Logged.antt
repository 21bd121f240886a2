-- How the writing of a run's log ends.
use Rattle.std.specs.Prelude.{◌≡◌, ℕ, List, length, Option, IfSome, Err}
use Rattle.port_traits.specs.declared.identity.Draw.{Draw}
use Rattle.answer_text.specs.declared.report.Report.{Report}
use Rattle.answer_text.specs.declared.status.Status.{Status}
use Rattle.answer_text.specs.declared.status.Status.TheVariants.{Done, BadScript, ReadFault, WriteFault, SourceDisk, ReplicaDisk, SourceDamaged, ReplicaDamaged, NoMemory}
use Rattle.run_laws.specs.run_model.Asked.{Asked, asked_of}
use Rattle.run_laws.specs.run_model.Run.{Names, Starts, both_from, end_of, log_with}
use Rattle.run_laws.specs.Laws.{AllLoggedAsSet, IsSound}
use Rattle.run_laws.specs.Openings.{Begins}
use Rattle.run_streams.specs.Wrote.{Wrote, WroteFront}
use Rattle.script_run.specs.Beginning.{FromEach, ReplicaWasDamaged, SourceWasDamaged, StoodFor}
use Rattle.script_run.specs.Disks.{Disks}
use Rattle.script_run.specs.Ran.{Reports, IsScript}

-- all commands were carried out, each at a draw that is told, and these are the bytes of the source's log behind them, what it had as the run
-- began among them; each session's transactions stand in it in the format that it had, and where the run began as one may, what was
-- committed can be read again from it
pub record Logged (from : Starts) (t u : Disks) (cs : List Asked) (report : Report) (log : List ℕ) : Type 0 where
  pub names : Names
  pub src : Draw
  pub rep : Draw
  pub draws : List Draw
  pub count : length draws ≡ length cs
  pub told : Reports names src rep from t u cs draws report
  pub formats : AllLoggedAsSet names (both_from names src from) cs draws
  pub sound : Begins from → IsSound from (end_of names (both_from names src from) cs draws).machine
  pub log_is : log ≡ log_with from (end_of names (both_from names src from) cs draws).machine

-- the log of the commands of the script on the input, which was read whole, was written
pub record WroteLog (script left : Option (List ℕ)) (t u : Disks) (report : Report) (before after : Option (List ℕ)) : Type 0 where
  pub commands : List Asked
  pub reads : IsScript commands script left
  pub stood : StoodFor t
  pub log : List ℕ
  pub logged : FromEach t (λ from. Logged from t u commands report log)
  pub wrote : Wrote before after log

-- a front of it was written
pub record WroteLogFront (script left : Option (List ℕ)) (t u : Disks) (report : Report) (before after : Option (List ℕ)) : Type 0 where
  pub commands : List Asked
  pub reads : IsScript commands script left
  pub stood : StoodFor t
  pub log : List ℕ
  pub logged : FromEach t (λ from. Logged from t u commands report log)
  pub front : WroteFront before after log

-- How it ends, by its status, with what the input had before and has left, the stories of both disks before and now, the report, and the output
-- before and after. A status without a case here cannot come.
abbrev pub LogEndsBy : Status → (script left : Option (List ℕ)) → (t u : Disks) → Report → (before after : Option (List ℕ)) → Type 0
LogEndsBy Done script left t u report before after = WroteLog script left t u report before after
LogEndsBy (BadScript at) script left t u report before after = IfSome script (λ bytes. asked_of bytes ≡ Err at) × (after ≡ before)
LogEndsBy ReadFault script left t u report before after = after ≡ before
LogEndsBy WriteFault script left t u report before after = WroteLogFront script left t u report before after
LogEndsBy SourceDisk script left t u report before after = after ≡ before
LogEndsBy ReplicaDisk script left t u report before after = after ≡ before
LogEndsBy (SourceDamaged file at) script left t u report before after = SourceWasDamaged t.source (record { file = file; at = at }) × (after ≡ before)
LogEndsBy (ReplicaDamaged file at) script left t u report before after = ReplicaWasDamaged t.replica (record { file = file; at = at }) × (after ≡ before)
LogEndsBy NoMemory script left t u report before after = after ≡ before
LogEndsBy _ script left t u report before after = ⊥
