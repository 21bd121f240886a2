-- How a run of a script ends.
use Rattle.std.specs.Prelude.{◌≡◌, ◌⊎◌, ℕ, ◌+◌, List, [], ◌∷◌, ◌++◌, length, slice_get, Option, Some, IfSome, Ok, Err}
use Rattle.port_traits.specs.declared.identity.Draw.{Draw}
use Rattle.answer_text.specs.declared.report.Report.{Report}
use Rattle.answer_text.specs.declared.status.Status.{Status}
use Rattle.answer_text.specs.declared.status.Status.TheVariants.{Done, BadWords, BadScript, ReadFault, WriteFault, SourceDisk, ReplicaDisk, SourceDamaged, ReplicaDamaged, LogDamaged, LogForeign, Differs, NoMemory}
use Rattle.run_laws.specs.run_model.Asked.{Asked, asked_of}
use Rattle.run_laws.specs.run_model.Run.{Names, Starts, both_from, next, end_of, told_lines, lines_shown, of_source, of_replica, mark_at, last_mark}
use Rattle.run_laws.specs.run_model.Following.{Follows}
use Rattle.run_laws.specs.Laws.{AllLoggedAsSet, IsSound, NoneStops}
use Rattle.run_laws.specs.Openings.{Begins}
use Rattle.run_laws.specs.log_entries.declared.entries.Entry.{Entry}
use Rattle.run_laws.specs.session_model.Machine.{Whole}
use Rattle.run_streams.specs.Reports.{first_mark}
use Rattle.run_streams.specs.Wrote.{Wrote, WroteFront}
use Rattle.script_run.specs.Beginning.{FromEach, ReplicaWasDamaged, SourceWasDamaged, StoodFor}
use Rattle.script_run.specs.Disks.{Disks}
use Rattle.script_run.specs.Generations.{AreRaised, BothRaised}
use Rattle.script_run.specs.Survives.{HasCarriedPrefix, IsHeldOf, MayPut, ReplicaOpens, ReplicaRecovers, ReplicaSurvives, SourceOpens, Survives}
use Rattle.script_run.specs.Marks.{AreMarks, Called, CalledWithin, command_marks, marks_of, numbers_behind, numbers_of, uncounted}

-- The report tells who the nodes are, the draw of each one's opening and behind it those of its commands, in order; where the last command
-- began, and how many calls each disk had had then; and a mark for each transaction that was committed and for each group that was carried
-- out, as the run stood when its command began, the last of which names what the source has committed and the replica carried out.
pub record Reports (names : Names) (src rep : Draw) (from : Starts) (t u : Disks) (cs : List Asked) (ds : List Draw) (report : Report) : Type 0 where
  pub source : report.src_identity ≡ Some names.source
  pub replica : report.rep_identity ≡ Some names.replica
  pub src_draws : report.src_draws ≡ src ∷ of_source cs ds
  pub rep_draws : report.rep_draws ≡ rep ∷ of_replica cs ds
  pub now : uncounted report.now ≡ last_mark names (both_from names src from) 1 cs ds first_mark
  pub calls : Called t.source u.source ds report.now.src_calls
  pub rep_calls : Called t.replica u.replica ds report.now.rep_calls
  pub marks : AreMarks (numbers_of (both_from names src from)) (numbers_of (end_of names (both_from names src from) cs ds)) (marks_of names (both_from names src from) 1 cs ds)
      report.marks

-- Both nodes began where their disks stood. All commands were carried out, each at a draw, and the lines of what they were told were written.
-- Each session's transactions are logged in the format that it had. Where the run began as one may, no APPLY stopped where each item that it
-- came to does the same at every replica, and none at anything but an item that has no effect; what was committed makes the committed base, and
-- its statements, run again one transaction after the other, give just the changes of its entries; and the replica follows the source: it has
-- carried out the first of the entries that were owed and committed, its base and counters are what an applier makes of these, each at the draw
-- of its APPLY, and where each item of them does the same at every replica, its base is what they make. So has whatever is held at a moment of
-- the replica's disk, and each image of each moment of it: a prefix of them, which the marks bound. Behind each command, at moments in
-- their order, each disk was at the generation at which it opened, raised by the checkpoints of its node among the commands until then, and no
-- mark of a command says more calls than the disk had had behind it; so it is at the end.
pub record Ran (from : Starts) (t u : Disks) (cs : List Asked) (report : Report) (before after : Option (List ℕ)) : Type 0 where
  pub names : Names
  pub src : Draw
  pub rep : Draw
  pub draws : List Draw
  pub count : length draws ≡ length cs
  pub told : Reports names src rep from t u cs draws report
  pub wrote : Wrote before after (lines_shown names (both_from names src from) 1 cs draws)
  pub unstopped : Begins from → NoneStops names (both_from names src from) cs draws
  pub formats : AllLoggedAsSet names (both_from names src from) cs draws
  pub sound : Begins from → IsSound from (end_of names (both_from names src from) cs draws).machine
  pub begun : (end_of names (both_from names src from) cs draws).from ≡ from
  pub survives : Survives t.source u.source (end_of names (both_from names src from) cs draws).machine.history report.marks
  pub rep_survives : ReplicaSurvives t.replica u.replica (IsHeldOf names (both_from names src from) cs draws) report.marks
  pub carried : Begins from → HasCarriedPrefix names src from cs draws
  pub recovers : Begins from → ReplicaRecovers names src from cs draws t.replica u.replica report.marks
  pub raised : BothRaised t u cs draws report.marks
  pub at : AreRaised t u cs draws report.marks raised
  pub follows : Begins from → Follows names (end_of names (both_from names src from) cs draws)

-- writing broke off in the lines of the last command: those before it are whole
pub record Broke (from : Starts) (t u : Disks) (cs : List Asked) (report : Report) (before after : Option (List ℕ)) : Type 0 where
  pub names : Names
  pub src : Draw
  pub rep : Draw
  pub draws : List Draw
  pub last : Draw
  pub command : Asked
  pub command_is : slice_get cs (length draws) ≡ Some command
  pub told : Reports names src rep from t u cs (draws ++ last ∷ []) report
  pub between : Option (List ℕ)
  pub wrote : Wrote before between (lines_shown names (both_from names src from) 1 cs draws)
  pub front : WroteFront between after (told_lines (1 + length draws) (next names (end_of names (both_from names src from) cs draws) command last).told)
  pub unstopped : Begins from → NoneStops names (both_from names src from) cs (draws ++ last ∷ [])
  pub formats : AllLoggedAsSet names (both_from names src from) cs (draws ++ last ∷ [])
  pub survives : Survives t.source u.source (end_of names (both_from names src from) cs (draws ++ last ∷ [])).machine.history report.marks
  pub rep_survives : ReplicaSurvives t.replica u.replica (IsHeldOf names (both_from names src from) cs (draws ++ last ∷ [])) report.marks
  pub carried : Begins from → HasCarriedPrefix names src from cs (draws ++ last ∷ [])
  pub recovers : Begins from → ReplicaRecovers names src from cs (draws ++ last ∷ []) t.replica u.replica report.marks
  pub raised : BothRaised t u cs (draws ++ last ∷ []) report.marks
  pub at : AreRaised t u cs (draws ++ last ∷ []) report.marks raised

-- A disk failed, or memory was short, in the command behind some that were carried out: the whole lines of these were written, and the report
-- begins with their draws. It says where that command began, and has a mark for each transaction and each group of these and for each that
-- was kept in it.
pub record Ceased (from : Starts) (t u : Disks) (cs : List Asked) (report : Report) (before after : Option (List ℕ)) : Type 0 where
  pub names : Names
  pub src : Draw
  pub rep : Draw
  pub draws : List Draw
  pub command : Asked
  pub command_is : slice_get cs (length draws) ≡ Some command
  pub source : report.src_identity ≡ Some names.source
  pub replica : report.rep_identity ≡ Some names.replica
  pub src_more : List Draw
  pub rep_more : List Draw
  pub src_draws : report.src_draws ≡ (src ∷ of_source cs draws) ++ src_more
  pub rep_draws : report.rep_draws ≡ (rep ∷ of_replica cs draws) ++ rep_more
  pub wrote : Wrote before after (lines_shown names (both_from names src from) 1 cs draws)
  pub unstopped : Begins from → NoneStops names (both_from names src from) cs draws
  pub formats : AllLoggedAsSet names (both_from names src from) cs draws
  pub now : uncounted report.now ≡ mark_at (1 + length draws) (end_of names (both_from names src from) cs draws)
  pub calls : CalledWithin t.source u.source report.now.src_calls
  pub rep_calls : CalledWithin t.replica u.replica report.now.rep_calls
  pub kept : ℕ
  pub groups : ℕ
  pub marks : AreMarks (numbers_of (both_from names src from)) (numbers_behind (numbers_of (end_of names (both_from names src from) cs draws)) kept groups)
      (marks_of names (both_from names src from) 1 cs draws ++ command_marks (mark_at (1 + length draws) (end_of names (both_from names src from) cs draws)) kept groups)
      report.marks
  pub put : List (Entry Whole)
  pub may : MayPut names (end_of names (both_from names src from) cs draws) command put
  pub survives : Survives t.source u.source put report.marks
  pub at : Draw
  pub rep_survives : ReplicaSurvives t.replica u.replica (IsHeldOf names (both_from names src from) cs (draws ++ at ∷ [])) report.marks
  pub carried : Begins from → HasCarriedPrefix names src from cs (draws ++ at ∷ [])
  pub recovers : Begins from → ReplicaRecovers names src from cs (draws ++ at ∷ []) t.replica u.replica report.marks
  pub raised : BothRaised t u cs draws report.marks

-- No command was begun: nothing was written, and the report has no mark and says so. Whatever stood on either disk does still, with what the
-- opening of the source put out, if it did.
pub record NotBegun (t u : Disks) (report : Report) (before after : Option (List ℕ)) : Type 0 where
  pub written : after ≡ before
  pub marks : report.marks ≡ []
  pub now : report.now ≡ first_mark
  pub survives : SourceOpens t.source u.source
  pub rep_survives : ReplicaOpens t.replica u.replica

-- the commands of the script on the input, which was read whole
pub record IsScript (cs : List Asked) (script left : Option (List ℕ)) : Type 0 where
  pub asks : IfSome script (λ bytes. asked_of bytes ≡ Ok cs)
  pub read : IfSome left (λ rest. rest ≡ [])

-- Both disks' files stood for what is held, and from wherever the run may have stood there, the commands of the script came to this.
pub record FromScript (t : Disks) (script left : Option (List ℕ)) (Came : Starts → List Asked → Type 0) : Type 0 where
  pub commands : List Asked
  pub reads : IsScript commands script left
  pub stood : StoodFor t
  pub came : FromEach t (λ from. Came from commands)

-- How a run ends, by its status, with what the input had before and has left, the stories of both disks before and now, the report, and the
-- output before and after. A status without a case here cannot come.
abbrev pub EndsBy : Status → (script left : Option (List ℕ)) → (t u : Disks) → Report → (before after : Option (List ℕ)) → Type 0
EndsBy Done script left t u report before after = FromScript t script left (λ from cs. Ran from t u cs report before after)
EndsBy (BadScript at) script left t u report before after = IfSome script (λ bytes. asked_of bytes ≡ Err at) × (after ≡ before)
EndsBy ReadFault script left t u report before after = after ≡ before
EndsBy WriteFault script left t u report before after = FromScript t script left (λ from cs. Broke from t u cs report before after)
EndsBy SourceDisk script left t u report before after = NotBegun t u report before after ⊎ FromScript t script left (λ from cs. Ceased from t u cs report before after)
EndsBy ReplicaDisk script left t u report before after = NotBegun t u report before after ⊎ FromScript t script left (λ from cs. Ceased from t u cs report before after)
EndsBy (SourceDamaged file at) script left t u report before after =
    IfSome t.source (λ _. SourceWasDamaged t.source (record { file = file; at = at }) × NotBegun t u report before after)
EndsBy (ReplicaDamaged file at) script left t u report before after =
    IfSome t.replica (λ _. ReplicaWasDamaged t.replica (record { file = file; at = at }) × NotBegun t u report before after)
EndsBy NoMemory script left t u report before after = NotBegun t u report before after ⊎ FromScript t script left (λ from cs. Ceased from t u cs report before after)
EndsBy BadWords script left t u report before after = ⊥
EndsBy (LogDamaged pos) script left t u report before after = ⊥
EndsBy (LogForeign pos kind) script left t u report before after = ⊥
EndsBy (Differs pos code table key) script left t u report before after = ⊥
