-- Each status but Done and want of memory has a cause that is not there.
use Rattle.std.proofs.Common.{◌≡◌, ℕ, List, Option, Some, None, Result, Ok, Err, IfSome, refl, sym, ap, ◌∙◌, subst}
use Rattle.fault_counts.specs.Causes.{Rose}
use Rattle.answer_text.specs.declared.report.Report.{Report}
use Rattle.answer_text.specs.declared.status.Status.{Status}
use Rattle.answer_text.specs.declared.status.Status.TheVariants.{Done, BadWords, BadScript, ReadFault, WriteFault, SourceDisk, ReplicaDisk, SourceDamaged, ReplicaDamaged, LogDamaged, LogForeign, Differs, NoMemory}
use Rattle.disk_model.specs.Story.{Story, seen}
use Rattle.store_model.specs.declared.record.Kind.{Kind}
use Rattle.store_model.specs.declared.record.Kind.TheVariants as kinds
use Rattle.store_model.specs.Held.{Held}
use Rattle.store_model.specs.Stores.{Spot, held_by}
use Rattle.dump_store.specs.Ends.{IsDoneOrShort, IsFaultless, IsHeld}
use Rattle.gen_script.specs.Ends.{GenEnds}
use Rattle.print_log.specs.Ends.{PrintEnds}
use Rattle.script_run.specs.run_stores.run_laws.run_model.log_file_model.Walk.{damaged, ended, foreign, grouped}
use Rattle.replay_log.specs.Ends.{ReplayEnds}
use Rattle.script_run.specs.Disks.{Disks}
use Rattle.script_run.specs.Ran.{EndsBy, NotBegun}
use Rattle.script_run.specs.run_stores.run_laws.run_model.Asked.{Asked, asked_of}
use Rattle.script_run.specs.run_stores.run_laws.run_model.Run.{Starts}
use Rattle.repl_run.specs.Headline.{BeginsBehind, FollowsReplay, ReplayFollows}
use Rattle.repl_run.specs.Whole.{IsAsked, IsWholeLog, IsWhollyOwed}

-- ---- causes that are not there

some_is : {A : Type 0} (P : A → Type 0) (o : Option A) (a : A) → o ≡ Some a → IfSome o P → P a
some_is P (Some b) a is p = let same : b ≡ a = cc in subst P same p
some_is P None a is p = cc

not_refused : (commands : List Asked) (at : ℕ) {r : Result (List Asked) ℕ} → r ≡ Ok commands → r ≡ Err at → ⊥
not_refused commands at p q = cc

not_damaged : (h : Held) (spot : Spot) {r : Result Held Spot} → r ≡ Ok h → r ≡ Err spot → ⊥
not_damaged h spot p q = cc

asked_well : (input : Option (List ℕ)) (at : ℕ) → IsAsked input → IfSome input (λ bytes. asked_of bytes ≡ Err at) → ⊥
asked_well input at asked bad = not_refused asked.commands at asked.asks (some_is (λ bytes. asked_of bytes ≡ Err at) input asked.script asked.tells bad)

held_well : (kind : Kind) (t : Option Story) (spot : Spot) → IsHeld kind t → IfSome t (λ _. held_by kind (seen t) ≡ Err spot) → ⊥
held_well kind t spot held damage = not_damaged held.held spot held.held_is (some_is (λ (s : Story). held_by kind (seen t) ≡ Err spot) t held.story held.tells damage)

-- a disk that holds something was not damaged, with whatever else is said of it
whole_disk : (kind : Kind) (t : Option Story) (spot : Spot) (B : Type 0) → IsHeld kind t → IfSome t (λ _. IfSome t (λ _. held_by kind (seen t) ≡ Err spot) × B) → ⊥
whole_disk kind t spot B held both =
    held_well kind t spot held (some_is (λ (s : Story). IfSome t (λ _. held_by kind (seen t) ≡ Err spot) × B) t held.story held.tells both).0

-- ---- run

module _ (input left : Option (List ℕ)) (t u : Disks) (report : Report) (before after : Option (List ℕ)) (read read' write write' src src' rep rep' : ℕ) where
  pub run_is_whole : (status : Status) → EndsBy status input left t u report before after
      → (status ≡ ReadFault → Rose read read') → (status ≡ WriteFault → Rose write write') → (status ≡ SourceDisk → Rose src src') → (status ≡ ReplicaDisk → Rose rep rep')
      → IsAsked input → IsHeld kinds.Source t.source → IsHeld kinds.Replica t.replica
      → IsFaultless read read' → IsFaultless write write' → IsFaultless src src' → IsFaultless rep rep' → IsDoneOrShort status
  run_is_whole Done ends read_rose write_rose src_rose rep_rose asked source replica no_read no_write no_src no_rep = tt
  run_is_whole NoMemory ends read_rose write_rose src_rose rep_rose asked source replica no_read no_write no_src no_rep = tt
  run_is_whole (BadScript at) ends read_rose write_rose src_rose rep_rose asked source replica no_read no_write no_src no_rep = asked_well input at asked ends.0
  run_is_whole ReadFault ends read_rose write_rose src_rose rep_rose asked source replica no_read no_write no_src no_rep = no_read (read_rose refl)
  run_is_whole WriteFault ends read_rose write_rose src_rose rep_rose asked source replica no_read no_write no_src no_rep = no_write (write_rose refl)
  run_is_whole SourceDisk ends read_rose write_rose src_rose rep_rose asked source replica no_read no_write no_src no_rep = no_src (src_rose refl)
  run_is_whole ReplicaDisk ends read_rose write_rose src_rose rep_rose asked source replica no_read no_write no_src no_rep = no_rep (rep_rose refl)
  run_is_whole (SourceDamaged file at) ends read_rose write_rose src_rose rep_rose asked source replica no_read no_write no_src no_rep =
      whole_disk kinds.Source t.source (record { file = file; at = at }) (NotBegun t u report before after) source ends
  run_is_whole (ReplicaDamaged file at) ends read_rose write_rose src_rose rep_rose asked source replica no_read no_write no_src no_rep =
      whole_disk kinds.Replica t.replica (record { file = file; at = at }) (NotBegun t u report before after) replica ends
  run_is_whole BadWords ends read_rose write_rose src_rose rep_rose asked source replica no_read no_write no_src no_rep = ends
  run_is_whole (LogDamaged pos) ends read_rose write_rose src_rose rep_rose asked source replica no_read no_write no_src no_rep = ends
  run_is_whole (LogForeign pos kind) ends read_rose write_rose src_rose rep_rose asked source replica no_read no_write no_src no_rep = ends
  run_is_whole (Differs pos code table key) ends read_rose write_rose src_rose rep_rose asked source replica no_read no_write no_src no_rep = ends

-- ---- replay

module _ (input left : Option (List ℕ)) (t u : Option Story) (report : Report) (before after : Option (List ℕ)) (read read' write write' rep rep' : ℕ) where
  pub replay_is_whole : (status : Status) → ReplayEnds status input left t u report before after → FollowsReplay status input t u report
      → (status ≡ ReadFault → Rose read read') → (status ≡ WriteFault → Rose write write') → (status ≡ ReplicaDisk → Rose rep rep')
      → IsWhollyOwed t input → IsFaultless read read' → IsFaultless write write' → IsFaultless rep rep' → IsDoneOrShort status
  replay_is_whole status ends follows read_rose write_rose rep_rose owed no_read no_write no_rep = by status ends read_rose write_rose rep_rose there
    where
      there : ReplayFollows status owed.from owed.bytes t u report
      there =
          some_is (λ (s : Story). (from : Starts) (bytes : List ℕ) → BeginsBehind t input from bytes → ReplayFollows status from bytes t u report) t owed.story owed.told follows
          owed.from owed.bytes owed.behind

      by : (status : Status) → ReplayEnds status input left t u report before after → (status ≡ ReadFault → Rose read read') → (status ≡ WriteFault → Rose write write') → (status ≡ ReplicaDisk → Rose rep rep')
          → ReplayFollows status owed.from owed.bytes t u report → IsDoneOrShort status
      by Done ends read_rose write_rose rep_rose f = tt
      by NoMemory ends read_rose write_rose rep_rose f = tt
      by (LogDamaged pos) ends read_rose write_rose rep_rose f = (f.stops owed.follow).cut owed.whole
      by (LogForeign pos kind) ends read_rose write_rose rep_rose f = f.stops owed.follow
      by (Differs pos code table key) ends read_rose write_rose rep_rose f = f.stops owed.follow
      by ReadFault ends read_rose write_rose rep_rose f = no_read (read_rose refl)
      by WriteFault ends read_rose write_rose rep_rose f = no_write (write_rose refl)
      by ReplicaDisk ends read_rose write_rose rep_rose f = no_rep (rep_rose refl)
      by (ReplicaDamaged file at) ends read_rose write_rose rep_rose f = f.stops owed.follow
      by BadWords ends read_rose write_rose rep_rose f = ends
      by (BadScript at) ends read_rose write_rose rep_rose f = ends
      by SourceDisk ends read_rose write_rose rep_rose f = ends
      by (SourceDamaged file at) ends read_rose write_rose rep_rose f = ends

-- ---- print

module _ (input left before after : Option (List ℕ)) (read read' write write' : ℕ) where
  pub print_is_whole : (status : Status) → PrintEnds status input left before after → (status ≡ ReadFault → Rose read read') → (status ≡ WriteFault → Rose write write')
      → IsWholeLog input → IsFaultless read read' → IsFaultless write write' → IsDoneOrShort status
  print_is_whole Done ends read_rose write_rose log no_read no_write = tt
  print_is_whole NoMemory ends read_rose write_rose log no_read no_write = tt
  print_is_whole (LogDamaged pos) ends read_rose write_rose log no_read no_write =
      never pos (sym log.ends ∙ ap (λ (bs : List ℕ). (grouped bs).ending) (some_is (λ (bs : List ℕ). bs ≡ ends.bytes) input log.bytes log.tells ends.input_is) ∙ ends.ends)
    where
      never : (pos : ℕ) → ended ≡ damaged pos → ⊥
      never pos is = cc
  print_is_whole (LogForeign pos kind) ends read_rose write_rose log no_read no_write =
      never pos kind (sym log.ends ∙ ap (λ (bs : List ℕ). (grouped bs).ending) (some_is (λ (bs : List ℕ). bs ≡ ends.bytes) input log.bytes log.tells ends.input_is) ∙ ends.ends)
    where
      never : (pos kind : ℕ) → ended ≡ foreign pos kind → ⊥
      never pos kind is = cc
  print_is_whole ReadFault ends read_rose write_rose log no_read no_write = no_read (read_rose refl)
  print_is_whole WriteFault ends read_rose write_rose log no_read no_write = no_write (write_rose refl)
  print_is_whole BadWords ends read_rose write_rose log no_read no_write = ends
  print_is_whole (BadScript at) ends read_rose write_rose log no_read no_write = ends
  print_is_whole SourceDisk ends read_rose write_rose log no_read no_write = ends
  print_is_whole ReplicaDisk ends read_rose write_rose log no_read no_write = ends
  print_is_whole (SourceDamaged file at) ends read_rose write_rose log no_read no_write = ends
  print_is_whole (ReplicaDamaged file at) ends read_rose write_rose log no_read no_write = ends
  print_is_whole (Differs pos code table key) ends read_rose write_rose log no_read no_write = ends

-- ---- gen

pub made_is_whole : (status : Status) (n : ℕ) (before after : Option (List ℕ)) (write write' : ℕ) → GenEnds status n before after → (status ≡ WriteFault → Rose write write') → IsFaultless write write' → IsDoneOrShort status
made_is_whole Done n before after write write' ends rose none = tt
made_is_whole NoMemory n before after write write' ends rose none = tt
made_is_whole WriteFault n before after write write' ends rose none = none (rose refl)
made_is_whole ReadFault n before after write write' ends rose none = ends
made_is_whole BadWords n before after write write' ends rose none = ends
made_is_whole (BadScript at) n before after write write' ends rose none = ends
made_is_whole SourceDisk n before after write write' ends rose none = ends
made_is_whole ReplicaDisk n before after write write' ends rose none = ends
made_is_whole (SourceDamaged file at) n before after write write' ends rose none = ends
made_is_whole (ReplicaDamaged file at) n before after write write' ends rose none = ends
made_is_whole (LogDamaged pos) n before after write write' ends rose none = ends
made_is_whole (LogForeign pos kind) n before after write write' ends rose none = ends
made_is_whole (Differs pos code table key) n before after write write' ends rose none = ends
