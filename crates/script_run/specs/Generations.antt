-- The generations that are active on both disks, and the checkpoints that raise them.
use Rattle.std.specs.Prelude.{◌≡◌, ◌≤◌, ◌<◌, ℕ, zero, suc, ◌+◌, ◌-◌, ◌^◌, min, Bool, List, [], ◌∷◌, length, take, Option, IfSome, Ok}
use Rattle.port_traits.specs.declared.identity.Draw.{Draw}
use Rattle.answer_text.specs.declared.report.Mark.{Mark}
use Rattle.disk_model.specs.Story.{Image, Story, count, seen}
use Rattle.disk_model.specs.Moments.{AfterCall, Each}
use Rattle.store_model.specs.declared.record.Kind.{Kind}
use Rattle.store_model.specs.declared.record.Kind.TheVariants.{Source, Replica}
use Rattle.store_model.specs.Held.{Held}
use Rattle.store_model.specs.Stores.{begun_from}
use Rattle.run_stores.specs.durable_runs.Marks.{Named, replica_mark, source_mark}
use Rattle.run_stores.specs.durable_runs.Runs.{CallsFit}
use Rattle.run_laws.specs.run_model.Asked.{Asked}
use Rattle.run_laws.specs.run_model.Run.{checkpoints_source, checkpoints_replica, count_of, one_if}
use Rattle.script_run.specs.Disks.{Disks}

-- a generation is active in an image of a store: its journal is the one that goes on
abbrev pub IsActive : Kind → (generation : ℕ) → Image → Type 0
IsActive kind generation image = (begun : Held) × (begun_from kind image ≡ Ok (generation, begun))

-- so many checkpoints behind a generation; the last one stays
abbrev pub generation_behind : (generation checkpoints : ℕ) → ℕ
generation_behind generation zero = generation
generation_behind generation (suc checkpoints) = min (generation_behind generation checkpoints + 1) (2 ^ 64 - 1)

-- ---- one command

-- a disk is at a generation: that is active in what is read of it, and in each image that a crash may leave now
pub record IsAt (kind : Kind) (t : Option Story) (generation : ℕ) : Type 0 where
  pub read : IfSome t (λ _. IsActive kind generation (seen t))
  pub each : Each t (IsActive kind generation)

pub record AreAt (t : Disks) (src rep : ℕ) : Type 0 where
  pub source : IsAt Source t.source src
  pub replica : IsAt Replica t.replica rep

-- a checkpoint raises the generation of its node's disk, and no other command any
abbrev pub Raises : Asked → (t u : Disks) → Type 0
Raises c t u =
    (source replica : ℕ) → AreAt t source replica
    → AreAt u (generation_behind source (one_if (checkpoints_source c))) (generation_behind replica (one_if (checkpoints_replica c)))

-- ---- commands

-- when a disk had had so many calls, each image that a crash left had this generation
pub record WasAt (kind : Kind) (t u : Option Story) (moment generation : ℕ) : Type 0 where
  pub begun : count t ≤ moment
  pub came : moment ≤ count u
  pub images : (image : Image) → AfterCall u moment image → IsActive kind generation image

-- Each mark of the first of some commands, counted from 1, says no more calls than the disk had had behind its command.
abbrev pub AreInTime : (read : Mark → Named) (commands : ℕ) (moments : ℕ → ℕ) → List Mark → Type 0
AreInTime read commands moments [] = Unit {0}
AreInTime read commands moments (m ∷ marks) = (m.command ≤ commands → (read m).calls ≤ moments m.command) × AreInTime read commands moments marks

-- Behind each of some commands that were carried out, at moments in their order, a disk was at the generation that was active as it was opened,
-- raised by the checkpoints of its node among them; and no mark of such a command says more calls than it had had by then.
pub record Raised (kind : Kind) (is_checkpoint : Asked → Bool) (read : Mark → Named) (t u : Option Story) (cs : List Asked) (ds : List Draw) (marks : List Mark) : Type 0 where
  pub first : ℕ
  pub began : IfSome t (λ _. IsActive kind first (seen t))
  pub moments : ℕ → ℕ
  pub order : (i : ℕ) → i < length ds → moments i ≤ moments (i + 1)
  pub behind : (i : ℕ) → i ≤ length ds → WasAt kind t u (moments i) (generation_behind first (count_of is_checkpoint cs (take i ds)))
  pub in_time : CallsFit u → IfSome u (λ _. AreInTime read (length ds) moments marks)

-- the same of both disks
pub record BothRaised (t u : Disks) (cs : List Asked) (ds : List Draw) (marks : List Mark) : Type 0 where
  pub source : Raised Source checkpoints_source source_mark t.source u.source cs ds marks
  pub replica : Raised Replica checkpoints_replica replica_mark t.replica u.replica cs ds marks

-- both disks are now at the generations behind such commands
abbrev pub AreRaised : (t u : Disks) (cs : List Asked) (ds : List Draw) (marks : List Mark) → BothRaised t u cs ds marks → Type 0
AreRaised t u cs ds marks raised =
    AreAt u (generation_behind raised.source.first (count_of checkpoints_source cs ds)) (generation_behind raised.replica.first (count_of checkpoints_replica cs ds))
