-- The marks of a run, and how many calls its disks had had.
use Rattle.std.specs.Prelude.{◌≡◌, ◌≤◌, ℕ, zero, suc, ◌+◌, ◌-◌, ◌^◌, min, List, [], ◌∷◌, ◌++◌, length, map, Option, IfSome}
use Rattle.port_traits.specs.declared.identity.Draw.{Draw}
use Rattle.answer_text.specs.declared.report.Mark.{Mark}
use Rattle.disk_model.specs.Story.{Story, count}
use Rattle.run_stores.specs.durable_runs.Marks.{Named, RiseByOne, last_named, replica_mark, source_mark}
use Rattle.run_stores.specs.durable_runs.Runs.{CallsFit}
use Rattle.store_model.specs.Held.{next_applied}
use Rattle.run_laws.specs.run_model.Asked.{Asked}
use Rattle.run_laws.specs.run_model.Run.{Names, Both, carried_in, next, mark_at}

-- ---- numbers, which the machine has

-- a mark but for the calls of both disks
abbrev pub uncounted : Mark → Mark
uncounted m = record m { src_calls = 0; rep_calls = 0 }

-- How many transactions a source has committed and a replica carried out, as marks say it: within 64 bits what a replica counts stays at the
-- greatest.
pub record Numbers : Type 0 where
  pub committed : ℕ
  pub applied : ℕ

abbrev pub committed_of : Both → ℕ
committed_of b = b.machine.state.shared.committed

abbrev pub numbers_of : Both → Numbers
numbers_of b = record { committed = committed_of b; applied = b.replica.number }

-- behind so many commits and so many groups more
abbrev pub numbers_behind : Numbers → (commits groups : ℕ) → Numbers
numbers_behind n commits groups = record { committed = n.committed + commits; applied = min (n.applied + groups) (2 ^ 64 - 1) }

-- the mark of one transaction more, committed or carried out
abbrev pub next_mark : Mark → Mark
next_mark m = record m { committed = m.committed + 1 }

abbrev pub next_applied_mark : Mark → Mark
next_applied_mark m = record m { applied = next_applied m.applied }

-- The marks of so many transactions that a command committed: each has the number behind the one before it, and is else as the run stood
-- when the command began.
abbrev pub marks_up : Mark → (count : ℕ) → List Mark
marks_up at zero = []
marks_up at (suc count) = next_mark at ∷ marks_up (next_mark at) count

-- those of so many groups that it carried out
abbrev pub applied_up : Mark → (count : ℕ) → List Mark
applied_up at zero = []
applied_up at (suc count) = next_applied_mark at ∷ applied_up (next_applied_mark at) count

-- those of a command: of its commits, and behind them of its groups
abbrev pub command_marks : Mark → (commits groups : ℕ) → List Mark
command_marks at commits groups = marks_up at commits ++ applied_up (record at { committed = at.committed + commits }) groups

-- those of commands, one after the other: one mark for each transaction that was committed, and one for each group that was carried out
abbrev pub marks_of : Names → Both → ℕ → List Asked → List Draw → List Mark
marks_of names b k [] ds = []
marks_of names b k (c ∷ cs) [] = []
marks_of names b k (c ∷ cs) (d ∷ ds) =
    command_marks (mark_at k b) (committed_of (next names b c d).both - committed_of b) (carried_in (next names b c d).both.steps - carried_in b.steps)
    ++ marks_of names (next names b c d).both (k + 1) cs ds

-- Marks that raise one number: each names it or the next one, and the last one names the number now.
pub record Rise (read : Mark → Named) (first now : ℕ) (marks : List Mark) : Type 0 where
  pub by_one : RiseByOne first (map read marks)
  pub last : last_named first (map read marks) ≡ now

-- The marks of a run that had such numbers as it began and has these now: but for the calls of the disks they are these; those that raise a
-- number name each once and in order, and the last one names the numbers now.
pub record AreMarks (first now : Numbers) (these marks : List Mark) : Type 0 where
  pub are : map uncounted marks ≡ these
  pub committed : Rise source_mark first.committed now.committed marks
  pub applied : Rise replica_mark first.applied now.applied marks

-- a command pushed marks behind the old ones, one for each of so many transactions
pub record Pushed (at : Mark) (commits groups : ℕ) (old new : List Mark) : Type 0 where
  pub more : List Mark
  pub marks : new ≡ old ++ more
  pub are : map uncounted more ≡ command_marks at commits groups

-- ---- calls, which the disks have

-- so many calls the disk has had, as a mark says it
abbrev pub CalledNow : Option Story → ℕ → Type 0
CalledNow t calls = IfSome t (λ s. calls ≡ min (length s.calls) (2 ^ 64 - 1))

-- so many it had had as the last of some commands began, no fewer than as the run did, and no more than now; 0 where there was no command
abbrev pub CalledWithin : (t u : Option Story) → ℕ → Type 0
CalledWithin t u calls = CallsFit u → IfSome t (λ _. (count t ≤ calls) × (calls ≤ count u))

abbrev pub Called : (t u : Option Story) → List Draw → ℕ → Type 0
Called t u [] calls = calls ≡ 0
Called t u (d ∷ ds) calls = CalledWithin t u calls
