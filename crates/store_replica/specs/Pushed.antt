-- Marks that a replica pushes.
use Rattle.std.specs.Prelude.{◌≡◌, ℕ, List, [], ◌∷◌, ◌++◌, map}
use Rattle.answer_text.specs.declared.report.Mark.{Mark}
use Rattle.store_model.specs.Held.{next_applied}
use Rattle.durable_runs.specs.Marks.{last_named, replica_mark}

-- each mark names the number behind the one before it, from so many on, and is else as the run stands
abbrev pub NameInTurn : Mark → (number : ℕ) → List Mark → Type 0
NameInTurn now number [] = Unit {0}
NameInTurn now number (m ∷ marks) = (m ≡ record now { applied = next_applied number; rep_calls = m.rep_calls }) × NameInTurn now (next_applied number) marks

-- marks were pushed behind the old ones, one for each transaction that was kept, and the last of them names how many there are now
pub record ArePushed (now : Mark) (before after : ℕ) (old new : List Mark) : Type 0 where
  pub more : List Mark
  pub marks : new ≡ old ++ more
  pub named : NameInTurn now before more
  pub number : last_named before (map replica_mark more) ≡ after
