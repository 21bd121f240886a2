-- Marks that a source pushes, and the calls that entries take.
use Rattle.std.specs.Prelude.{◌≡◌, ℕ, ◌+◌, ◌==◌, if◌then◌else◌, List, [], ◌∷◌, ◌++◌, length}
use Rattle.answer_text.specs.declared.report.Mark.{Mark}
use Rattle.session_model.specs.log_entries.declared.entries.Item.{Item}
use Rattle.session_model.specs.log_entries.declared.entries.Entry.{Entry}
use Rattle.session_model.specs.log_entries.declared.entries.Entry.TheVariants.{Transaction, Definition, LogStart}
use Rattle.session_model.specs.log_model.Log.{LogPlace, behind, counted}
use Rattle.waiting_entries.specs.declared.waiting.Waiting.{Waiting}

-- how many marks a queue is given
abbrev pub wanted : List Waiting → ℕ
wanted [] = 0
wanted (w ∷ ws) = (if w.counts then 1 else 0) + wanted ws

-- how many logs it begins
abbrev pub begun : List Waiting → ℕ
begun [] = 0
begun (w ∷ ws) = (if w.counts then 0 else 1) + begun ws

-- each mark names the number behind the one before it, from so many on, and is else as the run stands
abbrev pub NameInTurn : Mark → (number : ℕ) → List Mark → Type 0
NameInTurn now number [] = Unit {0}
NameInTurn now number (m ∷ marks) = (m ≡ record now { committed = number + 1; src_calls = m.src_calls }) × NameInTurn now (number + 1) marks

-- marks were pushed behind the old ones, one for each transaction that was kept, of which there were so many before and after
pub record ArePushed (now : Mark) (before after : ℕ) (old new : List Mark) : Type 0 where
  pub more : List Mark
  pub marks : new ≡ old ++ more
  pub named : NameInTurn now before more
  pub number : after ≡ before + length more

-- how many calls of the disk an entry takes, behind the log with this number: its log, its record, its gate, a write and a sync each; and the
-- name of the next log, where a log stands before the one that begins
abbrev pub calls_for : Entry Item → (log : ℕ) → ℕ
calls_for (Transaction stamp server is) log = 6
calls_for (Definition stamp server i) log = 6
calls_for (LogStart stamp server) log = if log == 0 then 6 else 8

-- those of entries, one after the other
abbrev pub all_calls : List (Entry Item) → (number : ℕ) → LogPlace → ℕ
all_calls [] number p = 0
all_calls (e ∷ es) number p = calls_for e p.log + all_calls es (counted e number) (behind e number p)
