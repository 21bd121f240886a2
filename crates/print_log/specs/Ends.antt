-- How the printing of a log ends.
use Rattle.std.specs.Prelude.{◌≡◌, ℕ, List, [], Option, IfSome}
use Rattle.answer_text.specs.declared.status.Status.{Status}
use Rattle.answer_text.specs.declared.status.Status.TheVariants.{Done, ReadFault, WriteFault, LogDamaged, LogForeign, NoMemory}
use Rattle.log_reader.specs.run_streams.Wrote.{Wrote, WroteFront}
use Rattle.log_reader.specs.log_file_model.Walk.{Ending, ended, damaged, foreign, grouped}
use Rattle.log_reader.specs.log_file_model.Printed.{log_lines}

-- the log on the input ends so, and the lines of all its groups were written
pub record Printed (ending : Ending) (input before after : Option (List ℕ)) : Type 0 where
  pub bytes : List ℕ
  pub input_is : IfSome input (λ all. all ≡ bytes)
  pub ends : (grouped bytes).ending ≡ ending
  pub wrote : Wrote before after (log_lines bytes)

-- a front of these lines was written
pub record PrintedFront (input before after : Option (List ℕ)) : Type 0 where
  pub bytes : List ℕ
  pub input_is : IfSome input (λ all. all ≡ bytes)
  pub front : WroteFront before after (log_lines bytes)

-- How it ends, by its status, with what the input had before and has left, and the output before and after. A status without a case
-- here cannot come.
abbrev pub PrintEnds : Status → Option (List ℕ) → Option (List ℕ) → Option (List ℕ) → Option (List ℕ) → Type 0
PrintEnds Done input left before after = Printed ended input before after × IfSome left (λ rest. rest ≡ [])
PrintEnds (LogDamaged pos) input left before after = Printed (damaged pos) input before after
PrintEnds (LogForeign pos kind) input left before after = Printed (foreign pos kind) input before after
PrintEnds ReadFault input left before after = PrintedFront input before after
PrintEnds WriteFault input left before after = PrintedFront input before after
PrintEnds NoMemory input left before after = PrintedFront input before after
PrintEnds _ input left before after = ⊥
