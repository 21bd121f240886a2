-- How the writing of the made script ends.
use Rattle.std.specs.Prelude.{ℕ, List, Option}
use Rattle.answer_text.specs.declared.status.Status.{Status}
use Rattle.answer_text.specs.declared.status.Status.TheVariants.{Done, WriteFault, NoMemory}
use Rattle.run_streams.specs.Wrote.{Wrote, WroteFront}
use Rattle.load_script.specs.Script.{load_text}

-- How it ends, by its status, with the number of changes, and the output before and after: all was written, or a front. A status
-- without a case here cannot come.
abbrev pub GenEnds : Status → ℕ → Option (List ℕ) → Option (List ℕ) → Type 0
GenEnds Done n before after = Wrote before after (load_text n)
GenEnds WriteFault n before after = WroteFront before after (load_text n)
GenEnds NoMemory n before after = WroteFront before after (load_text n)
GenEnds _ n before after = ⊥
