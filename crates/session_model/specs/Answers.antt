-- What commands are answered.
use Rattle.std.specs.Prelude.{ℕ, Bool, false, List, [], ◌∷◌, Some, None, min}
use Rattle.val_types.specs.declared.value.Value.{Value}
use Rattle.answer_text.specs.declared.answer.Answer.{Answer}
use Rattle.answer_text.specs.declared.answer.End.{End}
use Rattle.answer_text.specs.declared.answer.End.TheVariants as ends
use Rattle.std.specs.Prelude.{ℤ, pos, neg_ℤ, ◌^◌, ◌-◌}
use Rattle.proc_model.specs.Talk.{Refusal}

-- rows affected, and whether it is warned that something is unsafe to log by its text
abbrev pub ok_warned : (warned : Bool) → ℕ → Answer
ok_warned warned affected = record { sets = []; end = ends.Ok affected warned }

-- rows affected, 0 for what affects none
abbrev pub ok : ℕ → Answer
ok affected = ok_warned false affected

-- the rows of a SELECT
abbrev pub showing : (warned : Bool) → List (List Value) → Answer
showing warned rows = record { sets = rows ∷ []; end = ends.Rows warned }

-- an answer whose last line shows a warning, where there is one and it is no error
abbrev pub end_warned : (warned : Bool) → End → End
end_warned warned (ends.Ok affected shown) = ends.Ok affected warned
end_warned warned (ends.Rows shown) = ends.Rows warned
end_warned warned (ends.Refused code at holder) = ends.Refused code at holder

abbrev pub with_warning : (warned : Bool) → Answer → Answer
with_warning warned answer = record answer { end = end_warned warned answer.end }

-- an error
abbrev pub refused : ℕ → Answer
refused code = record { sets = []; end = ends.Refused code None None }

-- 1064 at a byte of the text
abbrev pub refused_at : ℕ → Answer
refused_at place = record { sets = []; end = ends.Refused 1064 (Some place) None }

-- 1205: another session has the writer's lock
abbrev pub refused_by : ℕ → Answer
refused_by holder = record { sets = []; end = ends.Refused 1205 None (Some holder) }

-- why a statement is refused, as an answer
abbrev pub refused_as : Refusal → Answer
refused_as refusal = record { sets = []; end = ends.Refused refusal.code None refusal.holder }

-- ROW_COUNT() behind a command: the affected rows, the greatest number at the most; -1 behind rows shown and errors
abbrev pub row_count_after : End → ℤ
row_count_after (ends.Ok affected warned) = pos (min affected (2 ^ 63 - 1))
row_count_after (ends.Rows warned) = neg_ℤ (pos 1)
row_count_after (ends.Refused code at holder) = neg_ℤ (pos 1)
