-- The lines that show an answer.
use Rattle.std.specs.Prelude.{ℕ, Bool, true, false, List, [], ◌∷◌, ◌++◌, flat_map, length, codes, Option, Some, None}
use Rattle.std.specs.Fmt.{decimal}
use Rattle.val_types.specs.declared.value.Value.{Value}
use Rattle.val_types.specs.Text.{row_text_of}
use Rattle.answer_text.specs.declared.answer.Answer.{Answer}
use Rattle.answer_text.specs.declared.answer.End.{End}
use Rattle.answer_text.specs.declared.answer.End.TheVariants.{Ok, Rows, Refused}

-- a line of the command with this number, from its words on
abbrev pub line : ℕ → List ℕ → List ℕ
line number words = decimal number ++ codes " " ++ words ++ 0x0a ∷ []

-- a warning that a statement is unsafe
abbrev pub warning_text : Bool → List ℕ
warning_text false = []
warning_text true = codes " warning 1592"

-- a number behind some words, where there is one
abbrev pub number_if : List ℕ → Option ℕ → List ℕ
number_if words None = []
number_if words (Some n) = words ++ decimal n

-- ---- sets of rows

abbrev pub row_line : ℕ → List Value → List ℕ
row_line number row = line number (codes "row " ++ row_text_of row)

-- how many rows there were
abbrev pub count_line : ℕ → ℕ → Bool → List ℕ
count_line number count warned = line number (codes "rows " ++ decimal count ++ warning_text warned)

abbrev pub set_lines : ℕ → Bool → List (List Value) → List ℕ
set_lines number warned rows = flat_map (row_line number) rows ++ count_line number (length rows) warned

-- sets of rows; a warning stands behind the last
abbrev pub sets_lines : ℕ → Bool → List (List (List Value)) → List ℕ
sets_lines number warned [] = []
sets_lines number warned (rows ∷ []) = set_lines number warned rows
sets_lines number warned (rows ∷ more ∷ rest) = set_lines number false rows ++ sets_lines number warned (more ∷ rest)

-- ---- the end

abbrev pub warns_rows : End → Bool
warns_rows (Ok affected warned) = false
warns_rows (Rows warned) = warned
warns_rows (Refused code at holder) = false

abbrev pub end_line : ℕ → End → List ℕ
end_line number (Ok affected warned) = line number (codes "ok " ++ decimal affected ++ warning_text warned)
end_line number (Rows warned) = []
end_line number (Refused code at holder) = line number (codes "error " ++ decimal code ++ number_if (codes " at ") at ++ number_if (codes " by s") holder)

-- the lines of the answer to the command with this number, counted from 1
abbrev pub shown : ℕ → Answer → List ℕ
shown number answer = sets_lines number (warns_rows answer.end) answer.sets ++ end_line number answer.end
