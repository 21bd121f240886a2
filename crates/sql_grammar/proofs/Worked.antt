-- Worked texts of the small language, read by computing.
use Rattle.std.proofs.Common.{◌≡◌, true, false, [], ◌∷◌, None, Ok, Err, refl}
use Rattle.sql_grammar.specs.Reader.{Syntax, Deep, steps}
use Rattle.sql_grammar.specs.Whole.{read_whole}
use Rattle.sql_grammar.specs.Sums.{number, plus, times, opening, closing, signed, exact, colon, leaf, add, multiply, factor, text, application}

-- 1 + 2 * 3 + 4, exact
pub groups : read_whole (text 0) (number 1 ∷ plus ∷ number 2 ∷ times ∷ number 3 ∷ plus ∷ number 4 ∷ exact ∷ [])
    ≡ Ok (add (add (leaf 1) (multiply (leaf 2) (leaf 3))) (leaf 4) ∷ [], ((false, true), None))
unfolding factor steps
groups = refl

-- (1, with one construct to be opened: the text ends too soon
pub ends_too_soon : read_whole (text 1) (opening ∷ number 1 ∷ []) ≡ Err (Syntax [])
unfolding factor steps
ends_too_soon = refl

-- ((1)), with one construct to be opened: the second parenthesis is one too many, though a fault comes later too
pub opens_too_many : read_whole (text 1) (opening ∷ opening ∷ number 1 ∷ plus ∷ closing ∷ []) ≡ Err (Deep (opening ∷ number 1 ∷ plus ∷ closing ∷ []))
unfolding factor steps
opens_too_many = refl

-- (1 +), with one construct to be opened
pub closes_too_soon : read_whole (text 1) (opening ∷ number 1 ∷ plus ∷ closing ∷ []) ≡ Err (Syntax (closing ∷ []))
unfolding factor steps
closes_too_soon = refl

-- a mark twice
pub marks_twice : read_whole (text 0) (number 1 ∷ signed ∷ exact ∷ signed ∷ []) ≡ Err (Syntax (signed ∷ []))
unfolding factor steps
marks_twice = refl

-- a scale of three digits
pub scales_too_far : read_whole (text 0) (number 1 ∷ colon ∷ number 100 ∷ []) ≡ Err (Syntax (number 100 ∷ []))
unfolding factor steps
scales_too_far = refl

-- 2(3) is an application, 2 + 3 a sum; with none to be opened 2( has one too many
pub applies : read_whole (application 1) (number 2 ∷ opening ∷ number 3 ∷ closing ∷ []) ≡ Ok (multiply (leaf 2) (leaf 3))
unfolding factor steps
applies = refl

pub applies_too_deep : read_whole (application 0) (number 2 ∷ opening ∷ []) ≡ Err (Deep (opening ∷ []))
unfolding factor steps
applies_too_deep = refl
