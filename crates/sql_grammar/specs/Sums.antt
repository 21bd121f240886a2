-- A small language to show how a grammar is written: lists of sums, with a mark and a scale behind them.
use Rattle.std.specs.Prelude.{ℕ, zero, suc, pred, Bool, true, false, not, nat_lt, if◌then◌else◌, List, [], ◌∷◌, Option, Some, None}
use Rattle.sql_grammar.specs.Rule.{Rule, token, any_of, word, both, either, either_by_two, pure, refused, only_if, mapped, opened, chain_by, chain, optional, behind, before, listed}

-- its tokens
pub data Token : Type 0 where
  number : ℕ → Token
  plus : Token
  times : Token
  minus : Token
  opening : Token
  closing : Token
  comma : Token
  signed : Token
  exact : Token
  colon : Token

-- a sum as it is grouped
pub data Tree : Type 0 where
  leaf : ℕ → Tree
  negated : Tree → Tree
  add : Tree → Tree → Tree
  multiply : Tree → Tree → Tree

-- the kind of a token
abbrev pub kind : Token → ℕ
kind (number n) = 0
kind plus = 1
kind times = 2
kind minus = 3
kind opening = 4
kind closing = 5
kind comma = 6
kind signed = 7
kind exact = 8
kind colon = 9

-- a token of the same kind
abbrev pub sign : Token → Rule Token (Unit {0})
sign t = word kind (kind t)

-- the number that a token says, 0 for others
abbrev pub value_of : Token → ℕ
value_of (number n) = n
value_of t = 0

-- a number as a factor
abbrev pub a_number : Rule Token Tree
a_number = token kind (kind (number 0) ∷ []) (λ t. Some (leaf (value_of t)))

-- the number of a scale, which is below 100
abbrev pub scale_of : Token → Option ℕ
scale_of t = if nat_lt (value_of t) 100 then Some (value_of t) else None

-- factors with `*` between
abbrev pub product : Rule Token Tree → Rule Token Tree
product factor = chain kind multiply (kind times ∷ []) factor (behind (sign times) factor)

-- products with `+` between
abbrev pub sum : Rule Token Tree → Rule Token Tree
sum factor = chain kind add (kind plus ∷ []) (product factor) (behind (sign plus) (product factor))

-- a sum and the parenthesis that closes it
abbrev pub inside : Rule Token Tree → Rule Token Tree
inside factor = before (sum factor) (sign closing)

-- A factor, by the number of constructs that may still be opened and the rule for factors in one:
-- a sum in parentheses, a factor behind a minus, or a number.
abbrev pub factor_by : ℕ → Rule Token Tree → Rule Token Tree
factor_by n inner =
    either kind (kind opening ∷ []) (opened n (any_of kind (kind opening)) (λ u a. a) (inside inner)) (
    either kind (kind minus ∷ []) (opened n (any_of kind (kind minus)) (λ u a. negated a) inner) (
    a_number))

-- a factor, with this many constructs still to be opened
unfoldable pub factor : ℕ → Rule Token Tree
factor zero = factor_by zero refused
factor (suc d) = factor_by (suc d) (factor d)

-- whether it is signed, and whether it is exact
abbrev pub Marks : Type 0
Marks = Bool × Bool

-- one mark more
abbrev pub marked : Marks → Bool → Marks
marked m true = (true, m.1)
marked m false = (m.0, true)

-- a mark that was not yet given
abbrev pub mark : Marks → Rule Token Bool
mark m = either kind (kind signed ∷ []) (only_if (not m.0) (mapped (λ u. true) (sign signed))) (only_if (not m.1) (mapped (λ u. false) (sign exact)))

-- marks in any order, each of them once
abbrev pub marks : Rule Token Marks
marks = chain_by kind marked (kind signed ∷ kind exact ∷ []) (pure (false, false)) mark

-- a colon and a number, or nothing
abbrev pub scale : Rule Token (Option ℕ)
scale = optional kind (kind colon ∷ []) None (mapped Some (behind (sign colon) (token kind (kind (number 0) ∷ []) scale_of)))

-- sums with commas between, with marks and a scale
abbrev pub text_by : Rule Token Tree → Rule Token (List Tree × (Marks × Option ℕ))
text_by f = both (λ sums rest. (sums, rest)) (listed kind (kind comma ∷ []) (sign comma) (sum f)) (both (λ m s. (m, s)) marks scale)

-- a text, with this many constructs to be opened
abbrev pub text : ℕ → Rule Token (List Tree × (Marks × Option ℕ))
text d = text_by (factor d)

-- a number and a sum in parentheses directly behind it
abbrev pub applied : ℕ → Rule Token Tree → Rule Token Tree
applied n inner = both multiply a_number (opened n (any_of kind (kind opening)) (λ u a. a) (inside inner))

-- such an application or a sum: where a number comes next, the token behind it decides
abbrev pub application : ℕ → Rule Token Tree
application n = either_by_two kind (kind (number 0) ∷ []) (kind opening ∷ []) (applied n (factor (pred n))) (sum (factor n))
