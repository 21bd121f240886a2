-- Readers from the left: functions from the tokens that are left to a value and what is then left.
use Rattle.std.specs.Prelude.{ℕ, zero, suc, ◌-◌, Bool, List, [], ◌∷◌, length, take, Option, Some, None, Result, Ok, Err, if◌then◌else◌}

-- why reading stops, with the tokens from there on: no text goes on so, or one construct too many would be open
pub data Fault (T : Type 0) : Type 0 where
  Syntax : List T → Fault T
  Deep : List T → Fault T

-- the tokens from the fault on
abbrev pub left_of : {T : Type 0} → Fault T → List T
left_of (Syntax ts) = ts
left_of (Deep ts) = ts

-- a value with the tokens behind it, or a fault
abbrev pub Read : Type 0 → Type 0 → Type 0
Read T A = Result (A × List T) (Fault T)

-- from the tokens that are left
abbrev pub Reader : Type 0 → Type 0 → Type 0
Reader T A = List T → Read T A

-- go on behind a value
abbrev pub bind : {T A B : Type 0} → Read T A → (A × List T → Read T B) → Read T B
bind (Ok x) f = f x
bind (Err e) f = Err e

-- a value for the first token, or a fault at it
abbrev pub take_by : {T A : Type 0} → List T → List T → Option A → Read T A
take_by here' ts (Some a) = Ok (a, ts)
take_by here' ts None = Err (Syntax here')

-- one token that the function takes
abbrev pub read_one : {T A : Type 0} → (T → Option A) → Reader T A
read_one f [] = Err (Syntax [])
read_one f (t ∷ ts) = take_by (t ∷ ts) ts (f t)

-- one token too many, if the function takes it
abbrev pub refuse_by : {T A B : Type 0} → List T → Option A → Read T B
refuse_by here' (Some a) = Err (Deep here')
refuse_by here' None = Err (Syntax here')

-- the token opens a construct, and none may be opened
abbrev pub refuse_one : {T A B : Type 0} → (T → Option A) → Reader T B
refuse_one f [] = Err (Syntax [])
refuse_one f (t ∷ ts) = refuse_by (t ∷ ts) (f t)

-- one reader behind another
abbrev pub read_both : {T A B C : Type 0} → (A → B → C) → Reader T A → Reader T B → Reader T C
read_both f p q ts = bind (p ts) (λ x. bind (q x.1) (λ y. Ok (f x.0 y.0, y.1)))

-- the first reader where the test of what comes next holds, else the second
abbrev pub read_either : {T A : Type 0} → (List T → Bool) → Reader T A → Reader T A → Reader T A
read_either test p q ts = if test ts then p ts else q ts

-- Steps behind a value, as long as the test holds of what comes next. The number bounds the steps.
unfoldable pub steps : {T A B : Type 0} → (A → B → A) → (List T → Bool) → (A → Reader T B) → ℕ → A → Reader T A
steps f test s zero a ts = Ok (a, ts)
steps f test s (suc n) a ts = if test ts then bind (s a ts) (λ y. steps f test s n (f a y.0) y.1) else Ok (a, ts)

-- a first value, and steps behind it
abbrev pub read_chain : {T A B : Type 0} → (A → B → A) → (List T → Bool) → Reader T A → (A → Reader T B) → Reader T A
read_chain f test p s ts = bind (p ts) (λ x. steps f test s (length x.1) x.0 x.1)

-- the value with a function applied
abbrev pub read_mapped : {T A B : Type 0} → (A → B) → Reader T A → Reader T B
read_mapped f p ts = bind (p ts) (λ x. Ok (f x.0, x.1))

-- the tokens in front of what is left
abbrev pub front_of : {T : Type 0} → List T → List T → List T
front_of ts rest = take (length ts - length rest) ts

-- the value made of the value read and the tokens that it was read from
abbrev pub read_with_tokens : {T A B : Type 0} → (A → List T → B) → Reader T A → Reader T B
read_with_tokens f p ts = bind (p ts) (λ x. Ok (f x.0 (front_of ts x.1), x.1))
