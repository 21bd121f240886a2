-- What the marks of a run name: how many transactions a side has kept, at each moment of its disk.
use Rattle.std.specs.Prelude.{◌≡◌, ◌⊎◌, ◌≤◌, ℕ, ◌+◌, max, nat_le, if◌then◌else◌, List, [], ◌∷◌}
use Rattle.answer_text.specs.declared.report.Mark.{Mark}

-- A mark as one side reads it: the number that it names, and how many calls a disk had had when it was pushed.
pub record Named : Type 0 where
  pub number : ℕ
  pub calls : ℕ

-- as the source reads it: what it had committed, by the calls of its disk
abbrev pub source_mark : Mark → Named
source_mark m = record { number = m.committed; calls = m.src_calls }

-- as the replica reads it: what it had carried out, by the calls of its disk
abbrev pub replica_mark : Mark → Named
replica_mark m = record { number = m.applied; calls = m.rep_calls }

-- what the source had committed, by the calls of the replica's disk: what a replica may have carried out
abbrev pub served_mark : Mark → Named
served_mark m = record { number = m.committed; calls = m.rep_calls }

-- the greatest number that is named by marks of up to n calls, or the one at the start
abbrev pub named : (start : ℕ) → List Named → (n : ℕ) → ℕ
named start [] n = start
named start (m ∷ marks) n = max (if nat_le m.calls n then m.number else 0) (named start marks n)

-- each mark was pushed behind at least so many calls, and names at most this number
abbrev pub Between : (calls number : ℕ) → List Named → Type 0
Between calls number [] = Unit {0}
Between calls number (m ∷ marks) = (calls ≤ m.calls) × ((m.number ≤ number) × Between calls number marks)

-- each mark was pushed behind just so many calls, and names just this number: that of a disk that is not called meanwhile
abbrev pub NameNow : (calls number : ℕ) → List Named → Type 0
NameNow calls number [] = Unit {0}
NameNow calls number (m ∷ marks) = (m.calls ≡ calls) × ((m.number ≡ number) × NameNow calls number marks)

-- each mark names the number of the one before it or the next number: those that raise it name each number once and in order
abbrev pub RiseByOne : (start : ℕ) → List Named → Type 0
RiseByOne start [] = Unit {0}
RiseByOne start (m ∷ marks) = ((m.number ≡ start) ⊎ (m.number ≡ start + 1)) × RiseByOne m.number marks

-- the number that the last mark names, or the one at the start
abbrev pub last_named : (start : ℕ) → List Named → ℕ
last_named start [] = start
last_named start (m ∷ marks) = last_named m.number marks

-- each mark was pushed behind at most so many calls
abbrev pub AreBehind : (n : ℕ) → List Named → Type 0
AreBehind n [] = Unit {0}
AreBehind n (m ∷ marks) = (m.calls ≤ n) × AreBehind n marks
