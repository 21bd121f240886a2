-- What is known of a whole log behind bytes of it that were read, group by group.
use Rattle.std.specs.Prelude.{◌≡◌, ◌≤◌, ◌<◌, ℕ, ◌+◌, Bool, true, false, List, [], ◌∷◌, ◌++◌, length, take}
use Rattle.log_group_laws.specs.log_model.Events.{Place}
use Rattle.log_group_laws.specs.log_model.Groups.{Form, start, next_log, ddl, txn, Group, group, not_whole, damaged_at, foreign_at, group_at}
use Rattle.log_group_laws.specs.log_model.Log.{magic}
use Rattle.log_file_model.specs.Walk.{Ending, ended, damaged, foreign, Piece, Grouped, nothing_but, with_piece, piece_of, behind, closed_at, by_form, groups_from, grouped, grouped_from}

-- ---- a walk with enough turns

-- the groups from a place on
abbrev pub walked : Place → Grouped
walked p = groups_from (length p.bytes) p

-- more turns than there are bytes change nothing
abbrev pub TurnsAreEnough : Type 0
TurnsAreEnough = (most : ℕ) (p : Place) → length p.bytes ≤ most → groups_from most p ≡ walked p

-- a group at the front is the first piece, and what follows it is the walk of the rest
abbrev pub GroupIsFirst : Type 0
GroupIsFirst = (p : Place) (g : Group) → group_at p ≡ group g → walked p ≡ with_piece (piece_of g p) (by_form walked (behind g p) g.form)

-- ---- bytes of a log that were passed

-- whether a group is the name of the next log, behind which nothing may follow
abbrev pub names_next : Form → Bool
names_next start = false
names_next (next_log next) = true
names_next (ddl s) = false
names_next (txn opening items number) = false

abbrev pub with_pieces : List Piece → Grouped → Grouped
with_pieces ps g = record { pieces = ps ++ g.pieces; ending = g.ending }

-- from a place on, behind the name of the next log or behind another group
abbrev pub from_there : (closed : Bool) → Place → Grouped
from_there true p = closed_at p p.bytes
from_there false p = walked p

-- as a log is read, from its first group or from a position on, these bytes end behind just these groups, and the next byte stands at
-- this place: so it is in each log that begins with them
abbrev pub Passed : (read : List ℕ → Grouped) → (front : List ℕ) → List Piece → (pos : ℕ) → (closed : Bool) → Type 0
Passed read front ps pos closed =
    (rest : List ℕ) → read (front ++ rest) ≡ with_pieces ps (from_there closed (record { bytes = rest; pos = pos }))

-- a log of these groups that ends so
abbrev pub ending_with : List Piece → Ending → Grouped
ending_with ps e = record { pieces = ps; ending = e }

-- the magic is passed
abbrev pub MagicIsPassed : Type 0
MagicIsPassed = Passed grouped magic [] 4 false

-- where it does not stand, the log is damaged at its first byte
abbrev pub OthersAreDamaged : Type 0
OthersAreDamaged =
    ((front rest : List ℕ) → length front ≡ 4 → (front ≡ magic → ⊥) → grouped (front ++ rest) ≡ nothing_but (damaged 0))
    × ((bytes : List ℕ) → length bytes < 4 → grouped bytes ≡ nothing_but (damaged 0))

-- ---- from a position on

-- a log is read from position 4 as it is read
abbrev pub AllFromFour : Type 0
AllFromFour = (bytes : List ℕ) → grouped_from 4 bytes ≡ grouped bytes

-- bytes up to the position, the magic first, are passed
abbrev pub FrontIsPassed : Type 0
FrontIsPassed = (pos : ℕ) (front : List ℕ) → take 4 front ≡ magic → 4 ≤ pos → length front ≡ pos → Passed (grouped_from pos) front [] pos false

-- behind the greatest position that a group may end at, any byte is damaged
abbrev pub NothingAbove : Type 0
NothingAbove = (p : Place) → 1200000000 < p.pos → walked p ≡ closed_at p p.bytes

-- where a log does not begin with the magic it is damaged at its first byte; with a position within the magic, there; and at its end where
-- it is shorter than the position
pub record FrontsAreDamaged : Type 0 where
  pub other : (pos : ℕ) (front rest : List ℕ) → length front ≡ 4 → (front ≡ magic → ⊥) → grouped_from pos (front ++ rest) ≡ nothing_but (damaged 0)
  pub short : (pos : ℕ) (bytes : List ℕ) → length bytes < 4 → grouped_from pos bytes ≡ nothing_but (damaged 0)
  pub within : (pos : ℕ) (rest : List ℕ) → pos < 4 → grouped_from pos (magic ++ rest) ≡ nothing_but (damaged pos)
  pub few : (pos : ℕ) (bytes : List ℕ) → take 4 bytes ≡ magic → 4 ≤ pos → length bytes < pos → grouped_from pos bytes ≡ nothing_but (damaged (length bytes))

-- ---- groups

-- one more group is passed
abbrev pub GroupIsPassed : Type 0
GroupIsPassed =
    (read : List ℕ → Grouped) (front taken : List ℕ) (ps : List Piece) (pos : ℕ) (g : Group) → Passed read front ps pos false
    → group_at (record { bytes = taken; pos = pos }) ≡ group g → g.end ≡ pos + length taken
    → Passed read (front ++ taken) (ps ++ record { bytes = taken; group = g } ∷ []) (pos + length taken) (names_next g.form)

-- no byte follows: the log ends
abbrev pub EndIsSeen : Type 0
EndIsSeen =
    (read : List ℕ → Grouped) (front : List ℕ) (ps : List Piece) (pos : ℕ) (closed : Bool) → Passed read front ps pos closed
    → read front ≡ ending_with ps ended

-- what is damaged or not known is so whatever follows, and a front of a group that the log ends in is damaged where it begins
abbrev pub StopIsSeen : Type 0
StopIsSeen =
    (read : List ℕ → Grouped) (front taken rest : List ℕ) (ps : List Piece) (pos : ℕ) → Passed read front ps pos false
    → ((at : ℕ) → group_at (record { bytes = taken; pos = pos }) ≡ damaged_at at → read (front ++ taken ++ rest) ≡ ending_with ps (damaged at))
    × ((at kind : ℕ) → group_at (record { bytes = taken; pos = pos }) ≡ foreign_at at kind → read (front ++ taken ++ rest) ≡ ending_with ps (foreign at kind))
    × (group_at (record { bytes = taken; pos = pos }) ≡ not_whole → 1 ≤ length taken → read (front ++ taken) ≡ ending_with ps (damaged pos))

-- a byte behind the name of the next log is damaged
abbrev pub NothingBehindNames : Type 0
NothingBehindNames =
    (read : List ℕ → Grouped) (front taken rest : List ℕ) (ps : List Piece) (pos : ℕ) → Passed read front ps pos true → 1 ≤ length taken
    → read (front ++ taken ++ rest) ≡ ending_with ps (damaged pos)
