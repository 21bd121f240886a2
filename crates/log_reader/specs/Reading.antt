-- A log read from an input, group by group: what one call takes and finds.
use Rattle.std.specs.Prelude.{◌≡◌, ◌≤◌, ◌<◌, ◌⊎◌, ℕ, ◌+◌, nat_lt, Bool, true, false, List, [], ◌++◌, length, take, Option, Some, None, option_map, IfSome}
use Rattle.log_groups.specs.log_model.Groups.{Group, group, not_whole, damaged_at, foreign_at, group_at}
use Rattle.log_groups.specs.log_model.Log.{magic}
use Rattle.log_file_model.specs.Passing.{names_next}
use Rattle.log_reader.specs.declared.reader.Found.{Found}
use Rattle.log_reader.specs.declared.reader.Found.TheVariants as found

-- ---- a reader

-- The group that was read last: its bytes, and where they begin in the log; and whether it was the name of the next log, behind which
-- nothing may follow.
pub record Reader : Type 0 where
  pub bytes : List ℕ
  pub begin : ℕ
  pub closed : Bool

-- one that has read nothing, at a position; behind the greatest one that a group may end at none follows
abbrev pub begun_at : (pos : ℕ) → Reader
begun_at pos = record { bytes = []; begin = pos; closed = nat_lt 1200000000 pos }

-- where the next byte of the input stands in the log
abbrev pub next_pos : Reader → ℕ
next_pos r = r.begin + length r.bytes

-- ---- an input

-- these bytes were taken from the front of an input that tells its bytes
abbrev pub Took : Option (List ℕ) → Option (List ℕ) → List ℕ → Type 0
Took before after taken = before ≡ option_map (λ rest. taken ++ rest) after

abbrev pub IsEnd : Option (List ℕ) → Type 0
IsEnd left = IfSome left (λ rest. rest ≡ [])

-- ---- one group

-- the bytes that were taken are just a group
pub record IsGroup (old new : Reader) (taken : List ℕ) : Type 0 where
  pub opened : old.closed ≡ false
  pub bytes : new.bytes ≡ taken
  pub one : Group
  pub reads : group_at (record { bytes = taken; pos = new.begin }) ≡ group one
  pub whole : one.end ≡ new.begin + length taken
  pub closed : new.closed ≡ names_next one.form

-- they are the bytes behind the name of the next log, or of no group: an event is damaged, or the input ends within one
abbrev pub IsDamaged : Bool → (begin pos : ℕ) → List ℕ → Option (List ℕ) → Type 0
IsDamaged true begin pos taken left = (pos ≡ begin) × (1 ≤ length taken)
IsDamaged false begin pos taken left =
    (group_at (record { bytes = taken; pos = begin }) ≡ damaged_at pos)
    ⊎ ((group_at (record { bytes = taken; pos = begin }) ≡ not_whole) × (1 ≤ length taken) × (pos ≡ begin) × IsEnd left)

abbrev pub Finds : Reader → Reader → List ℕ → Option (List ℕ) → Found → Type 0
Finds old new taken left found.Group = IsGroup old new taken
Finds old new taken left found.End = (taken ≡ []) × IsEnd left
Finds old new taken left (found.Damaged pos) = IsDamaged old.closed new.begin pos taken left
Finds old new taken left (found.Foreign pos kind) =
    (old.closed ≡ false) × (group_at (record { bytes = taken; pos = new.begin }) ≡ foreign_at pos kind)

-- what a call takes of an input, and what it finds there
pub record Reads (old new : Reader) (before after : Option (List ℕ)) (found : Found) : Type 0 where
  pub taken : List ℕ
  pub took : Took before after taken
  pub begin : new.begin ≡ next_pos old
  pub finds : Finds old new taken after found

-- whatever a call came to, it took bytes from the front
pub record Takes (before after : Option (List ℕ)) : Type 0 where
  pub taken : List ℕ
  pub took : Took before after taken

-- ---- the magic

-- the magic was taken; or four other bytes, or all bytes of an input that has fewer
abbrev pub FindsMagic : Bool → List ℕ → Option (List ℕ) → Type 0
FindsMagic true taken left = taken ≡ magic
FindsMagic false taken left = ((length taken ≡ 4) × (taken ≡ magic → ⊥)) ⊎ ((length taken < 4) × IsEnd left)

pub record ReadsMagic (before after : Option (List ℕ)) (found : Bool) : Type 0 where
  pub taken : List ℕ
  pub took : Took before after taken
  pub finds : FindsMagic found taken after

-- ---- bytes before a position

-- those up to the position were taken, the magic first; or it is known where the log is damaged: at its first byte, without the magic; at a
-- position in the magic; or at the log's end, where that comes before the position
abbrev pub FindsFront : (pos : ℕ) → List ℕ → Option (List ℕ) → Option ℕ → Type 0
FindsFront pos taken left None = (take 4 taken ≡ magic) × (4 ≤ pos) × (length taken ≡ pos)
FindsFront pos taken left (Some at) =
    ((at ≡ 0) × FindsMagic false taken left)
    ⊎ (((at ≡ pos) × (pos < 4) × (taken ≡ magic)) ⊎ ((at ≡ length taken) × (at < pos) × (4 ≤ pos) × (take 4 taken ≡ magic) × IsEnd left))

pub record ReadsFront (pos : ℕ) (before after : Option (List ℕ)) (found : Option ℕ) : Type 0 where
  pub taken : List ℕ
  pub took : Took before after taken
  pub finds : FindsFront pos taken after found
