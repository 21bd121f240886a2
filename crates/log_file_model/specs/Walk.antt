-- A log by its groups, one after the other, and why no other follows.
use Rattle.std.specs.Prelude.{ℕ, zero, suc, ◌-◌, nat_le, if◌then◌else◌, List, [], ◌∷◌, length, take, drop}
use Rattle.std.specs.Str.{bytes_eq}
use Rattle.log_group_laws.specs.log_model.Events.{Place}
use Rattle.log_group_laws.specs.log_model.Groups.{Form, start, next_log, ddl, txn, Group, Next, group, not_whole, damaged_at, foreign_at, group_at}
use Rattle.log_group_laws.specs.log_model.Log.{magic}

-- Why no group follows: the log ends; what stands at a place is damaged, a front of a group at the log's end among it; or an event is
-- of a type that is not known.
pub data Ending : Type 0 where
  ended : Ending
  damaged : (pos : ℕ) → Ending
  foreign : (pos kind : ℕ) → Ending

-- A group with its bytes.
pub record Piece : Type 0 where
  pub bytes : List ℕ
  pub group : Group

-- A log as it is read.
pub record Grouped : Type 0 where
  pub pieces : List Piece
  pub ending : Ending

abbrev pub nothing_but : Ending → Grouped
nothing_but e = record { pieces = []; ending = e }

abbrev pub with_piece : Piece → Grouped → Grouped
with_piece p g = record { pieces = p ∷ g.pieces; ending = g.ending }

-- ---- one group

-- how many bytes it has
abbrev pub size_of : Group → ℕ
size_of g = g.end - g.begin

abbrev pub piece_of : Group → Place → Piece
piece_of g p = record { bytes = take (size_of g) p.bytes; group = g }

abbrev pub behind : Group → Place → Place
behind g p = record { bytes = drop (size_of g) p.bytes; pos = g.end }

-- no byte follows the name of the next log
abbrev pub closed_at : Place → List ℕ → Grouped
closed_at p [] = nothing_but ended
closed_at p (b ∷ bs) = nothing_but (damaged p.pos)

-- ---- one after the other

abbrev pub by_form : (Place → Grouped) → Place → Form → Grouped
by_form more there start = more there
by_form more there (next_log next) = closed_at there there.bytes
by_form more there (ddl s) = more there
by_form more there (txn opening items number) = more there

abbrev pub by_next : (Place → Grouped) → Place → Next → Grouped
by_next more p (group g) = with_piece (piece_of g p) (by_form more (behind g p) g.form)
by_next more p not_whole = nothing_but (damaged p.pos)
by_next more p (damaged_at pos) = nothing_but (damaged pos)
by_next more p (foreign_at pos kind) = nothing_but (foreign pos kind)

-- where no byte is left, the log ends
abbrev pub unless_ended : Grouped → List ℕ → Grouped
unless_ended more [] = nothing_but ended
unless_ended more (b ∷ bs) = more

-- the groups from a place on; each has a byte, so that there are no more of them than bytes
abbrev pub groups_from : (most : ℕ) → Place → Grouped
groups_from zero p = nothing_but ended
groups_from (suc most) p = unless_ended (by_next (groups_from most) p (group_at p)) p.bytes

-- a log from its first byte on: its magic, then groups
unfoldable pub grouped : List ℕ → Grouped
grouped bytes =
    if bytes_eq (take 4 bytes) magic then groups_from (length bytes) (record { bytes = drop 4 bytes; pos = 4 }) else nothing_but (damaged 0)

-- ---- from a position on

-- the groups from a position on, whatever stands before it: within the magic none begins, and a log that does not reach so far is damaged
-- where it ends
abbrev pub reached : (pos : ℕ) → List ℕ → Grouped
reached pos bytes =
    if nat_le 4 pos
    then (if nat_le pos (length bytes) then groups_from (length bytes) (record { bytes = drop pos bytes; pos = pos }) else nothing_but (damaged (length bytes)))
    else nothing_but (damaged pos)

-- a log from a position on; its magic is looked at first, wherever that is
unfoldable pub grouped_from : (pos : ℕ) → List ℕ → Grouped
grouped_from pos bytes = if bytes_eq (take 4 bytes) magic then reached pos bytes else nothing_but (damaged 0)
