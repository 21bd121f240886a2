-- A group that is looked at while its bytes come, event after event.
use Rattle.std.specs.Prelude.{◌≡◌, ◌≤◌, ◌<◌, ◌⊎◌, ◌+◌, if◌then◌else◌, ℕ, true, List, ◌++◌, codes, length, take, drop}
use Rattle.std.specs.Str.{bytes_eq}
use Rattle.event_codec.specs.declared.event.IntVarKind.{IntVarKind}
use Rattle.event_codec.specs.declared.event.IntVarKind.TheVariants.{LastInsertId, InsertId}
use Rattle.event_codec.specs.Event.{Body, query, rotate, int_var, rand, user_var, format_description, xid, table_map, rows, Query, Seen}
use Rattle.event_codec.specs.Reading.{event, reading}
use Rattle.row_image.specs.log_model.Events.{Place, Placed, past, events_from, stop_from}
use Rattle.row_image.specs.log_model.Groups.{Stage, first, between, vars, maps, in_rows, scan, Next, group, not_whole, damaged_at, foreign_at, until_xid, group_at}
use Rattle.log_groups.specs.declared.growing.Mark.{Mark}
use Rattle.log_groups.specs.declared.growing.Mark.TheVariants as mark
use Rattle.log_groups.specs.declared.growing.Progress.{Progress}
use Rattle.log_groups.specs.declared.growing.Look.{Look}
use Rattle.log_groups.specs.declared.growing.Look.TheVariants as look
use Rattle.log_groups.specs.Views.{maps_in}

-- ---- marks

-- behind so many bytes
abbrev pub after : ℕ → Place → Place
after n p = record { bytes = drop n p.bytes; pos = p.pos + n }

-- the events from there on, up to the XID
abbrev pub item_parts : ℕ → Place → List Placed
item_parts n p = until_xid (events_from (after n p))

-- the stage that a mark stands for, in a group at a place
abbrev pub stage_at : Mark → Place → Stage
stage_at mark.First p = first
stage_at mark.Between p = between
stage_at (mark.Vars passed) p = vars passed
stage_at (mark.Maps item count) p = maps (maps_in (take count (item_parts item p)))
stage_at (mark.Rows item count) p = in_rows (maps_in (take count (item_parts item p)))

-- behind the maps of an item that may have more stand the events behind so many bytes
abbrev pub MarkStands : Mark → (looked : ℕ) → Place → Type 0
MarkStands mark.First n p = Unit {0}
MarkStands mark.Between n p = Unit {0}
MarkStands (mark.Vars passed) n p = Unit {0}
MarkStands (mark.Maps item count) n p = (drop count (item_parts item p) ≡ until_xid (events_from (after n p))) × (count ≤ p.pos + n)
MarkStands (mark.Rows item count) n p = Unit {0}

-- its item begins within so many bytes
abbrev pub MarkLies : Mark → (looked : ℕ) → Type 0
MarkLies mark.First n = Unit {0}
MarkLies mark.Between n = Unit {0}
MarkLies (mark.Vars passed) n = Unit {0}
MarkLies (mark.Maps item count) n = item ≤ n
MarkLies (mark.Rows item count) n = item ≤ n

-- it counts not more maps than there are bytes before the place
abbrev pub MarkCounts : Mark → (place : ℕ) → Type 0
MarkCounts mark.First n = Unit {0}
MarkCounts mark.Between n = Unit {0}
MarkCounts (mark.Vars passed) n = Unit {0}
MarkCounts (mark.Maps item count) n = count ≤ n
MarkCounts (mark.Rows item count) n = Unit {0}

-- ---- the mark behind an event that goes on

abbrev pub mark_behind_var : IntVarKind → Mark
mark_behind_var LastInsertId = mark.Vars 1
mark_behind_var InsertId = mark.Vars 2

-- a map that begins an item, or is one more of it
abbrev pub mark_behind_map : Mark → (looked : ℕ) → Mark
mark_behind_map mark.First n = mark.Maps n 1
mark_behind_map mark.Between n = mark.Maps n 1
mark_behind_map (mark.Vars passed) n = mark.Maps n 1
mark_behind_map (mark.Maps item count) n = mark.Maps item (count + 1)
mark_behind_map (mark.Rows item count) n = mark.Maps n 1

-- rows that are not the last of their item
abbrev pub mark_behind_rows : Mark → Mark
mark_behind_rows mark.First = mark.Between
mark_behind_rows mark.Between = mark.Between
mark_behind_rows (mark.Vars passed) = mark.Between
mark_behind_rows (mark.Maps item count) = mark.Rows item count
mark_behind_rows (mark.Rows item count) = mark.Rows item count

abbrev pub mark_behind : Mark → (looked : ℕ) → Body → Mark
mark_behind m n (query q) = mark.Between
mark_behind m n (rotate next) = mark.Between
mark_behind m n (int_var kind number) = mark_behind_var kind
mark_behind m n (rand a b) = mark.Vars 3
mark_behind m n (user_var name content) = mark.Vars 3
mark_behind m n (format_description version) = mark.Between
mark_behind m n (xid number) = mark.Between
mark_behind m n (table_map t) = mark_behind_map m n
mark_behind m n (rows r) = if r.ends then mark.Between else mark_behind_rows m

-- ---- a look

-- Whatever follows these bytes of a log: a BEGIN opens them, and the transaction goes on behind so many of them from the stage of
-- a mark.
pub record InTransaction (m : Mark) (looked : ℕ) (bytes : List ℕ) (pos : ℕ) : Type 0 where
  pub opening : Seen
  pub text : Query
  pub is_query : opening.body ≡ query text
  pub is_begin : bytes_eq text.text (codes "BEGIN") ≡ true
  pub stage : Stage
  pub some : 1 ≤ looked
  pub reads : (more : List ℕ) → reading (bytes ++ more) pos ≡ event opening
  pub scans : (more : List ℕ)
      → scan first (events_from (past opening (record { bytes = bytes ++ more; pos = pos }))) (stop_from (past opening (record { bytes = bytes ++ more; pos = pos })))
      ≡ scan stage (events_from (after looked (record { bytes = bytes ++ more; pos = pos }))) (stop_from (after looked (record { bytes = bytes ++ more; pos = pos })))
  pub stage_is : (more : List ℕ) → stage ≡ stage_at m (record { bytes = bytes ++ more; pos = pos })
  pub stands : (more : List ℕ) → MarkStands m looked (record { bytes = bytes ++ more; pos = pos })

-- these bytes were looked at so far: no event was passed yet or one stands in a transaction, and the next event ends where the
-- progress says, or behind it
pub record IsLooked (bytes : List ℕ) (pos : ℕ) (p : Progress) : Type 0 where
  pub within : p.looked ≤ length bytes
  pub ends : (p.looked ≡ 0) ⊎ (pos + p.looked ≤ 1200000000)
  pub needs : p.upto ≤ 1200000019
  pub item : MarkLies p.mark p.looked
  pub stands : (p.looked ≡ 0) ⊎ InTransaction p.mark p.looked bytes pos
  pub next : (more : List ℕ) (e : Seen) → reading (drop p.looked (bytes ++ more)) (pos + p.looked) ≡ event e → p.upto ≤ p.looked + e.size

-- how far bytes are looked at behind one more event
abbrev pub goes_on : (looked size : ℕ) → Mark → Progress
goes_on looked size m = record { looked = looked + size; upto = looked + size + 19; mark = m }

-- what it was stays so as more bytes come
abbrev pub LooksStay : Type 0
LooksStay = (bytes more : List ℕ) (pos : ℕ) (p : Progress) → IsLooked bytes pos p → IsLooked (bytes ++ more) pos p

-- what stands there is a group that ends at a place or behind it, or no group
abbrev pub IsSettled : (low : ℕ) → Next → Type 0
IsSettled low (group g) = low ≤ g.end
IsSettled low not_whole = ⊥
IsSettled low (damaged_at pos) = Unit {0}
IsSettled low (foreign_at pos kind) = Unit {0}

-- what a look gives: the bytes are looked at so far, they are a front of a group, and the next look needs more of them; or it is
-- settled
abbrev pub LookGives : List ℕ → (pos : ℕ) → Progress → Look → Type 0
LookGives bytes pos p (look.GoesOn next) =
    IsLooked bytes pos next × (length bytes < next.upto) × (group_at (record { bytes = bytes; pos = pos }) ≡ not_whole)
LookGives bytes pos p look.Settled = IsSettled (pos + p.upto) (group_at (record { bytes = bytes; pos = pos }))
