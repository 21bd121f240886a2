-- What a crash may leave of a file. Between two syncs each written range and everything past the old end may hold any bytes,
-- the length may be any between the least and the greatest, and bytes outside stay. After a sync it is what a read gives.
use Rattle.std.specs.Prelude.{◌≡◌, ℕ, ◌+◌, ◌<◌, ◌≤◌, min, max, Bool, true, false, ◌&&◌, nat_lt, nat_le, if◌then◌else◌, List, [], ◌∷◌, length, slice_index, Option, Some, None}
use Rattle.std.specs.List.{list_any}
use Rattle.hex.specs.Hex.{IsBytes}
use Rattle.disk_model.specs.declared.call.Call.{Call}
use Rattle.disk_model.specs.declared.call.Call.TheVariants.{Look, Write, Cut, Sync}
use Rattle.disk_model.specs.Story.{Image, Story, concerns, seen_after}

-- a range of a file: where it begins and how many bytes it has
pub record Range : Type 0 where
  pub at : ℕ
  pub size : ℕ

-- whether a place is in a range
abbrev pub is_within : ℕ → Range → Bool
is_within i r = nat_le r.at i && nat_lt i (r.at + r.size)

-- what was done to a file since its last sync: what a read gave then, the least and the greatest length since, and the ranges written
pub record Unsynced : Type 0 where
  pub synced : List ℕ
  pub least : ℕ
  pub greatest : ℕ
  pub ranges : List Range

-- nothing was done since a sync
abbrev pub just_synced : List ℕ → Unsynced
just_synced file = record { synced = file; least = length file; greatest = length file; ranges = [] }

-- after a call more on the file, which reads as this before it. A write or a cut counts once it has begun, also if it
-- fails; a sync that fails makes nothing durable.
abbrev pub then_done : Call → List ℕ → Unsynced → Unsynced
then_done Look file u = u
then_done (Write g at piece done) file u = record {
  synced = u.synced;
  least = u.least;
  greatest = max u.greatest (at + length piece);
  ranges = record { at = at; size = length piece } ∷ u.ranges;
}
then_done (Cut g count done) file u = record { synced = u.synced; least = min u.least count; greatest = u.greatest; ranges = u.ranges }
then_done (Sync g true) file u = just_synced file
then_done (Sync g false) file u = u

-- what was done to a file since its last sync, after these calls
unfoldable pub unsynced_after : Image → List Call → ℕ → Unsynced
unsynced_after first [] f = just_synced (first f)
unsynced_after first (call ∷ past) f =
    if concerns call f then then_done call (seen_after first past f) (unsynced_after first past f) else unsynced_after first past f

-- what a crash may leave: any bytes in the ranges and past the old end, the bytes of the last sync elsewhere
pub record MayHold (u : Unsynced) (file : List ℕ) : Type 0 where
  pub no_shorter : u.least ≤ length file
  pub no_longer : length file ≤ u.greatest
  pub stays : (i : ℕ) → i < length file → i < length u.synced → list_any (is_within i) u.ranges ≡ false → slice_index file i ≡ slice_index u.synced i
  pub bytes : IsBytes file

-- what a call writes
abbrev pub written_by : Call → List ℕ
written_by (Write g at piece done) = piece
written_by call = []

-- the files held bytes at first, and bytes were written
abbrev pub AreBytes : Image → List Call → Type 0
AreBytes first [] = (f : ℕ) → IsBytes (first f)
AreBytes first (call ∷ past) = IsBytes (written_by call) × AreBytes first past

-- after these calls a crash may leave this in a file; a story of numbers that are no bytes leaves nothing
pub record LeftAfter (first : Image) (calls : List Call) (f : ℕ) (file : List ℕ) : Type 0 where
  pub story : AreBytes first calls
  pub held : MayHold (unsynced_after first calls f) file

-- a crash now may leave this in the file; where nothing is told, nothing is said
abbrev pub Left : Option Story → ℕ → List ℕ → Type 0
Left None f file = ⊥
Left (Some s) f file = LeftAfter s.first s.calls f file
