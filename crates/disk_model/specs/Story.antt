-- The story of a disk: what its files held at first, and its calls since. What a read gives follows from it.
use Rattle.std.specs.Prelude.{ℕ, ◌+◌, Bool, true, false, ◌==◌, nat_le, if◌then◌else◌, List, [], ◌∷◌, ◌++◌, length, take, drop, Option, Some, None}
use Rattle.disk_model.specs.declared.call.Call.{Call}
use Rattle.disk_model.specs.declared.call.Call.TheVariants.{Look, Write, Cut, Sync}

-- the bytes of each file by its number; a file that does not exist has none
abbrev pub Image : Type 0
Image = ℕ → List ℕ

-- what the files held at first, and the calls since, the newest first
pub record Story : Type 0 where
  pub first : Image
  pub calls : List Call

-- whether a call writes, cuts or syncs this file
abbrev pub concerns : Call → ℕ → Bool
concerns Look f = false
concerns (Write g at piece done) f = g == f
concerns (Cut g count done) f = g == f
concerns (Sync g done) f = g == f

-- a piece over what stands from a place on; past the end, where no caller writes, nothing changes
abbrev pub overwritten : ℕ → List ℕ → List ℕ → List ℕ
overwritten at piece file = if nat_le at (length file) then take at file ++ piece ++ drop (at + length piece) file else file

-- what a read of a file gives after a call on it; one that failed changes nothing that is read
abbrev pub changed : Call → List ℕ → List ℕ
changed (Write g at piece true) file = overwritten at piece file
changed (Cut g count true) file = take count file
changed call file = file

-- what a read of a file gives after these calls
unfoldable pub seen_after : Image → List Call → ℕ → List ℕ
seen_after first [] f = first f
seen_after first (call ∷ past) f = if concerns call f then changed call (seen_after first past f) else seen_after first past f

-- ---- a disk that tells its story, or does not

-- a disk after a call
abbrev pub then_call : Call → Option Story → Option Story
then_call call None = None
then_call call (Some s) = Some (record { first = s.first; calls = call ∷ s.calls })

-- how many calls there were
abbrev pub count : Option Story → ℕ
count None = 0
count (Some s) = length s.calls

-- what a read gives, where it is told
abbrev pub seen : Option Story → Image
seen None f = []
seen (Some s) f = seen_after s.first s.calls f
