-- The refusal of a taken key, and a sheet's refusal told on.
use Rattle.std.specs.Prelude.{◌≡◌, ℕ, Result, Ok, Err}
use Rattle.table_sheet.specs.declared.refusal.SheetRefusal.{SheetRefusal}
use Rattle.table_sheet.specs.declared.refusal.SheetRefusal.TheVariants.{Taken as SheetTaken, Absent as SheetAbsent, NoMemory as SheetNoMemory}
use Rattle.row_store.specs.declared.refusal.RowRefusal.{RowRefusal}
use Rattle.row_store.specs.declared.refusal.RowRefusal.TheVariants.{Taken, Absent, NoMemory}

-- a refusal names a key, or is want of memory
abbrev pub Refuses : ℕ → RowRefusal → Type 0
Refuses key (Taken which) = which ≡ key
Refuses key Absent = ⊥
Refuses key NoMemory = Unit {0}

-- a sheet's refusal told on: the same cause
abbrev pub Tells : SheetRefusal → RowRefusal → Type 0
Tells (SheetTaken which) refusal = Refuses which refusal
Tells SheetAbsent refusal = refusal ≡ Absent
Tells SheetNoMemory refusal = refusal ≡ NoMemory

-- a sheet's answer told on
abbrev pub Answers : Result (Unit {0}) SheetRefusal → Result (Unit {0}) RowRefusal → Type 0
Answers (Ok done) (Ok too) = Unit {0}
Answers (Ok done) (Err refusal) = ⊥
Answers (Err refusal) (Ok done) = ⊥
Answers (Err refusal) (Err told) = Tells refusal told
