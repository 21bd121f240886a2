use Rattle.std.proofs.Common.{◌≡◌, ◌+◌, drop}
use Rattle.std.specs.Option.{option_map}
use Rattle.table_rules.specs.Stored.{first_agreed}
use Rattle.table_sheet.specs.Pages.{rows_on}
use Rattle.table_sheet.proofs.sheet.Sheet.first_agreed.Given as goal

-- the row agrees with none on the keys so far
abbrev pub invariant-loop-i : goal.invariant-loop-i
invariant-loop-i l =
    option_map (λ k. l.i + k) (first_agreed (drop l.i l.self.definition.uniques) l.row (rows_on l.self))
    ≡ first_agreed l.self.definition.uniques l.row (rows_on l.self)
