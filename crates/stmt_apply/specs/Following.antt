-- What a group leaves that is read from an entry which can follow.
use Rattle.std.specs.Prelude.{◌≡◌, Result, Ok, Err}
use Rattle.log_groups.specs.catalog_rules.Bases.{Base}
use Rattle.row_apply.specs.declared.stop.Stop.{Stop}
use Rattle.row_apply.specs.declared.stop.Stop.TheVariants as stop

-- just this base, or memory is wanted; it never stops
abbrev pub Leaves : Result (Unit {0}) Stop → (now next : Base) → Type 0
Leaves (Ok done) now next = now ≡ next
Leaves (Err stop.NoMemory) now next = Unit {0}
Leaves (Err (stop.Differs place code table key)) now next = ⊥
