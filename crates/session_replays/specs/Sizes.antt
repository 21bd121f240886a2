-- The procedures that a run may begin with: the types of their parameters and locals have sizes that there are.
use Rattle.std.specs.Prelude.{Bool, true, List, IsTrue}
use Rattle.std.specs.List.{list_all}
use Rattle.sql_locals.specs.Types.{has_size}
use Rattle.name_const_laws.specs.catalog_rules.Creating.{program_types}
use Rattle.name_const_laws.specs.catalog_rules.Objects.{Object, table, function, procedure, reaction}
use Rattle.session_model.specs.Machine.{Machine}
use Rattle.session_model.specs.Holding.{Beginning, Holds}

-- a procedure whose VARCHARs have at most 65,535 bytes, as every one has that CREATE PROCEDURE made
abbrev pub has_sizes : Object → Bool
has_sizes (table definition) = true
has_sizes (function p) = true
has_sizes (procedure p) = list_all has_size (program_types p)
has_sizes (reaction t) = true

abbrev pub ProceduresHaveSizes : List Object → Type 0
ProceduresHaveSizes catalog = IsTrue (list_all has_sizes catalog)

-- a law: so they are in each catalog that a run comes to
abbrev pub SizesStay : Type 0
SizesStay = (from : Beginning) (m : Machine) → Holds from m → ProceduresHaveSizes from.base.catalog → ProceduresHaveSizes m.state.shared.base.catalog
