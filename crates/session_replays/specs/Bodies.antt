-- The bodies of stored programs are statements that the parser can give, in every catalog that a run comes to.
use Rattle.std.specs.Prelude.{◌≡◌, ◌&&◌, ℕ, nat_le, Bool, true, List, [], ◌∷◌, Some, IsTrue}
use Rattle.std.specs.List.{list_all}
use Rattle.hex.specs.Hex.{IsBytes}
use Rattle.port_traits.specs.declared.identity.Identity.{Identity}
use Rattle.port_traits.specs.declared.identity.Draw.{Draw}
use Rattle.sql_tree.specs.Statement.{Statement}
use Rattle.sql_tree.specs.Depth.{depth_of}
use Rattle.sql_tree.specs.Well.{IsWell, is_well_step}
use Rattle.name_const_laws.specs.catalog_rules.Bases.{Base}
use Rattle.name_const_laws.specs.catalog_rules.Objects.{Object, table, function, procedure, reaction, body_of, trigger_body}
use Rattle.name_const_laws.specs.log_entries.declared.entries.Entry.{Entry}
use Rattle.name_const_laws.specs.log_entries.declared.entries.Entry.TheVariants.{Transaction, Definition, LogStart}
use Rattle.name_const_laws.specs.log_entries.Entries.{after}
use Rattle.session_model.specs.Sessions.{State}
use Rattle.session_model.specs.Machine.{Whole, whole, Machine, machine_after, step}
use Rattle.session_model.specs.Holding.{Beginning, Holds, changes_of, define}

-- ---- catalogs

-- a body that the parser can give, in a statement that is at most 200 deep
abbrev pub is_well_body : Statement → Bool
is_well_body body = is_well_step body && nat_le (depth_of body) 200

abbrev pub has_well_body : Object → Bool
has_well_body (table definition) = true
has_well_body (function p) = is_well_body (body_of p)
has_well_body (procedure p) = is_well_body (body_of p)
has_well_body (reaction t) = is_well_body (trigger_body t)

-- each function, procedure and trigger has such a body
abbrev pub BodiesAreWell : List Object → Type 0
BodiesAreWell catalog = IsTrue (list_all has_well_body catalog)

-- ---- entries

-- a definition is a statement that the parser can give; of other entries nothing is asked
abbrev pub IsWellDefined : Entry Whole → Type 0
IsWellDefined (Transaction stamp server items) = Unit {0}
IsWellDefined (Definition stamp server i) = IsWell i.began.tree
IsWellDefined (LogStart stamp server) = Unit {0}

abbrev pub AreWellDefined : List (Entry Whole) → Type 0
AreWellDefined [] = Unit {0}
AreWellDefined (e ∷ es) = IsWellDefined e × AreWellDefined es

-- ---- laws

-- the definitions that a command puts out are such, where its text is of bytes
abbrev pub StepsDefineWell : Type 0
StepsDefineWell =
    (identity : Identity) (state : State Whole) (n : ℕ) (text : List ℕ) (draw : Draw) → IsBytes text
    → AreWellDefined (step whole identity state n text draw).committed

-- so all those of a run are, command by command
abbrev pub HistoriesStayWell : Type 0
HistoriesStayWell =
    (m : Machine) (identity : Identity) (n : ℕ) (text : List ℕ) (draw : Draw) → IsBytes text → AreWellDefined m.history
    → AreWellDefined (machine_after m (step whole identity m.state n text draw)).history

-- and such entries lead from a catalog with well bodies to one with well bodies, wherever they lead
abbrev pub CatalogsStayWell : Type 0
CatalogsStayWell =
    (es : List (Entry Whole)) (base last : Base) → AreWellDefined es → after changes_of define es base ≡ Some last
    → BodiesAreWell base.catalog → BodiesAreWell last.catalog

-- so bodies are well in the catalog of a run whose definitions are such
abbrev pub RunsStayWell : Type 0
RunsStayWell =
    (from : Beginning) (m : Machine) → Holds from m → AreWellDefined m.history → BodiesAreWell from.base.catalog
    → BodiesAreWell m.state.shared.base.catalog
