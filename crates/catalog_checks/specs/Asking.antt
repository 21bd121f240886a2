-- What a walk is asked, and what it sees, as the definitions of checks speak of it.
use Rattle.std.specs.Prelude.{ℕ, List, map, Option, Some, None, length, min, ◌==◌}
use Rattle.std.specs.Option.{option_copied}
use Rattle.val_types.specs.declared.definitions.TableDef.{TableDef}
use Rattle.sql_tree.specs.Tree.{Part, Orders}
use Rattle.sql_tree.specs.declared.statements.Routine.{Routine}
use Rattle.sql_locals.specs.declared.locals.Local.{Local}
use Rattle.catalog_objects.specs.catalog_rules.Nodes.{Sight, no_sight, in_sight, sight_of_update}
use Rattle.catalog_objects.specs.catalog_rules.Checks.{Scope}
use Rattle.catalog_objects.specs.catalog_rules.Ranks.{Asked, rank_unless, part_rank, orders_rank}
use Rattle.catalog_objects.specs.Keys.{objects_of}
use Rattle.catalog_checks.specs.declared.sight.Sight.{fold-Sight}
use Rattle.catalog_checks.specs.declared.sight.Sight as code
use Rattle.catalog_checks.specs.declared.sight.Sight.TheOpen.{Sight-F}
use Rattle.catalog_checks.specs.declared.checks.Checks.{Checks}

abbrev sight_step : Sight-F Sight → Sight
sight_step Sight-F.Nothing = no_sight
sight_step (Sight-F.Only t) = in_sight t.now no_sight
sight_step (Sight-F.Update t) = sight_of_update t.now
sight_step (Sight-F.Row t outer) = in_sight t.now outer.now

-- the tables in view
abbrev pub sight_of : code.Sight → Sight
sight_of = fold-Sight Sight sight_step

-- the names of locals
abbrev pub names_of : List Local → List (List ℕ)
names_of locals = map (λ (l : Local). l.name) locals

-- what is in scope
abbrev pub scope_with : List Local → Option TableDef → Option TableDef → Scope
scope_with locals new_row old_row = record { locals = names_of locals; new_row = new_row; old_row = old_row }

abbrev pub asked_of : Checks → Asked
asked_of c = record {
  catalog = objects_of c.objects.now;
  scope = scope_with c.locals.now (option_copied c.new_row) (option_copied c.old_row);
  target = option_copied c.target;
}

-- a routine that was found, called with so many arguments
abbrev pub called_rank : Option Routine → ℕ → ℕ
called_rank None count = 2
called_rank (Some r) count = rank_unless (length r.parameters == count) 3

-- a condition and an order that see the row of a table
abbrev pub condition_rank : List ℕ → Part → Orders → Asked → ℕ
condition_rank t w os asked = min (part_rank asked w (in_sight t no_sight)) (orders_rank asked os (in_sight t no_sight))
