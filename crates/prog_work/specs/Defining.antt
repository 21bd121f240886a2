-- CREATE, DROP and TRUNCATE: what they make of all that is worked on, or what refuses them.
use Rattle.std.specs.Prelude.{◌≡◌, ℕ, Option, Some, None, Result, Ok, Err}
use Rattle.val_types.specs.declared.refusal.SqlRefusal.{SqlRefusal}
use Rattle.val_types.specs.declared.refusal.SqlRefusal.TheVariants.{Sql, NoMemory}
use Rattle.sql_tree.specs.Statement.{Statement}
use Rattle.sql_reach.specs.catalog_rules.Bases.{defined}
use Rattle.sql_reach.specs.catalog_rules.Creating.{ddl_refusal}
use Rattle.catalog.specs.catalog_objects.Keys.{objects_of}
use Rattle.sql_reach.specs.Defining.{counters_after}
use Rattle.prog_work.specs.declared.meter.Outcome.{Outcome}
use Rattle.prog_work.specs.Contents.{Contents, base_of}
use Rattle.prog_work.specs.Outcomes.{outcome_of_none}

-- what refuses a definition: the first of the catalog's checks that is not met
abbrev pub definition_refusal : Statement → Contents → Option ℕ
definition_refusal s c = ddl_refusal (objects_of c.objects) s

-- a definition made: the base behind it, and its counters
pub record Makes (s : Statement) (told : Outcome) (before after : Contents) : Type 0 where
  pub allowed : definition_refusal s before ≡ None
  pub base : defined s (base_of before) ≡ Some (base_of after)
  pub counters : after.counters ≡ counters_after s before.counters
  pub changes : after.changes ≡ before.changes
  pub outcome : told ≡ outcome_of_none

-- it is made, or refused, which changes nothing, as wanting memory does
abbrev pub Defines : Statement → Result Outcome SqlRefusal → Contents → Contents → Type 0
Defines s (Ok told) before after = Makes s told before after
Defines s (Err (Sql code)) before after = (definition_refusal s before ≡ Some code) × (after ≡ before)
Defines s (Err NoMemory) before after = after ≡ before
