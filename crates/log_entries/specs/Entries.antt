-- What entries make of a base.
use Rattle.std.specs.Prelude.{◌≡◌, List, [], ◌∷◌, ◌++◌, flat_map, Option, Some}
use Rattle.std.specs.Option.{option_map, option_and_then}
use Rattle.val_types.specs.declared.change.Change.{Change}
use Rattle.table_rules.specs.Tables.{Table}
use Rattle.table_rules.specs.Stored.{all_applied}
use Rattle.catalog_rules.specs.Bases.{Base}
use Rattle.log_entries.specs.declared.entries.Entry.{Entry}
use Rattle.log_entries.specs.declared.entries.Entry.TheVariants.{Transaction, Definition, LogStart}

-- a base with other tables
abbrev pub with_tables : Base → List Table → Base
with_tables base tables = record base { tables = tables }

-- by the changes of an item, and by what one that is a definition makes of a base
module _ {I : Type 0} (changes_of : I → List Change) (define : I → Base → Option Base) where
  -- the base after an entry, None where a change or a definition cannot be made
  abbrev pub entry_applied : Entry I → Base → Option Base
  entry_applied (Transaction stamp server items) base = option_map (with_tables base) (all_applied (flat_map changes_of items) base.tables)
  entry_applied (Definition stamp server item) base = define item base
  entry_applied (LogStart stamp server) base = Some base

  -- the base after entries, one after the other
  abbrev pub after : List (Entry I) → Base → Option Base
  after [] base = Some base
  after (e ∷ es) base = option_and_then (after es) (entry_applied e base)

  -- entries behind others are applied to what those leave
  abbrev pub EntriesGoOn : Type 0
  EntriesGoOn = (front back : List (Entry I)) (base : Base) → after (front ++ back) base ≡ option_and_then (after back) (after front base)
