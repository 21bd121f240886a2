-- What holds of all that is worked on, over what is stored.
use Rattle.std.specs.Prelude.{◌≡◌, Bool, true, false, List, Some}
use Rattle.val_types.specs.declared.change.Change.{Change}
use Rattle.auto_inc.specs.declared.counters.Counter.{Counter}
use Rattle.auto_inc.specs.Counting.{tables_of}
use Rattle.table_rules.specs.Stored.{all_applied, all_inverse}
use Rattle.table_rules.specs.Stores.{Store, definitions_of, can_take_back}
use Rattle.sql_reach.specs.catalog_rules.Bases.{definitions_in}
use Rattle.sql_tree.specs.Statement.{Statement, drop_function, drop_procedure, drop_trigger}
use Rattle.catalog.specs.catalog_objects.declared.object.Object.{Object}
use Rattle.catalog.specs.catalog_objects.Keys.{objects_of}
use Rattle.prog_work.specs.Contents.{counted_names}

-- the changes can be taken back without memory, which leaves the rows that are there to stay; tables and counters are those of the
-- catalog
pub record AreTogether (objects : List Object) (store : Store) (changes : List Change) (counters : List Counter) : Type 0 where
  pub reversible : can_take_back store changes ≡ true
  pub apart : all_applied (all_inverse changes) store.tables ≡ Some store.committed
  pub theirs : definitions_of store.tables ≡ definitions_in (objects_of objects)
  pub counted : tables_of counters ≡ counted_names (definitions_in (objects_of objects))

-- whether a statement drops a program
abbrev pub is_drop_of_program : Statement → Bool
is_drop_of_program (drop_function name) = true
is_drop_of_program (drop_procedure name) = true
is_drop_of_program (drop_trigger name) = true
is_drop_of_program s = false
