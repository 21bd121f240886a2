use Rattle.std.proofs.Common.{◌≡◌, ◌++◌, drop}
use Rattle.catalog_checks.specs.catalog_objects.Keys.{objects_of}
use Rattle.catalog_checks.specs.catalog_rules.Bases.{definitions_in}
use Rattle.binlog_items.specs.Items.{among}
use Rattle.binlog_items.proofs.tables.definitions_among.Given as goal

-- those so far, and those that are left
abbrev pub invariant-loop-object : goal.invariant-loop-object
invariant-loop-object l = l.defs ++ among l.names (definitions_in (objects_of (drop l.object-index l.objects))) ≡ among l.names (definitions_in (objects_of l.objects))
