use Rattle.std.proofs.Common.{◌≡◌, ◌+◌, ◌≤◌, drop}
use Rattle.catalog_rules.specs.Objects.{count_of_programs}
use Rattle.catalog_objects.specs.Keys.{objects_of}
use Rattle.catalog_objects.proofs.counting.count_programs.Given as goal

-- those so far, and those that are left
abbrev pub invariant-loop-object : goal.invariant-loop-object
invariant-loop-object l =
    (l.count ≤ l.object-index) × (l.count + count_of_programs (objects_of (drop l.object-index l.objects)) ≡ count_of_programs (objects_of l.objects))
