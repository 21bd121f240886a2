use Rattle.std.proofs.Common.{◌≡◌, take}
use Rattle.catalog_objects.proofs.looking.all_shared.Given as goal

-- the objects so far
abbrev pub invariant-loop-object : goal.invariant-loop-object
invariant-loop-object l = l.all.items ≡ take l.object-index l.objects
