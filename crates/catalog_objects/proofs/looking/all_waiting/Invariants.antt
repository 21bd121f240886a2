use Rattle.std.proofs.Common.{◌≡◌, take}
use Rattle.catalog_objects.proofs.looking.all_waiting.Given as goal

-- the triggers so far
abbrev pub invariant-loop-trigger : goal.invariant-loop-trigger
invariant-loop-trigger l = l.all.items ≡ take l.trigger-index l.triggers
