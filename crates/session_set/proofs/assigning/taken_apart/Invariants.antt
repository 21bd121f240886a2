use Rattle.std.proofs.Common.{◌≡◌, ◌++◌, map, reverse, length}
use Rattle.session_set.specs.Assigning.{target_of, value_of}
use Rattle.session_set.proofs.assigning.taken_apart.Given as goal

abbrev pub invariant-loop-target : goal.invariant-loop-target
invariant-loop-target l = record {
  targets : map target_of l.fn.assignments ≡ map target_of l.assignments ++ reverse l.targets.items;
  values : map value_of l.fn.assignments ≡ map value_of l.assignments ++ reverse l.values.items;
}

abbrev pub decreases-loop-target : goal.decreases-loop-target
decreases-loop-target l = length l.assignments
