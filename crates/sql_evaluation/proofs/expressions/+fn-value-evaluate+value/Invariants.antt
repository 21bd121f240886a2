use Rattle.std.proofs.Common.{◌+◌, ◌*◌, ◌-◌}
use Rattle.sql_evaluation.proofs.expressions.+fn-value-evaluate+value.Given as goal

abbrev pub decreases-value : goal.decreases-value
decreases-value g l = l.levels * 8

abbrev pub decreases-evaluate : goal.decreases-evaluate
decreases-evaluate g l = (l.levels - 1) * 8 + 1
