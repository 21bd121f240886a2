use Rattle.value_ranges.proofs.Standing.{from_on, to_on}
use Rattle.value_ranges.proofs.laws.ends_part_values.Goals as goal

pub returns-clause-from : goal.returns-clause-from
returns-clause-from c = from_on

pub returns-clause-to : goal.returns-clause-to
returns-clause-to c = to_on
