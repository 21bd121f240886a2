use Rattle.durable_runs.proofs.Naming.{named_rises, later_name_nothing, rises_join, rises_end}
use Rattle.durable_runs.proofs.marks.marks_rise.Goals as goal

pub returns-clause-rises : goal.returns-clause-rises
returns-clause-rises c = named_rises

pub returns-clause-later : goal.returns-clause-later
returns-clause-later c = later_name_nothing

pub returns-clause-one : goal.returns-clause-one
returns-clause-one c = record { join = rises_join; ends = rises_end }
