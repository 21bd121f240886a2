use Rattle.sql_reach.specs.Closing.{closed}
use Rattle.name_const_laws.proofs.laws.closed_is_read.Goals as goal

pub returns : goal.returns
returns c = λ s locals literals well. c.prints_are_read.ensures (closed s locals) (c.closed_is_well.ensures.well s locals literals well)
