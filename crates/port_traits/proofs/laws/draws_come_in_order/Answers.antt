use Rattle.port_traits.proofs.Draws.{handed_out-next, draws_left-some, length-handed_out, slice_get-handed_out}
use Rattle.port_traits.proofs.laws.draws_come_in_order.Goals as goal

pub returns-clause-next : goal.returns-clause-next
returns-clause-next c = handed_out-next

pub returns-clause-some : goal.returns-clause-some
returns-clause-some c = draws_left-some

pub returns-clause-count : goal.returns-clause-count
returns-clause-count c = length-handed_out

pub returns-clause-each : goal.returns-clause-each
returns-clause-each c = slice_get-handed_out
