use Rattle.port_traits.proofs.Streams.{Took-joined, Took-end, Took-all}
use Rattle.port_traits.proofs.laws.reads_join.Goals as goal

pub returns-clause-joined : goal.returns-clause-joined
returns-clause-joined c = Took-joined

pub returns-clause-end : goal.returns-clause-end
returns-clause-end c = Took-end

pub returns-clause-all : goal.returns-clause-all
returns-clause-all c = Took-all
