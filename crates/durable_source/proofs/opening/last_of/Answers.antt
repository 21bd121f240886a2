use Rattle.std.proofs.Common.{◌-◌, length, arith}
use Rattle.durable_source.proofs.Starting.{last_is}
use Rattle.durable_source.proofs.opening.last_of.Goals as goal

pub returns : goal.returns
returns c all is = last_is c.args.ends.now all (length c.args.ends.now - 1) is (omega (arith, c.if-count-eq0.false)) 0
