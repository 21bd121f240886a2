use Rattle.std.proofs.Common.{◌<◌, length, arith}
use Rattle.script_read.proofs.Splitting.{body_more}
use Rattle.script_read.proofs.script.body_of.Goals as goal

pub loop-i-preserved : goal.loop-i-preserved
loop-i-preserved c =
    let within : c.loop-i.i < length c.args.bytes.now = omega arith in
    body_more _ c.args.bytes.now c.loop-i.i within (cc) c.loop-i.invariant
