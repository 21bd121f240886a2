use Rattle.std.proofs.Common.{◌≡◌, ◌++◌, take, drop}
use Rattle.std.specs.Option.{option_map}
use Rattle.script_read.specs.Script.{body_of}
use Rattle.script_read.proofs.script.body_of.Given as goal

abbrev pub invariant-loop-i : goal.invariant-loop-i
invariant-loop-i l = body_of l.bytes ≡ option_map (λ body. take l.i l.bytes ++ body) (body_of (drop l.i l.bytes))
