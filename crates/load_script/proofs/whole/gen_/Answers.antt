use Rattle.std.proofs.Common.{◌∙◌, ◌+◌, ◌++◌, ap, sym, rules}
use Rattle.load_script.specs.Script.{turn_lines}
use Rattle.load_script.proofs.Turns.{turns_more}
use Rattle.load_script.proofs.whole.gen_.Goals as goal

pub loop-i-preserved : goal.loop-i-preserved
loop-i-preserved c = (c.in_ok-put_turn.ensures ∙ ap (λ t. t ++ turn_lines (c.loop-i.i + 1)) c.loop-i.invariant.0 ∙ sym (turns_more c.loop-i.i), search rules)
