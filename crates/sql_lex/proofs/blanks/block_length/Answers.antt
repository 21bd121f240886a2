use Rattle.std.proofs.Common.{◌≡◌, ◌+◌, false, get_or, drop}
use Rattle.sql_lex.specs.Blanks.{closes_block}
use Rattle.sql_lex.proofs.Steps.{block_step}
use Rattle.sql_lex.proofs.blanks.block_length.Goals as goal

pub loop-i-preserved : goal.loop-i-preserved
loop-i-preserved c =
    let goes_on : closes_block (get_or c.args.text.now c.loop-i.i 0) (drop (c.loop-i.i + 1) c.args.text.now) ≡ false = cc in
    block_step c.args.text.now c.loop-i.i c.loop-i-test.true _ goes_on c.loop-i.invariant
