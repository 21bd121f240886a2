use Rattle.std.proofs.Common.{arith}
use Rattle.disk_model.proofs.Quiet.{quiet_look, quiet_trans}
use Rattle.test_stores.proofs.Resting.{only_still, rests_beside, rests_quiet, within_still}
use Rattle.test_stores.proofs.scripts.append.Goals as goal

pub put-requires-clause-durable : goal.put-requires-clause-durable
put-requires-clause-durable g c = only_still _ _ _ (quiet_look _ _ _ c.length.ensures.story) c.in_ok-settle.ensures.durable

pub put-requires-clause-within : goal.put-requires-clause-within
put-requires-clause-within g c = within_still _ _ _ _ (quiet_look _ _ _ c.length.ensures.story) c.in_ok-at.ensures.value

pub returns : goal.returns
returns g c =
    rests_beside _ _ _ (rests_quiet _ _ _ c.requires.rests (quiet_trans _ _ _ c.settle.ensures.quiet (quiet_look _ _ _ c.length.ensures.story))) _ _
    (λ same. absurd (omega (arith, c.requires.file, same))) c.put.ensures.puts
