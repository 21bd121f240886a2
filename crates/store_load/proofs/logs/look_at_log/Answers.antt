use Rattle.disk_model.proofs.Quiet.{quiet_look, quiet_trans}
use Rattle.store_load.proofs.Telling.{only_still}
use Rattle.store_load.proofs.logs.look_at_log.Goals as goal

pub returns-in_err-size-clause-quiet : goal.returns-in_err-size-clause-quiet
returns-in_err-size-clause-quiet g c = quiet_trans _ _ _ c.settle.ensures.quiet (quiet_look _ _ _ c.length.ensures.story)

pub returns-then-size-from-clause-quiet : goal.returns-then-size-from-clause-quiet
returns-then-size-from-clause-quiet g c = quiet_trans _ _ _ c.settle.ensures.quiet (quiet_look _ _ _ c.length.ensures.story)

pub returns-clause-quiet : goal.returns-clause-quiet
returns-clause-quiet g c = quiet_trans _ _ _ c.settle.ensures.quiet (quiet_look _ _ _ c.length.ensures.story)

pub returns-clause-durable : goal.returns-clause-durable
returns-clause-durable g c = only_still _ _ _ (quiet_look _ _ _ c.length.ensures.story) c.in_ok-settle.ensures.durable
