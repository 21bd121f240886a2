use Rattle.replay_log.proofs.Applying.{never_damaged, never_foreign}
use Rattle.replay_log.proofs.replaying.Replaying.carry_out.Goals as goal

pub returns-in-Ok-Some-Damaged-clause-went : goal.returns-in-Ok-Some-Damaged-clause-went
returns-in-Ok-Some-Damaged-clause-went g c gr s is stands running =
    never_damaged c.in-Ok-Some-Damaged.field-0 c.in-Ok-Some-Damaged.pos _ _ _ _ (search) (c.in-Ok-Some-Damaged.ensures.went_on gr s is stands running)

pub returns-in-Ok-Some-Foreign-clause-went : goal.returns-in-Ok-Some-Foreign-clause-went
returns-in-Ok-Some-Foreign-clause-went g c gr s is stands running =
    never_foreign c.in-Ok-Some-Foreign.field-0 c.in-Ok-Some-Foreign.pos c.in-Ok-Some-Foreign.kind _ _ _ _ (search) (c.in-Ok-Some-Foreign.ensures.went_on gr s is stands running)

pub returns-in-Ok-Some-Damaged-clause-kept : goal.returns-in-Ok-Some-Damaged-clause-kept
returns-in-Ok-Some-Damaged-clause-kept g c gr s is stands running =
    never_damaged c.in-Ok-Some-Damaged.field-0 c.in-Ok-Some-Damaged.pos _ _ _ _ (search) (c.in-Ok-Some-Damaged.ensures.went_on gr s is stands running)

pub returns-in-Ok-Some-Foreign-clause-kept : goal.returns-in-Ok-Some-Foreign-clause-kept
returns-in-Ok-Some-Foreign-clause-kept g c gr s is stands running =
    never_foreign c.in-Ok-Some-Foreign.field-0 c.in-Ok-Some-Foreign.pos c.in-Ok-Some-Foreign.kind _ _ _ _ (search) (c.in-Ok-Some-Foreign.ensures.went_on gr s is stands running)
