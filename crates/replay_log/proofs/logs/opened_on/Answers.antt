use Rattle.std.proofs.Common.{[]}
use Rattle.replay_log.proofs.logs.opened_on.Goals as goal

pub returns-in-Ok-clause-runs : goal.returns-in-Ok-clause-runs
returns-in-Ok-clause-runs g c held opens = c.open.ensures.runs held [] opens

pub returns-in-Err-Disk-clause-runs : goal.returns-in-Err-Disk-clause-runs
returns-in-Err-Disk-clause-runs g c held opens = c.open.ensures.runs held [] opens

pub returns-in-Err-NoMemory-clause-runs : goal.returns-in-Err-NoMemory-clause-runs
returns-in-Err-NoMemory-clause-runs g c held opens = c.open.ensures.runs held [] opens
