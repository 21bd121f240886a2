use Rattle.store_model.proofs.Again.{row_again, change_again, body_again}
use Rattle.store_model.proofs.Rebuilding.{snapshot_again}
use Rattle.store_model.proofs.laws.bodies_are_read.Goals as goal

pub returns-clause-rows : goal.returns-clause-rows
returns-clause-rows c row rest is = row_again row rest is

pub returns-clause-changes : goal.returns-clause-changes
returns-clause-changes c change rest is = change_again change rest is

pub returns-clause-bodies : goal.returns-clause-bodies
returns-clause-bodies c kind r is = body_again kind r is

pub returns-clause-snapshots : goal.returns-clause-snapshots
returns-clause-snapshots c kind generation held is = snapshot_again kind generation held is
