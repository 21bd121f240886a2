use Rattle.store_model.proofs.Sizes.{row_has, changes_have}
use Rattle.store_model.proofs.laws.bodies_are_counted.Goals as goal

pub returns-clause-rows : goal.returns-clause-rows
returns-clause-rows c row = row_has row

pub returns-clause-changes : goal.returns-clause-changes
returns-clause-changes c cs = changes_have cs
