use Rattle.store_model.proofs.Standing.{apart, together, long, there}
use Rattle.store_model.proofs.laws.images_stand.Goals as goal

pub returns-clause-apart : goal.returns-clause-apart
returns-clause-apart c kind image held is = apart kind image held is

pub returns-clause-together : goal.returns-clause-together
returns-clause-together c kind generation image held stands = together kind image held generation stands

pub returns-clause-logs : goal.returns-clause-logs
returns-clause-logs c file ends image = (long file ends image, there file ends image)
