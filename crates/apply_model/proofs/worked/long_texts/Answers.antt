use Rattle.std.proofs.Common.{refl}
use Rattle.apply_model.specs.Groups.{group_carried}
use Rattle.apply_model.proofs.worked.long_texts.Goals as goal

pub returns : goal.returns
unfolding group_carried
returns c = λ rs text long. rw long refl
