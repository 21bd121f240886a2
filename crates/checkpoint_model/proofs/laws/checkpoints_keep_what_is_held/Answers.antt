use Rattle.checkpoint_model.proofs.Keeping.{checkpoints_keep, checkpoints_lead}
use Rattle.checkpoint_model.proofs.laws.checkpoints_keep_what_is_held.Goals as goal

pub returns-clause-keep : goal.returns-clause-keep
returns-clause-keep c kind generation image held stands is fits = checkpoints_keep kind generation image held stands is fits

pub returns-clause-lead : goal.returns-clause-lead
returns-clause-lead c kind generation image held stands is fits = checkpoints_lead kind generation image held stands is fits
