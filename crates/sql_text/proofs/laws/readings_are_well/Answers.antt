use Rattle.sql_text.proofs.GoodTexts.{reading_is_well}
use Rattle.sql_text.proofs.laws.readings_are_well.Goals as goal

pub returns : goal.returns
returns c = reading_is_well
