use Rattle.std.proofs.Common.{refl}
use Rattle.hex.specs.Hex.{encode_with}
use Rattle.value_rules.specs.Identifiers.{uuid_digits, uuid_text}
use Rattle.value_rules.proofs.worked.uuids.Goals as goal

pub returns-clause-sixteen : goal.returns-clause-sixteen
unfolding uuid_text uuid_digits encode_with
returns-clause-sixteen c = refl

pub returns-clause-highest : goal.returns-clause-highest
unfolding uuid_text uuid_digits encode_with
returns-clause-highest c = refl
