use Rattle.std.proofs.Common.{refl}
use Rattle.std.specs.Fmt.{digits}
use Rattle.hex.specs.Hex.{encode_with}
use Rattle.sql_print.proofs.worked.changes_are_written.Goals as goal

pub returns-clause-inserts : goal.returns-clause-inserts
unfolding digits encode_with
returns-clause-inserts c = refl

pub returns-clause-replaces : goal.returns-clause-replaces
unfolding digits
returns-clause-replaces c = refl

pub returns-clause-updates : goal.returns-clause-updates
unfolding digits
returns-clause-updates c = refl

pub returns-clause-deletes : goal.returns-clause-deletes
unfolding digits
returns-clause-deletes c = refl
