use Rattle.gate_journal.specs.Records.{none_from}
use Rattle.gate_journal.proofs.Reading.{records_short}
use Rattle.std.proofs.Common.{[], refl, arith}
use Rattle.store_load.proofs.stored.Stored.begun.Goals as goal

pub found-requires : goal.found-requires
found-requires c = (none_from 0, records_short [] (omega arith), refl)
