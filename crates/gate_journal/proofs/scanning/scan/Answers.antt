use Rattle.std.proofs.Common.{refl}
use Rattle.gate_journal.proofs.Journals.{read_now}
use Rattle.gate_journal.proofs.scanning.scan.Goals as goal

pub found-requires : goal.found-requires
found-requires g c = (record { bodies = c.in-Ok.field-0.bodies; gates = c.in-Ok.field-0.gates; gate = c.in-Ok.field-0.gate }, c.in-Ok.ensures.found, refl)

pub returns-in-Ok-clause-journal : goal.returns-in-Ok-clause-journal
returns-in-Ok-clause-journal g c = c.found.ensures.found _ (read_now _ _ _ _ _ c.whole_file.ensures.quiet c.as_slice-contents.ensures c.in_ok-bytes.ensures.bytes)
