use Rattle.gate_journal.proofs.Journals.{read_now}
use Rattle.store_load.proofs.journal.read_journal.Goals as goal

pub returns-in-Ok-clause-journal : goal.returns-in-Ok-clause-journal
returns-in-Ok-clause-journal g c = c.found.ensures.found _ (read_now _ _ _ _ _ c.whole_file.ensures.quiet c.as_slice-contents.ensures c.in_ok-bytes.ensures.bytes)
