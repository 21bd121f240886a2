use Rattle.row_laws.proofs.Writable.{writable}
use Rattle.test_items.proofs.Written.{can_carry, can_write}
use Rattle.test_items.proofs.rows.written.Goals as goal

pub encode_rows-requires-clause-rows : goal.encode_rows-requires-clause-rows
encode_rows-requires-clause-rows c = rw (c.requires.tables, c.requires.changes) can_carry

pub encode_rows-requires-clause-events : goal.encode_rows-requires-clause-events
encode_rows-requires-clause-events c = rw (c.requires.tables, c.requires.changes) can_write
