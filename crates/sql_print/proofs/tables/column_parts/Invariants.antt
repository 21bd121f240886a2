use Rattle.std.proofs.Common.{◌≡◌, take, map}
use Rattle.sql_print.specs.StatementSpelling.{column_text}
use Rattle.sql_print.proofs.tables.column_parts.Given as goal

abbrev pub invariant-loop-column : goal.invariant-loop-column
invariant-loop-column l = l.parts ≡ map column_text (take l.column-index l.columns)
