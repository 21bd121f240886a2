use Rattle.std.proofs.Common.{◌≡◌, take, map}
use Rattle.sql_print.specs.StatementSpelling.{unique_text}
use Rattle.sql_print.proofs.tables.unique_parts.Given as goal

abbrev pub invariant-loop-key : goal.invariant-loop-key
invariant-loop-key l = l.parts ≡ map unique_text (take l.key-index l.keys)
