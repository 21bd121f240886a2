use Rattle.std.proofs.Common.{◌≡◌, drop}
use Rattle.sql_syntax.specs.Tables.{key_in}
use Rattle.sql_parse_definitions.proofs.tables.key_in.Given as goal

abbrev pub invariant-loop-part : goal.invariant-loop-part
invariant-loop-part l = key_in (drop l.part-index l.parts) ≡ key_in l.parts
