use Rattle.std.proofs.Common.{◌≡◌, ◌++◌, drop}
use Rattle.sql_syntax.specs.Tables.{uniques_in}
use Rattle.sql_parse_definitions.proofs.tables.uniques_in.Given as goal

abbrev pub invariant-loop-part : goal.invariant-loop-part
invariant-loop-part l = l.keys ++ uniques_in (drop l.part-index l.parts) ≡ uniques_in l.parts
