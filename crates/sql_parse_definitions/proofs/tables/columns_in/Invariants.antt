use Rattle.std.proofs.Common.{◌≡◌, ◌++◌, drop}
use Rattle.sql_syntax.specs.Tables.{columns_in}
use Rattle.sql_parse_definitions.proofs.tables.columns_in.Given as goal

abbrev pub invariant-loop-part : goal.invariant-loop-part
invariant-loop-part l = l.columns ++ columns_in l.key (drop l.part-index l.parts) ≡ columns_in l.key l.parts
