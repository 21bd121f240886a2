use Rattle.std.proofs.Common.{drop}
use Rattle.sql_parse_definitions.specs.NameSets.{HoldsBut}
use Rattle.sql_parse_definitions.proofs.name_set.NameSet.of.Given as goal

abbrev pub invariant-loop-name : goal.invariant-loop-name
invariant-loop-name l = HoldsBut l.set (drop l.name-index l.names) l.names
