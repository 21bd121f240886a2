use Rattle.std.proofs.Common.{◌≡◌, map, drop}
use Rattle.std.specs.Char.{to_ascii_lowercase}
use Rattle.sql_tree.specs.BuiltIns.{named_among}
use Rattle.sql_tree.proofs.built_ins.named_among.Given as goal

abbrev pub invariant-loop-function : goal.invariant-loop-function
invariant-loop-function l = named_among (drop l.function-index l.functions) (map to_ascii_lowercase l.word) ≡ named_among l.functions (map to_ascii_lowercase l.word)
