-- Names without regard to case.
use Rattle.std.specs.Prelude.{ℕ, List, map}
use Rattle.std.specs.Char.{to_ascii_lowercase}

-- a name in lower case
abbrev pub folded : List ℕ → List ℕ
folded = map to_ascii_lowercase
