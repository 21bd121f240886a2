-- The name of a table, if there is one.
use Rattle.std.specs.Prelude.{ℕ, List, [], Option, Some, None}

-- that name, empty where there is none
abbrev pub name_in : Option (List ℕ) → List ℕ
name_in None = []
name_in (Some name) = name
