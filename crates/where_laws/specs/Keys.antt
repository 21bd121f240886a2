-- The keys that facts name, and the rows that have them.
use Rattle.std.specs.Prelude.{ℕ, Bool, true, false, ◌&&◌, ◌==◌, if◌then◌else◌, List, [], ◌∷◌, filter, Option, Some, None}
use Rattle.std.specs.Option.{option_map, option_and_then}
use Rattle.val_types.specs.declared.value.Value.{Value}
use Rattle.val_types.specs.Keys.{same_values, values_at}
use Rattle.where_laws.specs.Facts.{Way, equal, unequal, below, at_most, above, at_least, Fact}

-- whether a way is that of equal values
abbrev pub is_equality : Way → Bool
is_equality equal = true
is_equality unequal = false
is_equality below = false
is_equality at_most = false
is_equality above = false
is_equality at_least = false

-- whether a fact names the value of a column
abbrev pub names : ℕ → Fact → Bool
names place fact = fact.place == place && is_equality fact.way

-- the value that facts name for a column, the first where there are more, None where there is none
abbrev pub named_value : List Fact → ℕ → Option Value
named_value [] place = None
named_value (fact ∷ facts) place = if names place fact then Some fact.value else named_value facts place

-- the values that they name for some columns, None where one of these has none
abbrev pub key_named : List Fact → List ℕ → Option (List Value)
key_named facts [] = Some []
key_named facts (place ∷ places) = option_and_then (λ v. option_map (λ (vs : List Value). v ∷ vs) (key_named facts places)) (named_value facts place)

-- whether a row has some values in some columns
abbrev pub has_values : List ℕ → List Value → List Value → Bool
has_values places values row = same_values values (values_at places row)

-- the facts about one column, which tell a range of its values
abbrev pub facts_at : ℕ → List Fact → List Fact
facts_at place facts = filter (λ (fact : Fact). fact.place == place) facts
