-- A name among some and others.
use Rattle.std.proofs.Common.{◌≡◌, ℕ, ◌||◌, List, ◌++◌}
use Rattle.std.proofs.lemmas.List.Folds.{list_any-append}
use Rattle.catalog_create_table.specs.catalog_rules.Names.{same_name, is_among}

pub among_append : (xs ys : List (List ℕ)) (name : List ℕ) → is_among (xs ++ ys) name ≡ (is_among xs name || is_among ys name)
among_append xs ys name = list_any-append (same_name name) xs ys
