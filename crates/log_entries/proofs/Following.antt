-- Entries one after the other.
use Rattle.std.proofs.Common.{◌≡◌, List, [], ◌∷◌, ◌++◌, Option, Some, None, refl}
use Rattle.std.specs.Option.{option_and_then}
use Rattle.val_types.specs.declared.change.Change.{Change}
use Rattle.catalog_rules.specs.Bases.{Base}
use Rattle.log_entries.specs.declared.entries.Entry.{Entry}
use Rattle.log_entries.specs.Entries.{entry_applied, after, EntriesGoOn}

module _ {I : Type 0} (changes_of : I → List Change) (define : I → Base → Option Base) where
  -- a step that is made or not, and then the rest
  behind : (first : Option Base) (front back : List (Entry I))
      → ((base : Base) → after changes_of define (front ++ back) base ≡ option_and_then (after changes_of define back) (after changes_of define front base))
      → option_and_then (after changes_of define (front ++ back)) first ≡ option_and_then (after changes_of define back) (option_and_then (after changes_of define front) first)
  behind None front back rest = refl
  behind (Some base) front back rest = rest base

  pub go_on : EntriesGoOn changes_of define
  go_on [] back base = refl
  go_on (e ∷ es) back base = behind (entry_applied changes_of define e base) es back (go_on es back)
