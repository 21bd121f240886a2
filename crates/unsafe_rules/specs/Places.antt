-- The places that were found.
use Rattle.std.specs.Prelude.{ℕ, List, [], ◌∷◌}
use Rattle.unsafe_rules.specs.declared.found.Found.{fold-Found}
use Rattle.unsafe_rules.specs.declared.found.Found as code
use Rattle.unsafe_rules.specs.declared.found.Found.TheOpen.{Found-F}

abbrev found_step : Found-F (List ℕ) → List ℕ
found_step Found-F.Nothing = []
found_step (Found-F.More at before) = at ∷ before.now

abbrev pub places_of : code.Found → List ℕ
places_of = fold-Found (List ℕ) found_step
