-- Draws that are taken and told one by one.
use Rattle.std.proofs.Common.{◌≡◌, ◌+◌, List, [], ◌∷◌, ◌++◌, length, Option, Some, None, IfSome, option_map, sym, ap, ◌∙◌, subst, length-append}
use Rattle.std.specs.Prelude.{slice_get}
use Rattle.port_traits.specs.declared.identity.Draw.{Draw}
use Rattle.port_traits.specs.Draws.{draws_after, draws_left, handed_out}
use Rattle.port_traits.proofs.Draws.{handed_out-first, draws_left-next}
use Rattle.run_streams.specs.Reports.{Drawn}

-- one draw more, taken off what was left and told
pub drawing : (before after : Option (List Draw)) (old new : List Draw) (d : Draw) → IfSome before (λ left. slice_get left 0 ≡ Some d) → after ≡ option_map draws_after before → new ≡ old ++ d ∷ []
    → (start : Option (List Draw)) → Drawn start before old → Drawn start after new
drawing before after old new d first taken told None drawn = record { handed = tt; left = taken ∙ ap (option_map draws_after) drawn.left }
drawing before after old new d first taken told (Some ds) drawn =
    let count : length old + 1 ≡ length new = sym (ap length told ∙ length-append old (d ∷ [])) in
    let here : slice_get (draws_left (length old) ds) 0 ≡ Some d = subst (λ (b : Option (List Draw)). IfSome b (λ left. slice_get left 0 ≡ Some d)) drawn.left first in
    record {
      handed = told ∙ ap (λ draws. draws ++ d ∷ []) drawn.handed ∙ sym (handed_out-first (length old) ds d here) ∙ ap (λ n. handed_out n ds) count;
      left = taken ∙ ap (option_map draws_after) drawn.left ∙ ap Some (draws_left-next (length old) ds) ∙ ap (λ n. Some (draws_left n ds)) count;
    }
