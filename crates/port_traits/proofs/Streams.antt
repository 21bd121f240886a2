-- What several reads take together.
use Rattle.std.proofs.Common.{◌≡◌, ℕ, ◌<◌, List, [], ◌++◌, length, take, drop, Option, None, Some, IfSome, refl, sym, ap, ◌∙◌, append_assoc, append-nil, subst, take-append-drop, arith, ◌∷◌}
use Rattle.std.specs.Prelude.{option_map}
use Rattle.port_traits.specs.Streams.{Took}

-- what was read before, the bytes that a read took and what is left then are all that there was
pub Took-joined : (front : List ℕ) (before after : Option (List ℕ)) (count : ℕ) (buffer : List ℕ) → Took before after count buffer
    → option_map (λ rest. (front ++ take count buffer) ++ rest) after ≡ option_map (λ rest. front ++ rest) before
Took-joined front None after count buffer took = ap (option_map (λ rest. (front ++ take count buffer) ++ rest)) took.rest
Took-joined front (Some left) after count buffer took =
    ap (option_map (λ rest. (front ++ take count buffer) ++ rest)) took.rest ∙
    ap Some (append_assoc front (take count buffer) (drop count left) ∙ ap (λ bytes. front ++ bytes) (ap (λ bytes. bytes ++ drop count left) took.bytes ∙ take-append-drop count left))

-- nothing was left where a read with room took nothing
pub Took-end : (before after : Option (List ℕ)) (buffer : List ℕ) → Took before after 0 buffer → 0 < length buffer → IfSome before (λ left. left ≡ [])
Took-end None after buffer took room = tt
Took-end (Some []) after buffer took room = refl
Took-end (Some (x ∷ left)) after buffer took room = absurd (omega (arith, took.some room (omega arith)))

-- where a read with room took nothing, what was read before is all that there was
pub Took-all : (front : List ℕ) (start before after : Option (List ℕ)) (buffer : List ℕ) → option_map (λ rest. front ++ rest) before ≡ start
    → Took before after 0 buffer → 0 < length buffer → IfSome start (λ left. front ≡ left)
Took-all front start None after buffer whole took room = subst (λ (known : Option (List ℕ)). IfSome known (λ left. front ≡ left)) whole tt
Took-all front start (Some left) after buffer whole took room =
    subst (λ (known : Option (List ℕ)). IfSome known (λ all. front ≡ all)) whole
    (sym (append-nil front) ∙ ap (λ rest. front ++ rest) (sym (Took-end (Some left) after buffer took room)))
