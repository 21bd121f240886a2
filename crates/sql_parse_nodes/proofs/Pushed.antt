-- A list of one part, made of none.
use Rattle.std.proofs.Common.{◌≡◌, max, [], ◌∷◌, ◌++◌, Option, Some, None, refl, arith}
use Rattle.sql_parse_nodes.specs.declared.kept.Levelled.{Levelled}
use Rattle.sql_parse_nodes.specs.Kept.{beside, empty, in_place}

-- a part behind none is alone
pub alone_pushed : {X : Type 0} (k : Option (Levelled X)) → in_place (λ p. p.0 ++ p.1 ∷ []) (beside empty k) ≡ in_place (λ x. x ∷ []) k
alone_pushed None = refl
alone_pushed (Some l) = let e : max 0 l.levels ≡ l.levels = omega arith in rw e refl
