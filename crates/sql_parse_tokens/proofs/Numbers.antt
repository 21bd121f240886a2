-- Tokens that are numbers.
use Rattle.std.proofs.Common.{◌≡◌, Bool, true, false, List, [], ◌∷◌, Some, Ok, refl, sym, ap, ◌∙◌}
use Rattle.sql_grammar.specs.Reader.{take_by}
use Rattle.sql_grammar.specs.Rule.{token, only_then}
use Rattle.sql_grammar.specs.Sets.{member}
use Rattle.sql_syntax.specs.Tokens.{Tok, kind, number_code, least_digits}

taken_by : (b : Bool) (t u : Tok) (ts us : List Tok) → take_by (t ∷ ts) ts (only_then b (Some t)) ≡ Ok (u, us) → (b ≡ true) × (t ≡ u)
taken_by true t u ts us e = let q : (t, ts) ≡ (u, us) = cc in (refl, ap (λ (z : Tok × List Tok). z.0) q)
taken_by false t u ts us e = cc

-- a token of the kind of numbers is not the one behind a minus
pub number_taken : (ts us : List Tok) (u : Tok) → (token kind (number_code ∷ []) (λ t. Some t)).read ts ≡ Ok (u, us) → u ≡ least_digits → ⊥
unfolding kind
number_taken [] us u e f = cc
number_taken (t ∷ ts) us u e f =
    let h = taken_by (member (kind t) (number_code ∷ [])) t u ts us e in
    let k : member (kind least_digits) (number_code ∷ []) ≡ true = ap (λ u. member (kind u) (number_code ∷ [])) (sym (h.1 ∙ f)) ∙ h.0 in
    cc
