-- Constructs: the token that opens one, and what stands in it.
use Rattle.std.proofs.Common.{◌≡◌, ◌+◌, ℕ, zero, suc, pred, List, [], ◌∷◌, Option, Some, None, Result, Ok, Err, refl, arith}
use Rattle.sql_grammar.specs.Reader.{Read, bind, take_by, refuse_by}
use Rattle.sql_grammar.specs.Rule.{Rule, opened, any_of}
use Rattle.sql_syntax.specs.Tokens.{Tok, kind}
use Rattle.sql_syntax.specs.Parts.{opening}
use Rattle.sql_parse_nodes.specs.Kept.{Keeps}
use Rattle.sql_parse_tokens.proofs.Reading.{again, one_less}
use Rattle.sql_parse_tokens.specs.declared.fault.Stop.{Stop}
use Rattle.sql_parse_nodes.specs.declared.kept.Levelled.{Levelled}

-- The token, and what stands in the construct by a rule for one construct less.
pub opened_as : {B C : Type 0} (n k : ℕ) (g : B → C) (r : ℕ → Rule Tok B) (ts : List Tok)
    → (opened n (any_of kind k) (λ u b. g b) (r (pred n))).read ts ≡ bind ((opening n k).read ts) (λ x. bind ((r x.0).read x.1) (λ y. Ok (g y.0, y.1)))
opened_as zero k g r [] = refl
opened_as {B} {C} zero k g r (t ∷ ts) = refused (any_of kind k t)
  where
    refused : (o : Option (Unit {0})) → refuse_by {B = C} (t ∷ ts) o ≡ bind (refuse_by {B = ℕ} (t ∷ ts) o) (λ x. bind ((r x.0).read x.1) (λ y. Ok (g y.0, y.1)))
    refused None = refl
    refused (Some a) = refl
opened_as (suc n) k g r [] = refl
opened_as {B} {C} (suc n) k g r (t ∷ ts) = taken (any_of kind k t)
  where
    taken : (o : Option (Unit {0})) → bind (take_by (t ∷ ts) ts o) (λ x. bind ((r (pred (suc n))).read x.1) (λ y. Ok (g y.0, y.1)))
        ≡ bind (bind (take_by (t ∷ ts) ts o) (λ x. Ok (pred (suc n), x.1))) (λ x. bind ((r x.0).read x.1) (λ y. Ok (g y.0, y.1)))
    taken None = refl
    taken (Some a) = refl

module _ {X B : Type 0} (view : X → B) (depth_of : B → ℕ) (result : Result (Option (Levelled X) × List Tok) Stop) where
  -- what is kept of what is read behind a value
  pub keeps_behind : {A : Type 0} (first : Read Tok A) (x : A × List Tok) (next : A × List Tok → Read Tok B) → first ≡ Ok x → Keeps view depth_of result (next x)
      → Keeps view depth_of result (bind first (λ x. bind (next x) (λ y. Ok (y.0, y.1))))
  keeps_behind {A} first x next e h = rw (e, again (next x)) h

  -- what is kept of a construct
  pub keeps_opened : (n m k : ℕ) (r : ℕ → Rule Tok B) (ts us : List Tok) → (opening n k).read ts ≡ Ok (m, us) → m + 1 ≡ n → Keeps view depth_of result ((r m).read us)
      → Keeps view depth_of result ((opened n (any_of kind k) (λ u b. b) (r (pred n))).read ts)
  keeps_opened n m k r ts us e less h = rw (opened_as n k (λ b. b) r ts, e, again ((r m).read us)) h
