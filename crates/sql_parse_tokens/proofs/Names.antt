-- Which keywords may be names, and which call stored functions.
use Rattle.std.proofs.Common.{◌≡◌, Bool, true, false, not, ◌&&◌, nat_le, refl}
use Rattle.sql_lex.specs.declared.keyword.Keyword.{Keyword}
use Rattle.sql_lex.specs.declared.keyword.Keyword.TheVariants.{Work}
use Rattle.sql_lex.specs.Keywords.{is_reserved}
use Rattle.sql_lex.proofs.KeywordLaws.{all_keywords}
use Rattle.sql_grammar.specs.Sets.{member}
use Rattle.sql_syntax.specs.Tokens.{code, names, own_names}

abbrev same : Bool → Bool → Bool
same true b = b
same false b = not b

same_is : (a b : Bool) → same a b ≡ true → a ≡ b
same_is true true e = refl
same_is true false e = cc
same_is false true e = cc
same_is false false e = refl

-- a keyword is a name where it is not reserved
pub name_word : (k : Keyword) → not (is_reserved k) ≡ member (code k) names
name_word k = same_is _ _ (all_keywords (λ k. same (not (is_reserved k)) (member (code k) names)) refl k)

own_by : (k : Keyword) → (not (is_reserved k) && nat_le (code k) (code Work)) ≡ member (code k) own_names
own_by k = same_is _ _ (all_keywords (λ k. same (not (is_reserved k) && nat_le (code k) (code Work)) (member (code k) own_names)) refl k)

-- one that is not reserved calls a stored function where it takes part in no call
pub own_word : (k : Keyword) → false ≡ is_reserved k → nat_le (code k) (code Work) ≡ member (code k) own_names
own_word k e = rw (← e) at (own_by k)

-- and a reserved one calls none
pub reserved_word : (k : Keyword) → true ≡ is_reserved k → false ≡ member (code k) own_names
reserved_word k e = rw (← e) at (own_by k)
