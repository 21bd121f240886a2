-- The table of keywords, pinned: each keyword stands at its place, so that what is computed of the whole table holds of each.
use Rattle.std.proofs.Common.{◌≡◌, refl, sym, ap, ◌∙◌, ℕ, zero, suc, Bool, true, false, List, [], ◌∷◌, length, map, Option, Some, None}
use Rattle.std.proofs.lemmas.Bool.{and_parts, eqb-true}
use Rattle.std.specs.Prelude.{nat_eq}
use Rattle.std.specs.List.{list_all}
use Rattle.sql_lex.specs.declared.keyword.Keyword.{Keyword}
use Rattle.sql_lex.specs.declared.keyword.Keyword.TheVariants.{Alter}
use Rattle.sql_lex.specs.Keywords.{word_of, place_of, keywords, keyword_of}

-- numbers from one on, as many as the second says
counted : ℕ → ℕ → List ℕ
counted n zero = []
counted n (suc more) = n ∷ counted (suc n) more

-- the places count up from 0, in the order of the table
in_order : map place_of keywords ≡ counted 0 (length keywords)
unfolding counted
in_order = refl

-- the keyword at a place of a list
at_place : List Keyword → ℕ → Option Keyword
at_place [] n = None
at_place (k ∷ ks) zero = Some k
at_place (k ∷ ks) (suc n) = at_place ks n

-- what is computed of each in a list holds of the one at a place
all_at : (P : Keyword → Bool) (ks : List Keyword) (n : ℕ) (k : Keyword) → list_all P ks ≡ true → at_place ks n ≡ Some k → P k ≡ true
unfolding at_place
all_at P [] n k h e = cc
all_at P (x ∷ ks) zero k h e = let p = and_parts (P x) (list_all P ks) h in cc
all_at P (x ∷ ks) (suc n) k h e = let p = and_parts (P x) (list_all P ks) h in all_at P ks n k p.1 e

-- each keyword stands at its place: the first line splits the keywords, and the second is checked for each of the others
placed : (k : Keyword) → at_place keywords (place_of k) ≡ Some k
unfolding at_place
placed Alter = refl
placed k = refl

-- what is computed of the whole table holds of each keyword
pub all_keywords : (P : Keyword → Bool) → list_all P keywords ≡ true → (k : Keyword) → P k ≡ true
all_keywords P h k = all_at P keywords (place_of k) k h (placed k)

-- whether a keyword was found, by its place
abbrev pub is_found : Option Keyword → Keyword → Bool
is_found None k = false
is_found (Some j) k = nat_eq (place_of j) (place_of k)

-- a keyword is told by its place
same_place : (j k : Keyword) → place_of j ≡ place_of k → j ≡ k
same_place j k e =
    let found : Some j ≡ Some k = sym (placed j) ∙ (ap (at_place keywords) e ∙ placed k) in cc

pub found_is : (o : Option Keyword) (k : Keyword) → is_found o k ≡ true → o ≡ Some k
found_is None k h = cc
found_is (Some j) k h = ap Some (same_place j k (eqb-true (place_of j) (place_of k) h))

-- each keyword is the one that its word names
pub word_found : (k : Keyword) → keyword_of (word_of k) ≡ Some k
word_found k = found_is (keyword_of (word_of k)) k (all_keywords (λ j. is_found (keyword_of (word_of j)) j) refl k)
