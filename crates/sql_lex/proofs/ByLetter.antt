-- A word is looked up among the keywords of its first letter.
use Rattle.std.proofs.Common.{◌≡◌, refl, sym, subst, ℕ, Bool, true, false, cond, List, [], ◌∷◌, length, map, Option, Some, None, zero, suc, slice_index_or, Bor, get_or, ◌<◌, ◌≤◌, arith}
use Rattle.std.specs.Char.{to_ascii_lowercase}
use Rattle.sql_lex.specs.Folded.{folded}
use Rattle.std.specs.Str.{bytes_eq}
use Rattle.std.proofs.lemmas.Slice.Eq.{bytes_eq-Decides}
use Rattle.sql_lex.specs.declared.keyword.Keyword.{Keyword}
use Rattle.sql_lex.specs.Keywords.{word_of, keywords, keyword_among, keyword_of}
use Rattle.sql_lex.specs.ByLetter.{row_at, beginning_with}
use Rattle.sql_lex.proofs.KeywordLaws.{all_keywords, is_found, found_is, word_found}

-- the keyword that a word is among those of its first letter
among_letter : List ℕ → Option Keyword
among_letter [] = None
among_letter (b ∷ bs) = keyword_among (beginning_with b) (b ∷ bs)

-- each keyword stands in the row of its first letter
listed : (k : Keyword) → among_letter (word_of k) ≡ Some k
unfolding among_letter
listed k = found_is (among_letter (word_of k)) k (all_keywords (λ j. is_found (among_letter (word_of j)) j) refl k)

-- a keyword that is found has the word
first_has : (x : Keyword) (r : Option Keyword) (word : List ℕ) (k : Keyword) (b : Bool) → bytes_eq (word_of x) word ≡ b → (r ≡ Some k → word_of k ≡ word)
    → cond b (Some x) r ≡ Some k → word_of k ≡ word
first_has x r word k true same rest e = let has = (bytes_eq-Decides (word_of x) word).0 same in cc
first_has x r word k false same rest e = rest e

has_word : (ks : List Keyword) (word : List ℕ) (k : Keyword) → keyword_among ks word ≡ Some k → word_of k ≡ word
has_word [] word k e = cc
has_word (x ∷ ks) word k e = first_has x (keyword_among ks word) word k (bytes_eq (word_of x) word) refl (has_word ks word k) e

-- two ways to find a keyword agree where each finds a word's keyword, and keywords that have the word alone
agree : (o p : Option Keyword) → ((k : Keyword) → o ≡ Some k → p ≡ Some k) → ((k : Keyword) → p ≡ Some k → o ≡ Some k) → o ≡ p
agree (Some k) p s t = sym (s k refl)
agree None (Some k) s t = t k refl
agree None None s t = refl

same_found : (f g : List ℕ → Option Keyword)
    → ((word : List ℕ) (k : Keyword) → f word ≡ Some k → word_of k ≡ word) → ((k : Keyword) → f (word_of k) ≡ Some k)
    → ((word : List ℕ) (k : Keyword) → g word ≡ Some k → word_of k ≡ word) → ((k : Keyword) → g (word_of k) ≡ Some k)
    → (word : List ℕ) → f word ≡ g word
same_found f g has_f found_f has_g found_g word =
    agree (f word) (g word) (λ k e. subst (λ w. g w ≡ Some k) (has_f word k e) (found_g k)) (λ k e. subst (λ w. f w ≡ Some k) (has_g word k e) (found_f k))

letter_has : (word : List ℕ) (k : Keyword) → among_letter word ≡ Some k → word_of k ≡ word
unfolding among_letter
letter_has [] k e = cc
letter_has (b ∷ bs) k e = has_word (beginning_with b) (b ∷ bs) k e

by_letter : (word : List ℕ) → among_letter word ≡ keyword_of word
by_letter = same_found among_letter keyword_of letter_has listed (has_word keywords) word_found

-- a word's keyword is one of its first letter
pub by_first : (word : List ℕ) → 1 ≤ length word → keyword_among (beginning_with (to_ascii_lowercase (get_or word 0 0))) (folded word) ≡ keyword_of (folded word)
unfolding among_letter
by_first [] some = absurd (omega arith)
by_first (b ∷ bs) some = by_letter (to_ascii_lowercase b ∷ folded bs)

-- the row that an index gives
pub row_here : (rows : List (Bor (List Keyword))) (i : ℕ) (d : Bor (List Keyword)) → i < length rows
    → (slice_index_or rows i d).now ≡ row_at i (map (λ row. row.now) rows)
row_here [] i d h = absurd (omega arith)
row_here (r ∷ rs) zero d h = refl
row_here (r ∷ rs) (suc i) d h = row_here rs i d (omega arith)
