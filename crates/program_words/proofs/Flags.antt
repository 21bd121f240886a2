-- Words that begin with a hyphen ask for nothing.
use Rattle.std.proofs.Common.{◌≡◌, ℕ, ◌==◌, ◌||◌, Bool, true, false, if◌then◌else◌, List, [], ◌∷◌, codes, None, Option, ◌⊎◌, inl, inr, ap, refl, eqb-true}
use Rattle.std.specs.List.{list_any}
use Rattle.std.specs.Str.{bytes_eq}
use Rattle.std.proofs.lemmas.Bool.{false≢true}
use Rattle.program_words.specs.declared.words.Word.{Word}
use Rattle.program_words.specs.Words.{pair_asked, word_named, words_asked}

-- whether a word begins with a hyphen
abbrev pub is_flag : List ℕ → Bool
is_flag [] = false
is_flag (b ∷ bs) = b == 45

flag_is : (word : List ℕ) → is_flag word ≡ true → (bs : List ℕ) × (word ≡ 45 ∷ bs)
flag_is [] e = absurd (false≢true e)
flag_is (b ∷ bs) e = (bs, ap (λ c. c ∷ bs) (eqb-true b 45 e))

flag_alone : (word : List ℕ) → is_flag word ≡ true → word_named word ≡ None
flag_alone word e = let flag = flag_is word e in rw flag.1 refl

flag_first : (word digits : List ℕ) → is_flag word ≡ true → pair_asked word digits ≡ None
flag_first word digits e = let flag = flag_is word e in rw flag.1 refl

abbrev nothing : Option Word
nothing = None

none_anyway : (s t : Bool) → (if s then nothing else if t then nothing else nothing) ≡ nothing
none_anyway true t = refl
none_anyway false true = refl
none_anyway false false = refl

flag_second : (word digits : List ℕ) → is_flag digits ≡ true → pair_asked word digits ≡ None
flag_second word digits e = let flag = flag_is digits e in rw flag.1 (none_anyway (bytes_eq word (codes "dump")) (bytes_eq word (codes "gen")))

one_is : (a b : Bool) → (a || b) ≡ true → (a ≡ true) ⊎ (b ≡ true)
one_is true b e = inl refl
one_is false b e = inr e

-- words of which one begins with a hyphen ask for nothing
pub flags_refused : (words : List (List ℕ)) → list_any is_flag words ≡ true → words_asked words ≡ None
flags_refused [] e = refl
flags_refused (word ∷ []) e = elim (one_is (is_flag word) false e) [ inl flag ↦ flag_alone word flag | inr none ↦ absurd (false≢true none) ]
flags_refused (word ∷ digits ∷ []) e = elim (one_is (is_flag word) (is_flag digits || false) e) [
  | inl flag ↦ flag_first word digits flag
  | inr more ↦ elim (one_is (is_flag digits) false more) [ inl flag ↦ flag_second word digits flag | inr none ↦ absurd (false≢true none) ]
]
flags_refused (a ∷ b ∷ c ∷ words) e = refl
