-- White space and comments in a slice of a text.
use Rattle.std.proofs.Common.{◌≡◌, ℕ, zero, suc, ◌+◌, ◌-◌, ◌≤◌, ◌<◌, min, inl, inr, ◌⊎◌, Bool, true, false, cond, ◌&&◌, ◌==◌, List, [], ◌∷◌, length, take, drop, Option, Some, None, refl, sym, ap, ◌∙◌, subst, arith}
use Rattle.std.specs.Prelude.{unwrap_or}
use Rattle.std.proofs.lemmas.List.{drop-take, take-take}
use Rattle.sql_lex.specs.Quotes.{begins, further}
use Rattle.sql_lex.specs.Blanks.{is_white_first, is_white_next, line_length, closes_block, block_length, opens_line, opens_block, blank_length, IsBlank, piece'}

begins_take : (c k : ℕ) (bs : List ℕ) → 1 ≤ k → begins c (take k bs) ≡ begins c bs
begins_take c zero bs l = absurd (omega arith)
begins_take c (suc k) [] l = refl
begins_take c (suc k) (b ∷ bs) l = refl

white_take : (k : ℕ) (bs : List ℕ) → 1 ≤ k → is_white_first (take k bs) ≡ is_white_first bs
white_take zero bs l = absurd (omega arith)
white_take (suc k) [] l = refl
white_take (suc k) (b ∷ bs) l = refl

next_take : (k : ℕ) (bs : List ℕ) → min 1 (length bs) ≤ k → is_white_next (take k bs) ≡ is_white_next bs
next_take zero [] l = refl
next_take zero (b ∷ bs) l = absurd (omega arith)
next_take (suc k) [] l = refl
next_take (suc k) (b ∷ bs) l = refl

bang_take : (k : ℕ) (bs : List ℕ) → min 1 (length bs) ≤ k → begins 33 (take k bs) ≡ begins 33 bs
bang_take zero [] l = refl
bang_take zero (b ∷ bs) l = absurd (omega arith)
bang_take (suc k) [] l = refl
bang_take (suc k) (b ∷ bs) l = refl

-- ---- comments to the end of the line
line_some : (b : ℕ) (bs : List ℕ) → 1 ≤ line_length (b ∷ bs)
line_some b bs = elim (b == 10) as (λ c. 1 ≤ cond c 1 (suc (line_length bs))) [ true ↦ omega arith | false ↦ omega arith ]

line_cases : (c : Bool) (x k : ℕ) → cond c 1 (suc x) ≤ suc k → (c ≡ true) ⊎ (x ≤ k)
line_cases true x k l = inl refl
line_cases false x k l = inr (omega arith)

line_take : (k : ℕ) (bs : List ℕ) → line_length bs ≤ k → line_length (take k bs) ≡ line_length bs
line_take zero [] l = refl
line_take zero (b ∷ bs) l = let s = line_some b bs in absurd (omega arith)
line_take (suc k) [] l = refl
line_take (suc k) (b ∷ bs) l =
    elim (line_cases (b == 10) (line_length bs) k l) [
      | inl e ↦ rw e refl
      | inr m ↦ ap (λ x. cond (b == 10) 1 (suc x)) (line_take k bs m)
    ]

line_next : (bs : List ℕ) → min 1 (length bs) ≤ line_length bs
line_next [] = omega arith
line_next (b ∷ bs) = let s = line_some b bs in omega arith

-- ---- comments to a star and a slash
further_is : (o : Option ℕ) (j : ℕ) → further 1 o ≡ Some j → (i : ℕ) × (o ≡ Some i) × (j ≡ 1 + i)
further_is None j e = cc
further_is (Some i) j e = (i, refl, (let s : 1 + i ≡ j = cc in sym s))

block_cases : (c : Bool) (o : Option ℕ) (j : ℕ) → cond c (Some 2) (further 1 o) ≡ Some j → ((c ≡ true) × (j ≡ 2)) ⊎ ((c ≡ false) × ((i : ℕ) × (o ≡ Some i) × (j ≡ 1 + i)))
block_cases true o j e = inl (refl, (let s : 2 ≡ j = cc in sym s))
block_cases false o j e = inr (refl, further_is o j e)

block_two : (bs : List ℕ) (j : ℕ) → block_length bs ≡ Some j → 2 ≤ j
block_two [] j e = cc
block_two (b ∷ bs) j e =
    elim (block_cases (closes_block b bs) (block_length bs) j e) [
      | inl s ↦ omega (arith, s.1)
      | inr s ↦ (let m = block_two bs s.1.0 s.1.1 in omega (arith, s.1.2))
    ]

closes_take : (b k : ℕ) (bs : List ℕ) → 1 ≤ k → closes_block b (take k bs) ≡ closes_block b bs
closes_take b k bs l = ap (λ c. b == 42 && c) (begins_take 47 k bs l)

block_take : (k : ℕ) (bs : List ℕ) (j : ℕ) → block_length bs ≡ Some j → j ≤ k → block_length (take k bs) ≡ Some j
block_take k [] j e l = cc
block_take zero (b ∷ bs) j e l = let m = block_two (b ∷ bs) j e in absurd (omega arith)
block_take (suc k) (b ∷ bs) j e l =
    let m = block_two (b ∷ bs) j e in
    let same = closes_take b k bs (omega arith) in
    elim (block_cases (closes_block b bs) (block_length bs) j e) [
      | inl s ↦ rw (same, s.0) (ap Some (sym s.1))
      | inr s ↦ (let more = block_take k bs s.1.0 s.1.1 (omega (arith, s.1.2)) in rw (same, s.0, more) (ap Some (sym s.1.2)))
    ]

block_next : (bs : List ℕ) (j : ℕ) → block_length bs ≡ Some j → min 1 (length bs) ≤ j
block_next bs j e = let m = block_two bs j e in omega arith

-- ---- any blank
module _ (k : ℕ) (bs : List ℕ) where
  abbrev rest : List ℕ
  rest = drop 2 bs

  behind_take : drop 2 (take (2 + k) bs) ≡ take k rest
  behind_take = drop-take 2 k bs

  front_take : take 2 (take (2 + k) bs) ≡ take 2 bs
  front_take = take-take 2 (2 + k) bs (omega arith)

  line_opens : min 1 (length rest) ≤ k → opens_line (take (2 + k) bs) ≡ opens_line bs
  line_opens l = rw (front_take, behind_take, next_take k rest l) refl

  block_opens : min 1 (length rest) ≤ k → opens_block (take (2 + k) bs) ≡ opens_block bs
  block_opens l = rw (front_take, behind_take, bang_take k rest l) refl

  white_blank : is_white_first bs ≡ true → blank_length bs ≡ 1
  white_blank w = rw w refl

  line_blank : is_white_first bs ≡ false → opens_line bs ≡ true → blank_length bs ≡ 2 + line_length rest
  line_blank w e = rw (w, e) refl

  block_blank : is_white_first bs ≡ false → opens_line bs ≡ false → opens_block bs ≡ true → blank_length bs ≡ unwrap_or (further 2 (block_length rest)) 0
  block_blank w e f = rw (w, e, f) refl

  no_blank : is_white_first bs ≡ false → opens_line bs ≡ false → opens_block bs ≡ false → blank_length bs ≡ 0
  no_blank w e f = rw (w, e, f) refl

bool_cases : (b : Bool) → (b ≡ true) ⊎ (b ≡ false)
bool_cases true = inl refl
bool_cases false = inr refl

block_known : (o : Option ℕ) → 0 < unwrap_or (further 2 o) 0 → (j : ℕ) × (o ≡ Some j)
block_known None l = absurd (omega arith)
block_known (Some j) l = (j, refl)

same_line : (k : ℕ) (bs : List ℕ) → is_white_first bs ≡ false → opens_line bs ≡ true → line_length (drop 2 bs) ≤ k → blank_length (take (2 + k) bs) ≡ blank_length bs
same_line k bs w e l =
    let m : min 1 (length (drop 2 bs)) ≤ k = (let s = line_next (drop 2 bs) in omega arith) in
    let white : is_white_first (take (2 + k) bs) ≡ false = white_take (2 + k) bs (omega arith) ∙ w in
    line_blank k (take (2 + k) bs) white (line_opens k bs m ∙ e)
    ∙ (ap (λ us. 2 + line_length us) (behind_take k bs) ∙ (ap (λ x. 2 + x) (line_take k (drop 2 bs) l) ∙ sym (line_blank k bs w e)))

same_block : (k j : ℕ) (bs : List ℕ) → is_white_first bs ≡ false → opens_line bs ≡ false → opens_block bs ≡ true → block_length (drop 2 bs) ≡ Some j → j ≤ k
    → blank_length (take (2 + k) bs) ≡ blank_length bs
same_block k j bs w e f g l =
    let m : min 1 (length (drop 2 bs)) ≤ k = (let s = block_next (drop 2 bs) j g in omega arith) in
    let white : is_white_first (take (2 + k) bs) ≡ false = white_take (2 + k) bs (omega arith) ∙ w in
    let kept : block_length (take k (drop 2 bs)) ≡ block_length (drop 2 bs) = block_take k (drop 2 bs) j g l ∙ sym g in
    block_blank k (take (2 + k) bs) white (line_opens k bs m ∙ e) (block_opens k bs m ∙ f)
    ∙ (ap (λ us. unwrap_or (further 2 (block_length us)) 0) (behind_take k bs) ∙ (ap (λ o. unwrap_or (further 2 o) 0) kept ∙ sym (block_blank k bs w e f)))

two_more : (n : ℕ) → 2 ≤ n → n ≡ 2 + (n - 2)
two_more n l = omega arith

same_dark : (n : ℕ) (bs : List ℕ) → is_white_first bs ≡ false → 0 < blank_length bs → blank_length bs ≤ n → blank_length (take n bs) ≡ blank_length bs
same_dark n bs w some l =
    elim (bool_cases (opens_line bs)) [
      | inl e ↦ (let is = line_blank 0 bs w e in
          let two : 2 ≤ n = omega arith in
          let wide : line_length (drop 2 bs) ≤ n - 2 = omega arith in
          rw (two_more n two) (same_line (n - 2) bs w e wide))
      | inr e ↦ elim (bool_cases (opens_block bs)) [
        | inl f ↦ (let is = block_blank 0 bs w e f in
            let known = block_known (block_length (drop 2 bs)) (omega arith) in
            let long : blank_length bs ≡ 2 + known.0 = is ∙ ap (λ o. unwrap_or (further 2 o) 0) known.1 in
            let two : 2 ≤ n = omega arith in
            let wide : known.0 ≤ n - 2 = omega arith in
            rw (two_more n two) (same_block (n - 2) known.0 bs w e f known.1 wide))
        | inr f ↦ (let is = no_blank 0 bs w e f in absurd (omega arith))
      ]
    ]

-- a blank is the same in a slice that holds it
pub blank_take : (n : ℕ) (bs : List ℕ) → 0 < blank_length bs → blank_length bs ≤ n → blank_length (take n bs) ≡ blank_length bs
blank_take n bs some l =
    elim (bool_cases (is_white_first bs)) [
      | inl w ↦ (let one : 1 ≤ n = omega arith in white_blank 0 (take n bs) (white_take n bs one ∙ w) ∙ sym (white_blank 0 bs w))
      | inr w ↦ same_dark n bs w some l
    ]

-- a blank and the blanks behind it
pub blank_joins : (bs : List ℕ) (count n : ℕ) → blank_length bs ≡ count → 0 < count → IsBlank (take n (drop count bs)) → IsBlank (take (count + n) bs)
blank_joins bs count n e some more =
    let same : blank_length (take (count + n) bs) ≡ count = blank_take (count + n) bs (omega arith) (omega arith) ∙ e in
    let tail : drop (blank_length (take (count + n) bs)) (take (count + n) bs) ≡ take n (drop count bs) =
    ap (λ k. drop k (take (count + n) bs)) same ∙ drop-take count n bs in
    piece' (omega arith) (subst (λ (us : List ℕ). IsBlank us) (sym tail) more)
