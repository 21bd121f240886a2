-- Bytes of parts of files, and of a piece over a file.
use Rattle.std.proofs.Common.{◌≡◌, ℕ, ◌+◌, ◌-◌, ◌<◌, ◌≤◌, List, ◌++◌, length, take, drop, get_or, ◌∙◌, ap, subst, arith, ◌⊎◌, inl, inr}
use Rattle.std.proofs.lemmas.List.{length-append, length-take, length-drop, length-take-le, get_or-take, get_or-drop, get_or_append_left, get_or-append-add}
use Rattle.std.proofs.Math.ListN.{get_or-eq_default}
use Rattle.std.proofs.lemmas.Bool.{cases_lt}
use Rattle.hex.specs.Hex.{IsBytes}

-- a byte past the end reads as 0
default_is_byte : (xs : List ℕ) (i : ℕ) → length xs ≤ i → get_or xs i 0 < 256
default_is_byte xs i le = let e = get_or-eq_default xs 0 {n = i} le in omega (arith, e)

-- bytes where there are any are bytes everywhere
pub bytes_within : (xs : List ℕ) → ((i : ℕ) → i < length xs → get_or xs i 0 < 256) → IsBytes xs
bytes_within xs within i = by_place (cases_lt i (length xs))
  where
    by_place : (i < length xs) ⊎ (length xs ≤ i) → get_or xs i 0 < 256
    by_place (inl lt) = within i lt
    by_place (inr le) = default_is_byte xs i le

pub bytes_take : (n : ℕ) (xs : List ℕ) → IsBytes xs → IsBytes (take n xs)
bytes_take n xs bytes = bytes_within (take n xs) (λ i lt.
    let e = get_or-take n xs i 0 (omega (arith, length-take n xs)) in omega (arith, e, bytes i))

pub bytes_drop : (n : ℕ) (xs : List ℕ) → IsBytes xs → IsBytes (drop n xs)
bytes_drop n xs bytes i = let e = get_or-drop n xs i 0 in omega (arith, e, bytes (n + i))

append_right : (xs ys : List ℕ) (i : ℕ) → length xs ≤ i → get_or (xs ++ ys) i 0 ≡ get_or ys (i - length xs) 0
append_right xs ys i le =
    let e : length xs + (i - length xs) ≡ i = omega arith in
    subst (λ k. get_or (xs ++ ys) k 0 ≡ get_or ys (i - length xs) 0) e (get_or-append-add xs ys (i - length xs) 0)

pub bytes_append : (xs ys : List ℕ) → IsBytes xs → IsBytes ys → IsBytes (xs ++ ys)
bytes_append xs ys p q i = by_place (cases_lt i (length xs))
  where
    by_place : (i < length xs) ⊎ (length xs ≤ i) → get_or (xs ++ ys) i 0 < 256
    by_place (inl lt) = let e = get_or_append_left xs ys 0 i lt in omega (arith, e, p i)
    by_place (inr le) = let e = append_right xs ys i le in omega (arith, e, q (i - length xs))

-- ---- a piece over what stands from a place within a file on

module _ (at : ℕ) (piece file : List ℕ) (within : at ≤ length file) where
  over : List ℕ
  over = take at file ++ piece ++ drop (at + length piece) file

  front_length : length (take at file ++ piece) ≡ at + length piece
  front_length = omega (arith, length-append (take at file) piece, length-take-le at file within)

  pub over_length : length (take at file ++ piece ++ drop (at + length piece) file) ≡ at + length piece + (length file - (at + length piece))
  over_length = omega (arith, length-append (take at file ++ piece) (drop (at + length piece) file), length-drop (at + length piece) file, front_length)

  pub over_before : (i : ℕ) → i < at → get_or (take at file ++ piece ++ drop (at + length piece) file) i 0 ≡ get_or file i 0
  over_before i lt =
      get_or_append_left (take at file ++ piece) (drop (at + length piece) file) 0 i (omega (arith, front_length))
      ∙ get_or_append_left (take at file) piece 0 i (omega (arith, length-take-le at file within)) ∙ get_or-take at file i 0 lt

  pub over_behind : (i : ℕ) → at + length piece ≤ i → get_or (take at file ++ piece ++ drop (at + length piece) file) i 0 ≡ get_or file i 0
  over_behind i le =
      let right = append_right (take at file ++ piece) (drop (at + length piece) file) i (omega (arith, front_length)) in
      let e : at + length piece + (i - length (take at file ++ piece)) ≡ i = omega (arith, front_length) in
      right ∙ get_or-drop (at + length piece) file (i - length (take at file ++ piece)) 0 ∙ ap (λ k. get_or file k 0) e

  pub over_bytes : IsBytes piece → IsBytes file → IsBytes (take at file ++ piece ++ drop (at + length piece) file)
  over_bytes p q = bytes_append (take at file ++ piece) (drop (at + length piece) file)
      (bytes_append (take at file) piece (bytes_take at file q) p) (bytes_drop (at + length piece) file q)
