-- Free numbers, and how many rows there are, as rows come and go.
use Rattle.std.proofs.Common.{◌≡◌, ◌≢◌, ℕ, zero, suc, ◌+◌, ◌<◌, ◌≤◌, List, [], ◌∷◌, ◌++◌, length, get_or, Bool, true, false, Option, Some, None, refl, sym, ap, subst, ◌∙◌, arith, append-nil}
use Rattle.std.proofs.lemmas.Option.{slice_get-get_or}
use Rattle.std.specs.Option.{option_and_then}
use Rattle.std.specs.Prelude.{IsSome, slice_get, slice_set, nat_lt, if◌then◌else◌}
use Rattle.std.proofs.lemmas.Bool.Decides.{nat_tests}
use Rattle.val_types.specs.declared.value.Value.{Value}
use Rattle.row_arena.specs.Arenas.{IsNotAmong, AreFree, count, IsFree, with_row_at}

-- ---- a place written, and others

pub get_other : (rows : List (Option (List Value))) (n m : ℕ) (x : Option (List Value)) → m ≢ n → slice_get (slice_set rows n x) m ≡ slice_get rows m
get_other [] n m x other = refl
get_other (r ∷ rows) zero zero x other = absurd (other refl)
get_other (r ∷ rows) zero (suc m) x other = refl
get_other (r ∷ rows) (suc n) zero x other = refl
get_other (r ∷ rows) (suc n) (suc m) x other = get_other rows n m x (λ e. other (ap suc e))

pub get_same : (rows : List (Option (List Value))) (n : ℕ) (x : Option (List Value)) → n < length rows → slice_get (slice_set rows n x) n ≡ Some x
get_same [] n x lt = absurd (omega (arith, lt))
get_same (r ∷ rows) zero x lt = refl
get_same (r ∷ rows) (suc n) x lt = get_same rows n x (omega (arith, lt))

get_front : (rows more : List (Option (List Value))) (n : ℕ) (x : Option (List Value)) → slice_get rows n ≡ Some x → slice_get (rows ++ more) n ≡ Some x
get_front [] more n x e = cc
get_front (r ∷ rows) more zero x e = e
get_front (r ∷ rows) more (suc n) x e = get_front rows more n x e

none_at_end : (rows : List (Option (List Value))) (n : ℕ) → length rows ≤ n → slice_get rows n ≡ None
none_at_end [] n le = refl
none_at_end (r ∷ rows) zero le = absurd (omega (arith, le))
none_at_end (r ∷ rows) (suc n) le = none_at_end rows n (omega (arith, le))

-- ---- free numbers

front_apart : (n last : ℕ) (ns : List ℕ) → IsNotAmong n (ns ++ last ∷ []) → IsNotAmong n ns × (n ≢ last)
front_apart n last [] s = (tt, s.0)
front_apart n last (m ∷ ns) s = let rest : IsNotAmong n ns × (n ≢ last) = front_apart n last ns s.1 in ((s.0, rest.0), rest.1)

not_among_more : (n last : ℕ) (ns : List ℕ) → IsNotAmong n ns → n ≢ last → IsNotAmong n (ns ++ last ∷ [])
not_among_more n last [] s other = (other, tt)
not_among_more n last (m ∷ ns) s other = (s.0, not_among_more n last ns s.1 other)

-- the last of free numbers
pub last_free : (rows : List (Option (List Value))) (ns : List ℕ) (last : ℕ) → AreFree rows (ns ++ last ∷ []) → (slice_get rows last ≡ Some None) × IsNotAmong last ns × AreFree rows ns
last_free rows [] last s = (s.0, tt, tt)
last_free rows (n ∷ ns) last s =
    let rest : (slice_get rows last ≡ Some None) × IsNotAmong last ns × AreFree rows ns = last_free rows ns last s.2 in
    let front : IsNotAmong n ns × (n ≢ last) = front_apart n last ns s.1 in
    (rest.0, ((λ e. front.1 (sym e)), rest.1), (s.0, front.0, rest.2))

-- one more free number
pub more_free : (rows : List (Option (List Value))) (ns : List ℕ) (last : ℕ) → AreFree rows ns → IsNotAmong last ns → slice_get rows last ≡ Some None → AreFree rows (ns ++ last ∷ [])
more_free rows [] last s apart e = (e, tt, tt)
more_free rows (n ∷ ns) last s apart e = (s.0, not_among_more n last ns s.1 (λ h. apart.0 (sym h)), more_free rows ns last s.2 apart.1 e)

-- numbers stay free where another one is written
pub still_free : (rows : List (Option (List Value))) (ns : List ℕ) (n : ℕ) (x : Option (List Value)) → AreFree rows ns → IsNotAmong n ns → AreFree (slice_set rows n x) ns
still_free rows [] n x s apart = tt
still_free rows (m ∷ ns) n x s apart = (get_other rows n m x (λ e. apart.0 (sym e)) ∙ s.0, s.1, still_free rows ns n x s.2 apart.1)

pub free_before : (rows more : List (Option (List Value))) (ns : List ℕ) → AreFree rows ns → AreFree (rows ++ more) ns
free_before rows more [] s = tt
free_before rows more (m ∷ ns) s = (get_front rows more m None s.0, s.1, free_before rows more ns s.2)

-- a number that has a row is not free
pub has_row_apart : (rows : List (Option (List Value))) (ns : List ℕ) (n : ℕ) (row : List Value) → AreFree rows ns → slice_get rows n ≡ Some (Some row) → IsNotAmong n ns
has_row_apart rows [] n row s e = tt
has_row_apart rows (m ∷ ns) n row s e = (λ same. differ (sym e ∙ ap (λ (k : ℕ). slice_get rows k) same ∙ s.0), has_row_apart rows ns n row s.2 e)
  where
    differ : Some (Some row) ≡ Some None → ⊥
    differ h = cc

-- ---- how many rows there are

pub count_put : (rows : List (Option (List Value))) (n : ℕ) (row : List Value) → slice_get rows n ≡ Some None → count (slice_set rows n (Some row)) ≡ count rows + 1
count_put [] n row e = cc
count_put (None ∷ rows) zero row e = omega arith
count_put (Some r ∷ rows) zero row e = cc
count_put (None ∷ rows) (suc n) row e = count_put rows n row e
count_put (Some r ∷ rows) (suc n) row e = omega (arith, count_put rows n row e)

pub count_taken : (rows : List (Option (List Value))) (n : ℕ) (row : List Value) → slice_get rows n ≡ Some (Some row) → count (slice_set rows n None) + 1 ≡ count rows
count_taken [] n row e = cc
count_taken (None ∷ rows) zero row e = cc
count_taken (Some r ∷ rows) zero row e = omega arith
count_taken (None ∷ rows) (suc n) row e = count_taken rows n row e
count_taken (Some r ∷ rows) (suc n) row e = omega (arith, count_taken rows n row e)

pub count_replaced : (rows : List (Option (List Value))) (n : ℕ) (row was : List Value) → slice_get rows n ≡ Some (Some was) → count (slice_set rows n (Some row)) ≡ count rows
count_replaced [] n row was e = cc
count_replaced (None ∷ rows) zero row was e = cc
count_replaced (Some r ∷ rows) zero row was e = refl
count_replaced (None ∷ rows) (suc n) row was e = count_replaced rows n row was e
count_replaced (Some r ∷ rows) (suc n) row was e = ap suc (count_replaced rows n row was e)

pub count_more : (rows : List (Option (List Value))) (row : List Value) → count (rows ++ Some row ∷ []) ≡ count rows + 1
count_more [] row = omega arith
count_more (None ∷ rows) row = count_more rows row
count_more (Some r ∷ rows) row = omega (arith, count_more rows row)

-- ---- where a row is put

pub free_is_free : (rows : List (Option (List Value))) (n : ℕ) → slice_get rows n ≡ Some None → IsFree rows n
free_is_free rows n e row h = let never : Some None ≡ Some (Some row) = sym e ∙ h in cc

pub end_is_free : (rows : List (Option (List Value))) (n : ℕ) → length rows ≤ n → IsFree rows n
end_is_free rows n le row h = let never : None ≡ Some (Some row) = sym (none_at_end rows n le) ∙ h in cc

pub put_there : (rows : List (Option (List Value))) (n : ℕ) (row : List Value) → n < length rows → slice_set rows n (Some row) ≡ with_row_at rows n row
put_there rows n row lt = step (nat_lt n (length rows)) refl
  where
    step : (t : Bool) → nat_lt n (length rows) ≡ t → slice_set rows n (Some row) ≡ (if t then slice_set rows n (Some row) else rows ++ Some row ∷ [])
    step true is = refl
    step false is = let ge : length rows ≤ n = grind (arith, nat_tests) in absurd (omega (arith, ge, lt))

-- free numbers once the last was taken
pub popped_free : (rows : List (Option (List Value))) (free rest : List ℕ) (n : ℕ) → free ≡ rest ++ n ∷ [] → AreFree rows free → (slice_get rows n ≡ Some None) × IsNotAmong n rest × AreFree rows rest
popped_free rows free rest n is s = last_free rows rest n (subst (λ (ns : List ℕ). AreFree rows ns) is s)

pub none_popped : (rows more : List (Option (List Value))) (free rest : List ℕ) → free ≡ rest ++ [] → AreFree rows free → AreFree (rows ++ more) rest
none_popped rows more free rest is s = free_before rows more rest (subst (λ (ns : List ℕ). AreFree rows ns) (is ∙ append-nil rest) s)

-- what is read at a place
pub read_is : (rows : List (Option (List Value))) (n : ℕ) (x : Option (List Value)) → n < length rows → x ≡ get_or rows n x → slice_get rows n ≡ Some x
read_is rows n x lt e = slice_get-get_or rows n x lt ∙ ap (λ (y : Option (List Value)). Some y) (sym e)

-- a row in the place of another
pub replaced_free : (rows : List (Option (List Value))) (free : List ℕ) (n : ℕ) (x : Option (List Value)) (row : List Value) → AreFree rows free → slice_get rows n ≡ Some x → IsSome x
    → AreFree (slice_set rows n (Some row)) free × (count (slice_set rows n (Some row)) ≡ count rows)
replaced_free rows free n None row s e some = cc
replaced_free rows free n (Some was) row s e some = (still_free rows free n (Some row) s (has_row_apart rows free n was s e), count_replaced rows n row was e)

-- a row taken out
pub taken_free : (rows : List (Option (List Value))) (free : List ℕ) (n : ℕ) (row : List Value) → AreFree rows free → n < length rows → slice_get rows n ≡ Some (Some row) → AreFree (slice_set rows n None) (free ++ n ∷ [])
taken_free rows free n row s lt e =
    let apart : IsNotAmong n free = has_row_apart rows free n row s e in
    more_free (slice_set rows n None) free n (still_free rows free n None s apart) apart (get_same rows n None lt)

pub within_some : (rows : List (Option (List Value))) (n : ℕ) → IsSome (option_and_then (λ (row : Option (List Value)). row) (slice_get rows n)) → n < length rows
within_some [] n some = cc
within_some (r ∷ rows) zero some = omega arith
within_some (r ∷ rows) (suc n) some = omega (arith, within_some rows n some)
