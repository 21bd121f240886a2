-- What a run of reads takes from the input.
use Rattle.std.proofs.Common.{◌≡◌, ◌⊎◌, inl, inr, ℕ, ◌+◌, ◌<◌, ◌≤◌, suc, Bool, true, false, nat_lt, List, [], ◌∷◌, ◌++◌, length, drop, Option, Some, None, Result, Ok, Err, IfOk, IfSome, option_map, refl, sym, ap, ◌∙◌, subst, arith, append-nil, length-append}
use Rattle.std.proofs.Math.Seq.{drop-append_seam}
use Rattle.std.proofs.lemmas.List.{drop_all}
use Rattle.std.proofs.lemmas.Bool.Decides.{nat_tests}
use Rattle.script_read.specs.Script.{split_of}
use Rattle.script_read.proofs.Limits.{long_script}
use Rattle.run_streams.specs.Read.{IsRead, TakesUpToLimit}

drop_more : (front rest : List ℕ) (count : ℕ) → drop (length front + count) (front ++ rest) ≡ drop count rest
drop_more [] rest count = ap (λ n. drop n rest) (omega arith)
drop_more (b ∷ front) rest count =
    let more : suc (length front) + count ≡ suc (length front + count) = omega arith in
    ap (λ n. drop n (b ∷ (front ++ rest))) more ∙ drop_more front rest count

-- so many bytes more than those that were read
pub taken_more : (front : List ℕ) (start mid now : Option (List ℕ)) (count : ℕ) → option_map (λ rest. front ++ rest) mid ≡ start → length front + count ≤ 67108865 → now ≡ option_map (drop count) mid
    → TakesUpToLimit start now
taken_more front start None now count joined room rest = record { count = length front + count; within = room; rest = rest ∙ ap (option_map (drop (length front + count))) joined }
taken_more front start (Some left) now count joined room rest = record {
  count = length front + count;
  within = room;
  rest = rest ∙ ap Some (sym (drop_more front left count)) ∙ ap (option_map (drop (length front + count))) joined;
}

-- no more bytes than those that were read
pub taken_all : (front : List ℕ) (start now : Option (List ℕ)) → option_map (λ rest. front ++ rest) now ≡ start → length front ≤ 67108865 → TakesUpToLimit start now
taken_all front start None joined room = record { count = length front; within = room; rest = ap (option_map (drop (length front))) joined }
taken_all front start (Some left) joined room = record {
  count = length front;
  within = room;
  rest = ap Some (sym (drop-append_seam front left)) ∙ ap (option_map (drop (length front))) joined;
}

-- ---- the whole input, split

whatever : {A E P : Type 0} (r : Result A E) → P → IfOk r (λ value. P)
whatever (Ok value) p = p
whatever (Err e) p = tt

never : {A E : Type 0} (P : Type 0) (r : Result A E) (e : E) → r ≡ Err e → IfOk r (λ value. P)
never P (Ok value) e is = cc
never P (Err other) e is = tt

-- the input was read to its end
read_whole : (script : List ℕ) → length script ≤ 67108865 → IsRead script script (Some [])
read_whole script size = record {
  same = refl;
  rest = ap Some (sym (drop_all 67108865 script size));
  end = whatever (split_of script) refl;
}

-- the input was read to one byte past the limit
read_long : (script rest : List ℕ) → length script ≡ 67108865 → IsRead script (script ++ rest) (Some rest)
read_long script rest size =
    let front : split_of script ≡ Err 67108864 = long_script script (omega (arith, size)) in
    let all : split_of (script ++ rest) ≡ Err 67108864 = long_script (script ++ rest) (omega (arith, size, length-append script rest)) in
    record {
      same = front ∙ sym all;
      rest = ap Some (sym (ap (λ n. drop n (script ++ rest)) (sym size) ∙ drop-append_seam script rest));
      end = never _ (split_of (script ++ rest)) 67108864 all;
    }

read_by : (script rest : List ℕ) → length script ≤ 67108865 → (rest ≡ []) ⊎ (67108864 < length script) → IsRead script (script ++ rest) (Some rest)
read_by script rest size (inl end) =
    subst (λ (some : List ℕ). IsRead script (script ++ some) (Some some)) (sym end) (subst (λ (all : List ℕ). IsRead script all (Some [])) (sym (append-nil script)) (read_whole script size))
read_by script rest size (inr long) = read_long script rest (omega arith)

-- what was read, where the input tells its bytes
pub script_read : (script : List ℕ) (start left : Option (List ℕ)) → option_map (λ rest. script ++ rest) left ≡ start → length script ≤ 67108865
    → IfSome left (λ rest. (rest ≡ []) ⊎ (67108864 < length script)) → IfSome start (λ all. IsRead script all left)
script_read script None left joined size end = tt
script_read script (Some all) None joined size end = cc
script_read script (Some all) (Some rest) joined size end =
    let whole : script ++ rest ≡ all = cc in
    subst (λ (all : List ℕ). IsRead script all (Some rest)) whole (read_by script rest size end)

-- what splits is no longer than the greatest length
pub where_split : (P : Type 0) (script : List ℕ) → (length script ≤ 67108864 → P) → IfOk (split_of script) (λ commands. P)
where_split P script within = by_length (nat_lt 67108864 (length script)) refl
  where
    by_length : (t : Bool) → nat_lt 67108864 (length script) ≡ t → IfOk (split_of script) (λ commands. P)
    by_length true e = never P (split_of script) 67108864 (long_script script (grind (arith, nat_tests)))
    by_length false e = whatever (split_of script) (within (grind (arith, nat_tests)))
