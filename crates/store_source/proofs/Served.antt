-- The bytes of a log that are read of its file.
use Rattle.std.proofs.Common.{◌≡◌, ◌≢◌, ◌⊎◌, inl, inr, ℕ, ◌+◌, ◌-◌, ◌<◌, ◌≤◌, zero, suc, min, List, [], ◌∷◌, ◌++◌, length, take, drop, get_or, Option, Some, None, refl, sym, ◌∙◌, ap, subst, arith}
use Rattle.std.specs.Prelude.{IfSome}
use Rattle.std.proofs.lemmas.Bool.{cases_lt}
use Rattle.std.proofs.lemmas.List.{length-take, length-drop, take_all, take_at, take_min, take-take, drop-take, drop_all}
use Rattle.disk_model.specs.Story.{Story, seen}
use Rattle.disk_model.specs.Answers.{Reads}
use Rattle.store_model.specs.Held.{LogEnd}
use Rattle.commit_store.specs.Keeping.{positions}
use Rattle.commit_store.specs.declared.store.Store.{Store}
use Rattle.durable_runs.specs.Sources.{Stored, end_of, log_in}
use Rattle.store_source.specs.Writing.{IsOn}
use Rattle.disk_model.proofs.Laws.{if_both}
use Rattle.store_source.proofs.Logs.{end_past}
use Rattle.store_source.proofs.Images.{if_map}

-- ---- where a log ends

pub end_zero : (all : List LogEnd) → end_of 0 all ≡ 0
end_zero [] = refl
end_zero (e ∷ all) = refl

pub end_there : (all : List LogEnd) (n x : ℕ) → n < length (positions all) → x ≡ get_or (positions all) n x → x ≡ end_of (suc n) all
end_there [] n x low is = absurd (omega (arith, low))
end_there (e ∷ all) zero x low is = is
end_there (e ∷ all) (suc n) x low is = end_there all n x (omega (arith, low)) is

pub end_none : (all : List LogEnd) (n : ℕ) → length (positions all) ≤ n → 0 ≡ end_of (suc n) all
end_none [] n past = refl
end_none (e ∷ all) zero past = absurd (omega (arith, past))
end_none (e ∷ all) (suc n) past = end_none all n (omega (arith, past))

-- a log that has an end is among them
pub end_within : (all : List LogEnd) (log : ℕ) → 0 < end_of log all → log ≤ length all
end_within all log some = by (cases_lt (length all) log)
  where
    by : (length all < log) ⊎ (log ≤ length all) → log ≤ length all
    by (inl past) = absurd (omega (arith, some, end_past log all past))
    by (inr within) = within

-- ---- a piece of a file

taken : (n at count : ℕ) (buffer file : List ℕ) → Reads file at n buffer → length buffer ≡ count → take n buffer ≡ take count (drop at file)
taken n at count buffer file reads size =
    let rest : List ℕ = drop at file in
    let all : n ≡ min count (length rest) = omega (arith, reads.size, size, length-drop at file) in
    reads.bytes ∙ ap (λ (k : ℕ). take k rest) all ∙ take_min count rest

pub piece_read : (t : Option Story) (f at n len count : ℕ) (buffer items given : List ℕ) → IfSome t (λ _. Reads (seen t f) at n buffer) → length buffer ≡ len → len ≡ count
    → given ≡ take n (take len (buffer ++ drop (length buffer) items)) → IfSome t (λ _. given ≡ take count (drop at (seen t f)))
piece_read None f at n len count buffer items given reads long same made = tt
piece_read (Some s) f at n len count buffer items given reads long same made =
    made ∙ ap (take n) (take_at buffer (drop (length buffer) items) len long) ∙ taken n at count buffer (seen (Some s) f) reads (omega (arith, long, same))

-- ---- of what the log has

take_both : (max m : ℕ) (xs : List ℕ) → take max (take m xs) ≡ take (min m max) xs
take_both max m xs = by (cases_lt m max)
  where
    by : (m < max) ⊎ (max ≤ m) → take max (take m xs) ≡ take (min m max) xs
    by (inl lt) =
        let least : min m max ≡ m = omega arith in
        take_all max (take m xs) (omega (arith, length-take m xs)) ∙ ap (λ (k : ℕ). take k xs) (sym least)
    by (inr ge) = let least : min m max ≡ max = omega arith in take-take max m xs ge ∙ ap (λ (k : ℕ). take k xs) (sym least)

pub piece_is : (end pos max : ℕ) (file : List ℕ) → take (min (end - pos) max) (drop pos file) ≡ take max (drop pos (take end file))
piece_is end pos max file = by (cases_lt end pos)
  where
    by : (end < pos) ⊎ (pos ≤ end) → take (min (end - pos) max) (drop pos file) ≡ take max (drop pos (take end file))
    by (inl past) =
        let none : min (end - pos) max ≡ 0 = omega arith in
        let size = length-take end file in
        let nothing : drop pos (take end file) ≡ [] = drop_all pos (take end file) (omega (arith, size)) in
        ap (λ (k : ℕ). take k (drop pos file)) none ∙ sym (ap (take max) nothing ∙ take_all max [] (omega arith))
    by (inr within) =
        let whole : end ≡ pos + (end - pos) = omega arith in
        sym (ap (λ (k : ℕ). take max (drop pos (take k file))) whole ∙ ap (take max) (drop-take pos (end - pos) file) ∙ take_both max (end - pos) (drop pos file))

module _ (t : Option Story) (store : Store) (s : Stored) (on : IsOn t store s) (log pos max end count : ℕ) (bytes : List ℕ) (at_end : end ≡ end_of log s.held.ends) (is : count ≡ min (end - pos) max) where
  log_has : (file : List ℕ) → take (end_of log s.held.ends) file ≡ s.logs log → take count (drop pos file) ≡ take max (drop pos (s.logs log))
  log_has file has =
      ap (λ (k : ℕ). take k (drop pos file)) is ∙ piece_is end pos max file
      ∙ ap (λ (k : ℕ). take max (drop pos (take k file))) at_end ∙ ap (λ (l : List ℕ). take max (drop pos l)) has

  pub served : (at : ℕ) → at ≡ pos → IfSome t (λ _. bytes ≡ take count (drop at (seen t (7 + log)))) → IfSome t (λ _. bytes ≡ take max (drop pos (s.logs log)))
  served at same read =
      if_both t ((n : ℕ) → log_in n s.held.ends (seen t) ≡ s.logs n) (bytes ≡ take count (drop at (seen t (7 + log)))) (bytes ≡ take max (drop pos (s.logs log))) on.logs read
      (λ has got. got ∙ ap (λ (k : ℕ). take count (drop k (seen t (7 + log)))) same ∙ log_has (seen t (7 + log)) (has log))

  pub served_none : count ≡ 0 → bytes ≡ [] → IfSome t (λ _. bytes ≡ take max (drop pos (s.logs log)))
  served_none none empty =
      if_map t ((n : ℕ) → log_in n s.held.ends (seen t) ≡ s.logs n) (bytes ≡ take max (drop pos (s.logs log))) on.logs
      (λ has. empty ∙ ap (λ (k : ℕ). take k (drop pos (seen t (7 + log)))) (sym none) ∙ log_has (seen t (7 + log)) (has log))

  pub few_served : length bytes ≤ count → length bytes ≤ min max (end_of log s.held.ends - pos)
  few_served le = omega (arith, le, is, at_end)

  pub log_low : length s.held.ends ≤ 60000 → count ≢ 0 → log ≤ 60000
  log_low few some = by (cases_lt 0 (end_of log s.held.ends))
    where
      by : (0 < end_of log s.held.ends) ⊎ (end_of log s.held.ends ≤ 0) → log ≤ 60000
      by (inl there) = omega (arith, few, end_within s.held.ends log there)
      by (inr none) = absurd (some (omega (arith, is, at_end, none)))
