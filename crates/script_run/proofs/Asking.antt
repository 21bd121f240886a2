-- What commands ask, one after the other.
use Rattle.std.proofs.Common.{◌≡◌, ℕ, ◌+◌, ◌<◌, ◌≤◌, zero, suc, Bool, true, false, ◌&&◌, List, [], ◌∷◌, ◌++◌, length, map, drop, get_or, add-one, drop-cons, Some, None, Result, Ok, Err, IsTrue, refl, sym, ap, ◌∙◌, append_assoc}
use Rattle.std.specs.List.{list_all}
use Rattle.std.proofs.lemmas.List.{map-append, drop_all}
use Rattle.std.proofs.lemmas.List.Folds.{list_all-append}
use Rattle.script_read.specs.declared.command.Command.{Command}
use Rattle.script_read.specs.Commands.{command_seen, what_seen}
use Rattle.run_laws.specs.run_model.Asked.{Asked, all_asked, asked_by, with_asked}
use Rattle.script_run.specs.declared.asked.Asked as code_asked_type
use Rattle.script_run.specs.Asking.{asked_seen}

-- more that is asked in front, or the bad place
abbrev pub with_all : List Asked → Result (List Asked) ℕ → Result (List Asked) ℕ
with_all front (Ok more) = Ok (front ++ more)
with_all front (Err at) = Err at

with_one : (front : List Asked) (at : ℕ) (a : Asked) (rest : Result (List Asked) ℕ) → with_all front (with_asked at (Some a) rest) ≡ with_all (front ++ a ∷ []) rest
with_one front at a (Ok more) = ap Ok (sym (append_assoc front (a ∷ []) more))
with_one front at a (Err place) = refl

pub with_none : (rest : Result (List Asked) ℕ) → with_all [] rest ≡ rest
with_none (Ok more) = refl
with_none (Err at) = refl

commands_split : (cs : List Command) (i : ℕ) (c : Command) → i < length cs → c ≡ get_or cs i c → drop i cs ≡ c ∷ drop (i + 1) cs
commands_split cs i c within is = rw add-one (drop-cons cs i c within ∙ ap (λ x. x ∷ drop (suc i) cs) (sym is))

-- one more that is asked
pub asked_on : (cs : List Command) (i : ℕ) (c : Command) (all all' : List code_asked_type.Asked) (a : code_asked_type.Asked) → i < length cs → c ≡ get_or cs i c
    → Some (asked_seen a) ≡ asked_by (what_seen c.what) → all' ≡ all ++ a ∷ []
    → with_all (map asked_seen all) (all_asked (map command_seen (drop i cs))) ≡ all_asked (map command_seen cs)
    → with_all (map asked_seen all') (all_asked (map command_seen (drop (i + 1) cs))) ≡ all_asked (map command_seen cs)
asked_on cs i c all all' a within is asks more so_far =
    let rest : Result (List Asked) ℕ = all_asked (map command_seen (drop (i + 1) cs)) in
    ap (λ xs. with_all (map asked_seen xs) rest) more ∙ ap (λ xs. with_all xs rest) (map-append asked_seen all (a ∷ []))
    ∙ sym (with_one (map asked_seen all) c.at (asked_seen a) rest)
    ∙ ap (λ o. with_all (map asked_seen all) (with_asked c.at o rest)) asks
    ∙ ap (λ ds. with_all (map asked_seen all) (all_asked (map command_seen ds))) (sym (commands_split cs i c within is)) ∙ so_far

-- a command that no node carries out
pub none_asked : (cs : List Command) (i : ℕ) (c : Command) (all : List code_asked_type.Asked) → i < length cs → c ≡ get_or cs i c
    → None ≡ asked_by (what_seen c.what)
    → with_all (map asked_seen all) (all_asked (map command_seen (drop i cs))) ≡ all_asked (map command_seen cs)
    → all_asked (map command_seen cs) ≡ Err c.at
none_asked cs i c all within is none so_far =
    let rest : Result (List Asked) ℕ = all_asked (map command_seen (drop (i + 1) cs)) in
    sym (ap (λ o. with_all (map asked_seen all) (with_asked c.at o rest)) none
    ∙ ap (λ ds. with_all (map asked_seen all) (all_asked (map command_seen ds))) (sym (commands_split cs i c within is)) ∙ so_far)

-- all that is asked
pub asked_all : (cs : List Command) (i : ℕ) (all : List code_asked_type.Asked) → length cs ≤ i
    → with_all (map asked_seen all) (all_asked (map command_seen (drop i cs))) ≡ all_asked (map command_seen cs)
    → all_asked (map command_seen cs) ≡ Ok (map asked_seen all)
asked_all cs i all past so_far =
    sym so_far ∙ ap (λ ds. with_all (map asked_seen all) (all_asked (map command_seen ds))) (drop_all i cs past) ∙ ap Ok (append_nil (map asked_seen all))
  where
    append_nil : (xs : List Asked) → xs ++ [] ≡ xs
    append_nil [] = refl
    append_nil (x ∷ xs) = ap (λ ys. x ∷ ys) (append_nil xs)

-- ---- tests that hold of all

pub item_passes : {A : Type 0} (test : A → Bool) (items : List A) (i : ℕ) (x : A) → i < length items → x ≡ get_or items i x → IsTrue (list_all test items) → IsTrue (test x)
item_passes test items i x within is all =
    let split : drop i items ≡ x ∷ drop (i + 1) items = rw add-one (drop-cons items i x within ∙ ap (λ y. y ∷ drop (suc i) items) (sym is)) in
    (both (test x) (list_all test (drop (i + 1) items)) (ap (list_all test) (sym split) ∙ rest_passes test items i all)).0
  where
    both : (a b : Bool) → (a && b) ≡ true → (a ≡ true) × (b ≡ true)
    both true b e = (refl, e)
    both false b e = cc

    rest_passes : {A : Type 0} (test : A → Bool) (items : List A) (i : ℕ) → list_all test items ≡ true → list_all test (drop i items) ≡ true
    rest_passes test items zero all = all
    rest_passes test [] (suc i) all = refl
    rest_passes test (y ∷ items) (suc i) all = rest_passes test items i (both (test y) (list_all test items) all).1

pub one_more_passes : {A : Type 0} (test : A → Bool) (items items' : List A) (x : A) → items' ≡ items ++ x ∷ [] → IsTrue (list_all test items) → IsTrue (test x) → IsTrue (list_all test items')
one_more_passes test items items' x more all this = rw more (rw (list_all-append test items (x ∷ []), all, this) refl)
