-- Bytes that are taken from the front of an input.
use Rattle.std.proofs.Common.{◌≡◌, ℕ, List, [], ◌++◌, take, drop, Option, Some, None, option_map, IfSome, Result, Ok, Err, OnErr, refl, sym, ap, ◌∙◌, append-nil, append_assoc}
use Rattle.std.proofs.lemmas.List.{take-append-drop}
use Rattle.log_reader.specs.Reading.{Took, Takes, IsEnd}
use Rattle.log_reader.specs.Filling.{Grows}

-- ---- one step

pub took_nothing : (left : Option (List ℕ)) → Took left left []
took_nothing None = refl
took_nothing (Some rest) = refl

pub took_more : (a b c : Option (List ℕ)) (xs ys : List ℕ) → Took a b xs → Took b c ys → Took a c (xs ++ ys)
took_more a b None xs ys first then = first ∙ ap (option_map (λ rest. xs ++ rest)) then
took_more a b (Some rest) xs ys first then = first ∙ ap (option_map (λ r. xs ++ r)) then ∙ ap Some (sym (append_assoc xs ys rest))

-- bytes that were joined to none before are those that were taken
pub joined_took : (before after : Option (List ℕ)) (bytes : List ℕ) → option_map (λ rest. bytes ++ rest) after ≡ option_map (λ rest. [] ++ rest) before → Took before after bytes
joined_took None after bytes joined = sym joined
joined_took (Some all) after bytes joined = sym joined

-- bytes that are joined to others that were taken before
pub joined_more : (start before after : Option (List ℕ)) (old new : List ℕ) → Took start before old → option_map (λ rest. new ++ rest) after ≡ option_map (λ rest. old ++ rest) before
    → Took start after new
joined_more start before after old new took joined = took ∙ sym joined

-- ---- any bytes

pub takes_nothing : (left : Option (List ℕ)) → Takes left left
takes_nothing left = record { taken = []; took = took_nothing left }

pub takes_dropped : (before after : Option (List ℕ)) (count : ℕ) → after ≡ option_map (drop count) before → Takes before after
takes_dropped None after count is = record { taken = []; took = sym (ap (option_map (λ rest. [] ++ rest)) is) }
takes_dropped (Some all) after count is = record {
  taken = take count all;
  took = ap Some (sym (take-append-drop count all)) ∙ sym (ap (option_map (λ rest. take count all ++ rest)) is);
}

pub takes_more : (a b c : Option (List ℕ)) → Takes a b → Takes b c → Takes a c
takes_more a b c first then = record { taken = first.taken ++ then.taken; took = took_more a b c first.taken then.taken first.took then.took }

pub took_takes : (a b : Option (List ℕ)) (bytes : List ℕ) → Took a b bytes → Takes a b
took_takes a b bytes took = record { taken = bytes; took = took }

-- ---- bytes that grow

pub grows_not : (bytes : List ℕ) → Grows bytes bytes
grows_not bytes = ([], sym (append-nil bytes))

pub grows_more : (a b c : List ℕ) → Grows a b → Grows b c → Grows a c
grows_more a b c first then = (first.0 ++ then.0, then.1 ∙ ap (λ bs. bs ++ then.0) first.1 ∙ append_assoc a first.0 then.0)

-- ---- the whole input

-- what is left of it, nothing where it does not tell
abbrev pub rest_of : Option (List ℕ) → List ℕ
rest_of None = []
rest_of (Some rest) = rest

pub input_known : (start left : Option (List ℕ)) (front : List ℕ) → Took start left front → IfSome start (λ all. all ≡ front ++ rest_of left)
input_known None left front took = tt
input_known (Some all) None front took = cc
input_known (Some all) (Some rest) front took = let same : all ≡ front ++ rest = cc in same

pub rest_ended : (left : Option (List ℕ)) → IsEnd left → rest_of left ≡ []
rest_ended None end = refl
rest_ended (Some rest) end = end

-- ---- results

pub on_err : {A E P : Type 0} (r : Result A E) → P → OnErr r P
on_err (Ok value) p = tt
on_err (Err e) p = p
