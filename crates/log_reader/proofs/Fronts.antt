-- Bytes before a position that are read and let go.
use Rattle.std.proofs.Common.{◌≡◌, ◌≤◌, ◌<◌, inl, inr, ℕ, ◌+◌, Bool, true, false, List, [], ◌++◌, length, take, Option, Some, None, option_map, Result, Ok, Err, OnErr, refl, sym, ap, arith, subst, length-append}
use Rattle.std.specs.Prelude.{IfOk}
use Rattle.log_groups.specs.log_model.Log.{magic}
use Rattle.log_reader.specs.Reading.{Took, Takes, IsEnd, ReadsMagic, ReadsFront}
use Rattle.log_reader.specs.Filling.{FillsTo, Passed, PassesTo}
use Rattle.log_reader.proofs.Inputs.{took_nothing, took_more, took_takes, takes_more, joined_more}

pub passed_none : (from : ℕ) (left : Option (List ℕ)) → Passed from from left left
passed_none from left = record { taken = []; took = took_nothing left; count = omega arith }

-- one piece more
pub passed_more : (from at to : ℕ) (start mid after : Option (List ℕ)) (old new : List ℕ) → Passed from at start mid → old ≡ []
    → option_map (λ rest. new ++ rest) after ≡ option_map (λ rest. old ++ rest) mid → to ≡ at + length new → Passed from to start after
passed_more from at to start mid after old new passed none joined there = record {
  taken = passed.taken ++ new;
  took = took_more start mid after passed.taken new passed.took (joined_more mid mid after old new (subst (λ (bs : List ℕ). Took mid mid bs) (sym none) (took_nothing mid)) joined);
  count = let size = passed.count in omega (arith, there, size, length-append passed.taken new);
}

-- what was taken on the way
pub passed_takes : (from at : ℕ) (start mid : Option (List ℕ)) → Passed from at start mid → Takes start mid
passed_takes from at start mid passed = record { taken = passed.taken; took = passed.took }

-- up to the position
pub passed_all : (from at pos : ℕ) (start after : Option (List ℕ)) → at ≡ pos → Passed from at start after → Passed from pos start after
passed_all from at pos start after same passed = subst (λ (n : ℕ). Passed from n start after) same passed

-- as many bytes as were asked for, or fewer and the end
pub filled : (whole : Bool) (count : ℕ) (bytes : List ℕ) (left : Option (List ℕ)) → whole ≡ true → FillsTo whole count bytes left → length bytes ≡ count
filled whole count bytes left is fills = subst (λ (b : Bool). FillsTo b count bytes left) is fills

pub not_filled : (whole : Bool) (count : ℕ) (bytes : List ℕ) (left : Option (List ℕ)) → whole ≡ false → FillsTo whole count bytes left → (length bytes < count) × IsEnd left
not_filled whole count bytes left is fills = subst (λ (b : Bool). FillsTo b count bytes left) is fills

-- ---- behind the magic

begins : (taken more : List ℕ) → taken ≡ magic → take 4 (taken ++ more) ≡ magic
begins taken more is = ap (λ (bs : List ℕ). take 4 (bs ++ more)) is

front_by : (pos : ℕ) (start mid after : Option (List ℕ)) (found : Option ℕ) → ReadsMagic start mid true → 4 ≤ pos → PassesTo 4 pos mid after found → ReadsFront pos start after found
front_by pos start mid after None first four passed =
    let size : length first.taken ≡ 4 = ap length first.finds in
    let more = passed.count in
    record {
      taken = first.taken ++ passed.taken;
      took = took_more start mid after first.taken passed.taken first.took passed.took;
      finds = (begins first.taken passed.taken first.finds, four, omega (arith, size, more, length-append first.taken passed.taken));
    }
front_by pos start mid after (Some at) first four (passed, low, end) =
    let size : length first.taken ≡ 4 = ap length first.finds in
    let more = passed.count in
    record {
      taken = first.taken ++ passed.taken;
      took = took_more start mid after first.taken passed.taken first.took passed.took;
      finds = inr (inr (omega (arith, size, more, length-append first.taken passed.taken), low, four, begins first.taken passed.taken first.finds, end));
    }

pub front_reads : {E : Type 0} (pos : ℕ) (start mid after : Option (List ℕ)) (r : Result (Option ℕ) E) → ReadsMagic start mid true → 4 ≤ pos
    → IfOk r (λ found. PassesTo 4 pos mid after found) → IfOk r (λ found. ReadsFront pos start after found)
front_reads pos start mid after (Ok found) first four passes = front_by pos start mid after found first four passes
front_reads pos start mid after (Err e) first four passes = tt

pub front_takes : {A E : Type 0} (start mid after : Option (List ℕ)) (r : Result A E) → ReadsMagic start mid true → OnErr r (Takes mid after) → OnErr r (Takes start after)
front_takes start mid after (Ok x) first takes = tt
front_takes start mid after (Err e) first takes = takes_more start mid after (took_takes start mid first.taken first.took) takes

-- a position in the magic
pub front_within : (pos : ℕ) (start mid : Option (List ℕ)) → ReadsMagic start mid true → pos < 4 → ReadsFront pos start mid (Some pos)
front_within pos start mid first low = record { taken = first.taken; took = first.took; finds = inr (inl (refl, low, first.finds)) }
