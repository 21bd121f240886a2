-- Counters by their places, and that no table has two.
use Rattle.std.proofs.Common.{◌≡◌, ℕ, zero, suc, Bool, true, false, cond, ◌||◌, List, [], ◌∷◌, ◌++◌, get_or, Option, Some, None, refl, sym, ap, ◌∙◌, subst}
use Rattle.std.specs.Prelude.{nat_eq, slice_set, find, position, IfNone}
use Rattle.std.specs.List.{AllByRecursion, IsDistinct, list_any}
use Rattle.std.specs.Option.{option_map}
use Rattle.std.specs.Cmp.Lexicographic.{pointwise}
use Rattle.std.proofs.lemmas.Cmp.{nat_list_eq_equiv}
use Rattle.std.proofs.lemmas.Map.Keys.{IsDistinct-head, IsDistinct-tail, IsDistinct-cons, IsDistinct-push}
use Rattle.val_types.specs.Lookup.{remove_first}
use Rattle.val_types.proofs.Lookup.{missing, place_mapped}
use Rattle.auto_inc.specs.declared.counters.Counter.{Counter}
use Rattle.auto_inc.specs.Counting.{counts_for, counters_beside, value_for, tables_of, place_for, HaveOneEach}

-- ---- places

pub at_place : (table : List ℕ) (cs : List Counter) (at : Option ℕ) → position (counts_for table) cs ≡ at → place_for table cs ≡ at
at_place table cs at e = place_mapped (λ (c : Counter). c.table) (pointwise nat_eq table) cs ∙ e

pub from_place : (table : List ℕ) (cs : List Counter) (at : Option ℕ) → place_for table cs ≡ at → position (counts_for table) cs ≡ at
from_place table cs at e = sym (place_mapped (λ (c : Counter). c.table) (pointwise nat_eq table) cs) ∙ e

pub absent_if : (table : List ℕ) (cs : List Counter) (at : Option ℕ) → position (counts_for table) cs ≡ at → IfNone at (value_for table cs ≡ None)
absent_if table cs None e = ap (λ (o : Option Counter). option_map (λ (c : Counter). c.value) o) (missing (counts_for table) cs e)
absent_if table cs (Some k) e = tt

-- ---- another value

pub tables_kept : (cs : List Counter) (k : ℕ) (d : Counter) (v : ℕ) → d ≡ get_or cs k d → tables_of (slice_set cs k (record d { value = v })) ≡ tables_of cs
tables_kept [] k d v is = refl
tables_kept (c ∷ cs) zero d v is = ap (λ (x : Counter). x.table ∷ tables_of cs) is
tables_kept (c ∷ cs) (suc k) d v is = ap (λ (ts : List (List ℕ)). c.table ∷ ts) (tables_kept cs k d v is)

pub still_one_each : (cs ds : List Counter) → tables_of ds ≡ tables_of cs → HaveOneEach cs → HaveOneEach ds
still_one_each cs ds same one = subst (λ (ts : List (List ℕ)). IsDistinct (pointwise nat_eq) ts) (sym same) one

pub one_each_of_none : HaveOneEach []
unfolding IsDistinct
one_each_of_none = tt

-- ---- one more

absent_step : (here : Bool) (c : Counter) (o : Option Counter) (later : Bool) → (option_map (λ (x : Counter). x.value) o ≡ None → later ≡ false)
    → option_map (λ (x : Counter). x.value) (cond here (Some c) o) ≡ None → (here || later) ≡ false
absent_step true c o later h e = cc
absent_step false c o later h e = h e

pub absent : (table : List ℕ) (cs : List Counter) → value_for table cs ≡ None → list_any (pointwise nat_eq table) (tables_of cs) ≡ false
absent table [] e = refl
absent table (c ∷ cs) e = absent_step (counts_for table c) c (find (counts_for table) cs) (list_any (pointwise nat_eq table) (tables_of cs)) (absent table cs) e

tables_behind : (cs : List Counter) (c : Counter) → tables_of (cs ++ c ∷ []) ≡ tables_of cs ++ c.table ∷ []
tables_behind [] c = refl
tables_behind (d ∷ cs) c = ap (λ (ts : List (List ℕ)). d.table ∷ ts) (tables_behind cs c)

pub one_each_behind : (cs : List Counter) (c : Counter) → HaveOneEach cs → value_for c.table cs ≡ None → HaveOneEach (cs ++ c ∷ [])
one_each_behind cs c one free =
    subst (λ (ts : List (List ℕ)). IsDistinct (pointwise nat_eq) ts) (sym (tables_behind cs c)) (IsDistinct-push nat_list_eq_equiv (tables_of cs) c.table one (absent c.table cs free))

-- ---- one taken out

all_step : (here : Bool) (P : List ℕ → Type 0) (c : Counter) (cs more : List Counter) → AllByRecursion P (tables_of (c ∷ cs)) → AllByRecursion P (tables_of more) → AllByRecursion P (tables_of (cond here cs (c ∷ more)))
all_step true P c cs more all rest = all.1
all_step false P c cs more all rest = (all.0, rest)

all_left : (P : List ℕ → Type 0) (test : Counter → Bool) (cs : List Counter) → AllByRecursion P (tables_of cs) → AllByRecursion P (tables_of (remove_first test cs))
all_left P test [] all = all
all_left P test (c ∷ cs) all = all_step (test c) P c cs (remove_first test cs) all (all_left P test cs all.1)

one_step : (here : Bool) (c : Counter) (cs more : List Counter) → HaveOneEach cs → HaveOneEach (c ∷ more) → HaveOneEach (cond here cs (c ∷ more))
one_step true c cs more one left = one
one_step false c cs more one left = left

pub one_each_left : (test : Counter → Bool) (cs : List Counter) → HaveOneEach cs → HaveOneEach (remove_first test cs)
one_each_left test [] one = one
one_each_left test (c ∷ cs) one =
    one_step (test c) c cs (remove_first test cs) (IsDistinct-tail (pointwise nat_eq) c.table (tables_of cs) one)
    (IsDistinct-cons (pointwise nat_eq) c.table (tables_of (remove_first test cs)) (all_left (λ other. pointwise nat_eq c.table other ≡ false) test cs (IsDistinct-head (pointwise nat_eq) c.table (tables_of cs) one))
    (one_each_left test cs (IsDistinct-tail (pointwise nat_eq) c.table (tables_of cs) one)))

passed : (here : Bool) (c : Counter) (o : Option Counter) → here ≡ false → o ≡ None → cond here (Some c) o ≡ None
passed true c o e f = cc
passed false c o e f = f

-- none of a table, where all differ from one that is the same
none_alike : (table first : List ℕ) (cs : List Counter) → pointwise nat_eq table first ≡ true → AllByRecursion (λ other. pointwise nat_eq first other ≡ false) (tables_of cs) → find (counts_for table) cs ≡ None
none_alike table first [] same all = refl
none_alike table first (c ∷ cs) same all =
    passed (counts_for table c) c (find (counts_for table) cs) (nat_list_eq_equiv.congr table first c.table same ∙ all.0) (none_alike table first cs same all.1)

gone_step : (here : Bool) (table : List ℕ) (c : Counter) (cs more : List Counter) → counts_for table c ≡ here → (here ≡ true → find (counts_for table) cs ≡ None) → find (counts_for table) more ≡ None
    → find (counts_for table) (cond here cs (c ∷ more)) ≡ None
gone_step true table c cs more is there later = there refl
gone_step false table c cs more is there later = passed (counts_for table c) c (find (counts_for table) more) is later

find_gone : (table : List ℕ) (cs : List Counter) → HaveOneEach cs → find (counts_for table) (remove_first (counts_for table) cs) ≡ None
find_gone table [] one = refl
find_gone table (c ∷ cs) one =
    gone_step (counts_for table c) table c cs (remove_first (counts_for table) cs) refl
    (λ same. none_alike table c.table cs same (IsDistinct-head (pointwise nat_eq) c.table (tables_of cs) one))
    (find_gone table cs (IsDistinct-tail (pointwise nat_eq) c.table (tables_of cs) one))

pub gone : (table : List ℕ) (cs : List Counter) → HaveOneEach cs → value_for table (counters_beside table cs) ≡ None
gone table cs one = ap (λ (o : Option Counter). option_map (λ (c : Counter). c.value) o) (find_gone table cs one)
