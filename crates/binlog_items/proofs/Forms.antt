-- The events of a text have the forms of their kinds.
use Rattle.std.proofs.Common.{◌≡◌, ℕ, ◌+◌, ◌<◌, ◌≤◌, ◌^◌, zero, suc, Bool, true, false, List, [], ◌∷◌, drop, Option, Some, None, if◌then◌else◌, subst, arith}
use Rattle.std.specs.Prelude.{◌==◌, ◌&&◌, IfSome, slice_get}
use Rattle.std.specs.Int.{w64, cast_unsigned}
use Rattle.std.specs.Option.{option_map}
use Rattle.val_types.specs.declared.value.Value.{Value}
use Rattle.event_codec.specs.declared.event.IntVarKind.TheVariants.{LastInsertId, InsertId}
use Rattle.event_codec.specs.declared.event.Step.{Step}
use Rattle.event_codec.specs.Event.{Body, int_var, query, rand}
use Rattle.event_codec.specs.Laws.{Fits, FitsValue}
use Rattle.event_codec.specs.Writing.{HasForm}
use Rattle.log_entry_laws.specs.log_entries.declared.carried.Carried.{Carried}
use Rattle.log_entry_laws.specs.log_model.Items.{query_of, text_of}
use Rattle.log_entry_laws.specs.log_model.Spelling.{bodies_of, some_of, vars_before}
use Rattle.binlog_items.specs.Logged.{AreValues, HaveForms}

-- ---- user variables

-- with those from a place on, all have values that fit
pub values_on : (vs : List (List ℕ × Value)) (place : ℕ) (v : List ℕ × Value) → Some v ≡ slice_get vs place → FitsValue v.1 → AreValues (drop (place + 1) vs) → AreValues (drop place vs)
values_on [] place v e fits more = cc
values_on (w ∷ vs) zero v e fits more = let same : v ≡ w = cc in (subst (λ (u : List ℕ × Value). FitsValue u.1) same fits, more)
values_on (w ∷ vs) (suc place) v e fits more =
    values_on vs place v e fits (let next : suc place + 1 ≡ suc (place + 1) = omega arith in subst (λ (n : ℕ). AreValues (drop n (w ∷ vs))) next more)

pub none_behind : (vs : List (List ℕ × Value)) (place : ℕ) → None ≡ slice_get vs place → AreValues (drop place vs)
none_behind [] zero e = tt
none_behind [] (suc place) e = tt
none_behind (w ∷ vs) zero e = cc
none_behind (w ∷ vs) (suc place) e = none_behind vs place e

-- ---- the events of a text

number_forms : (o : Option ℕ) (bs : List Body) → (f : ℕ → Body) → ((n : ℕ) → n ≤ 9223372036854775807 → HasForm (f n) × Fits (f n)) → IfSome o (λ n. n ≤ 9223372036854775807) → HaveForms bs → HaveForms (some_of f o bs)
number_forms None bs f are low more = more
number_forms (Some n) bs f are low more = ((are n low).0, (are n low).1, more)

seed_forms : (o : Option (ℕ × ℕ)) (bs : List Body) → IfSome o (λ s. (s.0 < 1073741823) × (s.1 < 1073741823)) → HaveForms bs → HaveForms (some_of (λ s. rand s.0 s.1) o bs)
seed_forms None bs low more = more
seed_forms (Some s) bs low more = (low, tt, more)

var_forms : (vs : List (List ℕ × Value)) (bs : List Body) → AreValues vs → HaveForms bs → HaveForms (vars_before vs bs)
var_forms [] bs fit more = more
var_forms (v ∷ vs) bs fit more = (tt, fit.0, var_forms vs bs fit.1 more)

abbrev step_by : Bool → (increment offset : ℕ) → Option Step
step_by one increment offset = if one then None else Some (record { increment = increment; offset = offset })

step_counts : (one : Bool) (increment offset : ℕ) → 1 ≤ increment → 1 ≤ offset → IfSome (step_by one increment offset) (λ s. (1 ≤ s.increment) × (1 ≤ s.offset))
step_counts true increment offset a b = tt
step_counts false increment offset a b = (a, b)

step_words : (one : Bool) (increment offset : ℕ) → increment < 2 ^ 16 → offset < 2 ^ 16 → IfSome (step_by one increment offset) (λ s. (s.increment < 2 ^ 16) × (s.offset < 2 ^ 16))
step_words true increment offset a b = tt
step_words false increment offset a b = (a, b)

pub text_forms : (text : List ℕ) (c : Carried) → c.connection < 2 ^ 32 → IfSome (option_map (cast_unsigned w64) c.last_id) (λ n. n ≤ 9223372036854775807) → IfSome (option_map (cast_unsigned w64) c.first) (λ n. n ≤ 9223372036854775807)
    → IfSome c.seeds (λ s. (s.0 < 1073741823) × (s.1 < 1073741823)) → AreValues c.vars → (1 ≤ c.inc) × (1 ≤ c.off) × (c.inc < 2 ^ 16) × (c.off < 2 ^ 16) → HaveForms (bodies_of (text_of text c))
text_forms text c thread last_id first seeds vars steps =
    let statement : HaveForms (query (query_of text c) ∷ []) =
    (step_counts (c.inc == 1 && c.off == 1) c.inc c.off steps.0 steps.1, (thread, step_words (c.inc == 1 && c.off == 1) c.inc c.off steps.2 steps.3), tt) in
    number_forms (option_map (cast_unsigned w64) c.last_id) _ (int_var LastInsertId) (λ n low. (low, tt)) last_id
    (number_forms (option_map (cast_unsigned w64) c.first) _ (int_var InsertId) (λ n low. (low, tt)) first
    (seed_forms c.seeds _ seeds (var_forms c.vars (query (query_of text c) ∷ []) vars statement)))
