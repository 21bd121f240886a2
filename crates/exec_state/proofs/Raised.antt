-- Counters raised.
use Rattle.std.proofs.Common.{◌≡◌, ◌≤◌, ℕ, max, List, [], ◌∷◌, Bool, true, false, refl, sym, ap, subst, ◌∙◌, arith, ℤ}
use Rattle.std.specs.Prelude.{unwrap_or, nat_eq, find, Option, Some, None}
use Rattle.std.specs.Option.{option_map}
use Rattle.std.specs.Cmp.Lexicographic.{pointwise}
use Rattle.auto_inc.specs.declared.counters.Counter.{Counter}
use Rattle.auto_inc.specs.Counting.{counts_for, value_for, changed_for, behind, place_for}
use Rattle.val_types.proofs.Lookup.{place_mapped}
use Rattle.table_rules.proofs.Places.{at_place}
use Rattle.exec_state.specs.Stage.{NoneLower}

-- the greater of two numbers, in either order
either_way : (a b : ℕ) → max a b ≡ max b a
either_way a b = grind (arith)

above : (a b : ℕ) → a ≤ max b a
above a b = grind (arith)

changed_step : (name : List ℕ) (f g : ℕ → ℕ) (c : Counter) (cs : List Counter) (here : Bool) → counts_for name c ≡ here → ((n : ℕ) → f n ≡ g n)
    → changed_for name f cs ≡ changed_for name g cs → changed_for name f (c ∷ cs) ≡ changed_for name g (c ∷ cs)
changed_step name f g c cs true e same later = rw (e, same c.value) refl
changed_step name f g c cs false e same later = rw (e, later) refl

changed_alike : (name : List ℕ) (f g : ℕ → ℕ) (cs : List Counter) → ((n : ℕ) → f n ≡ g n) → changed_for name f cs ≡ changed_for name g cs
changed_alike name f g [] same = refl
changed_alike name f g (c ∷ cs) same = changed_step name f g c cs (counts_for name c) refl same (changed_alike name f g cs same)

pub raised_so : (name : List ℕ) (v : ℤ) (old new : List Counter) → new ≡ changed_for name (max (behind v)) old → changed_for name (λ n. max n (behind v)) old ≡ new
raised_so name v old new e = changed_alike name (λ n. max n (behind v)) (max (behind v)) old (λ n. either_way n (behind v)) ∙ sym e

same_number : (n : ℕ) → n ≤ n
same_number n = omega arith

raised_step : (t name : List ℕ) (f : ℕ → ℕ) (c : Counter) (cs : List Counter) (here there : Bool) → counts_for name c ≡ here → counts_for t c ≡ there → ((n : ℕ) → n ≤ f n)
    → unwrap_or (value_for t cs) 0 ≤ unwrap_or (value_for t (changed_for name f cs)) 0
    → unwrap_or (value_for t (c ∷ cs)) 0 ≤ unwrap_or (value_for t (changed_for name f (c ∷ cs))) 0
raised_step t name f c cs true true e g up later = rw (e, g) (up c.value)
raised_step t name f c cs true false e g up later = rw (e, g) (same_number (unwrap_or (value_for t cs) 0))
raised_step t name f c cs false true e g up later = rw (e, g) (same_number c.value)
raised_step t name f c cs false false e g up later = rw (e, g) later

raised_above : (t name : List ℕ) (f : ℕ → ℕ) (cs : List Counter) → ((n : ℕ) → n ≤ f n) → unwrap_or (value_for t cs) 0 ≤ unwrap_or (value_for t (changed_for name f cs)) 0
raised_above t name f [] up = same_number 0
raised_above t name f (c ∷ cs) up = raised_step t name f c cs (counts_for name c) (counts_for t c) refl refl up (raised_above t name f cs up)

-- the counter of a table that has one
some_value : (o : Option Counter) (test : Counter → Bool) (n : ℕ) → option_map test o ≡ Some true
    → n ≡ unwrap_or (option_map (λ (c : Counter). c.value) o) 0 → unwrap_or (option_map (λ (c : Counter). c.value) o) 1 ≡ n
some_value None test n e same = cc
some_value (Some c) test n e same = sym same

pub counted_there : (name : List ℕ) (cs : List Counter) (at n : ℕ) → place_for name cs ≡ Some at → n ≡ unwrap_or (value_for name cs) 0 → unwrap_or (value_for name cs) 1 ≡ n
counted_there name cs at n e same =
    some_value (find (counts_for name) cs) (counts_for name) n
    (at_place (counts_for name) cs at (sym (place_mapped (λ (c : Counter). c.table) (pointwise nat_eq name) cs) ∙ e)).1 same

-- none is lower than it was
pub none_lower : (name : List ℕ) (v : ℤ) (old new : List Counter) → new ≡ changed_for name (max (behind v)) old → NoneLower old new
none_lower name v old new e = λ t.
    subst (λ (cs : List Counter). unwrap_or (value_for t old) 0 ≤ unwrap_or (value_for t cs) 0) (sym e) (raised_above t name (max (behind v)) old (λ n. above n (behind v)))
