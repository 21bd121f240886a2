-- What a replica's steps make of groups, one step more: a group carried out at the draw of its APPLY, or an opening.
use Rattle.std.proofs.Common.{◌≡◌, ℕ, ◌+◌, zero, suc, List, [], ◌∷◌, ◌++◌, length, map, take, Result, Ok, Err, refl, sym, ap, ◌∙◌, append_assoc, arith}
use Rattle.std.specs.Prelude.{replicate}
use Rattle.std.proofs.lemmas.List.{replicate_more}
use Rattle.port_traits.specs.declared.identity.Identity.{Identity}
use Rattle.port_traits.specs.declared.identity.Draw.{Draw}
use Rattle.apply_laws.specs.log_entries.declared.entries.Entry.{Entry}
use Rattle.apply_laws.specs.log_model.Groups.{Group}
use Rattle.apply_laws.specs.log_model.Log.{LogPlace, behind, counted, counted_all, written_to}
use Rattle.apply_laws.specs.apply_model.Stops.{Differs}
use Rattle.apply_laws.specs.apply_model.Groups.{Applied, and_then, group_carried}
use Rattle.apply_laws.specs.log_entry_laws.Entries.{group_of_entry}
use Rattle.apply_laws.specs.session_model.Machine.{Whole, kept_entry}
use Rattle.run_model.specs.Run.{ReplicaStep, carried_at, opened_again, carried_in}
use Rattle.run_model.specs.Following.{all_carried, begun_anew, groups_of}

-- ---- the groups of entries

pub groups_last : (es : List (Entry Whole)) (e : Entry Whole) (n : ℕ) (p : LogPlace)
    → groups_of (map kept_entry (es ++ e ∷ [])) n p
    ≡ groups_of (map kept_entry es) n p ++ group_of_entry (kept_entry e) (counted_all (map kept_entry es) n) (written_to (map kept_entry es) n p) ∷ []
groups_last [] e n p = refl
groups_last (x ∷ xs) e n p =
    ap (λ (gs : List Group). group_of_entry (kept_entry x) n p ∷ gs) (groups_last xs e (counted (kept_entry x) n) (behind (kept_entry x) n p))

pub groups_length : (es : List (Entry Whole)) (n : ℕ) (p : LogPlace) → length (groups_of (map kept_entry es) n p) ≡ length es
groups_length [] n p = refl
groups_length (e ∷ es) n p = ap suc (groups_length es (counted (kept_entry e) n) (behind (kept_entry e) n p))

-- ---- what is made of them

-- behind no group
none_more : (identity : Identity) (r : Result Applied Differs) → and_then (all_carried identity [] []) r ≡ r
none_more identity (Ok x) = refl
none_more identity (Err d) = refl

pub carried_last : (identity : Identity) (gs : List Group) (g : Group) (ss : List ReplicaStep) (d : Draw) (x : Applied) → length gs ≡ carried_in ss
    → all_carried identity (gs ++ g ∷ []) (ss ++ carried_at d ∷ []) x ≡ and_then (λ (y : Applied). group_carried identity d y.base y.counters g) (all_carried identity gs ss x)
carried_last identity [] g [] d x same = none_more identity (group_carried identity d x.base x.counters g)
carried_last identity (h ∷ gs) g [] d x same = let no : ⊥ = omega (arith, same) in absurd no
carried_last identity [] g (opened_again ∷ ss) d x same = carried_last identity [] g ss d (begun_anew x) same
carried_last identity (h ∷ gs) g (opened_again ∷ ss) d x same = carried_last identity (h ∷ gs) g ss d (begun_anew x) same
carried_last identity [] g (carried_at c ∷ ss) d x same = let no : ⊥ = omega (arith, same) in absurd no
carried_last identity (h ∷ gs) g (carried_at c ∷ ss) d x same =
    by (λ y. carried_last identity gs g ss d y (omega (arith, same))) (group_carried identity c x.base x.counters h)
  where
    by : ((y : Applied) → all_carried identity (gs ++ g ∷ []) (ss ++ carried_at d ∷ []) y ≡ and_then (λ (z : Applied). group_carried identity d z.base z.counters g) (all_carried identity gs ss y))
        → (r : Result Applied Differs)
        → and_then (all_carried identity (gs ++ g ∷ []) (ss ++ carried_at d ∷ [])) r ≡ and_then (λ (z : Applied). group_carried identity d z.base z.counters g) (and_then (all_carried identity gs ss) r)
    by more (Ok y) = more y
    by more (Err stop) = refl

-- an opening behind them
pub opened_last : (identity : Identity) (gs : List Group) (ss : List ReplicaStep) (x : Applied) → length gs ≡ carried_in ss
    → all_carried identity gs (ss ++ opened_again ∷ []) x ≡ and_then (λ (y : Applied). Ok (begun_anew y)) (all_carried identity gs ss x)
opened_last identity gs [] x same = refl
opened_last identity [] (opened_again ∷ ss) x same = opened_last identity [] ss (begun_anew x) same
opened_last identity (h ∷ gs) (opened_again ∷ ss) x same = opened_last identity (h ∷ gs) ss (begun_anew x) same
opened_last identity [] (carried_at c ∷ ss) x same = let no : ⊥ = omega (arith, same) in absurd no
opened_last identity (h ∷ gs) (carried_at c ∷ ss) x same =
    by (λ y. opened_last identity gs ss y (omega (arith, same))) (group_carried identity c x.base x.counters h)
  where
    by : ((y : Applied) → all_carried identity gs (ss ++ opened_again ∷ []) y ≡ and_then (λ (z : Applied). Ok (begun_anew z)) (all_carried identity gs ss y))
        → (r : Result Applied Differs)
        → and_then (all_carried identity gs (ss ++ opened_again ∷ [])) r ≡ and_then (λ (z : Applied). Ok (begun_anew z)) (and_then (all_carried identity gs ss) r)
    by more (Ok y) = more y
    by more (Err stop) = refl

-- ---- steps

-- one group more at the draw of an APPLY
pub steps_last : (ss : List ReplicaStep) (n : ℕ) (d : Draw) → ss ++ replicate (n + 1) (carried_at d) ≡ (ss ++ replicate n (carried_at d)) ++ carried_at d ∷ []
steps_last ss n d =
    ap (λ (xs : List ReplicaStep). ss ++ xs) (sym (replicate_more n (carried_at d))) ∙ sym (append_assoc ss (replicate n (carried_at d)) (carried_at d ∷ []))

pub carried_both : (front back : List ReplicaStep) → carried_in (front ++ back) ≡ carried_in front + carried_in back
carried_both [] back = omega arith
carried_both (carried_at d ∷ ss) back = omega (arith, carried_both ss back)
carried_both (opened_again ∷ ss) back = carried_both ss back

carried_many : (n : ℕ) (d : Draw) → carried_in (replicate n (carried_at d)) ≡ n
carried_many zero d = refl
carried_many (suc n) d = ap suc (carried_many n d)

pub steps_count : (ss : List ReplicaStep) (n : ℕ) (d : Draw) → carried_in (ss ++ replicate n (carried_at d)) ≡ carried_in ss + n
steps_count ss n d = carried_both ss (replicate n (carried_at d)) ∙ ap (λ (k : ℕ). carried_in ss + k) (carried_many n d)

-- ---- the entries that an APPLY comes to

-- so many and one more, behind the beginning of a log
pub come_last : (xs : List (Entry Whole)) (x : Entry Whole) (ys : List (Entry Whole)) (n : ℕ) → n ≡ length xs → take (suc n) (xs ++ x ∷ ys) ≡ xs ++ x ∷ []
come_last xs x ys n is = ap (λ (k : ℕ). take (suc k) (xs ++ x ∷ ys)) is ∙ taken xs
  where
    taken : (xs : List (Entry Whole)) → take (suc (length xs)) (xs ++ x ∷ ys) ≡ xs ++ x ∷ []
    taken [] = refl
    taken (y ∷ xs) = ap (λ (zs : List (Entry Whole)). y ∷ zs) (taken xs)
