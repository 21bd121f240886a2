-- What a statement reaches is closed: a program that is reached from it, or from a program reached, is reached.
--
-- Each round has what the one before it has. As long as it has more, it has at least as many as there were rounds; so that with as many
-- rounds as the catalog has objects nothing is left to find.
use Rattle.std.proofs.Common.{◌≡◌, ◌≤◌, ◌<◌, ℕ, zero, suc, ◌⊎◌, inl, inr, Bool, true, false, List, [], ◌∷◌, ◌++◌, cond, filter, flat_map, length, refl, ap, subst, arith}
use Rattle.sql_reach.specs.catalog_rules.Objects.{Object, table, function, procedure, reaction, name_of}
use Rattle.sql_reach.specs.catalog_rules.Nodes.{Node, a_function_call, a_statement}
use Rattle.sql_reach.specs.Reach.{calls_function, fires_trigger, body_nodes, is_reached_from, one_round, rounds, reached_programs, reached_nodes}
use Rattle.reach_laws.specs.Members.{In}
use Rattle.reach_laws.specs.Laws.{CallsAreReached, TriggersAreReached, BodiesAreReached}
use Rattle.reach_laws.proofs.Members.{in_front, in_back, in_either, in_made, more_made, in_kept, kept_in, any_in, more_any, clash}
use Rattle.reach_laws.proofs.Named.{function_is, named_same, trigger_is, fired}

-- ---- how many a test keeps

fewer_kept : {A : Type 0} (p : A → Bool) (xs : List A) → length (filter p xs) ≤ length xs
fewer_kept p [] = omega arith
fewer_kept p (x ∷ xs) = by (p x) (fewer_kept p xs)
  where
    by : (b : Bool) → length (filter p xs) ≤ length xs → length (cond b (x ∷ filter p xs) (filter p xs)) ≤ suc (length xs)
    by true h = omega (arith, h)
    by false h = omega (arith, h)

-- a wider test keeps the same, or more
wider : {A : Type 0} (p q : A → Bool) (xs : List A) → ((a : A) → p a ≡ true → q a ≡ true) → (filter q xs ≡ filter p xs) ⊎ (length (filter p xs) < length (filter q xs))
wider p q [] w = inl refl
wider p q (x ∷ xs) w = by (p x) (q x) (w x) (wider p q xs w)
  where
    by : (b c : Bool) → (b ≡ true → c ≡ true) → (filter q xs ≡ filter p xs) ⊎ (length (filter p xs) < length (filter q xs))
        → (cond c (x ∷ filter q xs) (filter q xs) ≡ cond b (x ∷ filter p xs) (filter p xs)) ⊎ (length (cond b (x ∷ filter p xs) (filter p xs)) < length (cond c (x ∷ filter q xs) (filter q xs)))
    by true true k (inl e) = inl (ap (λ ys. x ∷ ys) e)
    by true true k (inr l) = inr (omega (arith, l))
    by true false k h = absurd (clash false refl (k refl))
    by false true k (inl e) = let same : length (filter q xs) ≡ length (filter p xs) = ap length e in inr (omega (arith, same))
    by false true k (inr l) = inr (omega (arith, l))
    by false false k h = h

-- ---- rounds

-- more nodes reach no less
more_reached : (ms ns : List Node) (o : Object) → ((n : Node) → In n ms → In n ns) → is_reached_from ms o ≡ true → is_reached_from ns o ≡ true
more_reached ms ns (table d) more e = e
more_reached ms ns (function p) more e = more_any (calls_function (name_of p)) ms ns more e
more_reached ms ns (procedure p) more e = e
more_reached ms ns (reaction t) more e = more_any (fires_trigger t) ms ns more e

module _ (catalog : List Object) (nodes : List Node) where
  -- the nodes from which a round finds
  abbrev nodes_at : ℕ → List Node
  nodes_at k = nodes ++ flat_map body_nodes (rounds k catalog nodes)

  abbrev found_at : ℕ → Object → Bool
  found_at k o = is_reached_from (nodes_at k) o

  more_nodes : (xs ys : List Object) → ((o : Object) → In o xs → In o ys) → (n : Node) → In n (nodes ++ flat_map body_nodes xs) → In n (nodes ++ flat_map body_nodes ys)
  more_nodes xs ys more n h = by (in_either n nodes (flat_map body_nodes xs) h)
    where
      by : In n nodes ⊎ In n (flat_map body_nodes xs) → In n (nodes ++ flat_map body_nodes ys)
      by (inl q) = in_front n nodes (flat_map body_nodes ys) q
      by (inr q) = in_back n nodes (flat_map body_nodes ys) (more_made body_nodes n xs ys more q)

  -- what a round has, the next one has
  found_by : (k : ℕ) → ((o : Object) → In o (rounds k catalog nodes) → In o (rounds (suc k) catalog nodes)) → (o : Object) → found_at k o ≡ true → found_at (suc k) o ≡ true
  found_by k more o e = more_reached (nodes_at k) (nodes_at (suc k)) o (more_nodes (rounds k catalog nodes) (rounds (suc k) catalog nodes) more) e

  kept_next : (k : ℕ) (o : Object) → In o (rounds k catalog nodes) → In o (rounds (suc k) catalog nodes)
  kept_next zero o h = absurd h
  kept_next (suc k) o h = let p = kept_in (found_at k) o catalog h in in_kept (found_at (suc k)) o catalog p.0 (found_by k (kept_next k) o p.1)

  found_next : (k : ℕ) (o : Object) → found_at k o ≡ true → found_at (suc k) o ≡ true
  found_next k o e = found_by k (kept_next k) o e

  -- a round that is as the one before it, or as many objects as there were rounds
  abbrev Grows : ℕ → Type 0
  Grows k = (rounds (suc k) catalog nodes ≡ rounds k catalog nodes) ⊎ (k < length (rounds (suc k) catalog nodes))

  first_round : (xs : List Object) → (xs ≡ []) ⊎ (0 < length xs)
  first_round [] = inl refl
  first_round (x ∷ xs) = inr (omega arith)

  grows : (k : ℕ) → Grows k
  grows zero = first_round (rounds 1 catalog nodes)
  grows (suc k) = by (grows k) (wider (found_at k) (found_at (suc k)) catalog (found_next k))
    where
      by : Grows k → (rounds (suc (suc k)) catalog nodes ≡ rounds (suc k) catalog nodes) ⊎ (length (rounds (suc k) catalog nodes) < length (rounds (suc (suc k)) catalog nodes)) → Grows (suc k)
      by (inl e) next = inl (ap (one_round catalog nodes) e)
      by (inr l) (inl e) = inl e
      by (inr l) (inr m) = inr (omega (arith, l, m))

  settled : rounds (suc (length catalog)) catalog nodes ≡ rounds (length catalog) catalog nodes
  settled = by (grows (length catalog)) (fewer_kept (found_at (length catalog)) catalog)
    where
      by : Grows (length catalog) → length (rounds (suc (length catalog)) catalog nodes) ≤ length catalog → rounds (suc (length catalog)) catalog nodes ≡ rounds (length catalog) catalog nodes
      by (inl e) most = e
      by (inr l) most = absurd (omega (arith, l, most))

  -- a program of the catalog that is reached from all that is reached, is reached
  pub program_closed : (o : Object) → In o catalog → is_reached_from (nodes ++ flat_map body_nodes (reached_programs catalog nodes)) o ≡ true → In o (reached_programs catalog nodes)
  program_closed o is reached = subst (λ os. In o os) settled (in_kept (found_at (length catalog)) o catalog is reached)

-- ---- what is called, and what is fired

pub bodies_reached : BodiesAreReached
bodies_reached catalog nodes o node is inside = in_back node nodes (flat_map body_nodes (reached_programs catalog nodes)) (in_made body_nodes o node (reached_programs catalog nodes) is inside)

pub calls_reached : CallsAreReached
calls_reached catalog nodes n count p called is =
    let found = function_is n p catalog is in
    program_closed catalog nodes (function p) found.0 (any_in (calls_function (name_of p)) (a_function_call n count) (reached_nodes catalog nodes) called (named_same n (name_of p) found.1))

pub triggers_reached : TriggersAreReached
triggers_reached catalog nodes one on event time t runs causes is =
    let found = trigger_is on time event t catalog is in
    program_closed catalog nodes (reaction t) found.0 (any_in (fires_trigger t) (a_statement one) (reached_nodes catalog nodes) runs (fired on time event t one found.1 causes))
