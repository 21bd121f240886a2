-- What is found one after the other is what rounds find.
use Rattle.std.proofs.Common.{◌≡◌, ◌<◌, ◌≤◌, ℕ, zero, suc, Bool, true, false, ◌&&◌, ◌||◌, nat_eq, List, [], ◌∷◌, ◌++◌, filter, flat_map, length, slice_get, Option, Some, None, refl, sym, ap, ◌∙◌, arith}
use Rattle.std.specs.List.{list_any}
use Rattle.std.proofs.lemmas.List.Folds.{list_any-append}
use Rattle.std.proofs.lemmas.Bool.Decides.{nat_tests}
use Rattle.session_ctx.specs.catalog_rules.Objects.{Object, table, function, procedure, reaction}
use Rattle.session_ctx.specs.catalog_rules.Nodes.{Node}
use Rattle.sql_reach.specs.Reach.{is_reached_from, body_nodes, rounds}
use Rattle.unsafe_rules.specs.Reaching.{reaches, body_reaches, is_reached, is_at, in_round, IsNew, IsNext, IsFound}
use Rattle.unsafe_rules.proofs.Elements.{any_is, any_from, none_of, none_kept, any_kept, any_made}
use Rattle.unsafe_rules.proofs.Counting.{others_none, one_less}

-- ---- tests

pub or_left : (s t : Bool) → s ≡ true → (s || t) ≡ true
or_left s t e = rw e refl

pub or_right : (s t : Bool) → t ≡ true → (s || t) ≡ true
or_right true t e = refl
or_right false t e = e

pub or_from : {C : Type 0} (s t : Bool) → (s || t) ≡ true → (s ≡ true → C) → (t ≡ true → C) → C
or_from true t e left right = left refl
or_from false t e left right = right e

and_both : (s t : Bool) → s ≡ true → t ≡ true → (s && t) ≡ true
and_both s t e f = cc

and_left : (s t : Bool) → (s && t) ≡ true → s ≡ true
and_left true t e = refl
and_left false t e = e

and_right : (s t : Bool) → (s && t) ≡ true → t ≡ true
and_right true t e = e
and_right false t e = cc

pub not_true : (t : Bool) → (t ≡ true → ⊥) → t ≡ false
not_true true h = absurd (h refl)
not_true false h = refl

-- ---- what rounds have

reached_test : (ns : List Node) (o : Object) → is_reached_from ns o ≡ list_any (reaches o) ns
reached_test ns (table d) = sym (none_of ns)
reached_test ns (function p) = refl
reached_test ns (procedure p) = sym (none_of ns)
reached_test ns (reaction t) = refl

pub rounds_kept : (catalog : List Object) (nodes : List Node) (k : ℕ) → rounds k catalog nodes ≡ filter (in_round catalog nodes k) catalog
rounds_kept catalog nodes zero = sym (none_kept catalog)
rounds_kept catalog nodes (suc k) = refl

-- one more round
round_more : (catalog : List Object) (nodes : List Node) (k : ℕ) (o : Object)
    → in_round catalog nodes (suc k) o ≡ (list_any (reaches o) nodes || list_any (λ x. in_round catalog nodes k x && list_any (reaches o) (body_nodes x)) catalog)
round_more catalog nodes k o =
    reached_test (nodes ++ flat_map body_nodes (rounds k catalog nodes)) o ∙ list_any-append (reaches o) nodes (flat_map body_nodes (rounds k catalog nodes))
    ∙ ap (λ b. list_any (reaches o) nodes || b)
    (any_made body_nodes (reaches o) (rounds k catalog nodes) ∙ ap (list_any (λ x. list_any (reaches o) (body_nodes x))) (rounds_kept catalog nodes k) ∙ any_kept (in_round catalog nodes k) (λ x. list_any (reaches o) (body_nodes x)) catalog)

by_nodes : (catalog : List Object) (nodes : List Node) (k : ℕ) (o : Object) → list_any (reaches o) nodes ≡ true → in_round catalog nodes (suc k) o ≡ true
by_nodes catalog nodes k o e = round_more catalog nodes k o ∙ or_left _ _ e

by_body : (catalog : List Object) (nodes : List Node) (k j : ℕ) (x o : Object) → slice_get catalog j ≡ Some x → in_round catalog nodes k x ≡ true → list_any (reaches o) (body_nodes x) ≡ true → in_round catalog nodes (suc k) o ≡ true
by_body catalog nodes k j x o at has e =
    round_more catalog nodes k o ∙ or_right (list_any (reaches o) nodes) _ (any_is (λ x. in_round catalog nodes k x && list_any (reaches o) (body_nodes x)) catalog j x at (and_both _ _ has e))

round_from : {C : Type 0} (catalog : List Object) (nodes : List Node) (k : ℕ) (o : Object) → in_round catalog nodes (suc k) o ≡ true
    → (list_any (reaches o) nodes ≡ true → C)
    → ((j : ℕ) (x : Object) → slice_get catalog j ≡ Some x → in_round catalog nodes k x ≡ true → list_any (reaches o) (body_nodes x) ≡ true → C) → C
round_from catalog nodes k o e by_node by_object =
    or_from (list_any (reaches o) nodes) (list_any (λ x. in_round catalog nodes k x && list_any (reaches o) (body_nodes x)) catalog) (sym (round_more catalog nodes k o) ∙ e) by_node
    (λ some. any_from (λ x. in_round catalog nodes k x && list_any (reaches o) (body_nodes x)) catalog some
    (λ j x at h. by_object j x at (and_left _ _ h) (and_right (in_round catalog nodes k x) _ h)))

-- what a round has, the next one has
kept_next : (catalog : List Object) (nodes : List Node) (k : ℕ) (o : Object) → in_round catalog nodes k o ≡ true → in_round catalog nodes (suc k) o ≡ true
kept_next catalog nodes zero o e = cc
kept_next catalog nodes (suc k) o e =
    round_from catalog nodes k o e (by_nodes catalog nodes (suc k) o) (λ j x at has reached. by_body catalog nodes (suc k) j x o at (kept_next catalog nodes k x has) reached)

kept_by : (catalog : List Object) (nodes : List Node) (k m : ℕ) (o : Object) → k ≤ suc m → (k ≤ m → in_round catalog nodes m o ≡ true) → in_round catalog nodes k o ≡ true → (t : Bool) → nat_eq k (suc m) ≡ t → in_round catalog nodes (suc m) o ≡ true
kept_by catalog nodes k m o within before has true same =
    let e : k ≡ suc m = grind (arith, nat_tests) in
    ap (λ n. in_round catalog nodes n o) (sym e) ∙ has
kept_by catalog nodes k m o within before has false other =
    let less : k ≤ m = grind (arith, nat_tests) in
    kept_next catalog nodes m o (before less)

pub kept_on : (catalog : List Object) (nodes : List Node) (k m : ℕ) (o : Object) → k ≤ m → in_round catalog nodes k o ≡ true → in_round catalog nodes m o ≡ true
kept_on catalog nodes k zero o within has =
    let e : k ≡ 0 = omega arith in
    ap (λ n. in_round catalog nodes n o) (sym e) ∙ has
kept_on catalog nodes k (suc m) o within has = kept_by catalog nodes k m o within (λ less. kept_on catalog nodes k m o less has) has (nat_eq k (suc m)) refl

-- ---- what was found

pub nothing_found : (catalog : List Object) (nodes : List Node) (wanted : Object → Bool) → IsFound catalog nodes wanted []
nothing_found catalog nodes wanted = record { reached = (λ at o is get. cc); room = omega (arith, others_none (length catalog)) }

-- what is reached from what rounds have, the next round has
reached_round : (catalog : List Object) (nodes : List Node) (k : ℕ) (places : List ℕ) (o : Object)
    → ((at : ℕ) (x : Object) → is_at at places ≡ true → slice_get catalog at ≡ Some x → in_round catalog nodes k x ≡ true)
    → is_reached catalog nodes places o ≡ true → in_round catalog nodes (suc k) o ≡ true
reached_round catalog nodes k [] o has e = by_nodes catalog nodes k o e
reached_round catalog nodes k (at ∷ places) o has e =
    or_from (body_reaches o (slice_get catalog at)) (is_reached catalog nodes places o) e (by_place (slice_get catalog at) refl)
    (λ rest. reached_round catalog nodes k places o (λ j x is get. has j x (or_right (nat_eq j at) _ is) get) rest) where
      by_place : (found : Option Object) → slice_get catalog at ≡ found → body_reaches o found ≡ true → in_round catalog nodes (suc k) o ≡ true
      by_place None get h = cc
      by_place (Some x) get h =
          let own : nat_eq at at ≡ true = grind (arith, nat_tests) in
          by_body catalog nodes k at x o get (has at x (or_left (nat_eq at at) _ own) get) h

new_round : (catalog : List Object) (nodes : List Node) (wanted : Object → Bool) (places : List ℕ) (at : ℕ) → IsFound catalog nodes wanted places → (new : IsNew catalog nodes places at) → in_round catalog nodes (suc (length places)) new.object ≡ true
new_round catalog nodes wanted places at found new = reached_round catalog nodes (length places) places new.object (λ j x is get. (found.reached j x is get).0) new.reached

pub place_within : (catalog : List Object) (at : ℕ) (o : Object) → slice_get catalog at ≡ Some o → at < length catalog
place_within [] at o e = cc
place_within (x ∷ xs) zero o e = omega arith
place_within (x ∷ xs) (suc at) o e = omega (arith, place_within xs at o e)

same_object : (catalog : List Object) (i j : ℕ) (x y : Object) → i ≡ j → slice_get catalog i ≡ Some x → slice_get catalog j ≡ Some y → x ≡ y
same_object catalog i j x y e f g = cc

-- one more object that is not wanted
pub one_found : (catalog : List Object) (nodes : List Node) (wanted : Object → Bool) (places : List ℕ) (at : ℕ) → IsFound catalog nodes wanted places → (new : IsNew catalog nodes places at) → wanted new.object ≡ false
    → IsFound catalog nodes wanted (at ∷ places)
one_found catalog nodes wanted places at found new unwanted = record {
  reached = (λ j o is get. by_test j o get (nat_eq j at) refl is);
  room = omega (arith, found.room, one_less at places (length catalog) new.new (place_within catalog at new.object new.is));
} where
  by_test : (j : ℕ) (o : Object) → slice_get catalog j ≡ Some o → (t : Bool) → nat_eq j at ≡ t → (t || is_at j places) ≡ true → (in_round catalog nodes (length (at ∷ places)) o ≡ true) × (wanted o ≡ false)
  by_test j o get true same is =
      let place : j ≡ at = grind (arith, nat_tests) in
      let object : o ≡ new.object = same_object catalog j at o new.object place get new.is in
      (ap (in_round catalog nodes (suc (length places))) object ∙ new_round catalog nodes wanted places at found new, ap wanted object ∙ unwanted)
  by_test j o get false other is = let before = found.reached j o is get in (kept_next catalog nodes (length places) o before.0, before.1)

-- one more object that is wanted
pub wanted_found : (catalog : List Object) (nodes : List Node) (wanted : Object → Bool) (places : List ℕ) (at : ℕ) → IsFound catalog nodes wanted places → (new : IsNew catalog nodes places at) → wanted new.object ≡ true
    → list_any wanted (rounds (length catalog) catalog nodes) ≡ true
wanted_found catalog nodes wanted places at found new is =
    let room : suc (length places) ≤ length catalog = omega (arith, found.room, one_less at places (length catalog) new.new (place_within catalog at new.object new.is)) in
    let has : in_round catalog nodes (length catalog) new.object ≡ true = kept_on catalog nodes (suc (length places)) (length catalog) new.object room (new_round catalog nodes wanted places at found new) in
    ap (list_any wanted) (rounds_kept catalog nodes (length catalog)) ∙ any_kept (in_round catalog nodes (length catalog)) wanted catalog
    ∙ any_is (λ x. in_round catalog nodes (length catalog) x && wanted x) catalog at new.object new.is (and_both _ _ has is)

-- ---- nothing more to find

at_nodes : (catalog : List Object) (nodes : List Node) (places : List ℕ) (o : Object) → list_any (reaches o) nodes ≡ true → is_reached catalog nodes places o ≡ true
at_nodes catalog nodes [] o e = e
at_nodes catalog nodes (at ∷ places) o e = or_right (body_reaches o (slice_get catalog at)) _ (at_nodes catalog nodes places o e)

place_by : (catalog : List Object) (nodes : List Node) (places : List ℕ) (at j : ℕ) (x o : Object) → slice_get catalog j ≡ Some x → list_any (reaches o) (body_nodes x) ≡ true → (is_at j places ≡ true → is_reached catalog nodes places o ≡ true)
    → (t : Bool) → nat_eq j at ≡ t → (t || is_at j places) ≡ true → is_reached catalog nodes (at ∷ places) o ≡ true
place_by catalog nodes places at j x o get e before true same h =
    let place : at ≡ j = grind (arith, nat_tests) in
    let here : slice_get catalog at ≡ Some x = ap (slice_get catalog) place ∙ get in
    or_left (body_reaches o (slice_get catalog at)) _ (ap (body_reaches o) here ∙ e)
place_by catalog nodes places at j x o get e before false other h = or_right (body_reaches o (slice_get catalog at)) _ (before h)

at_place : (catalog : List Object) (nodes : List Node) (places : List ℕ) (j : ℕ) (x o : Object) → is_at j places ≡ true → slice_get catalog j ≡ Some x → list_any (reaches o) (body_nodes x) ≡ true → is_reached catalog nodes places o ≡ true
at_place catalog nodes [] j x o is get e = cc
at_place catalog nodes (at ∷ places) j x o is get e =
    place_by catalog nodes places at j x o get e (λ h. at_place catalog nodes places j x o h get e) (nat_eq j at) refl is

pub clash : (t : Bool) → t ≡ false → t ≡ true → ⊥
clash t e f = cc

settled_by : (catalog : List Object) (nodes : List Node) (places : List ℕ) (at : ℕ) (o : Object) → IsNext catalog nodes places None → slice_get catalog at ≡ Some o → is_reached catalog nodes places o ≡ true
    → (t : Bool) → is_at at places ≡ t → is_at at places ≡ true
settled_by catalog nodes places at o none get is true e = e
settled_by catalog nodes places at o none get is false e = absurd (clash (is_reached catalog nodes places o) (none at o get e) is)

-- where there is no next object, what any round has was found
pub settled : (catalog : List Object) (nodes : List Node) (places : List ℕ) → IsNext catalog nodes places None → (k at : ℕ) (o : Object) → slice_get catalog at ≡ Some o → in_round catalog nodes k o ≡ true → is_at at places ≡ true
settled catalog nodes places none zero at o get has = cc
settled catalog nodes places none (suc k) at o get has =
    settled_by catalog nodes places at o none get
    (round_from catalog nodes k o has (at_nodes catalog nodes places o)
    (λ j x own before e. at_place catalog nodes places j x o (settled catalog nodes places none k j x own before) own e))
    (is_at at places) refl

pub none_wanted : (catalog : List Object) (nodes : List Node) (wanted : Object → Bool) (places : List ℕ) → IsFound catalog nodes wanted places → IsNext catalog nodes places None → list_any wanted (rounds (length catalog) catalog nodes) ≡ false
none_wanted catalog nodes wanted places found none =
    ap (list_any wanted) (rounds_kept catalog nodes (length catalog)) ∙ any_kept (in_round catalog nodes (length catalog)) wanted catalog
    ∙ not_true (list_any (λ x. in_round catalog nodes (length catalog) x && wanted x) catalog)
    (λ some. any_from (λ x. in_round catalog nodes (length catalog) x && wanted x) catalog some
    (λ i x get h. clash (wanted x) ((found.reached i x (settled catalog nodes places none (length catalog) i x get (and_left _ _ h)) get).1) (and_right (in_round catalog nodes (length catalog) x) _ h)))
