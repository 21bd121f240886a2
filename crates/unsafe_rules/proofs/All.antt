-- Where no object is left to find, those that were found are those that are reached.
use Rattle.std.proofs.Common.{◌≡◌, ◌+◌, ℕ, zero, suc, Bool, true, false, ◌||◌, nat_eq, List, [], ◌∷◌, cond, filter, flat_map, length, slice_get, Option, Some, None, refl, sym, ap, ◌∙◌, arith}
use Rattle.std.specs.List.{list_any}
use Rattle.std.proofs.lemmas.List.Folds.{list_any-append}
use Rattle.std.proofs.lemmas.Bool.Decides.{nat_tests}
use Rattle.session_ctx.specs.catalog_rules.Objects.{Object}
use Rattle.session_ctx.specs.catalog_rules.Nodes.{Node}
use Rattle.sql_reach.specs.Reach.{body_nodes, reached_nodes, reached_programs}
use Rattle.node_walk.specs.declared.asking.Ask.{Ask}
use Rattle.node_walk.specs.Asking.{asks_node}
use Rattle.unsafe_rules.specs.Reaching.{is_at, in_round, in_place, in_programs, at_places, IsAll}
use Rattle.unsafe_rules.proofs.Elements.{any_made}
use Rattle.unsafe_rules.proofs.Rounds.{kept_on, or_left, or_right, or_from, rounds_kept, settled}

alike : (s t : Bool) → (s ≡ true → t ≡ true) → (t ≡ true → s ≡ true) → s ≡ t
alike true true f g = refl
alike true false f g = sym (f refl)
alike false true f g = g refl
alike false false f g = refl

-- an object is reached just where its place was found
placed : (catalog : List Object) (nodes : List Node) (places : List ℕ) → IsAll catalog nodes places → (at : ℕ) (o : Object) → slice_get catalog at ≡ Some o
    → is_at at places ≡ in_round catalog nodes (length catalog) o
placed catalog nodes places all at o get =
    alike _ _
    (λ is. kept_on catalog nodes (length places) (length catalog) o (omega (arith, all.found.room)) (all.found.reached at o is get).0)
    (λ has. settled catalog nodes places all.none (length catalog) at o get has)

kept_alike : (p q : Bool) (o : Object) (xs ys : List Object) → p ≡ q → xs ≡ ys → cond p (o ∷ xs) xs ≡ cond q (o ∷ ys) ys
kept_alike true true o xs ys e f = ap (λ (l : List Object). o ∷ l) f
kept_alike true false o xs ys e f = cc
kept_alike false true o xs ys e f = cc
kept_alike false false o xs ys e f = f

kept_places : (places : List ℕ) (test : Object → Bool) (start : ℕ) (os : List Object) → ((j k : ℕ) (o : Object) → k ≡ start + j → slice_get os j ≡ Some o → is_at k places ≡ test o)
    → at_places places start os ≡ filter test os
kept_places places test start [] same = refl
kept_places places test start (o ∷ os) same =
    kept_alike (is_at start places) (test o) o _ _ (same 0 start o (omega arith) refl)
    (kept_places places test (suc start) os (λ j k x e get. same (suc j) k x (omega (arith, e)) get))

-- those at places that were found, in the order of the catalog
pub places_reached : (catalog : List Object) (nodes : List Node) (places : List ℕ) → IsAll catalog nodes places → at_places places 0 catalog ≡ reached_programs catalog nodes
places_reached catalog nodes places all =
    kept_places places (in_round catalog nodes (length catalog)) 0 catalog (λ j k o e get. ap (λ (n : ℕ). is_at n places) (omega (arith, e)) ∙ placed catalog nodes places all j o get)
    ∙ sym (rounds_kept catalog nodes (length catalog))

same_place : (at : ℕ) → nat_eq at at ≡ true
same_place at = grind (arith, nat_tests)

place_holds : (ask : Ask) (found : Option Object) {C : Type 0} → in_place ask found ≡ true → ((o : Object) → found ≡ Some o → list_any (asks_node ask) (body_nodes o) ≡ true → C) → C
place_holds ask None e then = cc
place_holds ask (Some o) e then = then o refl e

-- what holds in an object that was found, and the other way round
from_places : (ask : Ask) (catalog : List Object) (places : List ℕ) {C : Type 0} → in_programs ask catalog places ≡ true
    → ((at : ℕ) (o : Object) → is_at at places ≡ true → slice_get catalog at ≡ Some o → list_any (asks_node ask) (body_nodes o) ≡ true → C) → C
from_places ask catalog [] e then = cc
from_places ask catalog (at ∷ places) e then =
    or_from (in_place ask (slice_get catalog at)) (in_programs ask catalog places) e
    (λ here. place_holds ask (slice_get catalog at) here (λ o get holds. then at o (or_left _ _ (same_place at)) get holds))
    (λ rest. from_places ask catalog places rest (λ j o is get holds. then j o (or_right _ _ is) get holds))

at_own_place : (ask : Ask) (catalog : List Object) (at j : ℕ) (o : Object) → slice_get catalog j ≡ Some o → list_any (asks_node ask) (body_nodes o) ≡ true → nat_eq j at ≡ true → in_place ask (slice_get catalog at) ≡ true
at_own_place ask catalog at j o get holds same =
    let place : at ≡ j = grind (arith, nat_tests) in
    let here : slice_get catalog at ≡ Some o = ap (slice_get catalog) place ∙ get in
    ap (in_place ask) here ∙ holds

to_places : (ask : Ask) (catalog : List Object) (places : List ℕ) (j : ℕ) (o : Object) → is_at j places ≡ true → slice_get catalog j ≡ Some o → list_any (asks_node ask) (body_nodes o) ≡ true → in_programs ask catalog places ≡ true
to_places ask catalog [] j o is get holds = cc
to_places ask catalog (at ∷ places) j o is get holds =
    or_from (nat_eq j at) (is_at j places) is
    (λ same. or_left _ _ (at_own_place ask catalog at j o get holds same))
    (λ rest. or_right (in_place ask (slice_get catalog at)) _ (to_places ask catalog places j o rest get holds))

in_kept : (ask : Ask) (places : List ℕ) (start : ℕ) (os : List Object) (j k : ℕ) (o : Object) → k ≡ start + j → slice_get os j ≡ Some o → is_at k places ≡ true → list_any (asks_node ask) (body_nodes o) ≡ true
    → list_any (λ x. list_any (asks_node ask) (body_nodes x)) (at_places places start os) ≡ true
in_kept ask places start [] j k o e get is holds = cc
in_kept ask places start (x ∷ os) zero k o e get is holds =
    let same : Some x ≡ Some o = get in
    let own : x ≡ o = cc in
    let here : list_any (asks_node ask) (body_nodes x) ≡ true = ap (λ (y : Object). list_any (asks_node ask) (body_nodes y)) own ∙ holds in
    let at : is_at start places ≡ true = ap (λ (n : ℕ). is_at n places) (omega (arith, e)) ∙ is in
    rw at (or_left _ _ here)
in_kept ask places start (x ∷ os) (suc j) k o e get is holds = behind (is_at start places) (in_kept ask places (suc start) os j k o (omega (arith, e)) get is holds) where
  behind : (t : Bool) → list_any (λ y. list_any (asks_node ask) (body_nodes y)) (at_places places (suc start) os) ≡ true
      → list_any (λ y. list_any (asks_node ask) (body_nodes y)) (cond t (x ∷ at_places places (suc start) os) (at_places places (suc start) os)) ≡ true
  behind true e = or_right (list_any (asks_node ask) (body_nodes x)) _ e
  behind false e = e

kept_split : (ask : Ask) (places : List ℕ) (start : ℕ) (x : Object) (os : List Object) (t : Bool) {C : Type 0} → is_at start places ≡ t
    → list_any (λ y. list_any (asks_node ask) (body_nodes y)) (cond t (x ∷ at_places places (suc start) os) (at_places places (suc start) os)) ≡ true
    → (list_any (asks_node ask) (body_nodes x) ≡ true → is_at start places ≡ true → C)
    → (list_any (λ y. list_any (asks_node ask) (body_nodes y)) (at_places places (suc start) os) ≡ true → C) → C
kept_split ask places start x os true is f here later = or_from (list_any (asks_node ask) (body_nodes x)) _ f (λ holds. here holds is) later
kept_split ask places start x os false is f here later = later f

from_kept : (ask : Ask) (places : List ℕ) (start : ℕ) (os : List Object) {C : Type 0} → list_any (λ x. list_any (asks_node ask) (body_nodes x)) (at_places places start os) ≡ true
    → ((j k : ℕ) (o : Object) → k ≡ start + j → slice_get os j ≡ Some o → is_at k places ≡ true → list_any (asks_node ask) (body_nodes o) ≡ true → C) → C
from_kept ask places start [] e then = cc
from_kept ask places start (x ∷ os) e then =
    kept_split ask places start x os (is_at start places) refl e (λ holds is. then 0 start x (omega arith) refl is holds)
    (λ f. from_kept ask places (suc start) os f (λ j k o e get is holds. then (suc j) k o (omega (arith, e)) get is holds))

-- what is asked holds in the programs that were found just where it holds in those that are reached
pub programs_asked : (ask : Ask) (catalog : List Object) (nodes : List Node) (places : List ℕ) → IsAll catalog nodes places
    → in_programs ask catalog places ≡ list_any (asks_node ask) (flat_map body_nodes (reached_programs catalog nodes))
programs_asked ask catalog nodes places all =
    alike (in_programs ask catalog places) (list_any (λ x. list_any (asks_node ask) (body_nodes x)) (at_places places 0 catalog))
    (λ e. from_places ask catalog places e (λ at o is get holds. in_kept ask places 0 catalog at at o (omega arith) get is holds))
    (λ e. from_kept ask places 0 catalog e (λ j k o e get is holds. to_places ask catalog places j o (ap (λ (n : ℕ). is_at n places) (omega (arith, e)) ∙ is) get holds))
    ∙ ap (list_any (λ x. list_any (asks_node ask) (body_nodes x))) (places_reached catalog nodes places all)
    ∙ sym (any_made body_nodes (asks_node ask) (reached_programs catalog nodes))

both : (a b c d : Bool) → a ≡ b → c ≡ d → (a || c) ≡ (b || d)
both a b c d e f = cc

-- the same of all nodes that are reached
pub all_asked : (ask : Ask) (catalog : List Object) (nodes : List Node) (places : List ℕ) → IsAll catalog nodes places
    → (list_any (asks_node ask) nodes || in_programs ask catalog places) ≡ list_any (asks_node ask) (reached_nodes catalog nodes)
all_asked ask catalog nodes places all =
    both _ _ _ _ refl (programs_asked ask catalog nodes places all)
    ∙ sym (list_any-append (asks_node ask) nodes (flat_map body_nodes (reached_programs catalog nodes)))
