-- Which programs are reached, found one after the other.
use Rattle.std.specs.Prelude.{◌≡◌, ◌+◌, ◌<◌, ◌≤◌, ℕ, zero, suc, cond, if◌then◌else◌, ◌++◌, flat_map, length, Bool, true, false, ◌||◌, nat_eq, List, [], ◌∷◌, slice_get, Option, Some, None}
use Rattle.std.specs.List.{list_any}
use Rattle.session_ctx.specs.catalog_rules.Objects.{Object, table, function, procedure, reaction, name_of}
use Rattle.session_ctx.specs.catalog_rules.Nodes.{Node}
use Rattle.sql_reach.specs.Reach.{calls_function, fires_trigger, body_nodes, is_reached_from, rounds}
use Rattle.node_walk.specs.declared.asking.Ask.{Ask}
use Rattle.node_walk.specs.Asking.{asks_node}

-- whether a node calls the function, or causes what the trigger waits for
abbrev pub reaches : Object → Node → Bool
reaches (table definition) node = false
reaches (function p) node = calls_function (name_of p) node
reaches (procedure p) node = false
reaches (reaction t) node = fires_trigger t node

-- whether a node of the body of an object that was found does
abbrev pub body_reaches : Object → Option Object → Bool
body_reaches o None = false
body_reaches o (Some found) = list_any (reaches o) (body_nodes found)

-- whether an object is reached from some nodes or from the bodies of the objects at some places
abbrev pub is_reached : List Object → List Node → List ℕ → Object → Bool
is_reached catalog nodes [] o = list_any (reaches o) nodes
is_reached catalog nodes (at ∷ places) o = body_reaches o (slice_get catalog at) || is_reached catalog nodes places o

-- whether a place is among some
abbrev pub is_at : ℕ → List ℕ → Bool
is_at at places = list_any (nat_eq at) places

-- An object that is reached and at none of these places.
pub record IsNew (catalog : List Object) (nodes : List Node) (places : List ℕ) (at : ℕ) : Type 0 where
  pub object : Object
  pub is : slice_get catalog at ≡ Some object
  pub new : is_at at places ≡ false
  pub reached : is_reached catalog nodes places object ≡ true

-- no object below a place is reached and at none of these places
abbrev pub NoneBelow : List Object → List Node → List ℕ → ℕ → Type 0
NoneBelow catalog nodes places end = (at : ℕ) (o : Object) → at < end → slice_get catalog at ≡ Some o → is_at at places ≡ false → is_reached catalog nodes places o ≡ false

-- the next object that is reached, or that there is none
abbrev pub IsNext : List Object → List Node → List ℕ → Option ℕ → Type 0
IsNext catalog nodes places (Some at) = IsNew catalog nodes places at
IsNext catalog nodes places None = (at : ℕ) (o : Object) → slice_get catalog at ≡ Some o → is_at at places ≡ false → is_reached catalog nodes places o ≡ false

-- ---- what was found so far

-- whether an object is among those of a round
abbrev pub in_round : List Object → List Node → ℕ → Object → Bool
in_round catalog nodes zero o = false
in_round catalog nodes (suc k) o = is_reached_from (nodes ++ flat_map body_nodes (rounds k catalog nodes)) o

-- how many places below an end are among none of these places
abbrev pub others : List ℕ → ℕ → ℕ
others places zero = 0
others places (suc n) = cond (is_at n places) 0 1 + others places n

-- Places of objects that are reached, none of which is wanted, and how many there can still be.
pub record IsFound (catalog : List Object) (nodes : List Node) (wanted : Object → Bool) (places : List ℕ) : Type 0 where
  pub reached : (at : ℕ) (o : Object) → is_at at places ≡ true → slice_get catalog at ≡ Some o → (in_round catalog nodes (length places) o ≡ true) × (wanted o ≡ false)
  pub room : length places + others places (length catalog) ≤ length catalog

-- ---- all that is reached

abbrev pub nothing_wanted : Object → Bool
nothing_wanted o = false

-- Places of all objects that are reached.
pub record IsAll (catalog : List Object) (nodes : List Node) (places : List ℕ) : Type 0 where
  pub found : IsFound catalog nodes nothing_wanted places
  pub none : IsNext catalog nodes places None

-- the objects at some places, in the order of the catalog, of which the first has a place
abbrev pub at_places : List ℕ → ℕ → List Object → List Object
at_places places at [] = []
at_places places at (o ∷ os) = if is_at at places then o ∷ at_places places (suc at) os else at_places places (suc at) os

-- ---- the same, as the walk finds it

abbrev pub in_body : Ask → Object → Bool
in_body ask o = list_any (asks_node ask) (body_nodes o)

abbrev pub in_place : Ask → Option Object → Bool
in_place ask None = false
in_place ask (Some o) = in_body ask o

-- in the bodies of the objects at some places
abbrev pub in_programs : Ask → List Object → List ℕ → Bool
in_programs ask catalog [] = false
in_programs ask catalog (at ∷ places) = in_place ask (slice_get catalog at) || in_programs ask catalog places

-- in some nodes, or in the bodies of the objects at some places
abbrev pub in_found : Ask → List Object → List Node → List ℕ → Bool
in_found ask catalog nodes [] = list_any (asks_node ask) nodes
in_found ask catalog nodes (at ∷ places) = in_place ask (slice_get catalog at) || in_found ask catalog nodes places
