-- Places counted on are those counted from the front.
use Rattle.std.proofs.Common.{◌≡◌, ℕ, suc, ◌+◌, Bool, true, false, cond, List, [], ◌∷◌, map, Option, Some, None, refl, ap, ◌∙◌, arith}
use Rattle.std.specs.Option.{option_map}
use Rattle.sql_tree.specs.declared.statements.Column.{Column}
use Rattle.catalog_checks.specs.catalog_rules.Names.{same_name, place_among}
use Rattle.catalog_checks.specs.catalog_rules.Defined.{auto_place}
use Rattle.catalog_create_table.specs.Placed.{place_from, auto_from}

step : (b : Bool) (at : ℕ) (o p : Option ℕ) → p ≡ option_map (λ k. at + 1 + k) o → cond b (Some at) p ≡ option_map (λ k. at + k) (cond b (Some 0) (option_map suc o))
step true at o p e = let same : at ≡ at + 0 = omega arith in ap (λ (k : ℕ). Some k) same
step false at None p e = e
step false at (Some k) p e = let same : at + 1 + k ≡ at + suc k = omega arith in e ∙ ap (λ (m : ℕ). Some m) same

placed : (at : ℕ) (cs : List Column) (name : List ℕ) → place_from at cs name ≡ option_map (λ k. at + k) (place_among (map (λ (c : Column). c.name) cs) name)
placed at [] name = refl
placed at (c ∷ cs) name = step (same_name name c.name) at (place_among (map (λ (c : Column). c.name) cs) name) (place_from (at + 1) cs name) (placed (at + 1) cs name)

counted : (at : ℕ) (cs : List Column) → auto_from at cs ≡ option_map (λ k. at + k) (auto_place cs)
counted at [] = refl
counted at (c ∷ cs) = step c.auto_increment at (auto_place cs) (auto_from (at + 1) cs) (counted (at + 1) cs)

from_zero : (o : Option ℕ) → option_map (λ k. 0 + k) o ≡ o
from_zero None = refl
from_zero (Some k) = let same : 0 + k ≡ k = omega arith in ap (λ (m : ℕ). Some m) same

pub place_is : (cs : List Column) (name : List ℕ) → place_from 0 cs name ≡ place_among (map (λ (c : Column). c.name) cs) name
place_is cs name = placed 0 cs name ∙ from_zero (place_among (map (λ (c : Column). c.name) cs) name)

pub auto_is : (cs : List Column) → auto_from 0 cs ≡ auto_place cs
auto_is cs = counted 0 cs ∙ from_zero (auto_place cs)
