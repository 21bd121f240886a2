-- Tables found by their names.
use Rattle.std.proofs.Common.{◌≡◌, Bool, true, false, cond, List, [], ◌∷◌, Some, refl, sym, ap, ◌∙◌}
use Rattle.std.specs.Prelude.{not, nat_eq, ℕ}
use Rattle.std.specs.List.{AllByRecursion, list_any}
use Rattle.std.specs.Option.{option_map_or}
use Rattle.std.specs.Cmp.Lexicographic.{pointwise}
use Rattle.std.proofs.lemmas.Bool.{and_parts, or_parts, true≢false}
use Rattle.val_types.specs.declared.definitions.TableDef.{TableDef}
use Rattle.table_rules.specs.Tables.{Table}
use Rattle.table_rules.specs.Stored.{rows_of, table_named}
use Rattle.table_rules.specs.Stores.{definitions_of, names_differ}
use Rattle.table_rules.proofs.Places.{name_is, name_self}

not_true : (b : Bool) → not b ≡ true → b ≡ false
not_true true e = cc
not_true false e = refl

-- two names differ either way round
differ : (a b : List ℕ) → pointwise nat_eq a b ≡ false → pointwise nat_eq b a ≡ false
differ a b e = by (pointwise nat_eq b a) refl
  where
    by : (z : Bool) → pointwise nat_eq b a ≡ z → pointwise nat_eq b a ≡ false
    by false is = is
    by true is = absurd (true≢false (sym (name_self a) ∙ ap (λ n. pointwise nat_eq a n) (sym (name_is b a is)) ∙ e))

-- each is found by its name
abbrev pub AreFound : (all ts : List Table) → Type 0
AreFound all ts = AllByRecursion (λ (t : Table). rows_of t.definition.name all ≡ t.rows) ts

behind_first : (u : Table) (us vs : List Table)
    → list_any (λ (other : TableDef). pointwise nat_eq u.definition.name other.name) (definitions_of vs) ≡ false
    → AreFound us vs → AreFound (u ∷ us) vs
behind_first u us [] none found = tt
behind_first u us (v ∷ vs) none found =
    let two = or_parts (pointwise nat_eq u.definition.name v.definition.name) (list_any (λ (other : TableDef). pointwise nat_eq u.definition.name other.name) (definitions_of vs)) none in (
      ap (λ z. option_map_or (λ (t : Table). t.rows) (cond z (Some u) (table_named v.definition.name us)) []) (differ u.definition.name v.definition.name two.0) ∙ found.0,
      behind_first u us vs two.1 found.1,
    )

pub all_found : (ts : List Table) → names_differ (definitions_of ts) ≡ true → AreFound ts ts
all_found [] names = tt
all_found (u ∷ us) names =
    let two = and_parts (not (list_any (λ (other : TableDef). pointwise nat_eq u.definition.name other.name) (definitions_of us))) (names_differ (definitions_of us)) names in (
      ap (λ z. option_map_or (λ (t : Table). t.rows) (cond z (Some u) (table_named u.definition.name us)) []) (name_self u.definition.name),
      behind_first u us us (not_true (list_any (λ (other : TableDef). pointwise nat_eq u.definition.name other.name) (definitions_of us)) two.0) (all_found us two.1),
    )
