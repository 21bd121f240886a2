-- The counter that a row raises.
use Rattle.std.proofs.Common.{◌≡◌, ℕ, List, Option, Some, None, ℤ, refl, sym, ap, ◌∙◌, arith}
use Rattle.std.specs.Prelude.{max, slice_index_or}
use Rattle.std.specs.Option.{option_map}
use Rattle.val_types.specs.declared.value.Value.{Value}
use Rattle.val_types.specs.declared.value.Value.TheVariants.{Null}
use Rattle.val_types.specs.declared.definitions.TableDef.{TableDef}
use Rattle.auto_inc.specs.declared.counters.Counter.{Counter}
use Rattle.auto_inc.specs.Counting.{behind, changed_for}
use Rattle.table_rules.specs.Tables.{Table}
use Rattle.apply_model.specs.Rows.{behind_value, raised_by, raised_in}
use Rattle.row_apply.specs.Changes.{definition_of, raised_to}

abbrev no_value : Option ℤ
no_value = None

some_same : {A : Type 0} (a b : A) → Some a ≡ Some b → a ≡ b
some_same a b e = cc

-- there is no table
pub raising_none : (name : List ℕ) (row : List Value) (o : Option Table) (cs : List Counter) → None ≡ option_map definition_of o
    → raised_to name no_value cs ≡ raised_in name row o cs
raising_none name row None cs e = refl
raising_none name row (Some t) cs e = cc

by_auto : (name : List ℕ) (row : List Value) (o : Option Table) (d : TableDef) (cs : List Counter) → Some d ≡ option_map definition_of o
    → raised_by name row d.auto cs ≡ raised_in name row o cs
by_auto name row None d cs e = cc
by_auto name row (Some t) d cs e = ap (λ (u : TableDef). raised_by name row u.auto cs) (some_same d t.definition e)

-- it has no such column
pub raising_nothing : (name : List ℕ) (row : List Value) (o : Option Table) (d : TableDef) (cs : List Counter) → Some d ≡ option_map definition_of o → d.auto ≡ None
    → raised_to name no_value cs ≡ raised_in name row o cs
raising_nothing name row o d cs is none = sym (ap (λ (a : Option ℕ). raised_by name row a cs) none) ∙ by_auto name row o d cs is

greater : (k : ℕ) → max k ≡ (λ (n : ℕ). max n k)
greater k = let e : (n : ℕ) → max k n ≡ max n k = λ n. omega arith in λ i n. e n i

-- it has one, with a value behind which the same number stands
pub raising_value : (name : List ℕ) (row : List Value) (o : Option Table) (d : TableDef) (cs : List Counter) (column : ℕ) (v : ℤ) → Some d ≡ option_map definition_of o
    → d.auto ≡ Some column → behind v ≡ behind_value (slice_index_or row column Null)
    → raised_to name (Some v) cs ≡ raised_in name row o cs
raising_value name row o d cs column v is has same =
    ap (λ (k : ℕ). changed_for name (max k) cs) same
    ∙ ap (λ (f : ℕ → ℕ). changed_for name f cs) (greater (behind_value (slice_index_or row column Null)))
    ∙ sym (ap (λ (a : Option ℕ). raised_by name row a cs) has)
    ∙ by_auto name row o d cs is
