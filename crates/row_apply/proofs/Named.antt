-- The definition of the table of a name.
use Rattle.std.proofs.Common.{◌≡◌, ℕ, List, Option, Some, None, refl, sym, ap, ◌∙◌}
use Rattle.std.specs.Prelude.{slice_get}
use Rattle.std.specs.Option.{option_map, option_map_or}
use Rattle.std.proofs.lemmas.Option.{slice_get-map}
use Rattle.val_types.specs.declared.change.Change.{Change}
use Rattle.val_types.specs.declared.definitions.TableDef.{TableDef}
use Rattle.table_rules.specs.Tables.{Table}
use Rattle.table_rules.specs.Stored.{table_named}
use Rattle.table_rules.specs.Stores.{place_of, definitions_of}
use Rattle.table_rules.proofs.Places.{place_is_of_name, none_named}
use Rattle.event_codec.specs.Event.{Map}
use Rattle.row_apply.specs.Changes.{code_in, definition_of}

definition_at : (ts : List Table) (at : ℕ) → slice_get (definitions_of ts) at ≡ option_map definition_of (slice_get ts at)
definition_at ts at = slice_get-map definition_of ts at

pub definition_there : (name : List ℕ) (ts : List Table) (at : ℕ) (o : Option TableDef) → Some at ≡ place_of name ts → o ≡ slice_get (definitions_of ts) at
    → o ≡ option_map definition_of (table_named name ts)
definition_there name ts at o is e = e ∙ definition_at ts at ∙ ap (option_map definition_of) (place_is_of_name name ts at (sym is))

abbrev no_definition_of : Option TableDef
no_definition_of = None

pub no_definition : (name : List ℕ) (ts : List Table) → None ≡ place_of name ts → no_definition_of ≡ option_map definition_of (table_named name ts)
no_definition name ts is = sym (ap (option_map definition_of) (none_named name ts (sym is)))

-- what the table says of a change, by its definition
pub code_there : (m : Map) (c : Change) (o : Option Table) (d : TableDef) → Some d ≡ option_map definition_of o
    → code_in m c d ≡ option_map_or (λ (t : Table). code_in m c t.definition) o (Some 1146)
code_there m c None d e = cc
code_there m c (Some t) d e = let same : d ≡ t.definition = cc in ap (code_in m c) same

abbrev no_such_table : Option ℕ
no_such_table = Some 1146

pub code_nowhere : (m : Map) (c : Change) (o : Option Table) → None ≡ option_map definition_of o → no_such_table ≡ option_map_or (λ (t : Table). code_in m c t.definition) o (Some 1146)
code_nowhere m c None e = refl
code_nowhere m c (Some t) e = cc

-- the definition that was found is that of the table
pub its_definition : (o : Option Table) (d : TableDef) (t : Table) → Some d ≡ option_map definition_of o → o ≡ Some t → d ≡ t.definition
its_definition o d t e is = let f : Some d ≡ Some t.definition = e ∙ ap (option_map definition_of) is in cc

pub none_there : (o : Option Table) (t : Table) → None ≡ option_map definition_of o → o ≡ Some t → ⊥
none_there o t e is = let f : no_definition_of ≡ Some t.definition = e ∙ ap (option_map definition_of) is in cc
