-- The table of a name, as it stands at its place.
use Rattle.std.proofs.Common.{◌≡◌, ℕ, zero, suc, List, [], ◌∷◌, Option, Some, None, map, refl, sym, ap, ◌∙◌}
use Rattle.std.specs.Prelude.{slice_get}
use Rattle.std.specs.Option.{option_map, option_map_or}
use Rattle.val_types.specs.declared.value.Value.{Value}
use Rattle.val_types.specs.declared.definitions.TableDef.{TableDef}
use Rattle.table_rules.specs.Tables.{Table}
use Rattle.table_rules.specs.Stored.{table_named, rows_of}
use Rattle.table_rules.specs.Stores.{place_of, definitions_of}
use Rattle.table_rules.proofs.Places.{place_is_of_name, none_named}
use Rattle.sql_meaning.specs.Scenes.{Scene, done, failed, needed, table_now}

get_mapped : {X Y : Type 0} (f : X → Y) (xs : List X) (i : ℕ) → slice_get (map f xs) i ≡ option_map f (slice_get xs i)
get_mapped f [] i = refl
get_mapped f (x ∷ xs) zero = refl
get_mapped f (x ∷ xs) (suc i) = get_mapped f xs i

-- without a place there is none
pub not_there : (name : List ℕ) (scene : Scene) → place_of name scene.tables ≡ None → table_now name scene ≡ failed 1146 scene
not_there name scene e = ap (λ (o : Option Table). needed 1146 o scene) (none_named name scene.tables e)

-- nor where nothing stands at its place
nothing_there : (o : Option Table) (scene : Scene) → option_map (λ (t : Table). t.definition) o ≡ None → needed 1146 o scene ≡ failed 1146 scene
nothing_there None scene e = refl
nothing_there (Some t) scene e = cc

pub definition_there : (name : List ℕ) (scene : Scene) (at : ℕ) → place_of name scene.tables ≡ Some at
    → slice_get (definitions_of scene.tables) at ≡ option_map (λ (t : Table). t.definition) (table_named name scene.tables)
definition_there name scene at e =
    get_mapped (λ (t : Table). t.definition) scene.tables at ∙ ap (option_map (λ (t : Table). t.definition)) (place_is_of_name name scene.tables at e)

pub no_definition : (name : List ℕ) (scene : Scene) (at : ℕ) → place_of name scene.tables ≡ Some at
    → slice_get (definitions_of scene.tables) at ≡ None → table_now name scene ≡ failed 1146 scene
no_definition name scene at e none = nothing_there (table_named name scene.tables) scene (sym (definition_there name scene at e) ∙ none)

-- else it has the definition and the rows that stand there
as_found : (name : List ℕ) (scene : Scene) (o : Option Table) (d : TableDef) (rows : List (List Value)) → table_named name scene.tables ≡ o
    → option_map (λ (t : Table). t.definition) o ≡ Some d → rows ≡ rows_of name scene.tables
    → needed 1146 o scene ≡ done (record { definition = d; rows = rows }) scene
as_found name scene None d rows here e same = cc
as_found name scene (Some t) d rows here e same =
    let definition : t.definition ≡ d = cc in
    let there : rows_of name scene.tables ≡ t.rows = ap (λ (o : Option Table). option_map_or (λ (u : Table). u.rows) o []) here in
    let shown : rows ≡ t.rows = same ∙ there in
    ap (λ (e : TableDef). done (record { definition = e; rows = t.rows }) scene) definition ∙ ap (λ (rs : List (List Value)). done (record { definition = d; rows = rs }) scene) (sym shown)

pub found_there : (name : List ℕ) (scene : Scene) (at : ℕ) (d : TableDef) (rows : List (List Value)) → place_of name scene.tables ≡ Some at
    → slice_get (definitions_of scene.tables) at ≡ Some d → rows ≡ rows_of name scene.tables
    → table_now name scene ≡ done (record { definition = d; rows = rows }) scene
found_there name scene at d rows e definition same =
    as_found name scene (table_named name scene.tables) d rows refl (sym (definition_there name scene at e) ∙ definition) same
