use Rattle.std.proofs.Common.{rules, ◌≡◌, ℕ, List, [], ◌∷◌, ◌++◌, Some, None, refl, subst}
use Rattle.std.specs.Prelude.{slice_get}
use Rattle.std.specs.Option.{option_map}
use Rattle.val_types.specs.declared.definitions.TableDef.{TableDef}
use Rattle.val_types.specs.declared.change.Change.TheVariants.{Delete}
use Rattle.table_rules.specs.Stored.{row_at}
use Rattle.table_rules.specs.Stores.{place_of, definitions_of}
use Rattle.table_rules.proofs.Equations.{not_deleted}
use Rattle.dml_rows.proofs.Noting.{name_there, delete_leads, delete_notes}
use Rattle.dml_rows.proofs.storing.delete_row_at.Goals as goal

pub returns-in-Ok-clause-noted : goal.returns-in-Ok-clause-noted
returns-in-Ok-clause-noted c =
    let named = c.in-Some.name.now in
    let row = c.in-Some-held_at.row.now in
    let noted : c.push.new.self ≡ c.args.undo.now ++ Delete named row ∷ [] = search rules in
    let is : Some named ≡ option_map (λ (d : TableDef). d.name) (slice_get (definitions_of c.args.tables.now.tables) c.args.at) = search rules in
    λ name at.
    (let there : row_at name c.args.key.now c.args.tables.now.tables ≡ Some row = search rules in
    delete_notes c.args.tables.now.tables c.args.undo.now c.push.new.self name c.args.key.now row there
    (subst (λ (n : List ℕ). c.push.new.self ≡ c.args.undo.now ++ Delete n row ∷ []) (name_there name named c.args.tables.now.tables c.args.at is at) noted))

pub returns-in-Ok-clause-leads : goal.returns-in-Ok-clause-leads
returns-in-Ok-clause-leads c =
    let named = c.in-Some.name.now in
    let row = c.in-Some-held_at.row.now in
    let noted : c.push.new.self ≡ c.args.undo.now ++ Delete named row ∷ [] = search rules in
    let at : place_of named c.args.tables.now.tables ≡ Some c.args.at = search rules in
    let there : row_at named c.args.key.now c.args.tables.now.tables ≡ Some row = search rules in
    delete_leads c.args.tables.now c.delete_at.new.self c.args.undo.now c.push.new.self named c.args.key.now row c.name_at.ensures.whole there (c.in-Ok.ensures.stored named at) (c.in-Ok.ensures.before named at row there) c.in-Ok.ensures.keys c.in-Ok.ensures.still noted

pub returns-in_default-held_at-clause-stored : goal.returns-in_default-held_at-clause-stored
returns-in_default-held_at-clause-stored c =
    λ name at.
    (let none : row_at name c.args.key.now c.args.tables.now.tables ≡ None = search rules in (not_deleted name c.args.key.now c.args.tables.now.tables none, refl))
