use Rattle.std.proofs.Common.{rules, ◌≡◌, ℕ, List, [], ◌∷◌, ◌++◌, Some, subst}
use Rattle.std.specs.Prelude.{slice_get}
use Rattle.std.specs.Option.{option_map}
use Rattle.val_types.specs.declared.definitions.TableDef.{TableDef}
use Rattle.val_types.specs.declared.change.Change.TheVariants.{Insert}
use Rattle.table_rules.specs.Stores.{place_of, definitions_of}
use Rattle.dml_rows.proofs.Noting.{name_there, insert_leads, insert_notes}
use Rattle.dml_rows.proofs.storing.insert_row_at.Goals as goal

pub returns-in-Ok-clause-noted : goal.returns-in-Ok-clause-noted
returns-in-Ok-clause-noted c =
    let named = c.in-Some.name.now in
    let noted : c.push.new.self ≡ c.args.undo.now ++ Insert named c.args.row ∷ [] = search rules in
    let is : Some named ≡ option_map (λ (d : TableDef). d.name) (slice_get (definitions_of c.args.tables.now.tables) c.args.at) = search rules in
    λ name at. insert_notes c.args.tables.now.tables c.insert_at.new.self.tables c.args.undo.now c.push.new.self name c.args.row (c.in-Ok.ensures.stored name at)
    (subst (λ (n : List ℕ). c.push.new.self ≡ c.args.undo.now ++ Insert n c.args.row ∷ []) (name_there name named c.args.tables.now.tables c.args.at is at) noted)

pub returns-in-Ok-clause-leads : goal.returns-in-Ok-clause-leads
returns-in-Ok-clause-leads c =
    let named = c.in-Some.name.now in
    let noted : c.push.new.self ≡ c.args.undo.now ++ Insert named c.args.row ∷ [] = search rules in
    let at : place_of named c.args.tables.now.tables ≡ Some c.args.at = search rules in
    insert_leads c.args.tables.now c.insert_at.new.self c.args.undo.now c.push.new.self named c.args.row c.name_at.ensures.whole (c.in-Ok.ensures.stored named at) (c.in-Ok.ensures.kept named at) c.in-Ok.ensures.keys c.in-Ok.ensures.still noted
