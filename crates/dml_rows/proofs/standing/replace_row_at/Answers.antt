use Rattle.std.proofs.Common.{rules, ◌≡◌, ℕ, List, [], ◌∷◌, ◌++◌, true, Some, Err, subst}
use Rattle.std.specs.Prelude.{slice_get}
use Rattle.std.specs.Option.{option_map}
use Rattle.val_types.specs.declared.value.Value.{Value}
use Rattle.val_types.specs.declared.definitions.TableDef.{TableDef}
use Rattle.val_types.specs.declared.change.Change.TheVariants.{Update}
use Rattle.table_rules.specs.Stored.{carried_out}
use Rattle.table_rules.specs.Stores.{place_of, definitions_of, keeps}
use Rattle.row_store.specs.Stores.{Stores, exchange}
use Rattle.dml_rows.proofs.Noting.{name_there, exchange_leads, exchange_notes}
use Rattle.dml_rows.proofs.standing.replace_row_at.Goals as goal

-- the row behind its holder is that row
pub returns-in-Ok-clause-stored : goal.returns-in-Ok-clause-stored
returns-in-Ok-clause-stored c =
    λ name at. subst (λ (row : List Value). carried_out (exchange name row c.args.new c.args.tables.now.tables) c.args.tables.now.tables ≡ Some c.replace_at.new.self.tables) c.get.ensures (c.in-Ok.ensures.stored name at)

pub returns-in-Ok-clause-noted : goal.returns-in-Ok-clause-noted
returns-in-Ok-clause-noted c =
    let named = c.in-Some.name.now in
    let noted : c.push.new.self ≡ c.args.undo.now ++ Update named c.args.old.now c.args.new ∷ [] = search rules in
    let is : Some named ≡ option_map (λ (d : TableDef). d.name) (slice_get (definitions_of c.args.tables.now.tables) c.args.at) = search rules in
    λ name at. exchange_notes c.args.tables.now.tables c.replace_at.new.self.tables c.args.undo.now c.push.new.self name c.args.old.now c.args.new
    (subst (λ (row : List Value). carried_out (exchange name row c.args.new c.args.tables.now.tables) c.args.tables.now.tables ≡ Some c.replace_at.new.self.tables) c.get.ensures (c.in-Ok.ensures.stored name at))
    (subst (λ (n : List ℕ). c.push.new.self ≡ c.args.undo.now ++ Update n c.args.old.now c.args.new ∷ []) (name_there name named c.args.tables.now.tables c.args.at is at) noted)

pub returns-in-Ok-clause-leads : goal.returns-in-Ok-clause-leads
returns-in-Ok-clause-leads c =
    let named = c.in-Some.name.now in
    let noted : c.push.new.self ≡ c.args.undo.now ++ Update named c.args.old.now c.args.new ∷ [] = search rules in
    let at : place_of named c.args.tables.now.tables ≡ Some c.args.at = search rules in
    exchange_leads c.args.tables.now c.replace_at.new.self c.args.undo.now c.push.new.self named c.args.old.now c.args.new c.name_at.ensures.whole
    (subst (λ (row : List Value). carried_out (exchange named row c.args.new c.args.tables.now.tables) c.args.tables.now.tables ≡ Some c.replace_at.new.self.tables) c.get.ensures (c.in-Ok.ensures.stored named at))
    (c.in-Ok.ensures.kept named at)
    (subst (λ (row : List Value). keeps c.replace_at.new.self named row ≡ true) c.get.ensures (c.in-Ok.ensures.before named at)) c.in-Ok.ensures.keys c.in-Ok.ensures.still noted

pub returns-in-Err-clause-stored : goal.returns-in-Err-clause-stored
returns-in-Err-clause-stored c =
    λ name at. subst (λ (row : List Value). Stores {A = Unit {0}} (Err c.in-Err.refusal) (exchange name row c.args.new c.args.tables.now.tables) c.args.tables.now.tables c.replace_at.new.self.tables) c.get.ensures (c.in-Err.ensures.stored name at)
