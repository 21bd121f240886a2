use Rattle.std.proofs.Common.{◌≡◌, List, length, get_or, Option, true, false, Some, sym, ap, subst, ◌∙◌, arith}
use Rattle.std.specs.Prelude.{is_some, slice_get}
use Rattle.std.specs.List.{list_any}
use Rattle.std.proofs.lemmas.Option.{slice_get-get_or}
use Rattle.val_types.specs.declared.value.Value.{Value}
use Rattle.val_types.specs.declared.definitions.KeyDef.{KeyDef}
use Rattle.val_types.specs.declared.definitions.TableDef.{TableDef}
use Rattle.val_types.specs.Keys.{agree_on}
use Rattle.table_sheet.specs.Pages.{Page, rows_on}
use Rattle.table_sheet.proofs.Agreeing.{agreed_here, agreed_next}
use Rattle.table_sheet.proofs.Passing.{any_found}
use Rattle.table_sheet.proofs.sheet.Sheet.first_agreed.Goals as goal

pub agreeing-requires : goal.agreeing-requires
agreeing-requires c =
    let keys : c.as_slice-key-items.result.now ≡ c.args.self.now.definition.uniques = c.as_slice-key-items.ensures ∙ ap (λ (d : TableDef). d.uniques) c.get.ensures ∙ ap (λ (p : Page). p.definition.uniques) c.self.view_is in
    ap (λ (ks : List KeyDef). slice_get ks c.loop-i.i) (sym keys) ∙ slice_get-get_or c.as_slice-key-items.result.now c.loop-i.i c.key-item.result (omega arith) ∙ ap (λ (k : KeyDef). Some k) (sym c.key-item.is)

pub returns-in-Some : goal.returns-in-Some
returns-in-Some c =
    let keys : c.as_slice-key-items.result.now ≡ c.args.self.now.definition.uniques = c.as_slice-key-items.ensures ∙ ap (λ (d : TableDef). d.uniques) c.get.ensures ∙ ap (λ (p : Page). p.definition.uniques) c.self.view_is in
    let here : list_any (λ other. agree_on c.args.row.now other c.key-item.result) (rows_on c.args.self.now) ≡ true = any_found (λ other. agree_on c.args.row.now other c.key-item.result) (rows_on c.args.self.now) ∙ ap (λ (p : Option (List Value)). is_some p) (sym c.in-Some.ensures) in
    agreed_here c.args.self.now.definition.uniques c.args.row.now (rows_on c.args.self.now) c.loop-i.i c.key-item.result (omega (arith, ap length keys)) (subst (λ (ks : List KeyDef). c.key-item.result ≡ get_or ks c.loop-i.i c.key-item.result) keys c.key-item.is) here c.loop-i.invariant

pub loop-i-preserved : goal.loop-i-preserved
loop-i-preserved c =
    let keys : c.as_slice-key-items.result.now ≡ c.args.self.now.definition.uniques = c.as_slice-key-items.ensures ∙ ap (λ (d : TableDef). d.uniques) c.get.ensures ∙ ap (λ (p : Page). p.definition.uniques) c.self.view_is in
    let here : list_any (λ other. agree_on c.args.row.now other c.key-item.result) (rows_on c.args.self.now) ≡ false = any_found (λ other. agree_on c.args.row.now other c.key-item.result) (rows_on c.args.self.now) ∙ ap (λ (p : Option (List Value)). is_some p) (sym c.in_default.ensures) in
    agreed_next c.args.self.now.definition.uniques c.args.row.now (rows_on c.args.self.now) c.loop-i.i c.key-item.result (omega (arith, ap length keys)) (subst (λ (ks : List KeyDef). c.key-item.result ≡ get_or ks c.loop-i.i c.key-item.result) keys c.key-item.is) here c.loop-i.invariant
