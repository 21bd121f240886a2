use Rattle.std.proofs.Common.{◌≡◌, ◌-◌, ◌<◌, suc, length, Some, sym, ap, subst, ◌∙◌, arith}
use Rattle.std.specs.Prelude.{find, slice_get}
use Rattle.std.proofs.lemmas.Option.{slice_get-get_or}
use Rattle.val_types.specs.declared.definitions.KeyDef.{KeyDef}
use Rattle.val_types.specs.declared.definitions.TableDef.{TableDef}
use Rattle.table_rules.specs.Stored.{has_key_in_way}
use Rattle.table_sheet.specs.Pages.{Page, rows_on}
use Rattle.table_sheet.proofs.OnKey.{on_unique, on_none}
use Rattle.table_sheet.proofs.sheet.Sheet.row_on_key.Goals as goal

pub returns-then-which-len : goal.returns-then-which-len
returns-then-which-len c =
    let past : length c.get.result.now.uniques < c.args.which = omega arith in
    on_none c.args.self.now.definition c.args.row.now (rows_on c.args.self.now) c.args.which
    (subst (λ (d : TableDef). length d.uniques < c.args.which) (c.get.ensures ∙ ap (λ (p : Page). p.definition) c.self.view_is) past)

pub agreeing-requires : goal.agreeing-requires
agreeing-requires c =
    let d : c.get.result.now ≡ c.args.self.now.definition = c.get.ensures ∙ ap (λ (p : Page). p.definition) c.self.view_is in
    let within : c.args.which - 1 < length c.get.result.now.uniques = omega arith in
    ap (λ (x : TableDef). slice_get x.uniques (c.args.which - 1)) (sym d) ∙ slice_get-get_or c.get.result.now.uniques (c.args.which - 1) c.index.result.now within ∙ ap (λ (k : KeyDef). Some k) (sym c.index.ensures)

pub returns : goal.returns
returns c =
    let d : c.get.result.now ≡ c.args.self.now.definition = c.get.ensures ∙ ap (λ (p : Page). p.definition) c.self.view_is in
    let one : c.args.which ≡ suc (c.args.which - 1) = omega arith in
    let within : c.args.which - 1 < length c.get.result.now.uniques = omega arith in
    c.agreeing.ensures
    ∙ on_unique c.get.result.now c.args.row.now (rows_on c.args.self.now) c.args.which (c.args.which - 1) c.index.result.now one within c.index.ensures
    ∙ ap (λ (d : TableDef). find (has_key_in_way d c.args.row.now c.args.which) (rows_on c.args.self.now)) d
