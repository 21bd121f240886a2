use Rattle.std.proofs.Common.{◌≡◌, ◌-◌, ◌<◌, suc, length, Some, sym, ap, subst, ◌∙◌, arith}
use Rattle.std.specs.Prelude.{slice_get}
use Rattle.std.proofs.lemmas.Option.{slice_get-get_or}
use Rattle.val_types.specs.declared.definitions.KeyDef.{KeyDef}
use Rattle.val_types.specs.declared.definitions.TableDef.{TableDef}
use Rattle.table_sheet.specs.Pages.{Page, rows_on}
use Rattle.table_sheet.proofs.Costing.{twice_of_both}
use Rattle.table_sheet.proofs.OnKey.{with_unique, with_none}
use Rattle.table_sheet.proofs.sheet.Sheet.find_on_key.Goals as goal

pub returns-then-which-len-clause-row : goal.returns-then-which-len-clause-row
returns-then-which-len-clause-row g c =
    let past : length c.get.result.now.uniques < c.args.which = omega arith in
    with_none c.args.self.now.definition c.args.values.now (rows_on c.args.self.now) c.args.which
    (subst (λ (d : TableDef). length d.uniques < c.args.which) (c.get.ensures ∙ ap (λ (p : Page). p.definition) c.self.view_is) past)

pub find_with-requires : goal.find_with-requires
find_with-requires g c =
    let d : c.get.result.now ≡ c.args.self.now.definition = c.get.ensures ∙ ap (λ (p : Page). p.definition) c.self.view_is in
    let within : c.args.which - 1 < length c.get.result.now.uniques = omega arith in
    ap (λ (x : TableDef). slice_get x.uniques (c.args.which - 1)) (sym d) ∙ slice_get-get_or c.get.result.now.uniques (c.args.which - 1) c.index.result.now within ∙ ap (λ (k : KeyDef). Some k) (sym c.index.ensures)

pub returns-clause-row : goal.returns-clause-row
returns-clause-row g c =
    let d : c.get.result.now ≡ c.args.self.now.definition = c.get.ensures ∙ ap (λ (p : Page). p.definition) c.self.view_is in
    let one : c.args.which ≡ suc (c.args.which - 1) = omega arith in
    let within : c.args.which - 1 < length c.get.result.now.uniques = omega arith in
    c.find_with.ensures.row
    ∙ with_unique c.args.self.now.definition c.args.values.now (rows_on c.args.self.now) c.args.which (c.args.which - 1) c.index.result.now one
    (ap (λ (x : TableDef). slice_get x.uniques (c.args.which - 1)) (sym d) ∙ slice_get-get_or c.get.result.now.uniques (c.args.which - 1) c.index.result.now within ∙ ap (λ (k : KeyDef). Some k) (sym c.index.ensures))

pub returns-then-which-eq0-clause-cost : goal.returns-then-which-eq0-clause-cost
returns-then-which-eq0-clause-cost g c = twice_of_both (length c.args.self.now.entries) (length c.args.self.now.committed) (c.find.new.steps - c.args.steps.now) c.find.ensures.cost
