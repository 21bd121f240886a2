use Rattle.std.proofs.Common.{◌≡◌, ◌++◌, ◌∷◌, [], ◌<◌, List, length, get_or, sym, ap, subst, ◌∙◌, ℕ, arith}
use Rattle.std.specs.Prelude.{vec_len}
use Rattle.table_rules.specs.Stores.{Store}
use Rattle.table_sheet.specs.declared.overlay.Overlay.{Overlay}
use Rattle.row_store.specs.Asides.{FitsIn}
use Rattle.row_store.proofs.Asides.{AreFit, PutsBack, fit_within, fit_last, puts_first, puts_at, none_left, gone_back}
use Rattle.row_store.proofs.tables.Tables.put_back.Goals as goal

pub loop-overlay-init : goal.loop-overlay-init
loop-overlay-init c =
    let fits = subst (λ (store : Store). FitsIn c.args.aside store) (sym c.self.view_is) c.requires in
    subst (λ (store : Store). PutsBack c.args.aside.overlays.items c.self.inside.shelves.items c.args.aside store) c.self.view_is
    (puts_first c.args.aside c.self.inside.shelves.items fits c.self.invariant)

pub index_mut-requires : goal.index_mut-requires
index_mut-requires c =
    let fit : AreFit (c.pop.new.self.items ++ c.in-Some.overlay ∷ []) c.loop-overlay.self-inside.shelves.items = subst (λ (os : List Overlay). AreFit os c.loop-overlay.self-inside.shelves.items) c.in-Some.ensures.items c.loop-overlay.invariant.fit in
    let less : length c.pop.new.self.items < length c.loop-overlay.self-inside.shelves.items = fit_within c.pop.new.self.items c.in-Some.overlay c.loop-overlay.self-inside.shelves.items fit in
    omega (arith, less, c.len.ensures, c.pop.new.self.ok, c.loop-overlay.self-inside.shelves.ok)

pub put_back-requires : goal.put_back-requires
put_back-requires c =
    let fit : AreFit (c.pop.new.self.items ++ c.in-Some.overlay ∷ []) c.loop-overlay.self-inside.shelves.items = subst (λ (os : List Overlay). AreFit os c.loop-overlay.self-inside.shelves.items) c.in-Some.ensures.items c.loop-overlay.invariant.fit in
    let long : length c.pop.new.self.items ≡ c.len.result = omega (arith, c.len.ensures, c.pop.new.self.ok) in
    fit_last c.pop.new.self.items c.in-Some.overlay c.loop-overlay.self-inside.shelves.items c.index_mut.result.now
    (c.index_mut.ensures.value ∙ ap (λ (n : ℕ). get_or c.loop-overlay.self-inside.shelves.items n c.index_mut.result.now) (sym long)) fit

pub loop-overlay-preserved : goal.loop-overlay-preserved
loop-overlay-preserved c =
    let long : length c.pop.new.self.items ≡ c.len.result = omega (arith, c.len.ensures, c.pop.new.self.ok) in
    puts_at c.pop.new.self.items c.in-Some.overlay c.loop-overlay.self-inside.shelves.items c.args.aside c.args.self.now c.index_mut.result.now c.put_back.new.self c.len.result long c.index_mut.ensures.value c.put_back.ensures
    (subst (λ (os : List Overlay). PutsBack os c.loop-overlay.self-inside.shelves.items c.args.aside c.args.self.now) c.in-Some.ensures.items c.loop-overlay.invariant)

pub returns : goal.returns
returns c =
    let count : vec_len c.loop-overlay.overlays ≡ 0 = c.in_default.ensures.cases.0 in
    let none : c.loop-overlay.overlays.items ≡ [] = none_left c.loop-overlay.overlays.items (omega (arith, count, c.loop-overlay.overlays.ok)) in
    gone_back c.loop-overlay.self-inside.shelves.items c.args.aside c.args.self.now
    (subst (λ (os : List Overlay). PutsBack os c.loop-overlay.self-inside.shelves.items c.args.aside c.args.self.now) none c.loop-overlay.invariant)
