use Rattle.std.proofs.Common.{◌≡◌, ◌++◌, ◌↔◌, codes, ap, sym, ◌∙◌, refl, Bool, false, IsTrue, List, [], ◌∷◌, ℕ}
use Rattle.sql_tree.specs.StatementView.{view_sets}
use Rattle.sql_tree.specs.declared.statements.ColumnSet.{ColumnSet}
use Rattle.sql_locals.specs.declared.locals.Local.{Local}
use Rattle.sql_print.specs.StatementSpelling.{sets_text, update_text}
use Rattle.name_const_length.specs.Closed.{closed_sets}
use Rattle.name_const_length.specs.Growing.{grown}
use Rattle.name_const_length.proofs.Growing.{start, step}
use Rattle.name_const_length.proofs.statements.add_update.Goals as goal

-- items stand behind ON DUPLICATE KEY UPDATE
some_update : (locals : List Local) (empty : Bool) (ss : List ColumnSet) → (IsTrue empty ↔ (ss ≡ [])) → empty ≡ false
    → update_text (closed_sets locals (view_sets ss)) ≡ codes " ON DUPLICATE KEY UPDATE " ++ sets_text (closed_sets locals (view_sets ss))
some_update locals empty [] h e = let k = h.1 refl in cc
some_update locals empty (s ∷ ss) h e = refl

pub returns-then-not-is_empty : goal.returns-then-not-is_empty
returns-then-not-is_empty c =
    let sets = closed_sets c.args.locals.now (view_sets c.args.sets.now) in
    let words = start c.args.total.now c.add.new.total (codes " ON DUPLICATE KEY UPDATE ") c.add.ensures in
    (step c.add_sets.new.total (sets_text sets) words c.add_sets.ensures).is
    ∙ ap (λ (text : List ℕ). grown c.args.total.now text) (sym (some_update c.args.locals.now c.is_empty.result c.args.sets.now c.is_empty.ensures c.if-not-is_empty.true))
