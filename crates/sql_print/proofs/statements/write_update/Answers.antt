use Rattle.std.proofs.Common.{◌≡◌, ◌++◌, codes, List, ℕ, sym, subst, OnOk}
use Rattle.sql_tree.specs.StatementView.{view_sets}
use Rattle.sql_print.specs.StatementSpelling.{sets_text}
use Rattle.sql_print.proofs.Steps.{start, last, some_update}
use Rattle.sql_print.proofs.statements.write_update.Goals as goal

pub returns-in_ok-extend_from_slice : goal.returns-in_ok-extend_from_slice
returns-in_ok-extend_from_slice c =
    subst (λ (w : List ℕ). OnOk c.write_sets.result (c.write_sets.new.out ≡ c.args.out.now ++ w))
    (sym (some_update _ _ c.is_empty.ensures c.if-is_empty.false))
    (last _ (sets_text (view_sets c.args.sets.now)) _ (start c.args.out.now (codes " ON DUPLICATE KEY UPDATE ") c.in_ok-extend_from_slice.ensures.ok) c.write_sets.ensures)
