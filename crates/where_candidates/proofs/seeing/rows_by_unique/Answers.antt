use Rattle.std.proofs.Common.{◌≡◌, List, sym, ◌∙◌}
use Rattle.std.specs.Prelude.{option_to_list}
use Rattle.val_types.specs.declared.value.Value.{Value}
use Rattle.row_store.specs.Found.{found_with}
use Rattle.sql_tree.specs.Tree.{part}
use Rattle.sql_tree.specs.View.{view_tree}
use Rattle.where_candidates.specs.Candidates.{AreCandidates}
use Rattle.where_candidates.proofs.Enough.{if_ok, unique_so}
use Rattle.where_candidates.proofs.seeing.rows_by_unique.Goals as goal

pub returns-in-Some : goal.returns-in-Some
returns-in-Some c = λ name place there none.
    if_ok c.row_with.result (λ (rows : List (List Value)). rows ≡ option_to_list (found_with name c.in-Some.named.which c.in-Some.named.values c.args.tables.now.tables))
    (λ (rows : List (List Value)). AreCandidates c.args.outside.now name c.args.definition.now (part (view_tree c.args.condition.now)) c.args.tables.now.tables rows)
    (λ rows is. unique_so c.args.outside.now name c.args.definition.now (view_tree c.args.condition.now) c.args.tables.now c.args.at c.in-Some.named rows c.tables_are_kept.ensures none (sym c.in_ok-named.ensures ∙ c.in-Some.is) place there is) (c.row_with.ensures name place)

pub returns-in-None : goal.returns-in-None
returns-in-None c = λ name place there none. c.rows_by_range.ensures name place there none (sym c.in_ok-named.ensures ∙ c.in-None.is)
