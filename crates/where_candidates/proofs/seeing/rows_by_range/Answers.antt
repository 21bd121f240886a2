use Rattle.std.proofs.Common.{◌≡◌, List, sym, ap, ◌∙◌}
use Rattle.std.specs.Prelude.{filter}
use Rattle.val_types.specs.declared.value.Value.{Value}
use Rattle.table_rules.specs.Stored.{rows_of}
use Rattle.value_ranges.specs.Ranges.{Range, has_end, range_of}
use Rattle.value_ranges.specs.Keys.{row_is_in}
use Rattle.sql_tree.specs.Tree.{part}
use Rattle.sql_tree.specs.View.{view_tree}
use Rattle.where_candidates.specs.Candidates.{AreCandidates}
use Rattle.where_candidates.proofs.Enough.{if_ok, ranged_so, table_there, unkeyed_so}
use Rattle.where_candidates.proofs.seeing.rows_by_range.Goals as goal

pub returns-then-has_end : goal.returns-then-has_end
returns-then-has_end c = λ name place there none nothing.
    if_ok c.rows_between.result
    (λ (rows : List (List Value)). rows ≡ filter (row_is_in c.args.definition.now (range_of c.range_named-range.result)) (rows_of name c.args.tables.now.tables))
    (λ (rows : List (List Value)). AreCandidates c.args.outside.now name c.args.definition.now (part (view_tree c.args.condition.now)) c.args.tables.now.tables rows)
    (λ rows is.
    ranged_so c.args.outside.now name c.args.definition.now (view_tree c.args.condition.now) c.args.tables.now c.args.at rows c.tables_are_kept.ensures none nothing place there
    (is ∙ ap (λ (r : Range). filter (row_is_in c.args.definition.now r) (rows_of name c.args.tables.now.tables)) c.range_named-range.ensures))
    (c.rows_between.ensures name (record { definition = c.args.definition.now; rows = rows_of name c.args.tables.now.tables }) place
    (table_there name c.args.definition.now c.args.tables.now.tables c.args.at place there))

pub returns-else-has_end : goal.returns-else-has_end
returns-else-has_end c = λ name place there none nothing.
    if_ok c.rows.result (λ (rows : List (List Value)). rows ≡ rows_of name c.args.tables.now.tables)
    (λ (rows : List (List Value)). AreCandidates c.args.outside.now name c.args.definition.now (part (view_tree c.args.condition.now)) c.args.tables.now.tables rows)
    (λ rows is.
    unkeyed_so c.args.outside.now name c.args.definition.now (view_tree c.args.condition.now) c.args.tables.now.tables c.args.at rows none nothing
    (sym (ap (λ (r : Range). has_end r) c.range_named-range.ensures) ∙ sym c.has_end.ensures ∙ c.if-has_end.false) place there is) (c.rows.ensures name place)
