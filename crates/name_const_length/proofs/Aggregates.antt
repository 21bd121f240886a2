-- The text of aggregates, by its first one.
use Rattle.std.proofs.Common.{◌≡◌, Bool, List, ◌++◌, codes, cond, Option, Some, None, refl}
use Rattle.val_types.specs.declared.ops.Agg.{Agg}
use Rattle.sql_tree.specs.Tree.{Tree, Aggregates}
use Rattle.sql_tree.specs.View.{aggregate_before}
use Rattle.sql_locals.specs.declared.locals.Local.{Local}
use Rattle.sql_print.specs.Spelling.{aggregates_text, more_aggregates_text}
use Rattle.name_const_length.specs.Closed.{closed_aggregates}
use Rattle.name_const_length.specs.Items.{aggregate_text, closed_aggregate}

first_aggregate : (locals : List Local) (o : Option (Agg × Tree)) (rest : Aggregates)
    → aggregates_text (closed_aggregates locals (aggregate_before o rest)) ≡ aggregate_text (closed_aggregate locals o) ++ more_aggregates_text (closed_aggregates locals rest)
first_aggregate locals None rest = refl
first_aggregate locals (Some g) rest = refl

more_aggregate : (locals : List Local) (o : Option (Agg × Tree)) (rest : Aggregates)
    → more_aggregates_text (closed_aggregates locals (aggregate_before o rest)) ≡ codes ", " ++ aggregate_text (closed_aggregate locals o) ++ more_aggregates_text (closed_aggregates locals rest)
more_aggregate locals None rest = refl
more_aggregate locals (Some g) rest = refl

pub by-first : (locals : List Local) (first : Bool) (o : Option (Agg × Tree)) (rest : Aggregates)
    → cond first (aggregates_text (closed_aggregates locals (aggregate_before o rest))) (more_aggregates_text (closed_aggregates locals (aggregate_before o rest)))
    ≡ cond first (aggregate_text (closed_aggregate locals o) ++ more_aggregates_text (closed_aggregates locals rest)) (codes ", " ++ aggregate_text (closed_aggregate locals o) ++ more_aggregates_text (closed_aggregates locals rest))
by-first locals first o rest = λ i. cond first (first_aggregate locals o rest i) (more_aggregate locals o rest i)
