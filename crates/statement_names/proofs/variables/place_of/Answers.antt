use Rattle.std.proofs.Common.{rules}
use Rattle.std.proofs.lemmas.List.Sorted.{IsPartitionPoint-from_clause}
use Rattle.statement_names.specs.Rising.{is_before}
use Rattle.statement_names.proofs.Placed.{parted, parts_at}
use Rattle.statement_names.proofs.variables.place_of.Goals as goal

pub returns : goal.returns
returns c =
    parts_at c.args.name.now c.args.names.now c.partition_point.result c.partition_point.ensures.bound
    (IsPartitionPoint-from_clause (is_before c.args.name.now) _ _ c.partition_point.ensures.partitioned (parted c.args.name.now c.args.names.now c.requires) (λ a r q k. search rules))
