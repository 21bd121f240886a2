use Rattle.std.proofs.Common.{rules}
use Rattle.std.proofs.lemmas.Result.{on_ok_weaker}
use Rattle.std.proofs.lemmas.Fn.{always_returns_same}
use Rattle.select_rows.specs.Keyed.{comes_before}
use Rattle.select_rows.specs.declared.keyed.Keyed.{Keyed}
use Rattle.value_rules.proofs.Orders.{key_ranks}
use Rattle.select_rows.proofs.Sorting.{stable_sort}
use Rattle.select_rows.proofs.ordering.sort.Goals as goal

pub returns : goal.returns
returns c =
    let down = c.args.down.now in
    on_ok_weaker c.sort_by.result
    (λ sorted. stable_sort (comes_before down) (key_ranks (λ (row : Keyed). row.by) down) c.args.rows.now.items c.sort_by.new.self.items
    (sorted (comes_before down) (key_ranks (λ (row : Keyed). row.by) down) (always_returns_same _ _ _ (λ a r f k. search rules)))
    (c.sort_by.ensures.stable (comes_before down) (key_ranks (λ (row : Keyed). row.by) down) (always_returns_same _ _ _ (λ a r f k. search rules))))
    c.sort_by.ensures.sorted
