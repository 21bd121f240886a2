use Rattle.std.proofs.Common.{rules, List}
use Rattle.std.specs.Cmp.{IsStrictWeakOrder}
use Rattle.std.proofs.lemmas.Result.{on_ok_weaker}
use Rattle.std.proofs.lemmas.Fn.{always_returns_same}
use Rattle.val_types.specs.declared.value.Value.{Value}
use Rattle.value_rules.proofs.Orders.{key_ranks}
use Rattle.select_rows.proofs.Sorting.{stable_sort}
use Rattle.sql_evaluation.specs.Seen.{comes_before}
use Rattle.sql_evaluation.proofs.sorting.sort.Goals as goal

before_ranks : (downs : List Rattle.std.proofs.Common.Bool) → IsStrictWeakOrder (comes_before downs)
before_ranks downs = key_ranks (λ (row : List Value × List Value). row.0) downs

pub returns : goal.returns
returns c =
    let down = c.args.down.now in
    on_ok_weaker c.sort_by.result
    (λ sorted. stable_sort (comes_before down) (before_ranks down) c.args.rows.now.items c.sort_by.new.self.items
    (sorted (comes_before down) (before_ranks down) (always_returns_same _ _ _ (λ a r f k. search rules)))
    (c.sort_by.ensures.stable (comes_before down) (before_ranks down) (always_returns_same _ _ _ (λ a r f k. search rules))))
    c.sort_by.ensures.sorted
