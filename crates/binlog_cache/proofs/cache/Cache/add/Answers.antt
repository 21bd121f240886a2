use Rattle.std.proofs.Common.{ap, ◌∙◌}
use Rattle.binlog_sizes.specs.Sizes.{changes_size}
use Rattle.binlog_sizes.specs.row_events.Sizes.{bounded}
use Rattle.binlog_cache.proofs.Summing.{counted_more}
use Rattle.binlog_cache.proofs.cache.Cache.add.Goals as goal

pub invariant_of-self-2 : goal.invariant_of-self-2
invariant_of-self-2 c =
    rw c.in_ok-push.ensures.ok (counted_more c.self.inside.kept _ c.last_sums-before.result.log c.item_size.result c.last_sums-before.result.changes c.changes_size.result c.self.invariant
    c.last_sums-before.ensures.log c.item_size.ensures c.saturating_add.ensures
    c.last_sums-before.ensures.changes (c.changes_size.ensures ∙ ap (λ cs. bounded (changes_size cs)) c.as_slice.ensures) c.saturating_add-2.ensures)
