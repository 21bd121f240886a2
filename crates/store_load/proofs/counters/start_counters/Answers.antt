use Rattle.std.proofs.Common.{ap, ◌∙◌}
use Rattle.auto_inc.specs.Counting.{tables_of}
use Rattle.prog_work.specs.Contents.{Contents, base_of}
use Rattle.prog_work.proofs.Carried.{together_counted}
use Rattle.store_load.proofs.Counted.{counters_fit, enough}
use Rattle.store_load.proofs.counters.start_counters.Goals as goal

pub start_all-requires : goal.start_all-requires
start_all-requires c = enough _ _ _ (base_of c.args.work.now).catalog c.tables.ensures (rw c.catalog.ensures at (rw c.objects.ensures at c.count_tables-count.ensures)) c.together.ensures.theirs

pub put_together-requires : goal.put_together-requires
put_together-requires c =
    together_counted _ _ _ _ _ c.take_apart-apart.ensures.together
    (counters_fit _ _ c.in_ok-counters.counters c.take_apart-apart.result.stage.counters (base_of c.args.work.now).catalog c.in_ok-counters.ensures c.tables.ensures c.together.ensures.theirs
    (ap (λ (w : Contents). tables_of w.counters) c.take_apart-apart.ensures.is ∙ c.together.ensures.counted))
