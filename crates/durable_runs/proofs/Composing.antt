-- The laws of runs, together.
use Rattle.durable_runs.specs.Runs.{Side}
use Rattle.durable_runs.specs.Laws.{RunsCompose, RunsLast}
use Rattle.durable_runs.proofs.Joining.{runs_untold, runs_none, runs_kept, runs_failed, runs_committed, runs_more, runs_join, runs_idle, runs_rest, lasts_begins, lasts_goes_on, lasts_rests, lasts_ends, lasts_behind}

module _ {S X : Type 0} (side : Side S X) where
  pub compose : RunsCompose side
  compose = record {
    untold = runs_untold side;
    none = runs_none side;
    kept = runs_kept side;
    failed = runs_failed side;
    committed = runs_committed side;
    more = runs_more side;
    join = runs_join side;
    idle = runs_idle side;
    rest = runs_rest side;
  }

  pub last : RunsLast side
  last = record { begins = lasts_begins side; goes_on = lasts_goes_on side; rests = lasts_rests side; ends = lasts_ends side; behind = lasts_behind side }
