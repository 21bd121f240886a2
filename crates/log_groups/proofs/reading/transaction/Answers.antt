use Rattle.std.proofs.Common.{◌≡◌}
use Rattle.event_codec.specs.Event.{seen, query_of}
use Rattle.row_image.specs.log_model.Events.{past}
use Rattle.log_groups.specs.Views.{place_of, query_at}
use Rattle.log_groups.proofs.Walking.{goes_on, closes, refuses, ends}
use Rattle.log_groups.proofs.reading.transaction.Goals as goal

pub loop-event-preserved : goal.loop-event-preserved
loop-event-preserved c = record {
  same = goes_on _ _ _ _ _ _ c.in-Event.ensures.exact c.in-Go.ensures.exact (rw (← c.length.ensures) c.past-here.ensures) c.loop-event.invariant.same;
  stands = let same : place_of c.past-here.result ≡ past (seen c.in-Event.event) (place_of c.loop-event.here) = rw (← c.length.ensures) c.past-here.ensures in rw same c.in-Go.ensures.stands;
}

pub returns-in-Close : goal.returns-in-Close
returns-in-Close c = closes _ _ _ _ _ (query_at c.args.begin c.args.opening.now) (query_of c.args.opening.now) _ _ c.in-Event.ensures.exact c.in-Close.ensures.exact c.length-in-Close.ensures c.loop-event.invariant.same

pub returns-in-Refuse : goal.returns-in-Refuse
returns-in-Refuse c = refuses _ _ _ (query_at c.args.begin c.args.opening.now) (query_of c.args.opening.now) _ _ c.in-Event.ensures.exact c.in-Refuse.ensures.exact c.loop-event.invariant.same

pub returns-in-Short : goal.returns-in-Short
returns-in-Short c = ends _ _ _ (query_at c.args.begin c.args.opening.now) (query_of c.args.opening.now) _ _ c.in-Short.ensures.exact c.loop-event.invariant.same

pub returns-in-Damaged : goal.returns-in-Damaged
returns-in-Damaged c = ends _ _ _ (query_at c.args.begin c.args.opening.now) (query_of c.args.opening.now) _ _ c.in-Damaged.ensures.exact c.loop-event.invariant.same

pub returns-in-Foreign : goal.returns-in-Foreign
returns-in-Foreign c = ends _ _ _ (query_at c.args.begin c.args.opening.now) (query_of c.args.opening.now) _ _ c.in-Foreign.ensures.exact c.loop-event.invariant.same
