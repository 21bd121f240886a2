use Rattle.std.proofs.lemmas.Result.{err_from_is_err_and}
use Rattle.std.proofs.Common.{refl}
use Rattle.log_groups.specs.Views.{part_of, parts, place_of}
use Rattle.stmt_apply.specs.Applying.{applier_in}
use Rattle.stmt_apply.proofs.Bounded.{first_stands}
use Rattle.stmt_apply.proofs.Going.{begins, event_on, event_stopped, events_done, same_applier}
use Rattle.row_apply.proofs.Staying.{stays_on, stays_same}
use Rattle.stmt_apply.proofs.transaction.apply_items.Goals as goal

pub loop-part-init : goal.loop-part-init
loop-part-init c = record {
  reached =
      begins (applier_in c.args.identity.now c.args.draw.now c.args.work.now) (parts c.args.items) (parts c.args.items) c.args.work.now c.new-under_way.result c.requires refl
      c.new-under_way.ensures;
  stays = stays_same c.args.work.now;
}

pub apply_event-requires : goal.apply_event-requires
apply_event-requires c = first_stands (place_of c.loop-part.walk) (part_of c.in-Some.part) (parts c.next.new.self) c.in-Some.ensures.walk

pub loop-part-preserved : goal.loop-part-preserved
loop-part-preserved c = record {
  reached =
      event_on (applier_in c.args.identity.now c.args.draw.now c.args.work.now) (applier_in c.args.identity.now c.args.draw.now c.loop-part.work) (parts c.args.items) (parts c.loop-part.walk)
      (parts c.next.new.self) (part_of c.in-Some.part) c.args.work.now c.loop-part.work c.apply_event.new.work c.loop-part.under_way c.apply_event.new.under_way c.in-Some.ensures.walk
      (same_applier c.args.identity.now c.args.draw.now c.args.work.now c.loop-part.work c.loop-part.invariant.stays.objects) c.loop-part.invariant.reached c.in_ok-apply_event.ensures.goes;
  stays = stays_on c.args.work.now c.loop-part.work c.apply_event.new.work c.loop-part.invariant.stays c.in_ok-apply_event.ensures.rest;
}

pub returns-in_err-apply_event-clause-comes : goal.returns-in_err-apply_event-clause-comes
returns-in_err-apply_event-clause-comes c =
    let p = err_from_is_err_and c.from_residual.result c.from_residual.ensures.1 in
    rw (p.1, p.2)
    (event_stopped _ (applier_in c.args.identity.now c.args.draw.now c.args.work.now) (applier_in c.args.identity.now c.args.draw.now c.loop-part.work) (parts c.args.items) (parts c.loop-part.walk)
    (parts c.next.new.self) (part_of c.in-Some.part) c.args.work.now c.loop-part.work c.apply_event.new.work c.loop-part.under_way c.apply_event.new.under_way c.in-Some.ensures.walk
    (same_applier c.args.identity.now c.args.draw.now c.args.work.now c.loop-part.work c.loop-part.invariant.stays.objects) c.loop-part.invariant.reached c.in_err-apply_event.ensures.goes)

pub returns-clause-comes : goal.returns-clause-comes
returns-clause-comes c =
    events_done (applier_in c.args.identity.now c.args.draw.now c.args.work.now) (parts c.args.items) (parts c.loop-part.walk) (parts c.next.new.self) c.args.work.now c.loop-part.work
    c.loop-part.under_way c.in_default.ensures.walk c.loop-part.invariant.reached
