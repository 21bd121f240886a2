use Rattle.std.proofs.Common.{ℕ, refl, ap, ◌∙◌, arith}
use Rattle.answer_text.specs.declared.report.Mark.{Mark}
use Rattle.store_source.proofs.Queues.{went_start}
use Rattle.store_source.proofs.Looping.{wanted_last, ready, wrong, wrong_goes, marked, unmarked, pushed_at, set_is, went_first, went_same, logs_first, begun_last, room_first, room_set, room_same, room_now, ended_run, ended_on, ended_calls}
use Rattle.store_source.proofs.queue.write_each.Goals as goal

pub loop-w-init : goal.loop-w-init
loop-w-init g c = record {
  went = λ s es can. went_first c.args.queue c.backwards-left.result c.backwards-left.ensures _ s es c.args.now _ _ c.args.store.now _ (went_start _ c.args.store.now s es c.args.now _ c.args.queue can);
  room = room_first c.args.queue c.backwards-left.result c.backwards-left.ensures _ _ c.requires.room;
  logs = logs_first c.args.queue c.backwards-left.result c.backwards-left.ensures _ c.requires.logs;
  generation = refl;
  later = omega arith;
}

pub write_entry-requires-clause-can : goal.write_entry-requires-clause-can
write_entry-requires-clause-can g c =
    ready _ c.requires.can.0 c.requires.can.1.0 _ _ _ _ c.loop-w.left c.pop.new.self c.in-Some.w _ (c.loop-w.invariant.went c.requires.can.0 c.requires.can.1.0 c.requires.can.1.1) c.in-Some.ensures

pub write_entry-requires-clause-room : goal.write_entry-requires-clause-room
write_entry-requires-clause-room g c = omega (arith, begun_last c.loop-w.left c.pop.new.self c.in-Some.w c.in-Some.ensures, c.loop-w.invariant.logs)

pub returns-in_err-write_entry-clause-run : goal.returns-in_err-write_entry-clause-run
returns-in_err-write_entry-clause-run g c s es can fits =
    wrong _ s es _ _ _ _ c.loop-w.left c.pop.new.self c.in-Some.w _ (c.loop-w.invariant.went s es can) c.in-Some.ensures _ c.write_entry.ensures.leads fits

pub returns-in_err-write_entry-clause-goes : goal.returns-in_err-write_entry-clause-goes
returns-in_err-write_entry-clause-goes g c s es can =
    wrong_goes _ s es _ _ _ _ c.loop-w.left c.pop.new.self c.in-Some.w _ (c.loop-w.invariant.went s es can) c.in-Some.ensures _ c.write_entry.ensures.leads

pub returns-in_err-write_entry-clause-pushed : goal.returns-in_err-write_entry-clause-pushed
returns-in_err-write_entry-clause-pushed g c s es can =
    pushed_at _ s es _ _ _ c.loop-w.store _ _ (c.loop-w.invariant.went s es can) c.write_entry.new.store.number c.in_err-write_entry.ensures.number

pub returns-in_err-write_entry-clause-generation : goal.returns-in_err-write_entry-clause-generation
returns-in_err-write_entry-clause-generation g c = c.write_entry.ensures.generation ∙ c.loop-w.invariant.generation

pub put_mark-requires : goal.put_mark-requires
put_mark-requires g c =
    room_now c.loop-w.marks c.loop-w.at _ _ c.in-Some.w.counts c.if-counts.true (wanted_last c.loop-w.left c.pop.new.self c.in-Some.w c.in-Some.ensures) c.loop-w.invariant.room

pub loop-w-preserved-then-counts : goal.loop-w-preserved-then-counts
loop-w-preserved-then-counts g c =
    let wants = wanted_last c.loop-w.left c.pop.new.self c.in-Some.w c.in-Some.ensures in
    let m : Mark = record c.args.now { committed = c.number.result; src_calls = c.calls.result } in
    record {
      went = λ s es can. went_same _ s es _ _ _ _ _ _ _
          (set_is c.loop-w.marks c.put_mark.new.marks c.loop-w.at c.put_mark.result m
          (room_now c.loop-w.marks c.loop-w.at _ _ c.in-Some.w.counts c.if-counts.true wants c.loop-w.invariant.room) c.put_mark.ensures.marks c.put_mark.ensures.next)
          (marked _ s es _ _ _ _ c.loop-w.left c.pop.new.self c.in-Some.w _ (c.loop-w.invariant.went s es can) c.in-Some.ensures _ c.write_entry.ensures.leads _
          c.in_ok-write_entry.ensures.on c.in_ok-write_entry.ensures.calls c.if-counts.true m
          (ap (λ (n : ℕ). record c.args.now { committed = n; src_calls = c.calls.result }) c.number.ensures) c.calls.ensures.count);
      room = room_set c.loop-w.marks c.put_mark.new.marks c.loop-w.at c.put_mark.result _ _ m c.in-Some.w.counts c.if-counts.true wants c.loop-w.invariant.room
          c.put_mark.ensures.marks c.put_mark.ensures.next;
      logs = omega (arith, begun_last c.loop-w.left c.pop.new.self c.in-Some.w c.in-Some.ensures, c.loop-w.invariant.logs, c.in_ok-write_entry.ensures.room);
      generation = c.write_entry.ensures.generation ∙ c.loop-w.invariant.generation;
      later = omega (arith, c.loop-w.invariant.later, c.write_entry.ensures.cause.later);
    }

pub loop-w-preserved : goal.loop-w-preserved
loop-w-preserved g c =
    let wants = wanted_last c.loop-w.left c.pop.new.self c.in-Some.w c.in-Some.ensures in
    record {
      went = λ s es can. unmarked _ s es _ _ _ _ c.loop-w.left c.pop.new.self c.in-Some.w _ (c.loop-w.invariant.went s es can) c.in-Some.ensures _ c.write_entry.ensures.leads _
          c.in_ok-write_entry.ensures.on c.in_ok-write_entry.ensures.calls c.if-counts.false;
      room = room_same c.loop-w.marks c.loop-w.marks c.loop-w.at c.loop-w.at _ _ c.in-Some.w.counts c.if-counts.false wants c.loop-w.invariant.room refl refl;
      logs = omega (arith, begun_last c.loop-w.left c.pop.new.self c.in-Some.w c.in-Some.ensures, c.loop-w.invariant.logs, c.in_ok-write_entry.ensures.room);
      generation = c.write_entry.ensures.generation ∙ c.loop-w.invariant.generation;
      later = omega (arith, c.loop-w.invariant.later, c.write_entry.ensures.cause.later);
    }

pub returns-clause-run : goal.returns-clause-run
returns-clause-run g c s es can fits = ended_run _ s es _ _ _ _ c.loop-w.left c.in_default.ensures.0 _ (c.loop-w.invariant.went s es can) fits

pub returns-clause-goes : goal.returns-clause-goes
returns-clause-goes g c s es can = (c.loop-w.invariant.went s es can).on

pub returns-clause-pushed : goal.returns-clause-pushed
returns-clause-pushed g c s es can = pushed_at _ s es _ _ _ c.loop-w.store _ _ (c.loop-w.invariant.went s es can) c.loop-w.store.number refl

pub returns-clause-on : goal.returns-clause-on
returns-clause-on g c s after es can is = ended_on _ s es _ _ _ _ c.loop-w.left c.in_default.ensures.0 _ (c.loop-w.invariant.went s es can) after is

pub returns-clause-calls : goal.returns-clause-calls
returns-clause-calls g c s es can = ended_calls _ s es _ _ _ _ c.loop-w.left c.in_default.ensures.0 _ (c.loop-w.invariant.went s es can)

pub returns-clause-generation : goal.returns-clause-generation
returns-clause-generation g c = c.loop-w.invariant.generation
