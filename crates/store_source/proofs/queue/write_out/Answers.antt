use Rattle.std.proofs.Common.{◌∙◌, ap, sym, refl}
use Rattle.disk_model.proofs.Moments.{on_refl}
use Rattle.commit_store.specs.declared.store.Store.{Store}
use Rattle.store_source.proofs.Looping.{no_runs, runs_same}
use Rattle.store_source.proofs.queue.write_out.Goals as goal

pub returns-in_err-make_room-clause-run : goal.returns-in_err-make_room-clause-run
returns-in_err-make_room-clause-run g c s es can fits = no_runs _ c.args.store.now s es _ c.args.report.now.marks can

pub returns-in_err-room_for_marks-clause-run : goal.returns-in_err-room_for_marks-clause-run
returns-in_err-room_for_marks-clause-run g c s es can fits =
    runs_same _ _ s es _ _ _ _ refl (sym c.in_err-room_for_marks.ensures.err) (no_runs _ c.args.store.now s es _ c.args.report.now.marks can)

pub returns-in_err-make_room-clause-goes : goal.returns-in_err-make_room-clause-goes
returns-in_err-make_room-clause-goes g c s es can = on_refl _

pub returns-in_err-room_for_marks-clause-goes : goal.returns-in_err-room_for_marks-clause-goes
returns-in_err-room_for_marks-clause-goes g c s es can = on_refl _

pub returns-in_err-make_room-clause-generation : goal.returns-in_err-make_room-clause-generation
returns-in_err-make_room-clause-generation g c = ap (λ (st : Store). st.generation) c.make_room.ensures.rest

pub returns-in_err-room_for_marks-clause-generation : goal.returns-in_err-room_for_marks-clause-generation
returns-in_err-room_for_marks-clause-generation g c = ap (λ (st : Store). st.generation) c.make_room.ensures.rest

pub returns-clause-generation : goal.returns-clause-generation
returns-clause-generation g c = c.write_each-written.ensures.generation ∙ ap (λ (st : Store). st.generation) c.make_room.ensures.rest
