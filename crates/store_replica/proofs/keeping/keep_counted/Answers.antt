use Rattle.std.proofs.Common.{◌∙◌, ℕ, [], ◌∷◌, ap, sym, length, arith}
use Rattle.std.proofs.lemmas.List.{length-append}
use Rattle.answer_text.specs.declared.report.Mark.{Mark}
use Rattle.disk_model.proofs.Moments.{on_refl}
use Rattle.store_replica.proofs.Recording.{given_back, mark_set, marked_run, no_run, none_pushed, one_pushed, runs_same, set_there, unmarked_run}
use Rattle.store_replica.proofs.keeping.keep_counted.Goals as goal

pub returns-in_err-push-clause-run : goal.returns-in_err-push-clause-run
returns-in_err-push-clause-run g c r held next can fits =
    runs_same _ _ held r _ _ _ (sym c.in_err-push.ensures.err) (no_run _ c.args.store.now c.args.p r held next can c.args.marks.now)

pub returns-in_err-push-clause-goes : goal.returns-in_err-push-clause-goes
returns-in_err-push-clause-goes g c = on_refl _

pub returns-in_err-push-clause-pushed : goal.returns-in_err-push-clause-pushed
returns-in_err-push-clause-pushed g c r held next can counted =
    none_pushed c.args.now held.number c.args.store.now.number _ _ c.in_err-push.ensures.err (sym can.on.keeps.holds.shows.number)

pub write_record-requires : goal.write_record-requires
write_record-requires g c = (c.requires.0, (c.requires.1.0, (c.requires.1.1.0, c.requires.1.1.1.0)))

pub set-requires : goal.set-requires
set-requires g c = set_there c.args.marks.now c.push.new.self c.args.now c.len-at.result c.len-at.ensures c.in_ok-push.ensures.ok

pub returns-in-Err-clause-run : goal.returns-in-Err-clause-run
returns-in-Err-clause-run g c r held next can fits =
    let back = c.truncate.ensures ∙ given_back c.args.marks.now c.push.new.self c.args.now c.len-at.result c.len-at.ensures c.in_ok-push.ensures.ok in
    runs_same _ _ held r _ _ _ (sym back) (unmarked_run _ c.args.store.now c.args.p r held next can _ (c.write_record.ensures.leads r held next can) c.args.marks.now)

pub returns-in-Err-clause-goes : goal.returns-in-Err-clause-goes
returns-in-Err-clause-goes g c = (c.write_record.ensures.leads c.requires.0 c.requires.1.0 c.requires.1.1.0 c.requires.1.1.1.0).on

pub returns-in-Err-clause-pushed : goal.returns-in-Err-clause-pushed
returns-in-Err-clause-pushed g c r held next can counted =
    let back = c.truncate.ensures ∙ given_back c.args.marks.now c.push.new.self c.args.now c.len-at.result c.len-at.ensures c.in_ok-push.ensures.ok in
    none_pushed c.args.now held.number _ _ _ back (sym (c.in-Err.ensures.number ∙ can.on.keeps.holds.shows.number))

pub returns-in-Err-clause-err : goal.returns-in-Err-clause-err
returns-in-Err-clause-err g c =
    c.truncate.ensures ∙ given_back c.args.marks.now c.push.new.self c.args.now c.len-at.result c.len-at.ensures c.in_ok-push.ensures.ok

pub returns-in-Ok-clause-run : goal.returns-in-Ok-clause-run
returns-in-Ok-clause-run g c r held next can fits =
    let mark : Mark = record c.args.now { applied = c.number.result; rep_calls = c.calls.result } in
    let marked = c.set.ensures ∙ mark_set c.args.marks.now c.push.new.self c.args.now mark c.len-at.result c.len-at.ensures c.in_ok-push.ensures.ok in
    runs_same _ _ held r _ _ _ (sym marked)
    (marked_run _ c.args.store.now c.args.p r held next can _ (c.write_record.ensures.leads r held next can) c.write_record.new.store (c.in-Ok.ensures.on r held next can)
    c.args.marks.now mark c.number.ensures c.calls.ensures.count fits)

pub returns-in-Ok-clause-goes : goal.returns-in-Ok-clause-goes
returns-in-Ok-clause-goes g c = (c.write_record.ensures.leads c.requires.0 c.requires.1.0 c.requires.1.1.0 c.requires.1.1.1.0).on

pub returns-in-Ok-clause-pushed : goal.returns-in-Ok-clause-pushed
returns-in-Ok-clause-pushed g c r held next can counted =
    let mark : Mark = record c.args.now { applied = c.number.result; rep_calls = c.calls.result } in
    let marked = c.set.ensures ∙ mark_set c.args.marks.now c.push.new.self c.args.now mark c.len-at.result c.len-at.ensures c.in_ok-push.ensures.ok in
    one_pushed c.args.now mark held.number c.write_record.new.store.number _ _ marked
    (ap (λ (n : ℕ). record c.args.now { applied = n; rep_calls = c.calls.result }) c.number.ensures)
    ((c.in-Ok.ensures.on r held next can).keeps.holds.shows.number ∙ counted)

pub returns-in-Ok-clause-marks : goal.returns-in-Ok-clause-marks
returns-in-Ok-clause-marks g c =
    let mark : Mark = record c.args.now { applied = c.number.result; rep_calls = c.calls.result } in
    let marked = c.set.ensures ∙ mark_set c.args.marks.now c.push.new.self c.args.now mark c.len-at.result c.len-at.ensures c.in_ok-push.ensures.ok in
    omega (arith, ap length marked, length-append c.args.marks.now (mark ∷ []))
