use Rattle.std.proofs.Common.{false, true, refl, arith}
use Rattle.store_replica.proofs.Recording.{counted_as, more_marks, none_pushed, ok_from, ok_map, uncounted, unmarked_run}
use Rattle.store_replica.proofs.keeping.keep.Goals as goal

pub keep_counted-requires : goal.keep_counted-requires
keep_counted-requires g c =
    (c.requires.0, (c.requires.1.0, (c.requires.1.1.0, (c.requires.1.1.1.0, counted_as c.args.counts true c.requires.1.0 c.requires.1.1.0 c.if-counts.true c.requires.1.1.1.1))))

pub write_record-requires : goal.write_record-requires
write_record-requires g c = (c.requires.0, (c.requires.1.0, (c.requires.1.1.0, c.requires.1.1.1.0)))

pub returns-then-counts-clause-pushed : goal.returns-then-counts-clause-pushed
returns-then-counts-clause-pushed g c r held now can counted =
    c.keep_counted.ensures.pushed r held now can (counted_as c.args.counts true held now c.if-counts.true counted)

pub returns-then-counts-clause-marks : goal.returns-then-counts-clause-marks
returns-then-counts-clause-marks g c = ok_map c.keep_counted.result c.keep_counted.ensures.marks (λ is. more_marks c.args.counts true _ _ 1 c.if-counts.true refl is)

pub returns-clause-run : goal.returns-clause-run
returns-clause-run g c r held now can fits =
    unmarked_run _ c.args.store.now c.args.p r held now can _ (c.write_record.ensures.leads r held now can) c.args.report.now.marks

pub returns-clause-goes : goal.returns-clause-goes
returns-clause-goes g c = (c.write_record.ensures.leads c.requires.0 c.requires.1.0 c.requires.1.1.0 c.requires.1.1.1.0).on

pub returns-clause-pushed : goal.returns-clause-pushed
returns-clause-pushed g c r held now can counted =
    none_pushed c.args.report.now.now held.number c.write_record.new.store.number _ _ refl
    (uncounted c.write_record.result _ c.args.store.now c.write_record.new.store held now can.on.keeps.holds.shows.number
    (counted_as c.args.counts false held now c.if-counts.false counted) c.write_record.ensures.number (c.write_record.ensures.on r held now can))

pub returns-clause-marks : goal.returns-clause-marks
returns-clause-marks g c = ok_from c.write_record.result (more_marks c.args.counts false _ _ 0 c.if-counts.false refl (omega arith))
