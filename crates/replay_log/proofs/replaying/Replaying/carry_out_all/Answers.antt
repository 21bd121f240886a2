use Rattle.std.proofs.Common.{rules, [], ◌∙◌, ◌≡◌, Ok, Err, Some, None, ap, refl, arith, subst, Option, ℕ}
use Rattle.std.proofs.lemmas.Result.{err_from_is_err_and}
use Rattle.answer_text.specs.declared.report.Report.{Report}
use Rattle.answer_text.specs.declared.status.Status.TheVariants.{Done, LogDamaged}
use Rattle.disk_model.proofs.Moments.{on_trans}
use Rattle.log_reader.specs.declared.reader.Found.TheVariants as found
use Rattle.log_reader.specs.Reading.{ReadsFront}
use Rattle.run_streams.specs.Reports.{first_mark}
use Rattle.replay_log.specs.Replaying.{kept}
use Rattle.replay_log.proofs.Taking.{further, under_more, stops_more, at_end, at_damage, at_foreign, at_fault, no_fault, no_end, found_is, leads_by, leaves_by, stops_reading, unmarked, nothing_read, damaged_first, under_first, under_marked}
use Rattle.replay_log.proofs.replaying.Replaying.carry_out_all.Goals as goal

pub loop-reader-smaller : goal.loop-reader-smaller
loop-reader-smaller g c =
    further (g.S.Source.left c.args.input.now) (g.S.Source.left c.loop-reader.input) (g.S.Source.left c.next.new.input) c.loop-reader.reader c.next.new.self
    (found_is _ _ _ _ c.in_ok-next.field-0 found.Group c.in-Group.is c.in_ok-next.ensures.reads)

pub loop-reader-preserved : goal.loop-reader-preserved
loop-reader-preserved g c =
    let stands : c.loop-reader.report.now ≡ first_mark = ap (λ (x : Report). x.now) c.loop-reader.invariant.rest ∙ c.requires.now in
    record {
      identity = c.in_ok-carry_out-in-Group.ensures.identity ∙ c.loop-reader.invariant.identity;
      under =
          under_more c.calls_lead.ensures c.fronts_are_known.ensures c.args.self.now.node.node.identity c.args.draw.now (kept c.args.self.now)
          (g.S.Source.left c.args.input.now) (g.S.Source.left c.loop-reader.input) (g.S.Source.left c.next.new.input) (g.R.Disk.told c.args.rep.now) (g.R.Disk.told c.loop-reader.rep)
          c.loop-reader.reader c.next.new.self c.loop-reader.self c.loop-reader.report.marks c.loop-reader.invariant.under
          (found_is _ _ _ _ c.in_ok-next.field-0 found.Group c.in-Group.is c.in_ok-next.ensures.reads)
          c.carry_out.new.self (g.R.Disk.told c.carry_out.new.rep) c.in_ok-carry_out-in-Group.ensures.goes c.carry_out.new.report.marks
          (leads_by c.loop-reader.self.node.node.identity c.args.self.now.node.node.identity c.args.draw.now c.next.new.self c.loop-reader.self c.carry_out.new.self Done Done
          c.loop-reader.invariant.identity refl c.in_ok-carry_out-in-Group.ensures.went)
          (leaves_by c.loop-reader.self.node.node.identity c.args.self.now.node.node.identity c.args.draw.now c.next.new.self (g.R.Disk.told c.loop-reader.rep) (g.R.Disk.told c.carry_out.new.rep)
          c.loop-reader.self c.carry_out.new.self c.loop-reader.report.marks c.carry_out.new.report.marks Done Done c.loop-reader.invariant.identity refl c.loop-reader.report.now stands
          c.in_ok-carry_out-in-Group.ensures.kept);
      rest = c.in_ok-carry_out-in-Group.ensures.rest ∙ ap (λ (x : Report). record x { marks = c.carry_out.new.report.marks }) c.loop-reader.invariant.rest;
      later_disk = omega (arith, c.loop-reader.invariant.later_disk, c.in_ok-carry_out-in-Group.ensures.later);
      later = omega (arith, c.loop-reader.invariant.later, c.in_ok-next.ensures.later);
      ended = λ fresh. c.in_ok-next.ensures.goes_on (ap Ok c.in-Group.is) (c.loop-reader.invariant.ended fresh);
    }

pub returns-in_err-carry_out-in-Group-clause-comes_to : goal.returns-in_err-carry_out-in-Group-clause-comes_to
returns-in_err-carry_out-in-Group-clause-comes_to g c =
    let p = err_from_is_err_and c.from_residual-in_err-carry_out-in-Group.result c.from_residual-in_err-carry_out-in-Group.ensures.1 in
    let stands : c.loop-reader.report.now ≡ first_mark = ap (λ (x : Report). x.now) c.loop-reader.invariant.rest ∙ c.requires.now in
    rw (p.1, p.2)
    (stops_more c.calls_lead.ensures c.fronts_are_known.ensures c.args.self.now.node.node.identity c.args.draw.now (kept c.args.self.now)
    (g.S.Source.left c.args.input.now) (g.S.Source.left c.loop-reader.input) (g.S.Source.left c.next.new.input) (g.R.Disk.told c.args.rep.now) (g.R.Disk.told c.loop-reader.rep)
    c.loop-reader.reader c.next.new.self c.loop-reader.self c.loop-reader.report.marks c.loop-reader.invariant.under
    (found_is _ _ _ _ c.in_ok-next.field-0 found.Group c.in-Group.is c.in_ok-next.ensures.reads)
    c.carry_out.new.self (g.R.Disk.told c.carry_out.new.rep) c.in_err-carry_out-in-Group.ensures.goes c.carry_out.new.report.marks
    c.in_err-carry_out-in-Group.field-0.0 c.in_err-carry_out-in-Group.ensures.err
    (leads_by c.loop-reader.self.node.node.identity c.args.self.now.node.node.identity c.args.draw.now c.next.new.self c.loop-reader.self c.carry_out.new.self _ c.in_err-carry_out-in-Group.field-0.0
    c.loop-reader.invariant.identity refl c.in_err-carry_out-in-Group.ensures.went)
    (leaves_by c.loop-reader.self.node.node.identity c.args.self.now.node.node.identity c.args.draw.now c.next.new.self (g.R.Disk.told c.loop-reader.rep) (g.R.Disk.told c.carry_out.new.rep)
    c.loop-reader.self c.carry_out.new.self c.loop-reader.report.marks c.carry_out.new.report.marks _ c.in_err-carry_out-in-Group.field-0.0 c.loop-reader.invariant.identity refl c.loop-reader.report.now stands
    c.in_err-carry_out-in-Group.ensures.kept))

pub returns-in_err-carry_out-in-Group-clause-read_fault : goal.returns-in_err-carry_out-in-Group-clause-read_fault
returns-in_err-carry_out-in-Group-clause-read_fault g c =
    let p = err_from_is_err_and c.from_residual-in_err-carry_out-in-Group.result c.from_residual-in_err-carry_out-in-Group.ensures.1 in
    rw (p.1, p.2) (no_fault _ _ (Err c.in_err-carry_out-in-Group.field-0.0) c.in_err-carry_out-in-Group.field-0.0 refl c.in_err-carry_out-in-Group.ensures.err)

pub returns-in_err-carry_out-in-Group-clause-last : goal.returns-in_err-carry_out-in-Group-clause-last
returns-in_err-carry_out-in-Group-clause-last g c =
    let p = err_from_is_err_and c.from_residual-in_err-carry_out-in-Group.result c.from_residual-in_err-carry_out-in-Group.ensures.1 in
    rw (p.1, p.2) (no_fault _ _ (Err c.in_err-carry_out-in-Group.field-0.0) c.in_err-carry_out-in-Group.field-0.0 refl c.in_err-carry_out-in-Group.ensures.err)

pub returns-in_err-carry_out-in-Group-clause-at_end : goal.returns-in_err-carry_out-in-Group-clause-at_end
returns-in_err-carry_out-in-Group-clause-at_end g c =
    let p = err_from_is_err_and c.from_residual-in_err-carry_out-in-Group.result c.from_residual-in_err-carry_out-in-Group.ensures.1 in
    rw (p.1, p.2) (no_end (Unit {0}) _ (Err c.in_err-carry_out-in-Group.field-0.0) c.in_err-carry_out-in-Group.field-0.0 refl c.in_err-carry_out-in-Group.ensures.err)

pub returns-in-End-clause-comes_to : goal.returns-in-End-clause-comes_to
returns-in-End-clause-comes_to g c =
    at_end c.calls_lead.ensures c.fronts_are_known.ensures c.args.self.now.node.node.identity c.args.draw.now (kept c.args.self.now)
    (g.S.Source.left c.args.input.now) (g.S.Source.left c.loop-reader.input) (g.S.Source.left c.next.new.input) (g.R.Disk.told c.args.rep.now) (g.R.Disk.told c.loop-reader.rep)
    c.loop-reader.reader c.next.new.self c.loop-reader.self c.loop-reader.report.marks c.loop-reader.invariant.under
    (found_is _ _ _ _ c.in_ok-next.field-0 found.End c.in-End.is c.in_ok-next.ensures.reads)

pub returns-in-Damaged-clause-comes_to : goal.returns-in-Damaged-clause-comes_to
returns-in-Damaged-clause-comes_to g c =
    at_damage c.calls_lead.ensures c.fronts_are_known.ensures c.args.self.now.node.node.identity c.args.draw.now (kept c.args.self.now)
    (g.S.Source.left c.args.input.now) (g.S.Source.left c.loop-reader.input) (g.S.Source.left c.next.new.input) (g.R.Disk.told c.args.rep.now) (g.R.Disk.told c.loop-reader.rep)
    c.loop-reader.reader c.next.new.self c.loop-reader.self c.loop-reader.report.marks c.loop-reader.invariant.under c.in-Damaged.pos
    (found_is _ _ _ _ c.in_ok-next.field-0 (found.Damaged c.in-Damaged.pos) c.in-Damaged.is c.in_ok-next.ensures.reads)

pub returns-in-Foreign-clause-comes_to : goal.returns-in-Foreign-clause-comes_to
returns-in-Foreign-clause-comes_to g c =
    at_foreign c.calls_lead.ensures c.fronts_are_known.ensures c.args.self.now.node.node.identity c.args.draw.now (kept c.args.self.now)
    (g.S.Source.left c.args.input.now) (g.S.Source.left c.loop-reader.input) (g.S.Source.left c.next.new.input) (g.R.Disk.told c.args.rep.now) (g.R.Disk.told c.loop-reader.rep)
    c.loop-reader.reader c.next.new.self c.loop-reader.self c.loop-reader.report.marks c.loop-reader.invariant.under c.in-Foreign.pos c.in-Foreign.kind
    (found_is _ _ _ _ c.in_ok-next.field-0 (found.Foreign c.in-Foreign.pos c.in-Foreign.kind) c.in-Foreign.is c.in_ok-next.ensures.reads)

pub returns-in_err-damaged-clause-comes_to : goal.returns-in_err-damaged-clause-comes_to
returns-in_err-damaged-clause-comes_to g c =
    let p = err_from_is_err_and c.from_residual.result c.from_residual.ensures.1 in
    rw (p.1, p.2)
    (unmarked _ c.args.self.now.node.node.identity c.args.draw.now (kept c.args.self.now) (g.S.Source.left c.args.input.now) (g.S.Source.left c.read_front.new.input) (g.R.Disk.told c.args.rep.now) (g.R.Disk.told c.args.rep.now)
    c.args.self.now c.args.report.now.marks c.requires.marks
    (stops_reading c.args.self.now.node.node.identity c.args.draw.now (kept c.args.self.now) (g.S.Source.left c.args.input.now) (g.S.Source.left c.read_front.new.input) (g.R.Disk.told c.args.rep.now) (g.R.Disk.told c.args.rep.now)
    c.args.self.now [] c.in_err-damaged.field-0.0 _ _ c.in_err-damaged.ensures.stop
    (nothing_read c.args.self.now.node.node.identity c.args.draw.now (g.S.Source.left c.args.input.now) (g.R.Disk.told c.args.rep.now) c.args.self.now c.requires.fresh c.requires.on)))

pub returns-in-Some-clause-comes_to : goal.returns-in-Some-clause-comes_to
returns-in-Some-clause-comes_to g c =
    let is : c.in_ok-damaged.damaged ≡ Some c.in-Some.pos = search rules in
    unmarked (LogDamaged c.in-Some.pos) c.args.self.now.node.node.identity c.args.draw.now (kept c.args.self.now) (g.S.Source.left c.args.input.now) (g.S.Source.left c.read_front.new.input) (g.R.Disk.told c.args.rep.now) (g.R.Disk.told c.args.rep.now)
    c.args.self.now c.args.report.now.marks c.requires.marks
    (damaged_first c.args.self.now.node.node.identity c.args.draw.now (g.S.Source.left c.args.input.now) (g.S.Source.left c.read_front.new.input) (g.R.Disk.told c.args.rep.now) c.args.self.now c.requires.fresh c.requires.on
    c.front_leads.ensures c.in-Some.pos
    (subst (λ (o : Option ℕ). ReadsFront c.args.self.now.pos (g.S.Source.left c.args.input.now) (g.S.Source.left c.read_front.new.input) o) is c.in_ok-damaged.ensures.front))

pub loop-reader-init : goal.loop-reader-init
loop-reader-init g c =
    let none : c.in_ok-damaged.damaged ≡ None = search rules in
    record {
      identity = refl;
      under =
          under_marked _ _ _ _ _ _ _ _ _ c.args.report.now.marks c.requires.marks
          (under_first c.args.self.now.node.node.identity c.args.draw.now (g.S.Source.left c.args.input.now) (g.S.Source.left c.read_front.new.input) (g.R.Disk.told c.args.rep.now) c.args.self.now c.requires.fresh c.requires.on
          c.front_leads.ensures
          (subst (λ (o : Option ℕ). ReadsFront c.args.self.now.pos (g.S.Source.left c.args.input.now) (g.S.Source.left c.read_front.new.input) o) none c.in_ok-damaged.ensures.front)
          c.at-reader.result c.at-reader.ensures);
      rest = refl;
      later_disk = omega arith;
      later = c.in_ok-damaged.ensures.later;
      ended = λ fresh. c.in_ok-damaged.ensures.goes_on (ap Ok none) fresh;
    }

pub returns-in_err-next-clause-comes_to : goal.returns-in_err-next-clause-comes_to
returns-in_err-next-clause-comes_to g c =
    let p = err_from_is_err_and c.from_residual-in_err-next.result c.from_residual-in_err-next.ensures.1 in
    rw (p.1, p.2)
    (stops_reading c.args.self.now.node.node.identity c.args.draw.now (kept c.args.self.now) (g.S.Source.left c.args.input.now) (g.S.Source.left c.next.new.input) (g.R.Disk.told c.args.rep.now) (g.R.Disk.told c.loop-reader.rep)
    c.loop-reader.self c.loop-reader.report.marks c.in_err-next.field-0.0 _ _ c.in_err-next.ensures.stop
    (at_fault c.calls_lead.ensures c.fronts_are_known.ensures c.args.self.now.node.node.identity c.args.draw.now (kept c.args.self.now)
    (g.S.Source.left c.args.input.now) (g.S.Source.left c.loop-reader.input) (g.S.Source.left c.next.new.input) (g.R.Disk.told c.args.rep.now) (g.R.Disk.told c.loop-reader.rep)
    c.loop-reader.reader c.next.new.self c.loop-reader.self c.loop-reader.report.marks c.loop-reader.invariant.under))

pub returns-in_err-carry_out-in-Group-clause-goes : goal.returns-in_err-carry_out-in-Group-clause-goes
returns-in_err-carry_out-in-Group-clause-goes g c = on_trans _ _ _ c.loop-reader.invariant.under.lasts.goes c.in_err-carry_out-in-Group.ensures.goes
