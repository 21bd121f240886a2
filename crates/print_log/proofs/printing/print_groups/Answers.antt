use Rattle.std.proofs.Common.{rules, ◌≡◌, false, true, Bool, arith, subst}
use Rattle.std.proofs.lemmas.Result.{err_from_is_err_and}
use Rattle.log_reader.specs.declared.reader.Found.{Found}
use Rattle.log_reader.specs.Reading.{Reads, ReadsMagic}
use Rattle.print_log.proofs.Shown.{nothing_printed, magic_shown, no_magic_ends, stopped, group_shown, group_broken, end_shown, damaged_shown, foreign_shown, goes_forward, read_stops, write_stops}
use Rattle.print_log.proofs.printing.print_groups.Goals as goal

pub returns-in_err-read_magic-clause-run : goal.returns-in_err-read_magic-clause-run
returns-in_err-read_magic-clause-run g c =
    let p = err_from_is_err_and c.from_residual.result c.from_residual.ensures.1 in
    rw (p.1, p.2) (read_stops c.in_err-read_magic.field-0.0 _ _ _ _ _ _ c.in_err-read_magic.ensures.stop (nothing_printed _ _))

pub returns-then-not-branch-clause-run : goal.returns-then-not-branch-clause-run
returns-then-not-branch-clause-run g c =
    let off : c.in_ok-read_magic.field-0 ≡ false = search rules in
    no_magic_ends _ (g.S.Source.left c.read_magic.new.input) _ (subst (λ (b : Bool). ReadsMagic (g.S.Source.left c.args.input.now) (g.S.Source.left c.read_magic.new.input) b) off c.in_ok-read_magic.ensures.magic)

pub loop-lines-init : goal.loop-lines-init
loop-lines-init g c =
    let on : c.in_ok-read_magic.field-0 ≡ true = search rules in
    record {
      shown = rw c.new-reader.ensures (magic_shown _ (g.S.Source.left c.read_magic.new.input) _ (subst (λ (b : Bool). ReadsMagic (g.S.Source.left c.args.input.now) (g.S.Source.left c.read_magic.new.input) b) on c.in_ok-read_magic.ensures.magic));
      read_later = c.read_magic.ensures.later;
      write_later = omega arith;
      read_on = search rules;
      write_on = λ fresh. fresh;
    }

pub returns-in_err-next-clause-run : goal.returns-in_err-next-clause-run
returns-in_err-next-clause-run g c =
    let p = err_from_is_err_and c.from_residual-in_err-next.result c.from_residual-in_err-next.ensures.1 in
    rw (p.1, p.2) (read_stops c.in_err-next.field-0.0 _ _ _ _ _ _ c.in_err-next.ensures.stop (stopped _ _ _ _ _ c.loop-lines.invariant.shown))

pub loop-lines-smaller : goal.loop-lines-smaller
loop-lines-smaller g c =
    let reads = subst (λ (f : Found). Reads c.loop-lines.reader c.next.new.self (g.S.Source.left c.loop-lines.input) (g.S.Source.left c.next.new.input) f) c.in-Group.is c.in_ok-next.ensures.reads in
    let on = goes_forward _ _ _ _ _ c.loop-lines.invariant.shown _ _ reads in
    omega (arith, on.0, on.1)

pub loop-lines-preserved : goal.loop-lines-preserved
loop-lines-preserved g c =
    let reads = subst (λ (f : Found). Reads c.loop-lines.reader c.next.new.self (g.S.Source.left c.loop-lines.input) (g.S.Source.left c.next.new.input) f) c.in-Group.is c.in_ok-next.ensures.reads in
    record {
      shown = group_shown _ _ _ _ _ c.loop-lines.invariant.shown _ _ _ reads c.in_ok-print_group-in-Group.ensures.ok;
      read_later = omega (arith, c.loop-lines.invariant.read_later, c.next.ensures.later);
      write_later = omega (arith, c.loop-lines.invariant.write_later, c.print_group.ensures.later);
      read_on = search rules;
      write_on = search rules;
    }

pub returns-in_err-print_group-in-Group-clause-run : goal.returns-in_err-print_group-in-Group-clause-run
returns-in_err-print_group-in-Group-clause-run g c =
    let p = err_from_is_err_and c.from_residual-in_err-print_group-in-Group.result c.from_residual-in_err-print_group-in-Group.ensures.1 in
    let reads = subst (λ (f : Found). Reads c.loop-lines.reader c.next.new.self (g.S.Source.left c.loop-lines.input) (g.S.Source.left c.next.new.input) f) c.in-Group.is c.in_ok-next.ensures.reads in
    rw (p.1, p.2)
    (write_stops c.in_err-print_group-in-Group.field-0.0 _ _ _ _ _ _ c.in_err-print_group-in-Group.ensures.stop
    (group_broken _ _ _ _ _ c.loop-lines.invariant.shown _ _ _ reads c.in_err-print_group-in-Group.ensures.err))

pub returns-in-End-clause-run : goal.returns-in-End-clause-run
returns-in-End-clause-run g c =
    end_shown _ _ _ _ _ c.loop-lines.invariant.shown _ _
    (subst (λ (f : Found). Reads c.loop-lines.reader c.next.new.self (g.S.Source.left c.loop-lines.input) (g.S.Source.left c.next.new.input) f) c.in-End.is c.in_ok-next.ensures.reads)

pub returns-in-Damaged-clause-run : goal.returns-in-Damaged-clause-run
returns-in-Damaged-clause-run g c =
    damaged_shown _ _ _ _ _ c.loop-lines.invariant.shown _ _ c.in-Damaged.pos
    (subst (λ (f : Found). Reads c.loop-lines.reader c.next.new.self (g.S.Source.left c.loop-lines.input) (g.S.Source.left c.next.new.input) f) c.in-Damaged.is c.in_ok-next.ensures.reads)

pub returns-in-Foreign-clause-run : goal.returns-in-Foreign-clause-run
returns-in-Foreign-clause-run g c =
    foreign_shown _ _ _ _ _ c.loop-lines.invariant.shown _ _ c.in-Foreign.pos c.in-Foreign.kind
    (subst (λ (f : Found). Reads c.loop-lines.reader c.next.new.self (g.S.Source.left c.loop-lines.input) (g.S.Source.left c.next.new.input) f) c.in-Foreign.is c.in_ok-next.ensures.reads)
