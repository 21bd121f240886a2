use Rattle.std.proofs.Common.{◌≡◌, ◌++◌, ℕ, List, true, false, Some, Err, subst, rules}
use Rattle.table_rules.specs.Stored.{carried_out, fits_table, key_taken, replacement, row_absent}
use Rattle.prog_work.specs.dml_rows.Noted.{changes_of}
use Rattle.row_apply.specs.Ends.{progress_in}
use Rattle.row_apply.proofs.Making.{replacement_there, update_made, update_taken_stops, update_unfit_stops}
use Rattle.row_apply.proofs.changing.replace.Goals as goal

pub returns-then-not-fits-clause-ends : goal.returns-then-not-fits-clause-ends
returns-then-not-fits-clause-ends c = λ m before takes there.
    let unfit : fits_table c.args.table c.args.after c.args.work.now.tables ≡ false = search rules in
    rw c.differs.ensures
    (update_unfit_stops c.args.pos m c.args.table c.args.key before c.args.after c.args.put (progress_in c.args.work.now) c.together.ensures.kept takes there c.requires.put unfit)

pub returns-in-Err-Taken-clause-ends : goal.returns-in-Err-Taken-clause-ends
returns-in-Err-Taken-clause-ends c = λ m before takes there.
    let fits : fits_table c.args.table c.args.after c.args.work.now.tables ≡ true = search rules in
    let stored = rw c.in-Err-Taken.field-0-is at c.in-Err-Taken.ensures.stored in
    let taken : replacement c.args.table c.args.key c.args.after c.args.work.now.tables ≡ Err (key_taken c.in-Err-Taken.field-0-0) =
    subst (λ (name : List ℕ). replacement name c.args.key c.args.after c.args.work.now.tables ≡ Err (key_taken c.in-Err-Taken.field-0-0)) c.get-3.ensures stored.0 in
    rw c.differs-in-Err-Taken.ensures
    (update_taken_stops c.args.pos m c.args.table c.args.key before c.args.after c.args.put (progress_in c.args.work.now) c.in-Err-Taken.field-0-0 c.together.ensures.kept takes there c.requires.put fits taken)

pub returns-in-Ok-clause-ends : goal.returns-in-Ok-clause-ends
returns-in-Ok-clause-ends c = λ m before takes there.
    let old = c.args.work.now in
    let new = c.update_row.new.self in
    let stored : carried_out (replacement c.args.table c.args.key c.args.after old.tables) old.tables ≡ Some new.tables =
    subst (λ (name : List ℕ). carried_out (replacement name c.args.key c.args.after old.tables) old.tables ≡ Some new.tables) c.get-3.ensures c.in-Ok.ensures.stored in
    let noted : new.changes ≡ old.changes ++ changes_of (replacement c.args.table c.args.key c.args.after old.tables) =
    subst (λ (name : List ℕ). new.changes ≡ old.changes ++ changes_of (replacement name c.args.key c.args.after old.tables)) c.get-3.ensures c.in-Ok.ensures.noted in
    update_made c.args.pos m c.args.table c.args.key before c.args.after old.tables new.tables old.counters new.counters old.changes new.changes takes there
    stored c.in-Ok.ensures.rest.counters noted

pub unreachable-requires : goal.unreachable-requires
unreachable-requires c =
    let stored = rw c.in-Err-Absent.field-0-is at c.in-Err-Absent.ensures.stored in
    replacement_there c.args.table c.args.key c.args.after c.args.work.now.tables c.requires.there
    (subst (λ (name : List ℕ). replacement name c.args.key c.args.after c.args.work.now.tables ≡ Err row_absent) c.get-3.ensures stored.0)
