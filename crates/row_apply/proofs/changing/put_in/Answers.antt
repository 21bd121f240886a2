use Rattle.std.proofs.Common.{◌≡◌, ◌++◌, ℕ, List, true, Some, Err, sym, ap, subst, ◌∙◌, rules}
use Rattle.val_types.specs.declared.value.Value.{Value}
use Rattle.val_types.specs.declared.change.Change.TheVariants.{Insert}
use Rattle.auto_inc.specs.declared.counters.Counter.{Counter}
use Rattle.table_rules.specs.Tables.{Table}
use Rattle.table_rules.specs.Stored.{carried_out, fits_table, insertion, key_taken, row_absent}
use Rattle.apply_model.specs.Rows.{counters_moved}
use Rattle.prog_work.specs.Contents.{Contents}
use Rattle.prog_work.specs.dml_rows.Noted.{changes_of}
use Rattle.row_apply.specs.Changes.{raised_to}
use Rattle.row_apply.specs.Ends.{progress_in}
use Rattle.row_apply.proofs.Making.{gone_to, insert_made, insert_taken_stops, insertion_there}
use Rattle.row_apply.proofs.changing.put_in.Goals as goal

pub returns-in-Ok-clause-ends : goal.returns-in-Ok-clause-ends
returns-in-Ok-clause-ends c = λ m takes.
    let old = c.args.work.now in
    let new = c.insert_row.new.self in
    let value = c.auto_value-value.result in
    let raises : raised_to c.args.table value old.counters ≡ counters_moved c.tables-2.result.now.tables (Insert c.args.table c.args.row) old.counters =
    subst (λ (name : List ℕ). raised_to name value old.counters ≡ counters_moved c.tables-2.result.now.tables (Insert name c.args.row) old.counters) c.get-3.ensures
    (subst (λ (row : List Value). raised_to c.get-3.result.now value old.counters ≡ counters_moved c.tables-2.result.now.tables (Insert c.get-3.result.now row) old.counters) c.get-4.ensures
    (c.auto_value-value.ensures old.counters)) in
    let moved : counters_moved old.tables (Insert c.args.table c.args.row) old.counters ≡ raised_to c.args.table value new.counters =
    ap (λ (ts : List Table). counters_moved ts (Insert c.args.table c.args.row) old.counters) (sym c.tables-2.ensures)
    ∙ sym raises
    ∙ ap (λ (cs : List Counter). raised_to c.args.table value cs) (sym c.in-Ok.ensures.rest.counters) in
    let stored : carried_out (insertion c.args.table c.args.row old.tables) old.tables ≡ Some new.tables =
    subst (λ (name : List ℕ). carried_out (insertion name c.args.row old.tables) old.tables ≡ Some new.tables) c.get-5.ensures c.in-Ok.ensures.stored in
    let noted : new.changes ≡ old.changes ++ changes_of (insertion c.args.table c.args.row old.tables) =
    subst (λ (name : List ℕ). new.changes ≡ old.changes ++ changes_of (insertion name c.args.row old.tables)) c.get-5.ensures c.in-Ok.ensures.noted in
    let raised : c.raise.new.work ≡ record new { counters = raised_to c.args.table value new.counters } = search rules in
    insert_made c.args.pos m c.args.table c.args.row old.tables new.tables old.counters _ old.changes new.changes takes stored moved noted
    ∙ ap (λ (k : Contents). gone_to (progress_in k)) (sym raised)

pub returns-in-Err-Taken-clause-ends : goal.returns-in-Err-Taken-clause-ends
returns-in-Err-Taken-clause-ends c = λ m takes.
    let fits : fits_table c.args.table c.args.row c.args.work.now.tables ≡ true = search rules in
    let stored = rw c.in-Err-Taken.field-0-is at c.in-Err-Taken.ensures.stored in
    let taken : insertion c.args.table c.args.row c.args.work.now.tables ≡ Err (key_taken c.in-Err-Taken.field-0-0) =
    subst (λ (name : List ℕ). insertion name c.args.row c.args.work.now.tables ≡ Err (key_taken c.in-Err-Taken.field-0-0)) c.get-5.ensures stored.0 in
    rw c.differs-in-Err-Taken.ensures
    (insert_taken_stops c.args.pos m c.args.table c.args.row c.args.key (progress_in c.args.work.now) c.in-Err-Taken.field-0-0 takes c.requires.key fits taken)

pub unreachable-requires : goal.unreachable-requires
unreachable-requires c =
    let stored = rw c.in-Err-Absent.field-0-is at c.in-Err-Absent.ensures.stored in
    insertion_there c.args.table c.args.row c.args.work.now.tables c.requires.there
    (subst (λ (name : List ℕ). insertion name c.args.row c.args.work.now.tables ≡ Err row_absent) c.get-5.ensures stored.0)
