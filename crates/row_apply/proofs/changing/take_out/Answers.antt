use Rattle.std.proofs.Common.{◌≡◌, ◌++◌, ℕ, List, true, false, Some, Err, subst, rules}
use Rattle.table_rules.specs.Stored.{carried_out, deletion, key_taken, row_absent, row_at}
use Rattle.prog_work.specs.dml_rows.Noted.{changes_of}
use Rattle.row_apply.specs.Changes.{is_row}
use Rattle.row_apply.specs.Ends.{progress_in}
use Rattle.row_apply.proofs.Making.{delete_absent_stops, delete_made, deletion_there}
use Rattle.row_apply.proofs.Refusing.{row_found}
use Rattle.row_apply.proofs.changing.take_out.Goals as goal

pub returns-then-not-is_there-clause-ends : goal.returns-then-not-is_there-clause-ends
returns-then-not-is_there-clause-ends c = λ m takes.
    let absent : is_row (row_at c.args.table c.args.key c.args.work.now.tables) c.args.row.now ≡ false = search rules in
    rw c.differs.ensures
    (delete_absent_stops c.args.pos m c.args.table c.args.row.now c.args.key (progress_in c.args.work.now) c.together.ensures.kept takes c.requires absent)

pub returns-in-Ok-clause-ends : goal.returns-in-Ok-clause-ends
returns-in-Ok-clause-ends c = λ m takes.
    let there : is_row (row_at c.args.table c.args.key c.args.work.now.tables) c.args.row.now ≡ true = search rules in
    let old = c.args.work.now in
    let new = c.delete_row.new.self in
    let stored : carried_out (deletion c.args.table c.args.key old.tables) old.tables ≡ Some new.tables =
    subst (λ (name : List ℕ). carried_out (deletion name c.args.key old.tables) old.tables ≡ Some new.tables) c.get-2.ensures c.in-Ok.ensures.stored in
    let noted : new.changes ≡ old.changes ++ changes_of (deletion c.args.table c.args.key old.tables) =
    subst (λ (name : List ℕ). new.changes ≡ old.changes ++ changes_of (deletion name c.args.key old.tables)) c.get-2.ensures c.in-Ok.ensures.noted in
    delete_made c.args.pos m c.args.table c.args.key c.args.row.now old.tables new.tables old.counters new.counters old.changes new.changes takes
    (row_found (row_at c.args.table c.args.key c.args.work.now.tables) c.args.row.now there)
    stored c.in-Ok.ensures.rest.counters noted

pub unreachable-requires : goal.unreachable-requires
unreachable-requires c =
    let there : is_row (row_at c.args.table c.args.key c.args.work.now.tables) c.args.row.now ≡ true = search rules in
    let stored = rw c.in-Err-Absent.field-0-is at c.in-Err-Absent.ensures.stored in
    deletion_there c.args.table c.args.key c.args.row.now c.args.work.now.tables row_absent
    (row_found (row_at c.args.table c.args.key c.args.work.now.tables) c.args.row.now there)
    (subst (λ (name : List ℕ). deletion name c.args.key c.args.work.now.tables ≡ Err row_absent) c.get-2.ensures stored.0)

pub unreachable-requires-in-Err-Taken : goal.unreachable-requires-in-Err-Taken
unreachable-requires-in-Err-Taken c =
    let there : is_row (row_at c.args.table c.args.key c.args.work.now.tables) c.args.row.now ≡ true = search rules in
    let stored = rw c.in-Err-Taken.field-0-is at c.in-Err-Taken.ensures.stored in
    deletion_there c.args.table c.args.key c.args.row.now c.args.work.now.tables (key_taken c.in-Err-Taken.field-0-0)
    (row_found (row_at c.args.table c.args.key c.args.work.now.tables) c.args.row.now there)
    (subst (λ (name : List ℕ). deletion name c.args.key c.args.work.now.tables ≡ Err (key_taken c.in-Err-Taken.field-0-0)) c.get-2.ensures stored.0)
