use Rattle.std.proofs.Common.{ℕ, ◌+◌, List, true, sym, ap, subst, arith}
use Rattle.std.proofs.lemmas.Bool.{OnTrue_at}
use Rattle.binlog_items.specs.Logged.{Encodes}
use Rattle.commit_store.specs.store_model.log_entries.declared.entries.Entry.TheVariants.{Transaction}
use Rattle.waiting_entries.specs.Making.{has_place}
use Rattle.waiting_entries.specs.Waiting.{Leaves}
use Rattle.waiting_entries.proofs.Leaving.{transaction_end, transaction_leaves}
use Rattle.waiting_entries.proofs.Recording.{small}
use Rattle.waiting_entries.proofs.making.made_transaction.Goals as goal

pub overflow_cast-end : goal.overflow_cast-end
overflow_cast-end c =
    let encodes : Encodes (Transaction c.args.stamp c.args.server_id c.args.items.now) c.args.at.number c.args.at.pos c.in_ok-tail.tail =
    subst (λ (n : ℕ). Encodes (Transaction c.args.stamp c.args.server_id c.args.items.now) c.args.at.number n c.in_ok-tail.tail) c.from.ensures c.in_ok-tail.ensures in
    let low = transaction_end c.args.stamp c.args.server_id c.args.at.number c.args.at.log c.args.at.pos c.args.items.now c.in_ok-tail.tail encodes in
    omega (arith, low, c.len.ensures)

pub overflow_add-end : goal.overflow_add-end
overflow_add-end c =
    let encodes : Encodes (Transaction c.args.stamp c.args.server_id c.args.items.now) c.args.at.number c.args.at.pos c.in_ok-tail.tail =
    subst (λ (n : ℕ). Encodes (Transaction c.args.stamp c.args.server_id c.args.items.now) c.args.at.number n c.in_ok-tail.tail) c.from.ensures c.in_ok-tail.ensures in
    let low = transaction_end c.args.stamp c.args.server_id c.args.at.number c.args.at.log c.args.at.pos c.args.items.now c.in_ok-tail.tail encodes in
    omega (arith, low, c.len.ensures)

pub transaction_record-requires : goal.transaction_record-requires
transaction_record-requires c = small c.args.items.now c.in_ok-changes.changes c.requires.small c.in_ok-changes.ensures

pub returns : goal.returns
returns c =
    let encodes : Encodes (Transaction c.args.stamp c.args.server_id c.args.items.now) c.args.at.number c.args.at.pos c.in_ok-tail.tail =
    subst (λ (n : ℕ). Encodes (Transaction c.args.stamp c.args.server_id c.args.items.now) c.args.at.number n c.in_ok-tail.tail) c.from.ensures c.in_ok-tail.ensures in
    subst (λ (head : List ℕ). Leaves (Transaction c.args.stamp c.args.server_id c.args.items.now) c.args.at.number (has_place c.args.at)
    (record { waiting = record { tail = c.in_ok-tail.tail; head = head; prepared = c.in_ok-prepared.prepared; counts = true }; end = c.args.at.pos + c.len.result })) (sym c.new.ensures)
    (transaction_leaves c.args.stamp c.args.server_id c.args.at.number c.args.at.log c.args.at.pos c.args.items.now c.in_ok-tail.tail encodes (c.args.at.pos + c.len.result) c.in_ok-changes.changes
    c.in_ok-prepared.prepared (ap (λ (n : ℕ). c.args.at.pos + n) c.len.ensures) c.in_ok-changes.ensures c.in_ok-prepared.ensures.body c.in_ok-prepared.ensures.made
    (OnTrue_at c.if-not-fits.false c.fits.ensures))
