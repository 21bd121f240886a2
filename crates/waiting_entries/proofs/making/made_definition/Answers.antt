use Rattle.std.proofs.Common.{ℕ, ◌+◌, List, true, sym, ap, subst, arith}
use Rattle.binlog_items.specs.Items.{item_by_text}
use Rattle.std.proofs.lemmas.Bool.{OnTrue_at}
use Rattle.binlog_items.specs.Logged.{Encodes}
use Rattle.commit_store.specs.store_model.log_entries.declared.entries.Entry.TheVariants.{Definition}
use Rattle.waiting_entries.specs.Making.{has_place}
use Rattle.waiting_entries.specs.Waiting.{Leaves}
use Rattle.waiting_entries.proofs.Leaving.{definition_end, definition_leaves, definition_text}
use Rattle.waiting_entries.proofs.making.made_definition.Goals as goal

pub overflow_cast-end : goal.overflow_cast-end
overflow_cast-end c =
    let encodes : Encodes (Definition c.args.context.now.stamp c.args.server_id (item_by_text c.args.text.now c.args.context.now)) c.args.at.number c.args.at.pos c.in_ok-tail.tail =
    subst (λ (n : ℕ). Encodes (Definition c.args.context.now.stamp c.args.server_id (item_by_text c.args.text.now c.args.context.now)) c.args.at.number n c.in_ok-tail.tail) c.from.ensures
    (c.in_ok-tail.ensures c.args.at.number) in
    let low = definition_end c.args.context.now.stamp c.args.server_id c.args.at.number c.args.at.log c.args.at.pos (item_by_text c.args.text.now c.args.context.now) c.in_ok-tail.tail encodes in
    omega (arith, low, c.len.ensures)

pub overflow_add-end : goal.overflow_add-end
overflow_add-end c =
    let encodes : Encodes (Definition c.args.context.now.stamp c.args.server_id (item_by_text c.args.text.now c.args.context.now)) c.args.at.number c.args.at.pos c.in_ok-tail.tail =
    subst (λ (n : ℕ). Encodes (Definition c.args.context.now.stamp c.args.server_id (item_by_text c.args.text.now c.args.context.now)) c.args.at.number n c.in_ok-tail.tail) c.from.ensures
    (c.in_ok-tail.ensures c.args.at.number) in
    let low = definition_end c.args.context.now.stamp c.args.server_id c.args.at.number c.args.at.log c.args.at.pos (item_by_text c.args.text.now c.args.context.now) c.in_ok-tail.tail encodes in
    omega (arith, low, c.len.ensures)

pub definition_record-requires : goal.definition_record-requires
definition_record-requires c =
    let encodes : Encodes (Definition c.args.context.now.stamp c.args.server_id (item_by_text c.args.text.now c.args.context.now)) c.args.at.number c.args.at.pos c.in_ok-tail.tail =
    subst (λ (n : ℕ). Encodes (Definition c.args.context.now.stamp c.args.server_id (item_by_text c.args.text.now c.args.context.now)) c.args.at.number n c.in_ok-tail.tail) c.from.ensures
    (c.in_ok-tail.ensures c.args.at.number) in
    definition_text c.args.context.now.stamp c.args.server_id c.args.at.number c.args.at.log c.args.at.pos (item_by_text c.args.text.now c.args.context.now) c.in_ok-tail.tail encodes

pub returns : goal.returns
returns c =
    let encodes : Encodes (Definition c.args.context.now.stamp c.args.server_id (item_by_text c.args.text.now c.args.context.now)) c.args.at.number c.args.at.pos c.in_ok-tail.tail =
    subst (λ (n : ℕ). Encodes (Definition c.args.context.now.stamp c.args.server_id (item_by_text c.args.text.now c.args.context.now)) c.args.at.number n c.in_ok-tail.tail) c.from.ensures
    (c.in_ok-tail.ensures c.args.at.number) in
    subst (λ (head : List ℕ). Leaves (Definition c.args.context.now.stamp c.args.server_id (item_by_text c.args.text.now c.args.context.now)) c.args.at.number (has_place c.args.at)
    (record { waiting = record { tail = c.in_ok-tail.tail; head = head; prepared = c.in_ok-prepared.prepared; counts = true }; end = c.args.at.pos + c.len.result })) (sym c.new.ensures)
    (definition_leaves c.args.context.now.stamp c.args.server_id c.args.at.number c.args.at.log c.args.at.pos (item_by_text c.args.text.now c.args.context.now) c.in_ok-tail.tail encodes
    (c.args.at.pos + c.len.result) c.in_ok-prepared.prepared (ap (λ (n : ℕ). c.args.at.pos + n) c.len.ensures) c.in_ok-prepared.ensures.body c.in_ok-prepared.ensures.made
    (OnTrue_at c.if-not-fits.false c.fits.ensures))
