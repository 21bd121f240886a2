use Rattle.std.proofs.Common.{◌+◌, ◌≤◌, List, length, IfOk, refl, sym, subst, arith}
use Rattle.log_entry_laws.specs.log_entries.declared.entries.Item.{Item}
use Rattle.log_entry_laws.specs.log_entries.declared.entries.Entry.TheVariants.{Transaction}
use Rattle.log_entry_laws.specs.log_model.Log.{transaction}
use Rattle.log_entry_laws.specs.log_model.Written.{CanWriteAll}
use Rattle.binlog_items.specs.Logged.{Encodes}
use Rattle.binlog_items.proofs.Encoding.{all_carried, encode_can, encodes_if}
use Rattle.binlog_items.proofs.items.Items.encode.Goals as goal

pub encode-requires-clause-carried : goal.encode-requires-clause-carried
encode-requires-clause-carried c = all_carried c.self.inside.cache c.self.invariant

pub encode-requires-clause-events : goal.encode-requires-clause-events
encode-requires-clause-events c =
    encode_can c.self.inside.cache c.args.header.now.stamp c.args.committed (c.args.committed + 1) c.args.header.now.pos c.bytes.result c.saturating_add.result c.saturating_add-end.result c.self.invariant c.have_words.ensures.first refl c.requires.few
    c.bytes.ensures c.saturating_add.ensures c.saturating_add-end.ensures (omega (arith, c.if-end-gt-LAST_END.false))

pub returns : goal.returns
returns c =
    let can : CanWriteAll c.args.header.now.pos (transaction c.args.header.now.stamp (c.args.committed + 1) c.self.inside.cache) =
    encode_can c.self.inside.cache c.args.header.now.stamp c.args.committed (c.args.committed + 1) c.args.header.now.pos c.bytes.result c.saturating_add.result c.saturating_add-end.result c.self.invariant c.have_words.ensures.first refl c.requires.few
    c.bytes.ensures c.saturating_add.ensures c.saturating_add-end.ensures (omega (arith, c.if-end-gt-LAST_END.false)) in
    let some : 1 ≤ length c.self.inside.cache = subst (λ (is : List Item). 1 ≤ length is) (sym c.self.view_is) c.requires.some in
    subst (λ (is : List Item). IfOk c.encode.result (λ bytes. Encodes (Transaction c.args.header.now.stamp c.args.header.now.server_id is) c.args.committed c.args.header.now.pos bytes)) c.self.view_is
    (encodes_if c.encode.result c.self.inside.cache c.args.header.now.stamp c.args.header.now.server_id c.args.committed (c.args.committed + 1) c.args.header.now.pos c.self.invariant some refl can c.encode.ensures)
