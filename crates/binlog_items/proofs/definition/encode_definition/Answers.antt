use Rattle.std.proofs.Common.{rules, ◌≡◌, ◌<◌, ◌^◌, ◌∷◌, [], false, codes, arith}
use Rattle.std.specs.Str.{bytes_eq}
use Rattle.event_codec.specs.Event.{query}
use Rattle.log_entry_laws.specs.log_model.Written.{CanWriteAll}
use Rattle.binlog_items.proofs.Encoding.{definition_can, definition_encodes}
use Rattle.binlog_items.proofs.definition.encode_definition.Goals as goal

pub put-requires : goal.put-requires
put-requires c =
    let thread : c.connection.result < 2 ^ 32 = search rules in
    let stamp : c.stamp.result < 2 ^ 32 = search rules in
    definition_can (record { thread = c.connection.result; step = c.step.result; text = c.args.text.now }) c.stamp.result c.args.pos c.saturating_add-room.result c.saturating_add.result c.step.ensures.counts c.step.ensures.words thread stamp
    c.saturating_add-room.ensures c.saturating_add.ensures (omega (arith, c.if-saturating_add-gt-LAST_END.false))

pub returns : goal.returns
returns c committed =
    let thread : c.connection.result < 2 ^ 32 = search rules in
    let stamp : c.stamp.result < 2 ^ 32 = search rules in
    let other : bytes_eq c.args.text.now (codes "BEGIN") ≡ false = search rules in
    let can : CanWriteAll c.args.pos (record { stamp = c.stamp.result; body = query (record { thread = c.connection.result; step = c.step.result; text = c.args.text.now }) } ∷ []) =
    definition_can (record { thread = c.connection.result; step = c.step.result; text = c.args.text.now }) c.stamp.result c.args.pos c.saturating_add-room.result c.saturating_add.result c.step.ensures.counts c.step.ensures.words thread stamp
    c.saturating_add-room.ensures c.saturating_add.ensures (omega (arith, c.if-saturating_add-gt-LAST_END.false)) in
    definition_encodes c.args.text.now c.args.context.now c.args.server_id c.args.pos committed c.in_ok-out.out c.put.new.out c.stamp.result c.connection.result c.step.result c.stamp.ensures c.connection.ensures c.step.ensures.value
    other can c.in_ok-out.ensures c.in_ok-put.ensures.ok.bytes
