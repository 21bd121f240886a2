use Rattle.std.proofs.Common.{◌≤◌, length, refl, arith}
use Rattle.binlog_cache.proofs.Parts.{items_can, xid_can, all_written}
use Rattle.binlog_cache.proofs.encoding.encode_items.Goals as goal

pub put_items-requires-clause-events : goal.put_items-requires-clause-events
put_items-requires-clause-events c =
    let some : 1 ≤ length c.args.kept.now = omega (arith, c.len.ensures, c.if-len-eq0.false) in
    items_can c.args.header.now.stamp c.args.number c.args.kept.now c.index.result.now some c.index.ensures c.args.header.now c.in_ok-out.out c.requires.events c.in_ok-here.here c.put_begin.new.out c.in_ok-here.ensures.ok

pub put_xid-requires : goal.put_xid-requires
put_xid-requires c =
    let some : 1 ≤ length c.args.kept.now = omega (arith, c.len.ensures, c.if-len-eq0.false) in
    xid_can c.args.header.now.stamp c.args.number c.args.kept.now c.index.result.now some c.index.ensures c.args.header.now c.in_ok-out.out c.requires.events c.in_ok-here.here c.in_ok-here-2.here c.put_begin.new.out c.put_items.new.out refl
    c.in_ok-here.ensures.ok c.in_ok-here-2.ensures.ok

pub returns : goal.returns
returns c =
    let some : 1 ≤ length c.args.kept.now = omega (arith, c.len.ensures, c.if-len-eq0.false) in
    rw c.in_ok-out.ensures at (all_written c.args.header.now.stamp c.args.number c.args.kept.now c.index.result.now some c.index.ensures c.args.header.now c.in_ok-out.out c.requires.events c.in_ok-here.here c.in_ok-here-2.here c.in_ok-put_xid.field-0
    c.put_begin.new.out c.put_items.new.out c.put_xid.new.out refl c.in_ok-here.ensures.ok c.in_ok-here-2.ensures.ok c.in_ok-put_xid.ensures.ok)
