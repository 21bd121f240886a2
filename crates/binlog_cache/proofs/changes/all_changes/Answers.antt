use Rattle.std.proofs.Common.{◌≡◌, ◌∙◌, arith}
use Rattle.binlog_cache.proofs.Parts.{changes_more, changes_none}
use Rattle.binlog_cache.proofs.changes.all_changes.Goals as goal

pub loop-place-preserved : goal.loop-place-preserved
loop-place-preserved c =
    changes_more c.args.kept.now c.loop-place.place c.index.result.now c.loop-place.all _ c.append.new.self (omega (arith, c.len-place-end.ensures)) c.index.ensures
    (c.in_ok-duplicate_all.ensures ∙ c.as_slice-own.ensures) c.in_ok-append.ensures.ok c.loop-place.invariant

pub returns : goal.returns
returns c = changes_none c.args.kept.now c.loop-place.place c.loop-place.all (omega (arith, c.len-place-end.ensures)) c.loop-place.invariant
