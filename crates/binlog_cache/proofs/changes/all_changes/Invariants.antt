use Rattle.std.proofs.Common.{◌≡◌, ◌++◌, drop}
use Rattle.binlog_cache.specs.Sums.{changes_in, items_of}
use Rattle.binlog_cache.proofs.changes.all_changes.Given as goal

abbrev pub invariant-loop-place : goal.invariant-loop-place
invariant-loop-place l = l.all ++ changes_in (items_of (drop l.place l.kept)) ≡ changes_in (items_of l.kept)
