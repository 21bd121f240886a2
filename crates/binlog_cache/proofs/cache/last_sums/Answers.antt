use Rattle.binlog_cache.proofs.Summing.{changes_at_last, log_at_last}
use Rattle.binlog_cache.proofs.cache.last_sums.Goals as goal

pub returns-in-len1-up-clause-log : goal.returns-in-len1-up-clause-log
returns-in-len1-up-clause-log c = log_at_last c.args.kept.now c.as_slice.result.now c.last-item.result c.as_slice.ensures c.requires c.in-len1-up.len_at_least c.last-item.is

pub returns-in-len1-up-clause-changes : goal.returns-in-len1-up-clause-changes
returns-in-len1-up-clause-changes c = changes_at_last c.args.kept.now c.as_slice.result.now c.last-item.result c.as_slice.ensures c.requires c.in-len1-up.len_at_least c.last-item.is
