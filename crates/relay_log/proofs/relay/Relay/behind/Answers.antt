use Rattle.std.proofs.Common.{◌^◌, arith}
use Rattle.log_groups.specs.Views.{group_seen}
use Rattle.relay_log.proofs.Keeping.{ahead_on, sum_low}
use Rattle.relay_log.proofs.relay.Relay.behind.Goals as goal

pub behind-requires-clause-passed : goal.behind-requires-clause-passed
behind-requires-clause-passed c = sum_low c.args.self.now c.args.ahead.now (group_seen c.args.group.now) (2 ^ 64) c.requires.ahead c.requires.stands (omega arith)

pub returns-clause-ahead : goal.returns-clause-ahead
returns-clause-ahead c =
    ahead_on c.args.self.now c.args.ahead.now c.behind.result (group_seen c.args.group.now) c.requires.ahead c.requires.stands c.behind.ensures.place c.behind.ensures.passed
