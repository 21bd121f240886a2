use Rattle.std.proofs.Common.{◌<◌, ◌^◌, length, ap, arith}
use Rattle.test_sheets.proofs.found_by_values_in_thousand.Goals as goal

pub returns-clause-cost : goal.returns-clause-cost
returns-clause-cost g c =
    let none : length c.args.sheet.now.entries < 2 ^ 0 = omega (arith, ap length c.requires.entries) in
    let few : length c.args.sheet.now.committed < 2 ^ 10 = omega (arith, c.requires.rows) in
    omega (arith, c.find_on_key.ensures.cost 0 10 none few, c.find_on_key.ensures.more)
