use Rattle.std.proofs.Common.{ap, ◌∙◌}
use Rattle.table_rules.specs.Stores.{Store}
use Rattle.test_changes.proofs.Beside.{beside}
use Rattle.test_changes.proofs.change_beside.Goals as goal

pub put_back-requires : goal.put_back-requires
put_back-requires c = (beside c.in_ok-aside.aside c.args.tables.now c.set_aside.new.self c.change_often.new.tables c.in_ok-aside.ensures.aside c.in_ok-aside.ensures.ok c.change_often.ensures.still).0

pub returns-clause-tables : goal.returns-clause-tables
returns-clause-tables c =
    ap (λ (s : Store). s.tables) (c.put_back.ensures ∙ (beside c.in_ok-aside.aside c.args.tables.now c.set_aside.new.self c.change_often.new.tables c.in_ok-aside.ensures.aside c.in_ok-aside.ensures.ok c.change_often.ensures.still).1)

pub returns-clause-kept : goal.returns-clause-kept
returns-clause-kept c =
    ap (λ (s : Store). s.kept) (c.put_back.ensures ∙ (beside c.in_ok-aside.aside c.args.tables.now c.set_aside.new.self c.change_often.new.tables c.in_ok-aside.ensures.aside c.in_ok-aside.ensures.ok c.change_often.ensures.still).1)

pub returns-clause-committed : goal.returns-clause-committed
returns-clause-committed c =
    ap (λ (s : Store). s.committed) (c.put_back.ensures ∙ (beside c.in_ok-aside.aside c.args.tables.now c.set_aside.new.self c.change_often.new.tables c.in_ok-aside.ensures.aside c.in_ok-aside.ensures.ok c.change_often.ensures.still).1)
