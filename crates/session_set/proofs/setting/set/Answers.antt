use Rattle.std.proofs.Common.{ap}
use Rattle.sql_tree.specs.StatementView.{view_assignments}
use Rattle.sql_tree.specs.View.{view_trees}
use Rattle.answer_making.specs.session_model.Commands.{set_turn}
use Rattle.session_set.specs.Assigning.{set_parts}
use Rattle.session_statement.specs.Calls.{called}
use Rattle.session_statement.specs.session_shared.Desk.{shared_of}
use Rattle.session_set.proofs.SetParts.{set_taken_apart}
use Rattle.session_statement.proofs.Turns.{turn_if}
use Rattle.session_set.proofs.setting.set.Goals as goal

pub returns : goal.returns
returns c =
    turn_if c.set_taken.result c.args.desk.now c.set_taken.new.desk c.set_taken.new.session
    (set_parts (called c.args.command.now) c.args.refusal c.in_ok-targets.targets (view_trees c.in_ok-targets.expressions) (shared_of c.args.desk.now) c.args.session.now)
    (set_turn (called c.args.command.now) (view_assignments c.args.assignments) (shared_of c.args.desk.now) c.args.session.now)
    (set_taken_apart (called c.args.command.now) c.args.assignments c.args.refusal c.in_ok-targets.targets (view_trees c.in_ok-targets.expressions) (shared_of c.args.desk.now) c.args.session.now
    c.requires c.in_ok-targets.ensures.targets (ap view_trees c.in_ok-targets.ensures.values))
    c.set_taken.ensures
