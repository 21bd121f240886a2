use Rattle.std.proofs.Common.{[]}
use Rattle.sql_tree.specs.View.{view_trees}
use Rattle.stored_programs.specs.sql_evaluation.Seen.{values_in}
use Rattle.prog_run.proofs.Undone.{undone_gives}
use Rattle.prog_run.proofs.undoing.undo_unknown.Goals as goal

pub returns-clause-gives : goal.returns-clause-gives
returns-clause-gives c =
    undone_gives c.args.stage.now c.evaluated-done.new.stage c.take_back_at_error.new.stage (values_in c.args.around.now [] (view_trees c.args.expressions.now))
    c.evaluated-done.result c.evaluated-done.ensures.gives c.take_back_at_error.ensures.stays
    (c.take_back_at_error.ensures.back c.args.stage.now c.evaluated-done.ensures.leads c.mark-mark.ensures)
