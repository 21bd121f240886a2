use Rattle.std.proofs.Common.{[]}
use Rattle.sql_tree.specs.StatementView.{view}
use Rattle.statement_names.specs.sql_meaning.Running.{perform}
use Rattle.stored_programs.specs.sql_evaluation.Seen.{frame_of, world_of}
use Rattle.stored_programs.specs.sql_statements.Did.{did_of}
use Rattle.prog_run.proofs.Undone.{undone_ends}
use Rattle.prog_run.proofs.undoing.undo_failed.Goals as goal

pub returns-clause-gives : goal.returns-clause-gives
returns-clause-gives c =
    undone_ends did_of c.args.stage.now c.performed-done.new.stage c.take_back_at_error.new.stage
    (perform (world_of c.args.around.now) (frame_of c.args.around.now []) c.args.forced (view c.args.statement.now))
    c.performed-done.result c.performed-done.ensures.gives c.take_back_at_error.ensures.stays
    (c.take_back_at_error.ensures.back c.args.stage.now c.performed-done.ensures.leads c.mark-mark.ensures)
