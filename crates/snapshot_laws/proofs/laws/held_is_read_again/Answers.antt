use Rattle.snapshot_laws.proofs.Again.{is_snapshot}
use Rattle.snapshot_laws.proofs.laws.held_is_read_again.Goals as goal

pub returns : goal.returns
returns c kind generation held made tables places generation_fits number_fits few fits =
    c.bodies_are_read.ensures.snapshots kind generation held
    (is_snapshot c.changes_turn_back.ensures c.definitions_stay.ensures c.statement_is_that_of_making.ensures c.creations_are_read.ensures c.tables_have_names.ensures kind generation held made tables places generation_fits number_fits few fits)
