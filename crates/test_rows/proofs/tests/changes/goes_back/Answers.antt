use Rattle.std.proofs.Common.{[], arith}
use Rattle.std.proofs.Math.ListN.{drop_of_length-le}
use Rattle.val_types.specs.declared.change.Change.{Change}
use Rattle.table_rules.proofs.Leading.{none_taken_back, still_taken_back}
use Rattle.test_rows.proofs.tests.changes.goes_back.Goals as goal

pub loop-step-init : goal.loop-step-init
loop-step-init c =
    λ mark. rw c.requires (rw (drop_of_length-le {A = Change} [] {i = mark} (omega arith)) (none_taken_back _))

pub loop-step-preserved : goal.loop-step-preserved
loop-step-preserved c = λ mark. still_taken_back _ _ _ _ c.answers.ensures mark (c.loop-step.invariant mark)

pub take_back_to-requires : goal.take_back_to-requires
take_back_to-requires c = c.loop-step.invariant 3

pub take_back_to-requires-2 : goal.take_back_to-requires-2
take_back_to-requires-2 c = c.take_back_to.ensures.back 0 (c.loop-step.invariant 0)
