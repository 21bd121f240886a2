use Rattle.session_replays.proofs.Stepping.{replays_begin, replays_open, replays_go_on}
use Rattle.session_replays.proofs.Closing.{closing_says}
use Rattle.session_replays.proofs.laws.transactions_replay.Goals as goal

pub returns-clause-begins : goal.returns-clause-begins
returns-clause-begins c = replays_begin c.runs_hold.ensures.begins

pub returns-clause-opens : goal.returns-clause-opens
returns-clause-opens c = replays_open c.runs_hold.ensures.opens

pub returns-clause-goes_on : goal.returns-clause-goes_on
returns-clause-goes_on c =
    replays_go_on c.statements_end_well.ensures.statements c.statements_end_well.ensures.evaluations c.closed_does_the_same.ensures.statements
    (record { well = c.answers_are_well.ensures; prints = c.prints_are_read.ensures; answers = c.texts_are_answered.ensures })
    (record {
      fits = c.fitted_values_are_short.ensures;
      allowed = c.closed_is_allowed.ensures;
      parts = record { steps = c.parts_are_well.ensures.steps; dos = c.parts_are_well.ensures.dos };
      says = closing_says c.closed_is_read.ensures c.texts_are_answered.ensures;
    })
    (record { statements = c.turns_never_rise.ensures.statements; evaluations = c.turns_never_rise.ensures.evaluations }) c.runs_hold.ensures.goes_on
