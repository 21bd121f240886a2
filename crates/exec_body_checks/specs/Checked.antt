-- Where a body stands, in what is round its steps.
use Rattle.sql_evaluation.specs.sql_meaning.Running.{Body}
use Rattle.sql_evaluation.specs.declared.world.Around.{Around}
use Rattle.sql_evaluation.specs.Seen.{view_if}

-- the locals of a body, and in a trigger NEW and OLD
abbrev pub body_in : Around → Body
body_in a = record { locals = a.locals.now; new_row = view_if a.new_row; old_row = view_if a.old_row }
