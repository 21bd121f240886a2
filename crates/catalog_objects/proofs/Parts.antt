-- The parts of programs, as they are seen.
use Rattle.std.proofs.Common.{◌≡◌, rules, ap}
use Rattle.sql_tree.specs.Statement.{program, trigger}
use Rattle.sql_tree.specs.StatementView.{view, view_program, view_trigger}
use Rattle.sql_tree.specs.declared.statements.Stmt.{the_lemmas}
use Rattle.sql_tree.specs.declared.statements.Routine.{Routine}
use Rattle.sql_tree.specs.declared.statements.TriggerDef.{TriggerDef}
use Rattle.catalog_rules.specs.Objects.{name_of, trigger_name}

pub program_seen : (r : Routine) → view_program r ≡ program r.name r.parameters r.returns (view r.body)
program_seen r = search (rules, the_lemmas)

pub trigger_seen : (t : TriggerDef) → view_trigger t ≡ trigger t.name t.time t.event t.table (view t.body)
trigger_seen t = search (rules, the_lemmas)

pub program_named : (r : Routine) → name_of (view_program r) ≡ r.name
program_named r = ap name_of (program_seen r)

pub trigger_named : (t : TriggerDef) → trigger_name (view_trigger t) ≡ t.name
trigger_named t = ap trigger_name (trigger_seen t)
