-- A change, a SELECT or a DO.
use Rattle.std.proofs.Common.{◌≡◌, ◌≤◌, ℕ, List, Ok, Err, refl}
use Rattle.val_types.specs.declared.refusal.SqlRefusal.{SqlRefusal}
use Rattle.val_types.specs.declared.refusal.SqlRefusal.TheVariants as sql
use Rattle.sql_tree.specs.Statement.{Statement}
use Rattle.sql_locals.specs.declared.locals.Local.{Local}
use Rattle.name_const.specs.proc_model.Talk.{Rules}
use Rattle.sql_tree.specs.StatementView.{view}
use Rattle.sql_tree.specs.declared.statements.Stmt.{Stmt}
use Rattle.name_const.specs.sql_reach.Closing.{closed}
use Rattle.name_const.specs.Refusing.{Closes}
use Rattle.prog_run.specs.prog_work.declared.meter.Outcome.{Outcome}
use Rattle.name_const.specs.proc_model.Closing.{closing_refusal}
use Rattle.name_const.specs.proc_model.Procedures.{Held, Action, done, ◌>>=◌, pure, let_through, note, noted, run_closed}
use Rattle.proc_parts.specs.declared.runner.RunRefusal.{RunRefusal}
use Rattle.proc_parts.specs.declared.world.World.{World}
use Rattle.proc_parts.specs.Calls.{EndsBy, always, effect_of, plainly, widened}
use Rattle.proc_parts.specs.Parts.{plain_at}
use Rattle.proc_parts.proofs.Behind.{Onto, onto_done, onto_ends, failed_ends, passed_onto, stopped_ends}

module _ {S : Type 0} (rules : Rules S) (faults : S → ℕ) (w : World) (locals : List Local) (s : Statement) where
  behind_note : Unit {0} → Action (List Local)
  behind_note u = pure locals

  behind_closing : Unit {0} → Action (List Local)
  behind_closing u = run_closed w.nesting (closed s locals) >>= note >>= behind_note

  closing_first : (held : Held) → plain_at w locals s held ≡ (let_through (closing_refusal s locals) >>= behind_closing) held
  unfolding plain_at behind_closing behind_note
  closing_first held = refl

  pub plain_unclosed : {B : Type 0} (other : B → List Local) (e : SqlRefusal) (held : Held) (here : S)
      → Closes (Err e) s locals → EndsBy rules faults other (Err (widened e)) held here (plain_at w locals s held) here
  plain_unclosed other (sql.Sql code) held here h =
      rw (closing_first held) (stopped_ends rules faults (closing_refusal s locals) behind_closing other (sql.Sql code) held here h)
  plain_unclosed other sql.NoMemory held here h = tt

  closed_onto : (copy : Stmt) (held : Held) (here : S) → Closes (Ok copy) s locals
      → Onto rules faults ((run_closed w.nesting (view copy) >>= note >>= behind_note) held) here (plain_at w locals s held) here
  unfolding behind_closing
  closed_onto copy held here h =
      rw (closing_first held, h.1) (passed_onto rules faults (closing_refusal s locals) behind_closing tt held here h.0)

  pub plain_unrun : {B : Type 0} (other : B → List Local) (copy : Stmt) (e : RunRefusal) (held held' : Held) (before after : S) → Closes (Ok copy) s locals
      → EndsBy {A = Outcome} rules faults effect_of (Err e) held' before (run_closed w.nesting (view copy) held) after
      → EndsBy rules faults other (Err e) held' before (plain_at w locals s held) after
  plain_unrun other copy e held held' before after h k =
      onto_ends rules faults other (Err e) held' ((run_closed w.nesting (view copy) >>= note >>= behind_note) held) (plain_at w locals s held) before before after (closed_onto copy held before h)
      (failed_ends rules faults (run_closed w.nesting (view copy) >>= note) behind_note plainly other e held held' before after
      (failed_ends rules faults (run_closed w.nesting (view copy)) note effect_of plainly e held held' before after k))

  pub plain_done : (copy : Stmt) (o : Outcome) (u : Unit {0}) (held held' held'' : Held) (before after : S) → Closes (Ok copy) s locals
      → EndsBy rules faults effect_of (Ok o) held' before (run_closed w.nesting (view copy) held) after → faults before ≤ faults after → held'' ≡ noted (effect_of o) held'
      → EndsBy rules faults (always locals) (Ok u) held'' before (plain_at w locals s held) after
  unfolding behind_note
  plain_done copy o u held held' held'' before after h k later is =
      (closed_onto copy held before h).on (done locals held'') after
      ((onto_done rules faults (run_closed w.nesting (view copy) >>= note) behind_note tt held held'' before after later
      ((onto_done rules faults (run_closed w.nesting (view copy)) note (effect_of o) held held' before after later k).on (done tt held'') after (rw is (refl, refl)))).on (done locals held'') after (refl, refl))

pub ruleset performing = (plain_unclosed, plain_unrun, plain_done)
