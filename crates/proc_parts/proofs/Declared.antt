-- DECLARE.
use Rattle.std.proofs.Common.{◌≡◌, ◌≤◌, ◌<◌, ◌+◌, ℕ, List, length, get_or, drop, Ok, Err, refl, ap}
use Rattle.std.proofs.lemmas.List.{drop_all}
use Rattle.val_types.specs.declared.value.Value.{Value}
use Rattle.val_types.specs.declared.refusal.SqlRefusal.{SqlRefusal}
use Rattle.sql_tree.specs.Statement.{Declared}
use Rattle.sql_tree.specs.StatementView.{view_declaration, view_declarations}
use Rattle.sql_tree.specs.declared.statements.Declaration.{Declaration}
use Rattle.sql_locals.specs.declared.locals.Local.{Local}
use Rattle.prog_run.proofs.of_sql_evaluation.Branching.{rest_is}
use Rattle.name_const.specs.proc_model.Talk.{Rules, Led, Talk}
use Rattle.name_const.specs.proc_model.Procedures.{Held, Ending, done, ◌>>=◌, answered, all_tried, add_local, preset_value, declare, carried_on}
use Rattle.proc_parts.specs.declared.runner.RunRefusal.{RunRefusal}
use Rattle.proc_parts.specs.declared.world.World.{World}
use Rattle.proc_parts.specs.Calls.{EndsBy, Tries, always, plainly, widened, world_of}
use Rattle.proc_parts.specs.Parts.{preset_at, declared_at, all_declared_at}
use Rattle.proc_parts.proofs.Behind.{Onto, onto_start, onto_on, onto_ends, onto_done, failed_ends, tried_ends, untried_alone}

module _ {S : Type 0} (rules : Rules S) (faults : S → ℕ) (w : World) where
  pub declare_unset : {A B : Type 0} (view' : A → Value) (other : B → List Local) (locals : List Local) (d : Declared) (e : RunRefusal) (held held' : Held) (before after : S)
      → EndsBy rules faults view' (Err e) held' before (preset_at w locals d.preset held) after → EndsBy rules faults other (Err e) held' before (declared_at w locals d held) after
  unfolding preset_at declared_at
  declare_unset view' other locals d e held held' before after h =
      failed_ends rules faults (preset_value (world_of w) locals d.preset) (λ v. answered (all_tried (add_local d.kind v) locals d.names)) view' other e held held' before after h

  declare_behind : (locals : List Local) (d : Declared) (v : Value) (held held' : Held) (before after : S)
      → Led rules (preset_at w locals d.preset held) before (done v held') after → faults before ≤ faults after
      → Onto rules faults (answered (all_tried (add_local d.kind v) locals d.names) held') after (declared_at w locals d held) before
  unfolding preset_at declared_at
  declare_behind locals d v held held' before after h later =
      onto_done rules faults (preset_value (world_of w) locals d.preset) (λ v. answered (all_tried (add_local d.kind v) locals d.names)) v held held' before after later h

  pub declare_done : (locals locals' : List Local) (d : Declared) (v : Value) (u : Unit {0}) (held held' : Held) (before after : S)
      → EndsBy rules faults plainly (Ok v) held' before (preset_at w locals d.preset held) after → Tries (always locals') (Ok u) (all_tried (add_local d.kind v) locals d.names) → faults before ≤ faults after
      → EndsBy rules faults (always locals') (Ok u) held' before (declared_at w locals d held) after
  declare_done locals locals' d v u held held' before after h fits later =
      onto_ends rules faults (always locals') (Ok u) held' (answered (all_tried (add_local d.kind v) locals d.names) held') (declared_at w locals d held) after before after
      (declare_behind locals d v held held' before after h later) (tried_ends rules faults _ (always locals') u held' after fits)

  pub declare_unfit : {B : Type 0} (other : B → List Local) (locals locals' : List Local) (d : Declared) (v : Value) (e : SqlRefusal) (held held' : Held) (before after : S)
      → EndsBy rules faults plainly (Ok v) held' before (preset_at w locals d.preset held) after → Tries {A = Unit {0}} (always locals') (Err e) (all_tried (add_local d.kind v) locals d.names) → faults before ≤ faults after
      → EndsBy rules faults other (Err (widened e)) held' before (declared_at w locals d held) after
  declare_unfit other locals locals' d v e held held' before after h unfit later =
      onto_ends rules faults other (Err (widened e)) held' (answered (all_tried (add_local d.kind v) locals d.names) held') (declared_at w locals d held) after before after
      (declare_behind locals d v held held' before after h later) (untried_alone rules faults _ (always locals') other e held' after unfit)

  -- DECLAREs, one after the other
  declares_next : (locals : List Local) (xs : List Declaration) (i : ℕ) (x : Declaration) (held : Held) → i < length xs → x ≡ get_or xs i x
      → all_declared_at w locals (view_declarations (drop i xs)) held ≡ (declared_at w locals (view_declaration x) >>= λ next. all_declared_at w next (view_declarations (drop (i + 1) xs))) held
  unfolding all_declared_at declared_at
  declares_next locals xs i x held within is = ap (λ (ys : List Declaration). carried_on (declare (world_of w)) locals (view_declarations ys) held) (rest_is xs i x within is)

  pub declares_more : (locals locals' : List Local) (xs : List Declaration) (i : ℕ) (x : Declaration) (u : Unit {0}) (held held' : Held) (start before after : S) (whole : Talk (Ending (List Local)))
      → i < length xs → x ≡ get_or xs i x → EndsBy rules faults (always locals') (Ok u) held' before (declared_at w locals (view_declaration x) held) after → faults before ≤ faults after
      → Onto rules faults (all_declared_at w locals (view_declarations (drop i xs)) held) before whole start
      → Onto rules faults (all_declared_at w locals' (view_declarations (drop (i + 1) xs)) held') after whole start
  declares_more locals locals' xs i x u held held' start before after whole within is h later so_far =
      onto_on rules faults _ (all_declared_at w locals (view_declarations (drop i xs)) held) whole after before start
      (rw (declares_next locals xs i x held within is) (onto_done rules faults (declared_at w locals (view_declaration x)) (λ next. all_declared_at w next (view_declarations (drop (i + 1) xs))) locals' held held' before after later h)) so_far

  pub declares_fail : {B : Type 0} (locals locals' : List Local) (other : B → List Local) (xs : List Declaration) (i : ℕ) (x : Declaration) (e : RunRefusal) (held held' : Held) (start before after : S) (whole : Talk (Ending (List Local)))
      → i < length xs → x ≡ get_or xs i x → EndsBy {A = Unit {0}} rules faults (always locals') (Err e) held' before (declared_at w locals (view_declaration x) held) after
      → Onto rules faults (all_declared_at w locals (view_declarations (drop i xs)) held) before whole start
      → EndsBy rules faults other (Err e) held' start whole after
  declares_fail locals locals' other xs i x e held held' start before after whole within is h so_far =
      onto_ends rules faults other (Err e) held' (all_declared_at w locals (view_declarations (drop i xs)) held) whole before start after so_far
      (rw (declares_next locals xs i x held within is) (failed_ends rules faults (declared_at w locals (view_declaration x)) (λ next. all_declared_at w next (view_declarations (drop (i + 1) xs))) (always locals') other e held held' before after h))

  pub declares_end : (locals : List Local) (xs : List Declaration) (i : ℕ) (u : Unit {0}) (held : Held) (start here : S) (whole : Talk (Ending (List Local))) → length xs ≤ i
      → Onto rules faults (all_declared_at w locals (view_declarations (drop i xs)) held) here whole start → EndsBy rules faults (always locals) (Ok u) held start whole here
  unfolding all_declared_at
  declares_end locals xs i u held start here whole past so_far =
      so_far.on (done locals held) here (rw (drop_all i xs past) (refl, refl))

  pub declares_start : (locals : List Local) (xs : List Declaration) (held : Held) (here : S)
      → Onto rules faults (all_declared_at w locals (view_declarations xs) held) here (all_declared_at w locals (view_declarations xs) held) here
  declares_start locals xs held here = onto_start rules faults _ here
