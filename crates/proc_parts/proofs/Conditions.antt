-- Conditions and DEFAULTs.
use Rattle.std.proofs.Common.{◌≡◌, ◌≤◌, ℕ, Bool, List, None, Result, Ok, Err, refl, sym, ap, ◌∙◌}
use Rattle.val_types.specs.declared.value.Value.{Value}
use Rattle.val_types.specs.declared.value.Value.TheVariants.{Null}
use Rattle.sql_tree.specs.Tree.{Tree, part, no_part}
use Rattle.sql_tree.specs.Statement.{Statement}
use Rattle.sql_locals.specs.declared.locals.Local.{Local}
use Rattle.name_const.specs.sql_meaning.Within.{do_one}
use Rattle.value_rules.specs.Operators.{truth_of, with_value}
use Rattle.value_rules.specs.Functions.{is_known_true}
use Rattle.name_const.specs.proc_model.Talk.{Rules, Led}
use Rattle.name_const.specs.proc_model.Procedures.{Held, done, Action, ◌>>=◌, answered, value_of}
use Rattle.proc_parts.specs.declared.runner.RunRefusal.{RunRefusal}
use Rattle.proc_parts.specs.declared.runner.RunRefusal.TheVariants.{Sql}
use Rattle.proc_parts.specs.declared.world.World.{World}
use Rattle.proc_parts.specs.Calls.{EndsBy, plainly, world_of}
use Rattle.proc_parts.specs.Parts.{values_at, value_at, holds_at, preset_at}
use Rattle.proc_parts.proofs.Behind.{Onto, onto_ends, onto_done, failed_ends}

-- ---- conditions

module _ {S : Type 0} (rules : Rules S) (faults : S → ℕ) (w : World) where
  truth_behind : Value → Action Bool
  truth_behind v = answered (with_value is_known_true (truth_of v))

  holds_is : (locals : List Local) (q : Statement) (held : Held) → holds_at w locals q held ≡ (value_at w locals q >>= truth_behind) held
  unfolding holds_at truth_behind
  holds_is locals q held = refl

  pub holds_untold : {A B : Type 0} (view' : A → Value) (other : B → Bool) (locals : List Local) (q : Statement) (e : RunRefusal) (held held' : Held) (before after : S)
      → EndsBy rules faults view' (Err e) held' before (value_at w locals q held) after → EndsBy rules faults other (Err e) held' before (holds_at w locals q held) after
  holds_untold view' other locals q e held held' before after h =
      rw (holds_is locals q held) (failed_ends rules faults (value_at w locals q) truth_behind view' other e held held' before after h)

  holds_behind : (locals : List Local) (q : Statement) (v : Value) (held held' : Held) (before after : S)
      → Led rules (value_at w locals q held) before (done v held') after → faults before ≤ faults after
      → Onto rules faults (answered (with_value is_known_true (truth_of v)) held') after (holds_at w locals q held) before
  unfolding truth_behind
  holds_behind locals q v held held' before after h later =
      rw (holds_is locals q held) (onto_done rules faults (value_at w locals q) truth_behind v held held' before after later h)

  pub holds_told : (locals : List Local) (q : Statement) (v : Value) (goes : Bool) (held held' : Held) (before after : S)
      → EndsBy rules faults plainly (Ok v) held' before (value_at w locals q held) after → Ok goes ≡ with_value is_known_true (truth_of v) → faults before ≤ faults after
      → EndsBy rules faults plainly (Ok goes) held' before (holds_at w locals q held) after
  holds_told locals q v goes held held' before after h is later =
      onto_ends rules faults plainly (Ok goes) held' (answered (with_value is_known_true (truth_of v)) held') (holds_at w locals q held) after before after
      (holds_behind locals q v held held' before after h later) (rw (sym is) (refl, refl))

  pub holds_mixed : {B : Type 0} (other : B → Bool) (locals : List Local) (q : Statement) (v : Value) (code : ℕ) (held held' : Held) (before after : S)
      → EndsBy rules faults plainly (Ok v) held' before (value_at w locals q held) after → Err code ≡ with_value is_known_true (truth_of v) → faults before ≤ faults after
      → EndsBy rules faults other (Err (Sql code None)) held' before (holds_at w locals q held) after
  holds_mixed other locals q v code held held' before after h is later =
      onto_ends rules faults other (Err (Sql code None)) held' (answered (with_value is_known_true (truth_of v)) held') (holds_at w locals q held) after before after
      (holds_behind locals q v held held' before after h later) (rw (sym is) (refl, refl))

  pub holds_asked : (locals : List Local) (t : Tree) (q : Statement) (r : Result Bool RunRefusal) (held held' : Held) (before after : S) → q ≡ do_one t
      → EndsBy rules faults plainly r held' before (holds_at w locals q held) after → EndsBy rules faults plainly r held' before (holds_at w locals (do_one t) held) after
  holds_asked locals t q r held held' before after is h = rw is at h

  -- a DO over one expression asks what the definitions ask
  value_is : (locals : List Local) (t : Tree) (held : Held) → value_of (world_of w) locals t held ≡ value_at w locals (do_one t) held
  unfolding value_at values_at
  value_is locals t held = refl

  -- ---- DEFAULT

  pub preset_none : (locals : List Local) (v : Value) (held : Held) (here : S) → v ≡ Null → EndsBy rules faults plainly (Ok v) held here (preset_at w locals no_part held) here
  unfolding preset_at
  preset_none locals v held here is = rw is (refl, refl)

  preset_is : (locals : List Local) (t : Tree) (q : Statement) (held : Held) → q ≡ do_one t → value_at w locals q held ≡ preset_at w locals (part t) held
  unfolding preset_at
  preset_is locals t q held is = ap (λ (s : Statement). value_at w locals s held) is ∙ sym (value_is locals t held)

  pub preset_some : (locals : List Local) (t : Tree) (q : Statement) (r : Result Value RunRefusal) (held held' : Held) (before after : S) → q ≡ do_one t
      → EndsBy rules faults plainly r held' before (value_at w locals q held) after → EndsBy rules faults plainly r held' before (preset_at w locals (part t) held) after
  preset_some locals t q r held held' before after is h = rw (preset_is locals t q held is) at h
