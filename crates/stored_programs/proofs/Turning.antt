-- A turn of WHILE is spent.
use Rattle.std.proofs.Common.{◌≡◌, ◌≤◌, ◌-◌, ◌<◌, ℕ, List, zero, suc, sym, ap, subst, arith}
use Rattle.std.specs.Prelude.{unwrap_or}
use Rattle.val_types.specs.declared.change.Change.{Change}
use Rattle.auto_inc.specs.declared.counters.Counter.{Counter}
use Rattle.auto_inc.specs.Counting.{value_for, tables_of}
use Rattle.table_rules.specs.Leads.{Leads}
use Rattle.table_rules.specs.Stores.{Store}
use Rattle.table_rules.proofs.Leading.{leads_nowhere}
use Rattle.sql_statements.specs.sql_meaning.Scenes.{Scene, done, failed, spend_turn, turn_spent}
use Rattle.exec_state.specs.declared.stage.Stage.{Stage}
use Rattle.exec_state.specs.Stage.{LeadsOn}

as_low : (n : ℕ) → n ≤ n
as_low n = omega arith

-- fewer turns
pub stage_spends : (a b : Stage) → b.tables ≡ a.tables → b.undo ≡ a.undo → b.counters ≡ a.counters → b.turns ≤ a.turns → LeadsOn a b
unfolding LeadsOn
stage_spends a b tables undo counters turns = record {
  rows = subst (λ (s : Store). Leads a.tables a.undo s b.undo) (sym tables) (subst (λ (u : List Change). Leads a.tables a.undo a.tables u) (sym undo) (leads_nowhere a.tables a.undo));
  counters = λ table. subst (λ (cs : List Counter). unwrap_or (value_for table a.counters) 0 ≤ unwrap_or (value_for table cs) 0) (sym counters) (as_low (unwrap_or (value_for table a.counters) 0));
  named = ap tables_of counters;
  turns = turns;
}

pub none_left : (scene : Scene) → scene.turns ≡ 0 → spend_turn scene ≡ failed 30004 scene
none_left scene none = ap (λ (n : ℕ). turn_spent n scene) none

spent_from : (n m : ℕ) (scene : Scene) → 0 < n → m ≡ n - 1 → turn_spent n scene ≡ done tt (record scene { turns = m })
spent_from zero m scene some is = absurd (omega arith)
spent_from (suc n) m scene some is = let same : n ≡ m = omega (arith, is) in ap (λ (k : ℕ). done tt (record scene { turns = k })) same

pub one_spent : (scene : Scene) (m : ℕ) → 0 < scene.turns → m ≡ scene.turns - 1 → spend_turn scene ≡ done tt (record scene { turns = m })
one_spent scene m some is = spent_from scene.turns m scene some is

pub ruleset spending = (stage_spends, none_left, one_spent)
