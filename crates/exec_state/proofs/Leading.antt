-- From one state to the next.
use Rattle.std.proofs.Common.{◌≡◌, ◌≤◌, ℕ, List, refl, sym, ap, ◌∙◌, subst, arith}
use Rattle.val_types.specs.declared.change.Change.{Change}
use Rattle.auto_inc.specs.declared.counters.Counter.{Counter}
use Rattle.auto_inc.specs.Counting.{value_for, tables_of}
use Rattle.std.specs.Prelude.{unwrap_or}
use Rattle.table_rules.specs.Leads.{Leads}
use Rattle.table_rules.specs.Stores.{Store}
use Rattle.table_rules.proofs.Leading.{leads_nowhere, leads_on}
use Rattle.exec_state.specs.declared.stage.Stage.{Stage}
use Rattle.exec_state.specs.Stage.{LeadsOn, NoneLower}

as_low : (n : ℕ) → n ≤ n
as_low n = omega arith

through : (a b c : ℕ) → a ≤ b → b ≤ c → a ≤ c
through a b c p q = omega arith

pub stage_stays : (s : Stage) → LeadsOn s s
unfolding LeadsOn
stage_stays s = record {
  rows = leads_nowhere s.tables s.undo;
  counters = λ table. as_low (unwrap_or (value_for table s.counters) 0);
  named = refl;
  turns = as_low s.turns;
}

pub stage_on : (a b c : Stage) → LeadsOn a b → LeadsOn b c → LeadsOn a c
unfolding LeadsOn
stage_on a b c p q = record {
  rows = leads_on a.tables b.tables c.tables a.undo b.undo c.undo p.rows q.rows;
  counters = λ table. through (unwrap_or (value_for table a.counters) 0) (unwrap_or (value_for table b.counters) 0) (unwrap_or (value_for table c.counters) 0) (p.counters table) (q.counters table);
  named = q.named ∙ p.named;
  turns = through c.turns b.turns a.turns q.turns p.turns;
}

pub ruleset leading = (stage_stays, stage_on)

-- the same tables, changes, counters and turns
pub stage_moves : (a b : Stage) → b.tables ≡ a.tables → b.undo ≡ a.undo → b.counters ≡ a.counters → b.turns ≡ a.turns → LeadsOn a b
unfolding LeadsOn
stage_moves a b tables undo counters turns = record {
  rows = subst (λ (s : Store). Leads a.tables a.undo s b.undo) (sym tables) (subst (λ (u : List Change). Leads a.tables a.undo a.tables u) (sym undo) (leads_nowhere a.tables a.undo));
  counters = λ table. subst (λ (cs : List Counter). unwrap_or (value_for table a.counters) 0 ≤ unwrap_or (value_for table cs) 0) (sym counters) (as_low (unwrap_or (value_for table a.counters) 0));
  named = ap tables_of counters;
  turns = subst (λ (n : ℕ). n ≤ a.turns) (sym turns) (as_low a.turns);
}

-- rows stored and noted
pub stage_stores : (a b : Stage) → Leads a.tables a.undo b.tables b.undo → b.counters ≡ a.counters → b.turns ≡ a.turns → LeadsOn a b
unfolding LeadsOn
stage_stores a b rows counters turns = record {
  rows = rows;
  counters = λ table. subst (λ (cs : List Counter). unwrap_or (value_for table a.counters) 0 ≤ unwrap_or (value_for table cs) 0) (sym counters) (as_low (unwrap_or (value_for table a.counters) 0));
  named = ap tables_of counters;
  turns = subst (λ (n : ℕ). n ≤ a.turns) (sym turns) (as_low a.turns);
}

-- counters raised
pub stage_raises : (a b : Stage) → b.tables ≡ a.tables → b.undo ≡ a.undo → NoneLower a.counters b.counters → tables_of b.counters ≡ tables_of a.counters → b.turns ≡ a.turns → LeadsOn a b
unfolding LeadsOn
stage_raises a b tables undo counters named turns = record {
  rows = subst (λ (s : Store). Leads a.tables a.undo s b.undo) (sym tables) (subst (λ (u : List Change). Leads a.tables a.undo a.tables u) (sym undo) (leads_nowhere a.tables a.undo));
  counters = counters;
  named = named;
  turns = subst (λ (n : ℕ). n ≤ a.turns) (sym turns) (as_low a.turns);
}

-- what is led on, part by part
pub rows_led : (a b : Stage) → LeadsOn a b → Leads a.tables a.undo b.tables b.undo
unfolding LeadsOn
rows_led a b p = p.rows

pub counters_led : (a b : Stage) → LeadsOn a b → NoneLower a.counters b.counters
unfolding LeadsOn
counters_led a b p = p.counters

pub names_led : (a b : Stage) → LeadsOn a b → tables_of b.counters ≡ tables_of a.counters
unfolding LeadsOn
names_led a b p = p.named

pub turns_led : (a b : Stage) → LeadsOn a b → b.turns ≤ a.turns
unfolding LeadsOn
turns_led a b p = p.turns
