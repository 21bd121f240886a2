-- Changes taken back to where some stage stood.
use Rattle.std.proofs.Common.{◌≡◌, ℕ, List, length, sym, ap, subst, ◌∙◌, ◌≤◌, arith}
use Rattle.std.specs.Prelude.{unwrap_or}
use Rattle.val_types.specs.declared.change.Change.{Change}
use Rattle.auto_inc.specs.declared.counters.Counter.{Counter}
use Rattle.auto_inc.specs.Counting.{value_for, tables_of}
use Rattle.table_rules.specs.Stores.{Store}
use Rattle.table_rules.specs.Leads.{Leads}
use Rattle.exec_state.specs.declared.stage.Stage.{Stage}
use Rattle.exec_state.specs.Stage.{LeadsOn}
use Rattle.exec_state.proofs.Leading.{rows_led, counters_led, names_led, turns_led}
use Rattle.stage_undo.specs.Back.{StandsBack}

-- a stage with the rows and changes of an earlier one leads on from that
pub led_back : (start now back : Stage) → LeadsOn start now → Leads start.tables start.undo back.tables back.undo
    → back.counters ≡ now.counters → back.turns ≡ now.turns → LeadsOn start back
unfolding LeadsOn
led_back start now back p rows counters turns = record {
  rows = rows;
  counters = λ table. subst (λ (cs : List Counter). unwrap_or (value_for table start.counters) 0 ≤ unwrap_or (value_for table cs) 0) (sym counters) (counters_led start now p table);
  named = ap tables_of counters ∙ names_led start now p;
  turns = subst (λ (n : ℕ). n ≤ start.turns) (sym turns) (turns_led start now p);
}

-- changes taken back to where some stage stood
pub taken_back_to : (start old new : Stage) (mark : ℕ) → LeadsOn start old → mark ≡ length start.undo
    → ((s : Store) (noted : List Change) → Leads s noted old.tables old.undo → mark ≡ length noted → (new.tables.tables ≡ s.tables) × (new.undo ≡ noted))
    → new.counters ≡ old.counters → new.seeds ≡ old.seeds → new.turns ≡ old.turns → new.uuids ≡ old.uuids → StandsBack start old new
taken_back_to start old new mark p e home counters seeds turns uuids =
    let h = home start.tables start.undo (rows_led start old p) e in
    record { tables = h.0; undo = h.1; counters = counters; seeds = seeds; turns = turns; uuids = uuids }

pub leads_back_to : (start old new : Stage) (mark : ℕ) → LeadsOn start old → mark ≡ length start.undo
    → ((s : Store) (noted : List Change) → Leads s noted old.tables old.undo → length noted ≤ mark → Leads s noted new.tables new.undo)
    → new.counters ≡ old.counters → new.turns ≡ old.turns → LeadsOn start new
leads_back_to start old new mark p e leads counters turns =
    led_back start old new p (leads start.tables start.undo (rows_led start old p) (omega (arith, e))) counters turns

pub ruleset taking_back = (taken_back_to, leads_back_to)
