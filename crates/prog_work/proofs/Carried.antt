-- What holds of all stays where rows are changed as they are, and where all of them are taken back.
use Rattle.std.proofs.Common.{◌≡◌, true, List, drop, take, Option, Some, refl, sym, ap, ◌∙◌}
use Rattle.std.specs.Prelude.{unwrap_or}
use Rattle.std.specs.Option.{option_and_then}
use Rattle.val_types.specs.declared.change.Change.{Change}
use Rattle.auto_inc.specs.declared.counters.Counter.{Counter}
use Rattle.auto_inc.specs.Counting.{tables_of}
use Rattle.table_rules.specs.Tables.{Table}
use Rattle.table_rules.specs.Stored.{all_applied, all_inverse}
use Rattle.table_rules.specs.Stores.{Store, Still, can_take_back}
use Rattle.table_rules.specs.Leads.{Leads}
use Rattle.table_rules.proofs.Equations.{all_applied_behind}
use Rattle.table_rules.proofs.Storing.{some_same}
use Rattle.table_rules.proofs.Leading.{all_inverse_both, still_taken_back, none_taken_back}
use Rattle.catalog.specs.catalog_objects.declared.object.Object.{Object}
use Rattle.prog_work.specs.Contents.{without_changes}
use Rattle.prog_work.specs.Carrying.{ChangesRows}
use Rattle.prog_work.specs.Together.{AreTogether}
use Rattle.prog_work.proofs.Holding.{all_definitions, can_be, value_is, none_apart}

-- ---- rows changed

-- what is noted since leads back to where the older changes can be taken back from
back_further : (old new : Store) (changes now : List Change) → Leads old changes new now
    → all_applied (all_inverse now) new.tables ≡ all_applied (all_inverse changes) old.tables
back_further old new changes now p =
    ap (λ (cs : List Change). all_applied (all_inverse cs) new.tables) p.added
    ∙ ap (λ (cs : List Change). all_applied cs new.tables) (all_inverse_both changes p.more)
    ∙ all_applied_behind (all_inverse p.more) (all_inverse changes) new.tables
    ∙ ap (option_and_then (all_applied (all_inverse changes))) p.back

pub together_led : (objects : List Object) (old new : Store) (changes now : List Change) (counters : List Counter)
    → AreTogether objects old changes counters → Leads old changes new now → AreTogether objects new now counters
together_led objects old new changes now counters h p = record {
  reversible = still_taken_back old new changes now p 0 h.reversible;
  apart = back_further old new changes now p ∙ h.apart ∙ ap (λ (ts : List Table). Some ts) (sym p.still.committed);
  theirs = p.same ∙ h.theirs;
  counted = h.counted;
}

still_as_committed : (old new : Store) (changes now : List Change) → can_take_back old changes ≡ true → Leads old changes new now
    → without_changes now new.tables ≡ without_changes changes old.tables
still_as_committed old new changes now can p =
    value_is (all_applied (all_inverse changes) old.tables) (all_applied (all_inverse now) new.tables) old.tables new.tables
    (sym (back_further old new changes now p)) (can_be old changes can)

pub rows_changed : (objects : List Object) (old new : Store) (changes now : List Change) (counters : List Counter)
    → AreTogether objects old changes counters → Leads old changes new now
    → ChangesRows (record { objects = objects; tables = old.tables; changes = changes; counters = counters })
    (record { objects = objects; tables = new.tables; changes = now; counters = counters })
rows_changed objects old new changes now counters h p = record {
  objects = refl;
  counters = refl;
  definitions = p.same;
  committed = still_as_committed old new changes now h.reversible p;
}

-- ---- counters

pub together_counted : (objects : List Object) (store : Store) (changes : List Change) (counters after : List Counter)
    → AreTogether objects store changes counters → tables_of after ≡ tables_of counters → AreTogether objects store changes after
together_counted objects store changes counters after h same = record {
  reversible = h.reversible;
  apart = h.apart;
  theirs = h.theirs;
  counted = same ∙ h.counted;
}

-- ---- all taken back

its_value : {A : Type 0} (o : Option A) (a d : A) → o ≡ Some a → a ≡ unwrap_or o d
its_value o a d e = sym (ap (λ (p : Option _). unwrap_or p d) e)

pub all_taken_back : (store : Store) (changes : List Change) (tables : List Table) → all_applied (all_inverse (drop 0 changes)) store.tables ≡ Some tables
    → tables ≡ without_changes changes store.tables
all_taken_back store changes tables gone = its_value (all_applied (all_inverse changes) store.tables) tables store.tables gone

pub together_given_up : (objects : List Object) (old new : Store) (changes now : List Change) (counters after : List Counter)
    → AreTogether objects old changes counters → all_applied (all_inverse (drop 0 changes)) old.tables ≡ Some new.tables
    → now ≡ take 0 changes → Still old new → tables_of after ≡ tables_of counters → AreTogether objects new now after
together_given_up objects old new changes now counters after h gone none still same = record {
  reversible = ap (can_take_back new) none ∙ none_taken_back new;
  apart = ap (λ (cs : List Change). all_applied (all_inverse cs) new.tables) none
      ∙ none_apart new (still.committed ∙ some_same old.committed new.tables (sym h.apart ∙ gone));
  theirs = all_definitions (all_inverse changes) old.tables new.tables gone ∙ h.theirs;
  counted = same ∙ h.counted;
}
