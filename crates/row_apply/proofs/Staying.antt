-- What stays while a change is carried out.
use Rattle.std.proofs.Common.{◌≡◌, List, refl, ap, ◌∙◌}
use Rattle.auto_inc.specs.declared.counters.Counter.{Counter}
use Rattle.auto_inc.specs.Counting.{tables_of}
use Rattle.prog_work.specs.Contents.{Contents, committed_tables}
use Rattle.prog_work.specs.Carrying.{ChangesRows}
use Rattle.row_apply.specs.Ends.{Stays}

pub stays_same : (c : Contents) → Stays c c
stays_same c = record { objects = refl; committed = refl; counted = refl }

pub stays_on : (a b c : Contents) → Stays a b → Stays b c → Stays a c
stays_on a b c p q = record { objects = q.objects ∙ p.objects; committed = q.committed ∙ p.committed; counted = q.counted ∙ p.counted }

pub stays_changed : (a b : Contents) → ChangesRows a b → Stays a b
stays_changed a b p = record { objects = p.objects; committed = p.committed; counted = ap (λ (cs : List Counter). tables_of cs) p.counters }

-- rows were changed, and then counters raised
pub stays_raised : (a b c : Contents) (counters : List Counter) → ChangesRows a b → c ≡ record b { counters = counters } → tables_of c.counters ≡ tables_of b.counters → Stays a c
stays_raised a b c counters p is same = record {
  objects = ap (λ (k : Contents). k.objects) is ∙ p.objects;
  committed = ap (λ (k : Contents). committed_tables k) is ∙ p.committed;
  counted = same ∙ ap (λ (cs : List Counter). tables_of cs) p.counters;
}

pub ruleset staying = (stays_same, stays_on, stays_changed, stays_raised)
