-- An APPLY that memory cut short: a front of its steps.
use Rattle.std.proofs.Common.{◌≡◌, ℕ, zero, suc, ◌+◌, ◌<◌, Bool, true, false, leb, Option, Some, None, Result, Ok, Err, refl, sym, ap, ◌∙◌}
use Rattle.std.specs.Prelude.{if◌then◌else◌, nat_le}
use Rattle.port_traits.specs.declared.identity.Identity.{Identity}
use Rattle.port_traits.specs.declared.identity.Draw.{Draw}
use Rattle.relay_log.specs.apply_model.Stops.{Differs}
use Rattle.relay_log.specs.apply_model.Groups.{Applied, group_carried}
use Rattle.relay_log.specs.log_model.Groups.{Form, start, next_log, ddl, txn, Group, Next, group, not_whole, damaged_at, foreign_at}
use Rattle.replica_model.specs.Applying.{Going, Stop, differs, damaged, foreign, by_form, by_next, carried_out, carry, go_on, going_from, moved_behind, next_at}
use Rattle.replica_model.specs.Replica.{Replica, size_of}
use Rattle.commit_store.specs.declared.prepared.Prepared.{Prepared}
use Rattle.replica_node.specs.declared.told.Step.{Step}
use Rattle.replica_node.specs.declared.told.Step.TheVariants.{Over, Moved, Carried}
use Rattle.relay_log.specs.declared.place.Walk.{Walk}
use Rattle.replica_node.specs.Steps.{IsFront, ended_by, going_at}
use Rattle.replica_node.proofs.Going.{IsStep, one_step}

module _ (wanted : ℕ) (identity : Identity) (draw : Draw) where
  abbrev go : ℕ → Going → Going
  go most a = go_on most wanted identity draw a

  abbrev step_if : Bool → (Going → Going) → Going → Next → Going
  step_if full more a next = if full then a else by_next more identity draw a next

  -- what stops a step stops it again
  module _ (a : Going) (low : nat_le wanted a.count ≡ false) where
    again : (next : Next) (b : Going) → b.count ≡ a.count → next_at b ≡ next → by_next (λ x. x) identity draw b next ≡ b → b ≡ go 1 b
    again next b same at is =
        sym is ∙ sym (ap (λ (n : Next). by_next (λ x. x) identity draw b n) at)
        ∙ sym (ap (λ (full : Bool). step_if full (λ x. x) b (next_at b)) (ap (nat_le wanted) same ∙ low))

  module _ (k : ℕ) (more_behind : (a : Going) → go (suc k) a ≡ go 1 (go k a)) (a : Going) (low : nat_le wanted a.count ≡ false) where
    carry_behind : (g : Group) (r : Result Applied Differs) → ((stop : Differs) → r ≡ Err stop → record a { stop = Some (differs stop) } ≡ go 1 (record a { stop = Some (differs stop) }))
        → carry (go (suc k)) g a r ≡ go 1 (carry (go k) g a r)
    carry_behind g (Ok applied) stops = more_behind (carried_out g applied a)
    carry_behind g (Err stop) stops = stops stop refl

    differs_again : (g : Group) → next_at a ≡ group g → (stop : Differs)
        → by_form (λ x. x) identity draw g (record a { stop = Some (differs stop) }) g.form ≡ record a { stop = Some (differs stop) }
        → record a { stop = Some (differs stop) } ≡ go 1 (record a { stop = Some (differs stop) })
    differs_again g at stop is = again a low (group g) (record a { stop = Some (differs stop) }) refl at is

    form_behind : (g : Group) → next_at a ≡ group g → (form : Form) → g.form ≡ form
        → by_form (go (suc k)) identity draw g a form ≡ go 1 (by_form (go k) identity draw g a form)
    form_behind g at start is = more_behind (record a { passed = a.passed + size_of g })
    form_behind g at (next_log next) is = more_behind (record a { replica = moved_behind g a; passed = 0 })
    form_behind g at (ddl s) is =
        carry_behind g (group_carried identity draw a.replica.base a.replica.counters g)
        (λ stop e. differs_again g at stop
        (ap (by_form (λ x. x) identity draw g (record a { stop = Some (differs stop) })) is ∙ ap (carry (λ x. x) g (record a { stop = Some (differs stop) })) e))
    form_behind g at (txn opening items number) is =
        carry_behind g (group_carried identity draw a.replica.base a.replica.counters g)
        (λ stop e. differs_again g at stop
        (ap (by_form (λ x. x) identity draw g (record a { stop = Some (differs stop) })) is ∙ ap (carry (λ x. x) g (record a { stop = Some (differs stop) })) e))

    next_behind : (next : Next) → next_at a ≡ next → by_next (go (suc k)) identity draw a next ≡ go 1 (by_next (go k) identity draw a next)
    next_behind (group g) at = form_behind g at g.form refl
    next_behind not_whole at = again a low not_whole a refl at refl
    next_behind (damaged_at p) at = again a low (damaged_at p) (record a { stop = Some (damaged p) }) refl at refl
    next_behind (foreign_at p kind) at = again a low (foreign_at p kind) (record a { stop = Some (foreign p kind) }) refl at refl

  if_behind : (k : ℕ) → ((a : Going) → go (suc k) a ≡ go 1 (go k a)) → (a : Going) (full : Bool) → nat_le wanted a.count ≡ full
      → step_if full (go (suc k)) a (next_at a) ≡ go 1 (step_if full (go k) a (next_at a))
  if_behind k more a true e = sym (ap (λ (full : Bool). step_if full (λ x. x) a (next_at a)) e)
  if_behind k more a false e = next_behind k more a e (next_at a) refl

  -- a step behind so many is one step more
  step_behind : (k : ℕ) (a : Going) → go (suc k) a ≡ go 1 (go k a)
  step_behind zero a = refl
  step_behind (suc k) a = if_behind k (step_behind k) a (nat_le wanted a.count) refl

-- so many steps lead there
pub record IsBehind (wanted : ℕ) (identity : Identity) (draw : Draw) (first r : Replica) (passed count : ℕ) : Type 0 where
  pub steps : ℕ
  pub same : go_on steps wanted identity draw (going_from first) ≡ going_at r passed count

pub behind_none : (wanted : ℕ) (identity : Identity) (draw : Draw) (r : Replica) → IsBehind wanted identity draw r r 0 0
behind_none wanted identity draw r = record { steps = 0; same = refl }

module _ (wanted : ℕ) (identity : Identity) (draw : Draw) (first r r' : Replica) (passed count : ℕ) (low : count < wanted) (behind : IsBehind wanted identity draw first r passed count) where
  goes : (passed' count' : ℕ) (step : Step) → IsStep identity draw r r' passed step → ended_by (λ a. a) step r' passed count ≡ going_at r' passed' count'
      → IsBehind wanted identity draw first r' passed' count'
  goes passed' count' step is on = record {
    steps = suc behind.steps;
    same =
        step_behind wanted identity draw behind.steps (going_from first) ∙ ap (go_on 1 wanted identity draw) behind.same
        ∙ one_step wanted identity draw r passed count low ∙ is (λ a. a) count ∙ on;
  }

  pub behind_over : (ahead : Walk) → IsStep identity draw r r' passed (Over ahead) → IsBehind wanted identity draw first r' ahead.passed count
  behind_over ahead is = goes ahead.passed count (Over ahead) is refl

  pub behind_moved : (p : Prepared) → IsStep identity draw r r' passed (Moved p) → IsBehind wanted identity draw first r' 0 count
  behind_moved p is = goes 0 count (Moved p) is refl

  pub behind_carried : (p : Prepared) → IsStep identity draw r r' passed (Carried p) → IsBehind wanted identity draw first r' 0 (count + 1)
  behind_carried p is = goes 0 (count + 1) (Carried p) is refl

-- what is kept there
pub is_front : (wanted : ℕ) (identity : Identity) (draw : Draw) (first r : Replica) (passed count : ℕ) → IsBehind wanted identity draw first r passed count → IsFront wanted identity draw first r
is_front wanted identity draw first r passed count behind = (behind.steps, sym (ap (λ (a : Going). a.replica) behind.same))
