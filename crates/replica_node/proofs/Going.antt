-- An APPLY on its way, step by step, comes to what the definition says.
use Rattle.std.proofs.Common.{◌≡◌, ◌≤◌, ◌<◌, ℕ, zero, suc, ◌+◌, ◌-◌, Bool, true, false, leb, List, [], ◌∷◌, length, drop, Option, Some, None, refl, sym, ap, ◌∙◌, arith, subst}
use Rattle.std.specs.Option.{option_map}
use Rattle.std.proofs.lemmas.Bool.{le-leb, lt-leb}
use Rattle.port_traits.specs.declared.identity.Identity.{Identity}
use Rattle.port_traits.specs.declared.identity.Draw.{Draw}
use Rattle.relay_log.specs.log_model.Groups.{Next, not_whole, group_at}
use Rattle.relay_log.specs.log_model.Log.{moved}
use Rattle.replica_model.specs.Applying.{Going, Stop, apply, by_next, go_on, next_at}
use Rattle.replica_model.specs.Replica.{Replica}
use Rattle.relay_log.specs.declared.place.Walk.{Walk}
use Rattle.relay_log.specs.Reaching.{Fetched, IsAhead, place_seen}
use Rattle.relay_log.proofs.of_log_group_laws.Lying.{nothing_there}
use Rattle.commit_store.specs.declared.prepared.Prepared.{Prepared}
use Rattle.replica_node.specs.declared.told.Applied.{Applied}
use Rattle.replica_node.specs.declared.told.Step.{Step}
use Rattle.replica_node.specs.declared.told.Step.TheVariants.{Over, Moved, Carried, Waits, Stopped as StoppedBy}
use Rattle.replica_node.specs.declared.told.Stopped.{Stopped}
use Rattle.replica_node.specs.Steps.{IsOver, IsTold, GoesOn, ended_by, going_at, relay_of, stop_of}

-- a step from a replica to another goes on so
abbrev pub IsStep : Identity → Draw → Replica → Replica → (passed : ℕ) → Step → Type 0
IsStep identity draw r r' passed step =
    (more : Going → Going) → (count : ℕ) → by_next more identity draw (going_at r passed count) (next_at (going_at r passed count)) ≡ ended_by more step r' passed count

pub step_at : (identity identity' : Identity) (draw : Draw) (r r' : Replica) (passed : ℕ) (step step' : Step) → identity ≡ identity' → step ≡ step'
    → IsStep identity draw r r' passed step → IsStep identity' draw r r' passed step'
step_at identity identity' draw r r' passed step step' same is on =
    subst (λ (who : Identity). IsStep who draw r r' passed step') same (subst (λ (s : Step). IsStep identity draw r r' passed s) is on)

-- nothing was passed over yet
pub here_over : (relay : Fetched) (r : Replica) (ahead : Walk) → relay ≡ relay_of r → IsAhead relay ahead → place_seen ahead.place ≡ relay.place → ahead.passed ≡ 0 → IsOver r ahead
here_over relay r ahead same is place none =
    let there : moved r.place ahead.passed ≡ r.place = ap (λ (n : ℕ). record { log = r.place.log; pos = n }) (omega (arith, none)) in
    record {
      ahead = subst (λ (f : Fetched). IsAhead f ahead) same is;
      place = place ∙ ap (λ (f : Fetched). f.place) same ∙ sym there;
    }

-- so many steps at the most are left, and they come to what all do
pub record IsUnder (wanted : ℕ) (identity : Identity) (draw : Draw) (start r : Replica) (passed count : ℕ) : Type 0 where
  pub most : ℕ
  pub enough : length r.relay ≤ passed + most
  pub same : go_on most wanted identity draw (going_at r passed count) ≡ apply wanted identity draw start

pub begins : (wanted : ℕ) (identity : Identity) (draw : Draw) (r : Replica) → IsUnder wanted identity draw r r 0 0
unfolding apply
begins wanted identity draw r = record { most = length r.relay; enough = omega arith; same = refl }

none_ahead : (bytes : List ℕ) (passed : ℕ) → length bytes ≤ passed → drop passed bytes ≡ []
none_ahead [] zero few = refl
none_ahead [] (suc n) few = refl
none_ahead (b ∷ bs) zero few = absurd (omega (arith, few))
none_ahead (b ∷ bs) (suc n) few = none_ahead bs n (omega (arith, few))

module _ (wanted : ℕ) (identity : Identity) (draw : Draw) (r : Replica) (passed count : ℕ) where
  -- one step of those that are left
  one : (most : ℕ) → count < wanted → go_on (suc most) wanted identity draw (going_at r passed count)
      ≡ by_next (go_on most wanted identity draw) identity draw (going_at r passed count) (next_at (going_at r passed count))
  one most low = let test : leb wanted count ≡ false = lt-leb _ _ low in rw test refl

  -- of one, all there is
  pub one_step : count < wanted → go_on 1 wanted identity draw (going_at r passed count) ≡ by_next (λ a. a) identity draw (going_at r passed count) (next_at (going_at r passed count))
  one_step low = one 0 low

module _ (wanted : ℕ) (identity : Identity) (draw : Draw) (start r : Replica) (passed count : ℕ) where
  abbrev all : Going
  all = apply wanted identity draw start

  -- no bytes lie ahead
  nothing_ahead : length r.relay ≤ passed → next_at (going_at r passed count) ≡ not_whole
  nothing_ahead few =
      ap (λ (bs : List ℕ). group_at (record { bytes = bs; pos = r.place.pos + passed })) (none_ahead r.relay passed few) ∙ nothing_there (r.place.pos + passed)

  module _ (r' : Replica) (low : count < wanted) (under : IsUnder wanted identity draw start r passed count) where
    -- ---- going on

    goes : (passed' count' : ℕ) (step : Step) → IsStep identity draw r r' passed step
        → ((more : Going → Going) → ended_by more step r' passed count ≡ more (going_at r' passed' count'))
        → (most : ℕ) → length r.relay ≤ passed + most → go_on most wanted identity draw (going_at r passed count) ≡ all
        → length r'.relay < passed' + (length r.relay - passed) → passed' ≤ length r'.relay
        → IsUnder wanted identity draw start r' passed' count'
    goes passed' count' step is on zero enough same less within = absurd (omega (arith, enough, less, within))
    goes passed' count' step is on (suc most) enough same less within = record {
      most = most;
      enough = omega (arith, enough, less);
      same = sym (on (go_on most wanted identity draw)) ∙ sym (is (go_on most wanted identity draw) count) ∙ sym (one wanted identity draw r passed count most low) ∙ same;
    }

    pub over : (ahead : Walk) → IsStep identity draw r r' passed (Over ahead) → GoesOn (Over ahead) (length r.relay - passed) r' → IsUnder wanted identity draw start r' ahead.passed count
    over ahead is on = goes ahead.passed count (Over ahead) is (λ more. refl) under.most under.enough under.same on.1 on.0.ahead.within

    pub moved_on : (p : Prepared) → IsStep identity draw r r' passed (Moved p) → GoesOn (Moved p) (length r.relay - passed) r' → IsUnder wanted identity draw start r' 0 count
    moved_on p is on = goes 0 count (Moved p) is (λ more. refl) under.most under.enough under.same (omega (arith, on)) (omega arith)

    pub carried_on : (p : Prepared) → IsStep identity draw r r' passed (Carried p) → GoesOn (Carried p) (length r.relay - passed) r' → IsUnder wanted identity draw start r' 0 (count + 1)
    carried_on p is on = goes 0 (count + 1) (Carried p) is (λ more. refl) under.most under.enough under.same (omega (arith, on)) (omega arith)

    -- ---- the end

    waits_by : IsStep identity draw r r' passed Waits → (most : ℕ) → length r.relay ≤ passed + most → go_on most wanted identity draw (going_at r passed count) ≡ all
        → all ≡ going_at r' passed count
    waits_by is zero enough same =
        sym same ∙ sym (ap (by_next (λ a. a) identity draw (going_at r passed count)) (nothing_ahead (omega (arith, enough)))) ∙ is (λ a. a) count
    waits_by is (suc most) enough same = sym same ∙ one wanted identity draw r passed count most low ∙ is (go_on most wanted identity draw) count

    pub waits : IsStep identity draw r r' passed Waits → all ≡ going_at r' passed count
    waits is = waits_by is under.most under.enough under.same

    stops_by : (stop : Stopped) → IsStep identity draw r r' passed (StoppedBy stop) → (most : ℕ) → length r.relay ≤ passed + most
        → go_on most wanted identity draw (going_at r passed count) ≡ all → all ≡ record (going_at r' passed count) { stop = Some (stop_of stop) }
    stops_by stop is zero enough same =
        sym same ∙ sym (ap (by_next (λ a. a) identity draw (going_at r passed count)) (nothing_ahead (omega (arith, enough)))) ∙ is (λ a. a) count
    stops_by stop is (suc most) enough same = sym same ∙ one wanted identity draw r passed count most low ∙ is (go_on most wanted identity draw) count

    pub stops : (stop : Stopped) → IsStep identity draw r r' passed (StoppedBy stop) → all ≡ record (going_at r' passed count) { stop = Some (stop_of stop) }
    stops stop is = stops_by stop is under.most under.enough under.same

  full_by : wanted ≤ count → (most : ℕ) → go_on most wanted identity draw (going_at r passed count) ≡ all → all ≡ going_at r passed count
  full_by enough zero same = sym same
  full_by enough (suc most) same = let test : leb wanted count ≡ true = le-leb _ _ enough in sym same ∙ rw test refl

  -- as many were carried out as are wanted
  pub full : wanted ≤ count → IsUnder wanted identity draw start r passed count → all ≡ going_at r passed count
  full enough under = full_by enough under.most under.same

-- what is told of where it ended
pub told : (told : Applied) (a b : Going) → a ≡ b → told.count ≡ b.count → record { log = told.log; pos = told.pos } ≡ b.replica.place → option_map stop_of told.stop ≡ b.stop → IsTold told a
told t a b same count place stop = record {
  count = count ∙ ap (λ (g : Going). g.count) (sym same);
  place = place ∙ ap (λ (g : Going). g.replica.place) (sym same);
  stop = stop ∙ ap (λ (g : Going). g.stop) (sym same);
}
