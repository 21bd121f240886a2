use Rattle.std.proofs.Common.{ℕ, ◌+◌, ◌-◌, true, false, length, refl, sym, ap, ◌∙◌, arith, subst}
use Rattle.std.specs.Option.{option_map}
use Rattle.std.proofs.lemmas.Result.{err_from_is_err_and}
use Rattle.replica_node.specs.replica_model.Replica.{Replica}
use Rattle.replica_node.specs.Kept.{replica_of}
use Rattle.replica_node.specs.Records.{Leaves}
use Rattle.replica_node.specs.Steps.{GoesOn, stop_of}
use Rattle.replica_node.specs.declared.told.Step.{Step}
use Rattle.replica_node.specs.declared.told.Step.TheVariants.{Over, Moved, Carried, Waits, Stopped as StoppedBy}
use Rattle.replica_node.proofs.Fronts.{IsBehind, behind_carried, behind_moved, behind_none, behind_over, is_front}
use Rattle.replica_node.proofs.Going.{IsStep, IsUnder, begins as under_begins, carried_on, full, moved_on, over, step_at, stops, told, waits}
use Rattle.durable_replica.proofs.Keeping.{begins, can_keep, done, more_kept, more_run, run_of, same_kept}
use Rattle.durable_replica.proofs.replica.DurableReplica.carry_on.Goals as goal

pub loop-count-init : goal.loop-count-init
loop-count-init g c =
    let start : Replica = replica_of c.args.self.now.node in
    record {
      identity = refl;
      over = c.here-ahead.ensures.over;
      low = omega arith;
      behind = subst (λ (n : ℕ). IsBehind c.args.wanted c.args.self.now.node.identity c.args.draw.now start start n 0) (sym c.here-ahead.ensures.passed)
          (behind_none c.args.wanted c.args.self.now.node.identity c.args.draw.now start);
      under = subst (λ (n : ℕ). IsUnder c.args.wanted c.args.self.now.node.identity c.args.draw.now start start n 0) (sym c.here-ahead.ensures.passed)
          (under_begins c.args.wanted c.args.self.now.node.identity c.args.draw.now start);
      kept = begins c.args.wanted c.args.self.now.node.identity c.args.draw.now start _ c.args.report.now c.args.self.now.store c.args.self.now.fetched c.requires.on c.requires.relay;
      generation = refl;
      later = omega arith;
    }

pub returns-in_default-clause-err : goal.returns-in_default-clause-err
returns-in_default-clause-err g c =
    let front = is_front c.args.wanted c.args.self.now.node.identity c.args.draw.now (replica_of c.args.self.now.node) (replica_of c.loop-count.self.node) c.loop-count.ahead.passed c.loop-count.count c.loop-count.invariant.behind in
    (front.0, ap replica_of c.in_default.ensures.err ∙ front.1)

pub returns-in_default-clause-run : goal.returns-in_default-clause-run
returns-in_default-clause-run g c = run_of c.args.wanted c.args.self.now.node.identity c.args.draw.now (replica_of c.args.self.now.node) _ c.args.report.now _ (replica_of c.loop-count.self.node) c.loop-count.self.store c.loop-count.self.fetched c.loop-count.report c.loop-count.count c.loop-count.invariant.kept

pub loop-count-preserved-in-Over : goal.loop-count-preserved-in-Over
loop-count-preserved-in-Over g c =
    let step : IsStep c.args.self.now.node.identity c.args.draw.now (replica_of c.loop-count.self.node) (replica_of c.step.new.self) c.loop-count.ahead.passed (Over c.in-Over.next) =
    step_at c.loop-count.self.node.identity _ c.args.draw.now _ _ _ c.in-Ok.step (Over c.in-Over.next) c.loop-count.invariant.identity c.in-Over.is c.in-Ok.ensures.step in
    let goes : GoesOn (Over c.in-Over.next) (length (replica_of c.loop-count.self.node).relay - c.loop-count.ahead.passed) (replica_of c.step.new.self) =
    subst (λ (s : Step). GoesOn s (length (replica_of c.loop-count.self.node).relay - c.loop-count.ahead.passed) (replica_of c.step.new.self)) c.in-Over.is c.in-Ok.ensures.goes_on in
    let leaves : Leaves (Over c.in-Over.next) (replica_of c.loop-count.self.node) (replica_of c.step.new.self) = subst (λ (s : Step). Leaves s (replica_of c.loop-count.self.node) (replica_of c.step.new.self)) c.in-Over.is c.in-Ok.ensures.leaves in
    record {
      identity = c.step.ensures.identity ∙ c.loop-count.invariant.identity;
      over = goes.0;
      low = c.loop-count.invariant.low;
      behind = behind_over c.args.wanted c.args.self.now.node.identity c.args.draw.now (replica_of c.args.self.now.node) (replica_of c.loop-count.self.node) (replica_of c.step.new.self) c.loop-count.ahead.passed c.loop-count.count c.loop-count-test.true c.loop-count.invariant.behind c.in-Over.next step;
      under = over c.args.wanted c.args.self.now.node.identity c.args.draw.now (replica_of c.args.self.now.node) (replica_of c.loop-count.self.node) c.loop-count.ahead.passed c.loop-count.count (replica_of c.step.new.self) c.loop-count-test.true c.loop-count.invariant.under c.in-Over.next step goes;
      kept = same_kept c.args.wanted c.args.self.now.node.identity c.args.draw.now (replica_of c.args.self.now.node) _ c.args.report.now _ (replica_of c.loop-count.self.node) c.loop-count.self.store c.loop-count.self.fetched c.loop-count.report c.loop-count.count c.loop-count.invariant.kept (replica_of c.step.new.self) leaves;
      generation = c.loop-count.invariant.generation;
      later = c.loop-count.invariant.later;
    }

-- ---- Moved

pub keep-requires : goal.keep-requires
keep-requires g c =
    let leaves : Leaves (Moved c.in-Moved.kept) (replica_of c.loop-count.self.node) (replica_of c.step.new.self) = subst (λ (s : Step). Leaves s (replica_of c.loop-count.self.node) (replica_of c.step.new.self)) c.in-Moved.is c.in-Ok.ensures.leaves in
    can_keep c.args.wanted c.args.self.now.node.identity c.args.draw.now (replica_of c.args.self.now.node) _ c.args.report.now _ (replica_of c.loop-count.self.node) c.loop-count.self.store c.loop-count.self.fetched c.loop-count.report c.loop-count.count c.loop-count.invariant.kept (replica_of c.step.new.self) c.in-Moved.kept false leaves.0 leaves.1

pub returns-in_err-keep-in-Moved-clause-err : goal.returns-in_err-keep-in-Moved-clause-err
returns-in_err-keep-in-Moved-clause-err g c =
    let step : IsStep c.args.self.now.node.identity c.args.draw.now (replica_of c.loop-count.self.node) (replica_of c.step.new.self) c.loop-count.ahead.passed (Moved c.in-Moved.kept) =
    step_at c.loop-count.self.node.identity _ c.args.draw.now _ _ _ c.in-Ok.step (Moved c.in-Moved.kept) c.loop-count.invariant.identity c.in-Moved.is c.in-Ok.ensures.step in
    let p = err_from_is_err_and c.from_residual.result c.from_residual.ensures.1 in
    rw p.1 (is_front c.args.wanted c.args.self.now.node.identity c.args.draw.now (replica_of c.args.self.now.node) (replica_of c.step.new.self) 0 c.loop-count.count (behind_moved c.args.wanted c.args.self.now.node.identity c.args.draw.now (replica_of c.args.self.now.node) (replica_of c.loop-count.self.node) (replica_of c.step.new.self) c.loop-count.ahead.passed c.loop-count.count c.loop-count-test.true c.loop-count.invariant.behind c.in-Moved.kept step))

pub returns-in_err-keep-in-Moved-clause-generation : goal.returns-in_err-keep-in-Moved-clause-generation
returns-in_err-keep-in-Moved-clause-generation g c = c.keep.ensures.generation ∙ c.loop-count.invariant.generation

pub returns-in_err-keep-in-Moved-clause-run : goal.returns-in_err-keep-in-Moved-clause-run
returns-in_err-keep-in-Moved-clause-run g c =
    let leaves : Leaves (Moved c.in-Moved.kept) (replica_of c.loop-count.self.node) (replica_of c.step.new.self) = subst (λ (s : Step). Leaves s (replica_of c.loop-count.self.node) (replica_of c.step.new.self)) c.in-Moved.is c.in-Ok.ensures.leaves in
    let step : IsStep c.args.self.now.node.identity c.args.draw.now (replica_of c.loop-count.self.node) (replica_of c.step.new.self) c.loop-count.ahead.passed (Moved c.in-Moved.kept) =
    step_at c.loop-count.self.node.identity _ c.args.draw.now _ _ _ c.in-Ok.step (Moved c.in-Moved.kept) c.loop-count.invariant.identity c.in-Moved.is c.in-Ok.ensures.step in
    let front = is_front c.args.wanted c.args.self.now.node.identity c.args.draw.now (replica_of c.args.self.now.node) (replica_of c.loop-count.self.node) c.loop-count.ahead.passed c.loop-count.count c.loop-count.invariant.behind in
    let front' = is_front c.args.wanted c.args.self.now.node.identity c.args.draw.now (replica_of c.args.self.now.node) (replica_of c.step.new.self) 0 c.loop-count.count (behind_moved c.args.wanted c.args.self.now.node.identity c.args.draw.now (replica_of c.args.self.now.node) (replica_of c.loop-count.self.node) (replica_of c.step.new.self) c.loop-count.ahead.passed c.loop-count.count c.loop-count-test.true c.loop-count.invariant.behind c.in-Moved.kept step) in
    more_run c.args.wanted c.args.self.now.node.identity c.args.draw.now (replica_of c.args.self.now.node) _ c.args.report.now _ (replica_of c.loop-count.self.node) c.loop-count.self.store c.loop-count.self.fetched c.loop-count.report c.loop-count.count c.loop-count.invariant.kept (replica_of c.step.new.self) c.in-Moved.kept false leaves.0 leaves.1 _ c.keep.new.store c.keep.new.report c.keep.ensures.goes c.keep.ensures.run c.keep.ensures.pushed c.keep.ensures.rest front front'

pub loop-count-preserved-in-Moved : goal.loop-count-preserved-in-Moved
loop-count-preserved-in-Moved g c =
    let leaves : Leaves (Moved c.in-Moved.kept) (replica_of c.loop-count.self.node) (replica_of c.step.new.self) = subst (λ (s : Step). Leaves s (replica_of c.loop-count.self.node) (replica_of c.step.new.self)) c.in-Moved.is c.in-Ok.ensures.leaves in
    let step : IsStep c.args.self.now.node.identity c.args.draw.now (replica_of c.loop-count.self.node) (replica_of c.step.new.self) c.loop-count.ahead.passed (Moved c.in-Moved.kept) =
    step_at c.loop-count.self.node.identity _ c.args.draw.now _ _ _ c.in-Ok.step (Moved c.in-Moved.kept) c.loop-count.invariant.identity c.in-Moved.is c.in-Ok.ensures.step in
    let goes : GoesOn (Moved c.in-Moved.kept) (length (replica_of c.loop-count.self.node).relay - c.loop-count.ahead.passed) (replica_of c.step.new.self) =
    subst (λ (s : Step). GoesOn s (length (replica_of c.loop-count.self.node).relay - c.loop-count.ahead.passed) (replica_of c.step.new.self)) c.in-Moved.is c.in-Ok.ensures.goes_on in
    let front = is_front c.args.wanted c.args.self.now.node.identity c.args.draw.now (replica_of c.args.self.now.node) (replica_of c.loop-count.self.node) c.loop-count.ahead.passed c.loop-count.count c.loop-count.invariant.behind in
    let front' = is_front c.args.wanted c.args.self.now.node.identity c.args.draw.now (replica_of c.args.self.now.node) (replica_of c.step.new.self) 0 c.loop-count.count (behind_moved c.args.wanted c.args.self.now.node.identity c.args.draw.now (replica_of c.args.self.now.node) (replica_of c.loop-count.self.node) (replica_of c.step.new.self) c.loop-count.ahead.passed c.loop-count.count c.loop-count-test.true c.loop-count.invariant.behind c.in-Moved.kept step) in
    let none = c.here-ahead-in-Moved.ensures.passed in
    record {
      identity = c.step.ensures.identity ∙ c.loop-count.invariant.identity;
      over = c.here-ahead-in-Moved.ensures.over;
      low = c.loop-count.invariant.low;
      behind = subst (λ (n : ℕ). IsBehind c.args.wanted c.args.self.now.node.identity c.args.draw.now (replica_of c.args.self.now.node) (replica_of c.step.new.self) n c.loop-count.count) (sym none) (behind_moved c.args.wanted c.args.self.now.node.identity c.args.draw.now (replica_of c.args.self.now.node) (replica_of c.loop-count.self.node) (replica_of c.step.new.self) c.loop-count.ahead.passed c.loop-count.count c.loop-count-test.true c.loop-count.invariant.behind c.in-Moved.kept step);
      under = subst (λ (n : ℕ). IsUnder c.args.wanted c.args.self.now.node.identity c.args.draw.now (replica_of c.args.self.now.node) (replica_of c.step.new.self) n c.loop-count.count) (sym none)
          (moved_on c.args.wanted c.args.self.now.node.identity c.args.draw.now (replica_of c.args.self.now.node) (replica_of c.loop-count.self.node) c.loop-count.ahead.passed c.loop-count.count (replica_of c.step.new.self) c.loop-count-test.true c.loop-count.invariant.under c.in-Moved.kept step goes);
      kept = more_kept c.args.wanted c.args.self.now.node.identity c.args.draw.now (replica_of c.args.self.now.node) _ c.args.report.now _ (replica_of c.loop-count.self.node) c.loop-count.self.store c.loop-count.self.fetched c.loop-count.report c.loop-count.count c.loop-count.invariant.kept (replica_of c.step.new.self) c.in-Moved.kept false leaves.0 leaves.1 _ c.keep.new.store c.keep.new.report c.keep.ensures.goes c.keep.ensures.run c.keep.ensures.pushed c.keep.ensures.rest front front' c.loop-count.count
          c.in_ok-keep-in-Moved.ensures.on c.keep.ensures.relay (omega (arith, c.in_ok-keep-in-Moved.ensures.marks));
      generation = c.keep.ensures.generation ∙ c.loop-count.invariant.generation;
      later = omega (arith, c.loop-count.invariant.later, c.keep.ensures.cause.later);
    }

-- ---- Carried

pub keep-requires-in-Carried : goal.keep-requires-in-Carried
keep-requires-in-Carried g c =
    let leaves : Leaves (Carried c.in-Carried.kept) (replica_of c.loop-count.self.node) (replica_of c.step.new.self) = subst (λ (s : Step). Leaves s (replica_of c.loop-count.self.node) (replica_of c.step.new.self)) c.in-Carried.is c.in-Ok.ensures.leaves in
    can_keep c.args.wanted c.args.self.now.node.identity c.args.draw.now (replica_of c.args.self.now.node) _ c.args.report.now _ (replica_of c.loop-count.self.node) c.loop-count.self.store c.loop-count.self.fetched c.loop-count.report c.loop-count.count c.loop-count.invariant.kept (replica_of c.step.new.self) c.in-Carried.kept true leaves.0 leaves.1

pub returns-in_err-keep-in-Carried-clause-err : goal.returns-in_err-keep-in-Carried-clause-err
returns-in_err-keep-in-Carried-clause-err g c =
    let step : IsStep c.args.self.now.node.identity c.args.draw.now (replica_of c.loop-count.self.node) (replica_of c.step.new.self) c.loop-count.ahead.passed (Carried c.in-Carried.kept) =
    step_at c.loop-count.self.node.identity _ c.args.draw.now _ _ _ c.in-Ok.step (Carried c.in-Carried.kept) c.loop-count.invariant.identity c.in-Carried.is c.in-Ok.ensures.step in
    let p = err_from_is_err_and c.from_residual-in_err-keep-in-Carried.result c.from_residual-in_err-keep-in-Carried.ensures.1 in
    rw p.1 (is_front c.args.wanted c.args.self.now.node.identity c.args.draw.now (replica_of c.args.self.now.node) (replica_of c.step.new.self) 0 (c.loop-count.count + 1) (behind_carried c.args.wanted c.args.self.now.node.identity c.args.draw.now (replica_of c.args.self.now.node) (replica_of c.loop-count.self.node) (replica_of c.step.new.self) c.loop-count.ahead.passed c.loop-count.count c.loop-count-test.true c.loop-count.invariant.behind c.in-Carried.kept step))

pub returns-in_err-keep-in-Carried-clause-generation : goal.returns-in_err-keep-in-Carried-clause-generation
returns-in_err-keep-in-Carried-clause-generation g c = c.keep-in-Carried.ensures.generation ∙ c.loop-count.invariant.generation

pub returns-in_err-keep-in-Carried-clause-run : goal.returns-in_err-keep-in-Carried-clause-run
returns-in_err-keep-in-Carried-clause-run g c =
    let leaves : Leaves (Carried c.in-Carried.kept) (replica_of c.loop-count.self.node) (replica_of c.step.new.self) = subst (λ (s : Step). Leaves s (replica_of c.loop-count.self.node) (replica_of c.step.new.self)) c.in-Carried.is c.in-Ok.ensures.leaves in
    let step : IsStep c.args.self.now.node.identity c.args.draw.now (replica_of c.loop-count.self.node) (replica_of c.step.new.self) c.loop-count.ahead.passed (Carried c.in-Carried.kept) =
    step_at c.loop-count.self.node.identity _ c.args.draw.now _ _ _ c.in-Ok.step (Carried c.in-Carried.kept) c.loop-count.invariant.identity c.in-Carried.is c.in-Ok.ensures.step in
    let front = is_front c.args.wanted c.args.self.now.node.identity c.args.draw.now (replica_of c.args.self.now.node) (replica_of c.loop-count.self.node) c.loop-count.ahead.passed c.loop-count.count c.loop-count.invariant.behind in
    let front' = is_front c.args.wanted c.args.self.now.node.identity c.args.draw.now (replica_of c.args.self.now.node) (replica_of c.step.new.self) 0 (c.loop-count.count + 1) (behind_carried c.args.wanted c.args.self.now.node.identity c.args.draw.now (replica_of c.args.self.now.node) (replica_of c.loop-count.self.node) (replica_of c.step.new.self) c.loop-count.ahead.passed c.loop-count.count c.loop-count-test.true c.loop-count.invariant.behind c.in-Carried.kept step) in
    more_run c.args.wanted c.args.self.now.node.identity c.args.draw.now (replica_of c.args.self.now.node) _ c.args.report.now _ (replica_of c.loop-count.self.node) c.loop-count.self.store c.loop-count.self.fetched c.loop-count.report c.loop-count.count c.loop-count.invariant.kept (replica_of c.step.new.self) c.in-Carried.kept true leaves.0 leaves.1 _ c.keep-in-Carried.new.store c.keep-in-Carried.new.report c.keep-in-Carried.ensures.goes c.keep-in-Carried.ensures.run c.keep-in-Carried.ensures.pushed c.keep-in-Carried.ensures.rest front front'

pub loop-count-preserved : goal.loop-count-preserved
loop-count-preserved g c =
    let leaves : Leaves (Carried c.in-Carried.kept) (replica_of c.loop-count.self.node) (replica_of c.step.new.self) = subst (λ (s : Step). Leaves s (replica_of c.loop-count.self.node) (replica_of c.step.new.self)) c.in-Carried.is c.in-Ok.ensures.leaves in
    let step : IsStep c.args.self.now.node.identity c.args.draw.now (replica_of c.loop-count.self.node) (replica_of c.step.new.self) c.loop-count.ahead.passed (Carried c.in-Carried.kept) =
    step_at c.loop-count.self.node.identity _ c.args.draw.now _ _ _ c.in-Ok.step (Carried c.in-Carried.kept) c.loop-count.invariant.identity c.in-Carried.is c.in-Ok.ensures.step in
    let goes : GoesOn (Carried c.in-Carried.kept) (length (replica_of c.loop-count.self.node).relay - c.loop-count.ahead.passed) (replica_of c.step.new.self) =
    subst (λ (s : Step). GoesOn s (length (replica_of c.loop-count.self.node).relay - c.loop-count.ahead.passed) (replica_of c.step.new.self)) c.in-Carried.is c.in-Ok.ensures.goes_on in
    let front = is_front c.args.wanted c.args.self.now.node.identity c.args.draw.now (replica_of c.args.self.now.node) (replica_of c.loop-count.self.node) c.loop-count.ahead.passed c.loop-count.count c.loop-count.invariant.behind in
    let front' = is_front c.args.wanted c.args.self.now.node.identity c.args.draw.now (replica_of c.args.self.now.node) (replica_of c.step.new.self) 0 (c.loop-count.count + 1) (behind_carried c.args.wanted c.args.self.now.node.identity c.args.draw.now (replica_of c.args.self.now.node) (replica_of c.loop-count.self.node) (replica_of c.step.new.self) c.loop-count.ahead.passed c.loop-count.count c.loop-count-test.true c.loop-count.invariant.behind c.in-Carried.kept step) in
    let none = c.here-ahead-in-Carried.ensures.passed in
    record {
      identity = c.step.ensures.identity ∙ c.loop-count.invariant.identity;
      over = c.here-ahead-in-Carried.ensures.over;
      low = omega (arith, c.loop-count-test.true);
      behind = subst (λ (n : ℕ). IsBehind c.args.wanted c.args.self.now.node.identity c.args.draw.now (replica_of c.args.self.now.node) (replica_of c.step.new.self) n (c.loop-count.count + 1)) (sym none) (behind_carried c.args.wanted c.args.self.now.node.identity c.args.draw.now (replica_of c.args.self.now.node) (replica_of c.loop-count.self.node) (replica_of c.step.new.self) c.loop-count.ahead.passed c.loop-count.count c.loop-count-test.true c.loop-count.invariant.behind c.in-Carried.kept step);
      under = subst (λ (n : ℕ). IsUnder c.args.wanted c.args.self.now.node.identity c.args.draw.now (replica_of c.args.self.now.node) (replica_of c.step.new.self) n (c.loop-count.count + 1)) (sym none)
          (carried_on c.args.wanted c.args.self.now.node.identity c.args.draw.now (replica_of c.args.self.now.node) (replica_of c.loop-count.self.node) c.loop-count.ahead.passed c.loop-count.count (replica_of c.step.new.self) c.loop-count-test.true c.loop-count.invariant.under c.in-Carried.kept step goes);
      kept = more_kept c.args.wanted c.args.self.now.node.identity c.args.draw.now (replica_of c.args.self.now.node) _ c.args.report.now _ (replica_of c.loop-count.self.node) c.loop-count.self.store c.loop-count.self.fetched c.loop-count.report c.loop-count.count c.loop-count.invariant.kept (replica_of c.step.new.self) c.in-Carried.kept true leaves.0 leaves.1 _ c.keep-in-Carried.new.store c.keep-in-Carried.new.report c.keep-in-Carried.ensures.goes c.keep-in-Carried.ensures.run c.keep-in-Carried.ensures.pushed c.keep-in-Carried.ensures.rest front front' (c.loop-count.count + 1)
          c.in_ok-keep-in-Carried.ensures.on c.keep-in-Carried.ensures.relay (omega (arith, c.in_ok-keep-in-Carried.ensures.marks));
      generation = c.keep-in-Carried.ensures.generation ∙ c.loop-count.invariant.generation;
      later = omega (arith, c.loop-count.invariant.later, c.keep-in-Carried.ensures.cause.later);
    }

pub returns-in-Waits-clause-done : goal.returns-in-Waits-clause-done
returns-in-Waits-clause-done g c =
    let step : IsStep c.args.self.now.node.identity c.args.draw.now (replica_of c.loop-count.self.node) (replica_of c.step.new.self) c.loop-count.ahead.passed Waits =
    step_at c.loop-count.self.node.identity _ c.args.draw.now _ _ _ c.in-Ok.step (Waits) c.loop-count.invariant.identity c.in-Waits.is c.in-Ok.ensures.step in
    let leaves : Leaves Waits (replica_of c.loop-count.self.node) (replica_of c.step.new.self) = subst (λ (s : Step). Leaves s (replica_of c.loop-count.self.node) (replica_of c.step.new.self)) c.in-Waits.is c.in-Ok.ensures.leaves in
    let all = waits c.args.wanted c.args.self.now.node.identity c.args.draw.now (replica_of c.args.self.now.node) (replica_of c.loop-count.self.node) c.loop-count.ahead.passed c.loop-count.count (replica_of c.step.new.self) c.loop-count-test.true c.loop-count.invariant.under step in
    done c.args.wanted c.args.self.now.node.identity c.args.draw.now (replica_of c.args.self.now.node) _ c.args.report.now _ (replica_of c.loop-count.self.node) c.loop-count.self.store c.loop-count.self.fetched c.loop-count.report c.loop-count.count c.loop-count.invariant.kept
    _ c.applied.result _ all refl refl refl (sym leaves) c.applied.ensures.count
    (told c.applied.result _ _ all c.applied.ensures.count c.applied.ensures.place (ap (option_map stop_of) c.applied.ensures.stop))

pub returns-in-Waits-clause-run : goal.returns-in-Waits-clause-run
returns-in-Waits-clause-run g c = run_of c.args.wanted c.args.self.now.node.identity c.args.draw.now (replica_of c.args.self.now.node) _ c.args.report.now _ (replica_of c.loop-count.self.node) c.loop-count.self.store c.loop-count.self.fetched c.loop-count.report c.loop-count.count c.loop-count.invariant.kept

pub returns-in-Stopped-clause-done : goal.returns-in-Stopped-clause-done
returns-in-Stopped-clause-done g c =
    let step : IsStep c.args.self.now.node.identity c.args.draw.now (replica_of c.loop-count.self.node) (replica_of c.step.new.self) c.loop-count.ahead.passed (StoppedBy c.in-Stopped.stop) =
    step_at c.loop-count.self.node.identity _ c.args.draw.now _ _ _ c.in-Ok.step (StoppedBy c.in-Stopped.stop) c.loop-count.invariant.identity c.in-Stopped.is c.in-Ok.ensures.step in
    let leaves : Leaves (StoppedBy c.in-Stopped.stop) (replica_of c.loop-count.self.node) (replica_of c.step.new.self) = subst (λ (s : Step). Leaves s (replica_of c.loop-count.self.node) (replica_of c.step.new.self)) c.in-Stopped.is c.in-Ok.ensures.leaves in
    let all = stops c.args.wanted c.args.self.now.node.identity c.args.draw.now (replica_of c.args.self.now.node) (replica_of c.loop-count.self.node) c.loop-count.ahead.passed c.loop-count.count (replica_of c.step.new.self) c.loop-count-test.true c.loop-count.invariant.under c.in-Stopped.stop step in
    done c.args.wanted c.args.self.now.node.identity c.args.draw.now (replica_of c.args.self.now.node) _ c.args.report.now _ (replica_of c.loop-count.self.node) c.loop-count.self.store c.loop-count.self.fetched c.loop-count.report c.loop-count.count c.loop-count.invariant.kept
    _ c.applied-in-Stopped.result _ all refl refl refl (sym leaves) c.applied-in-Stopped.ensures.count
    (told c.applied-in-Stopped.result _ _ all c.applied-in-Stopped.ensures.count c.applied-in-Stopped.ensures.place (ap (option_map stop_of) c.applied-in-Stopped.ensures.stop))

pub returns-in-Stopped-clause-run : goal.returns-in-Stopped-clause-run
returns-in-Stopped-clause-run g c = run_of c.args.wanted c.args.self.now.node.identity c.args.draw.now (replica_of c.args.self.now.node) _ c.args.report.now _ (replica_of c.loop-count.self.node) c.loop-count.self.store c.loop-count.self.fetched c.loop-count.report c.loop-count.count c.loop-count.invariant.kept

pub returns-clause-done : goal.returns-clause-done
returns-clause-done g c =
    let all = full c.args.wanted c.args.self.now.node.identity c.args.draw.now (replica_of c.args.self.now.node) (replica_of c.loop-count.self.node) c.loop-count.ahead.passed c.loop-count.count (omega (arith, c.loop-count-test.false)) c.loop-count.invariant.under in
    done c.args.wanted c.args.self.now.node.identity c.args.draw.now (replica_of c.args.self.now.node) _ c.args.report.now _ (replica_of c.loop-count.self.node) c.loop-count.self.store c.loop-count.self.fetched c.loop-count.report c.loop-count.count c.loop-count.invariant.kept
    _ c.applied-2.result _ all refl refl refl refl c.applied-2.ensures.count
    (told c.applied-2.result _ _ all c.applied-2.ensures.count c.applied-2.ensures.place (ap (option_map stop_of) c.applied-2.ensures.stop))

pub returns-clause-run : goal.returns-clause-run
returns-clause-run g c = run_of c.args.wanted c.args.self.now.node.identity c.args.draw.now (replica_of c.args.self.now.node) _ c.args.report.now _ (replica_of c.loop-count.self.node) c.loop-count.self.store c.loop-count.self.fetched c.loop-count.report c.loop-count.count c.loop-count.invariant.kept
