-- A source that opens again.
use Rattle.std.proofs.Common.{◌≡◌, ℕ, List, [], Option, Some, None, Result, Ok, Err, sym, ◌∙◌, ap, subst}
use Rattle.std.specs.Prelude.{IfSome}
use Rattle.port_traits.specs.declared.identity.Identity.{Identity}
use Rattle.port_traits.specs.declared.identity.Draw.{Draw}
use Rattle.answer_text.specs.declared.report.Mark.{Mark}
use Rattle.disk_model.specs.Story.{Story, seen}
use Rattle.disk_model.specs.Moments.{IsSettled}
use Rattle.disk_model.specs.Claims.{Quietly}
use Rattle.disk_model.proofs.Laws.{if_both}
use Rattle.disk_model.specs.declared.refusals.OpenRefusal.{OpenRefusal}
use Rattle.disk_model.specs.declared.refusals.OpenRefusal.TheVariants.{Disk, Damaged, NoMemory}
use Rattle.session_model.specs.log_model.Log.{LogPlace}
use Rattle.session_model.specs.Machine.{Machine}
use Rattle.session_model.specs.Holding.{Beginning, Holds}
use Rattle.session_model.specs.Openings.{committed_in, opened_from, opening_entries, restarted}
use Rattle.store_model.specs.declared.record.Kind.{Kind}
use Rattle.store_model.specs.declared.record.Kind.TheVariants.{Source}
use Rattle.store_model.specs.Entries.{writer_at}
use Rattle.store_model.specs.Held.{Held}
use Rattle.store_model.specs.Stores.{Spot, begun_from, held_by, Stands as StandsStored}
use Rattle.store_model.proofs.Standing.{together}
use Rattle.store_checkpoints.specs.store_source.durable_runs.Sources.{SourceRuns, SourceStands, Stored, source_side}
use Rattle.store_checkpoints.proofs.of_store_source.of_durable_runs.Steps.{steps_behind}
use Rattle.store_open.specs.Opened.{IsActive}
use Rattle.store_open.specs.store_load.Loading.{TellsDamage}
use Rattle.store_checkpoints.proofs.of_store_source.Images.{Told, durable, if_map, told}
use Rattle.store_checkpoints.proofs.of_store_source.Steps.{on_looked}
use Rattle.durable_source.specs.declared.source.DurableSource.{DurableSource}
use Rattle.durable_source.specs.Standing.{OpensOn, Stands, beginning_of}
use Rattle.durable_source.proofs.Starting.{looked, stays_runs}
use Rattle.durable_source.proofs.Standings.{beginning_is, first_goes_on, writer_is}

same_begun : (r : Result (ℕ × Held) Spot) (a b : ℕ × Held) → r ≡ Ok a → r ≡ Ok b → a.0 ≡ b.0
same_begun r a b e f = ap (λ (x : Result (ℕ × Held) Spot). elim x [ Ok p ↦ p.0 | Err spot ↦ 0 ]) (sym e ∙ f)

module _ (t : Option Story) (k : DurableSource) (from : Stored) (m : Machine) (stands : Stands t k from m) where
  -- its disk is settled, and stands for what it has
  pub is_settled : IsSettled t
  is_settled = durable t k.store stands.now stands.on

  pub opens_now : OpensOn t stands.now
  opens_now =
      if_map t (Told t k.store stands.now stands.on) (SourceStands stands.now (seen t)) (told t k.store stands.now stands.on) (λ x. record {
        held = together Source (seen t) stands.now.held k.store.generation
            (subst (λ (kind : Kind). StandsStored kind k.store.generation (seen t) stands.now.held) stands.on.node x.0);
        logs = x.1;
      })

  -- what its image begins with is of the store's generation
  pub same_generation : (generation : ℕ) → IsActive t Source generation → IfSome t (λ _. generation ≡ k.store.generation)
  same_generation generation active =
      if_both t ((begun : Held) × (begun_from Source (seen t) ≡ Ok (generation, begun))) (StandsStored Source k.store.generation (seen t) stands.now.held)
      (generation ≡ k.store.generation) active
      (subst (λ (kind : Kind). IfSome t (λ _. StandsStored kind k.store.generation (seen t) stands.now.held)) stands.on.node stands.on.keeps.holds.stands)
      (λ begun at. same_begun (begun_from Source (seen t)) (generation, begun.0) (k.store.generation, at.begun) begun.1 at.from)

  -- calls that only look
  pub looked_stands : (u : Option Story) → Quietly t u → Stands u k from m
  looked_stands u quiet = record {
    node = stands.node;
    slots = stands.slots;
    first = stands.first;
    now = stands.now;
    reached = stands.reached;
    on = on_looked t u k.store stands.now stands.on quiet;
  }

  pub looked_runs : (u : Option Story) (marks : List Mark) → Quietly t u → SourceRuns t u stands.now [] marks marks
  looked_runs u marks quiet = stays_runs t u stands.now marks (looked t u stands.now is_settled opens_now quiet)

  module _ (holds : Holds (beginning_of from) m) (identity : Identity) (draw : Draw) where
    same : beginning_of stands.now ≡ committed_in m
    same = beginning_is from m holds stands.first stands.now stands.reached

    pub restarted_stands : (u : Option Story) (new : DurableSource) → Stands u new stands.now (opened_from identity draw (beginning_of stands.now))
        → Stands u new from (restarted identity draw m)
    restarted_stands u new opened =
        let again : Stands u new stands.now (opened_from identity draw (committed_in m)) =
        subst (λ (b : Beginning). Stands u new stands.now (opened_from identity draw b)) same opened in
        record {
          node = record { state = again.node.state; none = again.node.none };
          slots = again.slots;
          first = first_goes_on m.history (opened_from identity draw (committed_in m)).history from stands.now stands.first stands.reached again.first;
          now = again.now;
          reached = steps_behind source_side m.history (opened_from identity draw (committed_in m)).history from stands.now stands.reached ∙ again.reached;
          on = again.on;
        }

    pub restarted_runs : (u : Option Story) (marks : List Mark) → SourceRuns t u stands.now (opening_entries identity draw (writer_at stands.now.held)) marks marks
        → SourceRuns t u stands.now (opening_entries identity draw m.state.shared.place) marks marks
    restarted_runs u marks runs =
        subst (λ (p : LogPlace). SourceRuns t u stands.now (opening_entries identity draw p) marks marks) (writer_is from m holds stands.first stands.now stands.reached) runs

-- who it is was copied
pub restarted_runs_by : (t : Option Story) (k : DurableSource) (from : Stored) (m : Machine) (stands : Stands t k from m) → Holds (beginning_of from) m
    → (copy identity : Identity) → copy ≡ identity → (draw : Draw) (u : Option Story) (marks : List Mark)
    → SourceRuns t u stands.now (opening_entries copy draw (writer_at stands.now.held)) marks marks
    → SourceRuns t u stands.now (opening_entries identity draw m.state.shared.place) marks marks
restarted_runs_by t k from m stands holds copy identity same draw u marks runs =
    restarted_runs t k from m stands holds identity draw u marks
    (subst (λ (i : Identity). SourceRuns t u stands.now (opening_entries i draw (writer_at stands.now.held)) marks marks) same runs)

pub restarted_by : (t : Option Story) (k : DurableSource) (from : Stored) (m : Machine) (stands : Stands t k from m) → Holds (beginning_of from) m
    → (copy identity : Identity) → copy ≡ identity → (draw : Draw) (u : Option Story) (new : DurableSource)
    → IfSome t (λ _. Stands u new stands.now (opened_from copy draw (beginning_of stands.now)))
    → IfSome t (λ _. Stands u new from (restarted identity draw m))
restarted_by t k from m stands holds copy identity same draw u new opened =
    if_map t (Stands u new stands.now (opened_from copy draw (beginning_of stands.now))) (Stands u new from (restarted identity draw m)) opened (λ x.
    restarted_stands t k from m stands holds identity draw u new
    (subst (λ (i : Identity). Stands u new stands.now (opened_from i draw (beginning_of stands.now))) same x))

-- ---- what a source has on its disk is not damaged

ok_or_err : {A E : Type 0} (r : Result A E) (a : A) (e : E) → r ≡ Ok a → r ≡ Err e → ⊥
ok_or_err r a e is other = cc

none_damaged : (A : Type 0) (t : Option Story) (s : Stored) (r : OpenRefusal) (file at : ℕ) → OpensOn t s → TellsDamage {A = A} t Source (Err r)
    → IfSome t (λ _. r ≡ Damaged file at → ⊥)
none_damaged A None s r file at opens tells = tt
none_damaged A (Some x) s Disk file at opens tells = λ is. cc
none_damaged A (Some x) s NoMemory file at opens tells = λ is. cc
none_damaged A (Some x) s (Damaged f a) file at opens tells = λ is. ok_or_err (held_by Source (seen (Some x))) s.held (record { file = f; at = a }) opens.held tells

same_err : {A : Type 0} (x : Result A OpenRefusal) (r q : OpenRefusal) → x ≡ Err r → x ≡ Err q → r ≡ q
same_err {A} x r q e f = ap (λ (y : Result A OpenRefusal). elim y [ Ok a ↦ r | Err error ↦ error ]) (sym e ∙ f)

pub not_damaged : (A B : Type 0) (t : Option Story) (s : Stored) (result : Result B OpenRefusal) (r : OpenRefusal) (file at : ℕ) → result ≡ Err r → OpensOn t s
    → TellsDamage {A = A} t Source (Err r) → IfSome t (λ _. result ≡ Err (Damaged file at) → ⊥)
not_damaged A B t s result r file at is opens tells =
    if_map t (r ≡ Damaged file at → ⊥) (result ≡ Err (Damaged file at) → ⊥) (none_damaged A t s r file at opens tells) (λ not e. not (same_err result r (Damaged file at) is e))
