-- What one group more leaves on the disk and in the report.
use Rattle.std.proofs.Common.{◌≡◌, ◌⊎◌, inl, inr, ℕ, ◌+◌, List, [], length, Option, Some, None, Result, Err, refl, sym, ap, ◌∙◌, arith, subst, append-nil}
use Rattle.std.specs.Prelude.{IfSome}
use Rattle.port_traits.specs.declared.identity.Identity.{Identity}
use Rattle.port_traits.specs.declared.identity.Draw.{Draw}
use Rattle.answer_text.specs.declared.report.Mark.{Mark}
use Rattle.disk_model.specs.declared.refusals.NodeFault.{NodeFault}
use Rattle.disk_model.specs.Story.{Story, count}
use Rattle.disk_model.specs.Moments.{Each, GoesOn}
use Rattle.disk_model.proofs.Moments.{on_count}
use Rattle.store_model.specs.Held.{Held}
use Rattle.durable_replica.specs.store_replica.durable_runs.Replicas.{Carries, CarriesTo, ReplicaRuns, ReplicaStands}
use Rattle.durable_replica.specs.store_replica.durable_runs.Runs.{CallsFit}
use Rattle.durable_replica.proofs.of_store_replica.of_durable_runs.States.{carries_none, carries_idle, carries_behind, carries_join, carries_widen, carries_to_widen}
use Rattle.durable_replica.specs.store_replica.Pushed.{ArePushed}
use Rattle.durable_replica.proofs.of_store_replica.Standings.{each_stands}
use Rattle.durable_replica.specs.Standing.{IsOnDisk, IsStateOf}
use Rattle.durable_replica.specs.declared.replica.DurableReplica.{DurableReplica}
use Rattle.log_reader.specs.log_model.Groups.{Group}
use Rattle.log_reader.specs.Reading.{Reader}
use Rattle.log_reader.specs.log_file_model.Passing.{names_next}
use Rattle.log_reader.specs.log_model.Log.{LogPlace}
use Rattle.durable_replica.specs.replica_node.Kept.{held_of, replica_of}
use Rattle.durable_replica.specs.replica_node.replica_model.Applying.{apply, go_on, going_from}
use Rattle.durable_replica.specs.replica_node.replica_model.Replica.{Replica, fetched}
use Rattle.durable_replica.specs.replica_node.replica_model.Replaying.{Replay, by_form}
use Rattle.replay_log.specs.declared.replaying.Replaying as code_replaying
use Rattle.replay_log.specs.Ends.{held_in}
use Rattle.replay_log.specs.Keeping.{IsWhole, Keeps, Follows}
use Rattle.replay_log.specs.Replaying.{Stands, IsNext, IsEither, IsKept, GroupKept, GroupBroke, kept}
use Rattle.replay_log.proofs.Stepping.{after_steps, group_follows}

-- what is held where a replica keeps what a replay has
pub held_kept : (r : Replica) (s : Replay) → Keeps r s → held_of r ≡ held_in s
held_kept r s keeps =
    ap (λ b. record { base = b; number = r.number; ends = []; place = r.place }) keeps.base
    ∙ ap (λ (n : ℕ). record { base = s.base; number = n; ends = []; place = r.place }) keeps.number
    ∙ ap (λ (p : LogPlace). record { base = s.base; number = s.number; ends = []; place = p }) keeps.place

-- a disk has had no more calls before than later
pub fit_before : (t u : Option Story) → GoesOn t u → CallsFit u → CallsFit t
fit_before None u on fit = tt
fit_before (Some t) None on fit = absurd on
fit_before (Some t) (Some u) on fit = let less = on_count (Some t) (Some u) on in omega (arith, less, fit)

-- what is kept at a fault
pub kept_err : {A : Type 0} (r : Result A NodeFault) (e : NodeFault) → r ≡ Err e → (t u : Option Story) (old new : code_replaying.Replaying) (s behind : Replay) (now : Mark) (marks more : List Mark)
    → GroupBroke t u old s behind now marks more → IsKept r t u old new s behind now marks more
kept_err r e is t u old new s behind now marks more broke = rw is broke

-- no mark was pushed
none_pushed : (now : Mark) (number : ℕ) (marks : List Mark) → ArePushed now number number marks marks
none_pushed now number marks = record { more = []; marks = sym (append-nil marks); named = tt; number = refl }

pub none_named : (u : Option Story) → IfSome u (λ (x : Story). Unit {0})
none_named None = tt
none_named (Some u) = tt

module _ (identity : Identity) (draw : Draw) (old : code_replaying.Replaying) (reader : Reader) (next : IsNext old reader) (g : Group) (s : Replay)
    (is : IsWhole reader.bytes reader.begin g) (stands : Stands old s) (running : s.stop ≡ None) where
  abbrev behind : Replay
  behind = by_form identity draw g s g.form

  abbrev P : Held → Type 0
  P = IsEither s behind

  before_is : held_of (kept old) ≡ held_in s
  before_is = held_kept (kept old) s stands.keeps

  follows : Follows s behind (names_next g.form) (reader.begin + length reader.bytes) (apply 1 identity draw (fetched reader.bytes (kept old)))
  follows = group_follows identity draw (kept old) reader.bytes reader.begin g is s stands.keeps running next.ready.0

  -- the states of an APPLY of the group are these
  states : (held : Held) → IsStateOf 1 identity draw (fetched reader.bytes (kept old)) held → P held
  states held state = by (after_steps identity draw (kept old) reader.bytes reader.begin g is state.0 next.ready.0)
    where
      by : ((go_on state.0 1 identity draw (going_from (fetched reader.bytes (kept old)))).replica ≡ fetched reader.bytes (kept old))
          ⊎ ((go_on state.0 1 identity draw (going_from (fetched reader.bytes (kept old)))).replica ≡ (apply 1 identity draw (fetched reader.bytes (kept old))).replica)
          → P held
      by (inl same) = inl (state.1 ∙ ap held_of same ∙ before_is)
      by (inr same) = inr (state.1 ∙ ap held_of same ∙ held_kept _ behind follows.keeps)

  module _ (t : Option Story) (now : Mark) (marks : List Mark) where
    -- no call was made
    pub broke_before : IsOnDisk t old.node → GroupBroke t t old s behind now marks marks
    broke_before on = record {
      runs = λ fit.
          (subst (λ (l : List Mark). CarriesTo P t t (held_in s) (held_in s) marks l) (append-nil marks)
          (carries_idle P t (held_in s) marks [] (inl refl) (subst (λ (h : Held). Each t (ReplicaStands h)) before_is (each_stands t old.node.store (held_of (kept old)) on.on)) (none_named t))).carries;
      number = (kept old).number;
      pushed = none_pushed now (kept old).number marks;
    }

    module _ (u : Option Story) (fetches : (ms : List Mark) → ReplicaRuns t u (held_of (kept old)) [] ms ms) where
      -- a piece was put into the relay
      put : CarriesTo P t u (held_in s) (held_in s) marks marks
      put = carries_none P t u (held_in s) marks marks (inl refl) (subst (λ (h : Held). ReplicaRuns t u h [] marks marks) before_is (fetches marks))

      pub broke_fetching : GroupBroke t u old s behind now marks marks
      broke_fetching = record { runs = λ fit. put.carries; number = (kept old).number; pushed = none_pushed now (kept old).number marks }

      module _ (v : Option Story) (between after : DurableReplica) (who : between.node.identity ≡ identity) (took : replica_of between.node ≡ fetched reader.bytes (kept old))
          (more : List Mark) (number : ℕ) (pushed : ArePushed now (replica_of between.node).number number marks more) where
        pushed_from : ArePushed now (kept old).number number marks more
        pushed_from = subst (λ (n : ℕ). ArePushed now n number marks more) (ap (λ (r : Replica). r.number) took) pushed

        -- an APPLY of what was fetched is one of the group
        as_group : (Q : (Held → Type 0) → Held → Type 0) → Q (IsStateOf 1 between.node.identity draw (replica_of between.node)) (held_of (replica_of between.node))
            → Q (IsStateOf 1 identity draw (fetched reader.bytes (kept old))) (held_of (kept old))
        as_group Q state =
            subst (λ (i : Identity). Q (IsStateOf 1 i draw (fetched reader.bytes (kept old))) (held_of (kept old))) who
            (subst (λ (r : Replica). Q (IsStateOf 1 between.node.identity draw r) (held_of r)) took state)

        pub broke_applying : (CallsFit v → Carries (IsStateOf 1 between.node.identity draw (replica_of between.node)) u v (held_of (replica_of between.node)) marks more)
            → GroupBroke t v old s behind now marks more
        broke_applying carries = record {
          runs = λ fit.
              carries_behind P t u v (held_in s) (held_in s) marks marks more put
              (subst (λ (h : Held). Carries P u v h marks more) before_is
              (carries_widen (IsStateOf 1 identity draw (fetched reader.bytes (kept old))) P u v (held_of (kept old)) marks more states
              (as_group (λ (R : Held → Type 0) (h : Held). Carries R u v h marks more) (carries fit))));
          number = number;
          pushed = pushed_from;
        }

        pub kept_applying : (CallsFit v → CarriesTo (IsStateOf 1 between.node.identity draw (replica_of between.node)) u v (held_of (replica_of between.node)) (held_of (replica_of after.node)) marks more)
            → (new : code_replaying.Replaying) → Stands new behind → new.node ≡ after → IsOnDisk v after → number ≡ (replica_of after.node).number
            → length more + old.count ≡ length marks + new.count → GroupKept t v old new s behind now marks more
        kept_applying carries new there same on reaches counted = record {
          on = subst (IsOnDisk v) (sym same) on;
          runs = λ fit.
              carries_join P t u v (held_in s) (held_in s) (held_in behind) marks marks more put
              (subst (λ (h : Held). CarriesTo P u v (held_in s) h marks more) (ap (λ (k : DurableReplica). held_of (replica_of k.node)) (sym same) ∙ held_kept (kept new) behind there.keeps)
              (subst (λ (h : Held). CarriesTo P u v h (held_of (replica_of after.node)) marks more) before_is
              (carries_to_widen (IsStateOf 1 identity draw (fetched reader.bytes (kept old))) P u v (held_of (kept old)) (held_of (replica_of after.node)) marks more states
              (as_group (λ (R : Held → Type 0) (h : Held). CarriesTo R u v h (held_of (replica_of after.node)) marks more) (carries fit)))));
          pushed = subst (λ (n : ℕ). ArePushed now (kept old).number n marks more) (reaches ∙ ap (λ (k : DurableReplica). (replica_of k.node).number) (sym same)) pushed_from;
          counted = counted;
        }
