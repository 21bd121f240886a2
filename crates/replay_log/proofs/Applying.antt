-- What a replica tells of one group more.
use Rattle.std.proofs.Common.{◌≡◌, ◌≤◌, ◌<◌, ℕ, ◌+◌, Bool, false, List, [], length, Option, Some, None, refl, sym, ap, ◌∙◌, arith, subst}
use Rattle.std.specs.Option.{option_map}
use Rattle.port_traits.specs.declared.identity.Identity.{Identity}
use Rattle.port_traits.specs.declared.identity.Draw.{Draw}
use Rattle.log_reader.specs.log_model.Groups.{Group}
use Rattle.log_reader.specs.Reading.{Reader, next_pos}
use Rattle.durable_replica.specs.replica_node.apply_model.Stops.{Differs}
use Rattle.durable_replica.specs.replica_node.replica_model.Applying.{Going, apply, damaged, differs, foreign}
use Rattle.durable_replica.specs.replica_node.replica_model.Replica.{Replica, fetched, past_groups, want}
use Rattle.durable_replica.specs.replica_node.replica_model.Replaying.{Replay, by_form}
use Rattle.durable_replica.specs.replica_node.declared.told.Applied as code_applied
use Rattle.durable_replica.specs.replica_node.declared.told.Stopped.{Stopped}
use Rattle.durable_replica.specs.replica_node.declared.told.Stopped.TheVariants as stopped
use Rattle.durable_replica.specs.replica_node.Kept.{replica_of}
use Rattle.durable_replica.specs.declared.replica.DurableReplica.{DurableReplica}
use Rattle.durable_replica.specs.replica_node.Steps.{IsTold, stop_of}
use Rattle.log_reader.specs.log_file_model.Passing.{names_next}
use Rattle.log_reader.proofs.of_log_group_laws.Lying.{group_lies}
use Rattle.replay_log.specs.declared.replaying.Replaying as code_replaying
use Rattle.replay_log.specs.Keeping.{IsWhole, IsBegun, Keeps, Follows}
use Rattle.replay_log.specs.Replaying.{Stands, IsFresh, IsReady, IsNext, WentOn, kept}
use Rattle.replay_log.proofs.Stepping.{few, group_follows, room}

-- ---- a replica that has just opened

want_fresh : (r : Replica) → r.relay ≡ [] → want r ≡ r.place
unfolding want
want_fresh r none =
    ap (λ (bs : List ℕ). past_groups (length bs) r.place bs) none
    ∙ ap (λ (n : ℕ). record { log = r.place.log; pos = n }) (omega arith)

pub is_fresh : (node : DurableReplica) (log pos : ℕ) → (replica_of node.node).relay ≡ [] → record { log = log; pos = pos } ≡ want (replica_of node.node)
    → IsFresh (record { node = node; count = 0; log = log; pos = pos })
is_fresh node log pos none at = record {
  stands = record {
    keeps = record { base = refl; counters = refl; number = refl; place = refl };
    count = refl;
    place = at ∙ want_fresh (replica_of node.node) none;
  };
  relay = none;
}

-- ---- one group more

-- the group that a reader has can be fetched
pub room_for : (r : code_replaying.Replaying) (reader : Reader) (bytes : List ℕ) → IsNext r reader → bytes ≡ reader.bytes → (want (kept r)).pos + length bytes ≤ 4294967295
room_for r reader bytes next same =
    subst (λ (bs : List ℕ). (want (kept r)).pos + length bs ≤ 4294967295) (sym same)
    (room (kept r) reader.bytes reader.begin next.group next.ready.0 next.is)

module _ (draw : Draw) (old : code_replaying.Replaying) (reader : Reader) (next : IsNext old reader) (bytes : List ℕ) (same : bytes ≡ reader.bytes)
    (between after : DurableReplica) (who : between.node.identity ≡ old.node.node.identity) (took : replica_of between.node ≡ fetched bytes (kept old))
    (told : code_applied.Applied) (made : replica_of after.node ≡ (apply 1 between.node.identity draw (replica_of between.node)).replica)
    (tells : IsTold told (apply 1 between.node.identity draw (replica_of between.node))) where
  -- the APPLY behind the group
  abbrev ran : Going
  ran = apply 1 old.node.node.identity draw (fetched reader.bytes (kept old))

  ran_is : apply 1 between.node.identity draw (replica_of between.node) ≡ ran
  ran_is =
      ap (λ (i : Identity). apply 1 i draw (replica_of between.node)) who
      ∙ ap (λ (r : Replica). apply 1 old.node.node.identity draw r) took
      ∙ ap (λ (bs : List ℕ). apply 1 old.node.node.identity draw (fetched bs (kept old))) same

  told_is : IsTold told ran
  told_is = subst (λ (a : Going). IsTold told a) ran_is tells

  made_is : replica_of after.node ≡ ran.replica
  made_is = made ∙ ap (λ (a : Going). a.replica) ran_is

  few_told : told.count ≤ 1
  few_told = omega (arith, told_is.count, few old.node.node.identity draw (kept old) reader.bytes reader.begin next.group next.is next.ready.0)

  -- at most one group more is counted, and there is room to count it
  pub room_to_count : (told.count ≤ 1) × (old.count + 1 < 4294967296)
  room_to_count = let lies = group_lies reader.bytes reader.begin next.group next.is.reads in (few_told, omega (arith, next.ready.1, lies.header, lies.ends))

  abbrev new : code_replaying.Replaying
  new = record { node = after; count = old.count + told.count; log = told.log; pos = told.pos }

  module _ (g : Group) (s : Replay) (is : IsWhole reader.bytes reader.begin g) (stands : Stands old s) (running : s.stop ≡ None) where
    abbrev behind : Replay
    behind = by_form old.node.node.identity draw g s g.form

    follows : Follows s behind (names_next g.form) (reader.begin + length reader.bytes) ran
    follows = group_follows old.node.node.identity draw (kept old) reader.bytes reader.begin g is s stands.keeps running next.ready.0

    pub now_stands : Stands new behind
    now_stands = record {
      keeps = subst (λ (r : Replica). Keeps r behind) (sym made_is) follows.keeps;
      count = omega (arith, told_is.count, follows.count, stands.count);
      place = told_is.place ∙ follows.keeps.place;
    }

    now_ready : behind.stop ≡ None → names_next g.form ≡ false → IsReady new (next_pos reader)
    now_ready on unclosed =
        let lies = group_lies reader.bytes reader.begin g is.reads in (
          subst (λ (r : Replica). IsBegun r.place.pos r.relay (reader.begin + length reader.bytes)) (sym made_is) (follows.begun on unclosed),
          omega (arith, few_told, next.ready.1, lies.header, lies.within),
        )

    no_stop : (o : Option Differs) → None ≡ option_map differs o → o ≡ None
    no_stop None e = refl
    no_stop (Some d) e = cc

    a_stop : (o : Option Differs) (d : Differs) → Some (differs d) ≡ option_map differs o → o ≡ Some d
    a_stop None d e = cc
    a_stop (Some d') d e = cc

    no_damage : (o : Option Differs) (pos : ℕ) → Some (damaged pos) ≡ option_map differs o → ⊥
    no_damage None pos e = cc
    no_damage (Some d) pos e = cc

    nothing_foreign : (o : Option Differs) (pos kind : ℕ) → Some (foreign pos kind) ≡ option_map differs o → ⊥
    nothing_foreign None pos kind e = cc
    nothing_foreign (Some d) pos kind e = cc

    by_stop : (o : Option Stopped) → option_map stop_of o ≡ option_map differs behind.stop → WentOn o new behind (names_next g.form) (next_pos reader)
    by_stop None e = let on = no_stop behind.stop e in record { stands = now_stands; running = on; ready = now_ready on }
    by_stop (Some (stopped.Differs pos code table key)) e = record { stands = now_stands; stopped = a_stop behind.stop _ e }
    by_stop (Some (stopped.Damaged pos)) e = no_damage behind.stop pos e
    by_stop (Some (stopped.Foreign pos kind)) e = nothing_foreign behind.stop pos kind e

    pub went_on : WentOn told.stop new behind (names_next g.form) (next_pos reader)
    went_on = by_stop told.stop (told_is.stop ∙ follows.stop)

-- ---- what cannot be

pub never_damaged : (o : Option Stopped) (pos : ℕ) (r : code_replaying.Replaying) (s : Replay) (closed : Bool) (at : ℕ) → o ≡ Some (stopped.Damaged pos) → WentOn o r s closed at → ⊥
never_damaged o pos r s closed at is on = subst (λ (x : Option Stopped). WentOn x r s closed at) is on

pub never_foreign : (o : Option Stopped) (pos kind : ℕ) (r : code_replaying.Replaying) (s : Replay) (closed : Bool) (at : ℕ) → o ≡ Some (stopped.Foreign pos kind) → WentOn o r s closed at → ⊥
never_foreign o pos kind r s closed at is on = subst (λ (x : Option Stopped). WentOn x r s closed at) is on
