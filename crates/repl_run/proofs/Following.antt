-- A replay behind its log's source follows it.
use Rattle.std.proofs.Common.{◌≡◌, ◌⊎◌, inl, inr, ℕ, ◌+◌, suc, List, [], ◌∷◌, length, Option, Some, None, Result, Ok, Err, IfSome, refl, sym, ap, ◌∙◌, subst, arith}
use Rattle.port_traits.specs.declared.identity.Identity.{Identity}
use Rattle.port_traits.specs.declared.identity.Draw.{Draw}
use Rattle.answer_text.specs.declared.report.Mark.{Mark}
use Rattle.answer_text.specs.declared.report.Report.{Report}
use Rattle.answer_text.specs.declared.status.Status.{Status}
use Rattle.answer_text.specs.declared.status.Status.TheVariants.{Done, BadWords, BadScript, ReadFault, WriteFault, SourceDisk, ReplicaDisk, SourceDamaged, ReplicaDamaged, LogDamaged, LogForeign, Differs, NoMemory}
use Rattle.disk_model.specs.Story.{Story, count, seen}
use Rattle.disk_model.specs.Moments.{Since}
use Rattle.disk_model.proofs.Moments.{since_map}
use Rattle.store_model.specs.declared.record.Kind.TheVariants.{Replica as OfReplica}
use Rattle.store_model.specs.Held.{Held}
use Rattle.store_model.specs.Stores.{Spot, held_by}
use Rattle.script_run.specs.run_stores.durable_runs.Replicas.{IsCarried, StateImage}
use Rattle.script_run.specs.run_stores.durable_runs.Runs.{CallsFit}
use Rattle.script_run.specs.run_stores.run_laws.session_replays.Followed.{EntriesFollow}
use Rattle.script_run.specs.run_stores.run_laws.run_model.replica_model.Replica.{Replica, replica_from}
use Rattle.script_run.specs.run_stores.run_laws.run_model.replica_model.Replaying.{Replay, replayed_from}
use Rattle.script_run.specs.run_stores.run_laws.run_model.log_file_model.Walk.{Ending, damaged, ended, foreign, grouped_from}
use Rattle.script_run.specs.run_stores.run_laws.run_model.Run.{Starts, number_before, place_before}
use Rattle.script_run.specs.run_stores.run_laws.Fronts.{FrontIsRead, FrontsAreRead, NoReplayStops, ReplaysHaveCarried, WholeIsReplayed, cut_at, ends_at, replayed_to}
use Rattle.script_run.specs.run_stores.Carried.{ReplayedIsCarried, held_in, held_of_replay}
use Rattle.replay_log.specs.Ends.{IsBehind, NotOpened, Opened, ReplayEnds, Replays, behind_all}
use Rattle.repl_run.specs.Headline.{BeginsBehind, FrontImage, IsCut, RecoversFront, ReplayFollows, ReplaysFollow}

-- What the proofs take from the laws.
pub record Laws : Type 0 where
  pub read : FrontsAreRead
  pub carried : ReplaysHaveCarried
  pub stops : NoReplayStops
  pub whole : WholeIsReplayed
  pub held : ReplayedIsCarried

-- ---- the replica that was opened

same_held : (a b : Held) {r : Result Held Spot} → r ≡ Ok a → r ≡ Ok b → a ≡ b
same_held a b p q = cc

same_bytes : (o : Option (List ℕ)) (a b : List ℕ) → o ≡ Some a → IfSome o (λ all. all ≡ b) → b ≡ a
same_bytes (Some c) a b p q = cc
same_bytes None a b p q = cc

never_both : (h : Held) (spot : Spot) {r : Result Held Spot} → r ≡ Ok h → r ≡ Err spot → ⊥
never_both h spot p q = cc

module _ (laws : Laws) (s : Story) (input : Option (List ℕ)) (from : Starts) (bytes : List ℕ) (at : BeginsBehind (Some s) input from bytes) where
  -- it is the one that its store stands for
  opened_is : (r : Replica) → Opened (Some s) r → r ≡ from.replica
  opened_is r opened =
      let held : Held = opened.held.0 in
      let same : held ≡ held_in from.replica = same_held held (held_in from.replica) opened.held.1 at.held in
      opened.held.2 ∙ ap (λ (h : Held). replica_from h.base h.number h.place) same ∙ sym at.begins.opened

  -- ---- images

  holds_front : (identity : Identity) (draw : Draw) (held : Held) → IsBehind identity draw from.replica (grouped_from from.replica.place.pos bytes).pieces held
      → IsCarried EntriesFollow (held_in from.replica) from.owed (number_before from.read) (place_before from.read) held
  holds_front identity draw held behind =
      subst (IsCarried EntriesFollow (held_in from.replica) from.owed (number_before from.read) (place_before from.read)) (sym behind.is)
      (laws.held from (replayed_to identity draw from bytes behind.first) at.begins (laws.carried identity draw from bytes behind.first at.begins at.front))

  holds_first : (held : Held) → held ≡ held_in from.replica → IsCarried EntriesFollow (held_in from.replica) from.owed (number_before from.read) (place_before from.read) held
  holds_first held same =
      let identity : Identity = record { server_id = 0; user = [] } in
      let draw : Draw = record { now = 0; sys = 0; seed1 = 0; seed2 = 0; uuid = [] } in
      holds_front identity draw held (record { first = 0; within = omega arith; is = same })

  images : (P : Held → Type 0) (u : Option Story) (marks : List Mark) → ((held : Held) → P held → IsCarried EntriesFollow (held_in from.replica) from.owed (number_before from.read) (place_before from.read) held)
      → (CallsFit u → Since (count (Some s)) u (StateImage P (held_in from.replica) marks)) → RecoversFront from (Some s) u marks
  images P u marks carried survives fits =
      since_map (count (Some s)) u (StateImage P (held_in from.replica) marks) (FrontImage from marks)
      (λ n image le ge is. record { now = is.now; stands = is.stands; carried = carried is.now is.state; holds = is.holds }) (survives fits)

  -- a replay that was begun
  replay_recovers : (u : Option Story) (report : Report) → Replays input (Some s) u report → RecoversFront from (Some s) u report.marks
  replay_recovers u report r =
      let same : r.from ≡ from.replica = opened_is r.from r.opened in
      let is : r.bytes ≡ bytes = same_bytes input bytes r.bytes at.given r.input_is in
      images (IsBehind r.identity r.draw from.replica (grouped_from from.replica.place.pos bytes).pieces) u report.marks (holds_front r.identity r.draw)
      (λ fits. subst (λ (x : Replica). Since (count (Some s)) u (StateImage (IsBehind r.identity r.draw x (grouped_from x.place.pos bytes).pieces) (held_in from.replica) report.marks)) same
      (subst (λ (bs : List ℕ). Since (count (Some s)) u (StateImage (IsBehind r.identity r.draw r.from (grouped_from r.from.place.pos bs).pieces) (held_in from.replica) report.marks)) is
      (r.survives (held_in from.replica) at.held fits)))

  -- one that was not
  idle_recovers : (left : Option (List ℕ)) (u : Option Story) (report : Report) (before after : Option (List ℕ)) → NotOpened input left (Some s) u report before after → RecoversFront from (Some s) u report.marks
  idle_recovers left u report before after none =
      images (λ held. held ≡ held_in from.replica) u report.marks holds_first
      (λ fits. subst (λ (ms : List Mark). Since (count (Some s)) u (StateImage (λ held. held ≡ held_in from.replica) (held_in from.replica) ms)) (sym none.marks) (none.survives (held_in from.replica) at.held fits))

  -- ---- where it stops

  -- the log ends, or is cut
  ends_so : FrontIsRead from bytes → (e : Ending) → (grouped_from from.replica.place.pos bytes).ending ≡ e → (e ≡ ended) ⊎ ((pos : ℕ) × ((e ≡ damaged pos) × IsCut from bytes pos))
  ends_so read e is = by read.tail refl
    where
      by : (tail : List ℕ) → read.tail ≡ tail → (e ≡ ended) ⊎ ((pos : ℕ) × ((e ≡ damaged pos) × IsCut from bytes pos))
      by [] tail = inl (sym is ∙ read.ending ∙ ap (cut_at (ends_at from.read read.front)) tail)
      by (b ∷ bs) tail =
          let pos : ℕ = ends_at from.read read.front in
          let size : length bytes ≡ pos + suc (length bs) = read.size ∙ ap (λ (t : List ℕ). pos + length t) tail in
          inr (
            pos,
            (
              sym is ∙ read.ending ∙ ap (cut_at pos) tail,
              record { front = read.front; left = read.left; all = read.all; there = refl; within = omega (arith, size); cut = λ whole. never (sym tail ∙ (read.whole whole).1) },
            ),
          )
        where
          never : b ∷ bs ≡ [] → ⊥
          never is = cc

  ends_replay : (u : Option Story) (report : Report) (r : Replays input (Some s) u report) (e : Ending) → (grouped_from r.from.place.pos r.bytes).ending ≡ e
      → (e ≡ ended) ⊎ ((pos : ℕ) × ((e ≡ damaged pos) × IsCut from bytes pos))
  ends_replay u report r e is =
      let same : r.from ≡ from.replica = opened_is r.from r.opened in
      let there : r.bytes ≡ bytes = same_bytes input bytes r.bytes at.given r.input_is in
      ends_so (laws.read from bytes at.begins at.front) e
      (ap (λ (bs : List ℕ). (grouped_from from.replica.place.pos bs).ending) (sym there) ∙ ap (λ (x : Replica). (grouped_from x.place.pos r.bytes).ending) (sym same) ∙ is)

  cut_there : (pos : ℕ) → (damaged pos ≡ ended) ⊎ ((at : ℕ) × ((damaged pos ≡ damaged at) × IsCut from bytes at)) → IsCut from bytes pos
  cut_there pos (inl done) = absurd (never done)
    where
      never : damaged pos ≡ ended → ⊥
      never is = cc
  cut_there pos (inr cut) = let same : cut.0 ≡ pos = by cut.0 cut.1.0 in subst (IsCut from bytes) same cut.1.1
    where
      by : (at : ℕ) → damaged pos ≡ damaged at → at ≡ pos
      by at is = cc

  not_foreign : (pos kind : ℕ) → (foreign pos kind ≡ ended) ⊎ ((at : ℕ) × ((foreign pos kind ≡ damaged at) × IsCut from bytes at)) → ⊥
  not_foreign pos kind (inl done) = cc
  not_foreign pos kind (inr cut) = by cut.0 cut.1.0
    where
      by : (at : ℕ) → foreign pos kind ≡ damaged at → ⊥
      by at is = cc

  -- what all groups come to
  behind_is : (u : Option Story) (report : Report) (r : Replays input (Some s) u report) → behind_all r ≡ replayed_from r.identity r.draw from.replica bytes
  behind_is u report r =
      ap (λ (x : Replica). replayed_from r.identity r.draw x r.bytes) (opened_is r.from r.opened)
      ∙ ap (replayed_from r.identity r.draw from.replica) (same_bytes input bytes r.bytes at.given r.input_is)

  not_stopped : (u : Option Story) (report : Report) (r : Replays input (Some s) u report) → EntriesFollow from.owed → (behind_all r).stop ≡ None
  not_stopped u report r follow = ap (λ (x : Replay). x.stop) (behind_is u report r) ∙ laws.stops r.identity r.draw from bytes at.begins at.front follow

  -- ---- by its status

  follows : (status : Status) (left : Option (List ℕ)) (u : Option Story) (report : Report) (before after : Option (List ℕ)) → ReplayEnds status input left (Some s) u report before after
      → ReplayFollows status from bytes (Some s) u report
  follows Done left u report before after ends =
      let r = ends.0.replays in
      record {
        recovers = replay_recovers u report r;
        stops = λ follow. tt;
        whole = λ follow is. record {
          replay = replayed_from r.identity r.draw from.replica bytes;
          all = laws.whole r.identity r.draw from bytes at.begins at.front is follow;
          held = subst (λ (x : Replay). IfSome u (λ _. held_by OfReplica (seen u) ≡ Ok (held_of_replay x))) (behind_is u report r) ends.0.carried.holds.read;
        };
      }
  follows (LogDamaged pos) left u report before after ends = record {
    recovers = replay_recovers u report ends.replays;
    stops = λ follow. cut_there pos (ends_replay u report ends.replays (damaged pos) ends.ends);
    whole = λ follow is. tt;
  }
  follows (LogForeign pos kind) left u report before after ends = absurd (not_foreign pos kind (ends_replay u report ends.replays (foreign pos kind) ends.ends))
  follows (Differs pos code table key) left u report before after ends = record {
    recovers = replay_recovers u report ends.replays;
    stops = λ follow. never _ _ (sym (not_stopped u report ends.replays follow) ∙ ends.stops);
    whole = λ follow is. tt;
  }
    where
      never : (A : Type 0) (x : A) → Path (Option A) None (Some x) → ⊥
      never A x is = cc
  follows ReadFault left u report before after ends = record { recovers = replay_recovers u report ends.replays; stops = λ follow. tt; whole = λ follow is. tt }
  follows WriteFault left u report before after ends = record { recovers = replay_recovers u report ends.replays; stops = λ follow. tt; whole = λ follow is. tt }
  follows ReplicaDisk left u report before after (inl none) = record { recovers = idle_recovers left u report before after none; stops = λ follow. tt; whole = λ follow is. tt }
  follows ReplicaDisk left u report before after (inr ceased) = record { recovers = replay_recovers u report ceased.replays; stops = λ follow. tt; whole = λ follow is. tt }
  follows (ReplicaDamaged file place) left u report before after ends = absurd (never_both (held_in from.replica) (record { file = file; at = place }) at.held ends.0)
  follows NoMemory left u report before after (inl none) = record { recovers = idle_recovers left u report before after none; stops = λ follow. tt; whole = λ follow is. tt }
  follows NoMemory left u report before after (inr ceased) = record { recovers = replay_recovers u report ceased.replays; stops = λ follow. tt; whole = λ follow is. tt }
  follows BadWords left u report before after ends = absurd ends
  follows (BadScript place) left u report before after ends = absurd ends
  follows SourceDisk left u report before after ends = absurd ends
  follows (SourceDamaged file place) left u report before after ends = absurd ends

pub replays_follow : Laws → ReplaysFollow
replays_follow laws status input left None u report before after ends = tt
replays_follow laws status input left (Some s) u report before after ends = λ from bytes at. follows laws s input from bytes at status left u report before after ends
