-- How a replay ends.
use Rattle.std.proofs.Common.{◌≡◌, ◌⊎◌, inl, inr, ℕ, ◌+◌, true, List, [], ◌∷◌, ◌++◌, Option, Some, None, Ok, refl, sym, ap, ◌∙◌, arith, subst, append-nil, length-append, map}
use Rattle.std.proofs.lemmas.List.{take-append-le}
use Rattle.std.specs.Prelude.{IfSome}
use Rattle.answer_text.specs.declared.report.Mark.{Mark}
use Rattle.answer_text.specs.declared.report.Report.{Report}
use Rattle.answer_text.specs.declared.status.Status.{Status}
use Rattle.answer_text.specs.declared.status.Status.TheVariants.{Done, BadWords, BadScript, ReadFault, WriteFault, SourceDisk, ReplicaDisk, SourceDamaged, ReplicaDamaged, LogDamaged, LogForeign, Differs, NoMemory}
use Rattle.port_traits.specs.declared.identity.Identity.{Identity}
use Rattle.port_traits.specs.declared.identity.Draw.{Draw}
use Rattle.disk_model.specs.Story.{Story, count, seen}
use Rattle.durable_replica.specs.store_replica.durable_runs.Marks.{AreBehind, replica_mark}
use Rattle.durable_replica.specs.store_replica.durable_runs.Runs.{CallsFit}
use Rattle.disk_model.specs.Moments.{Each, GoesOn, Since}
use Rattle.store_model.specs.declared.record.Kind.TheVariants.{Replica as OfReplica}
use Rattle.store_model.specs.Held.{Held}
use Rattle.store_model.specs.Stores.{held_by}
use Rattle.durable_replica.specs.store_replica.durable_runs.Replicas.{ReplicaStands, StateImage}
use Rattle.durable_replica.proofs.of_store_replica.of_durable_runs.States.{carries_images, carries_marks, carries_widen}
use Rattle.durable_replica.specs.store_replica.Writing.{OpensOn}
use Rattle.durable_replica.proofs.of_store_replica.Standings.{each_stands, opens_now}
use Rattle.durable_replica.specs.replica_node.apply_model.Stops.{Differs as Stop}
use Rattle.log_reader.specs.log_model.Log.{LogPlace}
use Rattle.log_reader.specs.Behind.{IsLogFront}
use Rattle.durable_replica.specs.replica_node.Kept.{held_of}
use Rattle.durable_replica.specs.replica_node.replica_model.Lines.{applied_words, replayed_line}
use Rattle.durable_replica.specs.replica_node.replica_model.Replica.{Replica}
use Rattle.durable_replica.specs.replica_node.replica_model.Replaying.{Replay, all_replayed, replay_by, replayed_from}
use Rattle.run_streams.specs.Stops.{failed_writes}
use Rattle.run_streams.specs.Wrote.{Wrote, WroteFront}
use Rattle.log_reader.specs.log_file_model.Walk.{Ending, ended, damaged, foreign, Grouped, Piece}
use Rattle.log_reader.specs.log_file_model.Passing.{with_pieces}
use Rattle.replay_log.specs.declared.replaying.Replaying as code_replaying
use Rattle.replay_log.specs.Ends.{AreMarks, CarriedOut, Ceased, Holds, IsBehind, Opened, Replayed, ReplayedFront, ReplayEnds, Replays, Reports, Stopped, Survives, held_in}
use Rattle.replay_log.specs.Replaying.{Broke, CameTo, ComesTo, Lasts, Stands, Tells, Through, UpTo, UpToFault, is_told, kept, line_of, read_by}
use Rattle.replay_log.proofs.Groups.{stopped_there}
use Rattle.replay_log.proofs.Keeping.{held_kept}
use Rattle.replay_log.proofs.Taking.{broke_of}

-- ---- the replay of a whole log

replay_of : (identity : Identity) (draw : Draw) (from : Replica) (bytes : List ℕ) (ps : List Piece) → (read_by from bytes).pieces ≡ ps
    → replayed_from identity draw from bytes ≡ all_replayed identity draw ps (replay_by from)
unfolding replayed_from
replay_of identity draw from bytes ps is = ap (λ (qs : List Piece). all_replayed identity draw qs (replay_by from)) is

replay_to : (identity : Identity) (draw : Draw) (from : Replica) (bytes : List ℕ) (ps : List Piece) (more : Grouped) (stop : Stop) → read_by from bytes ≡ with_pieces ps more
    → (all_replayed identity draw ps (replay_by from)).stop ≡ Some stop → replayed_from identity draw from bytes ≡ all_replayed identity draw ps (replay_by from)
replay_to identity draw from bytes ps more stop is stopped =
    replay_of identity draw from bytes (ps ++ more.pieces) (ap (λ (g : Grouped). g.pieces) is) ∙ stopped_there identity draw ps more.pieces (replay_by from) stop refl stopped

-- its line is what the replica tells
line_is : (r : code_replaying.Replaying) (s t : Replay) → Stands r s → t ≡ s → line_of r ≡ replayed_line t
line_is r s t stands same =
    ap (λ (n : ℕ). applied_words n (record { log = r.log; pos = r.pos }) ++ 0x0a ∷ []) stands.count
    ∙ ap (λ (p : LogPlace). applied_words s.count p ++ 0x0a ∷ []) stands.place
    ∙ sym (ap replayed_line same)

-- ---- on the disk

-- what is behind the first of some groups is behind the first of more
more_pieces : (identity : Identity) (draw : Draw) (from : Replica) (ps qs : List Piece) (h : Held) → IsBehind identity draw from ps h → IsBehind identity draw from (ps ++ qs) h
more_pieces identity draw from ps qs h state = record {
  first = state.first;
  within = let le = state.within in omega (arith, le, length-append ps qs);
  is = state.is ∙ ap (λ (xs : List Piece). held_in (all_replayed identity draw xs (replay_by from))) (sym (take-append-le state.first ps qs state.within));
}

-- an image that holds a state, whatever it was called that the disk held
same_held : (t : Option Story) (u : Option Story) (goes : GoesOn t u) (P : Held → Type 0) (held first : Held) (marks : List Mark) → OpensOn t first
    → IfSome t (λ _. held_by OfReplica (seen t) ≡ Ok held) → Since (count t) u (StateImage P first marks) → Since (count t) u (StateImage P held marks)
same_held None None goes P held first marks opens holds since = record { after = λ n le ge image left. absurd left; during = λ n le lt image left. absurd left }
same_held None (Some u) goes P held first marks opens holds since = absurd goes
same_held (Some t) u goes P held first marks opens holds since =
    let same : first ≡ held = ok_same opens holds in
    subst (λ (h : Held). Since (count (Some t)) u (StateImage P h marks)) same since
  where
    ok_same : held_by OfReplica (seen (Some t)) ≡ Ok first → held_by OfReplica (seen (Some t)) ≡ Ok held → first ≡ held
    ok_same a b = cc

module _ (identity : Identity) (draw : Draw) (from : Replica) (ps qs all : List Piece) (is : all ≡ ps ++ qs) (t u : Option Story) (marks : List Mark) (opens : OpensOn t (held_of from))
    (broke : Broke identity draw from ps t u marks) where
  pub survives_all : Survives (λ held. IsBehind identity draw from all) t u marks
  survives_all held holds fit =
      same_held t u broke.goes (IsBehind identity draw from all) held (held_of from) marks opens holds
      (carries_images (IsBehind identity draw from all) t u (held_of from) marks
      (carries_widen (IsBehind identity draw from ps) (IsBehind identity draw from all) t u (held_of from) [] marks
      (λ h state. subst (λ (xs : List Piece). IsBehind identity draw from xs h) (sym is) (more_pieces identity draw from ps qs h state)) (broke.carries fit)))

  pub marks_behind : CallsFit u → IfSome u (λ _. AreBehind (count u) (map replica_mark marks))
  marks_behind fit = carries_marks (IsBehind identity draw from ps) t u (held_of from) marks (broke.carries fit)

holds_now : (u : Option Story) (r : code_replaying.Replaying) (s t : Replay) → Stands r s → t ≡ s → (identity : Identity) (draw : Draw) (from : Replica) (ps : List Piece) (first : Option Story) (marks : List Mark)
    → Lasts identity draw from ps first u r marks → Holds u t
holds_now u r s t stands same identity draw from ps first marks lasts =
    let there : held_of (kept r) ≡ held_in t = held_kept (kept r) s stands.keeps ∙ sym (ap held_in same) in
    record {
      read = subst (λ (h : Held). IfSome u (λ _. held_by OfReplica (seen u) ≡ Ok h)) there (opens_now u r.node.store (held_of (kept r)) lasts.on.on);
      left = subst (λ (h : Held). Each u (ReplicaStands h)) there (each_stands u r.node.store (held_of (kept r)) lasts.on.on);
    }

marks_now : (r : code_replaying.Replaying) (s t : Replay) (first : ℕ) (marks : List Mark) → Stands r s → t ≡ s → AreMarks first r.count (kept r).number marks → AreMarks first t.count t.number marks
marks_now r s t first marks stands same are = record {
  named = are.named;
  each = are.each ∙ stands.count ∙ sym (ap (λ (x : Replay). x.count) same);
  reached = are.reached ∙ stands.keeps.number ∙ sym (ap (λ (x : Replay). x.number) same);
}

-- ---- by the status

module _ (start left : Option (List ℕ)) (t u : Option Story) (report : Report) (r : code_replaying.Replaying) (before after : Option (List ℕ)) (identity : Identity) (draw : Draw)
    (told : Reports identity draw report) (from : Replica) (opened : Opened t from) (opens : OpensOn t (held_of from)) where
  -- the groups of the log on the input, of which some were carried out
  abbrev replays_by : (ps : List Piece) → IsLogFront (read_by from) start ps → Broke identity draw from ps t u report.marks → Replays start t u report
  replays_by ps log broke = record {
    identity = identity;
    draw = draw;
    told = told;
    from = from;
    opened = opened;
    bytes = log.bytes;
    input_is = log.input_is;
    survives = survives_all identity draw from ps log.more.pieces _ (ap (λ (g : Grouped). g.pieces) log.groups) t u report.marks opens broke;
    behind = marks_behind identity draw from ps log.more.pieces _ (ap (λ (g : Grouped). g.pieces) log.groups) t u report.marks opens broke;
  }

  -- ---- all of them

  module _ (ending : Ending) (through : Through ending identity draw from start t u r report.marks) where
    ending_same : record { pieces = through.pieces; ending = ending } ≡ with_pieces through.pieces (record { pieces = []; ending = ending })
    ending_same = ap (λ (ps : List Piece). record { pieces = ps; ending = ending }) (sym (append-nil through.pieces))

    abbrev front : IsLogFront (read_by from) start through.pieces
    front = record { bytes = through.log.bytes; input_is = through.log.input_is; more = record { pieces = []; ending = ending }; groups = through.log.groups ∙ ending_same }

    abbrev all_of : Replays start t u report
    all_of = replays_by through.pieces front (broke_of identity draw from through.pieces t u r report.marks through.lasts)

    replay_is : replayed_from identity draw from through.log.bytes ≡ all_replayed identity draw through.pieces (replay_by from)
    replay_is = replay_of identity draw from through.log.bytes through.pieces (ap (λ (g : Grouped). g.pieces) through.log.groups)

    carried : CarriedOut all_of
    carried = record {
      marks = marks_now r _ _ from.number report.marks through.stands replay_is through.lasts.marked;
      holds = holds_now u r _ _ through.stands replay_is identity draw from through.pieces t report.marks through.lasts;
    }

    all_replays : Wrote before after (line_of r) → Replayed ending start t u report before after
    all_replays wrote = record {
      replays = all_of;
      carried = carried;
      ends = ap (λ (g : Grouped). g.ending) through.log.groups;
      through = ap (λ (s : Replay). s.stop) replay_is ∙ through.running;
      wrote = subst (λ (line : List ℕ). Wrote before after line) (line_is r _ _ through.stands replay_is) wrote;
    }

    all_front : WroteFront before after (line_of r) → ReplayedFront start t u report before after
    all_front wrote = record {
      replays = all_of;
      carried = carried;
      front = subst (λ (line : List ℕ). WroteFront before after line) (line_is r _ _ through.stands replay_is) wrote;
    }

  -- ---- up to one that differs

  module _ (stop : Stop) (up_to : UpTo stop identity draw from start t u r report.marks) where
    abbrev first_of : Replays start t u report
    first_of = replays_by up_to.pieces up_to.log (broke_of identity draw from up_to.pieces t u r report.marks up_to.lasts)

    stop_is : replayed_from identity draw from up_to.log.bytes ≡ all_replayed identity draw up_to.pieces (replay_by from)
    stop_is = replay_to identity draw from up_to.log.bytes up_to.pieces up_to.log.more stop up_to.log.groups up_to.stopped

    carried_first : CarriedOut first_of
    carried_first = record {
      marks = marks_now r _ _ from.number report.marks up_to.stands stop_is up_to.lasts.marked;
      holds = holds_now u r _ _ up_to.stands stop_is identity draw from up_to.pieces t report.marks up_to.lasts;
    }

    stop_replays : Wrote before after (line_of r) → Stopped stop start t u report before after
    stop_replays wrote = record {
      replays = first_of;
      carried = carried_first;
      stops = ap (λ (s : Replay). s.stop) stop_is ∙ up_to.stopped;
      wrote = subst (λ (line : List ℕ). Wrote before after line) (line_is r _ _ up_to.stands stop_is) wrote;
    }

    stop_front : WroteFront before after (line_of r) → ReplayedFront start t u report before after
    stop_front wrote = record {
      replays = first_of;
      carried = carried_first;
      front = subst (λ (line : List ℕ). WroteFront before after line) (line_is r _ _ up_to.stands stop_is) wrote;
    }

  -- ---- up to a fault

  ceased_by : UpToFault identity draw from start t u report.marks → after ≡ before → Ceased start t u report before after
  ceased_by fault same = record { replays = replays_by fault.pieces fault.log fault.broke; named = fault.broke.named; written = same }

  ceases : (came : Status) → ComesTo came identity draw from start left t u r report.marks → after ≡ before → Ceased start t u report before after
  ceases came comes same = ceased_by (fault_of came comes) same
    where
      through_fault : (ending : Ending) → Through ending identity draw from start t u r report.marks → UpToFault identity draw from start t u report.marks
      through_fault ending through =
          record { pieces = through.pieces; log = front ending through; broke = broke_of identity draw from through.pieces t u r report.marks through.lasts }

      fault_of : (status : Status) → ComesTo status identity draw from start left t u r report.marks → UpToFault identity draw from start t u report.marks
      fault_of Done comes = through_fault ended comes.0
      fault_of (LogDamaged pos) comes = through_fault (damaged pos) comes
      fault_of (LogForeign pos kind) comes = through_fault (foreign pos kind) comes
      fault_of (Differs pos code table key) comes =
          record { pieces = comes.pieces; log = comes.log; broke = broke_of identity draw from comes.pieces t u r report.marks comes.lasts }
      fault_of ReadFault comes = comes
      fault_of ReplicaDisk comes = comes
      fault_of NoMemory comes = comes
      fault_of BadWords comes = absurd comes
      fault_of (BadScript at) comes = absurd comes
      fault_of WriteFault comes = absurd comes
      fault_of SourceDisk comes = absurd comes
      fault_of (SourceDamaged file at) comes = absurd comes
      fault_of (ReplicaDamaged file at) comes = absurd comes

  -- ---- what was written

  -- the whole line
  ends_told : (came : Status) → ComesTo came identity draw from start left t u r report.marks → is_told came ≡ true → Wrote before after (line_of r)
      → ReplayEnds came start left t u report before after
  ends_told Done comes line wrote = (all_replays ended comes.0 wrote, comes.1)
  ends_told (LogDamaged pos) comes line wrote = all_replays (damaged pos) comes wrote
  ends_told (LogForeign pos kind) comes line wrote = all_replays (foreign pos kind) comes wrote
  ends_told (Differs pos code table key) comes line wrote = stop_replays _ comes wrote
  ends_told ReadFault comes line wrote = cc
  ends_told ReplicaDisk comes line wrote = cc
  ends_told NoMemory comes line wrote = cc
  ends_told BadWords comes line wrote = absurd comes
  ends_told (BadScript at) comes line wrote = absurd comes
  ends_told WriteFault comes line wrote = absurd comes
  ends_told SourceDisk comes line wrote = absurd comes
  ends_told (SourceDamaged file at) comes line wrote = absurd comes
  ends_told (ReplicaDamaged file at) comes line wrote = absurd comes

  -- a front of it: all groups were carried out, or those up to one that differs
  abbrev CameThrough : Type 0
  CameThrough = ((ending : Ending) × Through ending identity draw from start t u r report.marks) ⊎ ((stop : Stop) × UpTo stop identity draw from start t u r report.marks)

  came_through : (came : Status) → ComesTo came identity draw from start left t u r report.marks → is_told came ≡ true → CameThrough
  came_through Done comes line = inl (ended, comes.0)
  came_through (LogDamaged pos) comes line = inl (damaged pos, comes)
  came_through (LogForeign pos kind) comes line = inl (foreign pos kind, comes)
  came_through (Differs pos code table key) comes line = inr (record { place = pos; code = code; table = table; key = key }, comes)
  came_through ReadFault comes line = cc
  came_through ReplicaDisk comes line = cc
  came_through NoMemory comes line = cc
  came_through BadWords comes line = absurd comes
  came_through (BadScript at) comes line = absurd comes
  came_through WriteFault comes line = absurd comes
  came_through SourceDisk comes line = absurd comes
  came_through (SourceDamaged file at) comes line = absurd comes
  came_through (ReplicaDamaged file at) comes line = absurd comes

  front_by : CameThrough → WroteFront before after (line_of r) → ReplayedFront start t u report before after
  front_by (inl came) wrote = all_front came.0 came.1 wrote
  front_by (inr came) wrote = stop_front came.0 came.1 wrote

  ends_front : (came : Status) → ComesTo came identity draw from start left t u r report.marks → is_told came ≡ true → WroteFront before after (line_of r)
      → ReplayedFront start t u report before after
  ends_front came comes line wrote = front_by (came_through came comes line) wrote

  comes_as : (came status : Status) → status ≡ came → ComesTo came identity draw from start left t u r report.marks → ComesTo status identity draw from start left t u r report.marks
  comes_as came status same comes = subst (λ (s : Status). ComesTo s identity draw from start left t u r report.marks) (sym same) comes

  ends_by : (came : Status) → ComesTo came identity draw from start left t u r report.marks → (status : Status) → Tells came status r before after
      → ReplayEnds status start left t u report before after
  ends_by came comes WriteFault tells = ends_front came comes tells.0 tells.1
  ends_by came comes ReadFault tells = ceases came comes tells.1
  ends_by came comes ReplicaDisk tells = inr (ceases came comes tells.1)
  ends_by came comes NoMemory tells = inr (ceases came comes tells)
  ends_by came comes Done tells = ends_told Done (comes_as came Done tells.0 comes) refl tells.1
  ends_by came comes (LogDamaged pos) tells = ends_told (LogDamaged pos) (comes_as came (LogDamaged pos) tells.0 comes) refl tells.1
  ends_by came comes (LogForeign pos kind) tells = ends_told (LogForeign pos kind) (comes_as came (LogForeign pos kind) tells.0 comes) refl tells.1
  ends_by came comes (Differs pos code table key) tells =
      ends_told (Differs pos code table key) (comes_as came (Differs pos code table key) tells.0 comes) refl tells.1
  ends_by came comes BadWords tells = absurd (comes_as came BadWords tells.0 comes)
  ends_by came comes (BadScript at) tells = absurd (comes_as came (BadScript at) tells.0 comes)
  ends_by came comes SourceDisk tells = absurd (comes_as came SourceDisk tells.0 comes)
  ends_by came comes (SourceDamaged file at) tells = absurd (comes_as came (SourceDamaged file at) tells.0 comes)
  ends_by came comes (ReplicaDamaged file at) tells = absurd (comes_as came (ReplicaDamaged file at) tells.0 comes)

pub ends : (start left : Option (List ℕ)) (t u : Option Story) (report : Report) (r : code_replaying.Replaying) (before after : Option (List ℕ)) (came status : Status)
    → CameTo came start left t u report r → Tells came status r before after → ReplayEnds status start left t u report before after
ends start left t u report r before after came status came_to tells =
    ends_by start left t u report r before after came_to.identity came_to.draw came_to.told came_to.from came_to.opened came_to.holds came came_to.comes status tells

-- the groups came to no fault of the output
pub not_written : (came : Status) (identity : Identity) (draw : Draw) (from : Replica) (start left : Option (List ℕ)) (t u : Option Story) (r : code_replaying.Replaying) (marks : List Mark)
    → ComesTo came identity draw from start left t u r marks → failed_writes came ≡ 0
not_written Done identity draw from start left t u r marks comes = refl
not_written BadWords identity draw from start left t u r marks comes = refl
not_written (BadScript at) identity draw from start left t u r marks comes = refl
not_written ReadFault identity draw from start left t u r marks comes = refl
not_written WriteFault identity draw from start left t u r marks comes = absurd comes
not_written SourceDisk identity draw from start left t u r marks comes = refl
not_written ReplicaDisk identity draw from start left t u r marks comes = refl
not_written (SourceDamaged file at) identity draw from start left t u r marks comes = refl
not_written (ReplicaDamaged file at) identity draw from start left t u r marks comes = refl
not_written (LogDamaged pos) identity draw from start left t u r marks comes = refl
not_written (LogForeign pos kind) identity draw from start left t u r marks comes = refl
not_written (Differs pos code table key) identity draw from start left t u r marks comes = refl
not_written NoMemory identity draw from start left t u r marks comes = refl

-- ---- from the replay to what it tells

-- a status that came of no other
pub read_told : (P : Type 0) (came last : Status) (r : code_replaying.Replaying) (before after : Option (List ℕ)) → Tells came last r before after → (came ≡ ReadFault → P) → last ≡ ReadFault → P
read_told P came last r before after tells holds is =
    holds (sym (subst (λ (s : Status). Tells came s r before after) is tells).0)

pub disk_told : (P : Type 0) (came last : Status) (r : code_replaying.Replaying) (before after : Option (List ℕ)) → Tells came last r before after → (came ≡ ReplicaDisk → P) → last ≡ ReplicaDisk → P
disk_told P came last r before after tells holds is =
    holds (sym (subst (λ (s : Status). Tells came s r before after) is tells).0)

pub end_told : (P : Type 0) (came last : Status) (r : code_replaying.Replaying) (before after : Option (List ℕ)) → Tells came last r before after → (came ≡ Done → P) → last ≡ Done → P
end_told P came last r before after tells holds is =
    holds (sym (subst (λ (s : Status). Tells came s r before after) is tells).0)
