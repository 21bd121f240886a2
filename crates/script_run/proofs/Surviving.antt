-- What a crash leaves of both disks at any moment goes on, command by command.
use Rattle.std.proofs.Common.{◌≡◌, inl, inr, ◌≤◌, ◌<◌, ℕ, List, [], ◌∷◌, ◌++◌, length, map, Option, Some, None, Ok, IfSome, refl, sym, ◌∙◌, subst, arith, append-nil}
use Rattle.std.specs.Prelude.{◌^◌, slice_get}
use Rattle.std.proofs.lemmas.List.{map-append}
use Rattle.port_traits.specs.declared.identity.Draw.{Draw}
use Rattle.answer_text.specs.declared.report.Mark.{Mark}
use Rattle.disk_model.specs.Story.{Story, count, seen}
use Rattle.disk_model.specs.Moments.{Each, GoesOn}
use Rattle.disk_model.proofs.Moments.{on_count}
use Rattle.store_model.specs.declared.record.Kind.TheVariants.{Source, Replica}
use Rattle.store_model.specs.Held.{Held}
use Rattle.store_model.specs.Stores.{held_by}
use Rattle.run_stores.specs.durable_runs.Laws.{HasFirstLog, RunsLast, SourcesLast}
use Rattle.run_stores.specs.durable_runs.Marks.{NameNow, Named, replica_mark, source_mark}
use Rattle.run_stores.specs.durable_runs.Replicas.{Carries, CarriesTo, ReplicaStands}
use Rattle.run_stores.specs.durable_runs.Runs.{CallsFit, Lasts, behind_steps}
use Rattle.run_stores.specs.durable_runs.Sources.{SourceLasts, SourceRuns, SourceStands, Stored, source_side, stored_in}
use Rattle.durable_replica.proofs.of_store_replica.of_durable_runs.States.{carries_behind, carries_idle, carries_images, carries_join, carries_marks, carries_to_widen, carries_widen}
use Rattle.durable_replica.specs.replica_node.Kept.{held_of}
use Rattle.run_laws.specs.log_entries.declared.entries.Entry.{Entry}
use Rattle.run_laws.specs.session_model.Machine.{Whole}
use Rattle.run_laws.specs.run_model.replica_model.Replica.{Replica as ReplicaNow}
use Rattle.run_laws.specs.run_model.Asked.{Asked, say, select, take_bytes, take_groups, checkpoint_source, checkpoint_replica, restart_source, restart_replica}
use Rattle.run_laws.specs.run_model.Run.{Names, Both, end_of, next}
use Rattle.run_laws.specs.run_model.States.{IsOnTheWay, IsStateOf}
use Rattle.script_run.specs.Survives.{CarriedSince, CarriesOn, CarriesSome, IsHeldOf, IsHeldOnTheWay, Lasted, LastsOn, ReplicaSurvives, Survives}

-- a disk had no more calls before
pub fits_before : (t u : Option Story) → GoesOn t u → CallsFit u → CallsFit t
fits_before None u on fits = tt
fits_before (Some s) None on fits = absurd on
fits_before (Some s) (Some r) on fits = less (count (Some s)) (count (Some r)) (on_count (Some s) (Some r) on) fits
  where
    less : (n m : ℕ) → n ≤ m → m < 2 ^ 64 → n < 2 ^ 64
    less n m under fits = omega (arith, under, fits)

-- ---- the source's disk

-- a run behind what lasted
pub lasts_on : RunsLast source_side → (t u : Option Story) (start mid : Stored) (es more : List (Entry Whole)) (old new : List Mark) → GoesOn t u → behind_steps source_side es start ≡ Some mid
    → (CallsFit u → SourceRuns t u mid more old new) → LastsOn t u start es (es ++ more) old new
lasts_on law t u start mid es more old new on reached runs first lasted fits = law.goes_on first t u start mid es more (map source_mark old) (map source_mark new) (lasted (fits_before t u on fits)) reached (runs fits)

-- one that puts out nothing
pub lasts_still : RunsLast source_side → (t u : Option Story) (start mid : Stored) (es : List (Entry Whole)) (old new : List Mark) → GoesOn t u → behind_steps source_side es start ≡ Some mid
    → (CallsFit u → SourceRuns t u mid [] old new) → LastsOn t u start es es old new
lasts_still law t u start mid es old new on reached runs =
    subst (λ (xs : List (Entry Whole)). LastsOn t u start es xs old new) (append-nil es) (lasts_on law t u start mid es [] old new on reached runs)

-- no call, while the replica pushed marks
pub lasts_rest : RunsLast source_side → (t : Option Story) (start now : Stored) (es : List (Entry Whole)) (old new more : List Mark) → new ≡ old ++ more → behind_steps source_side es start ≡ Some now → Each t (SourceStands now)
    → (CallsFit t → IfSome t (λ _. NameNow (count t) now.held.number (map source_mark more))) → LastsOn t t start es es old new
lasts_rest law t start now es old new more is reached each names first lasted fits =
    subst (λ (ms : List Mark). SourceLasts first t start es ms) (sym is)
    (subst (λ (ns : List Named). Lasts source_side first t start es ns) (sym (map-append source_mark old more))
    (law.rests first t start now es (map source_mark old) (map source_mark more) (lasted fits) reached each (names fits)))

-- what lasted is what each image holds
pub survives_by : SourcesLast → (t u : Option Story) (held : Held) (es : List (Entry Whole)) (marks : List Mark) → held_by Source (seen t) ≡ Ok held → HasFirstLog es held
    → Lasted t u (stored_in held (seen t)) es marks → Survives t u es marks
survives_by law t u held es marks holds first lasted = record {
  held = held;
  holds = holds;
  images = λ fits. law.images t u (stored_in held (seen t)) es marks first (lasted fits);
  behind = λ fits. law.behind t u (stored_in held (seen t)) es marks (lasted fits);
}

-- ---- states of the replica

-- as a command begins the replica is on its way
pub way_begins : (names : Names) (b : Both) (c : Asked) (d : Draw) (r : ReplicaNow) → r ≡ b.replica → IsOnTheWay names b c d r
way_begins names b (say n text) d r is = is
way_begins names b (select text) d r is = is
way_begins names b (take_bytes n) d r is = is
way_begins names b (take_groups n) d r is = (0, is)
way_begins names b checkpoint_source d r is = is
way_begins names b checkpoint_replica d r is = is
way_begins names b restart_source d r is = is
way_begins names b restart_replica d r is = is

pub held_here : (names : Names) (b : Both) (c : Asked) (d : Draw) → IsHeldOnTheWay names b c d (held_of b.replica)
held_here names b c d = (b.replica, (way_begins names b c d b.replica refl, refl))

-- a state of commands is one with a command more
state_more : (names : Names) (b : Both) (cs : List Asked) (ds : List Draw) (d : Draw) (r : ReplicaNow) → IsStateOf names b cs ds r → IsStateOf names b cs (ds ++ d ∷ []) r
state_more names b [] ds d r state = state
state_more names b (c ∷ cs) [] d r state = inl (way_begins names b c d r state)
state_more names b (c ∷ cs) (e ∷ ds) d r (inl way) = inl way
state_more names b (c ∷ cs) (e ∷ ds) d r (inr later) = inr (state_more names (next names b c e).both cs ds d r later)

-- and so is what the replica is on the way of that
state_way : (names : Names) (b : Both) (cs : List Asked) (ds : List Draw) (d : Draw) (c : Asked) (r : ReplicaNow) → slice_get cs (length ds) ≡ Some c → IsOnTheWay names (end_of names b cs ds) c d r
    → IsStateOf names b cs (ds ++ d ∷ []) r
state_way names b [] ds d c r is way = cc
state_way names b (x ∷ cs) [] d c r is way = let same : x ≡ c = cc in inl (subst (λ (y : Asked). IsOnTheWay names b y d r) (sym same) way)
state_way names b (x ∷ cs) (y ∷ ds) d c r is way = inr (state_way names (next names b x y).both cs ds d c r is way)

-- ---- the replica's disk

-- no call, while the source pushed marks
pub carries_rest : (P : Held → Type 0) (t : Option Story) (held : Held) (old new more : List Mark) → new ≡ old ++ more → P held → Each t (ReplicaStands held)
    → (CallsFit t → IfSome t (λ _. NameNow (count t) held.number (map replica_mark more))) → CallsFit t → CarriesTo P t t held held old new
carries_rest P t held old new more is state each names fits =
    subst (λ (ms : List Mark). CarriesTo P t t held held old ms) (sym is) (carries_idle P t held old more state each (names fits))

-- no call, and no mark
pub carries_still : (P : Held → Type 0) (t : Option Story) (held : Held) (old new : List Mark) → new ≡ old → P held → Each t (ReplicaStands held) → CarriesTo P t t held held old new
carries_still P t held old new same state each =
    subst (λ (ms : List Mark). CarriesTo P t t held held old ms) (append-nil old ∙ sym same) (carries_idle P t held old [] state each (none t))
  where
    none : (t : Option Story) → IfSome t (λ _. NameNow (count t) held.number [])
    none None = tt
    none (Some s) = tt

-- a command carried on is one that goes on somehow
pub on_some : (t u : Option Story) (names : Names) (b : Both) (c : Asked) (d : Draw) (old new : List Mark) → CarriesOn t u names b c d old new → CarriesSome t u names b c d old new
on_some t u names b c d old new carries fits = (carries fits).carries

module _ (names : Names) (first : Both) (cs : List Asked) (ds : List Draw) (d : Draw) (c : Asked) (is : slice_get cs (length ds) ≡ Some c) where
  abbrev More : Held → Type 0
  More = IsHeldOf names first cs (ds ++ d ∷ [])

  before : (held : Held) → IsHeldOf names first cs ds held → More held
  before held state = (state.0, (state_more names first cs ds d state.0 state.1.0, state.1.1))

  way : (held : Held) → IsHeldOnTheWay names (end_of names first cs ds) c d held → More held
  way held state = (state.0, (state_way names first cs ds d c state.0 is state.1.0, state.1.1))

  -- what the replica's disk went through until then, with a command that was carried out
  pub carried_next : (t u v : Option Story) (old new : List Mark) → GoesOn u v → CarriedSince t u names first cs ds (end_of names first cs ds).replica old
      → CarriesOn u v names (end_of names first cs ds) c d old new → CarriedSince t v names first cs (ds ++ d ∷ []) (next names (end_of names first cs ds) c d).both.replica new
  carried_next t u v old new on since carries fits =
      let b : Both = end_of names first cs ds in
      let b' : Both = (next names b c d).both in
      carries_join More t u v (held_of first.replica) (held_of b.replica) (held_of b'.replica) [] old new
      (carries_to_widen (IsHeldOf names first cs ds) More t u (held_of first.replica) (held_of b.replica) [] old before (since (fits_before u v on fits)))
      (carries_to_widen (IsHeldOnTheWay names b c d) More u v (held_of b.replica) (held_of b'.replica) old new way (carries fits))

  -- and with one that was not
  pub carried_some : (t u v : Option Story) (old new : List Mark) → GoesOn u v → CarriedSince t u names first cs ds (end_of names first cs ds).replica old
      → CarriesSome u v names (end_of names first cs ds) c d old new → CallsFit v → Carries More t v (held_of first.replica) [] new
  carried_some t u v old new on since carries fits =
      let b : Both = end_of names first cs ds in
      carries_behind More t u v (held_of first.replica) (held_of b.replica) [] old new
      (carries_to_widen (IsHeldOf names first cs ds) More t u (held_of first.replica) (held_of b.replica) [] old before (since (fits_before u v on fits)))
      (carries_widen (IsHeldOnTheWay names b c d) More u v (held_of b.replica) old new way (carries fits))

-- what it went through is what each image holds
pub rep_survives_by : (State : Held → Type 0) (t u : Option Story) (held : Held) (marks : List Mark) → held_by Replica (seen t) ≡ Ok held → (CallsFit u → Carries State t u held [] marks)
    → ReplicaSurvives t u State marks
rep_survives_by State t u held marks holds carried = record {
  held = held;
  holds = holds;
  images = λ fits. carries_images State t u held marks (carried fits);
  behind = λ fits. carries_marks State t u held marks (carried fits);
}

pub rep_survives_since : (t u : Option Story) (names : Names) (b : Both) (cs : List Asked) (ds : List Draw) (now : ReplicaNow) (marks : List Mark) → held_by Replica (seen t) ≡ Ok (held_of b.replica)
    → CarriedSince t u names b cs ds now marks → ReplicaSurvives t u (IsHeldOf names b cs ds) marks
rep_survives_since t u names b cs ds now marks holds since = rep_survives_by (IsHeldOf names b cs ds) t u (held_of b.replica) marks holds (λ fits. (since fits).carries)
