-- What each image of the replica's disk has carried out, and no more than was served, command by command.
use Rattle.std.proofs.Common.{◌≡◌, ◌≤◌, ◌<◌, ℕ, ◌+◌, ◌-◌, suc, min, Bool, true, false, ◌==◌, nat_le, List, [], ◌∷◌, ◌++◌, length, map, Option, Some, None, is_some, refl, sym, ap, ◌∙◌, subst, arith, append-nil}
use Rattle.std.specs.Prelude.{◌^◌, if◌then◌else◌}
use Rattle.std.proofs.lemmas.Bool.{le-leb}
use Rattle.std.proofs.lemmas.List.{map-append}
use Rattle.port_traits.specs.declared.identity.Identity.{Identity}
use Rattle.port_traits.specs.declared.identity.Draw.{Draw}
use Rattle.answer_text.specs.declared.report.Mark.{Mark}
use Rattle.disk_model.specs.Story.{Story, count}
use Rattle.disk_model.specs.Moments.{GoesOn, Since}
use Rattle.disk_model.proofs.Moments.{on_count}
use Rattle.store_model.specs.Held.{Held}
use Rattle.durable_source.specs.store_source.Pushed.{NameInTurn}
use Rattle.durable_replica.proofs.of_store_replica.of_durable_runs.Carrying.{served_join}
use Rattle.durable_replica.proofs.of_store_replica.of_durable_runs.Naming.{named_least, named_rises}
use Rattle.durable_replica.proofs.of_store_replica.of_durable_runs.States.{carries_images, states_served}
use Rattle.durable_replica.specs.replica_node.Kept.{held_of}
use Rattle.durable_replica.specs.replica_node.replica_model.Replica.{Replica}
use Rattle.run_stores.specs.durable_runs.Marks.{Named, named, served_mark}
use Rattle.run_stores.specs.durable_runs.Replicas.{Carries, ReplicaImage, Served}
use Rattle.run_stores.specs.durable_runs.Runs.{CallsFit}
use Rattle.run_stores.specs.durable_runs.Sources.{Stored}
use Rattle.run_stores.specs.Carried.{AllSound, CarriedOnTheWay, FollowersAreServed, ImagesHaveCarried}
use Rattle.run_stores.specs.Standing.{StandAt}
use Rattle.run_laws.specs.log_entries.declared.entries.Entry.TheVariants.{LogStart}
use Rattle.run_laws.specs.log_model.Log.{counted_all}
use Rattle.run_laws.specs.session_model.Holding.{Beginning, Holds}
use Rattle.run_laws.specs.session_model.Machine.{kept_entry}
use Rattle.run_laws.specs.session_model.Openings.{opened_from}
use Rattle.run_laws.specs.session_replays.Followed.{EntriesFollow}
use Rattle.run_laws.specs.run_model.Asked.{Asked}
use Rattle.run_laws.specs.run_model.Following.{Follows}
use Rattle.run_laws.specs.run_model.Run.{Names, Both, Starts, both_from, end_of, number_before, place_before, source_from}
use Rattle.run_laws.specs.Laws.{IsSound}
use Rattle.run_laws.specs.Openings.{Begins}
use Rattle.script_run.specs.Marks.{CalledNow, committed_of}
use Rattle.script_run.specs.Survives.{CarriedSince, CarriesSome, IsHeldOf, IsHeldOnTheWay, NamesAll, NamesOn, ReplicaRecovers, ServedSince}
use Rattle.script_run.proofs.Surviving.{fits_before}

-- ---- what marks name

-- later marks lower nothing that was named, and later calls neither
named_later : (start n m : ℕ) (old more : List Mark) → n ≤ m → named start (map served_mark old) n ≤ named start (map served_mark (old ++ more)) m
named_later start n m old more le =
    subst (λ (l : List Named). named start (map served_mark old) n ≤ named start l m) (sym (map-append served_mark old more))
    (named_rises start n m (map served_mark old) (map served_mark more) le)

-- where nothing was committed
pub names_still : (t u : Option Story) (before after : ℕ) (old new more : List Mark) → GoesOn t u → after ≡ before → new ≡ old ++ more → NamesOn t u before after old new
names_still t u before after old new more on same is start fits all =
    let later : named start (map served_mark old) (count t) ≤ named start (map served_mark (old ++ more)) (count u) = named_later start (count t) (count u) old more (on_count t u on) in
    let here : named start (map served_mark old) (count t) ≤ named start (map served_mark new) (count u) =
    subst (λ (ms : List Mark). named start (map served_mark old) (count t) ≤ named start (map served_mark ms) (count u)) (sym is) later in
    omega (arith, all, same, here)

pub names_none : (t u : Option Story) (before after : ℕ) (old new : List Mark) → GoesOn t u → after ≡ before → new ≡ old → NamesOn t u before after old new
names_none t u before after old new on same is = names_still t u before after old new [] on same (is ∙ sym (append-nil old))

-- each of some commits has a mark, of which the last names them all
all_in_turn : (now : Mark) (number start n : ℕ) (m : Mark) (ms : List Mark) → now.rep_calls ≤ n → NameInTurn now number (m ∷ ms) → number + suc (length ms) ≤ named start (map served_mark (m ∷ ms)) n
all_in_turn now number start n m [] le named_in =
    let calls : m.rep_calls ≡ now.rep_calls = ap (λ (x : Mark). x.rep_calls) named_in.0 in
    let number_is : m.committed ≡ number + 1 = ap (λ (x : Mark). x.committed) named_in.0 in
    let there : nat_le m.rep_calls n ≡ true = le-leb m.rep_calls n (omega (arith, calls, le)) in
    rw there (omega (arith, number_is))
all_in_turn now number start n m (x ∷ xs) le named_in =
    let rest : number + 1 + suc (length xs) ≤ named start (map served_mark (x ∷ xs)) n = all_in_turn now (number + 1) start n x xs le named_in.1 in
    omega (arith, rest)

named_behind : (start n : ℕ) (old more : List Mark) → named start (map served_mark more) n ≤ named start (map served_mark (old ++ more)) n
named_behind start n [] more = omega arith
named_behind start n (m ∷ old) more = let rest : named start (map served_mark more) n ≤ named start (map served_mark (old ++ more)) n = named_behind start n old more in omega (arith, rest)

at_most : (n calls : ℕ) → n < 2 ^ 64 → calls ≡ min n (2 ^ 64 - 1) → calls ≤ n
at_most n calls fits is = omega (arith, fits, is)

-- where the source committed and the replica's disk was not called
pub names_said : (t : Option Story) (now : Mark) (before after : ℕ) (old new more : List Mark) → is_some t ≡ true → CalledNow t now.rep_calls → NameInTurn now before more → after ≡ before + length more → new ≡ old ++ more
    → NamesOn t t before after old new
names_said t now before after old new more told called in_turn number is start fits all =
    let calls : now.rep_calls ≤ count t = calls_are t told called fits in
    subst (λ (ms : List Mark). NamesAll t start after ms) (sym is) (by calls more in_turn number)
  where
    calls_are : (t : Option Story) → is_some t ≡ true → CalledNow t now.rep_calls → CallsFit t → now.rep_calls ≤ count t
    calls_are None told called fits = cc
    calls_are (Some s) told called fits = at_most (count (Some s)) now.rep_calls fits called

    by : now.rep_calls ≤ count t → (ms : List Mark) → NameInTurn now before ms → after ≡ before + length ms → NamesAll t start after (old ++ ms)
    by calls [] in_turn number =
        let here : named start (map served_mark old) (count t) ≤ named start (map served_mark (old ++ [])) (count t) = named_later start (count t) (count t) old [] (omega arith) in
        omega (arith, number, all, here)
    by calls (m ∷ ms) in_turn number =
        let there : before + suc (length ms) ≤ named start (map served_mark (m ∷ ms)) (count t) = all_in_turn now before start (count t) m ms calls in_turn in
        let behind : named start (map served_mark (m ∷ ms)) (count t) ≤ named start (map served_mark (old ++ (m ∷ ms))) (count t) = named_behind start (count t) old (m ∷ ms) in
        omega (arith, number, there, behind)

-- ---- no more than was served

-- opening counts nothing
opened_count : (identity : Identity) (draw : Draw) (from : Beginning) → (opened_from identity draw from).state.shared.committed ≡ from.committed
opened_count identity draw from = by (from.place.log == 0)
  where
    by : (b : Bool) → counted_all (map kept_entry (if b then LogStart draw.now identity.server_id ∷ [] else [])) from.committed ≡ from.committed
    by true = refl
    by false = refl

-- before any command the replica has no more than its source
pub served_begins : FollowersAreServed → (names : Names) (src : Draw) (from : Starts) (t u : Option Story) (marks : List Mark) → Follows names (both_from names src from) → Begins from
    → Holds (source_from from) (both_from names src from).machine → CarriedSince t u names (both_from names src from) [] [] from.replica marks → CallsFit u
    → ServedSince t u (source_from from).committed (committed_of (both_from names src from)) marks
served_begins law names src from t u marks follows begins holds since fits =
    let first : Both = both_from names src from in
    let start : ℕ = (source_from from).committed in
    let few : from.replica.number ≤ committed_of first = law names first follows begins holds in
    let same : committed_of first ≡ start = opened_count names.source src (source_from from) in
    record {
      served = states_served (IsHeldOf names first [] []) start t u (held_of from.replica) [] marks
          (λ held state.
          let least : start ≤ named start (map served_mark marks) (count t) = named_least start (count t) (map served_mark marks) in
          omega (arith, ap (λ (h : Held). h.number) state.1.1, ap (λ (x : Replica). x.number) state.1.0, few, same, least))
          (since fits).carries;
      named_all = all_there (committed_of first) start (named start (map served_mark marks) (count u)) same (named_least start (count u) (map served_mark marks));
    }
  where
    all_there : (a b c : ℕ) → a ≡ b → b ≤ c → a ≤ c
    all_there a b c same le = omega (arith, same, le)

-- nor has any image of a command
pub served_more : CarriedOnTheWay → (names : Names) (b : Both) (c : Asked) (d : Draw) (t u v : Option Story) (start : ℕ) (old new more : List Mark) (source : Stored) (replica : Held) → GoesOn t u → GoesOn u v → new ≡ old ++ more
    → Follows names b → IsSound b.from b.machine → Begins b.from → StandAt source replica b.from → (CallsFit u → ServedSince t u start (committed_of b) old) → CarriesSome u v names b c d old new
    → CallsFit v → Served start (count t) v new
served_more law names b c d t u v start old new more source replica first second is follows sound begins stand since carries fits =
    let so_far : ServedSince t u start (committed_of b) old = since (fits_before u v second fits) in
    let later : named start (map served_mark old) (count u) ≤ named start (map served_mark (old ++ more)) (count u) = named_later start (count u) (count u) old more (omega arith) in
    let same : named start (map served_mark (old ++ more)) (count u) ≡ named start (map served_mark new) (count u) = ap (λ (ms : List Mark). named start (map served_mark ms) (count u)) (sym is) in
    let now : Served start (count u) v new =
    states_served (IsHeldOnTheWay names b c d) start u v (held_of b.replica) old new
    (λ held state.
    let few : state.0.number ≤ committed_of b = (law names b c d source replica state.0 follows sound begins stand state.1.0).1 in
    omega (arith, ap (λ (h : Held). h.number) state.1.1, few, so_far.named_all, later, same))
    (carries fits) in
    subst (λ (ms : List Mark). Served start (count t) v ms) (sym is)
    (served_join start t u v old more first second so_far.served (subst (λ (ms : List Mark). Served start (count u) v ms) is now))

-- ---- what each image has carried out

pub recovers_by : ImagesHaveCarried → (names : Names) (src : Draw) (from : Starts) (cs : List Asked) (ds : List Draw) (source : Stored) (t u : Option Story) (marks : List Mark) → (end_of names (both_from names src from) cs ds).from ≡ from
    → Follows names (both_from names src from) → AllSound names (both_from names src from) cs ds → Begins from → StandAt source (held_of from.replica) from
    → (CallsFit u → Carries (IsHeldOf names (both_from names src from) cs ds) t u (held_of from.replica) [] marks) → (CallsFit u → Served (source_from from).committed (count t) u marks)
    → ReplicaRecovers names src from cs ds t u marks
recovers_by law names src from cs ds source t u marks begun follows sounds begins stand carries served fits =
    let first : Both = both_from names src from in
    let start : ℕ = (source_from from).committed in
    subst (λ (x : Starts). Since (count t) u (ReplicaImage EntriesFollow (held_of from.replica) (x.owed ++ (end_of names first cs ds).machine.history) (number_before from.read) (place_before from.read) start marks)) begun
    (law names first cs ds source (held_of from.replica) u (count t) start marks follows sounds begins stand
    (carries_images (IsHeldOf names first cs ds) t u (held_of from.replica) marks (carries fits)) (served fits))
